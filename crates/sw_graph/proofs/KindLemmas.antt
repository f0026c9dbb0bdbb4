-- Types that name no shape, and where values go.
use Rattle.std.proofs.Common.{◌≡◌, ℕ, IsTrue, Option, List, Some, refl, ap, sym, ◌∙◌, subst}
use Rattle.std.specs.Prelude.{slice_get}
use Rattle.sw_types.specs.declared.ty.Ty.{Ty, fold-roll-Ty}
use Rattle.sw_types.specs.declared.ty.Ty.TheOpen as layer
use Rattle.sw_types.specs.declared.ty.Ty.TheVariants.{Int, Bool as BoolType, Unit as Void, Task}
use Rattle.sw_types.specs.declared.ty.Ty.TheVariants.{rolls-Int, rolls-Bool, rolls-Unit, rolls-Task}
use Rattle.sw_types.specs.declared.ty.Ty.TheVariants.{outs-Int, outs-Bool}
use Rattle.sw_types.specs.Accepts.{IsAcceptedAs}
use Rattle.sw_types.specs.Named.{is_within, layer_is_within}
use Rattle.sw_graph.specs.declared.function.RegKind.{RegKind}
use Rattle.sw_graph.specs.declared.function.RegKind.TheVariants.{Plain}
use Rattle.sw_graph.specs.Kinds.{Goes, value, is_printable, form_is_printable}

-- a value goes into a register of its type
pub goes_to : (regs : List RegKind) (r : ℕ) (ty : Ty) → slice_get regs r ≡ Some (Plain ty)
    → Goes (value ty) (slice_get regs r)
goes_to regs r ty is = subst (Goes (value ty)) (sym is) (refl, (λ marked. marked))

-- What goes somewhere is a value of a type that is accepted there.
pub record IsAccepted (from to : Option RegKind) : Type 0 where
  pub given : Ty
  pub expected : Ty
  pub from_is : from ≡ value given
  pub to_is : to ≡ value expected
  pub accepts : IsAcceptedAs given expected

pub goes-accepted : (from to : Option RegKind) → Goes from to → IsAccepted from to
goes-accepted (Some (Plain given)) (Some (Plain expected)) goes = record {
  given = given;
  expected = expected;
  from_is = refl;
  to_is = refl;
  accepts = goes;
}
goes-accepted _ _ goes = absurd goes

pub int_within : (shapes : ℕ) → IsTrue (is_within shapes Int)
int_within shapes = ap (is_within shapes) (sym rolls-Int)
    ∙ fold-roll-Ty _ (layer_is_within shapes) layer.Int

pub bool_within : (shapes : ℕ) → IsTrue (is_within shapes BoolType)
bool_within shapes = ap (is_within shapes) (sym rolls-Bool)
    ∙ fold-roll-Ty _ (layer_is_within shapes) layer.Bool

pub void_within : (shapes : ℕ) → IsTrue (is_within shapes Void)
void_within shapes = ap (is_within shapes) (sym rolls-Unit)
    ∙ fold-roll-Ty _ (layer_is_within shapes) layer.Unit

pub task_within : (shapes : ℕ) (result : Ty) → IsTrue (is_within shapes result)
    → IsTrue (is_within shapes (Task result))
task_within shapes result within = ap (is_within shapes) (sym (rolls-Task result))
    ∙ fold-roll-Ty _ (layer_is_within shapes) (layer.Task result) ∙ within

pub int_printable : (regs : List RegKind) (r : ℕ) → slice_get regs r ≡ Some (Plain Int)
    → IsTrue (is_printable (slice_get regs r))
int_printable regs r is = ap is_printable is
    ∙ ap (λ form. form_is_printable (Some form)) outs-Int

pub bool_printable : (regs : List RegKind) (r : ℕ) → slice_get regs r ≡ Some (Plain BoolType)
    → IsTrue (is_printable (slice_get regs r))
bool_printable regs r is = ap is_printable is
    ∙ ap (λ form. form_is_printable (Some form)) outs-Bool
