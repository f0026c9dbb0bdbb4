-- Literals and `Task.yield()`.
use Rattle.std.proofs.Common.{◌≡◌, ℕ, List, [], Option, Some, refl, sym, subst}
use Rattle.std.specs.Prelude.{All, Bool, false, ℤ, slice_get}
use Rattle.std.proofs.lemmas.List.Elements.{All-nil}
use Rattle.sw_types.specs.declared.ty.Ty.{Ty}
use Rattle.sw_types.specs.declared.ty.Ty.TheVariants as types
use Rattle.sw_graph.specs.Kinds.{value as kind_of}
use Rattle.sw_graph.specs.Mentions.{reads, set_by}
use Rattle.sw_graph.specs.Payloads.{is_payload}
use Rattle.sw_graph.specs.declared.function.Function.{Function}
use Rattle.sw_graph.specs.declared.function.RegKind.TheVariants.{Plain}
use Rattle.sw_graph.specs.declared.instr.Instr.{Instr}
use Rattle.sw_graph.specs.declared.instr.Instr.TheVariants as instr
use Rattle.sw_graph.specs.declared.instr.Literal.TheVariants as literals
use Rattle.sw_typing_rules.specs.Expressions.{Judged, bool_judged, int_judged, yield_judged}
use Rattle.sw_lower_plans.specs.Plan.{Numbers}
use Rattle.sw_lower_rules.specs.Expressions.{value}
use Rattle.sw_lower_rules.specs.Tables.{Tables}
use Rattle.sw_lower_rules.specs.Uses.{give}
use Rattle.sw_lower_formed_facts.specs.Forms.{BodiesFit, BodyFits, ExprOk}
use Rattle.sw_typing_facts.specs.Rows.{RowsHold}
use Rattle.sw_lower_formed_facts.specs.Ground.{Ground, IsOfGraph}
use Rattle.sw_lower_formed_facts.specs.Safe.{ValueAfter, here}
use Rattle.sw_lower_formed_facts.specs.Whole.{IsSet, Whole}
use Rattle.sw_lower_formed_facts.proofs.Expressions.Values.{value_ok}
use Rattle.sw_lower_formed_facts.proofs.Positions.Then.{safe_weaker}
use Rattle.sw_lower_formed_facts.proofs.Positions.Using.{Fits, give_in}
use Rattle.sw_lower_formed_facts.proofs.Types.Going.{goes_same}

module _ (tables : Tables) (number : Numbers) (functions : List Function)
    (ground : Ground tables number functions) where
  -- An instruction that reads nothing gives the value of a node.
  from_nothing : (owner : Option ℕ) (at : ℕ) (ty : Ty) (judged : Judged) (instr : ℕ → Instr)
      → judged.ty ≡ Some ty → tables.answers.type_at at ≡ Some ty
      → ((r : ℕ) → is_payload (instr r) ≡ false) → ((r : ℕ) → reads (instr r) ≡ [])
      → ((r : ℕ) → set_by (instr r) ≡ Some r)
      → ((w : Whole) (of : IsOfGraph tables functions w) (r : ℕ)
      → slice_get w.regs r ≡ Some (Plain ty) → Fits tables functions w of (instr r))
      → ExprOk tables number functions owner (value at (give at ty instr) []) judged
  from_nothing owner at ty judged instr has typed plain nothing sets fits =
      value_ok tables number functions owner at (give at ty instr) [] judged ty has typed
      (λ w of p knows.
      safe_weaker w p (give at ty instr) (ValueAfter w p ty)
      (λ x q. ValueAfter w p ty x q × BodiesFit tables number functions [])
      (give_in tables functions w of p at ty instr (ground.typed at ty typed) plain (fits w of)
      (λ r. subst (All (IsSet w p.writes (here p))) (sym (nothing r))
      (All-nil (IsSet w p.writes (here p)))) sets)
      (λ x q in_q after. (after, All-nil (BodyFits tables number functions))))

  -- an integer
  pub int_ok : (owner : Option ℕ) (at : ℕ) (literal : ℤ)
      → RowsHold tables.answers (int_judged at).rows
      → ExprOk tables number functions owner
      (value at (give at types.Int (λ r. instr.Const at r (literals.Int literal))) [])
      (int_judged at)
  int_ok owner at literal hold =
      from_nothing owner at types.Int (int_judged at)
      (λ r. instr.Const at r (literals.Int literal)) refl hold.0 (λ r. refl) (λ r. refl)
      (λ r. refl)
      (λ w of r kind. goes_same (kind_of types.Int) (slice_get w.regs r) types.Int refl kind)

  -- a truth value
  pub bool_ok : (owner : Option ℕ) (at : ℕ) (literal : Bool)
      → RowsHold tables.answers (bool_judged at literal).rows
      → ExprOk tables number functions owner
      (value at (give at types.Bool (λ r. instr.Const at r (literals.Bool literal))) [])
      (bool_judged at literal)
  bool_ok owner at literal hold =
      from_nothing owner at types.Bool (bool_judged at literal)
      (λ r. instr.Const at r (literals.Bool literal)) refl hold.0 (λ r. refl) (λ r. refl)
      (λ r. refl)
      (λ w of r kind. goes_same (kind_of types.Bool) (slice_get w.regs r) types.Bool refl kind)

  -- `Task.yield()`
  pub yield_ok : (owner : Option ℕ) (at : ℕ)
      → RowsHold tables.answers (yield_judged at).rows
      → ExprOk tables number functions owner
      (value at (give at types.Unit (λ r. instr.Yield at r)) []) (yield_judged at)
  yield_ok owner at hold =
      from_nothing owner at types.Unit (yield_judged at) (λ r. instr.Yield at r) refl hold.0
      (λ r. refl) (λ r. refl) (λ r. refl)
      (λ w of r kind. goes_same (kind_of types.Unit) (slice_get w.regs r) types.Unit refl kind)
