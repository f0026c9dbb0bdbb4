-- What is read of a property and of a global variable: where it is stored, or by a call of its
-- getter.
use Rattle.std.proofs.Common.{◌≡◌, ℕ, Bool, true, List, [], ◌∷◌, Option, Some, None, ap, sym, ◌∙◌}
use Rattle.std.proofs.Common.{subst, refl, map}
use Rattle.std.proofs.lemmas.List.Elements.{All-cons, All-nil}
use Rattle.std.specs.Option.{option_map}
use Rattle.std.specs.Prelude.{All, slice_get}
use Rattle.std.proofs.lemmas.Option.{same_Some}
use Rattle.sw_types.specs.declared.isolation.CallKind.{CallKind}
use Rattle.sw_types.specs.declared.shape.Part.{Part}
use Rattle.sw_types.specs.declared.shape.Shape.{Shape}
use Rattle.sw_types.specs.declared.shape.ShapeKind.{ShapeKind}
use Rattle.sw_types.specs.declared.shape.ShapeKind.TheVariants as shapes
use Rattle.sw_types.specs.declared.ty.Ty.{Ty}
use Rattle.sw_types.specs.declared.ty.Ty.TheVariants as types
use Rattle.sw_graph.specs.Kinds.{Each, EachOf, Goes, is_cell, is_struct, kinds_of}
use Rattle.sw_graph.specs.Kinds.{part as part_kind, result_of, shape_of, taken}
use Rattle.sw_graph.specs.declared.function.Function.{Function}
use Rattle.sw_graph.specs.declared.function.GlobalKind.{GlobalKind}
use Rattle.sw_graph.specs.declared.function.RegKind.{RegKind}
use Rattle.sw_graph.specs.declared.function.RegKind.TheVariants.{Plain}
use Rattle.sw_graph.specs.declared.instr.Instr.TheVariants as instr
use Rattle.sw_graph.specs.declared.instr.Operand.{Operand}
use Rattle.sw_decls.specs.declared.signature.GlobalVar.{GlobalVar}
use Rattle.sw_lower_plans.specs.Plan.{Numbers}
use Rattle.sw_lower_code.specs.Code.{known, ◌>>=◌}
use Rattle.sw_lower_rules.specs.Bodies.{global_kind}
use Rattle.sw_lower_rules.specs.Tables.{Tables, getter_of}
use Rattle.sw_lower_rules.specs.Uses.{call_getter, give, global_by, no_global, no_operand, no_part}
use Rattle.sw_lower_rules.specs.Uses.{no_shape, part_at, part_by, part_in, read_global, read_own}
use Rattle.sw_lower_rules.specs.Uses.{read_part, read_self, shape_at, unknown}
use Rattle.sw_lower_formed_facts.specs.Forms.{Wherever}
use Rattle.sw_lower_formed_facts.specs.Ground.{Ground, IsDeclaredIn, IsHeader, IsOfGraph, Knows}
use Rattle.sw_lower_formed_facts.specs.Safe.{IsValue, Position, SafeAt, ValueAfter, here}
use Rattle.sw_lower_formed_facts.specs.Whole.{IsSet, Whole}
use Rattle.sw_lower_formed_facts.proofs.Expressions.Variables.{read_self_in}
use Rattle.sw_lower_formed_facts.proofs.Positions.Asking.{known_then, number_then, value_then}
use Rattle.sw_lower_formed_facts.proofs.Positions.Following.{knows_still}
use Rattle.sw_lower_formed_facts.proofs.Positions.Steps.{safe_known}
use Rattle.sw_lower_formed_facts.proofs.Positions.Using.{Fits, give_in}
use Rattle.sw_lower_formed_facts.proofs.Types.Going.{global_kind_by, goes_same, part_kind_by}

-- the registers of operands have values
abbrev pub AreSet : Whole → Position → List Operand → Type 0
AreSet w p operands = All (IsSet w p.writes (here p)) (map (λ (x : Operand). x.reg) operands)

-- No run asks for what isn't known.
pub unknown_in : (w : Whole) (p : Position) (Post : Operand → Position → Type 0)
    → SafeAt w p unknown Post
unfolding unknown
unknown_in w p Post = safe_known w p no_operand None Post (λ x is. absurd (no x is)) where
  no : (x : Operand) → None ≡ Some x → ⊥
  no x is = cc

-- the call of a function whose header is known
pub call_fits : (tables : Tables) (functions : List Function) (w : Whole)
    (of : IsOfGraph tables functions w) (f : ℕ) (takes : List RegKind) (ty : Ty)
    → IsHeader functions takes ty f → (operands : List Operand)
    → Each Goes (kinds_of w.regs operands) takes → (at r : ℕ) (kind : CallKind)
    → slice_get w.regs r ≡ Some (Plain ty)
    → Fits tables functions w of (instr.Call at r kind f operands)
call_fits tables functions w of f takes ty header operands each at r kind r_is = (
  subst (EachOf Goes (kinds_of w.regs operands))
      (sym (ap (option_map taken) header.at ∙ ap Some header.takes_these)) each,
  goes_same (result_of (slice_get functions f)) (slice_get w.regs r) ty
      (ap result_of header.at ∙ ap (λ result. Some (Plain result)) header.gives) r_is,
)

module _ (tables : Tables) (number : Numbers) (functions : List Function)
    (ground : Ground tables number functions) (owner : Option ℕ) where
  -- the call of a getter
  pub call_getter_in : (w : Whole) → IsOfGraph tables functions w → (p : Position)
      → Knows tables owner number w p → (at : ℕ) (kind : CallKind) (ty : Ty) (key : ℕ)
      (operands : List Operand) (takes : List RegKind)
      → ((f : ℕ) → number (getter_of key) ≡ Some f → IsHeader functions takes ty f)
      → IsDeclaredIn tables ty → Each Goes (kinds_of w.regs operands) takes
      → AreSet w p operands
      → SafeAt w p (call_getter tables at kind ty key operands) (ValueAfter w p ty)
  unfolding call_getter
  call_getter_in w of p knows at kind ty key operands takes header within each set =
      number_then w p (getter_of key) (λ f. give at ty (λ r. instr.Call at r kind f operands))
      (ValueAfter w p ty)
      (λ f f_is. give_in tables functions w of p at ty (λ r. instr.Call at r kind f operands) within
      (λ r. refl)
      (λ r r_is. call_fits tables functions w of f takes ty
      (header f (ap (λ names. names (getter_of key)) (sym knows.numbers) ∙ f_is)) operands each at r
      kind r_is)
      (λ r. set) (λ r. refl))

  -- a property of a value of a declared type
  part_read_in : (w : Whole) → IsOfGraph tables functions w → (p : Position)
      → Knows tables owner number w p → (at k i : ℕ) (shape : Shape) (part : Part) (base : Operand)
      → slice_get tables.world.shapes k ≡ Some shape → slice_get shape.parts i ≡ Some part
      → IsValue w p (types.Named k) base
      → SafeAt w p (part_in tables shape.kind at k i part.ty base) (ValueAfter w p part.ty)
  part_read_in w of p knows at k i shape part base shape_is part_is value = by shape.kind refl where
    within : IsDeclaredIn tables part.ty
    within = ground.parts k i shape part shape_is part_is

    set : AreSet w p (base ∷ [])
    set = All-cons (IsSet w p.writes (here p)) base.reg [] value.set
        (All-nil (IsSet w p.writes (here p)))

    goes : (is_kind : ShapeKind → Bool) → is_kind shape.kind ≡ true → (r : ℕ)
        → slice_get w.regs r ≡ Some (Plain part.ty)
        → Goes (part_kind (shape_of tables.world.shapes is_kind (slice_get w.regs base.reg)) i)
        (slice_get w.regs r)
    goes is_kind is r r_is =
        goes_same (part_kind (shape_of tables.world.shapes is_kind (slice_get w.regs base.reg)) i)
        (slice_get w.regs r) part.ty
        (part_kind_by tables.world.shapes is_kind k i shape part (slice_get w.regs base.reg)
        value.kind shape_is is part_is) r_is

    stored : is_cell shape.kind ≡ true → (kind : Option CallKind)
        → SafeAt w p (part_by tables kind at k i part.ty base) (ValueAfter w p part.ty)
    stored is None =
        give_in tables functions w of p at part.ty (λ r. instr.LoadProp at r base i) within
        (λ r. refl) (goes is_cell is) (λ r. set) (λ r. refl)
    stored is (Some kind) =
        known_then w p 0 (tables.part_key k i)
        (λ key. call_getter tables at kind part.ty key (base ∷ [])) (ValueAfter w p part.ty)
        (λ key key_is. call_getter_in w of p knows at kind part.ty key (base ∷ [])
        (Plain (types.Named k) ∷ [])
        (λ f f_is. ground.part_getters k i key f shape part key_is f_is shape_is part_is) within (
          goes_same (slice_get w.regs base.reg) (Some (Plain (types.Named k))) (types.Named k)
              value.kind refl,
          tt,
        ) set)

    by : (kind : ShapeKind) → shape.kind ≡ kind
        → SafeAt w p (part_in tables kind at k i part.ty base) (ValueAfter w p part.ty)
    by shapes.Struct is =
        give_in tables functions w of p at part.ty (λ r. instr.Field at r base i) within
        (λ r. refl) (goes is_struct (ap is_struct is)) (λ r. set) (λ r. refl)
    by shapes.Enum is = unknown_in w p (ValueAfter w p part.ty)
    by shapes.Class is = stored (ap is_cell is) (tables.isolation.kind_at at)
    by shapes.Actor is = stored (ap is_cell is) (tables.isolation.kind_at at)

  -- the property with a number
  pub read_part_in : (w : Whole) → IsOfGraph tables functions w → (p : Position)
      → Knows tables owner number w p → (at k i : ℕ) (shape : Shape) (part : Part) (base : Operand)
      → slice_get tables.world.shapes k ≡ Some shape → slice_get shape.parts i ≡ Some part
      → IsValue w p (types.Named k) base
      → SafeAt w p (read_part tables at k i base) (ValueAfter w p part.ty)
  unfolding read_part shape_at part_at
  read_part_in w of p knows at k i shape part base shape_is part_is value =
      known_then w p no_shape (slice_get tables.world.shapes k)
      (λ s. part_at tables i s >>= λ one. part_in tables s.kind at k i one.ty base)
      (ValueAfter w p part.ty)
      (λ s s_is. known_then w p no_part (slice_get s.parts i)
      (λ one. part_in tables s.kind at k i one.ty base) (ValueAfter w p part.ty)
      (λ one one_is. subst (λ ty. SafeAt w p (part_in tables s.kind at k i one.ty base)
      (ValueAfter w p ty))
      (ap (λ (found : Part). found.ty) (same_Some one part (sym one_is
      ∙ ap (λ (found : Shape). slice_get found.parts i) (same_Some s shape (sym s_is ∙ shape_is))
      ∙ part_is)))
      (part_read_in w of p knows at k i s one base s_is one_is value)))

  -- a property of `self`, which is left out
  pub read_own_in : (at k i : ℕ) (shape : Shape) (part : Part) → owner ≡ Some k
      → slice_get tables.world.shapes k ≡ Some shape → slice_get shape.parts i ≡ Some part
      → Wherever tables number functions owner
      (λ w p. SafeAt w p (read_own tables owner at i) (ValueAfter w p part.ty))
  unfolding read_own
  read_own_in at k i shape part owner_is shape_is part_is w of p knows =
      value_then w p (read_self tables owner at)
      (λ me. known 0 owner >>= λ found. read_part tables at found i me) (types.Named k) part.ty
      (read_self_in tables number functions ground owner at k owner_is w of p knows)
      (λ me q inside value keeps. known_then w q 0 owner (λ found. read_part tables at found i me)
      (ValueAfter w q part.ty)
      (λ found found_is.
      subst (λ n. SafeAt w q (read_part tables at n i me) (ValueAfter w q part.ty))
      (same_Some k found (sym owner_is ∙ found_is))
      (read_part_in w of q (knows_still tables owner number w p q keeps knows) at k i shape part me
      shape_is part_is value)))

  -- a global variable
  pub read_global_in : (at g : ℕ) (global : GlobalVar)
      → slice_get tables.world.globals g ≡ Some global → Wherever tables number functions owner
      (λ w p. SafeAt w p (read_global tables at g) (ValueAfter w p global.ty))
  unfolding read_global
  read_global_in at g global at_is w of p knows =
      known_then w p no_global (slice_get tables.world.globals g)
      (global_by tables (tables.isolation.kind_at at) at g) (ValueAfter w p global.ty)
      (λ one one_is. subst (λ found. SafeAt w p
      (global_by tables (tables.isolation.kind_at at) at g found) (ValueAfter w p global.ty))
      (same_Some global one (sym at_is ∙ one_is)) (by (tables.isolation.kind_at at))) where
        by : (kind : Option CallKind)
            → SafeAt w p (global_by tables kind at g global) (ValueAfter w p global.ty)
        by None =
            give_in tables functions w of p at global.ty (λ r. instr.LoadGlobal at r g)
            (ground.global_types g global at_is) (λ r. refl)
            (λ r r_is. goes_same (option_map (λ (kind : GlobalKind). Plain kind.ty)
            (slice_get (map global_kind tables.world.globals) g)) (slice_get w.regs r) global.ty
            (global_kind_by tables.world.globals g global at_is) r_is)
            (λ r. All-nil (IsSet w p.writes (here p))) (λ r. refl)
        by (Some kind) =
            call_getter_in w of p knows at kind global.ty global.key.at [] []
            (λ f f_is. ground.global_getters g f global at_is f_is)
            (ground.global_types g global at_is) tt (All-nil (IsSet w p.writes (here p)))
