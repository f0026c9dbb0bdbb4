-- The functions of getters fit.
use Rattle.std.proofs.Common.{◌≡◌, ℕ, ◌+◌, Bool, true, false, List, [], ◌∷◌, Option, Some, None}
use Rattle.std.proofs.Common.{map, ap, refl, arith, inl, ◌&&◌}
use Rattle.std.proofs.lemmas.List.Elements.{All-cons, All-head, All-nil}
use Rattle.std.specs.Option.{option_map}
use Rattle.std.specs.Prelude.{if◌then◌else◌, slice_get}
use Rattle.sw_tree.specs.declared.decl.PropTree.{PropTree}
use Rattle.sw_types.specs.declared.shape.Part.{Part}
use Rattle.sw_types.specs.declared.shape.Shape.{Shape}
use Rattle.sw_types.specs.declared.shape.ShapeKind.{ShapeKind}
use Rattle.sw_types.specs.declared.shape.ShapeKind.TheVariants as kinds
use Rattle.sw_types.specs.declared.ty.Ty.{Ty}
use Rattle.sw_types.specs.declared.ty.Ty.TheVariants as types
use Rattle.sw_graph.specs.Kinds.{is_cell, part as part_kind, shape_of, value}
use Rattle.sw_graph.specs.declared.function.Function.{Function}
use Rattle.sw_graph.specs.declared.function.GlobalKind.{GlobalKind}
use Rattle.sw_graph.specs.declared.function.RegKind.TheVariants.{Plain}
use Rattle.sw_graph.specs.declared.instr.Instr.TheVariants as instr
use Rattle.sw_graph.specs.declared.instr.Last.TheVariants.{Return}
use Rattle.sw_graph.specs.declared.instr.Operand.{Operand}
use Rattle.sw_decls.specs.declared.signature.GlobalVar.{GlobalVar}
use Rattle.sw_typing_rules.proofs.Steps.{and_right}
use Rattle.sw_isolation_rules.specs.Answers.{for_some}
use Rattle.sw_isolation_rules.specs.Kinds.{is_isolated, kind_iso, shape_iso}
use Rattle.sw_lower_plans.specs.Plan.{Numbers}
use Rattle.sw_lower_code.specs.Code.{Code, close}
use Rattle.sw_lower_code.specs.Whole.{Body}
use Rattle.sw_lower_rules.specs.Bodies.{getter, getter_code, global_getter, global_kind}
use Rattle.sw_lower_rules.specs.Bodies.{part_getter, part_read, prop_getters, self_by}
use Rattle.sw_lower_rules.specs.Bodies.{shape_getters, stored_read}
use Rattle.sw_lower_rules.specs.Tables.{Tables}
use Rattle.sw_lower_rules.specs.Uses.{operand}
use Rattle.sw_lower_formed_facts.specs.Ground.{Ground, IsOfGraph}
use Rattle.sw_lower_formed_facts.specs.Trees.{IsHere}
use Rattle.sw_lower_formed_facts.specs.Safe.{MadeLast, Position, SafeAt, ValueAfter, here}
use Rattle.sw_lower_formed_facts.specs.Taking.{TakenOk}
use Rattle.sw_lower_formed_facts.specs.Whole.{IsSet, Whole, taken}
use Rattle.sw_lower_formed_facts.proofs.Bodies.BodyFits.{body_fits_at, is_of, whole_in}
use Rattle.sw_lower_formed_facts.proofs.Bodies.FuncTakes.{self_ok}
use Rattle.sw_lower_formed_facts.proofs.Bodies.Given.{Fits}
use Rattle.sw_lower_code.proofs.Takes.{begins_with_takes}
use Rattle.sw_typing_facts.proofs.Lists.Joined.{Gives, both_give, none_gives}
use Rattle.sw_lower_formed_facts.proofs.Positions.Then.{safe_then, safe_weaker}
use Rattle.sw_lower_formed_facts.proofs.Positions.Using.{close_in, give_in}
use Rattle.sw_lower_formed_facts.proofs.Types.Going.{global_kind_by, goes_same, part_kind_by}

-- what is isolated to an actor is stored in a class or an actor
cell_by : (kind : ShapeKind) (actor : Option ℕ) → is_isolated (kind_iso kind actor) ≡ true
    → is_cell kind ≡ true
cell_by kinds.Struct actor is = is
cell_by kinds.Enum actor is = is
cell_by kinds.Class actor is = refl
cell_by kinds.Actor actor is = refl

module _ (tables : Tables) (number : Numbers) (functions : List Function)
    (ground : Ground tables number functions) where
  abbrev Given : List Body → Type 0
  Given = Gives (IsHere tables number functions) (Fits tables number functions)

  one_given : (body : Body)
      → (IsHere tables number functions body → Fits tables number functions body)
      → Given (body ∷ [])
  one_given body fits here =
      All-cons (Fits tables number functions) body []
      (fits (All-head (IsHere tables number functions) body [] here))
      (All-nil (Fits tables number functions))

  -- what is read is given
  getter_in : (w : Whole) → IsOfGraph tables functions w → (p : Position) (ty : Ty)
      (read : Code Operand) → w.result ≡ ty → SafeAt w p read (ValueAfter w p ty)
      → SafeAt w p (getter_code read) (λ _ _. Unit {0})
  getter_in w of p ty read is safe =
      safe_then w p read (λ x. close (Return (Some x))) (ValueAfter w p ty) (λ _ _. Unit {0}) safe
      (λ x q inside got.
      safe_weaker w q (close (Return (Some x))) (λ _. MadeLast w q) (λ _ _. Unit {0})
      (close_in tables functions w of q (Return (Some x))
      (goes_same (slice_get w.regs x.reg) (value w.result) ty got.0.kind (ap value is))
      (All-cons (IsSet w q.writes (here q)) x.reg [] got.0.set
      (All-nil (IsSet w q.writes (here q)))) (λ n to is. cc))
      (λ _ s in_s closed. tt))

  -- the getter of a property of a class or an actor
  pub part_getter_fits : (key n i : ℕ) (shape : Shape) (part : Part)
      → slice_get tables.world.shapes n ≡ Some shape → is_cell shape.kind ≡ true
      → slice_get shape.parts i ≡ Some part
      → IsHere tables number functions (part_getter tables key n i shape part)
      → Fits tables number functions (part_getter tables key n i shape part)
  part_getter_fits key n i shape part at cell part_at ok =
      (body_fits_at tables number functions (Some n) body
      (All-cons (TakenOk tables (Some n)) (self_by n shape) [] (self_ok tables n shape at)
      (All-nil (TakenOk tables (Some n))))
      (ground.parts n i shape part at part_at) (Unit {0})
      (λ p knows. getter_in w of p part.ty (part_read key i part.ty) refl
      (give_in tables functions w of p key part.ty (λ r. instr.LoadProp key r (operand 0 key) i)
      (ground.parts n i shape part at part_at) (λ r. refl)
      (λ r r_is. goes_same (part_kind (shape_of tables.world.shapes is_cell (slice_get w.regs 0)) i)
      (slice_get w.regs r) part.ty
      (part_kind_by tables.world.shapes is_cell n i shape part
      (slice_get w.regs 0) self_kind at cell
      part_at) r_is)
      (λ r. All-cons (IsSet w p.writes (here p)) 0 [] (inl (taken (here p) 0 (omega arith)))
      (All-nil (IsSet w p.writes (here p)))) (λ r. refl)))
      ok.made).0 where
        body : Body
        body = part_getter tables key n i shape part

        w : Whole
        w = whole_in tables number functions (Some n) body

        of : IsOfGraph tables functions w
        of = is_of tables number functions (Some n) body

        self_kind : slice_get w.regs 0 ≡ Some (Plain (types.Named n))
        self_kind = ap (λ regs. slice_get regs 0) (begins_with_takes number body).1

  -- the getter of a global variable
  pub global_getter_fits : (key g : ℕ) (global : GlobalVar)
      → slice_get tables.world.globals g ≡ Some global
      → IsHere tables number functions
      (getter tables key [] global.ty (stored_read key g global.ty))
      → Fits tables number functions
      (getter tables key [] global.ty (stored_read key g global.ty))
  global_getter_fits key g global at ok =
      (body_fits_at tables number functions None body (All-nil (TakenOk tables None))
      (ground.global_types g global at) (Unit {0})
      (λ p knows. getter_in w of p global.ty (stored_read key g global.ty) refl
      (give_in tables functions w of p key global.ty (λ r. instr.LoadGlobal key r g)
      (ground.global_types g global at) (λ r. refl)
      (λ r r_is. goes_same (option_map (λ (kind : GlobalKind). Plain kind.ty)
      (slice_get (map global_kind tables.world.globals) g)) (slice_get w.regs r) global.ty
      (global_kind_by tables.world.globals g global at) r_is)
      (λ r. All-nil (IsSet w p.writes (here p))) (λ r. refl)))
      ok.made).0 where
        body : Body
        body = getter tables key [] global.ty (stored_read key g global.ty)

        w : Whole
        w = whole_in tables number functions None body

        of : IsOfGraph tables functions w
        of = is_of tables number functions None body

  shape_getters_fit : (n i : ℕ) (prop : PropTree) (shape : Shape)
      → slice_get tables.world.shapes n ≡ Some shape
      → Given (shape_getters tables n i prop shape)
  shape_getters_fit n i prop shape at =
      by (prop.mutable && is_isolated (shape_iso shape)) refl where
        for_part : is_cell shape.kind ≡ true → (found : Option Part)
            → slice_get shape.parts i ≡ found
            → Given (for_some found (λ part. part_getter tables prop.word.at n i shape part ∷ []))
        for_part cell None is =
            none_gives (IsHere tables number functions) (Fits tables number functions)
        for_part cell (Some part) is =
            one_given (part_getter tables prop.word.at n i shape part)
            (part_getter_fits prop.word.at n i shape part at cell is)

        by : (so : Bool) → (prop.mutable && is_isolated (shape_iso shape)) ≡ so
            → Given (if so then for_some (slice_get shape.parts i) (λ part.
            part_getter tables prop.word.at n i shape part ∷ []) else [])
        by true is =
            for_part (cell_by shape.kind shape.actor
            (and_right prop.mutable (is_isolated (shape_iso shape)) is)) (slice_get shape.parts i)
            refl
        by false is = none_gives (IsHere tables number functions) (Fits tables number functions)

  -- the getters of the properties of a type
  pub prop_getters_fit : (n i : ℕ) (props : List PropTree) → Given (prop_getters tables n i props)
  prop_getters_fit n i [] =
      none_gives (IsHere tables number functions) (Fits tables number functions)
  prop_getters_fit n i (prop ∷ props) =
      both_give (IsHere tables number functions) (Fits tables number functions)
      (for_some (slice_get tables.world.shapes n) (shape_getters tables n i prop))
      (prop_getters tables n (i + 1) props) (by (slice_get tables.world.shapes n) refl)
      (prop_getters_fit n (i + 1) props) where
        by : (found : Option Shape) → slice_get tables.world.shapes n ≡ found
            → Given (for_some found (shape_getters tables n i prop))
        by None is = none_gives (IsHere tables number functions) (Fits tables number functions)
        by (Some shape) is = shape_getters_fit n i prop shape is

  -- the getter of a global variable, where it has one
  pub global_getters_fit : (key g : ℕ) → Given
      (for_some (slice_get tables.world.globals g) (global_getter tables key g))
  global_getters_fit key g = by (slice_get tables.world.globals g) refl where
    one : (global : GlobalVar) → slice_get tables.world.globals g ≡ Some global → (mutable : Bool)
        → Given (if mutable
        then getter tables key [] global.ty (stored_read key g global.ty) ∷ [] else [])
    one global at true =
        one_given (getter tables key [] global.ty (stored_read key g global.ty))
        (global_getter_fits key g global at)
    one global at false =
        none_gives (IsHere tables number functions) (Fits tables number functions)

    of_actor : (global : GlobalVar) → slice_get tables.world.globals g ≡ Some global
        → (actor : Option ℕ) → Given (for_some actor (λ actor. if global.mutable
        then getter tables key [] global.ty (stored_read key g global.ty) ∷ [] else []))
    of_actor global at None =
        none_gives (IsHere tables number functions) (Fits tables number functions)
    of_actor global at (Some actor) = one global at global.mutable

    by : (found : Option GlobalVar) → slice_get tables.world.globals g ≡ found
        → Given (for_some found (global_getter tables key g))
    by None at = none_gives (IsHere tables number functions) (Fits tables number functions)
    by (Some global) at = of_actor global at global.actor
