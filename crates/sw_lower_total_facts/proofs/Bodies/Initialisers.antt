-- The code of an initialiser proceeds, where the values that are given do and each property gets
-- one.
use Rattle.std.proofs.Common.{◌≡◌, ℕ, ◌==◌, Bool, true, false, List, [], ◌∷◌, map, Some}
use Rattle.std.proofs.Common.{Contains, refl, ap, sym, ◌∙◌, subst, arith, zero, suc}
use Rattle.std.proofs.lemmas.Grind.{common_steps}
use Rattle.std.specs.Prelude.{Ok, Err, Result, if◌then◌else◌}
use Rattle.sw_types.specs.declared.shape.Part.{Part}
use Rattle.sw_types.specs.declared.shape.Shape.{Shape}
use Rattle.sw_types.specs.declared.ty.Ty.TheVariants as types
use Rattle.sw_graph.specs.declared.instr.Last.TheVariants as last
use Rattle.sw_graph.specs.declared.instr.Operand.{Operand}
use Rattle.sw_lower_plans.specs.Run.{IsGoing, Making}
use Rattle.sw_lower_plans.specs.declared.fault.CodeFault.{CodeFault}
use Rattle.sw_lower_code.specs.Code.{Code, close, done, each, known, ◌>>=◌}
use Rattle.sw_lower_rules.specs.Bodies.{GivenValue, give_value, init_code, made_instr, value_of}
use Rattle.sw_lower_rules.specs.Carriers.{Given}
use Rattle.sw_lower_rules.specs.Uses.{give, no_operand}
use Rattle.sw_typing_facts.proofs.Lists.Listed.{in_first, in_rest}
use Rattle.sw_lower_total_facts.specs.Proceeding.{Proceeds}
use Rattle.sw_lower_total_facts.proofs.Frames.Joining.{ran_both}
use Rattle.sw_lower_total_facts.proofs.Proceeding.Give.{proceeds_give}
use Rattle.sw_lower_total_facts.proofs.Proceeding.Steps.{proceeds_close, proceeds_done, proceeds_known}
use Rattle.sw_lower_total_facts.proofs.Proceeding.Then.{Ran, proceeds_then}

-- Code proceeds wherever a property of the state that all code keeps holds.
pub record Kept : Type 1 where
  pub Holds : Making → Type 0
  pub going : (s : Making) → Holds s → IsGoing s
  pub keeps : {A : Type 0} (code : Code A) (s t : Making) (value : A) → Holds s
      → Ran code s value t → Holds t

module _ (kept : Kept) where
  -- the values of properties, in order
  gives_proceed : (givens : List Given)
      → ((given : Given) → Contains givens given → (s : Making) → kept.Holds s
      → Proceeds s given.read)
      → (s : Making) → kept.Holds s → Proceeds s (each give_value givens)
  unfolding each
  gives_proceed [] reads s holds = proceeds_done [] s
  gives_proceed (given ∷ givens) reads s holds =
      proceeds_then (give_value given) (λ y. each give_value givens >>= λ ys. done (y ∷ ys)) s
      (kept.going s holds)
      (proceeds_then given.read
      (λ value. done (record { name = given.name; value = value })) s (kept.going s holds)
      (reads given (in_first given givens) s holds)
      (λ value t ran made. proceeds_done (record { name = given.name; value = value }) t))
      (λ y t ran made.
      let after = kept.keeps (give_value given) s t y holds made in
      proceeds_then (each give_value givens) (λ ys. done (y ∷ ys)) t (kept.going t after)
      (gives_proceed givens (λ one has. reads one (in_rest given givens one has)) t after)
      (λ ys u ended more. proceeds_done (y ∷ ys) u))

value_or : {A : Type 0} → A → Result (A × Making) CodeFault → A
value_or other (Ok at) = at.0
value_or other (Err fault) = other

done_gives : {A : Type 0} (value other : A) (s t : Making) → (done value).run s ≡ Ok (other, t)
    → value ≡ other
unfolding done value_or
done_gives value other s t ran = ap (value_or value) ran

-- Each value has the name of its property.
gives_names : (givens : List Given) (s t : Making) (values : List GivenValue)
    → (each give_value givens).run s ≡ Ok (values, t)
    → map (λ (one : GivenValue). one.name) values ≡ map (λ (given : Given). given.name) givens
unfolding each
gives_names [] s t values ran =
    ap (map (λ (one : GivenValue). one.name)) (sym (done_gives [] values s t ran))
gives_names (given ∷ givens) s t values ran =
    let first = ran_both (give_value given)
    (λ y. each give_value givens >>= λ ys. done (y ∷ ys)) s t values ran in
    let second = ran_both (each give_value givens) (λ ys. done (first.0 ∷ ys)) first.1 t values
    first.3 in
    let value = ran_both given.read
    (λ value. done (record { name = given.name; value = value })) s first.1 first.0 first.2 in
    let named = done_gives (record { name = given.name; value = value.0 }) first.0 value.1 first.1
    value.3 in
    ap (map (λ (one : GivenValue). one.name))
    (sym (done_gives (first.0 ∷ second.0) values second.1 t second.3))
    ∙ ap (λ name. name ∷ map (λ (one : GivenValue). one.name) second.0)
    (sym (ap (λ (one : GivenValue). one.name) named))
    ∙ ap (λ names. given.name ∷ names) (gives_names givens first.1 second.1 second.0 second.2)

-- A name among those of values has a value.
value_there : (values : List GivenValue) (name : ℕ)
    → Contains (map (λ (one : GivenValue). one.name) values) name
    → (value : Operand) × (value_of values name ≡ Some value)
value_there [] name (k, lt, is) = absurd (omega (arith, lt))
value_there (one ∷ values) name has =
    by (one.name == name) refl (λ other. value_there values name (later other has)) where
      later : (one.name == name) ≡ false
          → Contains (map (λ (one : GivenValue). one.name) (one ∷ values)) name
          → Contains (map (λ (one : GivenValue). one.name) values) name
      later other (zero, lt, is) = grind (arith, common_steps, other, is)
      later other (suc k, lt, is) = (k, omega (arith, lt), is)

      by : (same : Bool) → (one.name == name) ≡ same
          → ((one.name == name) ≡ false
          → (value : Operand) × (value_of values name ≡ Some value))
          → (value : Operand)
          × ((if one.name == name then Some one.value else value_of values name) ≡ Some value)
      by true same more =
          (one.value, ap (λ b. if b then Some one.value else value_of values name) same)
      by false same more =
          let found = more same in
          (found.0, ap (λ b. if b then Some one.value else value_of values name) same ∙ found.1)

module _ (kept : Kept) where
  parts_proceed : (values : List GivenValue) (parts : List Part)
      → ((part : Part) → Contains parts part
      → Contains (map (λ (one : GivenValue). one.name) values) part.name)
      → (s : Making) → kept.Holds s
      → Proceeds s
      (each (λ (part : Part). known no_operand (value_of values part.name)) parts)
  unfolding each
  parts_proceed values [] have s holds = proceeds_done [] s
  parts_proceed values (part ∷ parts) have s holds =
      let read = λ (one : Part). known no_operand (value_of values one.name) in
      let found = value_there values part.name (have part (in_first part parts)) in
      proceeds_then (read part) (λ y. each read parts >>= λ ys. done (y ∷ ys)) s
      (kept.going s holds)
      (proceeds_known no_operand (value_of values part.name) found.0 s found.1)
      (λ y t ran made.
      let after = kept.keeps (read part) s t y holds made in
      proceeds_then (each read parts) (λ ys. done (y ∷ ys)) t (kept.going t after)
      (parts_proceed values parts (λ one has. have one (in_rest part parts one has)) t after)
      (λ ys u ended more. proceeds_done (y ∷ ys) u))

  -- An initialiser
  pub init_proceeds : (key number : ℕ) (shape : Shape) (givens : List Given)
      → ((given : Given) → Contains givens given → (s : Making) → kept.Holds s
      → Proceeds s given.read)
      → ((part : Part) → Contains shape.parts part
      → Contains (map (λ (given : Given). given.name) givens) part.name)
      → (s : Making) → kept.Holds s → Proceeds s (init_code key number shape givens)
  unfolding init_code
  init_proceeds key number shape givens reads have s holds =
      proceeds_then (each give_value givens) parts s (kept.going s holds)
      (gives_proceed kept givens reads s holds)
      (λ values t ran made.
      let after = kept.keeps (each give_value givens) s t values holds made in
      proceeds_then
      (each (λ (part : Part). known no_operand (value_of values part.name)) shape.parts) makes t
      (kept.going t after)
      (parts_proceed values shape.parts
      (λ part has. subst (λ names. Contains names part.name) (sym (gives_names givens s t values
      ran)) (have part has)) t after)
      (λ operands u ended more.
      proceeds_then
      (give key (types.Named number) (λ r. made_instr shape.kind key r number operands))
      (λ made. close (last.Return (Some made))) u more.1.there
      (proceeds_give key (types.Named number)
      (λ r. made_instr shape.kind key r number operands) u more.1.there)
      (λ x v given closed. proceeds_close (last.Return (Some x)) v))) where
        makes : List Operand → Code (Unit {0})
        makes operands =
            give key (types.Named number) (λ r. made_instr shape.kind key r number operands)
            >>= λ made. close (last.Return (Some made))

        parts : List GivenValue → Code (Unit {0})
        parts values =
            each (λ (part : Part). known no_operand (value_of values part.name)) shape.parts
            >>= makes
