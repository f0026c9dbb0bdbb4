-- What is known of variables where code begins.
use Rattle.std.specs.Prelude.{◌≡◌, ℕ, true, false, List, ◌++◌, Option, Some, All, Contains, map}
use Rattle.sw_types.specs.declared.ty.Ty.{Ty}
use Rattle.sw_typing_rules.specs.declared.scope.Var.{Var}
use Rattle.sw_isolation_rules.specs.Captures.{is_among, self_of}
use Rattle.sw_isolation_rules.specs.Kinds.{is_own}
use Rattle.sw_isolation_rules.specs.declared.note.Note.{Note}
use Rattle.sw_isolation_rules.specs.declared.uses.Context.{Context}
use Rattle.sw_lower_plans.specs.Plan.{Numbers, var_in}
use Rattle.sw_lower_plans.specs.Run.{IsGoing, Making}
use Rattle.sw_lower_plans.specs.declared.bound.Bound.{Bound}
use Rattle.sw_lower_rules.specs.Tables.{Tables}
use Rattle.sw_lower_total_facts.specs.Noted.{HasHeld, Sight, mentions}

-- A variable is bound. One in a box has a type; and it is in a box where some closure captures it
-- by reference and none of these lists it.
pub record VariableIsBound (tables : Tables) (listed : List ℕ) (vars : List Bound)
    (key : ℕ) : Type 0 where
  pub bound : Bound
  pub found : var_in key vars ≡ Some bound
  pub typed : bound.boxed ≡ true → (ty : Ty) × (tables.answers.type_at key ≡ Some ty)
  pub in_box : tables.isolation.is_boxed key ≡ true → is_among listed key ≡ false
      → bound.boxed ≡ true

-- A variable that is bound is in a box where some closure captures it by reference and none of
-- these lists it; so is each of these.
abbrev pub InBox : Tables → List ℕ → Bound → Type 0
InBox tables listed bound = tables.isolation.is_boxed bound.key ≡ true
    → is_among listed bound.key ≡ false → bound.boxed ≡ true

abbrev pub InBoxes : Tables → List ℕ → List Bound → Type 0
InBoxes tables listed vars = All (InBox tables listed) vars

-- the variables that are seen in a member of the type with a number, `self` among them
abbrev pub seen_in : Tables → Option ℕ → List Var → List ℕ
seen_in tables owner vars = self_of tables.world owner ++ map (λ (one : Var). one.at) vars

-- the same, apart
abbrev pub sight_in : Tables → Option ℕ → List Var → Sight
sight_in tables owner vars = record { me = self_of tables.world owner; vars = vars }

-- What is known where code with these notes begins: the variables that are seen there and mentioned
-- in the code are bound; and so is `self` where the body is isolated to it and a closure in the
-- code takes something, since the closure may hold it. (An actor's initialiser has no `self` and no
-- closures.)
pub record Ready (tables : Tables) (number : Numbers) (context : Context) (listed seen : List ℕ)
    (notes : List Note) (making : Making) : Type 0 where
  pub going : IsGoing making
  pub numbers : making.number ≡ number
  pub vars : (key : ℕ) → Contains seen key → Contains (mentions notes) key
      → VariableIsBound tables listed making.vars key
  pub held : is_own context.iso ≡ true → HasHeld notes → (key : ℕ)
      → Contains (self_of tables.world context.owner) key
      → VariableIsBound tables listed making.vars key
