-- Variables that are bound: each has its box where it is to be in one.
use Rattle.std.proofs.Common.{◌≡◌, ℕ, Bool, true, false, List, [], ◌∷◌, ◌++◌, Some, refl, ap}
use Rattle.std.proofs.Common.{sym, ◌∙◌, subst, ◌==◌, if◌then◌else◌, arith}
use Rattle.std.proofs.lemmas.Bool.{eqb-true}
use Rattle.std.proofs.lemmas.List.Elements.{All-contains}
use Rattle.std.proofs.lemmas.Option.{none-some, same_Some}
use Rattle.std.specs.Prelude.{Contains}
use Rattle.sw_types.specs.declared.ty.Ty.{Ty}
use Rattle.sw_isolation_rules.specs.Captures.{is_among}
use Rattle.sw_lower_plans.specs.Plan.{var_in}
use Rattle.sw_lower_plans.specs.declared.bound.Bound.{Bound}
use Rattle.sw_lower_rules.specs.Tables.{Tables}
use Rattle.sw_typing_facts.proofs.Lists.Listed.{in_first, in_rest}
use Rattle.sw_lower_total_facts.specs.Bound.{InBox, InBoxes, VariableIsBound}

-- A variable that was added is found by its key, if no other is.
pub var_added : (key : ℕ) (vars more : List Bound) (one : Bound) → one.key ≡ key
    → (found : Bound) × (var_in key (vars ++ one ∷ more) ≡ Some found)
var_added key [] more one is = by (one.key == key) (grind (arith, is)) where
  by : (same : Bool) → same ≡ true
      → (found : Bound) × ((if same then Some one else var_in key more) ≡ Some found)
  by true same = (one, refl)
  by false same = cc
var_added key (other ∷ vars) more one is =
    by (other.key == key) (var_added key vars more one is) where
      by : (same : Bool)
          → ((found : Bound) × (var_in key (vars ++ one ∷ more) ≡ Some found))
          → (found : Bound)
          × ((if same then Some other else var_in key (vars ++ one ∷ more)) ≡ Some found)
      by true later = (other, refl)
      by false later = later

-- what is found by a key is among the variables, and has the key
pub found_by : (key : ℕ) (vars : List Bound) (found : Bound) → var_in key vars ≡ Some found
    → Contains vars found × (found.key ≡ key)
found_by key [] found is = absurd (none-some found is)
found_by key (one ∷ vars) found is = by (one.key == key) refl is (found_by key vars found) where
  by : (same : Bool) → (one.key == key) ≡ same
      → (if same then Some one else var_in key vars) ≡ Some found
      → (var_in key vars ≡ Some found → Contains vars found × (found.key ≡ key))
      → Contains (one ∷ vars) found × (found.key ≡ key)
  by true same is later =
      let this = same_Some one found is in (
        subst (Contains (one ∷ vars)) this (in_first one vars),
        ap (λ (bound : Bound). bound.key) (sym this) ∙ eqb-true one.key key same,
      )
  by false same is later =
      let (has, keyed) = later is in (in_rest one vars found has, keyed)

-- A variable with a type that is found is bound, where all have their boxes.
pub bound_of : (tables : Tables) (listed : List ℕ) (vars : List Bound) (key : ℕ) (ty : Ty)
    (found : Bound) → InBoxes tables listed vars → var_in key vars ≡ Some found
    → tables.answers.type_at key ≡ Some ty → VariableIsBound tables listed vars key
bound_of tables listed vars key ty found boxes is typed =
    let (has, keyed) = found_by key vars found is in record {
      bound = found;
      found = is;
      typed = λ boxed. (ty, typed);
      in_box = λ is_boxed unlisted.
          All-contains (InBox tables listed) vars found boxes has
          (ap tables.isolation.is_boxed keyed ∙ is_boxed)
          (ap (is_among listed) keyed ∙ unlisted);
    }
