-- Numbers of functions are places among their names.
use Rattle.std.proofs.Common.{◌≡◌, ℕ, suc, ◌+◌, ◌-◌, ◌<◌, ◌≤◌, Some, List, []}
use Rattle.std.proofs.Common.{◌∷◌, Bool, true, false, IsTrue, length, refl, arith, subst}
use Rattle.std.specs.List.{slice_get}
use Rattle.std.specs.Prelude.{if◌then◌else◌}
use Rattle.sw_lower_rules.specs.Tables.{is_named, number_from, number_in}
use Rattle.sw_lower_plans.specs.declared.name.FunctionName.{FunctionName}

-- a number counts the names before the one with the name
record Found (from : ℕ) (names : List FunctionName) (name : FunctionName) (number : ℕ)
    : Type 0 where
  above : from ≤ number
  below : number < from + length names
  named : (one : FunctionName) → slice_get names (number - from) ≡ Some one
      → IsTrue (is_named one name)

found_later : (from number : ℕ) (first : FunctionName) (names : List FunctionName)
    (name : FunctionName) → Found (from + 1) names name number
    → Found from (first ∷ names) name number
found_later from number first names name later = record {
  above = omega (arith, later.above);
  below = omega (arith, later.below);
  named = λ one is. later.named one (subst (λ k. slice_get (first ∷ names) k ≡ Some one)
      (let next : number - from ≡ suc (number - (from + 1)) = omega (arith, later.above) in next)
      is);
}

found : (from : ℕ) (names : List FunctionName) (name : FunctionName) (number : ℕ)
    → number_from from names name ≡ Some number → Found from names name number
found from [] name number is = cc
found from (one ∷ names) name number is =
    by (is_named one name) refl is (λ later. found (from + 1) names name number later) where
      by : (here : Bool) → is_named one name ≡ here
          → (if here then Some from else number_from (from + 1) names name) ≡ Some number
          → (number_from (from + 1) names name ≡ Some number → Found (from + 1) names name number)
          → Found from (one ∷ names) name number
      by true named first later =
          let here : from ≡ number = cc in
          record {
            above = omega (arith, here);
            below = omega (arith, here);
            named = λ other at.
                let zero_is : number - from ≡ 0 = omega (arith, here) in
                let same : Some one ≡ Some other =
                subst (λ k. slice_get (one ∷ names) k ≡ Some other) zero_is at in
                let equal : one ≡ other = cc in
                subst (λ x. IsTrue (is_named x name)) equal named;
          }
      by false named second later = found_later from number one names name (later second)

pub number_within : (names : List FunctionName) (name : FunctionName) (number : ℕ)
    → number_in names name ≡ Some number → number < length names
number_within names name number is = omega (arith, (found 0 names name number is).below)

pub number_named : (names : List FunctionName) (name one : FunctionName) (number : ℕ)
    → number_in names name ≡ Some number → slice_get names number ≡ Some one
    → IsTrue (is_named one name)
number_named names name one number is at =
    (found 0 names name number is).named one
    (subst (λ k. slice_get names k ≡ Some one)
    (let same : number ≡ number - 0 = omega arith in same) at)
