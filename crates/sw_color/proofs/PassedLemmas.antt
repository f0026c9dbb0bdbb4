-- What is passed to a frame, register by register.
use Rattle.std.proofs.Common.{◌≡◌, ℕ, zero, suc, ◌≤◌, Bool, false, List, [], ◌∷◌, ◌++◌}
use Rattle.std.proofs.Common.{length, drop, refl, ap, cond, Option, Some}
use Rattle.std.proofs.Common.{None, slice_get, subst, slice_index_or}
use Rattle.std.proofs.lemmas.Option.{same_Some}
use Rattle.std.proofs.lemmas.List.{drop_all}
use Rattle.sw_value.specs.declared.value.Value.{Value}
use Rattle.sw_color_rules.specs.declared.colors.Tint.{Tint}
use Rattle.sw_color_rules.specs.Tints.{colors_in}
use Rattle.sw_color_rules.specs.Plans.{passed}

drop_nil : {A : Type 0} (i : ℕ) → drop {A = A} i [] ≡ []
drop_nil zero = refl
drop_nil (suc i) = refl

pub nothing_passed : (tints : List Tint) (marks : List Bool) (regs : List (Option Value)) (i : ℕ)
    → slice_get regs i ≡ Some None → passed tints (drop i marks) (drop i regs) ≡ []
nothing_passed tints marks [] i e = cc
nothing_passed tints [] (r ∷ regs) zero e = by r (same_Some r None e) where
  by : (o : Option Value) → o ≡ None → passed tints [] (o ∷ regs) ≡ []
  by None h = refl
  by (Some v) h = cc
nothing_passed tints (m ∷ marks) (r ∷ regs) zero e = by r (same_Some r None e) where
  by : (o : Option Value) → o ≡ None → passed tints (m ∷ marks) (o ∷ regs) ≡ []
  by None h = refl
  by (Some v) h = cc
nothing_passed tints [] (r ∷ regs) (suc i) e =
    subst (λ ms. passed tints ms (drop i regs) ≡ []) (drop_nil i) (nothing_passed tints [] regs i e)
nothing_passed tints (m ∷ marks) (r ∷ regs) (suc i) e = nothing_passed tints marks regs i e

-- the value of one more register
pub passed_on : (tints : List Tint) (marks : List Bool) (regs : List (Option Value)) (i : ℕ) (v : Value)
    → slice_get regs i ≡ Some (Some v) → passed tints (drop i marks) (drop i regs)
    ≡ cond (slice_index_or marks i false) [] (colors_in tints v)
    ++ passed tints (drop (suc i) marks) (drop (suc i) regs)
passed_on tints marks [] i v e = cc
passed_on tints [] (r ∷ regs) zero v e =
    ap (λ o. passed tints [] (o ∷ regs)) (same_Some r (Some v) e)
passed_on tints (m ∷ marks) (r ∷ regs) zero v e =
    ap (λ o. passed tints (m ∷ marks) (o ∷ regs)) (same_Some r (Some v) e)
passed_on tints [] (r ∷ regs) (suc i) v e =
    subst (λ ms. passed tints ms (drop i regs) ≡ colors_in tints v ++ passed tints [] (drop (suc i) regs))
    (drop_nil i) (passed_on tints [] regs i v e)
passed_on tints (m ∷ marks) (r ∷ regs) (suc i) v e = passed_on tints marks regs i v e

pub passed_end : (tints : List Tint) (marks : List Bool) (regs : List (Option Value)) (i : ℕ) → length regs ≤ i
    → passed tints (drop i marks) (drop i regs) ≡ []
passed_end tints marks regs i past = ap (passed tints (drop i marks)) (drop_all i regs past)
