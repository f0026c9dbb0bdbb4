-- What holds of a variable that is seen.
use Rattle.std.proofs.Common.{◌≡◌, ℕ, List, Some, ◌∷◌, Bool, refl, subst, true, false}
use Rattle.std.proofs.Common.{arith, []}
use Rattle.std.specs.Prelude.{All, ◌==◌, if◌then◌else◌}
use Rattle.std.proofs.lemmas.List.Elements.{All-head, All-tail}
use Rattle.sw_lower_plans.specs.Plan.{var_in}
use Rattle.sw_lower_plans.specs.declared.bound.Bound.{Bound}

-- a variable that is seen
pub seen_by : (P : Bound → Type 0) (key : ℕ) (vars : List Bound) (bound : Bound) → All P vars
    → var_in key vars ≡ Some bound → P bound × (bound.key ≡ key)
seen_by P key [] bound all is = cc
seen_by P key (one ∷ vars) bound all is =
    by (one.key == key) refl (seen_by P key vars bound (All-tail P one vars all)) is where
      same_some : Some one ≡ Some bound → one ≡ bound
      same_some same = cc

      by : (same : Bool) → (one.key == key) ≡ same
          → (var_in key vars ≡ Some bound → P bound × (bound.key ≡ key))
          → (if same then Some one else var_in key vars) ≡ Some bound → P bound × (bound.key ≡ key)
      by true same later is =
          subst (λ b. P b × (b.key ≡ key)) (same_some is)
          (All-head P one vars all, grind (arith, same))
      by false same later is = later is
