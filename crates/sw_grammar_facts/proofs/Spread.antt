-- Places that follow one another, as those in a token, and how often they hit an offset.
use Rattle.std.proofs.Common.{◌≡◌, ℕ, zero, suc, ◌+◌, ◌≤◌, ◌<◌, nat_lt, nat_le, refl, arith}
use Rattle.std.proofs.Common.{◌⊎◌, inl, inr, ◌&&◌, if◌then◌else◌}
use Rattle.std.proofs.lemmas.Bool.{cases_lt}
use Rattle.std.proofs.lemmas.Grind.{common_steps}
use Rattle.sw_tree.proofs.Counting.{Weight, hits}
use Rattle.sw_grammar_facts.proofs.Owning.{none}

-- what `n` places weigh together, the first of which is `at`
unfoldable pub spread : (ℕ → Weight) → ℕ → ℕ → Weight
spread place zero at k = 0
spread place (suc n) at k = place at k + spread place n (suc at) k

pub spread_none : (n at k : ℕ) → spread (λ at. none) n at k ≡ 0
unfolding spread
spread_none zero at k = refl
spread_none (suc n) at k = omega (arith, spread_none n (suc at) k)

spread_below : (n at k : ℕ) → k < at → spread hits n at k ≤ 0
unfolding hits spread
spread_below zero at k below = omega arith
spread_below (suc n) at k below =
    let more = spread_below n (suc at) k (omega arith) in grind (arith, common_steps)

abbrev between : ℕ → ℕ → Weight
between at end k = if nat_le at k && nat_lt k end then 1 else 0

hits_before : (at k : ℕ) → at < k → hits at k ≤ 0
unfolding hits
hits_before at k less = grind (arith, common_steps)

hits_between : (at end k : ℕ) → at < end → hits at k ≤ between at end k
unfolding hits
hits_between at end k less = grind (arith, common_steps)

between_more : (at end k : ℕ) → between (suc at) end k ≤ between at end k
between_more at end k = grind (arith, common_steps)

-- places from an offset to before another hit only what lies between these, and once at most
pub spread_within : (n at end k : ℕ) → at + n ≤ end → spread hits n at k ≤ between at end k
unfolding spread
spread_within zero at end k less = omega arith
spread_within (suc n) at end k less =
    by (spread_within n (suc at) end k (omega arith)) (cases_lt k (suc at))
  where
    by : spread hits n (suc at) k ≤ between (suc at) end k → (k < suc at) ⊎ (suc at ≤ k)
        → hits at k + spread hits n (suc at) k ≤ between at end k
    by more (inl before) =
        omega (
          arith,
          spread_below n (suc at) k before,
          hits_between at end k (omega arith),
        )
    by more (inr past) =
        omega (arith, hits_before at k (omega arith), more, between_more at end k)
