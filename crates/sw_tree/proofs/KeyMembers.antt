-- Keys, by how often they stand in a list.
use Rattle.std.proofs.Common.{◌≡◌, ℕ, zero, suc, ◌≤◌, Bool, true, false}
use Rattle.std.proofs.Common.{[], ◌∷◌, Contains, nat_eq, refl, sym, subst, arith}
use Rattle.std.proofs.lemmas.Bool.{eqb-true}
use Rattle.std.proofs.lemmas.Grind.{common_steps}
use Rattle.std.proofs.lemmas.List.Elements.{Contains-append_left, Contains-append_right}
use Rattle.sw_tree.specs.Keys.{Keys}
use Rattle.sw_tree.proofs.Counting.{count, hits, hits_same, in_all-cons, in_all-nil}

-- A key that isn't counted at another is not that one.
pub unlike : (at key : ℕ) → hits at key ≡ 0 → nat_eq at key ≡ false
unfolding hits
unlike at key none = grind (arith, common_steps)

-- A key that a list contains is counted in it, and the other way round.
pub counted : (keys : Keys) (key : ℕ) → Contains keys key → 1 ≤ count keys key
counted [] key (k, below, same) = absurd (omega (arith, below))
counted (first ∷ keys) key (zero, below, same) =
    omega (
      arith,
      in_all-cons hits first keys key,
      subst (λ one. hits one key ≡ 1) (sym same) (hits_same key),
    )
counted (first ∷ keys) key (suc k, below, same) =
    omega (arith, in_all-cons hits first keys key, counted keys key (k, omega (arith, below), same))

missed : (at key : ℕ) → nat_eq at key ≡ false → hits at key ≡ 0
unfolding hits
missed at key apart = grind (arith, common_steps)

pub contained : (keys : Keys) (key : ℕ) → 1 ≤ count keys key → Contains keys key
contained [] key some = absurd (omega (arith, some, in_all-nil hits key))
contained (first ∷ keys) key some =
    by (nat_eq first key) refl (λ more. contained keys key more) where
      by : (same : Bool) → nat_eq first key ≡ same
          → (1 ≤ count keys key → Contains keys key) → Contains (first ∷ keys) key
      by true same later =
          subst (Contains (first ∷ keys)) (eqb-true first key same)
          (Contains-append_left (first ∷ []) keys first (0, omega arith, refl))
      by false other later =
          Contains-append_right (first ∷ []) keys key (later
          (omega (arith, some, in_all-cons hits first keys key, missed first key other)))
