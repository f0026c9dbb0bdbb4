-- An element of a region state is live exactly if it has no pair.
use Rattle.std.proofs.Common.{◌≡◌, ℕ, zero, suc, ◌<◌, ◌==◌, Bool, true, not, length, slice_index}
use Rattle.std.proofs.Common.{refl, subst, ap, arith, inl, inr}
use Rattle.std.proofs.lemmas.Bool.{cases_eq, cases_Bool, eqb-true, eq-eqb, or_cases, or_left}
use Rattle.std.proofs.lemmas.Bool.{or_right, both_ways, not-true}
use Rattle.sw_partition.specs.Rank.{any_below}
use Rattle.sw_partition.specs.Regions.{Regions, mark_of}
use Rattle.sw_region_flow.specs.Passing.{IsNotGivenAway}
use Rattle.sw_region_facts.specs.FrameRegions.{is_live}

any_from : (n : ℕ) (test : ℕ → Bool) (k : ℕ) → k < n → test k ≡ true → any_below n test ≡ true
any_from zero test k lt is = absurd (omega arith)
any_from (suc n) test k lt is = elim (cases_eq k n) [
  | inl e ↦ or_right (any_below n test) (test n) (subst (λ v. test v ≡ true) e is)
  | inr ne ↦ or_left (any_below n test) (test n) (any_from n test k (omega (arith, ne)) is)
]

any_at : (n : ℕ) (test : ℕ → Bool) → any_below n test ≡ true → (k : ℕ) × (k < n) × (test k ≡ true)
any_at zero test is = absurd cc
any_at (suc n) test is = elim (or_cases (any_below n test) (test n) is) [
  | inl before ↦ (let w = any_at n test before in (w.0, omega (arith, w.1), w.2))
  | inr here ↦ (n, omega arith, here)
]

pub live_without_pair : (a : Regions) (x : ℕ) → is_live a x ≡ true → IsNotGivenAway a x
live_without_pair a x live has =
    let pair = has.1 in
    both_ways (any_below (length a.sites) (λ k. mark_of a x k == 1))
    (not-true (any_below (length a.sites) (λ k. mark_of a x k == 1)) live)
    (any_from (length a.sites) (λ k. mark_of a x k == 1) pair.column pair.in_range
    (eq-eqb (mark_of a x pair.column) 1 pair.marked))

pub without_pair_live : (a : Regions) (x : ℕ) → x < length a.labels → IsNotGivenAway a x
    → is_live a x ≡ true
without_pair_live a x inside none =
    elim (cases_Bool (any_below (length a.sites) (λ k. mark_of a x k == 1))) [
      | inr is ↦ ap not is
      | inl is ↦
          let w = any_at (length a.sites) (λ k. mark_of a x k == 1) is in
          absurd (none (
            slice_index a.sites w.0,
            record {
              element = inside;
              column = w.0;
              in_range = w.1;
              is_site = refl;
              marked = eqb-true (mark_of a x w.0) 1 w.2;
            },
          ))
    ]
