use Rattle.std.proofs.Common.{subst, sym}
use Rattle.std.specs.List.{Contains}
use Rattle.std.proofs.lemmas.List.Filters.{dedup_is}
use Rattle.std.proofs.lemmas.List.Kept.{Contains-dedup_nat, Contains-from_dedup}
use Rattle.std.proofs.lemmas.List.Sorted.{Contains-permutation, IsPermutation-sym}
use Rattle.std.proofs.lemmas.Map.Keys.{IsStrictlyIncreasing-dedup}
use Rattle.sw_region_ops.proofs.sites.in_order.Goals as goal

pub returns-clause-rising : goal.returns-clause-rising
returns-clause-rising c =
    rw (dedup_is _ _ _ c.dedup.ensures.filtered)
    (IsStrictlyIncreasing-dedup _ c.sort_unstable.ensures.sorted)

pub returns-clause-same : goal.returns-clause-same
returns-clause-same c site =
    let is = dedup_is _ _ _ c.dedup.ensures.filtered in
    let moved = c.sort_unstable.ensures.permutation in (
      (λ h. subst (λ xs. Contains xs site) c.into_vec-sites.ensures
          (Contains-permutation _ _ site (IsPermutation-sym _ _ moved)
          (Contains-from_dedup _ _ site (subst (λ xs. Contains xs site) is h)))),
      λ h. subst (λ xs. Contains xs site) (sym is)
          (Contains-dedup_nat _ site (Contains-permutation _ _ site moved
          (subst (λ xs. Contains xs site) (sym c.into_vec-sites.ensures) h))),
    )
