use Rattle.std.proofs.Common.{subst, sym}
use Rattle.std.specs.List.{Contains}
use Rattle.std.proofs.lemmas.List.Filters.{dedup_is}
use Rattle.std.proofs.lemmas.List.Kept.{Contains-dedup_nat, Contains-from_dedup}
use Rattle.std.proofs.lemmas.List.Sorted.{Contains-permutation, IsPermutation-sym}
use Rattle.std.proofs.lemmas.Map.Keys.{IsStrictlyIncreasing-dedup, sorted_from_strictly_increasing}
use Rattle.sw_isolation.proofs.collecting.each_once.Goals as goal

pub returns : goal.returns
returns c =
    let is = dedup_is _ _ _ c.dedup.ensures.filtered in
    let moved = c.sort_unstable.ensures.permutation in
    rw (c.from_vec.ensures, is, sym c.into_vec-keys.ensures) record {
      rises = sorted_from_strictly_increasing _
          (IsStrictlyIncreasing-dedup _ c.sort_unstable.ensures.sorted);
      from = λ key has. Contains-permutation _ _ key (IsPermutation-sym _ _ moved)
          (Contains-from_dedup _ _ key has);
      covers = λ key has. Contains-dedup_nat _ key (Contains-permutation _ _ key moved has);
    }
