use Rattle.std.proofs.Common.{sym}
use Rattle.std.proofs.lemmas.List.Filters.{dedup_is}
use Rattle.sw_isolation_rules.proofs.InOrder.{same, in_order}
use Rattle.sw_isolation_rules.proofs.merging.merged.Goals as goal

pub returns : goal.returns
returns c =
    let sorted = c.sort_unstable.new.self.items in
    let kept = dedup_is same sorted _ c.dedup.ensures.filtered in
    rw (c.from_vec.ensures, kept, sym c.into_vec-list.ensures)
    (in_order c.into_vec-list.result.items sorted c.sort_unstable.ensures.permutation
    c.sort_unstable.ensures.sorted)
