use Rattle.std.proofs.Common.{leb, leb-true, leb-false, arith, rules}
use Rattle.std.proofs.lemmas.List.Sorted.{IsPartitionPoint-from_clause, IsPartitionedBy-leb}
use Rattle.sw_see_lines.proofs.table.lines_begun.Goals as goal

pub returns-clause-begun : goal.returns-clause-begun
returns-clause-begun c =
    let parted = IsPartitionedBy-leb (λ start. start) c.args.starts.now c.args.at c.requires in
    let point = IsPartitionPoint-from_clause (λ start. leb start c.args.at) _ _
    c.partition_point.ensures.partitioned parted (λ a r q k. search rules) in
    λ k low. leb-true _ _ (point.0 k 0 (omega arith) low)

pub returns-clause-ahead : goal.returns-clause-ahead
returns-clause-ahead c =
    let parted = IsPartitionedBy-leb (λ start. start) c.args.starts.now c.args.at c.requires in
    let point = IsPartitionPoint-from_clause (λ start. leb start c.args.at) _ _
    c.partition_point.ensures.partitioned parted (λ a r q k. search rules) in
    λ k low high. leb-false _ _ (point.1 k 0 low high)
