use Rattle.std.proofs.Common.{arith, rules, sym}
use Rattle.std.proofs.lemmas.List.Sums.{prefix_len_is}
use Rattle.std.proofs.lemmas.List.Sorted.{IsPartitionPoint-from_clause, IsPartitionedBy-leb}
use Rattle.sw_lsp_places.specs.Ranges.{has_ended}
use Rattle.sw_lsp_places.proofs.Orders.{no_token}
use Rattle.sw_lsp_places.proofs.range.ended.Goals as goal

pub returns-clause-value : goal.returns-clause-value
returns-clause-value c =
    let parted = IsPartitionedBy-leb (λ token. token.span.end) c.args.tokens.now c.args.at c.requires in
    let point = IsPartitionPoint-from_clause (has_ended c.args.at) _ _
    c.partition_point.ensures.partitioned parted (λ a r q k. search rules) in
    sym (prefix_len_is (has_ended c.args.at) c.args.tokens.now c.partition_point.result no_token
    c.partition_point.ensures.bound (λ k low. point.0 k no_token (omega arith) low)
    (λ high. point.1 c.partition_point.result no_token (omega arith) high))
