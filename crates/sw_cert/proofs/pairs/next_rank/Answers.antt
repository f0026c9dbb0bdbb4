use Rattle.std.proofs.Common.{◌-◌, ◌*◌, ◌+◌, ap, arith}
use Rattle.sw_cert.proofs.Ranks.{ranked, rank_below}
use Rattle.sw_cert.proofs.pairs.next_rank.Goals as goal

pub overflow_sub-pair_count : goal.overflow_sub-pair_count
overflow_sub-pair_count c =
    let has = ranked c.args.extent.now c.args.pair c.in_ok-column.column c.if-pair-eq0.false
    c.if-pair-extent.false c.in_ok-column.ensures.within c.in_ok-column.ensures.site _
    (ap (λ n. (c.args.pair.element - 1) * n + c.in_ok-column.column) c.len.ensures) in
    let below = rank_below c.args.extent.now c.args.pair _ has in
    omega (arith, below, c.pair_count.ensures)

pub returns-clause-rank : goal.returns-clause-rank
returns-clause-rank c =
    ranked c.args.extent.now c.args.pair c.in_ok-column.column c.if-pair-eq0.false
    c.if-pair-extent.false c.in_ok-column.ensures.within c.in_ok-column.ensures.site _
    (ap (λ n. (c.args.pair.element - 1) * n + c.in_ok-column.column) c.len.ensures)

pub returns-clause-may : goal.returns-clause-may
returns-clause-may c =
    let has = ranked c.args.extent.now c.args.pair c.in_ok-column.column c.if-pair-eq0.false
    c.if-pair-extent.false c.in_ok-column.ensures.within c.in_ok-column.ensures.site _
    (ap (λ n. (c.args.pair.element - 1) * n + c.in_ok-column.column) c.len.ensures) in
    let below = rank_below c.args.extent.now c.args.pair _ has in
    record {
      rank = _;
      has_rank = has;
      rises = omega arith;
      room = omega (arith, below, c.pair_count.ensures);
    }
