use Rattle.std.proofs.Common.{List, ap, arith}
use Rattle.sw_cert.proofs.Pairing.{still_pairing, pair_said}
use Rattle.sw_cert.proofs.Ranks.{rank_below}
use Rattle.sw_cert.specs.declared.line.Pair.{Pair}
use Rattle.sw_cert.proofs.pairs.read_pair.Goals as goal

pub overflow_add-result : goal.overflow_add-result
overflow_add-result c =
    let read = still_pairing c.args.form.now c.requires.form c.args.spot c.args.text.now
    c.args.line.now c.args.pending c.requires.some c.requires.read in
    let next = c.in_ok-pair.ensures.read read.extent read.has_line.is_extent in
    let fit = c.requires.form.fit.each c.args.line.now.function read.extent
    read.has_line.is_extent in
    let below = rank_below read.extent _ c.in_ok-pair.rank next.has_rank in
    omega (arith, below, fit.few_pairs)

pub returns-clause-read : goal.returns-clause-read
returns-clause-read c =
    let some = c.requires.some in
    let read = still_pairing c.args.form.now c.requires.form c.args.spot c.args.text.now
    c.args.line.now c.args.pending some c.requires.read in
    let next = c.in_ok-pair.ensures.read read.extent read.has_line.is_extent in
    pair_said c.args.form.now c.requires.form c.args.spot c.args.text.now c.args.line.now
    c.args.pending.to c.args.pending.left c.args.pending.at some read c.in_ok-pair.pair.element
    next.site_at next.element c.in_ok-pair.pair.site c.in_ok-pair.at c.in_ok-pair.rank next.site
    next.has_rank _
    (ap (λ (pairs : List Pair). record {
      function = c.args.line.now.function;
      block = c.args.line.now.block;
      classes = c.args.line.now.classes;
      pairs = pairs;
    }) c.in_ok-push.ensures.ok)
