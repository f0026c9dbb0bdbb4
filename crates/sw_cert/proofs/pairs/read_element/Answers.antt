use Rattle.std.proofs.lemmas.Result.{IfOk-weaker, IfErr-weaker}
use Rattle.sw_cert.proofs.Beginning.{bad_weaker}
use Rattle.sw_cert.proofs.Between.{element_said, element_stuck}
use Rattle.sw_cert.proofs.pairs.read_element.Goals as goal

pub returns-clause-element : goal.returns-clause-element
returns-clause-element c = IfOk-weaker c.next_between.result _ _
    (λ said. element_said c.args.extent.now c.args.pending.to c.args.pending.left c.requires.some
    c.requires.room c.len-width.result c.pair_count.result c.len-width.ensures c.pair_count.ensures
    c.args.text.now c.args.pending.at said.0 said.1) c.next_between.ensures.said

pub returns-clause-bad : goal.returns-clause-bad
returns-clause-bad c = IfErr-weaker c.next_between.result _ _
    (λ slip. bad_weaker _ _ slip (element_stuck c.args.extent.now c.args.pending.to
    c.args.pending.left c.requires.some c.requires.room c.len-width.result c.pair_count.result
    c.len-width.ensures c.pair_count.ensures c.args.text.now c.args.pending.at))
    c.next_between.ensures.bad
