use Rattle.std.proofs.Common.{length, ap, arith}
use Rattle.std.proofs.lemmas.Result.{IfOk-weaker, IfErr-weaker}
use Rattle.sw_cert.proofs.Beginning.{bad_weaker}
use Rattle.sw_cert.proofs.Heading.{block_said, block_not_said}
use Rattle.sw_cert.proofs.heads.read_block.Goals as goal

pub next_between-requires-clause-within : goal.next_between-requires-clause-within
next_between-requires-clause-within c =
    let h = c.requires.form.each c.args.function c.at-extent.result.now c.at-extent.ensures in
    omega (arith, h.0, ap length c.as_slice.ensures)

pub returns-clause-line : goal.returns-clause-line
returns-clause-line c = IfOk-weaker c.next_between.result _ _
    (λ said. block_said c.args.form.now c.requires.form c.args.spot c.args.text.now
    c.args.function c.at-extent.result.now c.requires.block c.at-extent.ensures c.args.at
    c.requires.begun c.first_block-from.result c.first_block-from.ensures said.0 said.1)
    c.next_between.ensures.said

pub returns-clause-bad : goal.returns-clause-bad
returns-clause-bad c = IfErr-weaker c.next_between.result _ _
    (λ slip. bad_weaker _ _ slip (block_not_said c.args.form.now c.requires.form c.args.spot
    c.args.text.now c.args.function c.at-extent.result.now c.requires.block c.at-extent.ensures
    c.args.at c.requires.begun c.first_block-from.result c.first_block-from.ensures))
    c.next_between.ensures.bad
