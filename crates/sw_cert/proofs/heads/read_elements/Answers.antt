use Rattle.std.proofs.Common.{length, ap, arith}
use Rattle.std.proofs.lemmas.Result.{IfOk-weaker, IfErr-weaker}
use Rattle.sw_cert.proofs.Beginning.{bad_weaker}
use Rattle.sw_cert.proofs.Heading.{elements_said, elements_not_said}
use Rattle.sw_cert.proofs.heads.read_elements.Goals as goal

pub overflow_add-elements : goal.overflow_add-elements
overflow_add-elements c =
    let h = c.requires.form.each c.args.head.function c.at.result.now c.at.ensures in
    omega (arith, h.1, c.requires.form.few)

pub next_between-requires-clause-within : goal.next_between-requires-clause-within
next_between-requires-clause-within c =
    let h = c.requires.form.each c.args.head.function c.at.result.now c.at.ensures in
    omega (arith, h.1, ap length c.as_slice.ensures)

pub returns-clause-head : goal.returns-clause-head
returns-clause-head c = IfOk-weaker c.next_between.result _ _
    (λ said. elements_said c.args.form.now c.requires.form c.args.spot c.args.text.now c.args.head
    c.args.at c.requires.line c.at.result.now c.at.ensures said.0 said.1) c.next_between.ensures.said

pub returns-clause-bad : goal.returns-clause-bad
returns-clause-bad c = IfErr-weaker c.next_between.result _ _
    (λ slip. bad_weaker _ _ slip (elements_not_said c.args.form.now c.requires.form c.args.spot
    c.args.text.now c.args.head c.args.at c.requires.line c.at.result.now c.at.ensures))
    c.next_between.ensures.bad
