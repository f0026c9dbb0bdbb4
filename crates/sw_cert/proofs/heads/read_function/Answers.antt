use Rattle.std.proofs.lemmas.Result.{IfOk-weaker, IfErr-weaker}
use Rattle.sw_cert.proofs.Beginning.{bad_weaker}
use Rattle.sw_cert.proofs.Heading.{function_said, function_not_said}
use Rattle.sw_cert.proofs.heads.read_function.Goals as goal

pub returns-clause-block : goal.returns-clause-block
returns-clause-block c = IfOk-weaker c.next_between.result _ _
    (λ said next. (function_said c.args.form.now c.requires.form c.args.spot c.args.text.now
    c.as_slice-extents.result.now c.as_slice-extents.ensures c.first_function-from.result
    c.first_function-from.ensures said.0 said.1 next).0) c.next_between.ensures.said

pub returns-clause-begun : goal.returns-clause-begun
returns-clause-begun c = IfOk-weaker c.next_between.result _ _
    (λ said next. (function_said c.args.form.now c.requires.form c.args.spot c.args.text.now
    c.as_slice-extents.result.now c.as_slice-extents.ensures c.first_function-from.result
    c.first_function-from.ensures said.0 said.1 next).1) c.next_between.ensures.said

pub returns-clause-bad : goal.returns-clause-bad
returns-clause-bad c = IfErr-weaker c.next_between.result _ _
    (λ slip. bad_weaker _ _ slip (λ place. function_not_said c.args.form.now c.requires.form
    c.args.spot c.args.text.now c.as_slice-extents.result.now c.as_slice-extents.ensures
    c.first_function-from.result c.first_function-from.ensures place c.requires.some))
    c.next_between.ensures.bad
