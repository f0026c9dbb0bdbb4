use Rattle.std.proofs.Common.{◌≤◌, ◌<◌, []}
use Rattle.std.proofs.lemmas.Result.{IfOk-weaker, IfErr-weaker}
use Rattle.sw_dictation.specs.Numbers.{IsOffered}
use Rattle.sw_cert.proofs.Beginning.{bad_weaker, going_offered, next_same, stuck_same}
use Rattle.sw_cert.specs.Begun.{IsBetween}
use Rattle.sw_cert.proofs.form.next_between.Goals as goal

pub returns-clause-said : goal.returns-clause-said
returns-clause-said c = IfOk-weaker c.next.result _ _
    (λ said. next_same (IsOffered [] c.range.result.now) (IsBetween c.args.from c.args.to)
    c.args.text.now c.args.at said.0 said.1
    (λ n closer. (going_offered c.range.result.now (λ m. (c.args.from ≤ m) × (m < c.args.to))
    c.range.ensures n closer).0)) c.next.ensures.said

pub returns-clause-bad : goal.returns-clause-bad
returns-clause-bad c = IfErr-weaker c.next.result _ _
    (λ slip. bad_weaker _ _ slip (λ place. stuck_same (IsOffered [] c.range.result.now)
    (IsBetween c.args.from c.args.to) c.args.text.now c.args.at place
    (going_offered c.range.result.now (λ m. (c.args.from ≤ m) × (m < c.args.to))
    c.range.ensures))) c.next.ensures.bad
