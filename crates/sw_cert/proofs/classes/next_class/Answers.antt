use Rattle.std.proofs.Common.{[], refl, ◌∙◌}
use Rattle.std.proofs.lemmas.Result.{IfOk-weaker, IfErr-weaker}
use Rattle.sw_dictation.specs.Numbers.{IsOffered}
use Rattle.sw_cert.proofs.Beginning.{bad_weaker, next_same, stuck_same}
use Rattle.sw_cert.proofs.Naming.{Names, class_offered}
use Rattle.sw_cert.proofs.classes.next_class.Goals as goal

pub returns-clause-class : goal.returns-clause-class
returns-clause-class c = IfOk-weaker c.next.result _ _
    (λ said. next_same (IsOffered [] c.as_slice.result.now) (Names c.args.classes.now)
    c.args.text.now c.args.at said.0 said.1
    (λ n closer. (class_offered c.args.classes.now c.in_ok-offered.offered c.as_slice.result.now
    _ c.in_ok-offered.ensures refl (c.as_slice.ensures ∙ c.in_ok-push.ensures.ok) n closer).0))
    c.next.ensures.said

pub returns-clause-bad : goal.returns-clause-bad
returns-clause-bad c = IfErr-weaker c.next.result _ _
    (λ slip. bad_weaker _ _ slip (λ place. stuck_same (IsOffered [] c.as_slice.result.now)
    (Names c.args.classes.now) c.args.text.now c.args.at place
    (class_offered c.args.classes.now c.in_ok-offered.offered c.as_slice.result.now _
    c.in_ok-offered.ensures refl (c.as_slice.ensures ∙ c.in_ok-push.ensures.ok))))
    c.next.ensures.bad
