use Rattle.std.proofs.Common.{[], ◌∷◌, subst, sym}
use Rattle.std.proofs.lemmas.Result.{IfOk-weaker}
use Rattle.sw_check_text.specs.Verdicts.{IsVerdictOn}
use Rattle.sw_verdict.specs.Phases.{Races, all_phases}
use Rattle.sw_verdict.specs.Verdict.{Breaches}
use Rattle.sw_verdict.proofs.Verdicts.{refused_before}
use Rattle.sw_see.proofs.view.breaches_of.Goals as goal

pub returns : goal.returns
returns c =
    let is = subst (IsVerdictOn c.args.default c.args.text.now) c.in-Refused.is
    c.in_ok-check_text.ensures in
    let list = c.in-Refused.breach ∷ [] in
    IfOk-weaker c.one.result _ _
    (λ breaches same. subst (Breaches c.args.default all_phases c.args.text.now) (sym same)
    (refused_before c.args.default Races c.args.text.now list (λ e. cc) is)) c.one.ensures
