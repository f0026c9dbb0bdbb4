use Rattle.std.proofs.Common.{ℕ, List, [], ◌∷◌, subst, sym}
use Rattle.sw_breach.specs.declared.Breach.{Breach}
use Rattle.sw_check_text.specs.Verdicts.{IsVerdictOn}
use Rattle.sw_verdict.specs.Phases.{Races, all_phases}
use Rattle.sw_verdict.specs.Verdict.{Breaches}
use Rattle.sw_verdict.proofs.Verdicts.{refused_before}
use Rattle.sw_lsp_findings.proofs.Results.{if_ok_same}
use Rattle.sw_lsp_findings.proofs.findings.breaches_of.Goals as goal

pub returns-in-Accepted : goal.returns-in-Accepted
returns-in-Accepted c =
    let is = subst (IsVerdictOn c.args.default c.args.text.now) c.in-Accepted.is c.in_ok-check_text.ensures in
    subst (λ (list : List Breach). Breaches c.args.default all_phases c.args.text.now list)
    (sym c.new.ensures) is.accepts

pub returns-in-Races : goal.returns-in-Races
returns-in-Races c =
    let is = subst (IsVerdictOn c.args.default c.args.text.now) c.in-Races.is c.in_ok-check_text.ensures in
    is.are

pub returns : goal.returns
returns c =
    let is = subst (IsVerdictOn c.args.default c.args.text.now) c.in-Refused.is c.in_ok-check_text.ensures in
    if_ok_same (λ (list : List Breach). Breaches c.args.default all_phases c.args.text.now list)
    (c.in-Refused.breach ∷ []) c.one.result c.one.ensures
    (refused_before c.args.default Races c.args.text.now (c.in-Refused.breach ∷ []) (λ e. cc) is)
