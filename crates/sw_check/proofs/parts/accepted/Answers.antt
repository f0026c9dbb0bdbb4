use Rattle.std.proofs.Common.{[], ◌∷◌, List, ap, subst, sym, ◌∙◌}
use Rattle.std.specs.List.{AllByRecursion}
use Rattle.sw_breach.specs.Codes.{IsCode}
use Rattle.sw_breach.specs.declared.Breach.{Breach}
use Rattle.sw_verdict.specs.Phases.{Races, all_phases, phases_to_size}
use Rattle.sw_verdict.proofs.Coded.{have_codes}
use Rattle.sw_verdict.proofs.Verdicts.{refused_before}
use Rattle.sw_check_text.specs.Verdicts.{IsVerdictOn}
use Rattle.sw_check.specs.Programs.{seen_graph}
use Rattle.sw_check.specs.Reply.{passes, refusal}
use Rattle.sw_check.proofs.PartLemmas.{judged_refused}
use Rattle.sw_check.proofs.parts.accepted.Goals as goal

pub returns-in-Accepted : goal.returns-in-Accepted
returns-in-Accepted c =
    let is = subst (IsVerdictOn c.args.default c.args.text.now) c.in-Accepted.is
    c.in_ok-checked.ensures in
    passes (seen_graph (record {
      graph = c.in-Accepted.checked.graph;
      actors = c.in-Accepted.actors;
    })) (is.accepts, is.of_text) is.named

pub refusal-requires-clause-codes : goal.refusal-requires-clause-codes
refusal-requires-clause-codes c =
    let is = subst (IsVerdictOn c.args.default c.args.text.now) c.in-Races.is
    c.in_ok-checked.ensures in
    subst (λ (list : List Breach). AllByRecursion (λ breach. IsCode breach.code) list)
    (sym c.as_slice.ensures)
    (have_codes c.args.default all_phases c.args.text.now c.in-Races.breaches is.are)

pub returns-in-Races : goal.returns-in-Races
returns-in-Races c =
    let is = subst (IsVerdictOn c.args.default c.args.text.now) c.in-Races.is
    c.in_ok-checked.ensures in
    judged_refused c.args.default all_phases c.args.text.now c.in-Races.breaches _
    (c.in_ok-refusal-in-Races.ensures ∙ ap (refusal c.args.text.now) c.as_slice.ensures)
    (is.some, is.are)

pub refusal-requires-in-Refused-clause-codes : goal.refusal-requires-in-Refused-clause-codes
refusal-requires-in-Refused-clause-codes c =
    let is = subst (IsVerdictOn c.args.default c.args.text.now) c.in-Refused.is
    c.in_ok-checked.ensures in
    have_codes c.args.default phases_to_size c.args.text.now (c.in-Refused.breach ∷ []) is

pub returns : goal.returns
returns c =
    let is = subst (IsVerdictOn c.args.default c.args.text.now) c.in-Refused.is
    c.in_ok-checked.ensures in
    let list = c.in-Refused.breach ∷ [] in
    judged_refused c.args.default all_phases c.args.text.now list _
    c.in_ok-refusal-in-Refused.ensures
    ((λ e. cc), refused_before c.args.default Races c.args.text.now list (λ e. cc) is)
