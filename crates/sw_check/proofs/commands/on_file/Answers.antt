use Rattle.std.proofs.Common.{Ok, Err, subst}
use Rattle.std.proofs.lemmas.Result.{err_from_is_err_and}
use Rattle.sw_check_parts.specs.Leaves.{Decides}
use Rattle.sw_check_parts.proofs.Doing.{does_on, does_stop, decides_on, decides_stop}
use Rattle.sw_check_words.specs.Given.{lent_action}
use Rattle.sw_check.specs.Phases.{list_of}
use Rattle.sw_check.specs.Programs.{Passed, seen_graph}
use Rattle.sw_check.specs.Reply.{IsJudgement, phases_for}
use Rattle.sw_check.proofs.PartLemmas.{follows_lent}
use Rattle.sw_check.proofs.commands.on_file.Goals as goal

pub returns-in_err-text : goal.returns-in_err-text
returns-in_err-text g c =
    let p = err_from_is_err_and c.from_residual.result c.from_residual.ensures.1 in
    rw (p.1, p.2) (does_stop _ c.in_err-text.field-0.0 c.in_err-text.ensures.done)

pub returns-in_err-made : goal.returns-in_err-made
returns-in_err-made g c =
    let p = err_from_is_err_and c.from_residual-in_err-made.result
    c.from_residual-in_err-made.ensures.1 in
    let stop = c.in_err-made.field-0.0 in
    let rule = c.args.default in
    rw (p.1, p.2) (does_on c.in_ok-text.ensures.done
    (decides_stop (IsJudgement rule (phases_for (lent_action c.args.action)) c.in_ok-text.text) _
    stop
    (subst (λ phases. Decides {A = Passed} (IsJudgement rule phases c.in_ok-text.text) (Err stop))
    c.phases_for.ensures
    (subst (λ text. Decides {A = Passed} (IsJudgement rule (list_of c.phases_for.result) text)
    (Err stop))
    c.as_slice.ensures c.in_err-made.ensures))))

pub returns : goal.returns
returns g c =
    let rule = c.args.default in
    let passed = seen_graph c.in_ok-made.made in
    does_on c.in_ok-text.ensures.done
    (decides_on (IsJudgement rule (phases_for (lent_action c.args.action)) c.in_ok-text.text)
    (subst (λ phases. IsJudgement rule phases c.in_ok-text.text (Ok passed)) c.phases_for.ensures
    (subst (λ text. IsJudgement rule (list_of c.phases_for.result) text (Ok passed))
    c.as_slice.ensures c.in_ok-made.ensures))
    (follows_lent (lent_action c.args.action) passed c.as_slice-2.ensures c.after_verdict.ensures))
