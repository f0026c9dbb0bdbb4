use Rattle.std.proofs.Common.{Ok, Err, subst}
use Rattle.std.proofs.lemmas.Result.{err_from_is_err_and}
use Rattle.sw_check_parts.specs.declared.stop.Stop.TheVariants.{Memory}
use Rattle.sw_check_parts.specs.Leaves.{Decides}
use Rattle.sw_check_parts.proofs.Doing.{decides_on, decides_stop, does_alone, does_on, does_stop}
use Rattle.sw_verdict.specs.Phases.{phases_to_size}
use Rattle.sw_check.specs.Programs.{Passed, seen_graph}
use Rattle.sw_check.specs.Reply.{IsJudgement}
use Rattle.sw_see.specs.View.{Views, lent_view}
use Rattle.sw_see.proofs.commands.show_replay.Goals as goal

pub returns-in_err-text : goal.returns-in_err-text
returns-in_err-text g c =
    let p = err_from_is_err_and c.from_residual.result c.from_residual.ensures.1 in
    rw (p.1, p.2) (does_stop _ c.in_err-text.field-0.0 c.in_err-text.ensures.done)

pub returns-in_err-made : goal.returns-in_err-made
returns-in_err-made g c =
    let p = err_from_is_err_and c.from_residual-in_err-made.result
    c.from_residual-in_err-made.ensures.1 in
    let stop = c.in_err-made.field-0.0 in
    rw (p.1, p.2) (does_on c.in_ok-text.ensures.done
    (decides_stop (IsJudgement c.args.default phases_to_size c.in_ok-text.text) _ stop
    (subst (λ text. Decides {A = Passed} (IsJudgement c.args.default phases_to_size text) (Err stop))
    c.as_slice.ensures c.in_err-made.ensures)))

pub returns-in_err-items : goal.returns-in_err-items
returns-in_err-items g c =
    let p = err_from_is_err_and c.from_residual-in_err-items.result
    c.from_residual-in_err-items.ensures.1 in
    let passed = seen_graph c.in_ok-made.made in
    rw (p.1, p.2) (does_on c.in_ok-text.ensures.done
    (decides_on (IsJudgement c.args.default phases_to_size c.in_ok-text.text)
    (subst (λ text. IsJudgement c.args.default phases_to_size text (Ok passed)) c.as_slice.ensures
    c.in_ok-made.ensures)
    (does_stop _ c.in_err-items.field-0.0 c.in_err-items.ensures)))

pub returns-in_err-view_replay : goal.returns-in_err-view_replay
returns-in_err-view_replay g c =
    let p = err_from_is_err_and c.from_residual-in_err-view_replay.result
    c.from_residual-in_err-view_replay.ensures.1 in
    let view = lent_view c.args.view in
    let passed = seen_graph c.in_ok-made.made in
    rw (p.1, p.2) (does_on c.in_ok-text.ensures.done
    (decides_on (IsJudgement c.args.default phases_to_size c.in_ok-text.text)
    (subst (λ text. IsJudgement c.args.default phases_to_size text (Ok passed)) c.as_slice.ensures
    c.in_ok-made.ensures)
    (does_on c.in_ok-items.ensures
    (does_alone (Views view c.in_ok-text.text passed c.in_ok-items.items) (Err Memory) tt))))

pub returns : goal.returns
returns g c =
    let passed = seen_graph c.in_ok-made.made in
    let outcome = c.in_ok-view_replay.field-0 in
    let view = lent_view c.args.view in
    does_on c.in_ok-text.ensures.done
    (decides_on (IsJudgement c.args.default phases_to_size c.in_ok-text.text)
    (subst (λ text. IsJudgement c.args.default phases_to_size text (Ok passed)) c.as_slice.ensures
    c.in_ok-made.ensures)
    (does_on c.in_ok-items.ensures
    (does_alone (Views view c.in_ok-text.text passed c.in_ok-items.items) (Ok outcome)
    (subst (λ text. Views view text passed c.in_ok-items.items (Ok outcome)) c.as_slice-2.ensures
    c.in_ok-view_replay.ensures))))
