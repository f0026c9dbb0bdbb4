use Rattle.std.proofs.Common.{◌≡◌, ℕ, List, [], ◌∷◌, Result, Ok, Err, IfOk, subst, sym}
use Rattle.std.specs.declared.alloc.AllocError.{AllocError}
use Rattle.sw_breach.specs.declared.Breach.{Breach}
use Rattle.sw_check_parts.specs.declared.outcome.Outcome.{Outcome}
use Rattle.sw_check_text.specs.Verdicts.{IsVerdictOn}
use Rattle.sw_decls.specs.declared.signature.AsyncDefault.{AsyncDefault}
use Rattle.sw_verdict.specs.Phases.{Races}
use Rattle.sw_verdict.proofs.Verdicts.{refused_before}
use Rattle.sw_check.specs.Reply.{accepted}
use Rattle.sw_see_breaches.specs.declared.painting.Paint.{Paint}
use Rattle.sw_see.specs.Reply.{Shows, accepts, refuses, shown_outcome}
use Rattle.sw_see.proofs.parts.show.Goals as goal

-- a reply that is known, if there is one
shown_as : (paint : Paint) (rule : AsyncDefault) (file text : List ℕ) (known : Outcome)
    (result : Result Outcome AllocError) → IfOk result (λ outcome. outcome ≡ known)
    → Shows paint rule file text (Ok known)
    → IfOk result (λ outcome. Shows paint rule file text (Ok outcome))
shown_as paint rule file text known (Ok outcome) same shows =
    subst (λ outcome. Shows paint rule file text (Ok outcome)) (sym same) shows
shown_as paint rule file text known (Err error) same shows = tt

pub returns-in-Accepted : goal.returns-in-Accepted
returns-in-Accepted c =
    let is = subst (IsVerdictOn c.args.default c.args.text.now) c.in-Accepted.is
    c.in_ok-check_text.ensures in
    shown_as c.args.paint c.args.default c.args.file.now c.args.text.now accepted _ c.lines.ensures
    (accepts is.accepts)

pub returns-in-Races : goal.returns-in-Races
returns-in-Races c =
    let is = subst (IsVerdictOn c.args.default c.args.text.now) c.in-Races.is
    c.in_ok-check_text.ensures in
    shown_as c.args.paint c.args.default c.args.file.now c.args.text.now
    (shown_outcome c.args.paint c.args.file.now c.args.text.now c.in-Races.breaches) _
    (subst (λ (list : List Breach). IfOk c.refusal.result
    (λ outcome. outcome ≡ shown_outcome c.args.paint c.args.file.now c.args.text.now list))
    c.as_slice.ensures c.refusal.ensures)
    (refuses c.in-Races.breaches is.some is.are)

pub returns : goal.returns
returns c =
    let is = subst (IsVerdictOn c.args.default c.args.text.now) c.in-Refused.is
    c.in_ok-check_text.ensures in
    let list = c.in-Refused.breach ∷ [] in
    shown_as c.args.paint c.args.default c.args.file.now c.args.text.now
    (shown_outcome c.args.paint c.args.file.now c.args.text.now list) _ c.refusal-in-Refused.ensures
    (refuses list (λ e. cc)
    (refused_before c.args.default Races c.args.text.now list (λ e. cc) is))
