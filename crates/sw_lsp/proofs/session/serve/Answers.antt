use Rattle.std.proofs.Common.{◌≡◌, None, sym, subst, ap, ◌∙◌, rules}
use Rattle.sw_lsp_text.specs.Frames.{IsCut}
use Rattle.sw_lsp_text.specs.declared.frame.Cut.TheVariants as cut
use Rattle.sw_lsp.specs.Served.{IsServed, end_with}
use Rattle.sw_lsp.specs.Session.{ended_as}
use Rattle.sw_lsp.specs.declared.ending.Ending.TheVariants as ending
use Rattle.sw_lsp.proofs.Lasting.{served, served_to_the_end}
use Rattle.sw_lsp.proofs.Turns.{begins, ended_so, takes_in, turns}
use Rattle.sw_lsp.proofs.session.serve.Goals as goal
use Rattle.sw_lsp.proofs.session.serve.Goals.{in-Partial+in_ok-take_in-in-Partial+else-not-branch, in-Whole+in_ok-answer_body-in-Whole, in-NoLength+in_ok-answer_header-in-NoLength, in-NoNumber+in_ok-answer_header-in-NoNumber}

pub loop-init : goal.loop-init
loop-init g c = rw (c.new-held.ensures.items, c.new-server.ensures) (begins c.args.setting _ _)

pub returns-in-Some : goal.returns-in-Some
returns-in-Some g c =
    served c.args.setting _ _ _ _ c.loop.held.items c.loop.server c.in-Some.ending c.loop.invariant
    (ended_so c.phase.result c.in-Some.ending c.loop.server c.loop.held.items _ (sym c.phase.ensures)
    c.in-Some.ensures)

pub returns-then-not-branch : goal.returns-then-not-branch
returns-then-not-branch g c =
    let took = c.in_ok-take_in-in-Partial.ensures in
    let is = subst (λ xs. IsCut xs cut.Partial) c.as_slice.ensures.value c.in-Partial.ensures.cut in
    subst (IsServed c.args.setting (g.R.Read.remaining c.args.input.now) (g.R.Read.remaining c.take_in.new.input)
    (g.W.Write.contents c.args.output.now) (g.W.Write.contents c.loop.output))
    (sym (c.ended_at.ensures ∙ ap end_with c.as_slice-then-not-branch.ensures.value))
    (served_to_the_end c.args.setting _ _ _ _ _ c.loop.held.items c.take_in.new.held.items took.more.0
    c.loop.server c.loop.invariant took.more.1 took.more.2 (took.end (search rules)) is)

pub returns-in-Endless : goal.returns-in-Endless
returns-in-Endless g c =
    served c.args.setting _ _ _ _ c.loop.held.items c.loop.server ending.TooLong c.loop.invariant
    (cut.Endless, subst (λ xs. IsCut xs cut.Endless) c.as_slice.ensures.value c.in-Endless.ensures.cut, tt)

pub returns-in-TooLong : goal.returns-in-TooLong
returns-in-TooLong g c =
    served c.args.setting _ _ _ _ c.loop.held.items c.loop.server ending.TooLong c.loop.invariant (
      cut.TooLong c.in-TooLong.header,
      subst (λ xs. IsCut xs (cut.TooLong c.in-TooLong.header)) c.as_slice.ensures.value
          c.in-TooLong.ensures.cut,
      tt,
    )

pub loop-preserved : goal.loop-preserved
loop-preserved g c =
    let result_is : ended_as c.phase.result ≡ None = cc in
    let goes_on : ended_as c.loop.server.phase ≡ None = ap ended_as (sym c.phase.ensures) ∙ result_is in
    elim c.match-first_cut.branch [
      | in-Partial+in_ok-take_in-in-Partial+else-not-branch w ↦
          let took = w.in_ok-take_in-in-Partial.ensures in
          rw (w.input-is, w.output-is, w.server-is, w.held-is, took.more.2)
          (takes_in c.args.setting _ _ _ _ _ c.loop.held.items took.more.0 c.loop.server c.loop.invariant
          took.more.1)
      | in-Whole+in_ok-answer_body-in-Whole w ↦
          rw (w.input-is, w.output-is, w.server-is, w.held-is)
          (turns c.args.setting _ _ _ _ _ c.loop.held.items _ c.loop.server _ c.loop.invariant goes_on
          w.in_ok-answer_body-in-Whole.ensures)
      | in-NoLength+in_ok-answer_header-in-NoLength w ↦
          rw (w.input-is, w.output-is, w.server-is, w.held-is)
          (turns c.args.setting _ _ _ _ _ c.loop.held.items _ c.loop.server _ c.loop.invariant goes_on
          w.in_ok-answer_header-in-NoLength.ensures)
      | in-NoNumber+in_ok-answer_header-in-NoNumber w ↦
          rw (w.input-is, w.output-is, w.server-is, w.held-is)
          (turns c.args.setting _ _ _ _ _ c.loop.held.items _ c.loop.server _ c.loop.invariant goes_on
          w.in_ok-answer_header-in-NoNumber.ensures)
    ]
