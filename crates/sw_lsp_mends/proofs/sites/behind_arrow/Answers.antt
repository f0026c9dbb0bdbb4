use Rattle.std.proofs.Common.{sym, ◌∙◌, arith}
use Rattle.sw_lsp_mends.proofs.Searching.{arrow_here, arrow_later, no_arrow_left}
use Rattle.sw_lsp_mends.proofs.sites.behind_arrow.Goals as goal

pub returns-then-is_at : goal.returns-then-is_at
returns-then-is_at c =
    c.start_at.ensures ∙ arrow_here c.args.table.now c.loop-number.number (sym c.is_at.ensures ∙ c.if-is_at.true)
    ∙ sym c.loop-number.invariant

pub loop-number-preserved : goal.loop-number-preserved
loop-number-preserved c =
    c.loop-number.invariant
    ∙ arrow_later c.args.table.now c.loop-number.number (sym c.is_at.ensures ∙ c.if-is_at.false)
    (omega (arith, c.token_count-number-end.ensures.value))

pub returns : goal.returns
returns c =
    no_arrow_left c.args.table.now c.loop-number.number (omega (arith, c.token_count-number-end.ensures.value))
    ∙ sym c.loop-number.invariant
