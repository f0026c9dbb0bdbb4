use Rattle.std.proofs.Common.{is_some, sym, ap, ◌∙◌}
use Rattle.sw_lsp_text.proofs.Changes.{found_ranged, none_ranged, not_ranged, seen_some}
use Rattle.sw_lsp_text.proofs.message.has_range.Goals as goal

pub returns-then-is_some : goal.returns-then-is_some
returns-then-is_some c =
    found_ranged c.args.changes.now c.loop-change.change-index c.change-item.result c.loop-change-test.true
    c.change-item.is (ap is_some (sym c.get.ensures) ∙ seen_some c.get.result ∙ sym c.if-is_some.ensures)
    c.loop-change.invariant

pub loop-change-preserved : goal.loop-change-preserved
loop-change-preserved c =
    not_ranged c.args.changes.now c.loop-change.change-index c.change-item.result c.loop-change-test.true
    c.change-item.is (ap is_some (sym c.get.ensures) ∙ seen_some c.get.result ∙ sym c.if-is_some.ensures)
    c.loop-change.invariant

pub returns : goal.returns
returns c =
    none_ranged c.args.changes.now c.loop-change.change-index c.loop-change-test.false c.loop-change.invariant
