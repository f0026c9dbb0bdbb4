use Rattle.std.proofs.Common.{◌≡◌, drop}
use Rattle.serde_json.specs.View.{items_view}
use Rattle.sw_lsp_text.specs.Changes.{has_range}
use Rattle.sw_lsp_text.proofs.message.has_range.Given as goal

abbrev pub invariant-loop-change : goal.invariant-loop-change
invariant-loop-change l =
    has_range (items_view (drop l.change-index l.changes)) ≡ has_range (items_view l.changes)
