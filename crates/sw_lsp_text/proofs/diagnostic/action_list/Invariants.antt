use Rattle.std.proofs.Common.{◌≡◌, map, take}
use Rattle.serde_json.specs.View.{view}
use Rattle.sw_lsp_text.specs.Diagnostics as json
use Rattle.sw_lsp_text.proofs.diagnostic.action_list.Given as goal

abbrev pub invariant-loop-one : goal.invariant-loop-one
invariant-loop-one l = map view l.list.items ≡ map (json.action l.uri) (take l.one-index l.all)
