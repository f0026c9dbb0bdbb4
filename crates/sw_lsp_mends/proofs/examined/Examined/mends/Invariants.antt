use Rattle.std.proofs.Common.{map, take}
use Rattle.sw_lsp_mends.specs.Offers.{AreMends, seen_action}
use Rattle.sw_lsp_mends.proofs.examined.Examined.mends.Given as goal

abbrev pub invariant-loop-breach : goal.invariant-loop-breach
invariant-loop-breach l = AreMends l.self (take l.breach-index l.breaches) (map seen_action l.found.items)
