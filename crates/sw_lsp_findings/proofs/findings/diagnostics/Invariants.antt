use Rattle.std.proofs.Common.{◌≡◌, map, take}
use Rattle.sw_lsp_findings.specs.Findings.{finding_of, shown}
use Rattle.sw_lsp_findings.proofs.findings.diagnostics.Given as goal

abbrev pub invariant-loop-breach : goal.invariant-loop-breach
invariant-loop-breach l =
    map shown l.found.items ≡ map (finding_of l.setting l.uri l.table) (take l.breach-index l.breaches)
