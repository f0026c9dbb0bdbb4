use Rattle.std.proofs.Common.{◌≡◌}
use Rattle.sw_lsp_mends.specs.Sites.{behind_arrow}
use Rattle.sw_lsp_mends.proofs.sites.behind_arrow.Given as goal

abbrev pub invariant-loop-number : goal.invariant-loop-number
invariant-loop-number l = behind_arrow l.table l.from ≡ behind_arrow l.table l.number
