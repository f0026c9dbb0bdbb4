use Rattle.std.proofs.Common.{◌≡◌, length}
use Rattle.sw_lsp_text.specs.Header.{value_in}
use Rattle.sw_lsp_text.proofs.header.value_in.Given as goal

abbrev pub invariant-loop-end : goal.invariant-loop-end
invariant-loop-end l = value_in l.rest ≡ value_in l.lines

abbrev pub decreases-loop-end : goal.decreases-loop-end
decreases-loop-end l = length l.rest
