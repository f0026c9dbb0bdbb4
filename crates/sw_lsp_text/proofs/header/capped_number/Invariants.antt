use Rattle.std.proofs.Common.{◌≡◌, min, take}
use Rattle.sw_lsp_text.specs.Header.{number_of}
use Rattle.sw_lsp_text.proofs.header.capped_number.Given as goal

abbrev pub invariant-loop-digit : goal.invariant-loop-digit
invariant-loop-digit l = l.number ≡ min (number_of (take l.digit-index l.digits)) 16777217
