use Rattle.std.proofs.Common.{arith}
use Rattle.sw_lsp_places.proofs.laws.lines_are_those_of_messages.Goals as goal

pub returns : goal.returns
returns c = λ text at. omega arith
