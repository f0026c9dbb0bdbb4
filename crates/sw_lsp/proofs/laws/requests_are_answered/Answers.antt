use Rattle.sw_lsp.proofs.Answering.{all_answered}
use Rattle.sw_lsp.proofs.laws.requests_are_answered.Goals as goal

pub returns : goal.returns
returns c = all_answered
