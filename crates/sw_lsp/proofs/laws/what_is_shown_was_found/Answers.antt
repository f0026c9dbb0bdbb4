use Rattle.sw_lsp.proofs.Lasting.{shown_right}
use Rattle.sw_lsp.proofs.laws.what_is_shown_was_found.Goals as goal

pub returns : goal.returns
returns c = shown_right
