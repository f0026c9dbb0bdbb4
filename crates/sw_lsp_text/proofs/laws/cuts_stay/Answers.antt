use Rattle.sw_lsp_text.proofs.Stays.{cut_is_one, cut_stays}
use Rattle.sw_lsp_text.proofs.laws.cuts_stay.Goals as goal

pub returns : goal.returns
returns c = record { one = cut_is_one; stays = cut_stays }
