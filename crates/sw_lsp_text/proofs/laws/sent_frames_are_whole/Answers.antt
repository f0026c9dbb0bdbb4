use Rattle.sw_lsp_text.proofs.Whole.{sent_is_cut_off}
use Rattle.sw_lsp_text.proofs.laws.sent_frames_are_whole.Goals as goal

pub returns : goal.returns
returns c = λ message sent more frame short. sent_is_cut_off frame.body sent more frame.sent_is short
