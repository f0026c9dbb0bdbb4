use Rattle.sw_parse_decl.proofs.ProgramTexts.{given_stand}
use Rattle.sw_parse_decl.proofs.laws.texts_have_ids.Goals as goal

pub returns : goal.returns
returns c = given_stand
