use Rattle.std.proofs.Common.{refl}
use Rattle.sw_lsp_places.proofs.laws.characters_have_their_units.Goals as goal

pub returns : goal.returns
returns c = record {
  two_bytes = refl;
  three_bytes = refl;
  four_bytes = refl;
  next_line = (refl, refl);
}
