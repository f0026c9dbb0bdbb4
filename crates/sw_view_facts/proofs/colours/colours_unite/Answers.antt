use Rattle.sw_view_facts.proofs.RenameLemmas as rename
use Rattle.sw_view_facts.proofs.colours.colours_unite.Goals as goal

pub returns : goal.returns
returns c = record {
  recoloured = rename.recoloured;
  unite = rename.unites_all;
  hand_over = rename.hands_over;
}
