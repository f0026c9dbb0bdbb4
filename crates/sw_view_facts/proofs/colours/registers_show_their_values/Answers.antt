use Rattle.sw_view_facts.proofs.ValueLemmas as shows
use Rattle.sw_view_facts.proofs.colours.registers_show_their_values.Goals as goal

pub returns : goal.returns
returns c = record {
  value = shows.register_shows;
  field = shows.field_shows;
  void = shows.void_shows;
}
