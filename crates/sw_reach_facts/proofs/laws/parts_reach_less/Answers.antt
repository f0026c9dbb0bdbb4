use Rattle.sw_reach_facts.proofs.PartLemmas as part
use Rattle.sw_reach_facts.proofs.laws.parts_reach_less.Goals as goal

pub returns : goal.returns
returns g c = record {
  part = part.part_within;
  payload = part.payload_within;
  made = part.made_shows;
  with_field = part.with_field_within;
}
