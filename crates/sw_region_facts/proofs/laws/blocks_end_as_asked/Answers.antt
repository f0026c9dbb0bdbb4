use Rattle.sw_region_facts.proofs.Annotated.{asks_at, goes_on}
use Rattle.sw_region_facts.proofs.laws.blocks_end_as_asked.Goals as goal

pub returns : goal.returns
returns c = record { asks = asks_at; goes_on = goes_on }
