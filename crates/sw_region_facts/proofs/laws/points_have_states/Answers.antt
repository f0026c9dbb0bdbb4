use Rattle.sw_region_facts.proofs.Annotated.{reached_at, sized_at, lent_here}
use Rattle.sw_region_facts.proofs.laws.points_have_states.Goals as goal

pub returns : goal.returns
returns c = record { reached = reached_at; sized = sized_at; lent = lent_here }
