use Rattle.sw_region_facts.proofs.Annotated.{row_at, next_state}
use Rattle.sw_region_facts.proofs.laws.instructions_keep_their_rows.Goals as goal

pub returns : goal.returns
returns c = record { row = row_at; made = next_state }
