use Rattle.sw_typing_rules.proofs.Wellness.{well_body, well_value}
use Rattle.sw_typing_rules.proofs.laws.well_programs_have_types.Goals as goal

-- src/laws.rt:92:1
pub returns-clause-bodies : goal.returns-clause-bodies
returns-clause-bodies c = well_body

-- src/laws.rt:92:1
pub returns-clause-values : goal.returns-clause-values
returns-clause-values c = well_value
