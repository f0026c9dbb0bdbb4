use Rattle.sw_late_facts.proofs.Removed.{step_state, reach_state}
use Rattle.sw_late_facts.proofs.laws.late_colors_removed.Goals as goal

pub returns-clause-step : goal.returns-clause-step
returns-clause-step c = step_state

pub returns-clause-reach : goal.returns-clause-reach
returns-clause-reach c = reach_state
