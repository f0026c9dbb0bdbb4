use Rattle.sw_value.proofs.StaysInBounds.{few_jobs, few_cells}
use Rattle.sw_value.proofs.laws.states_stay_in_bounds.Goals as goal

pub returns-clause-jobs : goal.returns-clause-jobs
returns-clause-jobs c = few_jobs

pub returns-clause-cells : goal.returns-clause-cells
returns-clause-cells c = few_cells
