-- The clocked states that items lead to.
use Rattle.std.specs.Prelude.{◌≡◌, ℕ, ◌<◌, ◌≤◌, nat_lt, Bool, false, not, Option, Some, None, length}
use Rattle.sw_graph.specs.declared.graph.Graph.{Graph}
use Rattle.sw_value.specs.declared.state.State.{State}
use Rattle.sw_value.specs.Reach.{reach}
use Rattle.sw_before.specs.Events.{events_of}
use Rattle.sw_clocks.specs.declared.links.TheConstants.{MOST_JOBS}
use Rattle.sw_hb.specs.declared.clocked.Clocked.{Clocked}
use Rattle.sw_hb.specs.History.{IsHistory}

-- a state has more jobs than there are clocks for
abbrev pub HasManyJobs : State → Type 0
HasManyJobs state = MOST_JOBS < length state.jobs

-- The clocked state that its items lead to.
pub record IsClocked (graph : Graph) (clocked : Clocked) : Type 0 where
  pub state_is : clocked.state ≡ reach graph clocked.items
  pub few_jobs : length clocked.state.jobs ≤ MOST_JOBS
  pub history_is : IsHistory (events_of graph clocked.items) clocked.history

-- whether a job that is made, if one is, has no clocks
abbrev pub is_one_too_many : Option ℕ → Bool
is_one_too_many None = false
is_one_too_many (Some made) = not (nat_lt made MOST_JOBS)
