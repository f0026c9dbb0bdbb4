-- What comes of items is the same on both machines.
use Rattle.std.proofs.Common.{◌≡◌, ℕ, cond, List, [], ◌∷◌, ◌++◌, flat_map, refl, ap, arith}
use Rattle.std.proofs.lemmas.List.Sums.{sum_by-cons}
use Rattle.std.specs.List.{AllZip}
use Rattle.std.specs.Prelude.{count_by, is_some}
use Rattle.sw_graph.specs.declared.graph.Graph.{Graph}
use Rattle.sw_value.specs.declared.job.Job.{Job}
use Rattle.sw_value.specs.declared.state.State.{State}
use Rattle.sw_value.specs.Reach.{step_of}
use Rattle.sw_step.specs.Event.{event_of}
use Rattle.sw_replay.specs.Output as graphs
use Rattle.sw_replay.specs.Output.{line_of, lines_from}
use Rattle.sw_tree_step.specs.State.{TreeJob}
use Rattle.sw_spots.specs.Spots.{Program}
use Rattle.sw_tree_same.specs.States.{JobsMatch, graph_events}
use Rattle.sw_tree_same.proofs.Jobs.{ended_same}
use Rattle.sw_tree_law.specs.Programs.{has_ended}

pub lines_same : (graph : Graph) (state : State) (items : List ℕ)
    → flat_map line_of (graph_events graph state items) ≡ lines_from graph state items
unfolding graph_events
lines_same graph state [] = refl
lines_same graph state (item ∷ items) =
    ap (λ more. line_of (event_of graph state item) ++ more)
    (lines_same graph (step_of graph state item) items)

module _ (p : Program) (graph : Graph) where
  one_ended : (tree : TreeJob) (job : Job) → JobsMatch p graph tree job
      → has_ended tree ≡ graphs.has_ended job
  unfolding graphs.has_ended
  one_ended tree job both = ap is_some (ended_same tree.status job.status both.status)

  pub count_ended : (trees : List TreeJob) (jobs : List Job)
      → AllZip (JobsMatch p graph) trees jobs
      → count_by has_ended trees ≡ count_by graphs.has_ended jobs
  count_ended [] [] both = refl
  count_ended (tree ∷ trees) (job ∷ jobs) both =
      omega (
        arith,
        sum_by-cons (λ (one : TreeJob). cond (has_ended one) 1 0) tree trees,
        sum_by-cons (λ (one : Job). cond (graphs.has_ended one) 1 0) job jobs,
        ap {B = ℕ} (λ is. cond is 1 0) (one_ended tree job both.0),
        count_ended trees jobs both.1,
      )
  count_ended [] (job ∷ jobs) both = absurd both
  count_ended (tree ∷ trees) [] both = absurd both
