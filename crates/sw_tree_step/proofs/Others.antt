-- What stays of the jobs other than the one that an item names.
use Rattle.std.proofs.Common.{◌≡◌, ◌∙◌, ℕ, Option, Some, None}
use Rattle.std.specs.Prelude.{slice_get}
use Rattle.sw_list.proofs.ListLemmas.{slice_get_before}
use Rattle.sw_machine_access_facts.proofs.CellLemmas.{changed_other}
use Rattle.sw_tree_work.specs.Bodies.{Bodies}
use Rattle.sw_tree_step.specs.Acting.{Outside, Spawns}
use Rattle.sw_tree_step.specs.State.{TreeJob, TreeState}
use Rattle.sw_tree_step.specs.Step.{Dispatches, Does, Move, Wakes, after, around, job_after, move_of}
use Rattle.sw_tree_step.specs.Step.{outside_after, tree_step_of}

stays_outside : (outside : Outside) (state : TreeState) (i : ℕ) (job : TreeJob)
    → slice_get state.jobs i ≡ Some job
    → slice_get (outside_after outside state).jobs i ≡ Some job
stays_outside (Spawns frame) state i job is = slice_get_before state.jobs _ i job is
stays_outside _ state i job is = is

stays_around : (move : Move) (state : TreeState) (i : ℕ) (job : TreeJob)
    → slice_get state.jobs i ≡ Some job → slice_get (around move state).jobs i ≡ Some job
stays_around Dispatches state i job is = is
stays_around (Wakes on v) state i job is = is
stays_around (Does done) state i job is = stays_outside done.outside state i job is

pub others_stay : (bodies : Bodies) (state : TreeState) (j i : ℕ) (job : TreeJob) → (i ≡ j → ⊥)
    → slice_get state.jobs i ≡ Some job
    → slice_get (tree_step_of bodies state j).jobs i ≡ Some job
unfolding tree_step_of
others_stay bodies state j i job apart is = by (move_of bodies state j) where
  by : (move : Option Move) → slice_get (after move j state).jobs i ≡ Some job
  by None = is
  by (Some move) = changed_other (job_after move) j i (around move state).jobs apart
      ∙ stays_around move state i job is
