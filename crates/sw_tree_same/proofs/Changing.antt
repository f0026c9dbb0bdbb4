-- What an effect changes besides the job that has it: cells, global variables and jobs match again.
use Rattle.std.proofs.Common.{◌≡◌, ℕ, Some, List, [], ◌∷◌, ◌++◌, refl, ap, sym, subst}
use Rattle.std.specs.Prelude.{slice_get, slice_set}
use Rattle.sw_graph.specs.declared.graph.Graph.{Graph}
use Rattle.sw_value.specs.declared.cell.HeapCell.{HeapCell}
use Rattle.sw_value.specs.declared.cell.HeapCell.TheVariants as cell
use Rattle.sw_value.specs.declared.cell.Slot.{Slot}
use Rattle.sw_value.specs.declared.cell.Slot.TheVariants as slots
use Rattle.sw_value.specs.declared.job.Job.{Job}
use Rattle.sw_value.specs.declared.state.State.{State}
use Rattle.sw_value.specs.declared.state.TrapKind.{TrapKind}
use Rattle.sw_value.specs.declared.value.Value.{Value}
use Rattle.sw_value.specs.Cell.{with_slot}
use Rattle.sw_value.specs.State.{add_cell, add_job, halt, in_cell, in_job, set_global}
use Rattle.sw_spots.specs.Spots.{Program}
use Rattle.sw_tree_step.specs.Acting.{Adds, Halts, Writes, WritesGlobal}
use Rattle.sw_tree_step.specs.State.{Closed, Kept, TreeCell, TreeJob, TreeState}
use Rattle.sw_tree_step.specs.Step as step
use Rattle.sw_tree_step.specs.Step.{outside_after, written}
use Rattle.sw_tree_same.specs.States.{CellsMatch, IsNoClosure, JobsMatch, StatesMatch}
use Rattle.sw_tree_same.proofs.Zips.{zip_both, zip_changed, zip_changed_left, zip_kept}

still_none : (slot : Slot) (v : Value) (other : HeapCell) → IsNoClosure other
    → IsNoClosure (with_slot slot v other)
still_none (slots.Part i) v (cell.Object k parts) none = tt
still_none (slots.Part i) v (cell.Actor k parts) none = tt
still_none (slots.Part i) v (cell.BoxOf held) none = tt
still_none (slots.Part i) v (cell.TaskOf job) none = tt
still_none (slots.Part i) v (cell.Closure number values) none = absurd none
still_none slots.Content v (cell.Object k parts) none = tt
still_none slots.Content v (cell.Actor k parts) none = tt
still_none slots.Content v (cell.BoxOf held) none = tt
still_none slots.Content v (cell.TaskOf job) none = tt
still_none slots.Content v (cell.Closure number values) none = absurd none

-- a closure has no slots
still_closed : (slot : Slot) (v : Value) (number : ℕ) (values : List Value)
    → with_slot slot v (cell.Closure number values) ≡ cell.Closure number values
still_closed (slots.Part i) v number values = refl
still_closed slots.Content v number values = refl

module _ (p : Program) (graph : Graph) (trees : TreeState) (state : State)
    (m : StatesMatch p graph trees state) where
  slot_written : (slot : Slot) (v : Value) (one : TreeCell) (other : HeapCell)
      → CellsMatch p one other → CellsMatch p (written slot v one) (with_slot slot v other)
  slot_written slot v (Kept one) other same =
      (ap (with_slot slot v) same.0, still_none slot v other same.1)
  slot_written slot v (Closed key params body env) (cell.Closure number values) same =
      subst (CellsMatch p (Closed key params body env)) (sym (still_closed slot v number values)) same
  slot_written slot v (Closed key params body env) other same = absurd same

  -- a cell is added
  pub added : (one : TreeCell) (other : HeapCell) → CellsMatch p one other
      → StatesMatch p graph (outside_after (Adds one) trees) (add_cell other state)
  unfolding add_cell
  added one other same = record {
    cells = zip_both (CellsMatch p) trees.cells (one ∷ []) state.cells (other ∷ []) m.cells (same, tt);
    globals = m.globals;
    jobs = m.jobs;
    halted = m.halted;
  }

  -- a slot of a cell is written
  pub wrote : (k : ℕ) (slot : Slot) (v : Value)
      → StatesMatch p graph (outside_after (Writes k slot v) trees)
      (in_cell (with_slot slot v) k state)
  unfolding in_cell
  wrote k slot v = record {
    cells = zip_kept (CellsMatch p) (written slot v) (with_slot slot v) k trees.cells state.cells
        m.cells (slot_written slot v);
    globals = m.globals;
    jobs = m.jobs;
    halted = m.halted;
  }

  -- a global variable is written
  pub wrote_global : (g : ℕ) (v : Value)
      → StatesMatch p graph (outside_after (WritesGlobal g v) trees) (set_global g v state)
  unfolding set_global
  wrote_global g v = record {
    cells = m.cells;
    globals = ap (λ globals. slice_set globals g (Some v)) m.globals;
    jobs = m.jobs;
    halted = m.halted;
  }

  -- a job is added
  pub added_job : (one : TreeJob) (other : Job) → JobsMatch p graph one other
      → StatesMatch p graph (record trees { jobs = trees.jobs ++ one ∷ [] }) (add_job other state)
  unfolding add_job
  added_job one other same = record {
    cells = m.cells;
    globals = m.globals;
    jobs = zip_both (JobsMatch p graph) trees.jobs (one ∷ []) state.jobs (other ∷ []) m.jobs
        (same, tt);
    halted = m.halted;
  }

  module _ (j : ℕ) (one : TreeJob) (other : Job) (at : slice_get trees.jobs j ≡ Some one)
      (there : slice_get state.jobs j ≡ Some other) where
    -- a job is changed
    pub job_put : (g : TreeJob → TreeJob) (h : Job → Job) → JobsMatch p graph (g one) (h other)
        → StatesMatch p graph (step.in_job g j trees) (in_job h j state)
    unfolding in_job
    job_put g h same = record {
      cells = m.cells;
      globals = m.globals;
      jobs = zip_changed (JobsMatch p graph) g h j one other trees.jobs state.jobs m.jobs at there same;
      halted = m.halted;
    }

    -- the machine halts
    pub halts_both : (kind : TrapKind) (place : ℕ) (g : TreeJob → TreeJob)
        → JobsMatch p graph (g one) other
        → StatesMatch p graph (step.in_job g j (outside_after (Halts kind place) trees))
        (halt kind place state)
    unfolding halt
    halts_both kind place g same = record {
      cells = m.cells;
      globals = m.globals;
      jobs = zip_changed_left (JobsMatch p graph) g j one other trees.jobs state.jobs m.jobs at there
          same;
      halted = refl;
    }
