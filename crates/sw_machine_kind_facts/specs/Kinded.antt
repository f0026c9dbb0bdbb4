-- What each state keeps that items lead to: each value has the kind of its place.
use Rattle.std.specs.Prelude.{◌≡◌, ℕ, ◌<◌, ◌⊎◌, Some, List, length, map, slice_get}
use Rattle.sw_types.specs.declared.ty.Ty.{Ty}
use Rattle.sw_graph.specs.declared.function.GlobalKind.{GlobalKind}
use Rattle.sw_graph.specs.declared.function.RegKind.{RegKind}
use Rattle.sw_graph.specs.declared.function.RegKind.TheVariants.{Plain}
use Rattle.sw_graph.specs.declared.graph.Graph.{Graph}
use Rattle.sw_value.specs.declared.cell.HeapCell.{HeapCell}
use Rattle.sw_value.specs.declared.job.Job.{Job}
use Rattle.sw_value.specs.declared.state.State.{State}
use Rattle.sw_machine_kind_facts.specs.Kinds.{Referents, Grows, SlotsFit, CellFits}
use Rattle.sw_machine_kind_facts.specs.Standing.{JobFits}
use Rattle.sw_machine_kind_facts.specs.FirstValues.{HasValue, IsBeginning}

abbrev pub global_kinds : List GlobalKind → List RegKind
global_kinds globals = map (λ (global : GlobalKind). Plain global.ty) globals

-- The cells, the globals and the jobs fit, by the kinds of the cells and the results of the jobs.
pub record StateFits (graph : Graph) (world : Referents) (state : State) : Type 0 where
  pub cell_count : length state.cells ≡ length world.cells
  pub job_count : length state.jobs ≡ length world.results
  pub cells : (c : ℕ) (cell : HeapCell) (kind : RegKind) → slice_get state.cells c ≡ Some cell
      → slice_get world.cells c ≡ Some kind → CellFits graph world cell kind
  pub globals : SlotsFit graph.shapes world.cells state.globals (global_kinds graph.globals)
  pub jobs : (j : ℕ) (job : Job) (result : Ty) → slice_get state.jobs j ≡ Some job
      → slice_get world.results j ≡ Some result → JobFits graph world job result

pub record Kinded (graph : Graph) (state : State) : Type 0 where
  pub world : Referents
  pub fits : StateFits graph world state
  pub firsts : (g : ℕ) → g < length graph.globals → HasValue state g ⊎ IsBeginning graph state g

-- The state is kinded by a world that has grown.
pub record KindedLater (graph : Graph) (world : Referents) (state : State) : Type 0 where
  pub kinded : Kinded graph state
  pub grows : Grows world kinded.world
