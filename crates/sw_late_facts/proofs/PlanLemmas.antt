-- What plans depend on, and what they join.
use Rattle.std.proofs.Common.{◌≡◌, ℕ, refl, ap, ◌∙◌, Bool, true, false, cond}
use Rattle.std.proofs.Common.{ltb, Option, Some, None, List, [], ◌++◌, length, slice_get}
use Rattle.std.specs.Prelude.{option_and_then}
use Rattle.std.specs.Option.{option_map_or}
use Rattle.sw_types.specs.Sendable.{sends_at}
use Rattle.sw_graph.specs.declared.graph.Graph.{Graph}
use Rattle.sw_graph.specs.declared.instr.Instr.TheVariants as instr
use Rattle.sw_graph.specs.Points.{Point, Middle}
use Rattle.sw_value.specs.declared.cell.HeapCell.{HeapCell}
use Rattle.sw_value.specs.declared.cell.HeapCell.TheVariants.{Object, Actor, BoxOf, Closure, TaskOf}
use Rattle.sw_value.specs.declared.executor.Executor.{Executor}
use Rattle.sw_value.specs.declared.executor.Executor.TheVariants as executor
use Rattle.sw_value.specs.declared.frame.Frame.{Frame}
use Rattle.sw_value.specs.declared.state.State.{State}
use Rattle.sw_value.specs.declared.effect.Effect.{Effect}
use Rattle.sw_value.specs.declared.effect.Effect.TheVariants as effect
use Rattle.sw_value.specs.declared.effect.Act.{Act}
use Rattle.sw_value.specs.declared.effect.Act.TheVariants.{Dispatch, Wake, Execute}
use Rattle.sw_value.specs.Frame.{point_at}
use Rattle.sw_value.specs.Job.{top_frame}
use Rattle.sw_color_rules.specs.declared.colors.Owner.{Owner}
use Rattle.sw_color_rules.specs.declared.colors.Owner.TheVariants as owner
use Rattle.sw_color_rules.specs.declared.colors.Tint.{Tint}
use Rattle.sw_color_rules.specs.declared.colors.Tint.TheVariants.{Bare}
use Rattle.sw_color_rules.specs.declared.colors.Palette.{Palette}
use Rattle.sw_color_rules.specs.declared.colors.Colors.{Colors}
use Rattle.sw_color_rules.specs.declared.plan.Plan.{Plan}
use Rattle.sw_color_rules.specs.declared.plan.FrameChange.{FrameChange}
use Rattle.sw_color_rules.specs.declared.plan.FrameChange.TheVariants.{Pushed, Begun}
use Rattle.sw_color_rules.specs.Tints.{color_number, colors_in, colors_of}
use Rattle.sw_color_rules.specs.Plans.{no_plan, joining, bare_cell, colored_cell, new_actor, top_here}
use Rattle.sw_color_rules.specs.Plans.{number_on, is_isolated, new_closure, new_cell}
use Rattle.sw_color_rules.specs.Plans.{store_color, begun_with, passed, sending_of, is_to_actor}
use Rattle.sw_color_rules.specs.Plans.{called_number, called_closure, effect_plan, plan_at, plan_of}

-- ---- what was merged changes no plan
module _ (c : List Tint) (h : List (List ℕ)) (p q : Palette) (e : length p.names ≡ length q.names) where
  abbrev one : Colors
  one = record { cells = c; palette = p; heres = h }

  abbrev other : Colors
  other = record { cells = c; palette = q; heres = h }

  number_same : (on : Executor) → number_on one on ≡ number_on other on
  number_same executor.Generic = refl
  number_same (executor.ActorOf a) = refl
  number_same (executor.Global g) = ap (λ n. cond (ltb g n) (Some g) None) e

  called_same : (point : Point) (frame : Frame)
      → called_number one point frame ≡ called_number other point frame
  called_same (Middle (instr.Call at dst kind f args)) frame =
      ap (λ o. cond (is_to_actor kind) o None) (number_same frame.executor)
  called_same _ frame = refl

  closure_same : (point : Point) (frame : Frame)
      → called_closure one point frame ≡ called_closure other point frame
  closure_same (Middle (instr.CallClosure at dst k args)) frame = refl
  closure_same _ frame = refl

  here_same : (job : ℕ) → top_here one job ≡ top_here other job
  unfolding top_here
  here_same job = refl

  begun_same : (x y : Option ℕ) (o : Owner) (begins : ℕ → FrameChange) (ns ms : List ℕ) → x ≡ y → ns ≡ ms
      → begun_with x o begins (length p.names) ns ≡ begun_with y o begins (length q.names) ms
  begun_same x y o begins ns ms same sames =
      ap (λ z. begun_with z o begins (length p.names) ns) same
      ∙ ap (λ n. begun_with y o begins n ns) e ∙ ap (begun_with y o begins (length q.names)) sames

  cell_same : (graph : Graph) (job n : ℕ) (cell : HeapCell)
      → new_cell graph one job n cell ≡ new_cell graph other job n cell
  unfolding top_here
  cell_same graph job n (Object k parts) =
      ap (λ m. cond (sends_at graph.shapes k) (bare_cell (top_here one job ++ colors_of c parts))
      (colored_cell job m (colors_of c parts))) e
  cell_same graph job n (Actor k parts) =
      ap (λ m. new_actor n m (top_here one job ++ colors_of c parts)) e
  cell_same graph job n (BoxOf v) = ap (λ m. colored_cell job m (colors_in c v)) e
  cell_same graph job n (Closure f captures) = by (is_isolated graph f) where
    by : (b : Bool) → new_closure one b job (colors_of c captures)
        ≡ new_closure other b job (colors_of c captures)
    by true = ap (λ m. colored_cell job m (top_here one job ++ colors_of c captures)) e
    by false = refl
  cell_same graph job n (TaskOf j) = refl

  store_same : (job : ℕ) (o : Option ℕ) → store_color one job o ≡ store_color other job o
  store_same job None = here_same job
  store_same job (Some n) = refl

  effect_same : (graph : Graph) (job : ℕ) (top : Frame) (point : Point) (f : Effect)
      → effect_plan graph one job top point f ≡ effect_plan graph other job top point f
  effect_same graph job top point (effect.Set r v next) = refl
  effect_same graph job top point (effect.SetField r i v next) = refl
  effect_same graph job top point (effect.Print r line next) = refl
  effect_same graph job top point (effect.New r cell n next) = cell_same graph job n cell
  effect_same graph job top point (effect.Write n slot v next) =
      ap (λ ns. joining (ns ++ colors_in c v)) (store_same job (color_number c n))
  effect_same graph job top point (effect.WriteGlobal g v next) =
      ap (λ ns. joining (ns ++ colors_in c v)) (here_same job)
  effect_same graph job top point (effect.Goto next) = refl
  effect_same graph job top point (effect.Enter frame next) =
      begun_same (called_number one point frame) (called_number other point frame) (owner.Job job) Pushed
      (called_closure one point top ++ passed c (sending_of graph frame.function) frame.regs)
      (called_closure other point top ++ passed c (sending_of graph frame.function) frame.regs)
      (called_same point frame)
      (ap (λ ns. ns ++ passed c (sending_of graph frame.function) frame.regs) (closure_same point top))
  effect_same graph job top point (effect.Spawn r frame made cell next) =
      ap (λ (plan : Plan). record plan { tint = Some Bare; heir = Some made })
      (begun_same (number_on one frame.executor) (number_on other frame.executor) (owner.Job made) Begun
      (passed c [] frame.regs) (passed c [] frame.regs) (number_same frame.executor) refl)
  effect_same graph job top point (effect.Wait on r next) = refl
  effect_same graph job top point (effect.Rest r next) = refl
  effect_same graph job top point (effect.Leave v) = refl
  effect_same graph job top point (effect.Halt kind at) = refl
  effect_same graph job top point effect.Stuck = refl

  plan_same_by : (graph : Graph) (state : State) (job : ℕ) (act : Act)
      → plan_of graph state one job act ≡ plan_of graph state other job act
  plan_same_by graph state job Dispatch = refl
  plan_same_by graph state job (Wake ended r v) = refl
  plan_same_by graph state job (Execute f) =
      ap (λ g. option_map_or g (option_and_then top_frame (slice_get state.jobs job)) no_plan)
      (λ i top. at_same top i)
    where
      at_same : (top : Frame) → plan_at graph one job f top ≡ plan_at graph other job f top
      at_same top =
          ap (λ g. option_map_or g (point_at graph top) no_plan)
          (λ i point. effect_same graph job top point f i)

-- A plan depends on cells, on frames and on how many colours were made.
pub plan_same : (graph : Graph) (state : State) (one other : Colors) → one.cells ≡ other.cells
    → one.heres ≡ other.heres → length one.palette.names ≡ length other.palette.names
    → (job : ℕ) (act : Act) → plan_of graph state one job act ≡ plan_of graph state other job act
plan_same graph state one other cells heres counts job act =
    ap (λ c. plan_of graph state (record { cells = c; palette = one.palette; heres = one.heres }) job act)
    cells
    ∙ ap (λ h. plan_of graph state (record { cells = other.cells; palette = one.palette; heres = h }) job
    act) heres
    ∙ plan_same_by other.cells other.heres one.palette other.palette counts graph state job act
