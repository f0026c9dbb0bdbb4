-- A frame that begins on the graph has a value in each register that its function takes.
use Rattle.std.proofs.Common.{◌≡◌, ℕ, ◌<◌, Bool, true, false, Some, None, List, [], ◌∷◌, refl}
use Rattle.std.proofs.Common.{sym, ◌∙◌, subst, arith}
use Rattle.std.proofs.lemmas.Bool.Decides.{nat_tests}
use Rattle.std.specs.Prelude.{IsTrue, ◌||◌, slice_get}
use Rattle.sw_list.proofs.ListLemmas.{some_injective}
use Rattle.sw_graph.specs.declared.function.Function.{Function}
use Rattle.sw_graph.specs.declared.function.RegKind.{RegKind}
use Rattle.sw_graph.specs.declared.graph.Graph.{Graph}
use Rattle.sw_graph.specs.Points.{point_in}
use Rattle.sw_graph.specs.Supplied.{IsSupplied}
use Rattle.sw_graph.specs.Ways.{is_set, point_sets}
use Rattle.sw_value.specs.declared.effect.Effect.{Effect}
use Rattle.sw_value.specs.declared.effect.Effect.TheVariants as effect
use Rattle.sw_value.specs.declared.frame.Frame.{Frame}
use Rattle.sw_value.specs.declared.job.Job.{Job}
use Rattle.sw_value.specs.declared.job.Status.TheVariants.{Running}
use Rattle.sw_value.specs.declared.state.State.{State}
use Rattle.sw_value.specs.Effect.{effect_of}
use Rattle.sw_value.specs.Job.{top_frame}
use Rattle.sw_machine_kind_facts.specs.Kinded.{Kinded}
use Rattle.sw_machine_kind_facts.specs.Kinds.{Referents}
use Rattle.sw_machine_kind_facts.specs.Standing.{FrameFits}
use Rattle.sw_machine_kind_facts.proofs.LastLemmas.{effect_fits}
use Rattle.sw_machine_kind_facts.proofs.NeverStuck.{running_job}
use Rattle.sw_machine_kind_facts.proofs.OperandLemmas.{function_fits}
use Rattle.sw_machine_kind_facts.proofs.TopLemmas.{TopFits}
use Rattle.sw_tree_same.proofs.Scene.{BeginsFull, BeginsWith, IsFull}

-- what a function takes is set from the start
takes_set : (function : Function) (passed : List ℕ) (r : ℕ) → r < function.takes
    → IsTrue (is_set function passed r)
takes_set function [] r less = grind (arith, nat_tests, less)
takes_set function (point ∷ passed) r less =
    by (point_sets r (point_in function point)) (takes_set function passed r less) where
      by : (sets : Bool) → IsTrue (is_set function passed r)
          → IsTrue (sets || is_set function passed r)
      by true before = refl
      by false before = before

pub frame_full : (graph : Graph) (cells : List RegKind) (frame : Frame)
    → FrameFits graph cells None frame → BeginsWith graph frame
frame_full graph cells frame fits function is =
    let same : fits.function ≡ function = some_injective (sym fits.is ∙ is) in
    subst (λ (f : Function). IsFull f frame) same (record {
      count = fits.stands.slots.count;
      values = λ r less.
          let few = (function_fits graph frame.function fits.function fits.is).takes in
          fits.stands.has r (omega (arith, less, few))
          (takes_set fits.function fits.stands.passed r less)
          (λ wanted. let wrong : None ≡ Some r = wanted in cc);
    })

effect_full : (graph : Graph) (world : Referents) (state : State) (function : Function)
    (frame : Frame) (e : Effect) → TopFits graph world state function frame e → BeginsFull graph e
unfolding TopFits
effect_full graph world state function frame (effect.Enter entered next) fits =
    frame_full graph world.cells entered fits.fits
effect_full graph world state function frame (effect.Spawn r first job cell next) fits =
    frame_full graph world.cells first fits.fits
effect_full graph world state function frame _ fits = tt

-- so it is where a job runs
pub begins_full : (graph : Graph) → IsSupplied graph → (state : State) → Kinded graph state → (j : ℕ)
    (job : Job) (frame : Frame) → slice_get state.jobs j ≡ Some job → job.status ≡ Running
    → top_frame job ≡ Some frame → (depth : ℕ) → BeginsFull graph (effect_of graph state depth frame)
begins_full graph supplied state kinded j job frame at running top depth =
    let x = running_job graph supplied state kinded j job at running in
    let same : x.top ≡ frame = some_injective (sym x.top_is ∙ top) in
    subst (λ (f : Frame). BeginsFull graph (effect_of graph state depth f)) same
    (effect_full graph kinded.world state x.run.function x.top (effect_of graph state depth x.top)
    (effect_fits graph kinded.world state x.top depth x.run x.reads))
