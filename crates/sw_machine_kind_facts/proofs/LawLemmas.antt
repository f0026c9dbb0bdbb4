-- A running job of a kinded state has what its next instruction needs.
use Rattle.std.proofs.Common.{◌≡◌, ℕ, ◌<◌, false, cond, IsTrue, Some, None, List}
use Rattle.std.proofs.Common.{length, get_or, option_map, refl, ap, sym, ◌∙◌, subst}
use Rattle.std.specs.Prelude.{option_and_then, is_some, IsSome}
use Rattle.std.specs.List.{slice_get, All}
use Rattle.std.proofs.lemmas.List.{length-map}
use Rattle.std.proofs.lemmas.Option.{slice_get-map, slice_get-get_or}
use Rattle.sw_list.proofs.ListLemmas.{some_injective}
use Rattle.sw_graph.specs.declared.graph.Graph.{Graph}
use Rattle.sw_graph.specs.declared.instr.Operand.{Operand}
use Rattle.sw_graph.specs.Mentions.{operands_of, reads, last_registers}
use Rattle.sw_graph.specs.Points.{Point, Middle, End, point_in}
use Rattle.sw_graph.specs.Ways.{point_reads}
use Rattle.sw_value.specs.declared.effect.Effect.{Effect}
use Rattle.sw_value.specs.declared.effect.Effect.TheVariants as effect
use Rattle.sw_value.specs.declared.frame.Frame.{Frame}
use Rattle.sw_value.specs.declared.job.Job.{Job}
use Rattle.sw_value.specs.declared.job.Status.{Status}
use Rattle.sw_value.specs.declared.job.Status.TheVariants.{Ready, Running, Waiting, Ended}
use Rattle.sw_value.specs.declared.state.State.{State}
use Rattle.sw_value.specs.Act.{execution_of, act_by, act_of}
use Rattle.sw_value.specs.Effect.{effect_of, is_stuck}
use Rattle.sw_value.specs.Job.{top_frame, is_running, is_running_status}
use Rattle.sw_value.specs.Reach.{reach}
use Rattle.sw_machine_kind_facts.specs.Kinded.{Kinded}
use Rattle.sw_machine_kind_facts.specs.Operands.{HasOperand, HasNext}
use Rattle.sw_graph.specs.Supplied.{IsSupplied}
use Rattle.sw_machine_kind_facts.proofs.ItemLemmas.{found_within}
use Rattle.sw_machine_kind_facts.proofs.LastLemmas.{effect_fits}
use Rattle.sw_machine_kind_facts.proofs.NeverStuck.{running_job, reached_kinded}
use Rattle.sw_machine_kind_facts.proofs.OperandLemmas.{operand_has, last_has}
use Rattle.sw_machine_kind_facts.proofs.PlaceLemmas.{point_there}
use Rattle.sw_machine_kind_facts.proofs.TopLemmas.{Executes, TopFits}

runs_by : (s : Status) → IsTrue (is_running_status s) → s ≡ Running
runs_by Running is = refl
runs_by Ready is = cc
runs_by (Waiting on r) is = cc
runs_by (Ended v) is = cc

pub status_is : (job : Job) → IsTrue (is_running job) → job.status ≡ Running
unfolding is_running
status_is job is = runs_by job.status is

-- an effect that fits is not stuck
unstuck : (graph : Graph) (world : _) (state : State) (function : _) (frame : Frame) (e : Effect)
    → TopFits graph world state function frame e → is_stuck e ≡ false
unfolding TopFits
unstuck graph world state function frame (effect.Set r v next) fits = refl
unstuck graph world state function frame (effect.SetField r i v next) fits = refl
unstuck graph world state function frame (effect.Print r line next) fits = refl
unstuck graph world state function frame (effect.New r c number next) fits = refl
unstuck graph world state function frame (effect.Write c slot v next) fits = refl
unstuck graph world state function frame (effect.WriteGlobal g v next) fits = refl
unstuck graph world state function frame (effect.Goto next) fits = refl
unstuck graph world state function frame (effect.Enter entered next) fits = refl
unstuck graph world state function frame (effect.Wait on r next) fits = refl
unstuck graph world state function frame (effect.Rest r next) fits = refl
unstuck graph world state function frame (effect.Spawn r first job c next) fits = refl
unstuck graph world state function frame (effect.Leave v) fits = refl
unstuck graph world state function frame (effect.Halt kind at) fits = refl
unstuck graph world state function frame effect.Stuck fits = absurd fits

-- the registers that are read at the point
read_all : (graph : Graph) (world : _) (state : State) (frame : Frame)
    (run : Executes graph world state frame) (point : Point)
    → point_in run.function frame.point ≡ Some point
    → All (HasOperand graph.shapes world.cells run.function.regs frame.regs) (point_reads point)
read_all graph world state frame run (Middle i) here = λ k d inside.
    let same = length-map (operands_of i) (λ (o : Operand). o.reg) in
    let o = found_within (operands_of i) k (subst (λ n. k < n) same inside) in
    let read : get_or (reads i) k d ≡ o.0.reg =
    some_injective (sym (slice_get-get_or (reads i) k d inside)
    ∙ slice_get-map (λ (o : Operand). o.reg) (operands_of i) k
    ∙ ap (option_map (λ (o : Operand). o.reg)) o.1) in
    subst (HasOperand graph.shapes world.cells run.function.regs frame.regs) (sym read)
    (operand_has graph world.cells run.function run.well frame.point frame.regs run.stands i here k
    o.0
    o.1)
read_all graph world state frame run (End l) here = λ k d inside.
    last_has graph world.cells run.function run.well frame.point frame.regs run.stands l here k
    (get_or (last_registers l) k d) (slice_get-get_or (last_registers l) k d inside)

pub has_next : (graph : Graph) → IsSupplied graph → (state : State) (k : Kinded graph state)
    (j : ℕ) (job : Job) → slice_get state.jobs j ≡ Some job → IsTrue (is_running job)
    → HasNext graph k.world.cells state job
has_next graph supplied state k j job at is =
    let x = running_job graph supplied state k j job at (status_is job is) in
    let there = point_there x.run.function x.top.point x.run.stands.place in
    record {
      frame = x.top;
      top = x.top_is;
      function = x.run.function;
      is = x.run.is;
      point = there.0;
      at = there.1;
      operands = read_all graph k.world state x.top x.run there.0 there.1;
      global = x.reads there.0 there.1;
      unstuck = unstuck graph k.world state x.run.function x.top
          (effect_of graph state (length job.frames) x.top)
          (effect_fits graph k.world state x.top (length job.frames) x.run x.reads);
    }

pub never_stuck : (graph : Graph) → IsSupplied graph → (items : List ℕ) (j : ℕ) (job : Job)
    (frame : Frame) → slice_get (reach graph items).jobs j ≡ Some job → IsTrue (is_running job)
    → top_frame job ≡ Some frame
    → is_stuck (effect_of graph (reach graph items) (length job.frames) frame) ≡ false
never_stuck graph supplied items j job frame at is top =
    let kinded = reached_kinded graph supplied items in
    let next = has_next graph supplied (reach graph items) kinded j job at is in
    subst (λ f. is_stuck (effect_of graph (reach graph items) (length job.frames) f) ≡ false)
    (let same : next.frame ≡ frame = some_injective (sym next.top ∙ top) in same) next.unstuck

-- what is not stuck is executed
execution_there : (e : Effect) → is_stuck e ≡ false → IsSome (execution_of e)
execution_there (effect.Set r v next) is = refl
execution_there (effect.SetField r i v next) is = refl
execution_there (effect.Print r line next) is = refl
execution_there (effect.New r c number next) is = refl
execution_there (effect.Write c slot v next) is = refl
execution_there (effect.WriteGlobal g v next) is = refl
execution_there (effect.Goto next) is = refl
execution_there (effect.Enter entered next) is = refl
execution_there (effect.Wait on r next) is = refl
execution_there (effect.Rest r next) is = refl
execution_there (effect.Spawn r first job c next) is = refl
execution_there (effect.Leave v) is = refl
execution_there (effect.Halt kind at) is = refl
execution_there effect.Stuck is = cc

pub executes : (graph : Graph) → IsSupplied graph → (items : List ℕ) (j : ℕ) (job : Job)
    → (reach graph items).halted ≡ None → slice_get (reach graph items).jobs j ≡ Some job
    → IsTrue (is_running job) → IsSome (act_of graph (reach graph items) j)
unfolding act_of
executes graph supplied items j job unhalted at is =
    let state = reach graph items in
    let next = has_next graph supplied state (reached_kinded graph supplied items) j job at is in
    ap (λ h. is_some (cond (is_some h) None
    (option_and_then (λ job. act_by graph state job job.status) (slice_get state.jobs j)))) unhalted
    ∙ ap (λ o. is_some (option_and_then (λ job. act_by graph state job job.status) o)) at
    ∙ ap (λ s. is_some (act_by graph state job s)) (status_is job is)
    ∙ ap (λ o. is_some (option_and_then (λ frame. execution_of (effect_of graph state
    (length job.frames) frame)) o)) next.top
    ∙ execution_there (effect_of graph state (length job.frames) next.frame) next.unstuck
