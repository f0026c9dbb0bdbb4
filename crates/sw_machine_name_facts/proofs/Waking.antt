-- What a job waited for ended with what the job goes on with.
use Rattle.std.proofs.Common.{◌≡◌, ℕ, Option, Some, None, length, refl, ap, sym, ◌∙◌, arith}
use Rattle.std.specs.Prelude.{option_and_then}
use Rattle.std.specs.Option.{option_map}
use Rattle.sw_graph.specs.declared.graph.Graph.{Graph}
use Rattle.sw_value.specs.declared.effect.Act.TheVariants.{Wake}
use Rattle.sw_value.specs.declared.effect.Effect.{Effect}
use Rattle.sw_value.specs.declared.effect.Effect.TheVariants as effect
use Rattle.sw_value.specs.declared.frame.Frame.{Frame}
use Rattle.sw_value.specs.declared.job.Job.{Job}
use Rattle.sw_value.specs.declared.job.Status.{Status}
use Rattle.sw_value.specs.declared.job.Status.TheVariants.{Ready, Running, Waiting, Ended}
use Rattle.sw_value.specs.declared.state.State.{State}
use Rattle.sw_value.specs.declared.value.Value.{Value}
use Rattle.sw_value.specs.Act.{execution_of, dispatch_of, act_by, act_of}
use Rattle.sw_value.specs.Effect.{effect_of}
use Rattle.sw_value.specs.Job.{top_frame}
use Rattle.sw_value.specs.State.{result_of}
use Rattle.sw_machine_name_facts.proofs.Acts.{acts}

pub wake_result : (graph : Graph) (state : State) (j ended r : ℕ) (v : Value)
    → act_of graph state j ≡ Some (Wake ended r v) → result_of state ended ≡ Some v
wake_result graph state j ended r v is =
    let a = acts graph state j (Wake ended r v) is in by a.job a.job.status a.does where
      by_top : (o : Option Frame) → option_and_then (dispatch_of state) o ≡ Some (Wake ended r v) → ⊥
      by_top o is = grind arith

      by_point : (e : Effect) → execution_of e ≡ Some (Wake ended r v) → ⊥
      by_point effect.Stuck is = cc
      by_point e is = cc

      by_frame : (job : Job) (o : Option Frame)
          → option_and_then
          (λ frame. execution_of (effect_of graph state (length job.frames) frame)) o
          ≡ Some (Wake ended r v) → ⊥
      by_frame job None is = cc
      by_frame job (Some frame) is = by_point (effect_of graph state (length job.frames) frame) is

      by_result : (on s : ℕ) (o : Option Value) → result_of state on ≡ o
          → option_map (Wake on s) o ≡ Some (Wake ended r v) → result_of state ended ≡ Some v
      by_result on s None found is = cc
      by_result on s (Some w) found is =
          let job : on ≡ ended = cc in let same : w ≡ v = cc in
          ap (result_of state) (sym job) ∙ found ∙ ap Some same

      by : (job : Job) (status : Status)
          → act_by graph state job status ≡ Some (Wake ended r v)
          → result_of state ended ≡ Some v
      by job Ready is = absurd (by_top (top_frame job) is)
      by job Running is = absurd (by_frame job (top_frame job) is)
      by job (Waiting on s) is = by_result on s (result_of state on) refl is
      by job (Ended w) is = cc
