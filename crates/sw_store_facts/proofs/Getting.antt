-- What a register gets, where the instruction gives it a value.
use Rattle.std.proofs.Common.{◌≡◌, ◌+◌, ◌-◌, ℕ, Bool, true, false, ◌&&◌, ◌||◌, Option, Some, None}
use Rattle.std.proofs.Common.{List, length, refl, sym, ap, ◌∙◌, arith}
use Rattle.std.specs.Option.{option_and_then}
use Rattle.std.specs.List.{slice_get}
use Rattle.sw_graph.specs.declared.function.Function.{Function}
use Rattle.sw_graph.specs.declared.graph.Graph.{Graph}
use Rattle.sw_graph.specs.declared.instr.Instr.{Instr}
use Rattle.sw_graph.specs.Points.{Middle, point_in}
use Rattle.sw_value.specs.declared.effect.Effect.TheVariants.{Set}
use Rattle.sw_value.specs.declared.frame.Frame.{Frame}
use Rattle.sw_value.specs.declared.job.Job.{Job}
use Rattle.sw_value.specs.declared.state.State.{State}
use Rattle.sw_value.specs.declared.value.Value.{Value}
use Rattle.sw_value.specs.Effect.{effect_of, is_stuck, needs, point_effect, set_of}
use Rattle.sw_value.specs.Frame.{point_at}
use Rattle.sw_value.specs.Job.{is_running, is_running_status, top_frame}
use Rattle.sw_partition.specs.Regions.{Regions}
use Rattle.sw_machine_kind_facts.specs.Operands.{HasNext}
use Rattle.sw_machine_kind_facts.proofs.LawLemmas.{has_next}
use Rattle.sw_owner_facts.specs.View.{Frame as Spot}
use Rattle.sw_view_facts.specs.Standing.{StandsAt}
use Rattle.sw_view_facts.specs.Views.{Colours}
use Rattle.sw_store_facts.specs.Sound.{IsColoured}

module _ (graph : Graph) (states : ℕ → List (Option Regions)) (state : State) (colours : Colours)
    (s : IsColoured graph states state colours) (q : Spot) (job : Job) (f : Frame)
    (function : Function) (instr : Instr)
    (x : StandsAt graph state q job f function (Middle instr)) where
  -- the instruction finds what it needs
  pub unstuck : is_stuck (point_effect graph state (length job.frames) f (Middle instr)) ≡ false
  unfolding effect_of point_at top_frame is_running
  unstuck =
      let next = has_next graph s.supplied state s.kinded q.job job x.top.there
      (ap is_running_status x.running) in
      ap is_stuck (sym (ap (λ o. needs o (point_effect graph state (length job.frames) f))
      (ap (option_and_then (λ (body : Function). point_in body f.point)) x.is ∙ x.here)))
      ∙ ap (λ h. is_stuck (effect_of graph state (length job.frames) h)) (same_top next) ∙ next.unstuck
    where
      same_top : (next : HasNext graph s.kinded.world.cells state job) → f ≡ next.frame
      same_top next =
          let last : length job.frames - 1 ≡ q.depth =
          (let height = x.top.height in omega (arith, height)) in
          let both : Some f ≡ Some next.frame =
          sym x.top.top ∙ ap (slice_get job.frames) (sym last) ∙ next.top in
          cc

  -- so the register gets a value
  pub gets : (r : ℕ) (o : Option Value)
      → point_effect graph state (length job.frames) f (Middle instr) ≡ set_of (f.point + 1) r o
      → (v : Value) × (o ≡ Some v)
      × (point_effect graph state (length job.frames) f (Middle instr) ≡ Set r v (f.point + 1))
  gets r o is = by o refl where
    by : (p : Option Value) → o ≡ p → (v : Value) × (o ≡ Some v)
        × (point_effect graph state (length job.frames) f (Middle instr) ≡ Set r v (f.point + 1))
    by None none =
        let stuck : true ≡ false =
        sym (ap is_stuck (is ∙ ap (set_of (f.point + 1) r) none)) ∙ unstuck in
        absurd (let clash : ⊥ = cc in clash)
    by (Some v) some = (v, some, is ∙ ap (set_of (f.point + 1) r) some)

-- what an option leads to comes from a value
pub from_some : {X Y : Type 0} (g : X → Option Y) (o : Option X) (y : Y)
    → option_and_then g o ≡ Some y → (z : X) × (o ≡ Some z) × (g z ≡ Some y)
from_some g None y is = absurd (let clash : ⊥ = cc in clash)
from_some g (Some z) y is = (z, refl, is)

-- an instruction that makes no actor and no object makes nothing that its function initialises
pub no_maker : (b : Bool) → ((b && false) || false) ≡ false
no_maker true = refl
no_maker false = refl
