-- Instructions that give their register the value of `Void`.
use Rattle.std.proofs.Common.{◌≡◌, ◌+◌, ℕ, true, false, Option, Some, List, [], length, refl, sym}
use Rattle.std.proofs.Common.{ap, ◌∙◌}
use Rattle.sw_graph.specs.declared.function.Function.{Function}
use Rattle.sw_graph.specs.declared.graph.Graph.{Graph}
use Rattle.sw_graph.specs.declared.instr.Instr.{Instr}
use Rattle.sw_graph.specs.declared.instr.Instr.TheVariants.{Print, Yield}
use Rattle.sw_graph.specs.declared.instr.Operand.{Operand}
use Rattle.sw_graph.specs.Bodies.{is_own}
use Rattle.sw_graph.specs.Mentions.{set_by}
use Rattle.sw_graph.specs.Points.{Middle}
use Rattle.sw_value.specs.declared.effect.Effect.{Effect}
use Rattle.sw_value.specs.declared.frame.Frame.{Frame}
use Rattle.sw_value.specs.declared.job.Job.{Job}
use Rattle.sw_value.specs.declared.state.State.{State}
use Rattle.sw_value.specs.Effect.{needs, point_effect}
use Rattle.sw_value.specs.Printed.{printed_line}
use Rattle.sw_value.specs.Reach.{after_effect, step_of}
use Rattle.sw_value.specs.State.{in_job}
use Rattle.sw_value.specs.declared.effect.Effect.TheVariants as effect
use Rattle.sw_value.specs.declared.value.Value.TheVariants as value
use Rattle.sw_partition.specs.Regions.{Regions}
use Rattle.sw_region_ops.specs.Elements.{elements_of}
use Rattle.sw_owner_facts.specs.View.{Frame as Spot}
use Rattle.sw_region_facts.specs.FrameRegions.{IsWeaker}
use Rattle.sw_region_facts.proofs.Comes.{sets_weaker}
use Rattle.sw_view_facts.specs.Effects.{is_inside, next_of, register_of, value_by}
use Rattle.sw_view_facts.specs.Standing.{StandsAt}
use Rattle.sw_view_facts.specs.Views.{Colours, annotated, makes_itself}
use Rattle.sw_view_facts.proofs.EffectLemmas.{reach_same}
use Rattle.sw_view_facts.proofs.StepLemmas.{effect_sets}
use Rattle.sw_view_facts.proofs.ValueLemmas.{register_shows, void_shows}
use Rattle.sw_store_facts.specs.Sound.{HasSoundView, IsColoured}
use Rattle.sw_store_facts.proofs.Getting.{no_maker, unstuck}
use Rattle.sw_store_facts.proofs.Stepping.{executes, keeps_shape, next_state, row, steps}
use Rattle.sw_store_facts.proofs.Stores.{found}

module _ (graph : Graph) (states : ℕ → List (Option Regions)) (state : State) (colours : Colours)
    (s : IsColoured graph states state colours) (q : Spot) (job : Job) (f : Frame)
    (function : Function) where
  abbrev elements : List (Option ℕ)
  elements = elements_of graph.shapes function.regs

  void_sound : (instr : Instr) (x : StandsAt graph state q job f function (Middle instr))
      → makes_itself graph function (Middle instr) ≡ false → (dst : ℕ) → set_by instr ≡ Some dst
      → IsWeaker elements (row graph states state colours s q job f function instr x).a
      (row graph states state colours s q job f function instr x).c → (e : Effect)
      → is_inside e ≡ true → next_of e ≡ Some (f.point + 1)
      → point_effect graph state (length job.frames) f (Middle instr) ≡ e
      → register_of e ≡ Some dst → value_by e ≡ Some value.Unit
      → (after_effect q.job e state).cells ≡ state.cells
      → HasSoundView graph states (step_of graph state q.job) colours
  void_sound instr x ordinary dst sets weaker e inside goes gives register void cells =
      let here = row graph states state colours s q job f function instr x in
      let next = next_state graph states state colours s q job f function instr x in
      let stay : next.cells ≡ state.cells = ap (λ (t : State). t.cells)
      (steps graph states state colours s q job f function instr x e inside goes gives) ∙ cells in
      effect_sets graph states state next q f function e (annotated states state)
      (annotated states next) colours colours here.a here.c
      (executes graph states state colours s q job f function instr x e inside goes gives colours
      (λ p. refl) (reach_same state next colours colours stay refl))
      (keeps_shape graph states state colours s q job f function instr x e inside goes gives ordinary
      (λ k is. sets ∙ sym register ∙ is)) dst [] register
      (sets_weaker elements dst here.a here.c weaker)
      (λ c in_r. absurd (void_shows next colours f c
      (register_shows next colours f e dst value.Unit c register void in_r))) s.sound

  pub prints : (at dst : ℕ) (args : List Operand)
      → StandsAt graph state q job f function (Middle (Print at dst args))
      → HasSoundView graph states (step_of graph state q.job) colours
  unfolding in_job
  prints at dst args x =
      let line = found (printed_line f.regs args) (λ l. effect.Print dst l (f.point + 1))
      (unstuck graph states state colours s q job f function (Print at dst args) x) in
      void_sound (Print at dst args) x (no_maker (is_own function.iso)) dst refl
      (row graph states state colours s q job f function (Print at dst args) x).moves
      (effect.Print dst line.0 (f.point + 1)) refl refl
      (ap (λ o. needs o (λ l. effect.Print dst l (f.point + 1))) line.1) refl refl refl

  pub yields : (at dst : ℕ) → StandsAt graph state q job f function (Middle (Yield at dst))
      → HasSoundView graph states (step_of graph state q.job) colours
  unfolding in_job
  yields at dst x = void_sound (Yield at dst) x (no_maker (is_own function.iso)) dst refl
      (row graph states state colours s q job f function (Yield at dst) x).moves
      (effect.Rest dst (f.point + 1)) refl refl refl refl refl refl
