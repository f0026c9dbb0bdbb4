-- A job that waits for another: its view stays.
use Rattle.std.proofs.Common.{◌≡◌, ◌+◌, ℕ, Option, List, length, refl, ap}
use Rattle.sw_graph.specs.declared.function.Function.{Function}
use Rattle.sw_graph.specs.declared.graph.Graph.{Graph}
use Rattle.sw_graph.specs.declared.instr.Instr.TheVariants.{Await}
use Rattle.sw_graph.specs.declared.instr.Operand.{Operand}
use Rattle.sw_graph.specs.Bodies.{is_own}
use Rattle.sw_graph.specs.Points.{Middle}
use Rattle.sw_value.specs.declared.effect.Effect.TheVariants.{Wait}
use Rattle.sw_value.specs.declared.frame.Frame.{Frame}
use Rattle.sw_value.specs.declared.job.Job.{Job}
use Rattle.sw_value.specs.declared.state.State.{State}
use Rattle.sw_value.specs.Effect.{point_effect}
use Rattle.sw_value.specs.Reach.{step_of}
use Rattle.sw_value.specs.State.{in_job}
use Rattle.sw_partition.specs.Regions.{Regions}
use Rattle.sw_owner_facts.specs.View.{Frame as Spot}
use Rattle.sw_view_facts.specs.Standing.{StandsAt}
use Rattle.sw_view_facts.specs.Views.{Colours, annotated}
use Rattle.sw_view_facts.proofs.EffectLemmas.{reach_same}
use Rattle.sw_view_facts.proofs.StepLemmas.{effect_goes_on}
use Rattle.sw_store_facts.specs.Sound.{HasSoundView, IsColoured}
use Rattle.sw_store_facts.proofs.Getting.{no_maker}
use Rattle.sw_store_facts.proofs.Stepping.{executes, keeps_shape, next_state, row, steps}

pub wait_sound : (graph : Graph) (states : ℕ → List (Option Regions)) (state : State)
    (colours : Colours) (s : IsColoured graph states state colours) (q : Spot) (job : Job)
    (f : Frame) (function : Function) (at dst : ℕ) (task : Operand)
    → StandsAt graph state q job f function (Middle (Await at dst task)) → (on : ℕ)
    → point_effect graph state (length job.frames) f (Middle (Await at dst task))
    ≡ Wait on dst (f.point + 1) → HasSoundView graph states (step_of graph state q.job) colours
unfolding in_job
wait_sound graph states state colours s q job f function at dst task x on gives =
    let instr = Await at dst task in
    let e = Wait on dst (f.point + 1) in
    let here = row graph states state colours s q job f function instr x in
    let next = next_state graph states state colours s q job f function instr x in
    let stay : next.cells ≡ state.cells = ap (λ (t : State). t.cells)
    (steps graph states state colours s q job f function instr x e refl refl gives) in
    effect_goes_on graph states state next q f function e (annotated states state)
    (annotated states next) colours colours here.a here.c
    (executes graph states state colours s q job f function instr x e refl refl gives colours
    (λ p. refl) (reach_same state next colours colours stay refl))
    (keeps_shape graph states state colours s q job f function instr x e refl refl gives
    (no_maker (is_own function.iso)) (λ r sets. absurd (let clash : ⊥ = cc in clash))) refl
    here.moves s.sound
