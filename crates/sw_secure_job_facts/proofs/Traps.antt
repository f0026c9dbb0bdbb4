-- A trap halts the machine, and changes nothing that a secure state speaks of.
use Rattle.std.proofs.Common.{◌≡◌, ℕ, Option, Some, List, length, refl, sym}
use Rattle.std.proofs.Common.{subst, ap, ◌∙◌, inl}
use Rattle.std.specs.List.{slice_get}
use Rattle.sw_graph.specs.declared.function.Function.{Function}
use Rattle.sw_graph.specs.declared.graph.Graph.{Graph}
use Rattle.sw_graph.specs.Points.{Point}
use Rattle.sw_value.specs.declared.effect.Effect.TheVariants.{Halt}
use Rattle.sw_value.specs.declared.frame.Frame.{Frame}
use Rattle.sw_value.specs.declared.job.Job.{Job}
use Rattle.sw_value.specs.declared.state.State.{State}
use Rattle.sw_value.specs.declared.state.TrapKind.{TrapKind}
use Rattle.sw_value.specs.Reach.{step_of}
use Rattle.sw_value.specs.State.{halt}
use Rattle.sw_partition.specs.Regions.{Regions}
use Rattle.sw_owner_facts.specs.Owned.{IsSound}
use Rattle.sw_owner_facts.specs.View.{Frame as Spot}
use Rattle.sw_reach_facts.specs.Coloured.{HaveColours}
use Rattle.sw_view_facts.specs.Views.{Colours}
use Rattle.sw_view_facts.proofs.EffectLemmas.{step_is}
use Rattle.sw_view_facts.proofs.HaltLemmas.{halt_same}
use Rattle.sw_store_facts.specs.Sound.{HasSoundView}
use Rattle.sw_secure_facts.specs.Executing.{Executing, StaysSecure}
use Rattle.sw_secure_facts.specs.Secure.{IsSecure}
use Rattle.sw_secure_facts.proofs.Staying.{memory_stays}
use Rattle.sw_secure_facts.proofs.Uniting.{nothing_unites}
use Rattle.sw_secure_job_facts.proofs.Next.{heres_stay, secure_after, waits_itself}

pub traps_stay : (graph : Graph) (states : ℕ → List (Option Regions)) (state : State)
    (colours : Colours) (q : Spot) (number : ℕ) (job : Job) (f : Frame) (function : Function)
    (point : Point) (kind : TrapKind) (at : ℕ)
    → Executing graph states state colours q number job f function point (Halt kind at)
    → StaysSecure graph states state colours q number f point (Halt kind at)
unfolding halt
traps_stay graph states state colours q number job f function point kind at x after unites =
    subst (IsSecure graph states next) (sym (nothing_unites q.job colours after unites))
    (secure_after graph states state colours x.secure q.job colours
    (subst (λ cs. HaveColours graph cs colours.cells) (sym cells) x.secure.coloured.have)
    (subst (λ s. HasSoundView graph states s colours) (sym steps)
    (subst IsSound (sym (halt_same graph states state kind at colours)) x.secure.coloured.sound))
    (memory_stays graph colours state next cells globals x.secure.memory)
    (heres_stay state next colours (ap (λ (s : State). length s.jobs) steps)
    (λ j now there. (now, was j now there, refl)) x.secure.heres)
    (λ j now there. inl (now, was j now there, waits_itself now)))
  where
    next : State
    next = step_of graph state q.job

    steps : next ≡ halt kind at state
    steps = step_is graph state q job f function point (Halt kind at) x.stands x.gives refl

    cells : next.cells ≡ state.cells
    cells = ap (λ (s : State). s.cells) steps

    globals : next.globals ≡ state.globals
    globals = ap (λ (s : State). s.globals) steps

    was : (j : ℕ) (now : Job) → slice_get next.jobs j ≡ Some now
        → slice_get state.jobs j ≡ Some now
    was j now there = sym (ap (λ (s : State). slice_get s.jobs j) steps) ∙ there
