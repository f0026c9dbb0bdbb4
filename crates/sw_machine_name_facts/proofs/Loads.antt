-- The access that a job makes next is that of its point; and what a load finds.
use Rattle.std.proofs.Common.{◌≡◌, ◌⊎◌, inl, inr, ℕ, false, cond, Option, Some, None, length, refl, ap, sym}
use Rattle.std.proofs.Common.{◌∙◌, subst}
use Rattle.std.specs.Prelude.{option_and_then}
use Rattle.std.specs.List.{slice_get}
use Rattle.sw_graph.specs.declared.function.Function.{Function}
use Rattle.sw_graph.specs.declared.graph.Graph.{Graph}
use Rattle.sw_graph.specs.declared.instr.Operand.{Operand}
use Rattle.sw_graph.specs.Points.{point_in}
use Rattle.sw_value.specs.declared.cell.Slot.{Slot}
use Rattle.sw_value.specs.declared.effect.Act.{Act}
use Rattle.sw_value.specs.declared.frame.Frame.{Frame}
use Rattle.sw_value.specs.declared.race.Place.{Place}
use Rattle.sw_value.specs.declared.state.State.{State}
use Rattle.sw_value.specs.declared.value.Value.{Value}
use Rattle.sw_value.specs.Access.{read_by, point_access, frame_access, job_access, next_access}
use Rattle.sw_value.specs.Act.{act_of}
use Rattle.sw_value.specs.Cell.{slot_of}
use Rattle.sw_value.specs.Effect.{needs, is_stuck, point_effect, effect_of, loaded}
use Rattle.sw_value.specs.Frame.{point_at}
use Rattle.sw_value.specs.Job.{top_frame}
use Rattle.sw_value.specs.Value.{reference_at}
use Rattle.sw_machine_access_facts.specs.Footprint.{IsReadOf, Reads}
use Rattle.sw_machine_access_facts.specs.Location.{location_at, IsLocation, content_of}
use Rattle.sw_machine_access_facts.proofs.CellLemmas.{slot_place}
use Rattle.sw_machine_access_facts.proofs.ContentLemmas.{slot_content}
use Rattle.sw_machine_access_facts.proofs.NextLemmas.{access_at, access_made}
use Rattle.sw_machine_let_facts.proofs.ActLemmas.{Executes, asked}
use Rattle.sw_machine_let_facts.proofs.PlaceLemmas.{cases_place}
use Rattle.sw_machine_name_facts.proofs.Acts.{acts}

next_at : (graph : Graph) (state : State) (j : ℕ) (act : Act) → act_of graph state j ≡ Some act
    → (x : Executes graph state j)
    → next_access graph state j
    ≡ access_at graph state j (length x.job.frames) x.frame x.point
unfolding next_access frame_access effect_of point_at
next_at graph state j act is x =
    let depth = length x.job.frames in
    let a = acts graph state j act is in
    ap (λ b. cond b None (option_and_then (job_access graph state j) (slice_get state.jobs j)))
    a.goes_on
    ∙ ap (option_and_then (job_access graph state j)) x.at
    ∙ ap (λ b. cond b
    (option_and_then (frame_access graph state j depth) (top_frame x.job)) None) x.runs
    ∙ ap (option_and_then (frame_access graph state j depth)) x.top
    ∙ ap (λ o. cond (is_stuck (needs o (point_effect graph state depth x.frame))) None
    (option_and_then (point_access graph state j x.frame) o))
    (ap (option_and_then (λ (f : Function). point_in f x.frame.point)) x.is ∙ x.here)

-- a job at a point that reads the place reads it next
pub reads_next : (graph : Graph) (state : State) (j : ℕ) (act : Act)
    → act_of graph state j ≡ Some act → (x : Executes graph state j)
    → is_stuck (asked graph state j x) ≡ false → (place : Place) (at : ℕ)
    → point_access graph state j x.frame x.point ≡ Some (read_by j at place)
    → Reads graph state j place
reads_next graph state j act is x free place at reads =
    subst (IsReadOf place)
    (sym (next_at graph state j act is x
    ∙ access_made graph state j (length x.job.frames) x.frame x.point
    (Some (read_by j at place)) free reads)) (refl, refl)

-- a place is a location or is none
pub cases_location : (graph : Graph) (state : State) (place : Place)
    → IsLocation graph state place ⊎ (IsLocation graph state place → ⊥)
cases_location graph state place = by (location_at graph state place) refl where
  by : (o : Option Place) → location_at graph state place ≡ o
      → IsLocation graph state place ⊎ (IsLocation graph state place → ⊥)
  by None is = inr (λ found. let clash : None ≡ Some place = sym is ∙ found in cc)
  by (Some q) is = elim (cases_place q place) [
    | inl same ↦ inl (is ∙ ap Some same)
    | inr apart ↦
        inr (λ found. let clash : Some q ≡ Some place = sym is ∙ found in apart (cc))
  ]

-- what a load finds in a slot of the cell to which its operand refers
pub record Finds (state : State) (frame : Frame) (o : Operand) (slot : Slot) (v : Value)
    : Type 0 where
  pub cell : ℕ
  pub refers : reference_at frame.regs o ≡ Some cell
  pub has : content_of state (slot_place cell slot) ≡ Some v

pub finds : (state : State) (frame : Frame) (o : Operand) (slot : Slot) (v : Value)
    → loaded state frame o slot ≡ Some v → Finds state frame o slot v
finds state frame o slot v = by (reference_at frame.regs o) refl where
  by : (n : Option ℕ) → reference_at frame.regs o ≡ n
      → option_and_then (slot_of slot) (option_and_then (λ c. slice_get state.cells c) n) ≡ Some v
      → Finds state frame o slot v
  by None refers is = cc
  by (Some c) refers is =
      record { cell = c; refers = refers; has = slot_content c slot state ∙ is }
