-- What steps leave as it was: a place in a cell that they don't write, and each `let` of a cell.
use Rattle.std.proofs.Common.{◌≡◌, ℕ, inl, inr, Option, Some, None, List, ◌++◌, refl, ap}
use Rattle.std.proofs.Common.{sym, ◌∙◌, subst}
use Rattle.std.specs.Prelude.{IsSome}
use Rattle.sw_graph.specs.declared.graph.Graph.{Graph}
use Rattle.sw_graph.specs.Placed.{IsPlaced}
use Rattle.sw_value.specs.declared.cell.HeapCell.TheVariants as cell
use Rattle.sw_value.specs.declared.cell.Slot.TheVariants.{Part, Content}
use Rattle.sw_value.specs.declared.effect.Act.{Act}
use Rattle.sw_value.specs.declared.effect.Act.TheVariants.{Dispatch, Wake, Execute}
use Rattle.sw_value.specs.declared.effect.Effect.{Effect}
use Rattle.sw_value.specs.declared.effect.Effect.TheVariants as effect
use Rattle.sw_value.specs.declared.race.Access.{Access}
use Rattle.sw_value.specs.declared.race.Place.{Place}
use Rattle.sw_value.specs.declared.race.Place.TheVariants.{Prop, Global, BoxOf}
use Rattle.sw_value.specs.declared.state.State.{State}
use Rattle.sw_value.specs.Access.{part_in, next_access}
use Rattle.sw_value.specs.Act.{act_of}
use Rattle.sw_value.specs.Cell.{slot_of}
use Rattle.sw_value.specs.Reach.{after_effect, step_of, reach}
use Rattle.sw_value.specs.State.{in_job, add_job, add_cell, in_cell, set_global, halt}
use Rattle.sw_value.proofs.ReachLemmas.{after_acts, step_by_act, reach_push}
use Rattle.sw_machine_kind_facts.specs.Kinded.{Kinded}
use Rattle.sw_graph.specs.Supplied.{IsSupplied}
use Rattle.sw_machine_kind_facts.proofs.NeverStuck.{reached_kinded}
use Rattle.sw_machine_access_facts.specs.Footprint.{IsWriteOf, Writes}
use Rattle.sw_machine_access_facts.specs.Location.{location_at, IsLocation, content_of}
use Rattle.sw_machine_access_facts.proofs.AccessLemmas.{access_location}
use Rattle.sw_machine_access_facts.proofs.CellLemmas.{added_after}
use Rattle.sw_machine_access_facts.proofs.ContentLemmas.{location_same, location_kept}
use Rattle.sw_machine_access_facts.proofs.WriteLemmas.{step_writes}
use Rattle.sw_machine_let_facts.specs.Lets.{IsInCell}
use Rattle.sw_machine_let_facts.proofs.RunLemmas.{further}
use Rattle.sw_machine_let_facts.proofs.StepLemmas.{IsThere, has_value, step_keeps}
use Rattle.sw_machine_let_facts.proofs.VarLemmas.{store_located}

is_there : (state : State) (place : Place) → IsInCell place → IsSome (content_of state place)
    → IsThere state place
is_there state (Prop c i) inside has = has
is_there state (BoxOf c) inside has = has
is_there state (Global g) inside has = absurd inside

-- a place in a cell that the next access of the job doesn't write
pub step_spares : (graph : Graph) → IsPlaced graph → IsSupplied graph → (state : State)
    → Kinded graph state → (j : ℕ) (place : Place) → IsInCell place
    → IsSome (content_of state place) → (Writes graph state j place → ⊥)
    → content_of (step_of graph state j) place ≡ content_of state place
step_spares graph placed supplied state kinded j place inside has apart =
    elim (step_keeps graph state j place (is_there state place inside has)) [
      | inl same ↦ same
      | inr stores ↦
          step_writes graph state j place
          (store_located graph placed supplied state kinded j place inside has stores) apart
    ]

pub reached_spares : (graph : Graph) → IsPlaced graph → IsSupplied graph → (items : List ℕ) (j : ℕ)
    (place : Place) → IsInCell place → IsSome (content_of (reach graph items) place)
    → (Writes graph (reach graph items) j place → ⊥)
    → content_of (step_of graph (reach graph items) j) place
    ≡ content_of (reach graph items) place
reached_spares graph placed supplied items =
    step_spares graph placed supplied (reach graph items) (reached_kinded graph supplied items)

-- what a step writes is a location
pub writes_located : (graph : Graph) (state : State) (j : ℕ) (place : Place)
    → Writes graph state j place → IsLocation graph state place
writes_located graph state j place = by (next_access graph state j) refl where
  by : (o : Option Access) → next_access graph state j ≡ o → IsWriteOf place o
      → IsLocation graph state place
  by None next writes = absurd writes
  by (Some a) next writes =
      subst (IsLocation graph state) writes.0 (access_location graph state j a next)

-- after an effect a part that has a value is a location just where it was one before
effect_located : (graph : Graph) (state : State) (j : ℕ) (e : Effect) (c i : ℕ)
    → IsSome (content_of state (Prop c i))
    → location_at graph (after_effect j e state) (Prop c i)
    ≡ location_at graph state (Prop c i)
unfolding in_job add_job add_cell in_cell set_global halt
effect_located graph state j (effect.New r h number next) c i has =
    let old = has_value (content_of state (Prop c i)) has in
    added_after (slot_of (Part i)) (part_in graph c i) h state.cells c old.0 old.1
effect_located graph state j (effect.Spawn r frame job number next) c i has =
    let old = has_value (content_of state (Prop c i)) has in
    added_after (slot_of (Part i)) (part_in graph c i) (cell.TaskOf job) state.cells c old.0 old.1
effect_located graph state j (effect.Write d (Part k) v next) c i has =
    location_kept graph state (Prop d k) (Prop c i) v
effect_located graph state j (effect.Write d Content v next) c i has =
    location_kept graph state (BoxOf d) (Prop c i) v
effect_located graph state j e c i has =
    location_same graph state (after_effect j e state) refl (Prop c i)

step_located : (graph : Graph) (state : State) (j c i : ℕ)
    → IsSome (content_of state (Prop c i))
    → location_at graph (step_of graph state j) (Prop c i) ≡ location_at graph state (Prop c i)
unfolding in_job
step_located graph state j c i has =
    ap (λ s. location_at graph s (Prop c i)) (step_by_act graph state j)
    ∙ by (act_of graph state j) where
      by : (act : Option Act)
          → location_at graph (after_acts j act state) (Prop c i)
          ≡ location_at graph state (Prop c i)
      by None = refl
      by (Some Dispatch) =
          location_same graph state (after_acts j (Some Dispatch) state) refl (Prop c i)
      by (Some (Wake ended r v)) =
          location_same graph state (after_acts j (Some (Wake ended r v)) state) refl (Prop c i)
      by (Some (Execute e)) = effect_located graph state j e c i has

-- a `let` stays one
pub let_stays : (graph : Graph) (state : State) (j c i : ℕ)
    → IsSome (content_of state (Prop c i)) → (IsLocation graph state (Prop c i) → ⊥)
    → IsLocation graph (step_of graph state j) (Prop c i) → ⊥
let_stays graph state j c i has let_is is =
    let_is (sym (step_located graph state j c i has) ∙ is)

-- and has what it had, after a step
pub let_kept : (graph : Graph) → IsPlaced graph → IsSupplied graph → (items : List ℕ)
    (j c i : ℕ) → IsSome (content_of (reach graph items) (Prop c i))
    → (IsLocation graph (reach graph items) (Prop c i) → ⊥)
    → content_of (step_of graph (reach graph items) j) (Prop c i)
    ≡ content_of (reach graph items) (Prop c i)
let_kept graph placed supplied items j c i has let_is =
    reached_spares graph placed supplied items j (Prop c i) tt has
    (λ writes. let_is (writes_located graph (reach graph items) j (Prop c i) writes))

-- and after any items
pub let_kept_on : (graph : Graph) → IsPlaced graph → IsSupplied graph → (items more : List ℕ)
    (c i : ℕ) → IsSome (content_of (reach graph items) (Prop c i))
    → (IsLocation graph (reach graph items) (Prop c i) → ⊥)
    → content_of (reach graph (items ++ more)) (Prop c i)
    ≡ content_of (reach graph items) (Prop c i)
let_kept_on graph placed supplied items more c i has let_is =
    (further (λ l. (content_of (reach graph l) (Prop c i)
    ≡ content_of (reach graph items) (Prop c i))
    × (IsLocation graph (reach graph l) (Prop c i) → ⊥))
    (λ before item (same, still).
    let there = subst IsSome (sym same) has in
    let step = reach_push graph before item in (
      ap (λ s. content_of s (Prop c i)) step
          ∙ let_kept graph placed supplied before item c i there still ∙ same,
      subst (λ s. IsLocation graph s (Prop c i) → ⊥) (sym step)
          (let_stays graph (reach graph before) item c i there still),
    )) items more (refl, let_is)).0
