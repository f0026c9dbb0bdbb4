-- A step leaves a place as it was, or the top frame of its job stands at a store to the place.
use Rattle.std.proofs.Common.{◌≡◌, ℕ, ◌⊎◌, inl, inr, Option, Some, None}
use Rattle.std.proofs.Common.{length, refl, ap, sym, ◌∙◌, subst}
use Rattle.std.specs.Prelude.{IsSome}
use Rattle.sw_graph.specs.declared.graph.Graph.{Graph}
use Rattle.sw_value.specs.declared.cell.HeapCell.{HeapCell}
use Rattle.sw_value.specs.declared.cell.HeapCell.TheVariants as cell
use Rattle.sw_value.specs.declared.cell.Slot.TheVariants.{Part, Content}
use Rattle.sw_value.specs.declared.effect.Act.{Act}
use Rattle.sw_value.specs.declared.effect.Act.TheVariants.{Dispatch, Wake}
use Rattle.sw_value.specs.declared.effect.Effect.{Effect}
use Rattle.sw_value.specs.declared.effect.Effect.TheVariants as effect
use Rattle.sw_value.specs.declared.race.Place.{Place}
use Rattle.sw_value.specs.declared.race.Place.TheVariants.{Prop, Global, BoxOf}
use Rattle.sw_value.specs.declared.state.State.{State}
use Rattle.sw_value.specs.Act.{act_of}
use Rattle.sw_value.specs.Cell.{slot_of, with_slot}
use Rattle.sw_value.specs.Reach.{after_effect, step_of}
use Rattle.sw_value.specs.State.{in_job, add_job, add_cell, in_cell, set_global, halt}
use Rattle.sw_value.proofs.ReachLemmas.{after_acts, step_by_act}
use Rattle.sw_machine_access_facts.specs.Location.{content_of}
use Rattle.sw_machine_access_facts.proofs.CellLemmas.{slot_place, added_after}
use Rattle.sw_machine_access_facts.proofs.ContentLemmas.{content_kept, content_same}
use Rattle.sw_machine_access_facts.proofs.WriteLemmas.{slot_written}
use Rattle.sw_machine_let_facts.proofs.ActLemmas.{Executes, asked, Does, idle, dispatches, wakes, executes}
use Rattle.sw_machine_let_facts.proofs.ActLemmas.{does, executed}
use Rattle.sw_machine_let_facts.proofs.PlaceLemmas.{cases_place}
use Rattle.sw_machine_let_facts.proofs.StoreLemmas.{written, stored, stores}

-- Job j executes a store to a place.
pub record StoresTo (graph : Graph) (state : State) (j : ℕ) (place : Place) : Type 0 where
  pub run : Executes graph state j
  pub store : stored run.frame run.point ≡ Some place

-- A place in a cell that has a value, or any global.
abbrev pub IsThere : State → Place → Type 0
IsThere state (Global g) = Unit {0}
IsThere state place = IsSome (content_of state place)

-- the place stays as it was, or something else is so
abbrev pub KeepsOr : State → State → Place → Type 0 → Type 0
KeepsOr state after place Else = (content_of after place ≡ content_of state place) ⊎ Else

pub has_value : {A : Type 0} (o : Option A) → IsSome o → (x : A) × (o ≡ Some x)
has_value None has = cc
has_value (Some x) has = (x, refl)

-- a cell that is added leaves the others as they are
content_added : (state : State) (h : HeapCell) (place : Place) → IsThere state place
    → content_of (add_cell h state) place ≡ content_of state place
unfolding add_cell
content_added state h (Prop c i) there =
    let old = has_value (content_of state (Prop c i)) there in
    added_after (slot_of (Part i)) (slot_of (Part i)) h state.cells c old.0 old.1
content_added state h (Global g) there = refl
content_added state h (BoxOf c) there =
    let old = has_value (content_of state (BoxOf c)) there in
    added_after (slot_of Content) (slot_of Content) h state.cells c old.0 old.1

-- an effect leaves the place as it was, or writes it
effect_keeps : (state : State) (j : ℕ) (e : Effect) (place : Place) → IsThere state place
    → KeepsOr state (after_effect j e state) place (written e ≡ Some place)
unfolding in_job add_job add_cell in_cell set_global halt
effect_keeps state j (effect.New r h number next) place there =
    inl (content_same (add_cell h state) (after_effect j (effect.New r h number next) state) refl
    refl place
    ∙ content_added state h place there)
effect_keeps state j (effect.Spawn r frame job c next) place there =
    inl (content_same (add_cell (cell.TaskOf job) state)
    (after_effect j (effect.Spawn r frame job c next) state) refl refl place
    ∙ content_added state (cell.TaskOf job) place there)
effect_keeps state j (effect.Write c slot v next) place there =
    elim (cases_place (slot_place c slot) place) [
      | inl same ↦ inr (ap Some same)
      | inr apart ↦
          inl (content_same (in_cell (with_slot slot v) c state)
          (after_effect j (effect.Write c slot v next) state) refl refl place
          ∙ slot_written state c slot v place apart)
    ]
effect_keeps state j (effect.WriteGlobal g v next) place there =
    elim (cases_place (Global g) place) [
      | inl same ↦ inr (ap Some same)
      | inr apart ↦
          inl (content_same (set_global g v state)
          (after_effect j (effect.WriteGlobal g v next) state) refl refl place
          ∙ content_kept state (Global g) place v (λ e. apart (sym e)))
    ]
effect_keeps state j e place there =
    inl (content_same state (after_effect j e state) refl refl place)

pub step_keeps : (graph : Graph) (state : State) (j : ℕ) (place : Place) → IsThere state place
    → KeepsOr state (step_of graph state j) place (StoresTo graph state j place)
unfolding in_job
step_keeps graph state j place there =
    subst (λ s. KeepsOr state s place (StoresTo graph state j place))
    (sym (step_by_act graph state j)) (by (act_of graph state j) (does graph state j)) where
      by : (act : Option Act) → Does graph state j act
          → KeepsOr state (after_acts j act state) place (StoresTo graph state j place)
      by _ idle = inl refl
      by _ dispatches =
          inl (content_same state (after_acts j (Some Dispatch) state) refl refl place)
      by _ (wakes ended r v) =
          inl (content_same state (after_acts j (Some (Wake ended r v)) state) refl refl place)
      by _ (executes x) =
          let e = asked graph state j x in
          subst (λ s. KeepsOr state s place (StoresTo graph state j place))
          (sym (executed j e state))
          (elim (effect_keeps state j e place there) [
            | inl same ↦ inl same
            | inr writes ↦
                inr (record {
                  run = x;
                  store = stores graph state (length x.job.frames) x.frame x.point place writes;
                })
          ])
