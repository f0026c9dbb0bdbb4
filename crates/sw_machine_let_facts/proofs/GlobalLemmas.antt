-- Who stores a global `let`.
use Rattle.std.proofs.Common.{◌≡◌, ℕ, inl, inr, Bool, true, false, cond, Option, Some, None}
use Rattle.std.proofs.Common.{refl, ap, ◌∙◌}
use Rattle.std.specs.Prelude.{option_and_then}
use Rattle.std.specs.Option.{option_map_or}
use Rattle.std.specs.List.{slice_get}
use Rattle.sw_graph.specs.declared.function.GlobalKind.{GlobalKind}
use Rattle.sw_graph.specs.declared.graph.Graph.{Graph}
use Rattle.sw_graph.specs.declared.instr.Instr.TheVariants as instr
use Rattle.sw_graph.specs.Placed.{IsPlaced, is_var_global}
use Rattle.sw_value.specs.declared.race.Place.TheVariants.{Global}
use Rattle.sw_value.specs.declared.state.State.{State}
use Rattle.sw_machine_access_facts.specs.Location.{IsLocation}
use Rattle.sw_machine_let_facts.specs.Lets.{Changes, RunsFirst}
use Rattle.sw_machine_let_facts.proofs.StepLemmas.{StoresTo, step_keeps}
use Rattle.sw_machine_let_facts.proofs.StoreLemmas.{global_store}

-- a global that is no location is no `var`
no_var : (graph : Graph) (state : State) (g : ℕ) → (IsLocation graph state (Global g) → ⊥)
    → is_var_global graph.globals g ≡ false
no_var graph state g = by (slice_get graph.globals g) where
  pick : (mutable : Bool) → (cond mutable (Some (Global g)) None ≡ Some (Global g) → ⊥)
      → mutable ≡ false
  pick true let_is = absurd (let_is refl)
  pick false let_is = refl

  by : (o : Option GlobalKind)
      → (option_and_then (λ (kind : GlobalKind). cond kind.mutable (Some (Global g)) None) o
      ≡ Some (Global g) → ⊥)
      → option_map_or (λ (global : GlobalKind). global.mutable) o false ≡ false
  by None let_is = refl
  by (Some kind) let_is = pick kind.mutable let_is

-- the job that stores a global `let`
pub store_first : (graph : Graph) → IsPlaced graph → (state : State) (j g : ℕ)
    → (IsLocation graph state (Global g) → ⊥) → StoresTo graph state j (Global g)
    → RunsFirst graph state j
store_first graph placed state j g let_is x =
    let run = x.run in
    let store = global_store run.frame run.point g x.store in
    record {
      job = run.job;
      is = run.at;
      runs = run.runs;
      frame = run.frame;
      top = run.top;
      first = placed.stores run.frame.function run.function run.frame.point
          (instr.StoreGlobal store.at g store.operand) run.is (run.here ∙ ap Some store.is)
          (no_var graph state g let_is);
    }

pub let_stored : (graph : Graph) → IsPlaced graph → (state : State) (j g : ℕ)
    → (IsLocation graph state (Global g) → ⊥) → Changes graph state j (Global g)
    → RunsFirst graph state j
let_stored graph placed state j g let_is changes = elim (step_keeps graph state j (Global g) tt) [
  | inl same ↦ absurd (changes same)
  | inr stores ↦ store_first graph placed state j g let_is stores
]
