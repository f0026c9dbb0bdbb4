-- Cells after an effect: each was there and has its keeper still, or is the one that is made.
use Rattle.std.proofs.Common.{◌≡◌, ◌⊎◌, inl, inr, ℕ, Some, length, refl, sym, ap, ◌∙◌}
use Rattle.std.proofs.Common.{arith}
use Rattle.std.specs.List.{slice_get}
use Rattle.sw_graph.specs.declared.graph.Graph.{Graph}
use Rattle.sw_value.specs.declared.cell.HeapCell.{HeapCell}
use Rattle.sw_value.specs.declared.cell.Slot.{Slot}
use Rattle.sw_value.specs.declared.effect.Act.TheVariants.{Execute}
use Rattle.sw_value.specs.declared.effect.Effect.{Effect}
use Rattle.sw_value.specs.declared.effect.Effect.TheVariants as effect
use Rattle.sw_value.specs.declared.state.State.{State}
use Rattle.sw_value.specs.declared.value.Value.{Value}
use Rattle.sw_value.specs.Cell.{with_slot}
use Rattle.sw_value.specs.Reach.{after_effect}
use Rattle.sw_secure_facts.specs.Memory.{keeper}
use Rattle.sw_machine_name_facts.specs.Given.{made_cell}
use Rattle.sw_machine_name_facts.proofs.Cells.{CellAfter, added, cell_after, new_cell, stays, written}

keeper_stays : (graph : Graph) (c : ℕ) (slot : Slot) (v : Value) (h : HeapCell)
    → keeper graph c (with_slot slot v h) ≡ keeper graph c h
keeper_stays graph c slot v h = grind arith

-- an effect that adds a cell makes it
pub added_made : (e : Effect) (found : HeapCell) → new_cell (Execute e) ≡ Some found
    → (c : ℕ) × (made_cell (Execute e) ≡ Some c)
added_made (effect.New r h c next) found is = (c, refl)
added_made (effect.Spawn r frame task c next) found is = (c, refl)
added_made _ found is = cc

pub cell_was : (graph : Graph) (state : State) (j : ℕ) (e : Effect) (c : ℕ) (found : HeapCell)
    → slice_get (after_effect j e state).cells c ≡ Some found
    → ((old : HeapCell) × (slice_get state.cells c ≡ Some old)
    × (keeper graph c found ≡ keeper graph c old))
    ⊎ ((c ≡ length state.cells) × (new_cell (Execute e) ≡ Some found))
cell_was graph state j e c found at = by (cell_after j (Execute e) state c found at) where
  by : CellAfter state (Execute e) c found → ((old : HeapCell)
      × (slice_get state.cells c ≡ Some old) × (keeper graph c found ≡ keeper graph c old))
      ⊎ ((c ≡ length state.cells) × (new_cell (Execute e) ≡ Some found))
  by (stays old) = inl (found, old, refl)
  by (written slot v next is old was same) =
      inl (old, was, ap (keeper graph c) (sym same) ∙ keeper_stays graph c slot v old)
  by (added end is) = inr (end, is)
