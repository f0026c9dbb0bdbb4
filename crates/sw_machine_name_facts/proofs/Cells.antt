-- What a cell was before a step: the same, the cell that is written, or nothing where it is made.
use Rattle.std.proofs.Common.{◌≡◌, ℕ, ◌+◌, inl, inr, cond, Option, Some, None, [], ◌∷◌}
use Rattle.std.proofs.Common.{◌++◌, length, refl, ap, sym, ◌∙◌, length-append}
use Rattle.std.specs.Prelude.{is_some}
use Rattle.std.specs.List.{slice_get}
use Rattle.sw_value.specs.declared.cell.HeapCell.{HeapCell}
use Rattle.sw_value.specs.declared.cell.HeapCell.TheVariants as cell
use Rattle.sw_value.specs.declared.cell.Slot.{Slot}
use Rattle.sw_value.specs.declared.effect.Act.{Act}
use Rattle.sw_value.specs.declared.effect.Act.TheVariants.{Execute}
use Rattle.sw_value.specs.declared.effect.Effect.TheVariants as effect
use Rattle.sw_value.specs.declared.state.State.{State}
use Rattle.sw_value.specs.declared.value.Value.{Value}
use Rattle.sw_value.specs.Cell.{with_slot}
use Rattle.sw_value.specs.Reach.{after_act}
use Rattle.sw_value.specs.State.{in_job, add_job, add_cell, in_cell, set_global, halt}
use Rattle.sw_value.proofs.ListLemmas.{length-changed_at}
use Rattle.sw_machine_kind_facts.proofs.ItemLemmas.{at_end}
use Rattle.sw_machine_name_facts.specs.Given.{made_cell}
use Rattle.sw_machine_name_facts.proofs.Items.{of_changed}

-- what stands in the cell that an act makes
abbrev pub new_cell : Act → Option HeapCell
new_cell (Execute (effect.New r h number next)) = Some h
new_cell (Execute (effect.Spawn r frame made c next)) = Some (cell.TaskOf made)
new_cell _ = None

-- cell c after an act
pub data CellAfter (state : State) (act : Act) (c : ℕ) (h : HeapCell) : Type 0 where
  stays : slice_get state.cells c ≡ Some h → CellAfter state act c h
  written : (slot : Slot) (v : Value) (next : ℕ) → act ≡ Execute (effect.Write c slot v next)
      → (old : HeapCell) → slice_get state.cells c ≡ Some old → with_slot slot v old ≡ h
      → CellAfter state act c h
  added : c ≡ length state.cells → new_cell act ≡ Some h → CellAfter state act c h

of_added : (state : State) (act : Act) (c : ℕ) (new h : HeapCell) → new_cell act ≡ Some new
    → slice_get (state.cells ++ new ∷ []) c ≡ Some h → CellAfter state act c h
of_added state act c new h is at = elim (at_end state.cells new h c at) [
  | inl was ↦ stays was
  | inr (here, same) ↦ added here (is ∙ ap Some (sym same))
]

pub cell_after : (j : ℕ) (act : Act) (state : State) (c : ℕ) (h : HeapCell)
    → slice_get (after_act j act state).cells c ≡ Some h → CellAfter state act c h
unfolding in_job add_job add_cell in_cell set_global halt
cell_after j (Execute (effect.New r new number next)) state c h at =
    of_added state (Execute (effect.New r new number next)) c new h refl at
cell_after j (Execute (effect.Spawn r frame task number next)) state c h at =
    of_added state (Execute (effect.Spawn r frame task number next)) c (cell.TaskOf task) h refl at
cell_after j (Execute (effect.Write d slot v next)) state c h at =
    elim (of_changed (with_slot slot v) d c state.cells h at) [
      | inl was ↦ stays was
      | inr w ↦
          written slot v next
          (ap (λ n. Execute (effect.Write n slot v next)) (sym w.here)) w.old w.was w.is
    ]
cell_after j act state c h at = stays at

-- how many there are
pub cells_counted : (j : ℕ) (act : Act) (state : State)
    → length (after_act j act state).cells
    ≡ cond (is_some (made_cell act)) (length state.cells + 1) (length state.cells)
unfolding in_job add_job add_cell in_cell set_global halt
cells_counted j (Execute (effect.New r h number next)) state = length-append state.cells (h ∷ [])
cells_counted j (Execute (effect.Spawn r frame task number next)) state =
    length-append state.cells (cell.TaskOf task ∷ [])
cells_counted j (Execute (effect.Write c slot v next)) state =
    length-changed_at (with_slot slot v) c state.cells
cells_counted j act state = refl
