-- Cells, and the slots that loads and stores name.
use Rattle.std.specs.Prelude.{ℕ, Option, Some, None, slice_get, slice_set}
use Rattle.sw_value.specs.declared.value.Value.{Value}
use Rattle.sw_value.specs.declared.cell.HeapCell.{HeapCell}
use Rattle.sw_value.specs.declared.cell.HeapCell.TheVariants as cell
use Rattle.sw_value.specs.declared.cell.Slot.{Slot}
use Rattle.sw_value.specs.declared.cell.Slot.TheVariants.{Part, Content}

-- what a cell has in a slot, if it has that slot
abbrev pub slot_of : Slot → HeapCell → Option Value
slot_of (Part i) (cell.Object k parts) = slice_get parts i
slot_of (Part i) (cell.Actor k parts) = slice_get parts i
slot_of Content (cell.BoxOf v) = Some v
slot_of _ _ = None

-- the cell with a value in a slot; a cell without that slot stays as it is
abbrev pub with_slot : Slot → Value → HeapCell → HeapCell
with_slot (Part i) v (cell.Object k parts) = cell.Object k (slice_set parts i v)
with_slot (Part i) v (cell.Actor k parts) = cell.Actor k (slice_set parts i v)
with_slot Content v (cell.BoxOf old) = cell.BoxOf v
with_slot _ v c = c

-- the job of a task
abbrev pub task_of : HeapCell → Option ℕ
task_of (cell.TaskOf j) = Some j
task_of _ = None
