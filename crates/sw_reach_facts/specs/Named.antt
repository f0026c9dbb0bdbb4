-- The values that a state has, and when the cells that they refer to are there.
use Rattle.std.specs.Prelude.{◌<◌, ℕ, List, [], ◌∷◌, length}
use Rattle.std.specs.List.{Contains}
use Rattle.sw_value.specs.declared.cell.HeapCell.{HeapCell}
use Rattle.sw_value.specs.declared.cell.HeapCell.TheVariants.{Object, Actor, BoxOf, Closure, TaskOf}
use Rattle.sw_value.specs.declared.value.Value.{Value}
use Rattle.sw_reach_facts.specs.Reached.{references}

-- the value refers to cells that are there
abbrev pub NamesCells : List HeapCell → Value → Type 0
NamesCells cells v = (c : ℕ) → Contains (references v) c → c < length cells

-- the values in a cell, and those that a closure captured
abbrev pub values_in : HeapCell → List Value
values_in (Object k parts) = parts
values_in (Actor k parts) = parts
values_in (BoxOf v) = v ∷ []
values_in (Closure f captures) = captures
values_in (TaskOf j) = []
