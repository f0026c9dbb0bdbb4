-- The tracked operands of an instruction. What is said of operands in the table of operations is
-- said of these alone.
use Rattle.std.specs.Prelude.{ℕ, ◌+◌, Bool, true, false, not, if◌then◌else◌, Option, Some, None}
use Rattle.std.specs.Prelude.{List, [], ◌∷◌, ◌++◌, slice_index_or}
use Rattle.sw_graph.specs.declared.instr.Operand.{Operand}
use Rattle.sw_region_ops.specs.Elements.{element_at}
use Rattle.sw_region_ops.specs.declared.marks.Mark.{Mark}

-- the element of an operand's register with the operand's position
abbrev pub mark_of : Option ℕ → ℕ → List Mark
mark_of (Some x) at = record { x = x; at = at } ∷ []
mark_of None at = []

abbrev pub mark_at : List (Option ℕ) → Operand → List Mark
mark_at elements operand = mark_of (element_at elements operand.reg) operand.at

-- the operands that are tracked, in order
abbrev pub marks_of : List (Option ℕ) → List Operand → List Mark
marks_of elements [] = []
marks_of elements (operand ∷ operands) = mark_at elements operand ++ marks_of elements operands

-- whether parameter k is one of those that are wanted: the `sending` ones, or those that aren't
abbrev pub is_wanted : List Bool → Bool → ℕ → Bool
is_wanted sending true k = slice_index_or sending k false
is_wanted sending false k = not (slice_index_or sending k false)

-- Of a call's arguments, the first of which is for parameter k of the callee, those that are
-- tracked and whose parameter is wanted.
abbrev pub arguments_from : List (Option ℕ) → List Bool → Bool → ℕ → List Operand → List Mark
arguments_from elements sending wanted k [] = []
arguments_from elements sending wanted k (operand ∷ operands) =
    (if is_wanted sending wanted k then mark_at elements operand else [])
    ++ arguments_from elements sending wanted (k + 1) operands

-- the tracked arguments of a call whose parameter is `sending` (SE-0430)
abbrev pub sent_arguments : List (Option ℕ) → List Bool → List Operand → List Mark
sent_arguments elements sending operands = arguments_from elements sending true 0 operands

-- the tracked ones whose parameter isn't
abbrev pub kept_arguments : List (Option ℕ) → List Bool → List Operand → List Mark
kept_arguments elements sending operands = arguments_from elements sending false 0 operands
