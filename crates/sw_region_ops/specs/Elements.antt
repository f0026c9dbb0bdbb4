-- The elements of a function's region states (SE-0414): `Here`, which is element 0, and the
-- registers that are tracked, numbered from 1 on in their order.
use Rattle.std.specs.Prelude.{◌≡◌, ◌≢◌, ℕ, ◌+◌, ◌<◌, ◌≤◌, Bool, true, not, if◌then◌else◌, Option}
use Rattle.std.specs.Prelude.{Some, None, List, [], ◌∷◌, length, slice_index_or}
use Rattle.std.specs.List.{count_by}
use Rattle.std.specs.Option.{is_some}
use Rattle.sw_types.specs.Sendable.{is_sendable}
use Rattle.sw_types.specs.declared.shape.Shape.{Shape}
use Rattle.sw_graph.specs.declared.function.RegKind.{RegKind}
use Rattle.sw_graph.specs.declared.function.RegKind.TheVariants.{Plain, BoxOf}
use Rattle.sw_graph.specs.declared.function.TheConstants.{MAX_REGISTERS}

-- whether what a register holds belongs to a region: a box, or a value whose type isn't Sendable
abbrev pub is_tracked : List Shape → RegKind → Bool
is_tracked shapes (Plain ty) = not (is_sendable shapes ty)
is_tracked shapes (BoxOf ty) = true

-- the elements of registers, numbered from `next` on; none for a register that isn't tracked
abbrev pub numbered : List Shape → ℕ → List RegKind → List (Option ℕ)
numbered shapes next [] = []
numbered shapes next (kind ∷ kinds) =
    if is_tracked shapes kind then Some next ∷ numbered shapes (next + 1) kinds
    else None ∷ numbered shapes next kinds

-- the elements of a function's registers
abbrev pub elements_of : List Shape → List RegKind → List (Option ℕ)
elements_of shapes regs = numbered shapes 1 regs

-- how many elements there are, `Here` among them
abbrev pub element_count : List (Option ℕ) → ℕ
element_count elements = count_by is_some elements + 1

-- the element of a register
abbrev pub element_at : List (Option ℕ) → ℕ → Option ℕ
element_at elements r = slice_index_or elements r None

-- no more registers than a function has, each with an element other than `Here` or with none
pub record AreElements (elements : List (Option ℕ)) : Type 0 where
  pub few : length elements ≤ MAX_REGISTERS
  pub within : (r x : ℕ) → element_at elements r ≡ Some x → (x ≢ 0) × (x < element_count elements)
