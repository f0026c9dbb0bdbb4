-- What is said of each shape by what is said of the shapes that it holds, for shapes that are
-- nested to some depth.
use Rattle.std.specs.Prelude.{◌≡◌, ℕ, zero, suc, List, map, length, replicate, slice_index_or}
use Rattle.std.specs.Prelude.{Contains}
use Rattle.sw_types.specs.Held.{held_by}
use Rattle.sw_types.specs.declared.shape.Shape.{Shape}

-- What a step says of each shape, where shapes below this depth are said by the step and deeper
-- ones are said to be `none`.
abbrev pub by_depth : {A : Type 0} → A → ((ℕ → A) → Shape → A) → List Shape → ℕ → List A
by_depth none step shapes zero = replicate (length shapes) none
by_depth none step shapes (suc depth) =
    map (step (λ k. slice_index_or (by_depth none step shapes depth) k none)) shapes

-- What a step says of a shape by its number: as many shapes can't be nested deeper than their
-- number.
unfoldable pub of_shape : {A : Type 0} → A → ((ℕ → A) → Shape → A) → List Shape → ℕ → A
of_shape none step shapes k = slice_index_or (by_depth none step shapes (length shapes)) k none

-- a step looks at nothing but what the shape holds
abbrev pub LooksAtHeld : {A : Type 0} → ((ℕ → A) → Shape → A) → Type 0
LooksAtHeld {A} step = (f g : ℕ → A) (shape : Shape)
    → ((b : ℕ) → Contains (held_by shape) b → f b ≡ g b) → step f shape ≡ step g shape
