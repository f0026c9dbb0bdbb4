-- A line that is being read: the numbers so far, and what stands at the next byte.
use Rattle.std.specs.Prelude.{◌≡◌, ℕ, ◌+◌, ◌^◌, ◌<◌, ◌≤◌, ◌↔◌, Some, List, [], ◌∷◌, ◌++◌}
use Rattle.std.specs.Prelude.{length, drop}
use Rattle.std.specs.Prelude.{slice_get, slice_index, Contains}
use Rattle.sw_dictation.specs.Lines.{line_text, begun_line}
use Rattle.sw_dictation.specs.Numbers.{spelled, IsNone}
use Rattle.sw_cert.specs.Certificate.{IsLineAt, AreClasses, numbers_of}
use Rattle.sw_cert.specs.Choices.{HasLine, HasClasses}
use Rattle.sw_cert.specs.Form.{AreFit, pair_count}
use Rattle.sw_cert.specs.declared.form.Form.{Form}
use Rattle.sw_cert.specs.declared.line.Extent.{Extent}
use Rattle.sw_cert.specs.declared.line.Line.{Line}
use Rattle.sw_cert.specs.declared.line.Spot.{Spot}

-- the numbers below a count, in order
pub record IsScale (scale : List ℕ) : Type 0 where
  pub each : (k : ℕ) → k < length scale → slice_index scale k ≡ k

-- the extents are those of functions, and the numbers go past all that they name
pub record IsForm (form : Form) : Type 0 where
  pub fit : AreFit form.extents
  pub scale : IsScale form.scale
  pub few : length form.scale < 2 ^ 64
  pub functions : length form.extents ≤ length form.scale
  pub each : (function : ℕ) (extent : Extent) → slice_get form.extents function ≡ Some extent
      → (extent.blocks ≤ length form.scale) × (extent.elements < length form.scale)
      × (pair_count extent + 1 < 2 ^ 64)

-- the text begins with these numbers of a line, and the next one begins at a byte
pub record IsBegun (text so_far : List ℕ) (at : ℕ) : Type 0 where
  pub within : at ≤ length text
  pub at_is : at ≡ length (begun_line so_far)
  pub begins : text ≡ begun_line so_far ++ drop at text

-- a number that is offered stands at a byte, with what closes it, and `end` is the place behind it
pub record IsNext (Offered : ℕ → ℕ → Type 0) (text : List ℕ) (at n end : ℕ) : Type 0 where
  pub closer : ℕ
  pub offered : Offered n closer
  pub within : end ≤ length text
  pub end_is : end ≡ at + length (spelled n closer)
  pub splits : drop at text ≡ spelled n closer ++ drop end text

-- this number and this closer
abbrev pub IsJust : ℕ → ℕ → ℕ → ℕ → Type 0
IsJust number closer n c = (n ≡ number) × (c ≡ closer)

-- a number from one on and below another, which a blank closes
abbrev pub IsBetween : ℕ → ℕ → ℕ → ℕ → Type 0
IsBetween from to n c = (c ≡ 32) × ((from ≤ n) × (n < to))

-- none that is offered stands there, and `place` is how far the text goes with one
pub record IsStuck (Offered : ℕ → ℕ → Type 0) (text : List ℕ) (at place : ℕ) : Type 0 where
  pub over : ℕ
  pub place_is : place ≡ at + over
  pub none : IsNone Offered (drop at text) over

-- the function and the block of a line that may stand at a place are read
pub record IsBlockRead (extents : List Extent) (spot : Spot) (text : List ℕ) (function block at : ℕ)
    : Type 0 where
  pub extent : Extent
  pub has_line : HasLine extents spot function block extent
  pub begun : IsBegun text (function ∷ block ∷ []) at

-- so is the number of its elements
pub record IsHeadRead (extents : List Extent) (spot : Spot) (text : List ℕ) (head : Spot) (at : ℕ)
    : Type 0 where
  pub extent : Extent
  pub has_line : HasLine extents spot head.function head.block extent
  pub begun : IsBegun text (head.function ∷ head.block ∷ extent.elements ∷ []) at

-- so are the classes of the first elements
pub record AreClassesRead (extents : List Extent) (spot : Spot) (text : List ℕ) (head : Spot)
    (count : ℕ) (classes : List ℕ) (at : ℕ) : Type 0 where
  pub extent : Extent
  pub has_line : HasLine extents spot head.function head.block extent
  pub few : count ≤ extent.elements
  pub count_is : length classes ≡ count
  pub are_classes : AreClasses classes
  pub begun : IsBegun text (head.function ∷ head.block ∷ extent.elements ∷ classes) at

-- so are those of all
pub record AreAllClassesRead (extents : List Extent) (spot : Spot) (text : List ℕ) (head : Spot)
    (classes : List ℕ) (at : ℕ) : Type 0 where
  pub extent : Extent
  pub has_line : HasLine extents spot head.function head.block extent
  pub has_classes : HasClasses extent classes
  pub begun : IsBegun text (head.function ∷ head.block ∷ extent.elements ∷ classes) at

-- the elements that are the least of their class
pub record AreRoots (classes roots : List ℕ) : Type 0 where
  pub each : (n : ℕ) → Contains roots n ↔ ((n < length classes) × (slice_index classes n ≡ n))

-- a line that may stand at a place begins the text, and `end` is the place behind it
pub record IsRead (extents : List Extent) (spot : Spot) (text : List ℕ) (line : Line)
    (end : ℕ) : Type 0 where
  pub is_at : IsLineAt extents spot line
  pub within : end ≤ length text
  pub end_is : end ≡ length (line_text (numbers_of line))
  pub splits : text ≡ line_text (numbers_of line) ++ drop end text
