-- What is said of a shape is said by what is said of those that it holds.
use Rattle.std.proofs.Common.{◌≡◌, ℕ, false, List, Some, slice_get, ap, ◌∙◌}
use Rattle.std.proofs.lemmas.Option.{slice_get_within, get_or_from_slice_get}
use Rattle.sw_types.specs.Held.{edges_of}
use Rattle.sw_types.specs.Parts.{parts_at, shape_parts}
use Rattle.sw_types.specs.Paths.{AreRanked}
use Rattle.sw_types.specs.Sendable.{sends_at, shape_sends}
use Rattle.sw_types.specs.declared.shape.Shape.{Shape}
use Rattle.sw_types.proofs.DepthLemmas.{of_shape-by_parts}
use Rattle.sw_types.proofs.Looking.{parts_looks, sends_looks}

pub sends_by_parts : (shapes : List Shape) (k : ℕ) (shape : Shape) → AreRanked (edges_of shapes)
    → slice_get shapes k ≡ Some shape → sends_at shapes k ≡ shape_sends (sends_at shapes) shape
sends_by_parts shapes k shape are is =
    of_shape-by_parts false shape_sends shapes sends_looks are k shape
    (slice_get_within shapes k shape is)
    ∙ ap (shape_sends (sends_at shapes)) (get_or_from_slice_get shapes k shape shape is)

pub counted_by_parts : (shapes : List Shape) (k : ℕ) (shape : Shape) → AreRanked (edges_of shapes)
    → slice_get shapes k ≡ Some shape → parts_at shapes k ≡ shape_parts (parts_at shapes) shape
counted_by_parts shapes k shape are is =
    of_shape-by_parts 0 shape_parts shapes parts_looks are k shape
    (slice_get_within shapes k shape is)
    ∙ ap (shape_parts (parts_at shapes)) (get_or_from_slice_get shapes k shape shape is)
