use Rattle.std.proofs.Common.{◌≡◌, ℕ, false, get_or, subst}
use Rattle.sw_types.specs.Parts.{parts_at}
use Rattle.sw_types.specs.Sendable.{sends_at}
use Rattle.sw_types.specs.declared.shape.Shape.{Shape}
use Rattle.std.proofs.Common.{List}
use Rattle.sw_types.proofs.RankLemmas.{ranked}
use Rattle.sw_types.proofs.shapes.Shapes.in_order.Goals as goal

pub invariant_of-result : goal.invariant_of-result
invariant_of-result c = (
  c.requires.in_range,
  ranked _ _ c.requires.order,
  subst (λ (l : List Shape). (k : ℕ) → get_or c.in_ok-sends.sends k false ≡ sends_at l k)
      c.as_slice.ensures c.in_ok-sends.ensures,
  subst (λ (l : List Shape). (k : ℕ) → get_or c.in_ok-parts.parts k 0 ≡ parts_at l k)
      c.as_slice-2.ensures c.in_ok-parts.ensures,
)
