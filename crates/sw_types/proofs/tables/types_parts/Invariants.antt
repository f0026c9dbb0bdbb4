use Rattle.std.proofs.Common.{◌≡◌, get_or, take}
use Rattle.sw_types.specs.Parts.{parts_together}
use Rattle.sw_types.proofs.tables.types_parts.Given as goal

abbrev pub invariant-loop-ty : goal.invariant-loop-ty
invariant-loop-ty l = l.total ≡ parts_together (λ k. get_or l.named k 0) (take l.ty-index l.types)
