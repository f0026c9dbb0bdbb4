use Rattle.std.proofs.Common.{◌≡◌, ◌++◌, take}
use Rattle.std.specs.List.{flat_map}
use Rattle.sw_types.specs.Held.{named_by}
use Rattle.sw_types.proofs.holding.add_types.Given as goal

abbrev pub invariant-loop-ty : goal.invariant-loop-ty
invariant-loop-ty l = l.held ≡ l.fn.held ++ flat_map named_by (take l.ty-index l.types)
