use Rattle.std.proofs.Common.{◌≡◌}
use Rattle.sw_decls.specs.Hollow.{hollowed}
use Rattle.sw_decls.proofs.hollow.hollowed.Given as goal

abbrev pub invariant-loop-shape : goal.invariant-loop-shape
invariant-loop-shape l = l.made ≡ hollowed l.marks l.yielded
