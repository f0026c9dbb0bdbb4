use Rattle.std.proofs.Common.{◌≡◌, take}
use Rattle.std.specs.List.{flat_map}
use Rattle.sw_decl_names.specs.Bodies.{pattern_names}
use Rattle.sw_decl_names.proofs.bodies.names_of_patterns.Given as goal

abbrev pub invariant-loop-pattern : goal.invariant-loop-pattern
invariant-loop-pattern l = l.names ≡ flat_map pattern_names (take l.pattern-index l.patterns)
