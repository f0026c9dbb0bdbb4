use Rattle.std.proofs.Common.{◌≡◌, ◌++◌, [], All, drop, map, take}
use Rattle.sw_lower_rules.specs.Bodies.{too_large_in}
use Rattle.sw_lower.specs.Lowered.{EndsWell, function_by}
use Rattle.sw_lower.proofs.lowering.make_all.Given as goal

-- what was made so far, with what is left to make, is the whole
abbrev pub invariant-loop-tree : goal.invariant-loop-tree
invariant-loop-tree l = record {
  too_large : l.made.too_large
      ++ too_large_in (map (function_by l.known l.numbers) (drop l.tree-index l.bodies))
      ≡ too_large_in (map (function_by l.known l.numbers) l.bodies);
  functions : l.made.too_large ≡ [] → l.made.functions
      ++ map (function_by l.known l.numbers) (drop l.tree-index l.bodies)
      ≡ map (function_by l.known l.numbers) l.bodies;
  made : l.made.too_large ≡ [] → All (EndsWell l.known l.numbers) (take l.tree-index l.bodies);
}
