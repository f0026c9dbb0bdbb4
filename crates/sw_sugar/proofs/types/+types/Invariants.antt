use Rattle.std.proofs.Common.{◌≡◌, take}
use Rattle.sw_sugar.proofs.types.+types.Given as goal

abbrev pub invariant-copied_types-loop-tree : goal.invariant-copied_types-loop-tree
invariant-copied_types-loop-tree l = l.made ≡ take l.tree-index l.trees
