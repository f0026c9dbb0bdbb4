use Rattle.std.proofs.Common.{◌≡◌, ◌∷◌, map}
use Rattle.sw_sugar.specs.Rewritten.{rewritten}
use Rattle.sw_sugar.proofs.tasks.with_rest.Given as goal

abbrev pub invariant-loop-tree : goal.invariant-loop-tree
invariant-loop-tree l = l.stmts ≡ l.fn.first ∷ map (rewritten l.word) l.yielded
