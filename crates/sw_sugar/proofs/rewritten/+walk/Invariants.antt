use Rattle.std.proofs.Common.{◌≡◌, map}
use Rattle.sw_sugar.specs.Rewritten.{rewritten, rewritten_arg, rewritten_case_arm}
use Rattle.sw_sugar.specs.Rewritten.{rewritten_if_arm, rewritten_link}
use Rattle.sw_sugar.proofs.rewritten.+walk.Given as goal

abbrev pub invariant-arguments-loop-tree : goal.invariant-arguments-loop-tree
invariant-arguments-loop-tree l =
    l.made ≡ map (rewritten_arg l.word) l.yielded

abbrev pub invariant-links-loop-tree : goal.invariant-links-loop-tree
invariant-links-loop-tree l =
    l.made ≡ map (rewritten_link l.word) l.yielded

abbrev pub invariant-stmts-loop-tree : goal.invariant-stmts-loop-tree
invariant-stmts-loop-tree l =
    l.made ≡ map (rewritten l.word) l.yielded

abbrev pub invariant-if_arms-loop-tree : goal.invariant-if_arms-loop-tree
invariant-if_arms-loop-tree l =
    l.made ≡ map (rewritten_if_arm l.word) l.yielded

abbrev pub invariant-case_arms-loop-tree : goal.invariant-case_arms-loop-tree
invariant-case_arms-loop-tree l =
    l.made ≡ map (rewritten_case_arm l.word) l.yielded
