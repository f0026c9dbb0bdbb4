-- What was noted so far, with what is left to note, is the whole, and the same variables are
-- listed.
use Rattle.std.proofs.Common.{◌≡◌, ◌++◌, drop}
use Rattle.sw_typing_rules.specs.Worlds.{world_of}
use Rattle.sw_isolation_table.specs.Known.{answers_of}
use Rattle.sw_isolation_walk.specs.Walked.{args_noted, case_arms_noted, if_arms_noted, links_noted}
use Rattle.sw_isolation_walk.specs.Walked.{stmts_noted}
use Rattle.sw_isolation_walk.proofs.walk.+walk.Given as goal

abbrev pub invariant-arguments-loop-arg : goal.invariant-arguments-loop-arg
invariant-arguments-loop-arg l =
    (l.notes ++ args_noted (world_of l.world) (answers_of l.typed) (drop l.arg-index l.args)
    l.context l.fn.listed
    ≡ l.fn.notes ++ args_noted (world_of l.world) (answers_of l.typed) l.args l.context
    l.fn.listed) × (l.listed ≡ l.fn.listed)

abbrev pub invariant-links-loop-link : goal.invariant-links-loop-link
invariant-links-loop-link l =
    (l.notes ++ links_noted (world_of l.world) (answers_of l.typed) (drop l.link-index l.links)
    l.context l.fn.listed
    ≡ l.fn.notes ++ links_noted (world_of l.world) (answers_of l.typed) l.links l.context
    l.fn.listed) × (l.listed ≡ l.fn.listed)

abbrev pub invariant-stmts-loop-tree : goal.invariant-stmts-loop-tree
invariant-stmts-loop-tree l =
    (l.notes ++ stmts_noted (world_of l.world) (answers_of l.typed) (drop l.tree-index l.trees)
    l.context l.fn.listed
    ≡ l.fn.notes ++ stmts_noted (world_of l.world) (answers_of l.typed) l.trees l.context
    l.fn.listed) × (l.listed ≡ l.fn.listed)

abbrev pub invariant-if_arms-loop-tree : goal.invariant-if_arms-loop-tree
invariant-if_arms-loop-tree l =
    (l.notes ++ if_arms_noted (world_of l.world) (answers_of l.typed) (drop l.tree-index l.trees)
    l.context l.fn.listed
    ≡ l.fn.notes ++ if_arms_noted (world_of l.world) (answers_of l.typed) l.trees l.context
    l.fn.listed) × (l.listed ≡ l.fn.listed)

abbrev pub invariant-case_arms-loop-tree : goal.invariant-case_arms-loop-tree
invariant-case_arms-loop-tree l =
    (l.notes ++ case_arms_noted (world_of l.world) (answers_of l.typed)
    (drop l.tree-index l.trees) l.context l.fn.listed
    ≡ l.fn.notes ++ case_arms_noted (world_of l.world) (answers_of l.typed) l.trees l.context
    l.fn.listed) × (l.listed ≡ l.fn.listed)
