use Rattle.std.proofs.Common.{◌≡◌, ◌++◌, ◌≤◌, drop, take, length}
use Rattle.std.specs.Option.{option_copied}
use Rattle.sw_typing_rules.specs.Calls.{slots_of}
use Rattle.sw_typing_rules.specs.Worlds.{world_of}
use Rattle.sw_typing_words.specs.Callees.{as_callee}
use Rattle.sw_typing_steps.specs.Steps.{judged_since, setting_in, state_of}
use Rattle.sw_typing.specs.Walked.{args_passed, case_arms_left, if_arms_left, links_known}
use Rattle.sw_typing.specs.Walked.{stmts_left}
use Rattle.sw_typing.proofs.Loops.{branches, follows}
use Rattle.sw_typing.proofs.walk.+walk.Given as goal

-- the arguments so far, and those that are left with the parameters that are left
abbrev pub invariant-pass-loop-index : goal.invariant-pass-loop-index
invariant-pass-loop-index l =
    (l.given ++ (args_passed (world_of l.world) (drop l.index l.args)
    (setting_in l.owner l.fn.table)
    (drop l.index (slots_of (as_callee (world_of l.world) l.callee)))).given
    ≡ (args_passed (world_of l.world) l.args (setting_in l.owner l.fn.table)
    (slots_of (as_callee (world_of l.world) l.callee))).given)
    × ((l.table.rows ++ (args_passed (world_of l.world) (drop l.index l.args)
    (setting_in l.owner l.fn.table)
    (drop l.index (slots_of (as_callee (world_of l.world) l.callee)))).rows
    ≡ l.fn.table.rows ++ (args_passed (world_of l.world) l.args (setting_in l.owner l.fn.table)
    (slots_of (as_callee (world_of l.world) l.callee))).rows)
    × ((l.table.vars ≡ l.fn.table.vars) × (l.table.returned ≡ l.fn.table.returned)))

-- the operators that are left, after what stands before them
abbrev pub invariant-links-loop-link : goal.invariant-links-loop-link
invariant-links-loop-link l =
    (l.start ≤ length l.table.rows) × ((take l.start l.table.rows ≡ take l.start l.fn.table.rows)
    × ((l.table.vars ≡ l.fn.table.vars) × ((l.table.returned ≡ l.fn.table.returned)
    × (links_known (world_of l.world) (drop l.link-index l.links) (setting_in l.owner l.fn.table)
    (judged_since l.left l.start l.table)
    ≡ links_known (world_of l.world) l.links (setting_in l.owner l.fn.table)
    (judged_since l.fn.first l.start l.fn.table)))))

-- what the statements so far noted and left, with what is left to do, is the whole
abbrev pub invariant-stmts-loop-tree : goal.invariant-stmts-loop-tree
invariant-stmts-loop-tree l =
    follows l.went l.table
    (stmts_left (world_of l.world) (drop l.tree-index l.trees) l.inside (state_of l.table))
    l.fn.table (stmts_left (world_of l.world) l.trees l.inside (state_of l.fn.table))

-- the same of the arms of an `if`
abbrev pub invariant-if_arms-loop-tree : goal.invariant-if_arms-loop-tree
invariant-if_arms-loop-tree l =
    branches l.went l.table
    (if_arms_left (world_of l.world) (drop l.tree-index l.trees) l.inside (state_of l.table))
    l.fn.table (if_arms_left (world_of l.world) l.trees l.inside (state_of l.fn.table))

-- the same of the arms of a `switch`
abbrev pub invariant-case_arms-loop-tree : goal.invariant-case_arms-loop-tree
invariant-case_arms-loop-tree l =
    branches l.went l.table
    (case_arms_left (world_of l.world) (drop l.tree-index l.trees) (option_copied l.cases)
    l.inside (state_of l.table)).left
    l.fn.table (case_arms_left (world_of l.world) l.trees (option_copied l.cases) l.inside
    (state_of l.fn.table)).left
