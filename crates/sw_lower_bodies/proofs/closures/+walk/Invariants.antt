-- What was found so far, with what is left to find, is the whole.
use Rattle.std.proofs.Common.{◌≡◌, ◌++◌, drop}
use Rattle.sw_lower_bodies.specs.Inside.{args_inside, cases_inside, ifs_inside, links_inside}
use Rattle.sw_lower_bodies.specs.Inside.{stmts_inside}
use Rattle.sw_lower_bodies.specs.Trees.{bodies_by}
use Rattle.sw_lower_known.specs.Knowledge.{tables_by}
use Rattle.sw_lower_bodies.proofs.closures.+walk.Given as goal

abbrev pub invariant-arguments-loop-arg : goal.invariant-arguments-loop-arg
invariant-arguments-loop-arg l =
    bodies_by (tables_by l.known) l.bodies
    ++ args_inside (tables_by l.known) l.owner (drop l.arg-index l.args)
    ≡ bodies_by (tables_by l.known) l.fn.bodies ++ args_inside (tables_by l.known) l.owner l.args

abbrev pub invariant-links-loop-link : goal.invariant-links-loop-link
invariant-links-loop-link l =
    bodies_by (tables_by l.known) l.bodies
    ++ links_inside (tables_by l.known) l.owner (drop l.link-index l.links)
    ≡ bodies_by (tables_by l.known) l.fn.bodies ++ links_inside (tables_by l.known) l.owner l.links

abbrev pub invariant-if_arms-loop-arm : goal.invariant-if_arms-loop-arm
invariant-if_arms-loop-arm l =
    bodies_by (tables_by l.known) l.bodies
    ++ ifs_inside (tables_by l.known) l.owner (drop l.arm-index l.arms)
    ≡ bodies_by (tables_by l.known) l.fn.bodies ++ ifs_inside (tables_by l.known) l.owner l.arms

abbrev pub invariant-case_arms-loop-arm : goal.invariant-case_arms-loop-arm
invariant-case_arms-loop-arm l =
    bodies_by (tables_by l.known) l.bodies
    ++ cases_inside (tables_by l.known) l.owner (drop l.arm-index l.arms)
    ≡ bodies_by (tables_by l.known) l.fn.bodies ++ cases_inside (tables_by l.known) l.owner l.arms

abbrev pub invariant-block-loop-stmt : goal.invariant-block-loop-stmt
invariant-block-loop-stmt l =
    bodies_by (tables_by l.known) l.bodies
    ++ stmts_inside (tables_by l.known) l.owner (drop l.stmt-index l.stmt-items)
    ≡ bodies_by (tables_by l.known) l.fn.bodies
    ++ stmts_inside (tables_by l.known) l.owner l.stmt-items
