-- What was found so far, with what is left to find, is the whole.
use Rattle.std.proofs.Common.{◌≡◌, ◌++◌, drop}
use Rattle.sw_lower_bodies.specs.Trees.{bodies_by}
use Rattle.sw_lower_known.specs.Knowledge.{tables_by}
use Rattle.sw_lower_rules.specs.Bodies.{prop_getters}
use Rattle.sw_lower_bodies.proofs.programs.add_prop_getters.Given as goal

abbrev pub invariant-loop-index : goal.invariant-loop-index
invariant-loop-index l =
    bodies_by (tables_by l.known) l.bodies
    ++ prop_getters (tables_by l.known) l.number l.index (drop l.index l.props)
    ≡ bodies_by (tables_by l.known) l.fn.bodies
    ++ prop_getters (tables_by l.known) l.number 0 l.props
