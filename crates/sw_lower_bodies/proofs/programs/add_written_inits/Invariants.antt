-- What was found so far, with what is left to find, is the whole.
use Rattle.std.proofs.Common.{◌≡◌, ◌++◌, drop}
use Rattle.std.specs.List.{flat_map}
use Rattle.sw_lower_bodies.specs.Trees.{bodies_by}
use Rattle.sw_lower_known.specs.Knowledge.{tables_by}
use Rattle.sw_lower_rules.specs.Bodies.{init_bodies}
use Rattle.sw_lower_bodies.proofs.programs.add_written_inits.Given as goal

abbrev pub invariant-loop-init : goal.invariant-loop-init
invariant-loop-init l =
    bodies_by (tables_by l.known) l.bodies
    ++ flat_map (init_bodies (tables_by l.known) l.number l.props) (drop l.init-index l.inits)
    ≡ bodies_by (tables_by l.known) l.fn.bodies
    ++ flat_map (init_bodies (tables_by l.known) l.number l.props) l.inits
