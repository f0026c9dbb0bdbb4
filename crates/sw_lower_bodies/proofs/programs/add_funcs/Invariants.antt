-- What was found so far, with what is left to find, is the whole.
use Rattle.std.proofs.Common.{◌≡◌, ◌++◌, drop}
use Rattle.std.specs.List.{flat_map}
use Rattle.sw_lower_bodies.specs.Trees.{bodies_by}
use Rattle.sw_lower_known.specs.Knowledge.{tables_by}
use Rattle.sw_lower_rules.specs.Bodies.{func_tree_bodies}
use Rattle.sw_lower_bodies.proofs.programs.add_funcs.Given as goal

abbrev pub invariant-loop-func : goal.invariant-loop-func
invariant-loop-func l =
    bodies_by (tables_by l.known) l.bodies
    ++ flat_map (func_tree_bodies (tables_by l.known)) (drop l.func-index l.funcs)
    ≡ bodies_by (tables_by l.known) l.fn.bodies
    ++ flat_map (func_tree_bodies (tables_by l.known)) l.funcs
