-- What was found so far, with what is left to find, is the whole.
use Rattle.std.proofs.Common.{◌≡◌, ◌++◌, ◌≤◌, drop}
use Rattle.sw_lower_bodies.specs.Trees.{bodies_by}
use Rattle.sw_lower_known.specs.Knowledge.{tables_by}
use Rattle.sw_lower_rules.specs.Bodies.{bodies_from, program_bodies}
use Rattle.sw_lower_bodies.proofs.programs.bodies_of.Given as goal

abbrev pub invariant-loop-decl : goal.invariant-loop-decl
invariant-loop-decl l = (l.number ≤ l.decl-index) × (l.index ≤ l.decl-index)
    × (bodies_by (tables_by l.known) l.bodies
    ++ bodies_from (tables_by l.known) l.number l.index (drop l.decl-index l.decls)
    ≡ program_bodies (tables_by l.known) l.decls)
