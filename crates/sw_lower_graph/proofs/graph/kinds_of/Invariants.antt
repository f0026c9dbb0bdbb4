use Rattle.std.proofs.Common.{◌≡◌, ◌++◌, drop, map}
use Rattle.sw_lower_rules.specs.Bodies.{global_kind}
use Rattle.sw_lower_graph.proofs.graph.kinds_of.Given as goal

-- the kinds so far, with those that are left, are all
abbrev pub invariant-loop-global : goal.invariant-loop-global
invariant-loop-global l =
    l.kinds ++ map global_kind (drop l.global-index l.globals) ≡ map global_kind l.globals
