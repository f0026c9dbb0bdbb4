use Rattle.sw_types.specs.Walks.{AreMoved}
use Rattle.sw_types.proofs.ordering.Walk.move_from.Given as goal

abbrev pub invariant-loop-place : goal.invariant-loop-place
invariant-loop-place l = AreMoved l.first l.place l.returns l.fn.self l.self
