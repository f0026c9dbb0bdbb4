use Rattle.std.proofs.Common.{◌<◌, ℕ, List, length, subst}
use Rattle.sw_types.specs.Walks.{IsWalk}
use Rattle.sw_types.proofs.Stepping.{marks_right, none_begun, order_right, walk_begun}
use Rattle.sw_types.proofs.ordering.sorting_of.Goals as goal

pub loop-target-init : goal.loop-target-init
loop-target-init c = (
  walk_begun c.args.edges.now c.in_ok-walk.walk c.in_ok-walk.ensures,
  none_begun _ c.in_ok-walk.walk c.in_ok-walk.ensures,
)

pub look-requires-clause-walk : goal.look-requires-clause-walk
look-requires-clause-walk c =
    subst (λ (waiting : List ℕ). IsWalk c.args.edges.now
    (record c.loop-target.walk { waiting = waiting })) c.in-Some.ensures c.loop-target.invariant.0

pub look-requires-clause-last : goal.look-requires-clause-last
look-requires-clause-last c group has =
    subst (λ waiting. group.waiting < length waiting) c.in-Some.ensures
    (c.loop-target.invariant.1 group has)

pub returns-clause-returns : goal.returns-clause-returns
returns-clause-returns c = marks_right c.args.edges.now c.loop-target.walk
    c.loop-target.invariant.0 c.loop-target.invariant.1 c.in_default.ensures.0

pub returns-clause-order : goal.returns-clause-order
returns-clause-order c = order_right c.args.edges.now c.loop-target.walk
    c.loop-target.invariant.0 c.loop-target.invariant.1 c.in_default.ensures.0
