use Rattle.std.proofs.Common.{List, Contains, length, subst, arith}
use Rattle.std.proofs.lemmas.Result.{on_ok_weaker}
use Rattle.sw_types.specs.Walks.{AreInOrder, IsWalk}
use Rattle.sw_types.specs.declared.ordering.Group.{Group}
use Rattle.sw_types.proofs.Grouping.{all_wait}
use Rattle.sw_types.proofs.ordering.Walk.settle_last.Goals as goal

pub settle-requires-clause-walk : goal.settle-requires-clause-walk
settle-requires-clause-walk c =
    subst (λ (groups : List Group). IsWalk c.args.edges.now
    (record c.loop-group.self { groups = groups })) c.in-Some.ensures c.loop-group.invariant.0

pub returns-then-group-len-clause-waits : goal.returns-then-group-len-clause-waits
returns-then-group-len-clause-waits c =
    let order = subst AreInOrder c.in-Some.ensures c.loop-group.invariant.0.grouped.increasing in
    on_ok_weaker c.push.result (λ new group has. all_wait c.pop.new.self c.in-Some.group
    (length c.loop-group.self.waiting) order
    (let lt = c.if-group-len.true in omega (arith, lt, c.len.ensures)) group
    (subst (λ groups. Contains groups group) new has)) c.push.ensures.ok
