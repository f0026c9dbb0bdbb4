use Rattle.std.proofs.Common.{ap, ◌∙◌, arith, take}
use Rattle.std.proofs.lemmas.List.Elements.{Contains-push}
use Rattle.sw_types.proofs.Settling.{settled_walk_at}
use Rattle.sw_types.proofs.Walking.{opened_within}
use Rattle.sw_types.proofs.ordering.Walk.settle.Goals as goal

pub lead_back-returns-requires-clause-first : goal.lead_back-returns-requires-clause-first
lead_back-returns-requires-clause-first c =
    (c.requires.walk.grouped.grounded c.args.group
    (Contains-push c.args.self.now.groups c.args.group)).0

pub lead_back-returns-requires-clause-within : goal.lead_back-returns-requires-clause-within
lead_back-returns-requires-clause-within c =
    opened_within c.args.edges.now _ c.args.group.first c.requires.walk.listed
    (c.requires.walk.grouped.grounded c.args.group
    (Contains-push c.args.self.now.groups c.args.group)).0

pub move_from-requires-clause-first : goal.move_from-requires-clause-first
move_from-requires-clause-first c =
    let lt = (c.requires.walk.grouped.grounded c.args.group
    (Contains-push c.args.self.now.groups c.args.group)).0 in
    omega (arith, lt)

pub returns-clause-walk : goal.returns-clause-walk
returns-clause-walk c =
    let moved = c.in_ok-move_from.ensures in
    settled_walk_at c.args.edges.now c.args.self.now c.args.group c.move_from.new.self
    c.lead_back-returns.result c.requires.walk moved c.requires.done c.lead_back-returns.ensures
    c.truncate.new.self _ _
    (c.truncate.ensures ∙ ap (take c.args.group.first) moved.opened) moved.groups moved.waiting
