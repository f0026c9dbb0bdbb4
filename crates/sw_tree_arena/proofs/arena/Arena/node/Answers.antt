use Rattle.std.proofs.Common.{◌≡◌, List, subst}
use Rattle.sw_tree_arena.proofs.Growing.{in_order_at, node_is}
use Rattle.sw_tree_arena.specs.Nodes.{node_work, work_at}
use Rattle.sw_tree_arena.specs.declared.node.Node.{Node}
use Rattle.sw_tree_arena.proofs.arena.Arena.node.Goals as goal

pub returns-clause-below : goal.returns-clause-below
returns-clause-below c = in_order_at c.self.inside.nodes c.args.number c.at.result.now
    c.self.invariant c.at.ensures

pub returns-clause-is : goal.returns-clause-is
returns-clause-is c = λ shapes.
    let P : List Node → Type 0 = λ nodes. work_at shapes nodes c.args.number
    ≡ node_work shapes (work_at shapes nodes) c.at.result.now in
    subst P c.self.view_is (node_is shapes c.self.inside.nodes c.args.number c.at.result.now
    c.self.invariant c.at.ensures)
