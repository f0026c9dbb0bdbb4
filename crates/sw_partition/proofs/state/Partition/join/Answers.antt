use Rattle.std.proofs.Common.{arith}
use Rattle.sw_partition.proofs.Effecting.{join_done}
use Rattle.sw_partition.proofs.state.Partition.join.Goals as goal

pub returns-then-from-to : goal.returns-then-from-to
returns-then-from-to c =
    (join_done c.args.x c.args.y c.index-from.result.now c.index-to.result.now
    c.self.inside.labels.len c.self.inside.labels.items _ c.relabel.new.labels
    c.self.inside.sites.items c.self.inside.words.items c.args.self.now c.self.view_is
    c.deref_mut.ensures.value
    (omega (arith, c.self.inside.labels.ok.0)) c.requires.element c.requires.other
    c.index-from.ensures c.index-to.ensures c.self.invariant c.relabel.ensures).1
