use Rattle.std.proofs.Common.{arith}
use Rattle.sw_partition.proofs.Answering.{set_classes_done}
use Rattle.sw_partition.proofs.state.Partition.set_classes.Goals as goal

pub invariant_of-self : goal.invariant_of-self
invariant_of-self c =
    (set_classes_done c.self.inside.labels.len c.args.classes.now c.self.inside.labels.items
    c.replace.new.labels c.self.inside.sites.items c.self.inside.words.items c.args.self.now
    c.self.view_is (omega (arith, c.self.inside.labels.ok.0)) c.requires.elements
    c.requires.classes c.self.invariant c.replace.ensures).0

pub returns : goal.returns
returns c =
    (set_classes_done c.self.inside.labels.len c.args.classes.now c.self.inside.labels.items
    c.replace.new.labels c.self.inside.sites.items c.self.inside.words.items c.args.self.now
    c.self.view_is (omega (arith, c.self.inside.labels.ok.0)) c.requires.elements
    c.requires.classes c.self.invariant c.replace.ensures).1
