use Rattle.sw_region_ops.specs.Elements.{element_count}
use Rattle.sw_region_ops.specs.Entry.{here_at_entry}
use Rattle.sw_region_ops.proofs.RunLemmas.{one_entry}
use Rattle.sw_region_ops.proofs.laws.entries_are_one.Goals as goal

pub returns : goal.returns
returns c = λ setting sites a b first second.
    one_entry (element_count setting.elements) sites (here_at_entry setting) a b first second
