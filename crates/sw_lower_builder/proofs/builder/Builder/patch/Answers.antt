use Rattle.std.proofs.Common.{◌≡◌}
use Rattle.std.specs.List.{slice_set}
use Rattle.sw_lower_builder.specs.Blocks.{with_last, changed_at}
use Rattle.sw_lower_builder.proofs.BlockLemmas.{put_there, last_counted}
use Rattle.sw_lower_builder.proofs.builder.Builder.patch.Goals as goal

pub invariant_of-self : goal.invariant_of-self
invariant_of-self c =
    last_counted _ c.self.inside.blocks _ c.self.inside.points c.args.block c.args.last
    c.self.invariant
    (put_there (with_last c.args.last) c.args.block c.self.inside.blocks _ _ c.at_mut.ensures.value
    c.end_with.ensures)

pub returns : goal.returns
returns c =
    let is : slice_set c.self.inside.blocks c.args.block c.end_with.new.block
    ≡ changed_at (with_last c.args.last) c.args.block c.self.inside.blocks =
    put_there (with_last c.args.last) c.args.block c.self.inside.blocks _ _ c.at_mut.ensures.value
    c.end_with.ensures in
    rw (is, ← c.self.view_is)
