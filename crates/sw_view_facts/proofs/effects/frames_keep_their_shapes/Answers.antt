use Rattle.sw_view_facts.proofs.BlockLemmas.{open_at_block}
use Rattle.sw_view_facts.proofs.EffectLemmas.{inside_keeps_shape}
use Rattle.sw_view_facts.proofs.ShapeLemmas as shape
use Rattle.sw_view_facts.proofs.effects.frames_keep_their_shapes.Goals as goal

pub returns : goal.returns
returns c = record {
  shape = inside_keeps_shape;
  opens = shape.open_after;
  stays_open = shape.open_here;
  block_opens = open_at_block;
  closes = shape.shut_after;
  shut = shape.shape_shut;
}
