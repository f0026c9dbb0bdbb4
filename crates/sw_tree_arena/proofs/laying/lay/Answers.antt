use Rattle.sw_tree_arena.specs.Sites.{shapes_at}
use Rattle.sw_tree_arena.proofs.laying.lay.Goals as goal

pub returns : goal.returns
returns c = c.put.ensures (shapes_at c.args.site.now)
