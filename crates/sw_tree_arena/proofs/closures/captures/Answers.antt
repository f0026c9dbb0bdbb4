use Rattle.std.proofs.Common.{◌≡◌, ◌∙◌, sym, length}
use Rattle.std.specs.Iterator.Adapters.{rev_source}
use Rattle.std.specs.Slice.Iter.{iter_rest}
use Rattle.sw_tree_arena.specs.Parts.{capture_work}
use Rattle.sw_tree_arena.specs.Sites.{after, shapes_at}
use Rattle.sw_tree_arena.proofs.Backwards.{captured_each, each_none}
use Rattle.sw_tree_arena.proofs.Growing.{given_at}
use Rattle.sw_tree_arena.proofs.closures.captures.Goals as goal

pub returns : goal.returns
returns c =
    let none : length (iter_rest (rev_source c.loop-one.one-iterator)) ≡ 0 =
    c.in-None.ensures.steps.0 in
    record {
      stays = c.loop-one.invariant.stays;
      here = c.loop-one.invariant.here;
      is = given_at (shapes_at c.args.site.now) c.loop-one.arena _ c.loop-one.next
          ∙ sym (each_none capture_work _
          (after c.args.site.now c.loop-one.arena c.loop-one.next) none)
          ∙ c.loop-one.invariant.is
          ∙ sym (captured_each c.args.captures.now
          (after c.args.site.now c.args.arena.now c.args.rest));
    }
