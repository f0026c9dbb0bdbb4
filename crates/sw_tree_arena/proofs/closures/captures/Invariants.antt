-- The work of what is left, before that of the others, is the whole work.
use Rattle.std.proofs.Common.{◌≡◌, ◌<◌, length}
use Rattle.std.specs.Iterator.Adapters.{rev_source}
use Rattle.std.specs.Slice.Iter.{iter_rest}
use Rattle.sw_tree_arena.specs.Nodes.{Grows}
use Rattle.sw_tree_arena.specs.Sites.{after}
use Rattle.sw_tree_arena.specs.Parts.{capture_work, each_before}
use Rattle.sw_tree_arena.proofs.closures.captures.Given as goal

abbrev pub invariant-loop-one : goal.invariant-loop-one
invariant-loop-one l = record {
  stays : Grows l.fn.arena l.arena;
  here : l.next < length l.arena;
  is : each_before capture_work (iter_rest (rev_source l.one-iterator)) (after l.site l.arena l.next)
      ≡ each_before capture_work l.captures (after l.site l.fn.arena l.fn.rest);
}
