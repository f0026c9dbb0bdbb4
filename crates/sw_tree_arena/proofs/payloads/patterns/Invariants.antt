-- The work of the first patterns, before that of the others, is the whole work.
use Rattle.std.proofs.Common.{◌≡◌, ◌<◌, length, take}
use Rattle.sw_tree_work.specs.Forms.{patterns_work}
use Rattle.sw_tree_arena.specs.Nodes.{Grows}
use Rattle.sw_tree_arena.specs.Sites.{after}
use Rattle.sw_tree_arena.proofs.payloads.patterns.Given as goal

abbrev pub invariant-loop-index : goal.invariant-loop-index
invariant-loop-index l = record {
  stays : Grows l.fn.arena l.arena;
  here : l.next < length l.arena;
  is : patterns_work 0 (take l.index l.patterns) (after l.site l.arena l.next)
      ≡ patterns_work 0 l.patterns (after l.site l.fn.arena l.fn.rest);
}
