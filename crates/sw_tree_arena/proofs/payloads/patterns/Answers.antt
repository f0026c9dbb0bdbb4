use Rattle.std.proofs.Common.{◌≡◌, ◌∙◌, ◌-◌, ◌+◌, ◌<◌, ap, sym, length, take, arith}
use Rattle.sw_tree.specs.declared.stmt.Pattern.TheVariants.{Skip}
use Rattle.sw_tree_work.specs.Forms.{patterns_work}
use Rattle.sw_tree_arena.specs.Sites.{after, shapes_at}
use Rattle.sw_tree_arena.proofs.Backwards.{patterns_next, whole_patterns}
use Rattle.sw_tree_arena.proofs.Growing.{given_at, grows_all, grows_none}
use Rattle.sw_tree_arena.proofs.payloads.patterns.Goals as goal

pub loop-index-init : goal.loop-index-init
loop-index-init c = record {
  stays = grows_none c.args.arena.now;
  here = c.requires;
  is = whole_patterns c.args.patterns.now (after c.args.site.now c.args.arena.now c.args.rest);
}

pub loop-index-preserved : goal.loop-index-preserved
loop-index-preserved c = record {
  stays = grows_all c.args.arena.now c.loop-index.arena c.pattern.new.arena
      c.loop-index.invariant.stays c.pattern.ensures.stays;
  here = c.in_ok-next.ensures.here;
  is =
      let patterns = c.args.patterns.now in
      let before = after c.args.site.now c.loop-index.arena c.loop-index.next in
      let inside : c.loop-index.index - 1 < length c.args.patterns.now = omega arith in
      let more : c.loop-index.index - 1 + 1 ≡ c.loop-index.index = omega arith in
      ap (patterns_work 0 (take (c.loop-index.index - 1) patterns))
      (sym (given_at (shapes_at c.args.site.now) c.pattern.new.arena _ c.in_ok-next.next)
      ∙ c.in_ok-next.ensures.is)
      ∙ sym (patterns_next patterns (c.loop-index.index - 1) (Skip 0) before inside)
      ∙ ap (λ n. patterns_work 0 (take n patterns) before) more
      ∙ c.loop-index.invariant.is;
}
