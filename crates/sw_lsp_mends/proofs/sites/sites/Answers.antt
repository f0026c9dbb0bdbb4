use Rattle.std.proofs.Common.{Some, inl, inr, arith}
use Rattle.sw_lsp_mends.specs.Sites.{site, sites_below}
use Rattle.sw_lsp_mends.proofs.Searching.{has_enough, none_below, tried_more}
use Rattle.sw_lsp_mends.proofs.sites.sites.Goals as goal
use Rattle.sw_lsp_mends.proofs.sites.sites.Goals.{then-loop-next-test+else-len-lt-MOST_SITES, else-loop-next-test}

pub loop-next-preserved-in-Continue-1 : goal.loop-next-preserved-in-Continue-1
loop-next-preserved-in-Continue-1 c = record {
  all =
      rw c.in_ok-push.ensures.items
      (tried_more (site c.args.mend c.args.table.now c.args.word.now) _ c.loop-next.found.items c.loop-next.next
      (omega arith) c.loop-next.invariant.all (Some c.in-Some.site) c.in-Some.ensures);
  few = omega (arith, c.in_ok-push.ensures.len);
  low = omega arith;
}

pub returns : goal.returns
returns c =
    has_enough _ c.loop-next.found.items
    (sites_below (site c.args.mend c.args.table.now c.args.word.now) c.loop-next.next) c.loop-next.invariant.all
    c.loop-next.invariant.few
    (elim c.loop-next-test.branch [
      | then-loop-next-test+else-len-lt-MOST_SITES w ↦ inr (omega arith)
      | else-loop-next-test w ↦ inl (none_below (site c.args.mend c.args.table.now c.args.word.now) c.loop-next.next w.loop-next-test.false)
    ])
