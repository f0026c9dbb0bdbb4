use Rattle.std.proofs.Common.{◌≡◌, ◌≤◌, ◌++◌, length}
use Rattle.sw_lsp_mends.specs.Sites.{reach, site, sites_below}
use Rattle.sw_lsp_mends.proofs.sites.sites.Given as goal

abbrev pub invariant-loop-next : goal.invariant-loop-next
invariant-loop-next l = record {
  all : sites_below (site l.mend l.table l.word) (reach l.mend l.table l.number)
      ≡ l.found.items ++ sites_below (site l.mend l.table l.word) l.next;
  few : length l.found.items ≤ 32;
  low : l.next ≤ 65537;
}

abbrev pub decreases-loop-next : goal.decreases-loop-next
decreases-loop-next l = l.next
