use Rattle.std.proofs.Common.{◌≡◌, take}
use Rattle.sw_value.specs.Transition.{Transition}
use Rattle.sw_before.specs.Clocks.{heard}
use Rattle.sw_clocks.specs.Links.{links_of}
use Rattle.sw_clocks.specs.Rows.{clocks_in}
use Rattle.sw_hb.specs.Entries.{first_unheard}
use Rattle.sw_hb.proofs.finding.first_among.Given as goal

abbrev pub invariant-loop-latest : goal.invariant-loop-latest
invariant-loop-latest l = (t : Transition) → links_of t ≡ l.links
    → l.first ≡ first_unheard (heard (clocks_in l.clocks) t) l.access (take l.latest-index l.entries)
