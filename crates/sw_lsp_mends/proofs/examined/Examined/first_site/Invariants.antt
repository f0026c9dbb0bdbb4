use Rattle.std.proofs.Common.{ℕ, Option, drop}
use Rattle.sw_lsp_mends.specs.Offers.{IsFirstSite}
use Rattle.sw_lsp_mends.proofs.examined.Examined.first_site.Given as goal

-- the first site is among those that weren't tried yet
abbrev pub invariant-loop-site : goal.invariant-loop-site
invariant-loop-site l =
    (found : Option ℕ) → IsFirstSite l.self l.breach l.piece (drop l.site-index l.sites) found
    → IsFirstSite l.self l.breach l.piece l.sites found
