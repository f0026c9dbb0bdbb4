use Rattle.std.proofs.Common.{◌≡◌, ◌<◌, ◌^◌, take}
use Rattle.std.specs.List.{AllByRecursion}
use Rattle.sw_cert.proofs.flows.extent_of.Given as goal

abbrev pub invariant-loop-site : goal.invariant-loop-site
invariant-loop-site l = record {
  value : l.sites ≡ take l.site-index l.given;
  small : AllByRecursion (λ site. site < 2 ^ 32) l.sites;
}
