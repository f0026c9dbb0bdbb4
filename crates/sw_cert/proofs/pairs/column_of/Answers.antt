use Rattle.std.proofs.Common.{List, ℕ, subst}
use Rattle.std.specs.Ordering.{nat_cmp}
use Rattle.std.specs.List.Sorted.{IsBinarySearchResult}
use Rattle.sw_partition.proofs.Answering.{site_column}
use Rattle.sw_cert.proofs.pairs.column_of.Goals as goal

pub returns-in-Ok : goal.returns-in-Ok
returns-in-Ok c =
    let at = site_column c.args.extent.now.sites c.args.site c.in-Ok.column c.binary_search.result
    c.requires.rising
    (subst (λ (v : List ℕ). IsBinarySearchResult (λ y. nat_cmp y c.args.site) v
    c.binary_search.result) c.as_slice.ensures c.binary_search.ensures.position) c.in-Ok.is in
    record { within = at.0; site = at.1 }
