use Rattle.std.proofs.Common.{◌-◌, ◌*◌, ◌+◌, List, ℕ, subst, ap}
use Rattle.std.specs.Ordering.{nat_cmp}
use Rattle.std.specs.List.Sorted.{IsBinarySearchResult}
use Rattle.sw_partition.proofs.Answering.{site_found, site_column}
use Rattle.sw_cert.proofs.Ranks.{rank_at}
use Rattle.sw_cert.proofs.pairs.rank.Goals as goal

pub unwrap-column-requires : goal.unwrap-column-requires
unwrap-column-requires c =
    site_found c.args.extent.now.sites c.args.pair.site _ c.requires.extent.rising
    (subst (λ (v : List ℕ). IsBinarySearchResult
    (λ y. nat_cmp y c.args.pair.site) v c.binary_search.result) c.as_slice.ensures
    c.binary_search.ensures.position) c.requires.pair.site

pub returns : goal.returns
returns c =
    let at = site_column c.args.extent.now.sites c.args.pair.site _ _ c.requires.extent.rising
    (subst (λ (v : List ℕ). IsBinarySearchResult
    (λ y. nat_cmp y c.args.pair.site) v c.binary_search.result) c.as_slice.ensures
    c.binary_search.ensures.position) c.unwrap-column.ensures in
    rank_at c.args.extent.now c.args.pair c.unwrap-column.result c.requires.pair at.0 at.1 _
    (ap (λ n. (c.args.pair.element - 1) * n + c.unwrap-column.result) c.len.ensures)
