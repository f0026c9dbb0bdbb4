use Rattle.std.proofs.Common.{◌≡◌, ◌+◌, ◌*◌, ◌<◌, ℕ, List, Contains, length, slice_index, sym}
use Rattle.std.proofs.Common.{subst}
use Rattle.std.proofs.Common.{ap, ◌∙◌, arith}
use Rattle.std.specs.Ordering.{nat_cmp}
use Rattle.std.specs.List.Sorted.{IsBinarySearchResult}
use Rattle.sw_partition.specs.Regions.{Regions, words_for, bit_of, HasPair}
use Rattle.sw_partition.proofs.Answering.{site_found, site_column, pair_is_set}
use Rattle.sw_partition.proofs.state.Partition.has.Goals as goal

pub unwrap-column-requires : goal.unwrap-column-requires
unwrap-column-requires c =
    site_found c.self.inside.sites.items c.args.site _ c.self.invariant.rising
    (subst (λ (v : List ℕ). IsBinarySearchResult
    (λ y. nat_cmp y c.args.site) v c.binary_search.result) c.deref.ensures.value
    c.binary_search.ensures.position)
    (subst (λ (r : Regions). Contains r.sites c.args.site) (sym c.self.view_is) c.requires.site)

pub returns : goal.returns
returns c =
    let r : Regions =
    record {
      labels = c.self.inside.labels.items;
      sites = c.self.inside.sites.items;
      words =
          c.self.inside.words.items;
    } in
    let sites : c.len.result ≡ length r.sites =
    omega (arith, c.len.ensures, c.self.inside.sites.ok.0) in
    let column : (c.unwrap-column.result < length r.sites)
    × (slice_index r.sites c.unwrap-column.result ≡ c.args.site) =
    site_column r.sites c.args.site _ _ c.self.invariant.rising
    (subst (λ (v : List ℕ). IsBinarySearchResult
    (λ y. nat_cmp y c.args.site) v c.binary_search.result) c.deref.ensures.value
    c.binary_search.ensures.position) c.unwrap-column.ensures in
    let pair = pair_is_set r c.args.x c.args.site c.unwrap-column.result c.self.invariant
    (subst (λ (v : Regions). c.args.x < length v.labels) (sym c.self.view_is) c.requires.element)
    column in
    let seen : bit_of c.deref-2.result.now
    (c.args.x * c.words_for-width.result * 64 + c.unwrap-column.result)
    ≡ bit_of r.words (c.args.x * words_for (length r.sites) * 64 + c.unwrap-column.result) =
    ap (λ v. bit_of v (c.args.x * c.words_for-width.result * 64 + c.unwrap-column.result))
    c.deref-2.ensures.value
    ∙ ap (λ w. bit_of r.words (c.args.x * w * 64 + c.unwrap-column.result))
    (c.words_for-width.ensures ∙ ap words_for sites) in (
      λ holds. subst (λ (v : Regions). HasPair v c.args.x c.args.site) c.self.view_is
          (pair.0 (sym seen ∙ c.is_set.ensures.0 holds)),
      λ has. c.is_set.ensures.1 (seen ∙ pair.1
          (subst (λ (v : Regions). HasPair v c.args.x c.args.site) (sym c.self.view_is) has)),
    )
