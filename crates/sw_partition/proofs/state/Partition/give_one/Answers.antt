use Rattle.std.proofs.Common.{◌≡◌, ℕ, List, Contains, length, sym, subst, ap, ◌∙◌, arith}
use Rattle.std.specs.Ordering.{nat_cmp}
use Rattle.std.specs.List.Sorted.{IsBinarySearchResult}
use Rattle.sw_partition.specs.Regions.{Regions, words_for}
use Rattle.sw_partition.proofs.Answering.{site_found, site_column, give_one_done}
use Rattle.sw_partition.proofs.state.Partition.give_one.Goals as goal

pub unwrap-column-requires : goal.unwrap-column-requires
unwrap-column-requires c =
    site_found c.self.inside.sites.items c.args.site _ c.self.invariant.rising
    (subst (λ (v : List ℕ). IsBinarySearchResult
    (λ y. nat_cmp y c.args.site) v c.binary_search.result) c.deref.ensures.value
    c.binary_search.ensures.position)
    (subst (λ (r : Regions). Contains r.sites c.args.site) (sym c.self.view_is) c.requires.site)

pub invariant_of-self : goal.invariant_of-self
invariant_of-self c =
    let sites : c.len.result ≡ length c.self.inside.sites.items =
    omega (arith, c.len.ensures, c.self.inside.sites.ok.0) in
    (give_one_done c.args.x c.args.site c.words_for-width.result c.unwrap-column.result
    c.self.inside.words.len c.self.inside.labels.items c.self.inside.sites.items
    c.self.inside.words.items _ c.mark.new.words c.args.self.now c.self.view_is
    c.deref_mut.ensures.value (c.words_for-width.ensures ∙ ap words_for sites)
    (omega (arith, c.self.inside.words.ok.0)) c.requires.element c.requires.not_here
    (site_column c.self.inside.sites.items c.args.site _ _ c.self.invariant.rising
    (subst (λ (v : List ℕ). IsBinarySearchResult
    (λ y. nat_cmp y c.args.site) v c.binary_search.result) c.deref.ensures.value
    c.binary_search.ensures.position) c.unwrap-column.ensures)
    c.self.invariant c.mark.ensures).0

pub returns : goal.returns
returns c =
    let sites : c.len.result ≡ length c.self.inside.sites.items =
    omega (arith, c.len.ensures, c.self.inside.sites.ok.0) in
    (give_one_done c.args.x c.args.site c.words_for-width.result c.unwrap-column.result
    c.self.inside.words.len c.self.inside.labels.items c.self.inside.sites.items
    c.self.inside.words.items _ c.mark.new.words c.args.self.now c.self.view_is
    c.deref_mut.ensures.value (c.words_for-width.ensures ∙ ap words_for sites)
    (omega (arith, c.self.inside.words.ok.0)) c.requires.element c.requires.not_here
    (site_column c.self.inside.sites.items c.args.site _ _ c.self.invariant.rising
    (subst (λ (v : List ℕ). IsBinarySearchResult
    (λ y. nat_cmp y c.args.site) v c.binary_search.result) c.deref.ensures.value
    c.binary_search.ensures.position) c.unwrap-column.ensures)
    c.self.invariant c.mark.ensures).1
