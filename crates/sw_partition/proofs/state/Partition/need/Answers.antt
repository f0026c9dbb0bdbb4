use Rattle.std.proofs.Common.{◌≡◌, ℕ, length, sym, subst, refl, ap, ◌∙◌, arith}
use Rattle.std.proofs.lemmas.List.{get_or_read}
use Rattle.sw_partition.specs.Regions.{words_for}
use Rattle.sw_partition.specs.Effects.{IsLeastSite}
use Rattle.sw_partition.proofs.Answering.{need_found, here_has_none}
use Rattle.sw_partition.proofs.state.Partition.need.Goals as goal

pub index-requires : goal.index-requires
index-requires c =
    let sites : c.len.result ≡ length c.self.inside.sites.items =
    omega (arith, c.len.ensures, c.self.inside.sites.ok.0) in
    let found = need_found c.args.x c.words_for-width.result c.in_ok-column.column
    c.self.inside.labels.items c.self.inside.sites.items c.self.inside.words.items _
    c.args.self.now c.self.view_is c.deref.ensures.value (c.words_for-width.ensures
    ∙ ap words_for sites) c.requires c.self.invariant c.in_ok-column.ensures in
    omega (arith, found.0, c.self.inside.sites.ok.0)

pub returns-clause-least : goal.returns-clause-least
returns-clause-least c =
    let sites : c.len.result ≡ length c.self.inside.sites.items =
    omega (arith, c.len.ensures, c.self.inside.sites.ok.0) in
    let found = need_found c.args.x c.words_for-width.result c.in_ok-column.column
    c.self.inside.labels.items c.self.inside.sites.items c.self.inside.words.items _
    c.args.self.now c.self.view_is c.deref.ensures.value (c.words_for-width.ensures
    ∙ ap words_for sites) c.requires c.self.invariant c.in_ok-column.ensures in
    subst (λ (s : ℕ). IsLeastSite c.args.self.now c.args.x s)
    (sym (get_or_read c.self.inside.sites.items c.in_ok-column.column c.index.result.now found.0
    c.index.ensures 0)) found.1

pub returns-clause-given : goal.returns-clause-given
returns-clause-given c = ((λ _. (c.index.result.now, (returns-clause-least c).there)), λ _. refl)

pub returns-clause-here : goal.returns-clause-here
returns-clause-here c = here_has_none _ _ _ c.args.self.now c.self.view_is c.self.invariant
