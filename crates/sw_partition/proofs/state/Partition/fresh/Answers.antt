use Rattle.std.proofs.Common.{◌≡◌, length, ap, ◌∙◌, arith}
use Rattle.sw_partition.specs.Regions.{words_for}
use Rattle.sw_partition.proofs.Effecting.{fresh_done}
use Rattle.sw_partition.proofs.state.Partition.fresh.Goals as goal

pub invariant_of-self : goal.invariant_of-self
invariant_of-self c =
    let sites : c.len.result ≡ length c.self.inside.sites.items =
    omega (arith, c.len.ensures, c.self.inside.sites.ok.0) in
    (fresh_done c.args.x c.words_for-width.result c.self.inside.labels.len c.self.inside.words.len
    c.self.inside.labels.items _ c.release.new.labels c.self.inside.sites.items
    c.self.inside.words.items _ c.clear.new.words c.args.self.now c.self.view_is
    c.deref_mut.ensures.value c.deref_mut-2.ensures.value (c.words_for-width.ensures
    ∙ ap words_for sites) (omega (arith, c.self.inside.labels.ok.0))
    (omega (arith, c.self.inside.words.ok.0)) c.requires.element c.requires.not_here
    c.self.invariant c.release.ensures c.clear.ensures).0

pub returns : goal.returns
returns c =
    let sites : c.len.result ≡ length c.self.inside.sites.items =
    omega (arith, c.len.ensures, c.self.inside.sites.ok.0) in
    (fresh_done c.args.x c.words_for-width.result c.self.inside.labels.len c.self.inside.words.len
    c.self.inside.labels.items _ c.release.new.labels c.self.inside.sites.items
    c.self.inside.words.items _ c.clear.new.words c.args.self.now c.self.view_is
    c.deref_mut.ensures.value c.deref_mut-2.ensures.value (c.words_for-width.ensures
    ∙ ap words_for sites) (omega (arith, c.self.inside.labels.ok.0))
    (omega (arith, c.self.inside.words.ok.0)) c.requires.element c.requires.not_here
    c.self.invariant c.release.ensures c.clear.ensures).1
