use Rattle.std.proofs.Common.{refl, subst}
use Rattle.std.proofs.lemmas.Result.{err_from_is_err_and}
use Rattle.sw_cert.proofs.Beginning.{bad_weaker}
use Rattle.sw_cert.proofs.Following.{one_extent}
use Rattle.sw_cert.proofs.Pairing.{pairing_with, still_pairing, element_not_said, site_not_said}
use Rattle.sw_cert.proofs.Ranks.{rank_fits}
use Rattle.sw_cert.specs.Pending.{IsNextPair}
use Rattle.sw_cert.specs.declared.line.Extent.{Extent}
use Rattle.sw_cert.proofs.pairs.next_pair.Goals as goal

pub quick_pair-requires-clause-extent : goal.quick_pair-requires-clause-extent
quick_pair-requires-clause-extent c =
    c.requires.form.fit.each c.args.line.now.function c.at-extent.result.now c.at-extent.ensures

pub quick_pair-requires-clause-at : goal.quick_pair-requires-clause-at
quick_pair-requires-clause-at c =
    (still_pairing c.args.form.now c.requires.form c.args.spot c.args.text.now c.args.line.now
    c.args.pending c.requires.some c.requires.read).begun.within

pub returns-in-Some-clause-read : goal.returns-in-Some-clause-read
returns-in-Some-clause-read c = λ extent here.
    subst (λ (x : Extent). IsNextPair x c.args.text.now c.args.pending c.in-Some.read.0
    c.in-Some.read.1 c.in-Some.read.2)
    (one_extent c.args.form.now.extents c.at-extent.result.now extent c.args.line.now.function
    c.args.line.now.function c.at-extent.ensures refl here) c.in-Some.ensures

pub returns-in_err-element-clause-bad : goal.returns-in_err-element-clause-bad
returns-in_err-element-clause-bad c =
    let some = c.requires.some in
    let read = pairing_with c.args.form.now c.requires.form c.args.spot c.args.text.now c.args.line.now
    c.args.pending.to c.args.pending.left c.args.pending.at c.at-extent.result.now
    c.at-extent.ensures (still_pairing c.args.form.now c.requires.form c.args.spot
    c.args.text.now c.args.line.now c.args.pending some c.requires.read) in
    let slip = err_from_is_err_and c.from_residual.result c.from_residual.ensures.1 in
    rw (slip.1, slip.2)
    (bad_weaker _ _ _ (element_not_said c.args.form.now c.requires.form c.args.spot
    c.args.text.now c.args.line.now c.args.pending.to c.args.pending.left c.args.pending.at some
    read) c.in_err-element.ensures.bad)

pub returns-in_err-site-clause-bad : goal.returns-in_err-site-clause-bad
returns-in_err-site-clause-bad c =
    let some = c.requires.some in
    let read = pairing_with c.args.form.now c.requires.form c.args.spot c.args.text.now c.args.line.now
    c.args.pending.to c.args.pending.left c.args.pending.at c.at-extent.result.now
    c.at-extent.ensures (still_pairing c.args.form.now c.requires.form c.args.spot
    c.args.text.now c.args.line.now c.args.pending some c.requires.read) in
    let slip = err_from_is_err_and c.from_residual-in_err-site.result
    c.from_residual-in_err-site.ensures.1 in
    rw (slip.1, slip.2)
    (bad_weaker _ _ _ (site_not_said c.args.form.now c.requires.form c.args.spot c.args.text.now
    c.args.line.now c.args.pending.to c.args.pending.left c.args.pending.at some read
    c.in_ok-element.element c.in_ok-element.site_at c.in_ok-element.ensures.element)
    c.in_err-site.ensures.bad)

pub rank-requires-clause-pair : goal.rank-requires-clause-pair
rank-requires-clause-pair c =
    let may = c.in_ok-site.ensures.site.offered.1 in
    rank_fits c.at-extent.result.now _ may.rank may.has_rank

pub returns-clause-read : goal.returns-clause-read
returns-clause-read c = λ extent here.
    subst (λ (x : Extent). IsNextPair x c.args.text.now c.args.pending
    (record { element = c.in_ok-element.element; site = c.in_ok-site.site }) c.rank.result
    c.in_ok-site.end)
    (one_extent c.args.form.now.extents c.at-extent.result.now extent c.args.line.now.function
    c.args.line.now.function c.at-extent.ensures refl here) (record {
      site_at = c.in_ok-element.site_at;
      element = c.in_ok-element.ensures.element;
      site = c.in_ok-site.ensures.site;
      has_rank = c.rank.ensures;
    })
