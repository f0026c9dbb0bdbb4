use Rattle.std.proofs.Common.{◌≡◌, List, inl, ap, filter, length, min, subst, take, map, arith, sym, ◌∙◌}
use Rattle.std.proofs.lemmas.List.{take_min}
use Rattle.sw_breach.specs.declared.Breach.{Breach}
use Rattle.sw_lsp_mends.specs.Actions.{document}
use Rattle.sw_lsp_mends.specs.Offers.{AreMends, Document, is_touched, seen_action}
use Rattle.sw_lsp_mends.proofs.Offering.{document_is, tokenized}
use Rattle.sw_lsp_mends.proofs.actions.actions_at.Goals as goal

pub returns : goal.returns
returns c =
    let d = c.in_ok-examined.examined in
    let known = c.in_ok-examined.ensures in
    let table = tokenized c.args.text.now d.table.tokens in
    let is : d ≡ document c.args.setting.now c.args.uri.now table d.breaches =
    document_is d c.args.setting.now c.args.uri.now c.args.text.now known.setting known.uri known.text in
    let len : c.min-first.result ≡ min 8 (length c.deref.result.now) =
    c.min-first.ensures ∙ ap (min 8) (c.len.ensures ∙ sym c.deref.ensures.len) in
    let slice : take c.min-first.result c.deref.result.now ≡ take 8 (filter (is_touched d.table c.args.range) d.breaches) =
    ap (λ n. take n c.deref.result.now) len
    ∙ take_min 8 c.deref.result.now ∙ ap (take 8) (c.deref.ensures.value ∙ c.in_ok-touched.ensures) in
    let found = map seen_action c.in_ok-found.found.items in
    inl (
      omega arith,
      record {
        breaches = d.breaches;
        tokens = d.table.tokens;
        are_breaches = known.breaches;
        are_tokens = known.tokens;
        are_mends =
            subst (λ (x : Document). AreMends x (take 8 (filter (is_touched x.table c.args.range) x.breaches)) found)
            is (subst (λ (bs : List Breach). AreMends d bs found) slice c.in_ok-found.ensures);
      },
    )
