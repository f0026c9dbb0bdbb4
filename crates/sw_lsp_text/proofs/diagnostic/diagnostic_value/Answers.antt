use Rattle.std.proofs.Common.{codes, option_map, ap, ◌∙◌}
use Rattle.serde_json.specs.View.{view}
use Rattle.sw_lsp_text.specs.Diagnostics as json
use Rattle.sw_lsp_text.proofs.diagnostic.diagnostic_value.Goals as goal

pub returns : goal.returns
returns c =
    let related = c.in_ok-related.ensures ∙ ap json.some_related c.deref.ensures.value in
    let linked =
    c.in_ok-linked.ensures
    ∙ ap (λ page. json.with_member (codes "codeDescription") page (view c.in_ok-plain.plain)) c.in_ok-page.ensures
    ∙ ap (json.with_member (codes "codeDescription") (option_map json.link c.args.diagnostic.now.page)) c.in_ok-plain.ensures in
    c.in_ok-made.ensures
    ∙ ap (λ list. json.with_member (codes "relatedInformation") list (view c.in_ok-linked.linked)) related
    ∙ ap (json.with_member (codes "relatedInformation") (json.some_related c.args.diagnostic.now.related.items)) linked
