use Rattle.std.proofs.Common.{◌∙◌, [], ap, map, unwrap_or}
use Rattle.sw_breach.specs.Codes.{text_in}
use Rattle.sw_breach.proofs.CodeLemmas.{text_in-map}
use Rattle.sw_see_breaches.specs.Remedies.{remedies, remedy_of}
use Rattle.sw_see_breaches.proofs.RowLemmas.{unwrap-option_map}
use Rattle.sw_see_breaches.proofs.remedies.remedy_of.Goals as goal

pub returns : goal.returns
unfolding remedies remedy_of
returns c =
    ap (λ text. text.now) c.unwrap_or.ensures
    ∙ (unwrap-option_map (λ text. text.now) c.remedy_in.result _
    ∙ ap (λ text. unwrap_or text []) (c.remedy_in.ensures
    ∙ (text_in-map c.as_slice.result.now (λ row. row.0) (λ row. row.2.now) c.args.code
    ∙ ap (λ rows. text_in (map (λ row. (row.0, row.2.now)) rows) c.args.code)
    c.as_slice.ensures)))
