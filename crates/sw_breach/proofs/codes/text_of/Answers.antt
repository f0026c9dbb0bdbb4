use Rattle.std.proofs.Common.{◌∙◌, sym, ap, subst, map, IsSome, option_map}
use Rattle.sw_breach.specs.Codes.{text_of, text_in, texts}
use Rattle.sw_breach.proofs.CodeLemmas.{text_in-map, some-option_map}
use Rattle.sw_breach.proofs.codes.text_of.Goals as goal

pub unwrap-requires : goal.unwrap-requires
unfolding text_of texts
unwrap-requires c =
    some-option_map (λ text. text.now) c.text_in.result (subst IsSome
    (sym (c.text_in.ensures
    ∙ (text_in-map c.as_slice.result.now (λ row. row.0) (λ row. row.1.now) c.args.code
    ∙ ap (λ rows. text_in (map (λ row. (row.0, row.1.now)) rows) c.args.code)
    c.as_slice.ensures)))
    c.requires)

pub returns : goal.returns
unfolding text_of texts
returns c =
    sym (c.text_in.ensures
    ∙ (text_in-map c.as_slice.result.now (λ row. row.0) (λ row. row.1.now) c.args.code
    ∙ ap (λ rows. text_in (map (λ row. (row.0, row.1.now)) rows) c.args.code)
    c.as_slice.ensures))
    ∙ ap (option_map (λ text. text.now)) c.unwrap.ensures
