use Rattle.std.proofs.Common.{map, ap, ◌∙◌}
use Rattle.sw_lsp_findings.specs.Sections.{found_in, rule_of}
use Rattle.sw_lsp_findings.proofs.Rows.{found_in-map}
use Rattle.sw_lsp_findings.proofs.lookup.rule_of.Goals as goal

pub returns : goal.returns
unfolding rule_of
returns c =
    c.text_in.ensures
    ∙ (found_in-map c.as_slice.result.now (λ row. row.0) (λ row. row.1.now) c.args.code
    ∙ ap (λ rows. found_in (map (λ row. (row.0, row.1.now)) rows) c.args.code) c.as_slice.ensures)
