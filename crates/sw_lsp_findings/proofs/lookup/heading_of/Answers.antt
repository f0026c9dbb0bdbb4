use Rattle.std.proofs.Common.{map, ap, ◌∙◌}
use Rattle.sw_lsp_findings.specs.Sections.{found_in, heading_of, pair}
use Rattle.sw_lsp_findings.proofs.Rows.{found_in-map}
use Rattle.sw_lsp_findings.proofs.lookup.heading_of.Goals as goal

pub returns : goal.returns
unfolding heading_of
returns c =
    c.heading_in.ensures
    ∙ (found_in-map c.as_slice.result.now (λ row. row.0) (λ row. pair row.1.now row.2.now) c.args.code
    ∙ ap (λ rows. found_in (map (λ row. (row.0, pair row.1.now row.2.now)) rows) c.args.code)
    c.as_slice.ensures)
