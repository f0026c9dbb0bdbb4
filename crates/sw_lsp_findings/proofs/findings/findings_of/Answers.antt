use Rattle.std.proofs.Common.{map, inl, ap, subst, ◌∙◌, arith}
use Rattle.sw_verdict.specs.Phases.{all_phases}
use Rattle.sw_verdict.specs.Verdict.{Breaches}
use Rattle.sw_lsp_findings.specs.Findings.{finding_of}
use Rattle.sw_lsp_findings.proofs.Tables.{table_of_text}
use Rattle.sw_lsp_findings.proofs.findings.findings_of.Goals as goal

pub returns : goal.returns
returns c =
    let table = c.in_ok-table.table in
    inl (
      omega arith,
      record {
        breaches = c.in_ok-breaches.breaches;
        tokens = table.tokens;
        are_breaches =
            subst (λ rule. Breaches rule all_phases c.args.text.now c.in_ok-breaches.breaches) c.default.ensures
            c.in_ok-breaches.ensures;
        are_tokens = c.in_ok-table.ensures.tokens;
        found_are =
            c.in_ok-found.ensures
            ∙ ap (map (finding_of c.args.setting.now c.args.uri.now table)) c.as_slice.ensures
            ∙ ap (λ t. map (finding_of c.args.setting.now c.args.uri.now t) c.in_ok-breaches.breaches)
            (table_of_text table c.args.text.now c.in_ok-table.ensures.text);
      },
    )
