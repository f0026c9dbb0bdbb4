use Rattle.std.proofs.Common.{inl, ap, subst, ◌∙◌, arith}
use Rattle.sw_verdict.specs.Phases.{all_phases}
use Rattle.sw_verdict.specs.Verdict.{Breaches}
use Rattle.sw_lsp_findings.specs.Hovers.{hover_among}
use Rattle.sw_lsp_findings.proofs.Tables.{table_of_text}
use Rattle.sw_lsp_findings.proofs.hovers.known_at.Goals as goal

pub returns : goal.returns
returns c =
    let table = c.in_ok-table.table in
    inl (
      omega arith,
      record {
        breaches = c.in_ok-breaches.breaches;
        tokens = table.tokens;
        are_breaches =
            subst (λ rule. Breaches rule all_phases c.args.text.now c.in_ok-breaches.breaches) c.default.ensures
            c.in_ok-breaches.ensures;
        are_tokens = c.in_ok-table.ensures.tokens;
        known_is =
            c.in_ok-known.ensures ∙ ap (hover_among table c.args.place) c.as_slice.ensures
            ∙ ap (λ t. hover_among t c.args.place c.in_ok-breaches.breaches)
            (table_of_text table c.args.text.now c.in_ok-table.ensures.text);
      },
    )
