use Rattle.std.proofs.Common.{◌≡◌, [], Some, None, IfOk, string_bytes, subst, unwrap_or, ◌∙◌}
use Rattle.sw_breach.specs.Codes.{text_of}
use Rattle.sw_lsp_findings.specs.Sections.{pair}
use Rattle.sw_lsp_findings.proofs.Titles.{found_title}
use Rattle.sw_lsp_findings.proofs.lookup.meaning_of.Goals as goal

pub returns-in-Some : goal.returns-in-Some
returns-in-Some c =
    subst (λ title. IfOk c.from_str.result (λ text. string_bytes text ≡ title))
    (found_title c.args.code (Some (pair c.in-Some.title.now c.in-Some._anchor.now)) c.in-Some.ensures)
    c.from_str.ensures.ok

pub returns-in-None : goal.returns-in-None
returns-in-None c = c.new.ensures.bytes ∙ found_title c.args.code None c.in-None.ensures
