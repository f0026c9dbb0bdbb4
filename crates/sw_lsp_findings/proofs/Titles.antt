-- The titles of the sections are the texts of the codes.
use Rattle.std.proofs.Common.{◌≡◌, ◌==◌, ℕ, Bool, true, false, cond, List, [], ◌∷◌, Option, Some, None, map, option_map}
use Rattle.std.proofs.Common.{unwrap_or, refl, sym, ap, ◌∙◌}
use Rattle.sw_breach.specs.Codes.{text_in, text_of, texts}
use Rattle.sw_lsp_findings.specs.Sections.{found_in, heading_of, pair}
use Rattle.sw_lsp_findings.specs.declared.sections.TheConstants.{HEADINGS}
use Rattle.sw_lsp_findings.proofs.Rows.{found_part}

same_search : (rows : List (ℕ × List ℕ)) (code : ℕ) → found_in rows code ≡ text_in rows code
same_search [] code = refl
same_search (row ∷ rows) code = ap (cond (row.0 == code) (Some row.1)) (same_search rows code)

pub title_is_text : (code : ℕ) → option_map (λ (p : List ℕ × List ℕ). p.0) (heading_of code) ≡ text_of code
unfolding heading_of text_of texts
title_is_text code =
    found_part (map (λ row. (row.0, pair row.1.now row.2.now)) HEADINGS) (λ (p : List ℕ × List ℕ). p.0) code
    ∙ same_search texts code

-- a title that was found, or that none was
pub found_title : (code : ℕ) (o : Option (List ℕ × List ℕ)) → o ≡ heading_of code
    → unwrap_or (option_map (λ (p : List ℕ × List ℕ). p.0) o) [] ≡ unwrap_or (text_of code) []
found_title code o e =
    ap (λ (x : Option (List ℕ × List ℕ)). unwrap_or (option_map (λ (p : List ℕ × List ℕ). p.0) x) []) e
    ∙ ap (λ x. unwrap_or x []) (title_is_text code)
