-- Certificates are the texts of their form, and these can be read.
use Rattle.std.proofs.Common.{◌≡◌, ℕ, List, [], ◌∷◌, ◌++◌, flat_map, refl, sym, subst, ap, ◌∙◌}
use Rattle.sw_dictation.specs.Lines.{line_text, AreLines, IsText, IsReadable}
use Rattle.sw_cert.specs.Certificate.{start, behind, AreLinesFrom, IsCertificate, numbers_of}
use Rattle.sw_cert.specs.Form.{certificate_form, spot_behind}
use Rattle.sw_cert.specs.declared.line.Extent.{Extent}
use Rattle.sw_cert.specs.declared.line.Line.{Line}
use Rattle.sw_cert.specs.declared.line.Spot.{Spot}

abbrev text_of : List Line → List ℕ
text_of lines = flat_map (λ line. line_text (numbers_of line)) lines

-- lines of numbers are those of lines
lines_of : (extents : List Extent) (spot : Spot) (all : List (List ℕ))
    → AreLines (certificate_form extents) spot all
    → (lines : List Line) × AreLinesFrom extents spot lines
    × (flat_map line_text all ≡ text_of lines)
lines_of extents spot [] are = ([], tt, refl)
lines_of extents spot (numbers ∷ all) (is, are) =
    let line : Line = is.line in
    let h = lines_of extents (behind line) all
    (subst (λ l. AreLines (certificate_form extents) (spot_behind l) all) is.numbers_are are) in (
      line ∷ h.0,
      (is.is_at, h.1),
      ap (λ l. line_text l ++ flat_map line_text all) is.numbers_are
          ∙ ap (λ l. line_text (numbers_of line) ++ l) h.2,
    )

pub certificate_of_text : (extents : List Extent) (bytes : List ℕ)
    → IsText (certificate_form extents) start bytes
    → (lines : List Line) × IsCertificate extents bytes lines
certificate_of_text extents bytes text =
    let h = lines_of extents start text.lines text.are_lines in
    (h.0, record { are_lines = h.1; spelled = text.spelled ∙ h.2 })

numbers_of_lines : (extents : List Extent) (spot : Spot) (lines : List Line)
    → AreLinesFrom extents spot lines
    → (all : List (List ℕ)) × AreLines (certificate_form extents) spot all
    × (text_of lines ≡ flat_map line_text all)
numbers_of_lines extents spot [] are = ([], tt, refl)
numbers_of_lines extents spot (line ∷ lines) (is, are) =
    let h = numbers_of_lines extents (behind line) lines are in (
      numbers_of line ∷ h.0,
      (record { line = line; is_at = is; numbers_are = refl }, h.1),
      ap (λ l. line_text (numbers_of line) ++ l) h.2,
    )

pub text_of_certificate : (extents : List Extent) (bytes : List ℕ) (lines : List Line)
    → IsCertificate extents bytes lines → IsText (certificate_form extents) start bytes
text_of_certificate extents bytes lines is =
    let h = numbers_of_lines extents start lines is.are_lines in
    record { lines = h.0; are_lines = h.1; spelled = is.spelled ∙ h.2 }

pub form_is_readable : (extents : List Extent) → IsReadable (certificate_form extents)
form_is_readable extents = record {
  some = λ spot numbers is none. some is.line (sym is.numbers_are ∙ none);
}
  where
    some : (line : Line) → numbers_of line ≡ [] → ⊥
    some line e = cc e
