-- All bytes are a certificate, or stop being the beginning of one at a place.
use Rattle.std.proofs.Common.{◌≢◌, ℕ, ◌⊎◌, inl, inr, List, [], ◌∙◌, sym}
use Rattle.sw_dictation.proofs.Deciding.{text_or_place}
use Rattle.sw_dictation.specs.Lines.{IsBadPlace}
use Rattle.sw_cert.proofs.LineSets.{numbers_searched}
use Rattle.sw_cert.proofs.Texts.{certificate_of_text}
use Rattle.sw_cert.specs.Certificate.{start, numbers_of, IsCertificate}
use Rattle.sw_cert.specs.Form.{certificate_form, AreNumbersAt}
use Rattle.sw_cert.specs.declared.line.Extent.{Extent}
use Rattle.sw_cert.specs.declared.line.Line.{Line}
use Rattle.sw_cert.specs.declared.line.Spot.{Spot}

numbers_some : (extents : List Extent) (spot : Spot) (numbers : List ℕ)
    → AreNumbersAt extents spot numbers → numbers ≢ []
numbers_some extents spot numbers are none = some are.line (sym are.numbers_are ∙ none)
  where
    some : (line : Line) → numbers_of line ≢ []
    some line e = cc

pub some_form : (extents : List Extent) (bytes : List ℕ)
    → ((lines : List Line) × IsCertificate extents bytes lines)
    ⊎ ((at : ℕ) × IsBadPlace (certificate_form extents) start bytes at)
some_form extents bytes = elim (text_or_place (certificate_form extents) (numbers_some extents)
    (numbers_searched extents) start bytes) [
      | inl text ↦ inl (certificate_of_text extents bytes text)
      | inr bad ↦ inr bad
    ]
