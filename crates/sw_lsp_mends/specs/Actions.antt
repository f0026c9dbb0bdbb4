-- What is offered on a range of a document.
use Rattle.std.specs.Prelude.{◌≡◌, ◌⊎◌, ◌≤◌, ◌<◌, ℕ, List, [], length, filter, take, Option, Some, None}
use Rattle.sw_breach.specs.declared.Breach.{Breach}
use Rattle.sw_lsp_text.specs.declared.place.Range.{Range}
use Rattle.sw_lsp_places.specs.Ranges.{AreTokensIn, Tokenized}
use Rattle.sw_lsp_findings.specs.Settings.{KnownSetting}
use Rattle.sw_text.specs.declared.TheConstants.{MAX_LENGTH}
use Rattle.sw_token.specs.declared.Token.{Token}
use Rattle.sw_verdict.specs.Phases.{all_phases}
use Rattle.sw_verdict.specs.Verdict.{Breaches}
use Rattle.sw_lsp_mends.specs.Offers.{AreMends, Document, KnownAction, is_touched}

abbrev pub document : KnownSetting → List ℕ → Tokenized → List Breach → Document
document setting uri t breaches = record {
  setting = setting;
  uri = uri;
  table = t;
  breaches = breaches;
}

-- the edits that mend the first eight breaches that the range touches
pub record AreTouchedMended (setting : KnownSetting) (uri text : List ℕ) (range : Range)
    (found : List KnownAction) : Type 0 where
  pub breaches : List Breach
  pub tokens : List Token
  pub are_breaches : Breaches setting.default all_phases text breaches
  pub are_tokens : AreTokensIn text tokens
  pub are_mends : AreMends (document setting uri (record { text = text; tokens = tokens }) breaches)
      (take 8 (filter (is_touched (record { text = text; tokens = tokens }) range) breaches)) found

-- what is offered on a range of a text; nothing where the text is too long to be judged
abbrev pub AreActions : KnownSetting → List ℕ → List ℕ → Range → List KnownAction → Type 0
AreActions setting uri text range found =
    ((length text ≤ MAX_LENGTH) × AreTouchedMended setting uri text range found)
    ⊎ ((MAX_LENGTH < length text) × (found ≡ []))

-- what is offered on a range of a document, of which the text may not be known
abbrev pub AreActionsIn : KnownSetting → List ℕ → Option (List ℕ) → Range → List KnownAction → Type 0
AreActionsIn setting uri None range found = found ≡ []
AreActionsIn setting uri (Some text) range found = AreActions setting uri text range found
