-- What is shown of a text: its breaches, each at the range of its position.
use Rattle.std.specs.Prelude.{◌≡◌, ◌⊎◌, ◌≤◌, ◌<◌, ℕ, List, [], ◌∷◌, ◌++◌, length, map, codes, Option}
use Rattle.std.specs.Prelude.{Some, None, unwrap_or, option_map, string_bytes}
use Rattle.std.specs.Fmt.{decimal}
use Rattle.sw_breach.specs.Codes.{text_of}
use Rattle.sw_breach.specs.Lines.{shown_note}
use Rattle.sw_breach.specs.declared.Breach.{Breach}
use Rattle.sw_lsp_text.specs.declared.diagnostic.Diagnostic.{Diagnostic}
use Rattle.sw_lsp_text.specs.declared.diagnostic.Related.{Related}
use Rattle.sw_lsp_text.specs.declared.place.Range.{Range}
use Rattle.sw_lsp_places.specs.Places.{origin}
use Rattle.sw_lsp_places.specs.Ranges.{AreTokensIn, Tokenized, range_of}
use Rattle.sw_text.specs.declared.TheConstants.{MAX_LENGTH}
use Rattle.sw_token.specs.declared.Token.{Token}
use Rattle.sw_verdict.specs.Phases.{all_phases}
use Rattle.sw_verdict.specs.Verdict.{Breaches}
use Rattle.sw_lsp_findings.specs.Sections.{address_of}
use Rattle.sw_lsp_findings.specs.Settings.{KnownSetting}

-- what another range of a document has to do with a finding
pub record Note : Type 0 where
  pub uri : List ℕ
  pub range : Range
  pub message : List ℕ

-- what is shown of a breach
pub record Finding : Type 0 where
  pub range : Range
  pub code : List ℕ
  pub message : List ℕ
  pub page : Option (List ℕ)
  pub notes : List Note

-- a diagnostic, by its texts
abbrev pub noted : Related → Note
noted r = record { uri = string_bytes r.uri; range = r.range; message = string_bytes r.message }

abbrev pub shown : Diagnostic → Finding
shown d = record {
  range = d.range;
  code = string_bytes d.code;
  message = string_bytes d.message;
  page = option_map string_bytes d.page;
  notes = map noted d.related.items;
}

-- where a value was given away
abbrev pub notes_at : List ℕ → Tokenized → Option ℕ → List Note
notes_at uri t None = []
notes_at uri t (Some at) =
    record { uri = uri; range = range_of t at; message = codes "given away here" } ∷ []

-- a breach as it is shown in the document of this address
abbrev pub finding_of : KnownSetting → List ℕ → Tokenized → Breach → Finding
finding_of setting uri t breach = record {
  range = range_of t breach.at;
  code = codes "E" ++ decimal breach.code;
  message = unwrap_or (text_of breach.code) [];
  page = address_of setting.pages breach.code;
  notes = notes_at uri t (shown_note breach);
}

-- these are the breaches of the text, as they are shown
pub record AreBreachesShown (setting : KnownSetting) (uri text : List ℕ) (found : List Finding)
    : Type 0 where
  pub breaches : List Breach
  pub tokens : List Token
  pub are_breaches : Breaches setting.default all_phases text breaches
  pub are_tokens : AreTokensIn text tokens
  pub found_are : found
      ≡ map (finding_of setting uri (record { text = text; tokens = tokens })) breaches

-- what is shown of a text that is too long to be judged
abbrev pub too_long : Finding
too_long = record {
  range = record { start = origin; end = origin };
  code = codes "too-long";
  message = codes "the text has more than 262144 bytes, and isn't judged";
  page = None;
  notes = [];
}

-- what is found in a text, all of it, as it is shown in the document of this address
abbrev pub AreFindings : KnownSetting → List ℕ → List ℕ → List Finding → Type 0
AreFindings setting uri text found =
    ((length text ≤ MAX_LENGTH) × AreBreachesShown setting uri text found)
    ⊎ ((MAX_LENGTH < length text) × (found ≡ too_long ∷ []))

-- what is found in a document, of which the text may not be known
abbrev pub AreFindingsIn : KnownSetting → List ℕ → Option (List ℕ) → List Finding → Type 0
AreFindingsIn setting uri None found = found ≡ []
AreFindingsIn setting uri (Some text) found = AreFindings setting uri text found
