-- What is offered for a breach of a document: an edit that mends it, as a trial has shown.
use Rattle.std.specs.Prelude.{◌≡◌, ◌⊎◌, ◌≤◌, ◌<◌, ℕ, Bool, true, false, ◌||◌, List, [], ◌∷◌, ◌++◌, length}
use Rattle.std.specs.Prelude.{Option, Some, None, option_map, option_to_list, string_bytes}
use Rattle.sw_breach.specs.declared.Breach.{Breach}
use Rattle.sw_lsp_text.specs.declared.diagnostic.Action.{Action}
use Rattle.sw_lsp_text.specs.declared.place.Range.{Range}
use Rattle.sw_lsp_places.specs.Places.{place_in}
use Rattle.sw_lsp_places.specs.Ranges.{Tokenized, ended, range_of, text_at}
use Rattle.sw_lsp_findings.specs.Findings.{Finding, finding_of, shown}
use Rattle.sw_lsp_findings.specs.Hovers.{is_over}
use Rattle.sw_lsp_findings.specs.Settings.{KnownSetting}
use Rattle.sw_text.specs.declared.TheConstants.{MAX_LENGTH}
use Rattle.sw_verdict.specs.Phases.{all_phases}
use Rattle.sw_verdict.specs.Verdict.{Breaches}
use Rattle.sw_lsp_mends.specs.Sites.{sites}
use Rattle.sw_lsp_mends.specs.Trials.{edited, is_mended}
use Rattle.sw_lsp_mends.specs.Words.{mend_for, put_in, title_of}
use Rattle.sw_lsp_mends.specs.declared.words.Mend.{Mend}

-- a document: how it is judged and shown, its address, its text with the tokens, and what was found
-- in it
pub record Document : Type 0 where
  pub setting : KnownSetting
  pub uri : List ℕ
  pub table : Tokenized
  pub breaches : List Breach

-- an edit that mends a finding: a text that is put in at an empty range
pub record KnownAction : Type 0 where
  pub title : List ℕ
  pub range : Range
  pub text : List ℕ
  pub mends : Finding

abbrev pub seen_action : Action → KnownAction
seen_action a = record {
  title = string_bytes a.title;
  range = a.edit.range;
  text = string_bytes a.edit.text;
  mends = shown a.mends;
}

-- the words of a mend put in at a position, a byte offset, for a breach that stands at this word
abbrev pub action_of : Document → Breach → Mend → List ℕ → ℕ → KnownAction
action_of d breach mend word site = record {
  title = title_of mend word;
  range = record { start = place_in d.table.text site; end = place_in d.table.text site };
  text = put_in mend word;
  mends = finding_of d.setting d.uri d.table breach;
}

-- the edited text was judged, and the breach is mended there, or it isn't
pub record IsJudgedSo (d : Document) (breach : Breach) (piece : List ℕ) (site : ℕ) (mended : Bool) : Type 0 where
  pub after : List Breach
  pub short : length (edited d.table.text site piece) ≤ MAX_LENGTH
  pub are_after : Breaches d.setting.default all_phases (edited d.table.text site piece) after
  pub mended_is : mended
      ≡ is_mended (record { at = site; len = length piece }) breach d.breaches after

-- whether a piece mends the breach at a position; a text that is too long isn't judged
abbrev pub IsTried : Document → Breach → List ℕ → ℕ → Bool → Type 0
IsTried d breach piece site mended =
    IsJudgedSo d breach piece site mended
    ⊎ ((MAX_LENGTH < length (edited d.table.text site piece)) × (mended ≡ false))

-- the first of these positions at which it does
abbrev pub IsFirstSite : Document → Breach → List ℕ → List ℕ → Option ℕ → Type 0
IsFirstSite d breach piece [] found = found ≡ None
IsFirstSite d breach piece (site ∷ sites) found =
    (IsTried d breach piece site true × (found ≡ Some site))
    ⊎ (IsTried d breach piece site false × IsFirstSite d breach piece sites found)

-- what is offered for a breach at this word, if words may mend it
pub record IsOfferedAt (d : Document) (breach : Breach) (mend : Mend) (word : List ℕ)
    (offered : Option KnownAction) : Type 0 where
  pub site : Option ℕ
  pub is_first : IsFirstSite d breach (put_in mend word)
      (sites mend d.table (ended d.table.tokens breach.at) word) site
  pub offered_is : offered ≡ option_map (action_of d breach mend word) site

abbrev pub IsOfferedBy : Document → Breach → Option Mend → Option (List ℕ) → Option KnownAction → Type 0
IsOfferedBy d breach None word offered = offered ≡ None
IsOfferedBy d breach (Some mend) None offered = offered ≡ None
IsOfferedBy d breach (Some mend) (Some word) offered = IsOfferedAt d breach mend word offered

-- what is offered for a breach, if anything is
abbrev pub IsOffered : Document → Breach → Option KnownAction → Type 0
IsOffered d breach offered =
    IsOfferedBy d breach (mend_for breach.code)
    (text_at d.table (ended d.table.tokens breach.at)) offered

-- what is offered for breaches, in order
pub record AreMendsFrom (First : Option KnownAction → Type 0) (Rest : List KnownAction → Type 0)
    (offered : List KnownAction) : Type 0 where
  pub first : Option KnownAction
  pub rest : List KnownAction
  pub is_first : First first
  pub are_rest : Rest rest
  pub offered_are : offered ≡ option_to_list first ++ rest

abbrev pub AreMends : Document → List Breach → List KnownAction → Type 0
AreMends d [] offered = offered ≡ []
AreMends d (breach ∷ breaches) offered =
    AreMendsFrom (IsOffered d breach) (AreMends d breaches) offered

-- the range of a breach and this range have a place in common
unfoldable pub is_touched : Tokenized → Range → Breach → Bool
is_touched t range breach =
    is_over range.start (range_of t breach.at) || is_over (range_of t breach.at).start range
