-- What is known of a place: the code of a breach whose range is over it.
use Rattle.std.specs.Prelude.{◌≡◌, ◌⊎◌, ◌≤◌, ◌<◌, ℕ, Bool, ◌==◌, nat_lt, nat_le, ◌&&◌, ◌||◌, List, length}
use Rattle.std.specs.Prelude.{find, Option, Some, None, option_map, option_and_then, string_bytes}
use Rattle.sw_breach.specs.declared.Breach.{Breach}
use Rattle.sw_lsp_text.specs.declared.place.Place.{Place}
use Rattle.sw_lsp_text.specs.declared.place.Range.{Range}
use Rattle.sw_lsp_places.specs.Ranges.{AreTokensIn, Tokenized, range_of}
use Rattle.sw_text.specs.declared.TheConstants.{MAX_LENGTH}
use Rattle.sw_token.specs.declared.Token.{Token}
use Rattle.sw_verdict.specs.Phases.{all_phases}
use Rattle.sw_verdict.specs.Verdict.{Breaches}
use Rattle.sw_lsp_findings.specs.Sections.{explained}
use Rattle.sw_lsp_findings.specs.Settings.{KnownSetting}
use Rattle.sw_lsp_findings.specs.declared.hovers.Hover.{Hover}

-- one place is at the other or before it
abbrev pub is_until : Place → Place → Bool
is_until p q = nat_lt p.line q.line || (p.line == q.line && nat_le p.character q.character)

-- the place is in the range, or at its end
abbrev pub is_over : Place → Range → Bool
is_over place range = is_until range.start place && is_until place range.end

-- a range, and what is known of it, in Markdown
pub record KnownHover : Type 0 where
  pub range : Range
  pub text : List ℕ

abbrev pub seen_hover : Hover → KnownHover
seen_hover h = record { range = h.range; text = string_bytes h.text }

-- what is known of a breach
abbrev pub hover_of : Tokenized → Breach → Option KnownHover
hover_of t breach =
    option_map (λ text. record { range = range_of t breach.at; text = text }) (explained breach.code)

-- the range of a breach is over the place
unfoldable pub covers : Tokenized → Place → Breach → Bool
covers t place breach = is_over place (range_of t breach.at)

-- what is known of the first of these breaches whose range is over the place
abbrev pub hover_among : Tokenized → Place → List Breach → Option KnownHover
hover_among t place breaches =
    option_and_then (hover_of t) (find (covers t place) breaches)

pub record IsBreachKnown (setting : KnownSetting) (text : List ℕ) (place : Place) (known : Option KnownHover)
    : Type 0 where
  pub breaches : List Breach
  pub tokens : List Token
  pub are_breaches : Breaches setting.default all_phases text breaches
  pub are_tokens : AreTokensIn text tokens
  pub known_is : known ≡ hover_among (record { text = text; tokens = tokens }) place breaches

-- what is known of a place in a text
abbrev pub IsKnown : KnownSetting → List ℕ → Place → Option KnownHover → Type 0
IsKnown setting text place known =
    ((length text ≤ MAX_LENGTH) × IsBreachKnown setting text place known)
    ⊎ ((MAX_LENGTH < length text) × (known ≡ None))

-- what is known of a place in a document, of which the text may not be known
abbrev pub IsKnownIn : KnownSetting → Option (List ℕ) → Place → Option KnownHover → Type 0
IsKnownIn setting None place known = known ≡ None
IsKnownIn setting (Some text) place known = IsKnown setting text place known
