-- Spellings: lists of tokens by their texts, apart from any one source.
use Rattle.std.specs.Prelude.{◌≡◌, ◌+◌, ◌≤◌, ℕ, Bool, true, List, [], ◌∷◌, length, map, slice_range}
use Rattle.std.specs.Prelude.{All, refl}
use Rattle.std.specs.Coded.{Coded, code_by, coded_list, coded_ℕ, coded_bool, coded×}
use Rattle.std.specs.Str.{IsCharBoundary}
use Rattle.sw_token.specs.declared.Fixity.{Fixity}
use Rattle.sw_token.specs.declared.Token.{Token}
use Rattle.sw_token.specs.contracts.Fixity as fixity
use Rattle.sw_token.specs.Kinds.{kind_of}
use Rattle.sw_token.specs.Tokens.{IsToken}

-- A token of a spelling. Its kind, and the value of an integer literal, are those of its text.
pub record Spelled : Type 0 where
  pub text : List ℕ
  -- the byte offset at which it begins
  pub at : ℕ
  pub fixity : Fixity
  -- whether it is the first on its line
  pub first : Bool

-- a token of a source
abbrev pub spelled : List ℕ → Token → Spelled
spelled source token = record {
  text = slice_range source token.span.start token.span.end;
  at = token.span.start;
  fixity = token.fixity;
  first = token.first;
}

-- the tokens of a source
abbrev pub spelling_of : List ℕ → List Token → List Spelled
spelling_of source tokens = map (spelled source) tokens

-- The text is that of a token. What stands around a token says only where it ends and whether a `-`
-- belongs to it; so it is a token by itself, with white space before it and nothing after it.
abbrev pub IsTokenText : List ℕ → Type 0
IsTokenText text = IsToken true text []

-- no token begins before the one before it ends, and the first begins at the offset `from` or later
abbrev pub StandApart : ℕ → List Spelled → Type 0
StandApart from [] = Unit {0}
StandApart from (token ∷ tokens) =
    (from ≤ token.at) × StandApart (token.at + length token.text) tokens

-- What may be a spelling of something: tokens, each with the text of a token, of which none begins
-- before the one before it ends. How an operator stands and which token is first on its line are
-- free.
pub record IsSpelling (tokens : List Spelled) : Type 0 where
  pub texts : All (λ token. IsTokenText token.text) tokens
  pub apart : StandApart 0 tokens

-- The token can be read in the source: its span is a part of it that cuts no character in two, and
-- its kind is that of its text.
pub record IsReadable (source : List ℕ) (token : Token) : Type 0 where
  pub ordered : token.span.start ≤ token.span.end
  pub start : IsCharBoundary source token.span.start
  pub end : IsCharBoundary source token.span.end
  pub kind : token.kind ≡ kind_of (slice_range source token.span.start token.span.end)

-- how a token of a spelling may be a part of a value of a type of the code
abbrev pub coded_spelled : Coded Spelled
coded_spelled = code_by (List ℕ × (ℕ × (Fixity × Bool)))
    (coded× (coded_list coded_ℕ) (coded× coded_ℕ (coded× fixity.the_row.coded coded_bool)))
    (λ s. (s.text, (s.at, (s.fixity, s.first))))
    (λ p. record { text = p.0; at = p.1.0; fixity = p.1.1.0; first = p.1.1.1 }) (λ s. refl)
