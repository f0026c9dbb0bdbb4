-- Which range of a text a position stands for: up to the end of the token over it, or, where there
-- is none, of the character at it.
use Rattle.std.specs.Prelude.{◌≡◌, ◌+◌, ◌⊎◌, ℕ, Bool, nat_lt, nat_le, ◌&&◌, if◌then◌else◌}
use Rattle.std.specs.Prelude.{List, [], length, drop, slice_get, slice_range, Option, Some, None}
use Rattle.std.specs.Prelude.{option_and_then, option_map, unwrap_or}
use Rattle.std.specs.List.{prefix_len}
use Rattle.std.specs.Str.{IsUtf8}
use Rattle.sw_lsp_text.specs.declared.place.Range.{Range}
use Rattle.sw_text.specs.declared.Span.{Span}
use Rattle.sw_token.specs.declared.Token.{Token}
use Rattle.sw_token.specs.declared.LexFault.{LexFault}
use Rattle.sw_token.specs.Tokens.{IsTokens, IsLexicalFault}
use Rattle.sw_lsp_places.specs.Places.{place_in}

-- a text with its tokens
pub record Tokenized : Type 0 where
  pub text : List ℕ
  pub tokens : List Token

-- the text isn't UTF-8, or it has a lexical fault
abbrev pub HasNoTokens : List ℕ → Type 0
HasNoTokens text = IsUtf8 text → (fault : LexFault) × IsLexicalFault text fault

-- the tokens of a text, and none where it has none
abbrev pub AreTokensIn : List ℕ → List Token → Type 0
AreTokensIn text tokens =
    (IsUtf8 text × IsTokens text tokens) ⊎ ((tokens ≡ []) × HasNoTokens text)

-- the token ends at the position or before it
abbrev pub has_ended : ℕ → Token → Bool
has_ended at token = nat_le token.span.end at

abbrev pub ended : List Token → ℕ → ℕ
ended tokens at = prefix_len (has_ended at) tokens

-- where the token over a position ends
abbrev pub end_over : ℕ → Token → Option ℕ
end_over at token = if nat_le token.span.start at then Some token.span.end else None

-- Where the token over a position ends, if there is one: the first that ends after the position,
-- unless it begins after it.
abbrev pub token_end : List Token → ℕ → Option ℕ
token_end tokens at = option_and_then (end_over at) (slice_get tokens (ended tokens at))

-- the byte isn't the first of a character in UTF-8
abbrev pub goes_on : ℕ → Bool
goes_on byte = nat_le 128 byte && nat_lt byte 192

-- where the character at a position ends; the end of the text where nothing stands there
abbrev pub character_end : List ℕ → ℕ → ℕ
character_end text at =
    if nat_lt at (length text) then at + 1 + prefix_len goes_on (drop (at + 1) text)
    else length text

-- where the range of a position ends
abbrev pub end_of : Tokenized → ℕ → ℕ
end_of t at = unwrap_or (token_end t.tokens at) (character_end t.text at)

-- the range of the position `at`, a byte offset
abbrev pub range_of : Tokenized → ℕ → Range
range_of t at = record { start = place_in t.text at; end = place_in t.text (end_of t at) }

-- the text of a token
abbrev pub spelled : List ℕ → Token → List ℕ
spelled text token = slice_range text token.span.start token.span.end

-- where the token of a number stands, and its text; tokens are numbered from 0
abbrev pub span_at : Tokenized → ℕ → Option Span
span_at t number = option_map (λ token. token.span) (slice_get t.tokens number)

abbrev pub text_at : Tokenized → ℕ → Option (List ℕ)
text_at t number = option_map (spelled t.text) (slice_get t.tokens number)
