-- The tokens of a text: it is scanned as gaps and tokens in turn. Where it can't be scanned so to
-- its end it has a lexical fault: the first position at which a gap or a token can't be taken.
use Rattle.std.specs.Prelude.{◌≡◌, ◌≢◌, ◌⊎◌, ℕ, ◌+◌, ◌<◌, ◌≤◌, Bool, true, false, ◌||◌, IsTrue}
use Rattle.std.specs.Prelude.{List, [], ◌∷◌, ◌++◌, length, slice_range, Some, None, Result, codes}
use Rattle.std.specs.Bool.{IsFalse}
use Rattle.std.specs.Str.{IsUtf8}
use Rattle.sw_token.specs.declared.Token.{Token}
use Rattle.sw_token.specs.declared.TheConstants.{MOST_TOKENS}
use Rattle.sw_token.specs.declared.before.Before.{Before}
use Rattle.sw_token.specs.declared.Kind.{Kind}
use Rattle.sw_token.specs.declared.Kind.TheVariants as kinds
use Rattle.sw_token.specs.declared.Fixity.{Fixity}
use Rattle.sw_token.specs.declared.Fixity.TheVariants as fixities
use Rattle.sw_token.specs.declared.LexFault.{LexFault}
use Rattle.sw_token.specs.declared.LexFault.TheVariants as faults
use Rattle.sw_token.specs.declared.literals.Literal.{Literal}
use Rattle.sw_token.specs.declared.step.Refusal.{Refusal}
use Rattle.sw_token.specs.declared.step.Refusal.TheVariants.{Unclosed, TooBig, Bad}
use Rattle.sw_scan.specs.Classes.{is_blank, is_digit}
use Rattle.sw_scan.specs.Prefixes.{BeginsWithout}
use Rattle.sw_scan.specs.Scan.{TextForm, Splits, Fails, Scans}
use Rattle.sw_token.specs.Bytes.{is_operator_byte, is_mark, begins_double, has_line_feed}
use Rattle.sw_token.specs.Words.{begins_word, goes_on, IsWord}
use Rattle.sw_token.specs.Comments.{IsComment, IsGap}
use Rattle.sw_token.specs.Literals.{head_of, most, is_digit_of, is_digit_or_line, AreDigits}
use Rattle.sw_token.specs.Literals.{number_in, literal_of}
use Rattle.sw_token.specs.Operators.{is_operator, IsRun, is_opening_text, is_white_after}
use Rattle.sw_token.specs.Operators.{fixity_between}
use Rattle.sw_token.specs.Kinds.{kind_of}

-- `IsToken is_white text after`: `text` is a token where `after` follows it, and the longest one
-- there; `is_white` says that white space or an opening mark stands before it.
pub data IsToken (is_white : Bool) : List ℕ → List ℕ → Type 0 where
  word : (text after : List ℕ) → IsWord text after → IsToken is_white text after
  -- an `@` and a word
  at_word : (text after : List ℕ) → IsWord text after → IsToken is_white (64 ∷ text) after
  -- a literal whose number is not too large, with nothing after it that a word goes on with
  literal : (form : Literal) (digits after : List ℕ)
      → literal_of is_white (head_of form ++ (digits ++ after)) ≡ Some form
      → AreDigits form digits → number_in form digits ≤ most form → IsFalse (goes_on after)
      → IsToken is_white (head_of form ++ digits) after
  -- an operator, where no literal begins
  operator : (byte : ℕ) (more after : List ℕ)
      → literal_of is_white (byte ∷ (more ++ after)) ≡ None → IsTrue (is_operator_byte byte)
      → IsRun (byte ∷ more) after → IsTrue (is_operator (byte ∷ more))
      → IsToken is_white (byte ∷ more) after
  -- a mark of one byte, whatever follows it, but not the first half of `??`
  mark : (byte : ℕ) (after : List ℕ) → IsTrue (is_mark byte) → IsFalse (begins_double (byte ∷ after))
      → IsToken is_white (byte ∷ []) after
  -- `??`, whatever follows it
  double_mark : (after : List ℕ) → IsToken is_white (codes "??") after

-- `IsRefused is_white bytes refusal`: the bytes begin with neither a gap nor a token. `Bad n` says
-- that the byte after the first n is the one that can't be taken.
pub data IsRefused (is_white : Bool) : List ℕ → Refusal → Type 0 where
  -- a comment that nothing closes
  unclosed : (rest : List ℕ)
      → ((comment after : List ℕ) → IsComment 0 comment → rest ≢ comment ++ after)
      → IsRefused is_white (47 ∷ 42 ∷ rest) Unclosed
  -- a literal whose number is too large, whatever follows its digits
  too_big : (form : Literal) (digits after : List ℕ)
      → literal_of is_white (head_of form ++ (digits ++ after)) ≡ Some form
      → AreDigits form digits → BeginsWithout (is_digit_or_line form) after
      → most form < number_in form digits
      → IsRefused is_white (head_of form ++ (digits ++ after)) TooBig
  -- a `0x`, `0o` or `0b` without a digit of its base: what stands where the digit should
  no_digit : (form : Literal) (after : List ℕ)
      → literal_of is_white (head_of form ++ after) ≡ Some form
      → BeginsWithout (is_digit_of form) after
      → IsRefused is_white (head_of form ++ after) (Bad (length (head_of form)))
  -- a character that a word goes on with, directly after a literal: that character
  after_literal : (form : Literal) (digits after : List ℕ)
      → literal_of is_white (head_of form ++ (digits ++ after)) ≡ Some form
      → AreDigits form digits → BeginsWithout (is_digit_or_line form) after
      → number_in form digits ≤ most form → IsTrue (goes_on after)
      → IsRefused is_white (head_of form ++ (digits ++ after))
      (Bad (length (head_of form) + length digits))
  -- a run of operator bytes that is no operator: the first of them
  no_operator : (byte : ℕ) (more after : List ℕ)
      → literal_of is_white (byte ∷ (more ++ after)) ≡ None → IsTrue (is_operator_byte byte)
      → IsRun (byte ∷ more) after → IsFalse (is_operator (byte ∷ more))
      → IsRefused is_white (byte ∷ (more ++ after)) (Bad 0)
  -- an `@` without a word directly after it
  lone_at : (after : List ℕ) → IsFalse (begins_word after) → IsRefused is_white (64 ∷ after) (Bad 0)
  -- a character that nothing begins with
  other : (byte : ℕ) (after : List ℕ) → IsFalse (is_blank byte) → IsFalse (is_digit byte)
      → IsFalse (is_operator_byte byte) → IsFalse (is_mark byte) → byte ≢ 64
      → IsFalse (begins_word (byte ∷ after)) → IsRefused is_white (byte ∷ after) (Bad 0)

-- A token can stand where fewer than the greatest number of tokens stand before it.
pub record IsTaken (before : Before) (text after : List ℕ) : Type 0 where
  pub is_token : IsToken before.is_white text after
  pub few : before.count < MOST_TOKENS

-- The fault of bytes that are refused, which stand at the offset `at`. Where a token would be one
-- too many, that is the fault, unless the bytes are refused at their first.
pub data IsTokenFault (at : ℕ) (before : Before) : List ℕ → LexFault → Type 0 where
  unclosed : (bytes : List ℕ) → IsRefused before.is_white bytes Unclosed
      → IsTokenFault at before bytes (faults.Unclosed at)
  too_big : (bytes : List ℕ) → IsRefused before.is_white bytes TooBig
      → IsTokenFault at before bytes (faults.TooBig at)
  bad_first : (bytes : List ℕ) → IsRefused before.is_white bytes (Bad 0)
      → IsTokenFault at before bytes (faults.BadChar at)
  bad_later : (bytes : List ℕ) (n : ℕ) → IsRefused before.is_white bytes (Bad n) → n ≢ 0
      → before.count < MOST_TOKENS → IsTokenFault at before bytes (faults.BadChar (at + n))
  too_many_begun : (bytes : List ℕ) (n : ℕ) → IsRefused before.is_white bytes (Bad n) → n ≢ 0
      → MOST_TOKENS ≤ before.count → IsTokenFault at before bytes (faults.TooMany at)
  too_many : (text after : List ℕ) → IsToken before.is_white text after
      → MOST_TOKENS ≤ before.count → IsTokenFault at before (text ++ after) (faults.TooMany at)

-- how a token stands, by whether white space is before it and after it
abbrev pub fixity_of : Kind → Bool → Bool → Fixity
fixity_of (kinds.Op _) before after = fixity_between before after
fixity_of _ before after = fixities.None

-- the token of this text, which stands at the offset `at`
abbrev pub token_of : ℕ → Before → List ℕ → List ℕ → Token
token_of at before text after = record {
  kind = kind_of text;
  span = record { start = at; end = at + length text };
  fixity = fixity_of (kind_of text) before.is_white (is_white_after after);
  first = before.is_first_on_line;
}

-- before all tokens
abbrev pub at_start : Before
at_start = record { is_first_on_line = true; is_white = true; count = 0 }

-- What is known past a gap and past a token: a token is first on its line where no token stands
-- before it, or a line feed stands between it and the token before it.
abbrev pub past_piece : Before → List ℕ → Before
past_piece before piece = record {
  is_first_on_line = before.is_first_on_line || has_line_feed piece;
  is_white = true;
  count = before.count;
}

abbrev pub past_token : Before → List ℕ → Before
past_token before text = record {
  is_first_on_line = false;
  is_white = is_opening_text text;
  count = before.count + 1;
}

-- the form that programs have
abbrev pub lexis : TextForm Before Token LexFault
lexis = record {
  IsPiece = IsGap;
  IsItem = IsTaken;
  IsRefused = IsTokenFault;
  item_of = token_of;
  past_piece = past_piece;
  past_item = past_token;
}

-- the tokens of a whole text
abbrev pub IsTokens : List ℕ → List Token → Type 0
IsTokens text tokens = Splits lexis 0 at_start text tokens

-- the lexical fault of a text
abbrev pub IsLexicalFault : List ℕ → LexFault → Type 0
IsLexicalFault text fault = Fails lexis 0 at_start text fault

-- what a text has: its tokens, or a lexical fault
abbrev pub HasTokens : List ℕ → Result (List Token) LexFault → Type 0
HasTokens text outcome = Scans lexis 0 at_start text outcome

-- the offset of the byte that a fault names
abbrev pub position_of : LexFault → ℕ
position_of (faults.Unclosed at) = at
position_of (faults.TooBig at) = at
position_of (faults.BadChar at) = at
position_of (faults.TooMany at) = at
position_of faults.Memory = 0

-- `token` is one of the tokens of `text`, by itself: the bytes that it spans are some, stand in the
-- text, are UTF-8 and decide its kind, and only an operator has a fixity
pub record IsTokenIn (text : List ℕ) (token : Token) : Type 0 where
  pub some : token.span.start < token.span.end
  pub within : token.span.end ≤ length text
  pub kind : token.kind ≡ kind_of (slice_range text token.span.start token.span.end)
  pub utf8 : IsUtf8 (slice_range text token.span.start token.span.end)
  pub fixity : token.fixity ≡ fixities.None ⊎ ((number : ℕ) × (token.kind ≡ kinds.Op number))

-- the tokens stand one after the other, the first at the offset `from` or later
abbrev pub StandInOrder : ℕ → List Token → Type 0
StandInOrder from [] = Unit {0}
StandInOrder from (token ∷ tokens) =
    (from ≤ token.span.start) × StandInOrder token.span.end tokens
