-- The kind of a token, which its text alone decides.
use Rattle.std.specs.Prelude.{ℕ, ◌≤◌, ◌==◌, true, length, if◌then◌else◌, List, [], ◌∷◌, ◌++◌, drop}
use Rattle.std.specs.Prelude.{Option, Some, None, codes, position, bytes_eq, unwrap_or}
use Rattle.sw_token.specs.declared.Kind.{Kind}
use Rattle.sw_token.specs.declared.Kind.TheVariants as kinds
use Rattle.sw_token.specs.declared.literals.Literal.{Literal}
use Rattle.sw_token.specs.Bytes.{is_operator_byte, marks, is_mark}
use Rattle.sw_token.specs.Literals.{head_of, most, number_in, signed, literal_of}
use Rattle.sw_token.specs.Operators.{operator_number}

-- the words that some rule of the grammar uses
unfoldable pub ruled_words : List (List ℕ)
ruled_words =
    codes "actor" ∷ codes "async" ∷ codes "await" ∷ codes "break" ∷ codes "case" ∷ codes "class"
    ∷ codes "continue" ∷ codes "default" ∷ codes "else" ∷ codes "enum" ∷ codes "false"
    ∷ codes "final" ∷ codes "func" ∷ codes "if" ∷ codes "in" ∷ codes "init" ∷ codes "let"
    ∷ codes "nonisolated" ∷ codes "return" ∷ codes "self" ∷ codes "sending" ∷ codes "static"
    ∷ codes "struct" ∷ codes "switch" ∷ codes "true" ∷ codes "var" ∷ codes "while" ∷ []

-- the other words that name nothing; of these a rule uses `nil` alone
unfoldable pub reserved_words : List (List ℕ)
reserved_words =
    codes "Any" ∷ codes "as" ∷ codes "associatedtype" ∷ codes "catch" ∷ codes "defer"
    ∷ codes "deinit" ∷ codes "do" ∷ codes "extension" ∷ codes "fallthrough" ∷ codes "fileprivate"
    ∷ codes "for" ∷ codes "guard" ∷ codes "import" ∷ codes "inout" ∷ codes "internal" ∷ codes "is"
    ∷ codes "nil" ∷ codes "operator" ∷ codes "precedencegroup" ∷ codes "private"
    ∷ codes "protocol" ∷ codes "public" ∷ codes "repeat" ∷ codes "rethrows" ∷ codes "Self"
    ∷ codes "subscript" ∷ codes "super" ∷ codes "throw" ∷ codes "throws" ∷ codes "try"
    ∷ codes "typealias" ∷ codes "where" ∷ []

-- all key words: a key word's number is its index here, from 0
abbrev pub key_words : List (List ℕ)
key_words = ruled_words ++ reserved_words

-- a key word's kind is its number, and any other word is a name
abbrev pub named_kind : Option ℕ → Kind
named_kind None = kinds.Word
named_kind (Some number) = kinds.Key number

-- the kind of a word: `_` alone is a kind of its own
unfoldable pub word_kind : List ℕ → Kind
word_kind text =
    if bytes_eq text (codes "_") then kinds.Underscore
    else named_kind (position (λ word. bytes_eq word text) key_words)

-- a mark's number
unfoldable pub mark_number : List ℕ → ℕ
mark_number text = unwrap_or (position (λ mark. bytes_eq mark text) marks) 0

-- the digits of the literal with this text
abbrev pub digits_in : Literal → List ℕ → List ℕ
digits_in literal text = drop (length (head_of literal)) text

-- the kind of a token that is no literal, by its first byte
abbrev pub plain_kind : List ℕ → Kind
plain_kind [] = kinds.Word
plain_kind (byte ∷ more) =
    if is_operator_byte byte then kinds.Op (unwrap_or (operator_number (byte ∷ more)) 0)
    else (if is_mark byte then kinds.Mark (mark_number (byte ∷ more))
    else (if byte == 64 then kinds.At else word_kind (byte ∷ more)))

-- the same where it may be a literal
abbrev pub literal_kind : Option Literal → List ℕ → Kind
literal_kind (Some literal) text =
    kinds.Int (signed literal (number_in literal (digits_in literal text)))
literal_kind None text = plain_kind text

-- The kind of the token with this text. A text that begins with `-` and a digit is a literal. No
-- token has an empty text.
unfoldable pub kind_of : List ℕ → Kind
kind_of text = literal_kind (literal_of true text) text

-- a literal's number is not above the greatest
abbrev pub IsWithinMost : Option Literal → List ℕ → Type 0
IsWithinMost (Some literal) text = number_in literal (digits_in literal text) ≤ most literal
IsWithinMost None text = Unit {0}

-- Of a text that is a literal: its number fits.
abbrev pub NumberFits : List ℕ → Type 0
NumberFits text = IsWithinMost (literal_of true text) text
