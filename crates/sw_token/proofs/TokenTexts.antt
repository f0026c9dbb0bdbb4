-- Texts of tokens: those of a text's tokens are, and for some of ASCII a test says so by computing.
use Rattle.std.proofs.Common.{◌≡◌, ℕ, ◌<◌, Bool, true, false, ◌||◌, ◌&&◌, ltb, eqb, List, [], ◌∷◌}
use Rattle.std.proofs.Common.{◌++◌, length, take, drop, codes, eqb-true, refl, sym, ap, ◌∙◌, subst}
use Rattle.std.proofs.Common.{inl, inr, arith}
use Rattle.std.specs.Prelude.{bytes_eq, encode_utf8_all}
use Rattle.std.specs.Char.{is_ascii_alphabetic, is_ascii_alphanumeric}
use Rattle.std.specs.List.{list_all}
use Rattle.std.specs.Str.{all_scalars}
use Rattle.std.proofs.lemmas.Bool.{cases_Bool, and_parts}
use Rattle.std.proofs.lemmas.Bool.Decides.{nat_tests}
use Rattle.std.proofs.lemmas.List.{append-nil, take_all}
use Rattle.std.proofs.lemmas.Slice.Eq.{bytes_eq-Decides}
use Rattle.std.proofs.lemmas.Str.{encode_ascii}
use Rattle.unicode_ident.proofs.IdentLemmas.{is_xid_start-ascii, is_xid_continue-ascii}
use Rattle.sw_scan.specs.Classes.{is_digit}
use Rattle.sw_token.specs.declared.literals.Literal.TheVariants.{Decimal}
use Rattle.sw_token.specs.Bytes.{is_operator_byte, is_mark}
use Rattle.sw_token.specs.Words.{is_word_start, is_word_char, IsWord}
use Rattle.sw_token.specs.Words as words
use Rattle.sw_token.specs.Literals.{unsigned_of, literal_of, number_in}
use Rattle.sw_token.specs.Operators.{is_operator, runs_on, IsRun, run_len}
use Rattle.sw_token.specs.Tokens.{IsToken}
use Rattle.sw_token.specs.Tokens as tokens
use Rattle.sw_token.specs.Spelling.{IsTokenText}
use Rattle.sw_token.proofs.KindLemmas.{alone, run_no_literal, literal_alone}
use Rattle.sw_token.proofs.OperatorLemmas.{IsRun-run_len}
use Rattle.sw_token.proofs.WordLemmas.{goes_on-nil}

-- A token is a token by itself.

no_more : (byte : ℕ) (more after : List ℕ) → runs_on (byte ∷ (more ++ after)) ≡ true
    → runs_on (byte ∷ more) ≡ true
no_more byte [] after on = let parts = and_parts (is_operator_byte byte) _ on in rw parts.0 refl
no_more byte (other ∷ more) after on = on

run_alone : (text after : List ℕ) → IsRun text after → IsRun text []
run_alone [] after is = refl
run_alone (byte ∷ more) after is = (
  rw append-nil (no_more byte more after is.0),
  run_alone more after is.1,
)

pub IsTokenText-IsToken : (is_white : Bool) (text after : List ℕ) → IsToken is_white text after
    → IsTokenText text
IsTokenText-IsToken is_white _ _ (tokens.word text after is) =
    tokens.word text [] (alone text after is)
IsTokenText-IsToken is_white _ _ (tokens.at_word text after is) =
    tokens.at_word text [] (alone text after is)
IsTokenText-IsToken is_white _ _ (tokens.literal form digits after is are few ends) =
    tokens.literal form digits []
    (rw append-nil (literal_alone form is_white digits after is are)) are few goes_on-nil
IsTokenText-IsToken is_white _ _ (tokens.operator byte more after none operator run is) =
    tokens.operator byte more [] (rw append-nil (run_no_literal byte more after run)) operator
    (run_alone (byte ∷ more) after run) is
IsTokenText-IsToken is_white _ _ (tokens.mark byte after is single) = tokens.mark byte [] is refl
IsTokenText-IsToken is_white _ _ (tokens.double_mark after) = tokens.double_mark []

-- words of ASCII

abbrev is_ascii_start : ℕ → Bool
is_ascii_start char = ltb char 128 && (is_ascii_alphabetic char || eqb char 95)

abbrev is_ascii_char : ℕ → Bool
is_ascii_char char = ltb char 128 && (is_ascii_alphanumeric char || eqb char 95)

is_low : (char : ℕ) (other : Bool) → (ltb char 128 && other) ≡ true → char < 128
is_low char other is =
    let low = (and_parts (ltb char 128) other is).0 in
    grind (arith, nat_tests)

ascii_start : (char : ℕ) → is_ascii_start char ≡ true → is_word_start char ≡ true
unfolding is_word_start
ascii_start char is =
    let parts = and_parts (ltb char 128) _ is in
    let low : char < 128 = is_low char _ is in
    rw (is_xid_start-ascii char low) parts.1

ascii_char : (char : ℕ) → is_ascii_char char ≡ true → is_word_char char ≡ true
unfolding is_word_char
ascii_char char is =
    let parts = and_parts (ltb char 128) _ is in
    let low : char < 128 = is_low char _ is in
    is_xid_continue-ascii char low ∙ parts.1

ascii_chars : (chars : List ℕ) → list_all is_ascii_char chars ≡ true
    → list_all is_word_char chars ≡ true
ascii_chars [] all = refl
ascii_chars (char ∷ chars) all =
    let parts = and_parts (is_ascii_char char) (list_all is_ascii_char chars) all in
    rw (ascii_char char parts.0) (ascii_chars chars parts.1)

-- their characters are their bytes
ascii_bytes : (chars : List ℕ) → list_all is_ascii_char chars ≡ true → encode_utf8_all chars ≡ chars
ascii_bytes [] all = refl
ascii_bytes (char ∷ chars) all =
    let parts = and_parts (is_ascii_char char) (list_all is_ascii_char chars) all in
    let low : char < 128 = is_low char _ parts.0 in
    rw (encode_ascii char low) (ap (λ bytes. char ∷ bytes) (ascii_bytes chars parts.1))

abbrev pub is_ascii_word : List ℕ → Bool
is_ascii_word [] = false
is_ascii_word (char ∷ chars) =
    all_scalars (char ∷ chars) && (is_ascii_start char && list_all is_ascii_char chars)

ascii_word : (text : List ℕ) → is_ascii_word text ≡ true → IsWord text []
ascii_word [] is = absurd (cc)
ascii_word (char ∷ chars) is =
    let parts = and_parts (all_scalars (char ∷ chars))
    (is_ascii_start char && list_all is_ascii_char chars) is in
    let classes = and_parts (is_ascii_start char) (list_all is_ascii_char chars) parts.1 in
    let low : char < 128 = is_low char _ classes.0 in
    let bytes : encode_utf8_all (char ∷ chars) ≡ char ∷ chars =
    rw (encode_ascii char low) (ap (λ bytes. char ∷ bytes) (ascii_bytes chars classes.1)) in
    subst (λ text. IsWord text []) bytes
    (words.word char chars [] parts.0 (ascii_start char classes.0) (ascii_chars chars classes.1)
    goes_on-nil)

abbrev pub is_ascii_at : List ℕ → Bool
is_ascii_at [] = false
is_ascii_at (byte ∷ more) = eqb byte 64 && is_ascii_word more

ascii_at : (text : List ℕ) → is_ascii_at text ≡ true → IsTokenText text
ascii_at [] is = absurd (cc)
ascii_at (byte ∷ more) is =
    let parts = and_parts (eqb byte 64) (is_ascii_word more) is in
    subst (λ at. IsTokenText (at ∷ more)) (sym (eqb-true byte 64 parts.0))
    (tokens.at_word more [] (ascii_word more parts.1))

-- operators and marks

abbrev pub is_whole_operator : List ℕ → Bool
is_whole_operator [] = false
is_whole_operator (byte ∷ more) =
    is_operator (byte ∷ more) && eqb (run_len (byte ∷ more)) (length (byte ∷ more))

whole_operator : (text : List ℕ) → is_whole_operator text ≡ true → IsTokenText text
whole_operator [] is = absurd (cc)
whole_operator (byte ∷ more) is =
    let parts = and_parts (is_operator (byte ∷ more)) _ is in
    let run = whole_run (byte ∷ more) (eqb-true _ _ parts.1) in
    tokens.operator byte more [] (rw append-nil (run_no_literal byte more [] run))
    (and_parts (is_operator_byte byte) _ run.0).0 run parts.0
  where
    whole_run : (text : List ℕ) → run_len text ≡ length text → IsRun text []
    whole_run text all = subst (λ t. IsRun t []) (take_all (run_len text) text (omega arith))
        (run_alone (take (run_len text) text) (drop (run_len text) text) (IsRun-run_len text))

abbrev pub is_mark_text : List ℕ → Bool
is_mark_text (byte ∷ []) = is_mark byte
is_mark_text text = bytes_eq text (codes "??")

mark_text : (text : List ℕ) → is_mark_text text ≡ true → IsTokenText text
mark_text [] is = absurd (cc)
mark_text (byte ∷ []) is = tokens.mark byte [] is refl
mark_text (byte ∷ other ∷ more) is =
    subst IsTokenText (sym ((bytes_eq-Decides (byte ∷ other ∷ more) (codes "??")).0 is))
    (tokens.double_mark [])

one_is_token : IsTokenText (codes "1")
unfolding literal_of unsigned_of number_in is_digit
one_is_token = tokens.literal Decimal (codes "1") [] refl (refl, refl) (omega arith) goes_on-nil

-- Whether a text of ASCII is a word, an At, an operator, a mark or the literal `1`.
abbrev pub is_ascii_token : List ℕ → Bool
is_ascii_token text =
    is_ascii_word text || (is_ascii_at text || (is_whole_operator text
    || (is_mark_text text || bytes_eq text (codes "1"))))

pub IsTokenText-ascii : (text : List ℕ) → is_ascii_token text ≡ true → IsTokenText text
IsTokenText-ascii text is = elim (cases_Bool (is_ascii_word text)) [
  | inl word ↦ tokens.word text [] (ascii_word text word)
  | inr no_word ↦ elim (cases_Bool (is_ascii_at text)) [
    | inl at ↦ ascii_at text at
    | inr no_at ↦ elim (cases_Bool (is_whole_operator text)) [
      | inl operator ↦ whole_operator text operator
      | inr no_operator ↦ elim (cases_Bool (is_mark_text text)) [
        | inl mark ↦ mark_text text mark
        | inr no_mark ↦
            let one : bytes_eq text (codes "1") ≡ true =
            rw (no_word, no_at, no_operator, no_mark) at is in
            subst IsTokenText (sym ((bytes_eq-Decides text (codes "1")).0 one)) one_is_token
      ]
    ]
  ]
]
