-- The text of a word has no `?`.
use Rattle.std.proofs.Common.{◌≡◌, ℕ, ◌+◌, ◌<◌, ◌≤◌, Bool, true, false, not, eqb, ltb, IsTrue, List, []}
use Rattle.std.proofs.Common.{◌∷◌, ◌++◌, Option, None, Some, refl, sym, ap, ◌∙◌, arith}
use Rattle.std.proofs.Common.{append-nil, ◌/◌, ◌%◌, ◌==◌}
use Rattle.std.proofs.lemmas.Bool.{and_parts}
use Rattle.std.proofs.lemmas.Bool.Decides.{nat_tests}
use Rattle.std.proofs.lemmas.List.Folds.{list_all-append}
use Rattle.std.proofs.Math.Utf8.{encode}
use Rattle.std.specs.List.{list_all}
use Rattle.std.specs.Prelude.{encode_utf8_all, cond, unwrap_or}
use Rattle.unicode_ident.proofs.IdentLemmas.{is_xid_continue-ascii}
use Rattle.sw_token.proofs.WordLemmas.{start_goes_on}
use Rattle.sw_token.specs.Bytes.{is_operator_byte, is_mark}
use Rattle.sw_token.specs.Kinds.{kind_of, literal_kind, mark_number, word_kind}
use Rattle.sw_token.specs.Literals.{head_of, literal_of}
use Rattle.sw_token.specs.Operators.{operator_number}
use Rattle.sw_token.specs.Spelling.{Spelled}
use Rattle.sw_token.specs.Tokens.{IsToken}
use Rattle.sw_token.specs.Tokens as tokens
use Rattle.sw_token.specs.Words.{IsWord, is_word_char, is_word_start}
use Rattle.sw_token.specs.Words as words
use Rattle.sw_token.specs.declared.Kind.TheVariants as kinds
use Rattle.sw_token.specs.declared.literals.Literal.{Literal}
use Rattle.sw_grammar_forms.proofs.Rising.{HasTokenText}
use Rattle.sw_grammar_forms.proofs.SetLaws.{has-word}
use Rattle.sw_grammar_forms.specs.Sets.{has, is_name, word}
use Rattle.sw_grammar_facts.proofs.Unmarked.{is_unmarked}

-- a character that a word goes on with isn't `?`, so none of its bytes is
no_question : (c : ℕ) → is_word_char c ≡ true → eqb c 63 ≡ false
unfolding is_word_char
no_question c is = by (eqb c 63) refl where
  by : (b : Bool) → eqb c 63 ≡ b → b ≡ false
  by true same =
      let here : c ≡ 63 = grind (arith, nat_tests) in
      let low : c < 128 = omega arith in
      absurd (let clash : true ≡ false = sym is ∙ is_xid_continue-ascii c low ∙ rw here refl in cc)
  by false same = refl

-- a byte of a character of several
high : (byte : ℕ) → 128 ≤ byte → not (eqb byte 63) ≡ true
high byte more = grind (arith, nat_tests)

more_high : (byte : ℕ) (bytes : List ℕ) → 128 ≤ byte → is_unmarked bytes ≡ true
    → is_unmarked (byte ∷ bytes) ≡ true
more_high byte bytes more all = rw (high byte more) all

unmarked_char : (c : ℕ) → eqb c 63 ≡ false → is_unmarked (encode c) ≡ true
unfolding encode
unmarked_char c other = by (ltb c 128) (ltb c 2048) (ltb c 65536) where
  last : (n : ℕ) → is_unmarked ((128 + n) ∷ []) ≡ true
  last n = more_high (128 + n) [] (omega arith) refl

  by : (one two three : Bool) → is_unmarked (cond one (c ∷ [])
      (cond two ((192 + c / 64) ∷ (128 + c % 64) ∷ [])
      (cond three ((224 + c / 4096) ∷ (128 + (c / 64) % 64) ∷ (128 + c % 64) ∷ [])
      ((240 + c / 262144) ∷ (128 + (c / 4096) % 64) ∷ (128 + (c / 64) % 64) ∷ (128 + c % 64)
      ∷ [])))) ≡ true
  by true two three = rw other refl
  by false true three =
      more_high (192 + c / 64) ((128 + c % 64) ∷ []) (omega arith) (last (c % 64))
  by false false true =
      more_high (224 + c / 4096) ((128 + (c / 64) % 64) ∷ (128 + c % 64) ∷ []) (omega arith)
      (more_high (128 + (c / 64) % 64) ((128 + c % 64) ∷ []) (omega arith) (last (c % 64)))
  by false false false =
      let two : List ℕ = (128 + (c / 64) % 64) ∷ (128 + c % 64) ∷ [] in
      more_high (240 + c / 262144) ((128 + (c / 4096) % 64) ∷ two) (omega arith)
      (more_high (128 + (c / 4096) % 64) two (omega arith)
      (more_high (128 + (c / 64) % 64) ((128 + c % 64) ∷ []) (omega arith) (last (c % 64))))

unmarked_chars : (cs : List ℕ) → list_all is_word_char cs ≡ true
    → is_unmarked (encode_utf8_all cs) ≡ true
unmarked_chars [] all = refl
unmarked_chars (c ∷ cs) all =
    let parts = and_parts (is_word_char c) (list_all is_word_char cs) all in
    list_all-append (λ byte. not (eqb byte 63)) (encode c) (encode_utf8_all cs)
    ∙ rw (unmarked_char c (no_question c parts.0)) (unmarked_chars cs parts.1)

unmarked_word : (text after : List ℕ) → IsWord text after → is_unmarked text ≡ true
unmarked_word _ _ (words.word start more after scalars starts all ends) =
    unmarked_chars (start ∷ more) (rw (start_goes_on start starts) all)

-- What begins a token whose kind is that of a word.
no_literal : (form : Literal) (text : List ℕ) → literal_of true text ≡ Some form
    → is_name (kind_of text) ≡ false
unfolding kind_of
no_literal form text is = ap (λ found. is_name (literal_kind found text)) is

no_operator : (byte : ℕ) (more : List ℕ) → is_operator_byte byte ≡ true
    → is_name (kind_of (byte ∷ more)) ≡ false
unfolding kind_of
no_operator byte more is = by (literal_of true (byte ∷ more)) where
  by : (found : Option Literal) → is_name (literal_kind found (byte ∷ more)) ≡ false
  by (Some form) = refl
  by None = rw is refl

is_mark_question : is_mark 63 ≡ true
unfolding is_mark
is_mark_question = refl

no_mark : (byte : ℕ) (more : List ℕ) → is_mark byte ≡ true
    → is_name (kind_of (byte ∷ more)) ≡ false
unfolding kind_of
no_mark byte more is = by (literal_of true (byte ∷ more)) where
  by_operator : (operator : Bool)
      → is_name (cond operator (kinds.Op (unwrap_or (operator_number (byte ∷ more)) 0))
      (cond (is_mark byte) (kinds.Mark (mark_number (byte ∷ more)))
      (cond (byte == 64) kinds.At (word_kind (byte ∷ more))))) ≡ false
  by_operator true = refl
  by_operator false = rw is refl

  by : (found : Option Literal) → is_name (literal_kind found (byte ∷ more)) ≡ false
  by (Some form) = refl
  by None = by_operator (is_operator_byte byte)

no_at : (text : List ℕ) → is_name (kind_of (64 ∷ text)) ≡ false
unfolding kind_of is_operator_byte is_mark
no_at text = by (literal_of true (64 ∷ text)) where
  by : (found : Option Literal) → is_name (literal_kind found (64 ∷ text)) ≡ false
  by (Some form) = refl
  by None = refl

named : (is_white : Bool) (text after : List ℕ) → IsToken is_white text after
    → is_white ≡ true → after ≡ [] → is_name (kind_of text) ≡ true → is_unmarked text ≡ true
named is_white _ _ (tokens.word text after is) white end name = unmarked_word text after is
named is_white _ _ (tokens.at_word text after is) white end name =
    absurd (let clash = no_at text in cc)
named is_white _ _ (tokens.literal form digits after is are fits ends) white end name =
    let form_is : literal_of true (head_of form ++ digits) ≡ Some form =
    ap (λ rest. literal_of true (head_of form ++ rest)) (sym (append-nil digits))
    ∙ ap (λ rest. literal_of true (head_of form ++ (digits ++ rest))) (sym end)
    ∙ ap (λ b. literal_of b (head_of form ++ (digits ++ after))) (sym white) ∙ is in
    absurd (let clash = no_literal form (head_of form ++ digits) form_is in cc)
named is_white _ _ (tokens.operator byte more after none operator run is) white end name =
    absurd (let clash = no_operator byte more operator in cc)
named is_white _ _ (tokens.mark byte after is single) white end name =
    absurd (let clash = no_mark byte [] is in cc)
named is_white _ _ (tokens.double_mark after) white end name =
    absurd (let clash = no_mark 63 (63 ∷ []) question in cc)
  where
    question : is_mark 63 ≡ true
    question = is_mark_question

pub word_unmarked : (token : Spelled) → HasTokenText token → IsTrue (has word token)
    → IsTrue (is_unmarked token.text)
word_unmarked token whole is = named true token.text [] whole refl refl (sym (has-word token) ∙ is)
