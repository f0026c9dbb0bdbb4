-- What is found the definitions of gaps, tokens and refusals say.
use Rattle.std.proofs.Common.{◌≡◌, ◌≢◌, ℕ, suc, ◌+◌, ◌<◌, ◌≤◌, Bool, true, false, ◌||◌, cond, eqb}
use Rattle.std.proofs.Common.{ltb, List, [], ◌∷◌, ◌++◌, length, take, drop, Option, Some, None}
use Rattle.std.proofs.Common.{Result, Ok, Err, refl, sym, ap, ◌∙◌, subst, inl, inr, arith}
use Rattle.std.proofs.Common.{append_assoc, length-append}
use Rattle.std.specs.Str.{IsUtf8}
use Rattle.std.specs.List.{list_all, prefix_len}
use Rattle.std.proofs.lemmas.Bool.{cases_Bool, and_parts}
use Rattle.std.proofs.lemmas.Bool.Decides.{nat_tests}
use Rattle.std.proofs.lemmas.List.{take-append-drop, length-take-le, take_at, drop_at}
use Rattle.std.proofs.lemmas.List.Sums.{prefix_len-le-length}
use Rattle.sw_scan.specs.Classes.{is_blank, is_digit}
use Rattle.sw_scan.specs.Prefixes.{BeginsWithout}
use Rattle.sw_scan.proofs.Prefixes.{chosen, prefix_passes, suffix_fails, prefix_len-yes}
use Rattle.sw_scan.specs.declared.Step.{Step}
use Rattle.sw_scan.specs.declared.Step.TheVariants.{End, Skip, Take}
use Rattle.sw_token.specs.declared.literals.Literal.{Literal}
use Rattle.sw_token.specs.declared.step.Refusal.{Refusal}
use Rattle.sw_token.specs.declared.step.Refusal.TheVariants.{TooBig, Bad}
use Rattle.sw_token.specs.Bytes.{is_operator_byte, is_mark, begins_double, mark_len}
use Rattle.sw_token.specs.Words.{begins_word, goes_on, word_len}
use Rattle.sw_token.specs.Comments.{is_in_line, begins_line_comment, begins_block_comment, IsGap}
use Rattle.sw_token.specs.Comments.{comment_len}
use Rattle.sw_token.specs.Comments as comments
use Rattle.sw_token.specs.Literals.{head_of, most, is_digit_of, is_digit_or_line, AreDigits}
use Rattle.sw_token.specs.Literals.{number_in, unsigned_of, literal_of}
use Rattle.sw_token.specs.Operators.{is_operator, begins_comment, runs_on, IsRun, run_len}
use Rattle.sw_token.specs.Tokens.{IsToken, IsRefused}
use Rattle.sw_token.specs.Tokens as tokens
use Rattle.sw_token.specs.Reading.{begins_digit, literal_step, operator_step, comment_step}
use Rattle.sw_token.specs.Reading.{word_step, plain_step, token_step, found, taken_before}
use Rattle.sw_token.proofs.ClassLemmas.{literal_head}
use Rattle.sw_token.proofs.CommentLemmas.{IsComment-comment_len, none_closed}
use Rattle.sw_token.proofs.FoundLemmas.{plain_operator}
use Rattle.sw_token.proofs.OperatorLemmas.{IsRun-run_len}
use Rattle.sw_token.proofs.Utf8Lemmas.{utf8_after_byte}
use Rattle.sw_token.proofs.WordLemmas.{IsWord-word_len}

-- what a step that was found says
abbrev pub FoundHolds : Bool → List ℕ → Result Step Refusal → Type 0
FoundHolds is_white bytes (Err refusal) = IsRefused is_white bytes refusal
FoundHolds is_white bytes (Ok End) = bytes ≡ []
FoundHolds is_white bytes (Ok (Skip n)) = IsGap (take n bytes) (drop n bytes)
FoundHolds is_white bytes (Ok (Take n)) = IsToken is_white (take n bytes) (drop n bytes)

-- literals

module _ (is_white : Bool) (form : Literal) (rest : List ℕ)
    (is : literal_of is_white (head_of form ++ rest) ≡ Some form) where
  -- the digits are there
  module _ (digits after : List ℕ) (split : rest ≡ digits ++ after) (are : AreDigits form digits)
      (ends : BeginsWithout (is_digit_or_line form) after) where
    literal_there : literal_of is_white (head_of form ++ (digits ++ after)) ≡ Some form
    literal_there = subst (λ xs. literal_of is_white (head_of form ++ xs) ≡ Some form) split is

    refused : (refusal : Refusal) → IsRefused is_white (head_of form ++ (digits ++ after)) refusal
        → IsRefused is_white (head_of form ++ rest) refusal
    refused refusal h = subst (λ xs. IsRefused is_white (head_of form ++ xs) refusal) (sym split) h

    taken : IsToken is_white (head_of form ++ digits) after
        → IsToken is_white (take (length (head_of form) + length digits) (head_of form ++ rest))
        (drop (length (head_of form) + length digits) (head_of form ++ rest))
    taken h =
        let whole : head_of form ++ rest ≡ (head_of form ++ digits) ++ after =
        ap (λ xs. head_of form ++ xs) split ∙ sym (append_assoc (head_of form) digits after) in
        let long : length (head_of form ++ digits) ≡ length (head_of form) + length digits =
        length-append (head_of form) digits in
        rw (
          whole,
          take_at (head_of form ++ digits) after (length (head_of form) + length digits) long,
          drop_at (head_of form ++ digits) after (length (head_of form) + length digits) long,
        ) h

    by_end : number_in form digits ≤ most form → (on : Bool) → goes_on after ≡ on
        → FoundHolds is_white (head_of form ++ rest)
        (cond (goes_on after) (Err (Bad (length (head_of form) + length digits)))
        (Ok (Take (length (head_of form) + length digits))))
    by_end fits true e =
        rw e
        (refused (Bad (length (head_of form) + length digits))
        (tokens.after_literal form digits after literal_there are ends fits e))
    by_end fits false e = rw e (taken (tokens.literal form digits after literal_there are fits e))

    digits_hold : FoundHolds is_white (head_of form ++ rest)
        (cond (ltb (most form) (number_in form digits)) (Err TooBig)
        (cond (goes_on after) (Err (Bad (length (head_of form) + length digits)))
        (Ok (Take (length (head_of form) + length digits)))))
    digits_hold = elim (cases_Bool (ltb (most form) (number_in form digits))) [
      | inl over ↦
          let big : most form < number_in form digits = grind (arith, nat_tests) in
          rw over (refused TooBig (tokens.too_big form digits after literal_there are ends big))
      | inr room ↦
          let fits : number_in form digits ≤ most form = grind (arith, nat_tests) in
          rw room (by_end fits (goes_on after) refl)
    ]

or_left : (a b : Bool) → a ≡ true → (a || b) ≡ true
or_left true b h = refl
or_left false b h = cc

-- digits that bytes begin with
are_digits : (form : Literal) (rest : List ℕ) → begins_digit form rest ≡ true
    → AreDigits form (take (prefix_len (is_digit_or_line form) rest) rest)
are_digits form [] begins = cc
are_digits form (d ∷ more) begins =
    let on : is_digit_or_line form d ≡ true = or_left (is_digit_of form d) (eqb d 95) begins in
    let all = prefix_passes (is_digit_or_line form) (d ∷ more) in
    let long = prefix_len-yes (is_digit_or_line form) d more on in
    let whole : list_all (is_digit_or_line form)
    (d ∷ take (prefix_len (is_digit_or_line form) more) more) ≡ true =
    subst (λ n. list_all (is_digit_or_line form) (take n (d ∷ more)) ≡ true) long all in
    subst (λ n. AreDigits form (take n (d ∷ more))) (sym long) (
      begins,
      (and_parts (is_digit_or_line form d)
          (list_all (is_digit_or_line form)
          (take (prefix_len (is_digit_or_line form) more) more)) whole).1,
    )

no_digit_there : (form : Literal) (rest : List ℕ) → begins_digit form rest ≡ false
    → BeginsWithout (is_digit_of form) rest
no_digit_there form [] none = tt
no_digit_there form (b ∷ bs) none = none

literal_holds : (is_white : Bool) (form : Literal) (rest : List ℕ)
    → literal_of is_white (head_of form ++ rest) ≡ Some form
    → FoundHolds is_white (head_of form ++ rest) (literal_step form rest)
literal_holds is_white form rest is = elim (cases_Bool (begins_digit form rest)) [
  | inl begins ↦
      let n : ℕ = prefix_len (is_digit_or_line form) rest in
      let split : rest ≡ take n rest ++ drop n rest = sym (take-append-drop n rest) in
      let long : length (take n rest) ≡ n =
      length-take-le n rest (prefix_len-le-length (is_digit_or_line form) rest) in
      let held =
      digits_hold is_white form rest is (take n rest) (drop n rest) split
      (are_digits form rest begins) (suffix_fails (is_digit_or_line form) rest) in
      rw begins (rw long at held)
  | inr none ↦ rw none (tokens.no_digit form rest is (no_digit_there form rest none))
]

-- operators, marks and words

operator_holds : (is_white : Bool) (b : ℕ) (more : List ℕ) → literal_of is_white (b ∷ more) ≡ None
    → is_operator_byte b ≡ true → begins_comment (b ∷ more) ≡ false
    → FoundHolds is_white (b ∷ more) (operator_step (b ∷ more) (run_len (b ∷ more)))
operator_holds is_white b more none operator comment =
    by_operator (is_operator (b ∷ text)) refl where
      on : runs_on (b ∷ more) ≡ true
      on = rw (operator, comment) refl

      text : List ℕ
      text = take (run_len more) more

      after : List ℕ
      after = drop (run_len more) more

      parts : text ++ after ≡ more
      parts = take-append-drop (run_len more) more

      long : run_len (b ∷ more) ≡ suc (run_len more)
      long = rw on (omega arith)

      run : IsRun (b ∷ text) after
      run = rw long at (IsRun-run_len (b ∷ more))

      none_there : literal_of is_white (b ∷ (text ++ after)) ≡ None
      none_there = rw parts none

      by_operator : (is : Bool) → is_operator (b ∷ text) ≡ is
          → FoundHolds is_white (b ∷ more) (operator_step (b ∷ more) (run_len (b ∷ more)))
      by_operator true e = rw (long, e) (tokens.operator b text after none_there operator run e)
      by_operator false e =
          rw (long, e) (rw parts at (tokens.no_operator b text after none_there operator run e))

word_holds : (is_white : Bool) (bytes : List ℕ) → IsUtf8 bytes → begins_word bytes ≡ true
    → IsToken is_white (take (0 + word_len bytes) bytes) (drop (0 + word_len bytes) bytes)
word_holds is_white bytes utf8 begins =
    let same : 0 + word_len bytes ≡ word_len bytes = omega arith in
    rw same
    (tokens.word (take (word_len bytes) bytes) (drop (word_len bytes) bytes)
    (IsWord-word_len bytes utf8 begins))

at_holds : (is_white : Bool) (more : List ℕ) → IsUtf8 (64 ∷ more)
    → FoundHolds is_white (64 ∷ more) (word_step 1 more)
at_holds is_white more utf8 = elim (cases_Bool (begins_word more)) [
  | inl begins ↦
      let after : IsUtf8 more = utf8_after_byte 64 more (omega arith) utf8 in
      let one : 1 + word_len more ≡ suc (word_len more) = omega arith in
      rw (begins, one)
      (tokens.at_word (take (word_len more) more) (drop (word_len more) more)
      (IsWord-word_len more after begins))
  | inr none ↦ rw none (tokens.lone_at more none)
]

ne_of : (a b : ℕ) → eqb a b ≡ false → a ≡ b → ⊥
ne_of a b test same = grind (arith, nat_tests)

minus_no_digit : is_digit 45 ≡ false
unfolding is_digit
minus_no_digit = refl

-- where no literal begins no digit stands
none_digit : (is_white : Bool) (b : ℕ) (more : List ℕ) → literal_of is_white (b ∷ more) ≡ None
    → is_digit b ≡ false
unfolding literal_of unsigned_of
none_digit is_white b more none = elim (chosen (eqb b 45) _ _ _ none) [
  | inl w ↦ (let minus : b ≡ 45 = grind (arith, nat_tests) in rw minus minus_no_digit)
  | inr w ↦ elim (chosen (is_digit b) _ _ _ w.1) [
    | inl v ↦ (let some = v.1 in cc)
    | inr v ↦ v.0
  ]
]

mark_holds : (is_white : Bool) (b : ℕ) (more : List ℕ) → is_mark b ≡ true
    → FoundHolds is_white (b ∷ more) (Ok (Take (mark_len (b ∷ more))))
mark_holds is_white b [] is = tokens.mark b [] is refl
mark_holds is_white b (c ∷ more) is = by_double (begins_double (b ∷ c ∷ more)) refl where
  by_double : (double : Bool) → begins_double (b ∷ c ∷ more) ≡ double
      → FoundHolds is_white (b ∷ c ∷ more) (Ok (Take (mark_len (b ∷ c ∷ more))))
  by_double true e =
      let parts = and_parts (eqb b 63) (eqb c 63) e in
      let first : b ≡ 63 = grind (arith, nat_tests) in
      let second : c ≡ 63 = grind (arith, nat_tests) in
      rw (first, second) (tokens.double_mark more)
  by_double false e = rw e (tokens.mark b (c ∷ more) is e)

-- a byte that begins neither a gap nor a literal
plain_holds : (is_white : Bool) (b : ℕ) (more : List ℕ) → IsUtf8 (b ∷ more) → is_blank b ≡ false
    → begins_comment (b ∷ more) ≡ false → literal_of is_white (b ∷ more) ≡ None
    → FoundHolds is_white (b ∷ more) (plain_step (b ∷ more))
plain_holds is_white b more utf8 blank comment none = by_operator (is_operator_byte b) refl where
  by_word : is_operator_byte b ≡ false → is_mark b ≡ false → eqb b 64 ≡ false → (begins : Bool)
      → begins_word (b ∷ more) ≡ begins
      → FoundHolds is_white (b ∷ more) (word_step 0 (b ∷ more))
  by_word operator mark at true e = rw e (word_holds is_white (b ∷ more) utf8 e)
  by_word operator mark at false e =
      let differ : b ≢ 64 = λ same. ne_of b 64 at same in
      rw e (tokens.other b more blank (none_digit is_white b more none) operator mark differ e)

  by_at : is_operator_byte b ≡ false → is_mark b ≡ false → (at : Bool) → eqb b 64 ≡ at
      → FoundHolds is_white (b ∷ more) (cond (eqb b 64) (word_step 1 more) (word_step 0 (b ∷ more)))
  by_at operator mark true e =
      let same : b ≡ 64 = grind (arith, nat_tests) in
      rw e
      (subst (λ x. FoundHolds is_white (x ∷ more) (word_step 1 more)) (sym same)
      (at_holds is_white more (rw same at utf8)))
  by_at operator mark false e = rw e (by_word operator mark e (begins_word (b ∷ more)) refl)

  by_mark : is_operator_byte b ≡ false → (mark : Bool) → is_mark b ≡ mark
      → FoundHolds is_white (b ∷ more)
      (cond (is_mark b) (Ok (Take (mark_len (b ∷ more))))
      (cond (eqb b 64) (word_step 1 more) (word_step 0 (b ∷ more))))
  by_mark operator true e = rw e (mark_holds is_white b more e)
  by_mark operator false e = rw e (by_at operator e (eqb b 64) refl)

  by_operator : (operator : Bool) → is_operator_byte b ≡ operator
      → FoundHolds is_white (b ∷ more) (plain_step (b ∷ more))
  by_operator true e =
      subst (FoundHolds is_white (b ∷ more)) (sym (plain_operator b more e))
      (operator_holds is_white b more none e comment)
  by_operator false e = rw e (by_mark e (is_mark b) refl)

-- tokens

token_holds : (is_white : Bool) (b : ℕ) (more : List ℕ) → IsUtf8 (b ∷ more) → is_blank b ≡ false
    → begins_comment (b ∷ more) ≡ false → (form : Option Literal)
    → literal_of is_white (b ∷ more) ≡ form
    → FoundHolds is_white (b ∷ more) (token_step form (b ∷ more))
token_holds is_white b more utf8 blank comment None e =
    plain_holds is_white b more utf8 blank comment e
token_holds is_white b more utf8 blank comment (Some form) e =
    let head = literal_head is_white (b ∷ more) form e in
    let there : literal_of is_white (head_of form ++ drop (length (head_of form)) (b ∷ more))
    ≡ Some form = rw head e in
    subst
    (λ xs. FoundHolds is_white xs
    (literal_step form (drop (length (head_of form)) (b ∷ more)))) head
    (literal_holds is_white form (drop (length (head_of form)) (b ∷ more)) there)

-- gaps

line_holds : (bytes : List ℕ) → begins_line_comment bytes ≡ true
    → IsGap (take (2 + prefix_len is_in_line (drop 2 bytes)) bytes)
    (drop (2 + prefix_len is_in_line (drop 2 bytes)) bytes)
line_holds [] is = cc
line_holds (a ∷ []) is = cc
line_holds (a ∷ b ∷ rest) is =
    let first : a ≡ 47 = grind (arith, nat_tests) in
    let second : b ≡ 47 = grind (arith, nat_tests) in
    let long : 2 + prefix_len is_in_line rest ≡ suc (suc (prefix_len is_in_line rest)) =
    omega arith in
    rw (long, first, second)
    (comments.line (take (prefix_len is_in_line rest) rest)
    (drop (prefix_len is_in_line rest) rest) (prefix_passes is_in_line rest)
    (suffix_fails is_in_line rest))

block_holds : (is_white : Bool) (bytes : List ℕ) → begins_block_comment bytes ≡ true
    → (found_len : Option ℕ) → comment_len 0 (drop 2 bytes) ≡ found_len
    → FoundHolds is_white bytes (comment_step found_len)
block_holds is_white [] is found_len e = cc
block_holds is_white (a ∷ []) is found_len e = cc
block_holds is_white (a ∷ b ∷ rest) is (Some n) e =
    let first : a ≡ 47 = grind (arith, nat_tests) in
    let second : b ≡ 42 = grind (arith, nat_tests) in
    let long : 2 + n ≡ suc (suc n) = omega arith in
    rw (long, first, second)
    (comments.block (take n rest) (drop n rest) (IsComment-comment_len 0 rest n e))
block_holds is_white (a ∷ b ∷ rest) is None e =
    let first : a ≡ 47 = grind (arith, nat_tests) in
    let second : b ≡ 42 = grind (arith, nat_tests) in
    rw (first, second) (tokens.unclosed rest (none_closed rest e))

pub found_holds : (is_white : Bool) (bytes : List ℕ) → IsUtf8 bytes
    → FoundHolds is_white bytes (found is_white bytes)
unfolding found
found_holds is_white [] utf8 = refl
found_holds is_white (b ∷ more) utf8 = by_blank (is_blank b) refl where
  by_block : is_blank b ≡ false → begins_line_comment (b ∷ more) ≡ false → (block : Bool)
      → begins_block_comment (b ∷ more) ≡ block
      → FoundHolds is_white (b ∷ more)
      (cond (begins_block_comment (b ∷ more)) (comment_step (comment_len 0 (drop 1 more)))
      (token_step (literal_of is_white (b ∷ more)) (b ∷ more)))
  by_block blank line true e =
      rw e (block_holds is_white (b ∷ more) e (comment_len 0 (drop 1 more)) refl)
  by_block blank line false e =
      rw e
      (token_holds is_white b more utf8 blank (rw (line, e) refl)
      (literal_of is_white (b ∷ more)) refl)

  by_line : is_blank b ≡ false → (line : Bool) → begins_line_comment (b ∷ more) ≡ line
      → FoundHolds is_white (b ∷ more)
      (cond (begins_line_comment (b ∷ more)) (Ok (Skip (2 + prefix_len is_in_line (drop 1 more))))
      (cond (begins_block_comment (b ∷ more)) (comment_step (comment_len 0 (drop 1 more)))
      (token_step (literal_of is_white (b ∷ more)) (b ∷ more))))
  by_line blank true e = rw e (line_holds (b ∷ more) e)
  by_line blank false e = rw e (by_block blank e (begins_block_comment (b ∷ more)) refl)

  by_blank : (blank : Bool) → is_blank b ≡ blank
      → FoundHolds is_white (b ∷ more) (found is_white (b ∷ more))
  by_blank true e = rw e (comments.blank b more e)
  by_blank false e = rw e (by_line e (begins_line_comment (b ∷ more)) refl)

-- what can't be taken is in the bytes, or at their end

pub refused_inside : (is_white : Bool) (bytes : List ℕ) (refusal : Refusal)
    → IsRefused is_white bytes refusal → taken_before refusal ≤ length bytes
refused_inside is_white _ _ (tokens.unclosed rest none) = omega arith
refused_inside is_white _ _ (tokens.too_big form digits after is are ends big) = omega arith
refused_inside is_white _ _ (tokens.no_digit form after is ends) =
    omega (arith, length-append (head_of form) after)
refused_inside is_white _ _ (tokens.after_literal form digits after is are ends fits on) =
    omega (arith, length-append (head_of form) (digits ++ after), length-append digits after)
refused_inside is_white _ _ (tokens.no_operator byte more after none operator run off) = omega arith
refused_inside is_white _ _ (tokens.lone_at after none) = omega arith
refused_inside is_white _ _ (tokens.other byte after blank digit operator mark at none) =
    omega arith

pub bad_inside : (is_white : Bool) (bytes : List ℕ) (n : ℕ) → IsRefused is_white bytes (Bad n)
    → n ≤ length bytes
bad_inside is_white bytes n is = refused_inside is_white bytes (Bad n) is

pub found_inside : (is_white : Bool) (bytes : List ℕ) (refusal : Refusal) → IsUtf8 bytes
    → found is_white bytes ≡ Err refusal → taken_before refusal ≤ length bytes
found_inside is_white bytes refusal utf8 e =
    let is : IsRefused is_white bytes refusal = rw e at (found_holds is_white bytes utf8) in
    refused_inside is_white bytes refusal is
