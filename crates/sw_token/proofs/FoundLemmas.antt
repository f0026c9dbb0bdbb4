-- What the definitions of gaps, tokens and refusals say is found, and what is found they say.
use Rattle.std.proofs.Common.{◌≡◌, ◌≢◌, ℕ, suc, ◌+◌, Bool, true, false, not, cond, eqb, ltb, List}
use Rattle.std.proofs.Common.{[], ◌∷◌, ◌++◌, length, drop, Some, None, Ok, Err, refl, sym, ap, ◌∙◌}
use Rattle.std.proofs.Common.{inl, inr, arith, append_assoc, length-append}
use Rattle.std.specs.List.{list_all, prefix_len}
use Rattle.std.proofs.lemmas.Bool.{cases_Bool, and_parts, or_parts}
use Rattle.std.proofs.lemmas.Bool.Decides.{nat_tests}
use Rattle.std.proofs.lemmas.List.{take_at, drop_at}
use Rattle.sw_scan.specs.Classes.{is_blank, is_digit}
use Rattle.sw_scan.specs.Prefixes.{BeginsWithout}
use Rattle.sw_scan.proofs.Prefixes.{prefix_len-append}
use Rattle.sw_scan.specs.declared.Step.TheVariants.{Skip, Take}
use Rattle.sw_token.specs.declared.literals.Literal.{Literal}
use Rattle.sw_token.specs.declared.step.Refusal.{Refusal}
use Rattle.sw_token.specs.declared.step.Refusal.TheVariants.{Unclosed, TooBig, Bad}
use Rattle.sw_token.specs.Bytes.{is_operator_byte, is_mark, begins_double}
use Rattle.sw_token.specs.Words.{is_word_char, begins_word, goes_on, IsWord}
use Rattle.sw_token.specs.Comments.{is_in_line, begins_line_comment, begins_block_comment}
use Rattle.sw_token.specs.Comments.{IsGap, comment_len}
use Rattle.sw_token.specs.Comments as comments
use Rattle.sw_token.specs.Literals.{head_of, most, is_digit_of, is_digit_or_line, AreDigits}
use Rattle.sw_token.specs.Literals.{number_in, literal_of}
use Rattle.sw_token.specs.Operators.{is_operator, begins_comment, runs_on, IsRun, run_len}
use Rattle.sw_token.specs.Tokens.{IsToken, IsRefused}
use Rattle.sw_token.specs.Tokens as tokens
use Rattle.sw_token.specs.Reading.{digits_step, begins_digit, literal_step, operator_step}
use Rattle.sw_token.specs.Reading.{comment_step, word_step, plain_step, token_step, found}
use Rattle.sw_token.proofs.ClassLemmas.{IsPlain, mark_plain, question_plain, at_plain, word_plain}
use Rattle.sw_token.proofs.ClassLemmas.{word_some}
use Rattle.sw_token.proofs.ClassLemmas.{no_comment, no_literal, literal_no_gap, literal_head}
use Rattle.sw_token.proofs.CommentLemmas.{comment_len-IsComment, closes_nothing}
use Rattle.sw_token.proofs.LiteralLemmas.{digit_or_line_ascii, digit_or_line_goes_on}
use Rattle.sw_token.proofs.OperatorLemmas.{run_len-IsRun}
use Rattle.sw_token.proofs.WordLemmas.{chars_ascii, word_len-IsWord, begins_word-IsWord}

-- where no gap begins, a token is looked for
past_gaps : (is_white : Bool) (bytes : List ℕ) (b : ℕ) (more : List ℕ) → bytes ≡ b ∷ more
    → is_blank b ≡ false → begins_line_comment bytes ≡ false → begins_block_comment bytes ≡ false
    → found is_white bytes ≡ token_step (literal_of is_white bytes) bytes
unfolding found
past_gaps is_white bytes b more e blank line block =
    let line_here : begins_line_comment (b ∷ more) ≡ false = rw e at line in
    let block_here : begins_block_comment (b ∷ more) ≡ false = rw e at block in
    rw (e, blank, line_here, block_here) refl

none_here : (is_white : Bool) (bytes : List ℕ) (b : ℕ) (more : List ℕ) → bytes ≡ b ∷ more
    → IsPlain b
    → literal_of is_white bytes ≡ None
none_here is_white bytes b more e is = rw e (no_literal is_white b more is)

-- a token that begins with a plain byte
found_plain : (is_white : Bool) (bytes : List ℕ) (b : ℕ) (more : List ℕ) → bytes ≡ b ∷ more
    → IsPlain b
    → found is_white bytes ≡ plain_step bytes
found_plain is_white bytes b more e is =
    let comment = no_comment b more is.no_gap.no_slash in
    past_gaps is_white bytes b more e is.no_gap.no_blank (rw e comment.0) (rw e comment.1)
    ∙ ap (λ form. token_step form bytes) (none_here is_white bytes b more e is)

-- the step for a byte that begins a word or nothing
plain_word : (bytes : List ℕ) (b : ℕ) (more : List ℕ) → bytes ≡ b ∷ more
    → is_operator_byte b ≡ false
    → is_mark b ≡ false → eqb b 64 ≡ false → plain_step bytes ≡ word_step 0 bytes
plain_word bytes b more e operator mark at = rw (e, operator, mark, at) refl

-- gaps

found_gap : (is_white : Bool) (piece after : List ℕ) → IsGap piece after
    → found is_white (piece ++ after) ≡ Ok (Skip (length piece))
unfolding found is_blank
found_gap is_white _ _ (comments.blank byte after is) = rw is refl
found_gap is_white _ _ (comments.line text after all ends) =
    ap (λ n. Ok (Skip n)) (omega (arith, prefix_len-append is_in_line text after all ends))
found_gap is_white _ _ (comments.block comment after is) =
    ap comment_step (comment_len-IsComment 0 comment is after) ∙ ap (λ n. Ok (Skip n)) (omega arith)

-- words

found_word : (is_white : Bool) (text after : List ℕ) → IsWord text after
    → found is_white (text ++ after) ≡ Ok (Take (length text))
found_word is_white text after is =
    let begins = begins_word-IsWord text after is in
    let some = word_some (text ++ after) begins in
    let plain = word_plain some.0 some.1 (rw some.2 at begins) in
    let zero_more : 0 + length text ≡ length text = omega arith in
    found_plain is_white (text ++ after) some.0 some.1 some.2 plain.0
    ∙ (plain_word (text ++ after) some.0 some.1 some.2 plain.0.no_operator plain.1.0 plain.1.1
    ∙ rw (begins, word_len-IsWord text after is, zero_more) refl)

found_at : (is_white : Bool) (text after : List ℕ) → IsWord text after
    → found is_white (64 ∷ (text ++ after)) ≡ Ok (Take (length (64 ∷ text)))
unfolding is_operator_byte is_mark
found_at is_white text after is =
    let one : 1 + length text ≡ suc (length text) = omega arith in
    found_plain is_white (64 ∷ (text ++ after)) 64 (text ++ after) refl at_plain
    ∙ rw (begins_word-IsWord text after is, word_len-IsWord text after is, one) refl

found_lone_at : (is_white : Bool) (after : List ℕ) → begins_word after ≡ false
    → found is_white (64 ∷ after) ≡ Err (Bad 0)
unfolding is_operator_byte is_mark
found_lone_at is_white after none =
    found_plain is_white (64 ∷ after) 64 after refl at_plain ∙ rw none refl

-- marks

found_mark : (is_white : Bool) (byte : ℕ) (after : List ℕ) → is_mark byte ≡ true
    → begins_double (byte ∷ after) ≡ false → found is_white (byte ∷ after) ≡ Ok (Take 1)
found_mark is_white byte after is single =
    let plain = mark_plain byte is in
    found_plain is_white (byte ∷ after) byte after refl plain
    ∙ rw (plain.no_operator, is, single) refl

found_double : (is_white : Bool) (after : List ℕ) → found is_white (63 ∷ 63 ∷ after) ≡ Ok (Take 2)
unfolding is_operator_byte is_mark
found_double is_white after =
    found_plain is_white (63 ∷ 63 ∷ after) 63 (63 ∷ after) refl question_plain

-- operators

not_true : (b : Bool) → not b ≡ true → b ≡ false
not_true true e = cc
not_true false e = refl

pub plain_operator : (byte : ℕ) (more : List ℕ) → is_operator_byte byte ≡ true
    → plain_step (byte ∷ more) ≡ operator_step (byte ∷ more) (run_len (byte ∷ more))
plain_operator byte more is = rw is refl

run_no_comment : (byte : ℕ) (more : List ℕ) → runs_on (byte ∷ more) ≡ true
    → (begins_line_comment (byte ∷ more) ≡ false) × (begins_block_comment (byte ∷ more) ≡ false)
run_no_comment byte more on =
    let parts = and_parts (is_operator_byte byte) (not (begins_comment (byte ∷ more))) on in
    or_parts (begins_line_comment (byte ∷ more)) (begins_block_comment (byte ∷ more))
    (not_true (begins_comment (byte ∷ more)) parts.1)

operator_no_blank : (byte : ℕ) → is_operator_byte byte ≡ true → is_blank byte ≡ false
unfolding is_operator_byte is_blank
operator_no_blank byte is = grind (arith, nat_tests)

found_run : (is_white : Bool) (byte : ℕ) (more after : List ℕ)
    → literal_of is_white (byte ∷ (more ++ after)) ≡ None
    → is_operator_byte byte ≡ true → IsRun (byte ∷ more) after
    → found is_white (byte ∷ (more ++ after))
    ≡ cond (is_operator (byte ∷ more)) (Ok (Take (length (byte ∷ more)))) (Err (Bad 0))
found_run is_white byte more after none operator run =
    let comment = run_no_comment byte (more ++ after) run.0 in
    let len = run_len-IsRun (byte ∷ more) after run in
    past_gaps is_white (byte ∷ (more ++ after)) byte (more ++ after) refl
    (operator_no_blank byte operator) comment.0 comment.1
    ∙ (ap (λ form. token_step form (byte ∷ (more ++ after))) none
    ∙ (plain_operator byte (more ++ after) operator
    ∙ (ap (operator_step (byte ∷ (more ++ after))) len
    ∙ ap (λ text. cond (is_operator text) (Ok (Take (length (byte ∷ more)))) (Err (Bad 0)))
    (take_at (byte ∷ more) after (length (byte ∷ more)) refl))))

-- literals

digits_goes_on : (form : Literal) (after : List ℕ) → goes_on after ≡ false
    → BeginsWithout (is_digit_or_line form) after
unfolding goes_on
digits_goes_on form [] ends = tt
digits_goes_on form (b ∷ bs) ends = elim (cases_Bool (is_digit_or_line form b)) [
  | inl on ↦
      let low = digit_or_line_ascii form b on in
      let same = chars_ascii is_word_char b bs low in
      let goes = digit_or_line_goes_on form b on in
      absurd (cc)
  | inr off ↦ off
]

found_literal : (is_white : Bool) (form : Literal) (after : List ℕ)
    → literal_of is_white (head_of form ++ after) ≡ Some form
    → found is_white (head_of form ++ after) ≡ literal_step form after
found_literal is_white form after is =
    let begins = literal_no_gap is_white (head_of form ++ after) form is in
    let comment = no_comment begins.0 begins.1 begins.3.no_slash in
    past_gaps is_white (head_of form ++ after) begins.0 begins.1 begins.2 begins.3.no_blank
    (rw begins.2 comment.0) (rw begins.2 comment.1)
    ∙ (ap (λ found_form. token_step found_form (head_of form ++ after)) is
    ∙ ap (literal_step form) (drop_at (head_of form) after (length (head_of form)) refl))

literal_step-digit : (form : Literal) (after : List ℕ) → begins_digit form after ≡ true
    → literal_step form after ≡ digits_step form after (prefix_len (is_digit_or_line form) after)
literal_step-digit form after is = rw is refl

pub found-literal : (is_white : Bool) (bytes : List ℕ) (form : Literal)
    → literal_of is_white bytes ≡ Some form
    → found is_white bytes ≡ literal_step form (drop (length (head_of form)) bytes)
found-literal is_white bytes form e =
    let head = literal_head is_white bytes form e in
    let there : literal_of is_white (head_of form ++ drop (length (head_of form)) bytes)
    ≡ Some form = rw head e in
    ap (found is_white) (sym head)
    ∙ found_literal is_white form (drop (length (head_of form)) bytes) there

-- digits, as many as stand there
literal_digits : (form : Literal) (digits after : List ℕ) → AreDigits form digits
    → BeginsWithout (is_digit_or_line form) after
    → literal_step form (digits ++ after) ≡ digits_step form (digits ++ after) (length digits)
literal_digits form [] after are ends = absurd are
literal_digits form (d ∷ more) after are ends =
    let on : is_digit_or_line form d ≡ true = rw are.0 refl in
    let all : list_all (is_digit_or_line form) (d ∷ more) ≡ true = rw (on, are.1) refl in
    let long = prefix_len-append (is_digit_or_line form) (d ∷ more) after all ends in
    literal_step-digit form (d ∷ (more ++ after)) are.0
    ∙ ap (digits_step form (d ∷ (more ++ after))) long

digits_of : (form : Literal) (digits after : List ℕ)
    → digits_step form (digits ++ after) (length digits)
    ≡ cond (ltb (most form) (number_in form digits)) (Err TooBig)
    (cond (goes_on after) (Err (Bad (length (head_of form) + length digits)))
    (Ok (Take (length (head_of form) + length digits))))
digits_of form digits after =
    rw (take_at digits after (length digits) refl, drop_at digits after (length digits) refl) refl

-- all tokens and all refusals

pub found-IsToken : (is_white : Bool) (text after : List ℕ) → IsToken is_white text after
    → found is_white (text ++ after) ≡ Ok (Take (length text))
found-IsToken is_white _ _ (tokens.word text after is) = found_word is_white text after is
found-IsToken is_white _ _ (tokens.at_word text after is) = found_at is_white text after is
found-IsToken is_white _ _ (tokens.literal form digits after is are fits ends) =
    let room : ltb (most form) (number_in form digits) ≡ false = grind (arith, nat_tests) in
    ap (found is_white) (append_assoc (head_of form) digits after)
    ∙ (found_literal is_white form (digits ++ after) is
    ∙ (literal_digits form digits after are (digits_goes_on form after ends)
    ∙ (digits_of form digits after
    ∙ rw (room, ends) (ap (λ n. Ok (Take n)) (sym (length-append (head_of form) digits))))))
found-IsToken is_white _ _ (tokens.operator byte more after none operator run is) =
    found_run is_white byte more after none operator run ∙ rw is refl
found-IsToken is_white _ _ (tokens.mark byte after is single) =
    found_mark is_white byte after is single
found-IsToken is_white _ _ (tokens.double_mark after) = found_double is_white after

found_unclosed : (is_white : Bool) (rest : List ℕ) → comment_len 0 rest ≡ None
    → found is_white (47 ∷ 42 ∷ rest) ≡ Err Unclosed
unfolding found is_blank
found_unclosed is_white rest none = ap comment_step none

found_other : (is_white : Bool) (byte : ℕ) (after : List ℕ) → IsPlain byte → is_mark byte ≡ false
    → byte ≢ 64
    → begins_word (byte ∷ after) ≡ false → found is_white (byte ∷ after) ≡ Err (Bad 0)
found_other is_white byte after plain mark at none =
    let no_at : eqb byte 64 ≡ false = grind (arith, nat_tests) in
    found_plain is_white (byte ∷ after) byte after refl plain
    ∙ (plain_word (byte ∷ after) byte after refl plain.no_operator mark no_at ∙ rw none refl)

no_first : (form : Literal) (after : List ℕ) → BeginsWithout (is_digit_of form) after
    → literal_step form after ≡ Err (Bad (length (head_of form)))
no_first form [] ends = refl
no_first form (b ∷ bs) ends = rw ends refl

-- a byte that begins nothing begins no gap and no literal either: the bytes of comments and of
-- signs are operator bytes
other_plain : (byte : ℕ) → is_blank byte ≡ false → is_digit byte ≡ false
    → is_operator_byte byte ≡ false → IsPlain byte
unfolding is_operator_byte
other_plain byte blank digit operator = record {
  no_gap = record { no_blank = blank; no_slash = grind (arith, nat_tests) };
  no_digit = digit;
  no_minus = grind (arith, nat_tests);
  no_operator = operator;
}

pub found-IsRefused : (is_white : Bool) (bytes : List ℕ) (refusal : Refusal)
    → IsRefused is_white bytes refusal
    → found is_white bytes ≡ Err refusal
found-IsRefused is_white _ _ (tokens.unclosed rest none) =
    found_unclosed is_white rest (closes_nothing rest none)
found-IsRefused is_white _ _ (tokens.too_big form digits after is are ends big) =
    let over : ltb (most form) (number_in form digits) ≡ true = grind (arith, nat_tests) in
    found_literal is_white form (digits ++ after) is
    ∙ (literal_digits form digits after are ends ∙ (digits_of form digits after ∙ rw over refl))
found-IsRefused is_white _ _ (tokens.no_digit form after is ends) =
    found_literal is_white form after is ∙ no_first form after ends
found-IsRefused is_white _ _ (tokens.after_literal form digits after is are ends fits on) =
    let room : ltb (most form) (number_in form digits) ≡ false = grind (arith, nat_tests) in
    found_literal is_white form (digits ++ after) is
    ∙ (literal_digits form digits after are ends
    ∙ (digits_of form digits after ∙ rw (room, on) refl))
found-IsRefused is_white _ _ (tokens.no_operator byte more after none operator run off) =
    found_run is_white byte more after none operator run ∙ rw off refl
found-IsRefused is_white _ _ (tokens.lone_at after none) = found_lone_at is_white after none
found-IsRefused is_white _ _ (tokens.other byte after blank digit operator mark at none) =
    found_other is_white byte after (other_plain byte blank digit operator) mark at none

pub found-IsGap : (is_white : Bool) (piece after : List ℕ) → IsGap piece after
    → found is_white (piece ++ after) ≡ Ok (Skip (length piece))
found-IsGap = found_gap
