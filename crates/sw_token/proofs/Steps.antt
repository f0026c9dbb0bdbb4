-- The steps of a scan find what the definitions of tokens say: so the laws of scans hold of tokens.
use Rattle.std.proofs.Common.{◌≡◌, ◌≢◌, ℕ, ◌<◌, ◌≤◌, Bool, true, false, not, ◌||◌, eqb, ltb, List}
use Rattle.std.proofs.Common.{[], ◌∷◌, ◌++◌, length, take, drop, Some, Result, Ok, Err, refl, ap}
use Rattle.std.proofs.Common.{◌∙◌, subst, inl, inr, arith, append_assoc, length-append}
use Rattle.std.specs.Prelude.{IsAscii}
use Rattle.std.specs.Str.{IsUtf8, IsCharBoundary}
use Rattle.std.proofs.lemmas.Bool.{cases_Bool, and_parts}
use Rattle.std.proofs.lemmas.Bool.Decides.{nat_tests}
use Rattle.std.proofs.lemmas.List.{take-append-drop}
use Rattle.std.proofs.lemmas.Str.{IsUtf8-nil, IsUtf8-append, IsUtf8-from_ascii, IsAscii-append}
use Rattle.std.proofs.lemmas.Str.{IsCharBoundary-from_drop}
use Rattle.std.proofs.lemmas.Str.Ascii.{IsAscii-nil, IsAscii-cons}
use Rattle.sw_scan.specs.Classes.{is_blank}
use Rattle.sw_scan.specs.Prefixes.{BeginsWithout}
use Rattle.sw_scan.specs.declared.Step.{Step}
use Rattle.sw_scan.specs.declared.Step.TheVariants.{End, Skip, Take}
use Rattle.sw_scan.proofs.Agreement.{StepHolds, Agrees}
use Rattle.sw_token.specs.declared.TheConstants.{MOST_TOKENS}
use Rattle.sw_token.specs.declared.before.Before.{Before}
use Rattle.sw_token.specs.declared.LexFault.{LexFault}
use Rattle.sw_token.specs.declared.LexFault.TheVariants as faults
use Rattle.sw_token.specs.declared.literals.Literal.{Literal}
use Rattle.sw_token.specs.declared.literals.Literal.TheVariants.{Decimal, Negative, Binary, Octal}
use Rattle.sw_token.specs.declared.literals.Literal.TheVariants.{Hexadecimal}
use Rattle.sw_token.specs.declared.step.Refusal.{Refusal}
use Rattle.sw_token.specs.declared.step.Refusal.TheVariants.{Unclosed, TooBig, Bad}
use Rattle.sw_token.specs.Bytes.{is_operator_byte, is_mark}
use Rattle.sw_token.specs.Comments.{IsComment, IsGap, is_in_line}
use Rattle.sw_token.specs.Comments as comments
use Rattle.sw_token.specs.Literals.{head_of, is_digit_of, is_digit_or_line, AreDigits, literal_of}
use Rattle.sw_token.specs.Operators.{IsRun, begins_comment}
use Rattle.sw_token.specs.Tokens.{IsToken, IsTaken, IsTokenFault, lexis}
use Rattle.sw_token.specs.Tokens as tokens
use Rattle.sw_token.specs.Reading.{counted, found, step}
use Rattle.sw_token.proofs.ClassLemmas.{literal_head, literal_head-within}
use Rattle.sw_token.proofs.CommentLemmas.{comment_ends}
use Rattle.sw_token.proofs.FoundLemmas.{found-IsGap, found-IsToken, found-IsRefused}
use Rattle.sw_token.proofs.FoundHolds.{FoundHolds, found_holds}
use Rattle.sw_token.proofs.LiteralLemmas.{digit_or_line_ascii}
use Rattle.sw_token.proofs.Utf8Lemmas.{utf8_after, utf8_after_byte, utf8_from_byte, all_ascii}
use Rattle.sw_token.proofs.WordLemmas.{IsUtf8-IsWord, some_word}

-- what the form says is found

skips : (at : ℕ) (before : Before) (piece after : List ℕ) → IsGap piece after
    → step at before (piece ++ after) ≡ Ok (Skip (length piece))
unfolding step
skips at before piece after is =
    ap (counted at before.count) (found-IsGap before.is_white piece after is)

takes : (at : ℕ) (before : Before) (text after : List ℕ) → IsTaken before text after
    → step at before (text ++ after) ≡ Ok (Take (length text))
unfolding step
takes at before text after is =
    let room : ltb before.count MOST_TOKENS ≡ true = grind (arith, nat_tests, is.few) in
    ap (counted at before.count) (found-IsToken before.is_white text after is.is_token)
    ∙ rw room refl

refuses : (at : ℕ) (before : Before) (bytes : List ℕ) (fault : LexFault)
    → IsTokenFault at before bytes fault → step at before bytes ≡ Err fault
unfolding step
refuses at before _ _ (tokens.unclosed bytes is) =
    ap (counted at before.count) (found-IsRefused before.is_white bytes Unclosed is)
refuses at before _ _ (tokens.too_big bytes is) =
    ap (counted at before.count) (found-IsRefused before.is_white bytes TooBig is)
refuses at before _ _ (tokens.bad_first bytes is) =
    ap (counted at before.count) (found-IsRefused before.is_white bytes (Bad 0) is)
refuses at before _ _ (tokens.bad_later bytes n is later few) =
    let some : eqb n 0 ≡ false = grind (arith, nat_tests) in
    let room : ltb before.count MOST_TOKENS ≡ true = grind (arith, nat_tests) in
    ap (counted at before.count) (found-IsRefused before.is_white bytes (Bad n) is)
    ∙ rw (some, room) refl
refuses at before _ _ (tokens.too_many_begun bytes n is later full) =
    let some : eqb n 0 ≡ false = grind (arith, nat_tests) in
    let room : ltb before.count MOST_TOKENS ≡ false = grind (arith, nat_tests) in
    ap (counted at before.count) (found-IsRefused before.is_white bytes (Bad n) is)
    ∙ rw (some, room) refl
refuses at before _ _ (tokens.too_many text after is full) =
    let room : ltb before.count MOST_TOKENS ≡ false = grind (arith, nat_tests) in
    ap (counted at before.count) (found-IsToken before.is_white text after is) ∙ rw room refl

-- what is found the form says

differs : (a b : ℕ) → eqb a b ≡ false → a ≡ b → ⊥
differs a b test same = grind (arith, nat_tests)

counted_holds : (at : ℕ) (before : Before) (bytes : List ℕ) (is : Result Step Refusal)
    → FoundHolds before.is_white bytes is
    → StepHolds lexis at before bytes (counted at before.count is)
counted_holds at before bytes (Err Unclosed) h = tokens.unclosed bytes h
counted_holds at before bytes (Err TooBig) h = tokens.too_big bytes h
counted_holds at before bytes (Err (Bad n)) h = elim (cases_Bool (eqb n 0)) [
  | inl first ↦
      let none : n ≡ 0 = grind (arith, nat_tests) in
      rw first (tokens.bad_first bytes (rw none at h))
  | inr later ↦
      let some : n ≢ 0 = λ none. differs n 0 later none in
      elim (cases_Bool (ltb before.count MOST_TOKENS)) [
        | inl room ↦ rw (later, room) (tokens.bad_later bytes n h some (grind (arith, nat_tests)))
        | inr full ↦
            rw (later, full) (tokens.too_many_begun bytes n h some (grind (arith, nat_tests)))
      ]
]
counted_holds at before bytes (Ok End) h = h
counted_holds at before bytes (Ok (Skip n)) h = h
counted_holds at before bytes (Ok (Take n)) h = elim (cases_Bool (ltb before.count MOST_TOKENS)) [
  | inl room ↦ rw room (record { is_token = h; few = grind (arith, nat_tests) })
  | inr full ↦
      let many : MOST_TOKENS ≤ before.count = grind (arith, nat_tests) in
      let refused : IsTokenFault at before (take n bytes ++ drop n bytes) (faults.TooMany at) =
      tokens.too_many (take n bytes) (drop n bytes) h many in
      rw full (rw (take-append-drop n bytes) at refused)
]

step_holds : (at : ℕ) (before : Before) (bytes : List ℕ) → IsUtf8 bytes
    → StepHolds lexis at before bytes (step at before bytes)
unfolding step
step_holds at before bytes utf8 =
    counted_holds at before bytes (found before.is_white bytes)
    (found_holds before.is_white bytes utf8)

some_digit : (form : Literal) (digits : List ℕ) → AreDigits form digits → 0 < length digits
some_digit form [] are = absurd are
some_digit form (d ∷ more) are = omega arith

either : (a b : Bool) → a ≡ true → (a || b) ≡ true
either true b h = refl
either false b h = cc

-- gaps and tokens have bytes, and UTF-8 follows them

some_gap : (piece after : List ℕ) → IsGap piece after → 0 < length piece
some_gap _ _ (comments.blank byte after is) = omega arith
some_gap _ _ (comments.line text after all ends) = omega arith
some_gap _ _ (comments.block comment after is) = omega arith

pub some_token : (is_white : Bool) (text after : List ℕ) → IsToken is_white text after
    → 0 < length text
some_token is_white _ _ (tokens.word text after is) = some_word text after is
some_token is_white _ _ (tokens.at_word text after is) = omega arith
some_token is_white _ _ (tokens.literal form digits after is are fits ends) =
    omega (arith, length-append (head_of form) digits, some_digit form digits are)
some_token is_white _ _ (tokens.operator byte more after none operator run is) = omega arith
some_token is_white _ _ (tokens.mark byte after is single) = omega arith
some_token is_white _ _ (tokens.double_mark after) = omega arith

blank_ascii : (byte : ℕ) → is_blank byte ≡ true → byte < 128
unfolding is_blank
blank_ascii byte is = grind (arith, nat_tests)

line_feed : (b : ℕ) → is_in_line b ≡ false → b ≡ 10
line_feed b ends = grind (arith, nat_tests)

-- after a line comment stands the end or a line feed
after_line : (text after : List ℕ) → BeginsWithout is_in_line after
    → IsUtf8 ((47 ∷ 47 ∷ text) ++ after) → IsUtf8 after
after_line text [] ends utf8 = IsUtf8-nil
after_line text (b ∷ bs) ends utf8 =
    let feed : b ≡ 10 = line_feed b ends in
    let low : b < 128 = omega arith in
    utf8_from_byte (47 ∷ 47 ∷ text) b bs low utf8

-- a comment ends in `/`
after_block : (comment after : List ℕ) → IsComment 0 comment
    → IsUtf8 ((47 ∷ 42 ∷ comment) ++ after) → IsUtf8 after
after_block comment after is utf8 =
    let ends = comment_ends 0 comment is in
    let whole : (47 ∷ 42 ∷ comment) ++ after ≡ (47 ∷ 42 ∷ ends.0) ++ (47 ∷ after) =
    ap (λ xs. (47 ∷ 42 ∷ xs) ++ after) ends.1 ∙ append_assoc (47 ∷ 42 ∷ ends.0) (47 ∷ []) after in
    let low : 47 < 128 = omega arith in
    utf8_after_byte 47 after low
    (utf8_from_byte (47 ∷ 42 ∷ ends.0) 47 after low (subst IsUtf8 whole utf8))

sound_gap : (piece after : List ℕ) → IsGap piece after → IsUtf8 (piece ++ after) → IsUtf8 after
sound_gap _ _ (comments.blank byte after is) utf8 =
    utf8_after_byte byte after (blank_ascii byte is) utf8
sound_gap _ _ (comments.line text after all ends) utf8 = after_line text after ends utf8
sound_gap _ _ (comments.block comment after is) utf8 = after_block comment after is utf8

head_ascii : (form : Literal) → IsAscii (head_of form)
head_ascii Decimal = IsAscii-nil
head_ascii Negative = IsAscii-cons 45 [] (omega arith) IsAscii-nil
head_ascii Binary =
    IsAscii-cons 48 (98 ∷ []) (omega arith) (IsAscii-cons 98 [] (omega arith) IsAscii-nil)
head_ascii Octal =
    IsAscii-cons 48 (111 ∷ []) (omega arith) (IsAscii-cons 111 [] (omega arith) IsAscii-nil)
head_ascii Hexadecimal =
    IsAscii-cons 48 (120 ∷ []) (omega arith) (IsAscii-cons 120 [] (omega arith) IsAscii-nil)

-- a text may be cut after the head of its literal
pub boundary_after_head : (is_white : Bool) (bytes : List ℕ) (form : Literal) → IsUtf8 bytes
    → literal_of is_white bytes ≡ Some form → IsCharBoundary bytes (length (head_of form))
boundary_after_head is_white bytes form utf8 e =
    let head = literal_head is_white bytes form e in
    let rest = drop (length (head_of form)) bytes in
    let whole : IsUtf8 (head_of form ++ rest) = rw head utf8 in
    let after : IsUtf8 rest =
    utf8_after (head_of form) rest (IsUtf8-from_ascii (head_of form) (head_ascii form)) whole in
    IsCharBoundary-from_drop bytes (length (head_of form))
    (literal_head-within is_white bytes form e) after

digits_ascii : (form : Literal) (digits : List ℕ) → AreDigits form digits → IsAscii digits
digits_ascii form [] are = absurd are
digits_ascii form (d ∷ more) are =
    let on : is_digit_or_line form d ≡ true = either (is_digit_of form d) (eqb d 95) are.0 in
    IsAscii-cons d more (digit_or_line_ascii form d on)
    (all_ascii (is_digit_or_line form) (digit_or_line_ascii form) more are.1)

operator_ascii : (byte : ℕ) → is_operator_byte byte ≡ true → byte < 128
unfolding is_operator_byte
operator_ascii byte is = grind (arith, nat_tests)

mark_ascii : (byte : ℕ) → is_mark byte ≡ true → byte < 128
unfolding is_mark
mark_ascii byte is = grind (arith, nat_tests)

run_ascii : (text after : List ℕ) → IsRun text after → IsAscii text
run_ascii [] after run = IsAscii-nil
run_ascii (byte ∷ text) after run =
    let parts =
    and_parts (is_operator_byte byte) (not (begins_comment (byte ∷ (text ++ after)))) run.0 in
    IsAscii-cons byte text (operator_ascii byte parts.0) (run_ascii text after run.1)

-- a token is text
pub IsUtf8-IsToken : (is_white : Bool) (text after : List ℕ) → IsToken is_white text after
    → IsUtf8 text
IsUtf8-IsToken is_white _ _ (tokens.word text after is) = IsUtf8-IsWord text after is
IsUtf8-IsToken is_white _ _ (tokens.at_word text after is) =
    let low : 64 < 128 = omega arith in
    IsUtf8-append (64 ∷ []) text (IsUtf8-from_ascii (64 ∷ []) (IsAscii-cons 64 [] low IsAscii-nil))
    (IsUtf8-IsWord text after is)
IsUtf8-IsToken is_white _ _ (tokens.literal form digits after is are fits ends) =
    IsUtf8-from_ascii (head_of form ++ digits)
    (IsAscii-append (head_of form) digits (head_ascii form) (digits_ascii form digits are))
IsUtf8-IsToken is_white _ _ (tokens.operator byte more after none operator run is) =
    IsUtf8-from_ascii (byte ∷ more) (run_ascii (byte ∷ more) after run)
IsUtf8-IsToken is_white _ _ (tokens.mark byte after is single) =
    IsUtf8-from_ascii (byte ∷ []) (IsAscii-cons byte [] (mark_ascii byte is) IsAscii-nil)
IsUtf8-IsToken is_white _ _ (tokens.double_mark after) =
    IsUtf8-from_ascii (63 ∷ 63 ∷ [])
    (IsAscii-cons 63 (63 ∷ []) (omega arith) (IsAscii-cons 63 [] (omega arith) IsAscii-nil))

pub agrees : Agrees lexis IsUtf8 step
unfolding step found
agrees = record {
  ends = λ at before. refl;
  skips = skips;
  takes = takes;
  refuses = refuses;
  holds = step_holds;
  some_piece = some_gap;
  some_item = λ before text after is. some_token before.is_white text after is.is_token;
  sound_piece = sound_gap;
  sound_item =
      λ before text after is utf8. utf8_after text after
      (IsUtf8-IsToken before.is_white text after is.is_token) utf8;
}

-- a token that was found is one, and fewer than the most stand before it
pub found_taken : (at : ℕ) (before : Before) (bytes : List ℕ) (n : ℕ) → IsUtf8 bytes
    → step at before bytes ≡ Ok (Take n) → IsTaken before (take n bytes) (drop n bytes)
found_taken at before bytes n utf8 e = rw e at (step_holds at before bytes utf8)
