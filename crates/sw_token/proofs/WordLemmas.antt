-- Words, as the definition says them and as the function finds them.
use Rattle.std.proofs.Common.{◌≡◌, ℕ, suc, ◌<◌, ◌≤◌, Bool, true, false, not, eqb, ltb, List}
use Rattle.std.proofs.Common.{[], ◌∷◌, ◌++◌, length, take, drop, refl, sym, ap, ◌∙◌, inl, inr}
use Rattle.std.proofs.Common.{arith, length-append}
use Rattle.std.specs.Prelude.{encode_utf8, encode_utf8_all}
use Rattle.std.specs.List.{list_all, prefix_len}
use Rattle.std.specs.Prelude.{Option, Some, None, MatchOption, unwrap_or}
use Rattle.std.specs.Str.{IsUtf8, IsCharBoundary, NonePass, NoCharPasses, chars, all_scalars}
use Rattle.std.specs.Str.Pattern.{FindsBy}
use Rattle.std.proofs.lemmas.Bool.{cases_Bool, and_parts}
use Rattle.std.proofs.lemmas.Bool.Decides.{nat_tests}
use Rattle.std.proofs.lemmas.List.{take-append-drop, length-take-le, take_at, drop_at, append-nil}
use Rattle.std.proofs.lemmas.Str.{chars-encodes, chars-append, encodes-append, encodes-chars}
use Rattle.std.proofs.lemmas.Str.{chars_from_encodes, chars_past_char, scalars-chars, length-encode}
use Rattle.std.proofs.lemmas.Str.{len_utf8_bounds, IsUtf8-take, IsUtf8-drop}
use Rattle.unicode_ident.specs.Ident.{is_xid_start}
use Rattle.unicode_ident.proofs.IdentLemmas.{is_xid_continue-ascii, is_xid_start-is_xid_continue}
use Rattle.sw_scan.specs.Prefixes.{BeginsWithout}
use Rattle.sw_scan.proofs.Prefixes.{prefix_passes, suffix_fails, prefix_len-append, prefix_len-yes}
use Rattle.sw_token.specs.Words.{is_word_start, is_word_char, first_passes, begins_word, goes_on}
use Rattle.sw_token.specs.Words.{IsWord, word_len}
use Rattle.sw_token.specs.Words as words

-- what begins a word goes on with one
pub start_goes_on : (char : ℕ) → is_word_start char ≡ true → is_word_char char ≡ true
unfolding is_word_start is_word_char
start_goes_on char is = elim (cases_Bool (is_xid_start char)) [
  | inl start ↦ is_xid_start-is_xid_continue char start
  | inr none ↦
      let line : eqb char 95 ≡ true = rw none at is in
      let low : char ≡ 95 = grind (arith, nat_tests) in
      let ascii : char < 128 = omega arith in
      is_xid_continue-ascii char ascii ∙ rw low refl
]

-- the first character of bytes that begin with a byte of ASCII is that byte
pub chars_ascii : (test : ℕ → Bool) (byte : ℕ) (more : List ℕ) → byte < 128
    → first_passes test (chars (byte ∷ more)) ≡ test byte
unfolding chars
chars_ascii test byte [] low =
    let t : ltb byte 128 ≡ true = grind (arith, nat_tests) in
    rw t refl
chars_ascii test byte (b ∷ bs) low =
    let t : ltb byte 128 ≡ true = grind (arith, nat_tests) in
    rw t refl

-- the first characters

first_without : (test : ℕ → Bool) (cs : List ℕ) → first_passes test cs ≡ false
    → BeginsWithout test cs
first_without test [] off = tt
first_without test (c ∷ cs) off = off

without_first : (test : ℕ → Bool) (cs : List ℕ) → BeginsWithout test cs
    → first_passes test cs ≡ false
without_first test [] off = refl
without_first test (c ∷ cs) off = off

all_scalars-append : (cs ds : List ℕ) → all_scalars (cs ++ ds) ≡ true
    → (all_scalars cs ≡ true) × (all_scalars ds ≡ true)
all_scalars-append [] ds h = (refl, h)
all_scalars-append (c ∷ cs) ds h =
    let parts = and_parts _ (all_scalars (cs ++ ds)) h in
    let rest = all_scalars-append cs ds parts.1 in
    (rw (parts.0, rest.0) refl, rest.1)

-- what the definition says is found

module _ (start : ℕ) (more after : List ℕ) (scalars : all_scalars (start ∷ more) ≡ true)
    (starts : is_word_start start ≡ true) (all : list_all is_word_char more ≡ true)
    (ends : goes_on after ≡ false) where
  word_chars : chars (encode_utf8_all (start ∷ more) ++ after) ≡ (start ∷ more) ++ chars after
  word_chars =
      chars-append (encode_utf8_all (start ∷ more)) after (start ∷ more, (scalars, refl))
      ∙ ap (λ cs. cs ++ chars after) (chars-encodes (start ∷ more) scalars)

  word_len-parts : word_len (encode_utf8_all (start ∷ more) ++ after)
      ≡ length (encode_utf8_all (start ∷ more))
  unfolding word_len goes_on
  word_len-parts =
      let whole : list_all is_word_char (start ∷ more) ≡ true =
      rw (start_goes_on start starts) all in
      let fails = first_without is_word_char (chars after) ends in
      let long = prefix_len-append is_word_char (start ∷ more) (chars after) whole fails in
      rw (word_chars, long)
      (ap (λ cs. length (encode_utf8_all cs))
      (take_at (start ∷ more) (chars after) (length (start ∷ more)) refl))

  begins_word-parts : begins_word (encode_utf8_all (start ∷ more) ++ after) ≡ true
  unfolding begins_word
  begins_word-parts = rw word_chars starts

pub word_len-IsWord : (text after : List ℕ) → IsWord text after
    → word_len (text ++ after) ≡ length text
word_len-IsWord _ _ (words.word start more after scalars starts all ends) =
    word_len-parts start more after scalars starts all ends

pub begins_word-IsWord : (text after : List ℕ) → IsWord text after
    → begins_word (text ++ after) ≡ true
begins_word-IsWord _ _ (words.word start more after scalars starts all ends) =
    begins_word-parts start more after scalars starts all ends

pub IsUtf8-IsWord : (text after : List ℕ) → IsWord text after → IsUtf8 text
IsUtf8-IsWord _ _ (words.word start more after scalars starts all ends) =
    (start ∷ more, (scalars, refl))

pub some_word : (text after : List ℕ) → IsWord text after → 0 < length text
some_word _ _ (words.word start more after scalars starts all ends) =
    omega (
      arith,
      length-append (encode_utf8 start) (encode_utf8_all more),
      length-encode start,
      (len_utf8_bounds start).0,
    )

-- what is found the definition says

-- bytes of UTF-8 at a character
chars_split : (bytes : List ℕ) (n : ℕ) → IsUtf8 bytes
    → bytes ≡ encode_utf8_all (take n (chars bytes)) ++ encode_utf8_all (drop n (chars bytes))
chars_split bytes n utf8 =
    sym (encodes-chars bytes utf8)
    ∙ (ap encode_utf8_all (sym (take-append-drop n (chars bytes)))
    ∙ encodes-append (take n (chars bytes)) (drop n (chars bytes)))

pub IsWord-word_len : (bytes : List ℕ) → IsUtf8 bytes → begins_word bytes ≡ true
    → IsWord (take (word_len bytes) bytes) (drop (word_len bytes) bytes)
unfolding word_len begins_word goes_on
IsWord-word_len bytes utf8 begins = go (chars bytes) refl where
  n : ℕ
  n = prefix_len is_word_char (chars bytes)

  split : bytes ≡ encode_utf8_all (take n (chars bytes)) ++ encode_utf8_all (drop n (chars bytes))
  split = chars_split bytes n utf8

  scalar_parts : (all_scalars (take n (chars bytes)) ≡ true)
      × (all_scalars (drop n (chars bytes)) ≡ true)
  scalar_parts =
      all_scalars-append (take n (chars bytes)) (drop n (chars bytes))
      (rw (take-append-drop n (chars bytes)) (scalars-chars bytes utf8))

  after_ends : goes_on (encode_utf8_all (drop n (chars bytes))) ≡ false
  after_ends = rw (chars-encodes (drop n (chars bytes)) scalar_parts.1)
      (without_first is_word_char (drop n (chars bytes)) (suffix_fails is_word_char (chars bytes)))

  taken : take (length (encode_utf8_all (take n (chars bytes)))) bytes
      ≡ encode_utf8_all (take n (chars bytes))
  taken = ap (take (length (encode_utf8_all (take n (chars bytes))))) split
      ∙ take_at (encode_utf8_all (take n (chars bytes)))
      (encode_utf8_all (drop n (chars bytes))) _ refl

  left : drop (length (encode_utf8_all (take n (chars bytes)))) bytes
      ≡ encode_utf8_all (drop n (chars bytes))
  left = ap (drop (length (encode_utf8_all (take n (chars bytes))))) split
      ∙ drop_at (encode_utf8_all (take n (chars bytes)))
      (encode_utf8_all (drop n (chars bytes))) _ refl

  go : (cs : List ℕ) → chars bytes ≡ cs
      → IsWord (take (length (encode_utf8_all (take n (chars bytes)))) bytes)
      (drop (length (encode_utf8_all (take n (chars bytes)))) bytes)
  go [] e = (let none = rw e at begins in cc)
  go (start ∷ more) e =
      let starts : is_word_start start ≡ true = rw e at begins in
      let long : n ≡ suc (prefix_len is_word_char more) =
      ap (prefix_len is_word_char) e
      ∙ prefix_len-yes is_word_char start more (start_goes_on start starts) in
      let cut : take n (chars bytes) ≡ start ∷ take (prefix_len is_word_char more) more =
      rw (long, e) refl in
      let scalars : all_scalars (start ∷ take (prefix_len is_word_char more) more) ≡ true =
      rw cut at scalar_parts.0 in
      let is =
      words.word start (take (prefix_len is_word_char more) more)
      (encode_utf8_all (drop n (chars bytes))) scalars starts
      (prefix_passes is_word_char more) after_ends in
      rw (taken, left, cut) is

not_true : (b : Bool) → not b ≡ true → b ≡ false
not_true true e = cc
not_true false e = refl

ends_differ : (c : ℕ) → is_word_char c ≡ false → not (is_word_char c) ≡ false → ⊥
ends_differ c off ends = (let on : not (is_word_char c) ≡ true = rw off refl in cc)

pub goes_on-nil : goes_on [] ≡ false
unfolding goes_on chars
goes_on-nil = refl

-- a character that ends a word stands first
stops : (bytes : List ℕ) (c : ℕ) (rest : List ℕ) → chars bytes ≡ c ∷ chars rest
    → not (is_word_char c) ≡ true → goes_on bytes ≡ false
unfolding goes_on
stops bytes c rest e ends = rw e (not_true (is_word_char c) ends)

-- what a search for the first character that ends a word gives

-- the characters of bytes, all of a word, before others
word_len-split : (xs ys : List ℕ) → IsUtf8 xs → list_all is_word_char (chars xs) ≡ true
    → goes_on ys ≡ false
    → word_len (xs ++ ys) ≡ length xs
unfolding word_len goes_on
word_len-split xs ys utf8 all ends =
    let long =
    prefix_len-append is_word_char (chars xs) (chars ys) all
    (first_without is_word_char (chars ys) ends) in
    rw (chars-append xs ys utf8, long)
    (ap (λ cs. length (encode_utf8_all cs)) (take_at (chars xs) (chars ys) (length (chars xs)) refl)
    ∙ ap length (encodes-chars xs utf8))

abbrev ends_word : ℕ → Bool
ends_word char = not (is_word_char char)

none_end : (cs : List ℕ) → NonePass ends_word cs → list_all is_word_char cs ≡ true
none_end [] h = refl
none_end (c ∷ cs) h = elim (cases_Bool (is_word_char c)) [
  | inl on ↦ rw (on, none_end cs h.1) refl
  | inr off ↦ (let ends = h.0 in absurd (ends_differ c off ends))
]

-- bytes of whose characters none ends a word
all_on : (bytes : List ℕ) → IsUtf8 bytes → NoCharPasses ends_word bytes
    → list_all is_word_char (chars bytes) ≡ true
all_on bytes utf8 h =
    let same : h.0 ≡ chars bytes = chars_from_encodes h.0 bytes utf8 h.1 in
    rw (← same) (none_end h.0 h.2)

pub find_gives : (s : List ℕ) (found : Option ℕ) (G : (ℕ → Bool) → Type 0) → IsUtf8 s → G ends_word
    → MatchOption found ((k : ℕ → Bool) → G k → FindsBy k s None)
    (λ i. (j : ℕ) × ((k : ℕ → Bool) → G k → FindsBy k s (Some (i, j))) × (i ≤ j)
    × IsCharBoundary s i × IsCharBoundary s j)
    → unwrap_or found (length s) ≡ word_len s
find_gives s None G utf8 is h =
    let all = all_on s utf8 (h ends_word is) in
    let whole : word_len (s ++ []) ≡ length s = word_len-split s [] utf8 all goes_on-nil in
    sym (rw append-nil at whole)
find_gives s (Some i) G utf8 is h =
    let found = h.1 ends_word is in
    let char = found.1 in
    let before = IsUtf8-take s i utf8 h.3 in
    let from = IsUtf8-drop s i utf8 h.3 in
    let all = all_on (take i s) before found.0 in
    let next = chars_past_char (drop i s) (drop h.0 s) char.0 from char.2.split in
    let long : length (take i s) ≡ i = length-take-le i s h.3.0 in
    let ends = stops (drop i s) char.0 (drop h.0 s) next char.1 in
    let len = word_len-split (take i s) (drop i s) before all ends in
    sym (rw (take-append-drop, long) at len)
