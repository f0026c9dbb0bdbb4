-- What the sets of grammars say of a token's text.
use Rattle.std.proofs.Common.{◌≡◌, ℕ, zero, suc, ◌+◌, ◌*◌, ◌≤◌, ◌<◌, Bool, true, false, cond, not}
use Rattle.std.proofs.Common.{◌&&◌, ◌||◌, ◌⊎◌, inl, inr, List, [], ◌∷◌, ◌++◌, length, get_or}
use Rattle.std.proofs.Common.{nat_lt, ◌==◌, refl, sym, ◌∙◌, ap, arith, bytes_eq, filter, ◌%◌}
use Rattle.std.specs.List.{list_any, list_all, position_or_len}
use Rattle.std.proofs.lemmas.Bool.{eqb-true, eq-eqb, ltb-true, ltb-false, le-ltb}
use Rattle.std.proofs.lemmas.Bool.Decides.{eqb_tells}
use Rattle.std.proofs.lemmas.List.Sums.{passes_at_first}
use Rattle.std.proofs.lemmas.Slice.Eq.{bytes_eq-Decides}
use Rattle.sw_token.specs.declared.Fixity.{Fixity}
use Rattle.sw_token.specs.declared.Fixity.TheVariants as fixities
use Rattle.sw_token.specs.declared.Kind.{Kind}
use Rattle.sw_token.specs.declared.Kind.TheVariants as kinds
use Rattle.sw_scan.specs.Classes.{is_digit}
use Rattle.sw_token.specs.Bytes.{is_operator_byte, is_mark}
use Rattle.sw_token.specs.Literals.{unsigned_of, literal_of, number_in}
use Rattle.sw_token.specs.Kinds.{kind_of, word_kind, ruled_words, reserved_words, mark_number}
use Rattle.sw_token.specs.Operators.{operators}
use Rattle.sw_token.specs.Spelling.{Spelled}
use Rattle.sw_grammar_forms.specs.Sets.{Set, quoted_texts, index_of, is_quoted, text_number, sort_of}
use Rattle.sw_grammar_forms.specs.Sets.{is_name, is_integer, fixity_number, kind_class, class_of, is_in}
use Rattle.sw_grammar_forms.specs.Sets.{has, any, first_only, not_first, quoted, open_words, one_of, word}
use Rattle.sw_grammar_forms.specs.Sets.{integer}
use Rattle.sw_grammar_forms.proofs.SetLemmas.{and_left, and_right, and_both, or_left, or_right, not_true}
use Rattle.sw_grammar_forms.proofs.SetLemmas.{implied, is_in-append, is_in-filter}

pub same_truth : (a b : Bool) → (a ≡ true → b ≡ true) → (b ≡ true → a ≡ true) → a ≡ b
same_truth true true h k = refl
same_truth true false h k = sym (h refl)
same_truth false true h k = k refl
same_truth false false h k = refl

bit : Bool → ℕ
bit b = cond b 1 0

pub any_holds : (class other : ℕ) (first : Bool) → class ≡ other
    → is_in (any class) (2 * other + cond first 1 0) ≡ true
any_holds class other true same =
    or_right _ _ (or_left _ _ (eq-eqb (2 * class + 1) (2 * other + 1) (omega arith)))
any_holds class other false same = or_left _ _ (eq-eqb (2 * class) (2 * other + 0) (omega arith))

pub or_cases : (a b : Bool) → (a || b) ≡ true → (a ≡ true) ⊎ (b ≡ true)
or_cases true b h = inl refl
or_cases false b h = inr h

bit_small : (first : Bool) → cond first 1 0 < 2
bit_small true = omega arith
bit_small false = omega arith

pub any_says : (class other : ℕ) (first : Bool)
    → is_in (any class) (2 * other + cond first 1 0) ≡ true
    → class ≡ other
any_says class other first h = let small = bit_small first in elim (or_cases _ _ h) [
  | inl is ↦ (let same = eqb-true (2 * class) (2 * other + cond first 1 0) is in omega arith)
  | inr is ↦ elim (or_cases _ _ is) [
    | inl is' ↦ (let same = eqb-true (2 * class + 1) (2 * other + cond first 1 0) is' in
        omega arith)
    | inr is' ↦ absurd (cc)
  ]
]

pub fixity_small : (fixity : Fixity) → fixity_number fixity < 4
fixity_small fixities.Infix = omega arith
fixity_small fixities.Prefix = omega arith
fixity_small fixities.Postfix = omega arith
fixity_small fixities.None = omega arith

pub if_small : (b : Bool) (n : ℕ) → n < 4 → cond b n 0 < 4
if_small true n h = h
if_small false n h = omega arith

-- one of four sets
abbrev four : Set → Set → Set → Set → Set
four a b c d = a ++ (b ++ (c ++ d))

in_four : (a b c d : Set) (class : ℕ) → is_in (four a b c d) class ≡ true
    → (is_in a class ≡ true) ⊎
    ((is_in b class ≡ true) ⊎ ((is_in c class ≡ true) ⊎ (is_in d class ≡ true)))
in_four a b c d class h = elim (or_cases _ _ (sym (is_in-append a (b ++ (c ++ d)) class) ∙ h)) [
  | inl one ↦ inl one
  | inr h' ↦ elim (or_cases _ _ (sym (is_in-append b (c ++ d) class) ∙ h')) [
    | inl two ↦ inr (inl two)
    | inr h'' ↦ elim (or_cases _ _ (sym (is_in-append c d class) ∙ h'')) [
      | inl three ↦ inr (inr (inl three))
      | inr last ↦ inr (inr (inr last))
    ]
  ]
]

pub in_first : (a b : Set) (class : ℕ) → is_in a class ≡ true → is_in (a ++ b) class ≡ true
in_first a b class h = is_in-append a b class ∙ or_left _ _ h

pub in_second : (a b : Set) (class : ℕ) → is_in b class ≡ true → is_in (a ++ b) class ≡ true
in_second a b class h = is_in-append a b class ∙ or_right _ _ h

-- A token of the set of a text has the number of that text.
pub quoted_says : (text other : List ℕ) (fixity : Fixity) (first : Bool)
    → is_in (quoted other) (class_of text fixity first) ≡ true
    → text_number text ≡ index_of other
quoted_says text other fixity first h = by_operator (nat_lt (index_of other) (length operators)) h
  where
    same : (j : ℕ) → j < 4 → 4 * index_of other + j ≡ kind_class text fixity
        → text_number text ≡ index_of other
    same j low e = let small = if_small (nat_lt (text_number text) (length operators))
        (fixity_number fixity) (fixity_small fixity) in omega arith

    says : (class : ℕ) → is_in (any class) (class_of text fixity first) ≡ true
        → class ≡ kind_class text fixity
    says class k = any_says class (kind_class text fixity) first k

    by_operator : (b : Bool) → is_in
        (cond b (any (4 * index_of other) ++
        (any (4 * index_of other + 1) ++
        (any (4 * index_of other + 2) ++ any (4 * index_of other + 3)))) (any (4 * index_of other)))
        (class_of text fixity first) ≡ true
        → text_number text ≡ index_of other
    by_operator false k = let is = says (4 * index_of other) k in same 0 (omega arith) (omega arith)
    by_operator true k = elim (in_four (any (4 * index_of other)) (any (4 * index_of other + 1))
        (any (4 * index_of other + 2)) (any (4 * index_of other + 3))
        (class_of text fixity first) k) [
          | inl one ↦ (let is = says (4 * index_of other) one in same 0 (omega arith) (omega arith))
          | inr k' ↦ elim k' [
            | inl two ↦ same 1 (omega arith) (says (4 * index_of other + 1) two)
            | inr k'' ↦ elim k'' [
              | inl three ↦ same 2 (omega arith) (says (4 * index_of other + 2) three)
              | inr last ↦ same 3 (omega arith) (says (4 * index_of other + 3) last)
            ]
          ]
        ]

pub quoted_holds : (text other : List ℕ) (fixity : Fixity) (first : Bool)
    → text_number text ≡ index_of other
    → is_in (quoted other) (class_of text fixity first) ≡ true
quoted_holds text other fixity first same =
    by_operator (nat_lt (index_of other) (length operators)) refl
  where
    holds : (class : ℕ) → class ≡ kind_class text fixity
        → is_in (any class) (class_of text fixity first) ≡ true
    holds class e = any_holds class (kind_class text fixity) first e

    by_fixity : (f : Fixity) → 4 * index_of other + fixity_number f ≡ kind_class text fixity
        → is_in (four (any (4 * index_of other)) (any (4 * index_of other + 1))
        (any (4 * index_of other + 2)) (any (4 * index_of other + 3))) (class_of text fixity first)
        ≡ true
    by_fixity fixities.Infix e =
        in_first (any (4 * index_of other))
        (any (4 * index_of other + 1) ++
        (any (4 * index_of other + 2) ++ any (4 * index_of other + 3))) (class_of text fixity first)
        (holds (4 * index_of other) (omega arith))
    by_fixity fixities.Prefix e =
        in_second (any (4 * index_of other))
        (any (4 * index_of other + 1) ++
        (any (4 * index_of other + 2) ++ any (4 * index_of other + 3))) (class_of text fixity first)
        (in_first (any (4 * index_of other + 1))
        (any (4 * index_of other + 2) ++ any (4 * index_of other + 3)) (class_of text fixity first)
        (holds (4 * index_of other + 1) e))
    by_fixity fixities.Postfix e =
        in_second (any (4 * index_of other))
        (any (4 * index_of other + 1) ++
        (any (4 * index_of other + 2) ++ any (4 * index_of other + 3))) (class_of text fixity first)
        (in_second (any (4 * index_of other + 1))
        (any (4 * index_of other + 2) ++ any (4 * index_of other + 3)) (class_of text fixity first)
        (in_first (any (4 * index_of other + 2)) (any (4 * index_of other + 3))
        (class_of text fixity first) (holds (4 * index_of other + 2) e)))
    by_fixity fixities.None e =
        in_second (any (4 * index_of other))
        (any (4 * index_of other + 1) ++
        (any (4 * index_of other + 2) ++ any (4 * index_of other + 3))) (class_of text fixity first)
        (in_second (any (4 * index_of other + 1))
        (any (4 * index_of other + 2) ++ any (4 * index_of other + 3)) (class_of text fixity first)
        (in_second (any (4 * index_of other + 2)) (any (4 * index_of other + 3))
        (class_of text fixity first) (holds (4 * index_of other + 3) e)))

    by_operator : (b : Bool) → nat_lt (index_of other) (length operators) ≡ b
        → is_in (cond b (any (4 * index_of other) ++
        (any (4 * index_of other + 1) ++
        (any (4 * index_of other + 2) ++ any (4 * index_of other + 3)))) (any (4 * index_of other)))
        (class_of text fixity first) ≡ true
    by_operator true is =
        let this : cond (nat_lt (text_number text) (length operators)) (fixity_number fixity) 0
        ≡ fixity_number fixity
        = ap (λ n. cond (nat_lt n (length operators)) (fixity_number fixity) 0) same
        ∙ ap (λ b. cond b (fixity_number fixity) 0) is in
        by_fixity fixity (omega arith)
    by_operator false is =
        let this : cond (nat_lt (text_number text) (length operators)) (fixity_number fixity) 0 ≡ 0
        = ap (λ n. cond (nat_lt n (length operators)) (fixity_number fixity) 0) same
        ∙ ap (λ b. cond b (fixity_number fixity) 0) is in
        holds (4 * index_of other) (omega arith)

-- Texts and their numbers

at_index : (text : List ℕ) → is_quoted text ≡ true → get_or quoted_texts (index_of text) [] ≡ text
at_index text h = (bytes_eq-Decides _ text).0
    (passes_at_first (λ quoted. bytes_eq quoted text) quoted_texts []
    (ltb-true (index_of text) (length quoted_texts) h))

pub number_quoted : (text : List ℕ) → is_quoted text ≡ true → text_number text ≡ index_of text
number_quoted text h = ap (λ b. cond b (index_of text) (index_of text + sort_of (kind_of text))) h

pub number_other : (text : List ℕ) → is_quoted text ≡ false
    → text_number text ≡ index_of text + sort_of (kind_of text)
number_other text h = ap (λ b. cond b (index_of text) (index_of text + sort_of (kind_of text))) h

pub number_is_text : (text other : List ℕ) → is_quoted other ≡ true
    → text_number text ≡ index_of other
    → text ≡ other
number_is_text text other h same = by_quoted (is_quoted text) refl
  where
    by_quoted : (b : Bool) → is_quoted text ≡ b → text ≡ other
    by_quoted true is =
        let indices : index_of text ≡ index_of other = sym (number_quoted text is) ∙ same in
        sym (at_index text is) ∙ (ap (λ n. get_or quoted_texts n []) indices ∙ at_index other h)
    by_quoted false is =
        let past = ltb-false (index_of text) (length quoted_texts) is in
        let low = ltb-true (index_of other) (length quoted_texts) h in
        let number = number_other text is in
        absurd (omega arith)

-- The set of a quoted text has the tokens with this text.
pub has-quoted : (text : List ℕ) (token : Spelled) → is_quoted text ≡ true
    → has (quoted text) token ≡ bytes_eq token.text text
unfolding has
has-quoted text token h = same_truth _ _
    (λ k. (bytes_eq-Decides token.text text).1
    (number_is_text token.text text h (quoted_says token.text text token.fixity token.first k)))
    (λ k. let same : token.text ≡ text = (bytes_eq-Decides token.text text).0 k in
    quoted_holds token.text text token.fixity token.first
    (ap text_number same ∙ number_quoted text h))

-- A token of `not_first` is one of the set that isn't the first on its line.

filter_says : (test : ℕ → Bool) (set : Set) (class : ℕ) → is_in (filter test set) class ≡ true
    → (is_in set class && test class) ≡ true
filter_says test [] class h = absurd (cc)
filter_says test (x ∷ set) class h = by_kept (test x) refl h (filter_says test set class)
  where
    more : (is_in set class && test class) ≡ true → (is_in (x ∷ set) class && test class) ≡ true
    more k = and_both (is_in (x ∷ set) class) (test class)
        (or_right (x == class) (is_in set class) (and_left (is_in set class) (test class) k))
        (and_right (is_in set class) (test class) k)

    by_kept : (b : Bool) → test x ≡ b → is_in (cond b (x ∷ filter test set) (filter test set)) class
        ≡ true
        → (is_in (filter test set) class ≡ true → (is_in set class && test class) ≡ true)
        → (is_in (x ∷ set) class && test class) ≡ true
    by_kept false is k others = more (others k)
    by_kept true is k others = elim (or_cases _ _ k) [
      | inl here ↦ (let same : x ≡ class = eqb-true x class here in
          and_both (is_in (x ∷ set) class) (test class)
          (or_left (x == class) (is_in set class) here) (sym (ap test same) ∙ is))
      | inr there ↦ more (others there)
    ]

even_or_odd : (class : ℕ) (first : Bool) → ((2 * class + cond first 1 0) % 2 == 0) ≡ not first
even_or_odd class true = elim (eqb_tells ((2 * class + 1) % 2) 0) [
  | inl is ↦ absurd (let odd = is.1 in omega arith)
  | inr is ↦ is.0
]
even_or_odd class false = eq-eqb ((2 * class + 0) % 2) 0 (omega arith)

in_filter : (keep : ℕ → Bool) (set : Set) (class : ℕ)
    → is_in (filter keep set) class ≡ (is_in set class && keep class)
in_filter keep set class = same_truth _ _ (filter_says keep set class)
    (λ k. is_in-filter keep set class (and_right (is_in set class) (keep class) k)
    (and_left (is_in set class) (keep class) k))

pub has-not_first_is : (set : Set) (token : Spelled)
    → has (not_first set) token ≡ (has set token && not token.first)
unfolding has
has-not_first_is set token =
    in_filter (λ c. c % 2 == 0) set (class_of token.text token.fixity token.first)
    ∙ ap (λ b. is_in set (class_of token.text token.fixity token.first) && b)
    (even_or_odd (kind_class token.text token.fixity) token.first)

-- A token of `first_only` is one of the set that is the first on its line.

odd_or_even : (class : ℕ) (first : Bool) → ((2 * class + cond first 1 0) % 2 == 1) ≡ first
odd_or_even class true = eq-eqb ((2 * class + 1) % 2) 1 (omega arith)
odd_or_even class false = elim (eqb_tells ((2 * class + 0) % 2) 1) [
  | inl is ↦ absurd (let even = is.1 in omega arith)
  | inr is ↦ is.0
]

pub has-first_only_is : (set : Set) (token : Spelled)
    → has (first_only set) token ≡ (has set token && token.first)
unfolding has
has-first_only_is set token =
    in_filter (λ c. c % 2 == 1) set (class_of token.text token.fixity token.first)
    ∙ ap (λ b. is_in set (class_of token.text token.fixity token.first) && b)
    (odd_or_even (kind_class token.text token.fixity) token.first)

-- Words and integer literals

list_all_at : {X : Type 0} (test : X → Bool) (xs : List X) (i : ℕ) (d : X) → list_all test xs ≡ true
    → i < length xs → test (get_or xs i d) ≡ true
list_all_at test [] i d h less = absurd (omega arith)
list_all_at test (x ∷ xs) zero d h less = and_left _ _ h
list_all_at test (x ∷ xs) (suc i) d h less = list_all_at test xs i d (and_right _ _ h) (omega arith)

-- What holds of each quoted text holds of one.
pub of_quoted : (test : List ℕ → Bool) → list_all test quoted_texts ≡ true → (text : List ℕ)
    → is_quoted text ≡ true → test text ≡ true
of_quoted test h text is =
    ap test (sym (at_index text is)) ∙ list_all_at test quoted_texts (index_of text) [] h
    (ltb-true (index_of text) (length quoted_texts) is)

prefix_within : {X : Type 0} (test : X → Bool) (xs : List X) → position_or_len test xs ≤ length xs
prefix_within test [] = omega arith
prefix_within test (x ∷ xs) = by_test (test x) (prefix_within test xs)
  where
    by_test : (b : Bool) → position_or_len test xs ≤ length xs
        → cond (not b) (1 + position_or_len test xs) 0 ≤ length (x ∷ xs)
    by_test true h = omega arith
    by_test false h = omega arith

pub index_other : (text : List ℕ) → is_quoted text ≡ false → index_of text ≡ length quoted_texts
index_other text h =
    let most = prefix_within (λ quoted. bytes_eq quoted text) quoted_texts in
    let least = ltb-false (index_of text) (length quoted_texts) h in omega arith

-- the class of a token whose text isn't quoted
pub class_other : (text : List ℕ) (fixity : Fixity) → is_quoted text ≡ false
    → kind_class text fixity ≡ 4 * (length quoted_texts + sort_of (kind_of text))
class_other text fixity h =
    let number : text_number text ≡ length quoted_texts + sort_of (kind_of text) =
    number_other text h
    ∙ ap (λ n. n + sort_of (kind_of text)) (index_other text h) in
    let high : nat_lt (text_number text) (length operators) ≡ false =
    le-ltb (text_number text) (length operators) (omega arith) in
    let none : cond (nat_lt (text_number text) (length operators)) (fixity_number fixity) 0 ≡ 0 =
    ap (λ b. cond b (fixity_number fixity) 0) high in
    omega arith

pub class_quoted : (text : List ℕ) (fixity : Fixity) → is_quoted text ≡ true
    → kind_class text fixity < 4 * length quoted_texts
class_quoted text fixity h =
    let less = ltb-true (index_of text) (length quoted_texts) h in
    let number = number_quoted text h in
    let small = if_small (nat_lt (text_number text) (length operators)) (fixity_number fixity)
    (fixity_small fixity) in
    omega arith

sort_one : (kind : Kind) → sort_of kind ≡ 1 → is_integer kind ≡ true
sort_one kinds.Word h = absurd (cc)
sort_one kinds.Underscore h = absurd (cc)
sort_one (kinds.Key _) h = absurd (cc)
sort_one kinds.At h = absurd (cc)
sort_one (kinds.Int _) h = refl
sort_one (kinds.Op _) h = absurd (cc)
sort_one (kinds.Mark _) h = absurd (cc)

one_sort : (kind : Kind) → is_integer kind ≡ true → sort_of kind ≡ 1
one_sort kinds.Word h = absurd (cc)
one_sort kinds.Underscore h = absurd (cc)
one_sort (kinds.Key _) h = absurd (cc)
one_sort kinds.At h = absurd (cc)
one_sort (kinds.Int _) h = refl
one_sort (kinds.Op _) h = absurd (cc)
one_sort (kinds.Mark _) h = absurd (cc)

sort_zero : (kind : Kind) → sort_of kind ≡ 0 → is_name kind ≡ true
sort_zero kinds.Word h = refl
sort_zero kinds.Underscore h = absurd (cc)
sort_zero (kinds.Key _) h = absurd (cc)
sort_zero kinds.At h = absurd (cc)
sort_zero (kinds.Int _) h = absurd (cc)
sort_zero (kinds.Op _) h = absurd (cc)
sort_zero (kinds.Mark _) h = absurd (cc)

zero_sort : (kind : Kind) → is_name kind ≡ true → sort_of kind ≡ 0
zero_sort kinds.Word h = refl
zero_sort kinds.Underscore h = absurd (cc)
zero_sort (kinds.Key _) h = absurd (cc)
zero_sort kinds.At h = absurd (cc)
zero_sort (kinds.Int _) h = absurd (cc)
zero_sort (kinds.Op _) h = absurd (cc)
zero_sort (kinds.Mark _) h = absurd (cc)

no_integers : list_all (λ text. not (is_integer (kind_of text))) quoted_texts ≡ true
unfolding kind_of literal_of unsigned_of number_in is_digit is_operator_byte is_mark
    word_kind ruled_words reserved_words mark_number
no_integers = refl

-- The set of integer literals has the tokens of this kind.
pub has-integer : (token : Spelled) → has integer token ≡ is_integer (kind_of token.text)
unfolding has
has-integer token = same_truth _ _
    (λ k. let same = any_says (4 * (length quoted_texts + 1)) (kind_class token.text token.fixity)
    token.first k in by_quoted same (is_quoted token.text) refl)
    (λ k. holds k (is_quoted token.text) refl)
  where
    by_quoted : 4 * (length quoted_texts + 1) ≡ kind_class token.text token.fixity → (b : Bool)
        → is_quoted token.text ≡ b → is_integer (kind_of token.text) ≡ true
    by_quoted same true is = absurd (let less = class_quoted token.text token.fixity is in
        omega arith)
    by_quoted same false is = sort_one (kind_of token.text)
        (let class = class_other token.text token.fixity is in omega arith)

    holds : is_integer (kind_of token.text) ≡ true → (b : Bool) → is_quoted token.text ≡ b
        → is_in integer (class_of token.text token.fixity token.first) ≡ true
    holds k true is = absurd (let none : is_integer (kind_of token.text) ≡ false = not_true _
        (of_quoted (λ text. not (is_integer (kind_of text))) no_integers token.text is) in
        let clash : true ≡ false = sym k ∙ none in cc)
    holds k false is =
        let sort = one_sort (kind_of token.text) k in
        let class = class_other token.text token.fixity is in
        any_holds (4 * (length quoted_texts + 1)) (kind_class token.text token.fixity) token.first
        (omega arith)

open_are_quoted : list_all (λ text. is_quoted text && is_name (kind_of text)) open_words ≡ true
unfolding kind_of literal_of unsigned_of number_in is_digit is_operator_byte is_mark
    word_kind ruled_words reserved_words mark_number
open_are_quoted = refl

names_are_open : list_all (λ text. not (is_name (kind_of text))
    || list_any (λ member. bytes_eq member text) open_words) quoted_texts ≡ true
unfolding kind_of literal_of unsigned_of number_in is_digit is_operator_byte is_mark
    word_kind ruled_words reserved_words mark_number
names_are_open = refl

pub one_of_says : (texts : List (List ℕ)) (text : List ℕ) (fixity : Fixity) (first : Bool)
    → list_all (λ other. is_quoted other && is_name (kind_of other)) texts ≡ true
    → is_in (one_of texts) (class_of text fixity first) ≡ true → is_name (kind_of text) ≡ true
one_of_says [] text fixity first h k = absurd (cc)
one_of_says (x ∷ texts) text fixity first h k =
    elim (or_cases _ _ (sym (is_in-append (quoted x) (one_of texts) (class_of text fixity first))
    ∙ k)) [
      | inl here ↦ (let both = and_left _ _ h in
          let same =
          number_is_text text x (and_left _ _ both) (quoted_says text x fixity first here) in
          ap (λ t. is_name (kind_of t)) same ∙ and_right _ _ both)
      | inr there ↦ one_of_says texts text fixity first (and_right _ _ h) there
    ]

pub one_of_holds : (texts : List (List ℕ)) (text : List ℕ) (fixity : Fixity) (first : Bool)
    → is_quoted text ≡ true
    → list_any (λ member. bytes_eq member text) texts ≡ true
    → is_in (one_of texts) (class_of text fixity first) ≡ true
one_of_holds [] text fixity first h k = absurd (cc)
one_of_holds (x ∷ texts) text fixity first h k = elim (or_cases _ _ k) [
  | inl here ↦ (let same = (bytes_eq-Decides x text).0 here in
      in_first (quoted x) (one_of texts) (class_of text fixity first)
      (quoted_holds text x fixity first (number_quoted text h ∙ ap index_of (sym same))))
  | inr there ↦ in_second (quoted x) (one_of texts) (class_of text fixity first)
      (one_of_holds texts text fixity first h there)
]

-- The set of names has the tokens of this kind.
pub has-word : (token : Spelled) → has word token ≡ is_name (kind_of token.text)
unfolding has
has-word token = same_truth _ _
    (λ k. elim (or_cases _ _ (sym
    (is_in-append (any (4 * length quoted_texts)) (one_of open_words)
    (class_of token.text token.fixity token.first)) ∙ k)) [
      | inl here ↦ by_quoted (any_says (4 * length quoted_texts)
          (kind_class token.text token.fixity) token.first here) (is_quoted token.text) refl
      | inr there ↦ one_of_says open_words token.text token.fixity token.first open_are_quoted there
    ])
    (λ k. holds k (is_quoted token.text) refl)
  where
    by_quoted : 4 * length quoted_texts ≡ kind_class token.text token.fixity → (b : Bool)
        → is_quoted token.text ≡ b → is_name (kind_of token.text) ≡ true
    by_quoted same true is = absurd (let less = class_quoted token.text token.fixity is in
        omega arith)
    by_quoted same false is = sort_zero (kind_of token.text)
        (let class = class_other token.text token.fixity is in omega arith)

    holds : is_name (kind_of token.text) ≡ true → (b : Bool) → is_quoted token.text ≡ b
        → is_in word (class_of token.text token.fixity token.first) ≡ true
    holds k true is = in_second (any (4 * length quoted_texts)) (one_of open_words)
        (class_of token.text token.fixity token.first)
        (one_of_holds open_words token.text token.fixity token.first is
        (implied _ _ (of_quoted (λ text. not (is_name (kind_of text))
        || list_any (λ member. bytes_eq member text) open_words) names_are_open token.text is) k))
    holds k false is =
        let sort = zero_sort (kind_of token.text) k in
        let class = class_other token.text token.fixity is in
        in_first (any (4 * length quoted_texts)) (one_of open_words)
        (class_of token.text token.fixity token.first)
        (any_holds (4 * length quoted_texts) (kind_class token.text token.fixity) token.first
        (omega arith))
