-- The sets of tokens of one kind and of operators that stand in one way, and what is left of a set
-- without another.
use Rattle.std.proofs.Common.{◌≡◌, ℕ, ◌+◌, ◌*◌, Bool, true, false, cond, not, ◌&&◌, ◌||◌}
use Rattle.std.proofs.Common.{inl, inr, List, [], ◌∷◌, ◌++◌, length, nat_lt, ◌==◌, refl, sym, ◌∙◌}
use Rattle.std.proofs.Common.{ap, arith, bytes_eq, map}
use Rattle.std.specs.Prelude.{Option, Some, None, codes, position, unwrap_or}
use Rattle.std.specs.List.{list_any, list_all}
use Rattle.std.proofs.lemmas.Bool.{eqb-true, eq-eqb, ltb-true, lt-ltb}
use Rattle.std.proofs.lemmas.Slice.Eq.{bytes_eq-Decides}
use Rattle.sw_token.specs.declared.Fixity.{Fixity}
use Rattle.sw_token.specs.declared.Kind.{Kind}
use Rattle.sw_token.specs.declared.Kind.TheVariants as kinds
use Rattle.sw_scan.specs.Classes.{is_digit}
use Rattle.sw_token.specs.Bytes.{is_operator_byte, is_mark}
use Rattle.sw_token.specs.Literals.{unsigned_of, literal_of, number_in}
use Rattle.sw_token.specs.declared.literals.Literal.{Literal}
use Rattle.sw_token.specs.Kinds.{kind_of, literal_kind, named_kind, key_words, word_kind}
use Rattle.sw_token.specs.Kinds.{ruled_words, reserved_words, mark_number}
use Rattle.sw_token.specs.Operators.{operators, operator_number}
use Rattle.sw_token.specs.Spelling.{Spelled}
use Rattle.sw_grammar_forms.specs.Sets.{Set, quoted_texts, index_of, is_quoted, is_quoted_operator}
use Rattle.sw_grammar_forms.specs.Sets.{text_number, sort_of, is_at, fixity_number, kind_class, class_of}
use Rattle.sw_grammar_forms.specs.Sets.{is_in, has, starts, any, standing, quoted, one_of, attribute}
use Rattle.sw_grammar_forms.specs.Sets.{within, apart, standing_of}
use Rattle.sw_grammar_forms.specs.Outcome.{has_text, has_text_of, stands}
use Rattle.sw_grammar_forms.proofs.SetLemmas.{and_left, and_right, and_both, implied}
use Rattle.sw_grammar_forms.proofs.SetLemmas.{is_in-append, has-append, has-within, has-apart}
use Rattle.sw_grammar_forms.proofs.SetLemmas.{starts-append}
use Rattle.sw_grammar_forms.proofs.SetLaws.{same_truth, any_holds, any_says, fixity_small, number_is_text}
use Rattle.sw_grammar_forms.proofs.SetLaws.{number_quoted, class_other, class_quoted, of_quoted, or_cases}
use Rattle.sw_grammar_forms.proofs.SetLaws.{if_small, quoted_says, has-quoted}
use Rattle.sw_grammar_forms.proofs.SetLaws.{in_first, in_second, one_of_holds}

-- A token that isn't quoted, of a kind that has the number `sort`, and tokens with some texts: the
-- set has the tokens whose text passes a test, where the test holds of those texts alone among the
-- quoted ones, and of the others by their kind.
module _ (sort : ℕ) (texts : List (List ℕ)) (wanted : List ℕ → Bool)
    (each : list_all (λ text. is_quoted text && wanted text) texts ≡ true)
    (only : list_all (λ text. not (wanted text)
    || list_any (λ member. bytes_eq member text) texts) quoted_texts ≡ true)
    (sorted : (text : List ℕ) → is_quoted text ≡ false → sort_of (kind_of text) ≡ sort
    → wanted text ≡ true)
    (of_sort : (text : List ℕ) → is_quoted text ≡ false → wanted text ≡ true
    → sort_of (kind_of text) ≡ sort) where
  among : (texts : List (List ℕ)) (text : List ℕ) (fixity : Fixity) (first : Bool)
      → list_all (λ other. is_quoted other && wanted other) texts ≡ true
      → is_in (one_of texts) (class_of text fixity first) ≡ true → wanted text ≡ true
  among [] text fixity first h k = absurd (cc)
  among (x ∷ texts) text fixity first h k =
      elim (or_cases _ _ (sym (is_in-append (quoted x) (one_of texts) (class_of text fixity first))
      ∙ k)) [
        | inl here ↦ (let both = and_left _ _ h in
            let same = number_is_text text x (and_left _ _ both)
            (quoted_says text x fixity first here) in
            ap wanted same ∙ and_right _ _ both)
        | inr there ↦ among texts text fixity first (and_right _ _ h) there
      ]

  pub has-sort : (token : Spelled)
      → has (any (4 * (length quoted_texts + sort)) ++ one_of texts) token ≡ wanted token.text
  unfolding has
  has-sort token = same_truth _ _
      (λ k. elim (or_cases _ _ (sym (is_in-append (any (4 * (length quoted_texts + sort)))
      (one_of texts) (class_of token.text token.fixity token.first)) ∙ k)) [
        | inl here ↦ by_quoted (any_says (4 * (length quoted_texts + sort))
            (kind_class token.text token.fixity) token.first here) (is_quoted token.text) refl
        | inr there ↦ among texts token.text token.fixity token.first each there
      ])
      (λ k. holds k (is_quoted token.text) refl)
    where
      by_quoted : 4 * (length quoted_texts + sort) ≡ kind_class token.text token.fixity
          → (b : Bool) → is_quoted token.text ≡ b → wanted token.text ≡ true
      by_quoted same true is = absurd (let less = class_quoted token.text token.fixity is in
          omega arith)
      by_quoted same false is = sorted token.text is
          (let class = class_other token.text token.fixity is in omega arith)

      holds : wanted token.text ≡ true → (b : Bool) → is_quoted token.text ≡ b
          → is_in (any (4 * (length quoted_texts + sort)) ++ one_of texts)
          (class_of token.text token.fixity token.first) ≡ true
      holds k true is = in_second (any (4 * (length quoted_texts + sort))) (one_of texts)
          (class_of token.text token.fixity token.first)
          (one_of_holds texts token.text token.fixity token.first is
          (implied _ _ (of_quoted (λ text. not (wanted text)
          || list_any (λ member. bytes_eq member text) texts) only token.text is) k))
      holds k false is =
          let same = of_sort token.text is k in
          let class = class_other token.text token.fixity is in
          in_first (any (4 * (length quoted_texts + sort))) (one_of texts)
          (class_of token.text token.fixity token.first)
          (any_holds (4 * (length quoted_texts + sort)) (kind_class token.text token.fixity)
          token.first (omega arith))

sort_two : (kind : Kind) → sort_of kind ≡ 2 → is_at kind ≡ true
sort_two kinds.Word h = absurd (cc)
sort_two kinds.Underscore h = absurd (cc)
sort_two (kinds.Key _) h = absurd (cc)
sort_two kinds.At h = refl
sort_two (kinds.Int _) h = absurd (cc)
sort_two (kinds.Op _) h = absurd (cc)
sort_two (kinds.Mark _) h = absurd (cc)

two_sort : (kind : Kind) → is_at kind ≡ true → sort_of kind ≡ 2
two_sort kinds.Word h = absurd (cc)
two_sort kinds.Underscore h = absurd (cc)
two_sort (kinds.Key _) h = absurd (cc)
two_sort kinds.At h = refl
two_sort (kinds.Int _) h = absurd (cc)
two_sort (kinds.Op _) h = absurd (cc)
two_sort (kinds.Mark _) h = absurd (cc)

abbrev quoted_attributes : List (List ℕ)
quoted_attributes =
    codes "@main" ∷ codes "@globalActor" ∷ codes "@Sendable" ∷ codes "@escaping"
    ∷ codes "@concurrent" ∷ []

attributes_are_quoted : list_all (λ text. is_quoted text && is_at (kind_of text))
    quoted_attributes ≡ true
unfolding kind_of literal_of unsigned_of number_in is_digit is_operator_byte is_mark
    word_kind ruled_words reserved_words mark_number
attributes_are_quoted = refl

quoted_are_attributes : list_all (λ text. not (is_at (kind_of text))
    || list_any (λ member. bytes_eq member text) quoted_attributes) quoted_texts ≡ true
unfolding kind_of literal_of unsigned_of number_in is_digit is_operator_byte is_mark
    word_kind ruled_words reserved_words mark_number
quoted_are_attributes = refl

-- The set of attributes has the tokens of this kind.
pub has-attribute : (token : Spelled) → has attribute token ≡ is_at (kind_of token.text)
has-attribute token = has-sort 2 quoted_attributes (λ text. is_at (kind_of text))
    attributes_are_quoted quoted_are_attributes (λ text is h. sort_two (kind_of text) h)
    (λ text is h. two_sort (kind_of text) h) token

-- An operator where it stands in one way.

operator_is_quoted : (text : List ℕ) → is_quoted_operator text ≡ true → is_quoted text ≡ true
operator_is_quoted text h =
    let less = ltb-true (index_of text) (length operators) h in
    lt-ltb (index_of text) (length quoted_texts) (omega arith)

fixity_in : (text : List ℕ) (fixity : Fixity) → is_quoted_operator text ≡ true
    → kind_class text fixity ≡ 4 * index_of text + fixity_number fixity
fixity_in text fixity h =
    let number = number_quoted text (operator_is_quoted text h) in
    let this : cond (nat_lt (text_number text) (length operators)) (fixity_number fixity) 0
    ≡ fixity_number fixity
    = ap (λ n. cond (nat_lt n (length operators)) (fixity_number fixity) 0) number
    ∙ ap (λ b. cond b (fixity_number fixity) 0) h in
    omega arith

pub has-standing : (fixity : Fixity) (text : List ℕ) (token : Spelled)
    → is_quoted_operator text ≡ true
    → has (standing fixity text) token
    ≡ (fixity_number token.fixity == fixity_number fixity && bytes_eq token.text text)
unfolding has
has-standing fixity text token h = same_truth _ _ says holds
  where
    class : ℕ
    class = 4 * index_of text + fixity_number fixity

    says : is_in (standing fixity text) (class_of token.text token.fixity token.first) ≡ true
        → (fixity_number token.fixity == fixity_number fixity && bytes_eq token.text text) ≡ true
    says k =
        let same = any_says (4 * index_of text + fixity_number fixity)
        (kind_class token.text token.fixity) token.first k in
        let small = if_small (nat_lt (text_number token.text) (length operators))
        (fixity_number token.fixity) (fixity_small token.fixity) in
        let low = fixity_small fixity in
        let number : text_number token.text ≡ index_of text = omega arith in
        let is_text : token.text ≡ text = number_is_text token.text text
        (operator_is_quoted text h) number in
        let here = fixity_in token.text token.fixity (ap is_quoted_operator is_text ∙ h) in
        let index : index_of token.text ≡ index_of text = ap index_of is_text in
        and_both _ _
        (eq-eqb (fixity_number token.fixity) (fixity_number fixity) (omega arith))
        ((bytes_eq-Decides token.text text).1 is_text)

    holds : (fixity_number token.fixity == fixity_number fixity && bytes_eq token.text text) ≡ true
        → is_in (standing fixity text) (class_of token.text token.fixity token.first) ≡ true
    holds k =
        let is_text : token.text ≡ text = (bytes_eq-Decides token.text text).0
        (and_right (fixity_number token.fixity == fixity_number fixity)
        (bytes_eq token.text text) k) in
        let is_fixity : fixity_number token.fixity ≡ fixity_number fixity =
        eqb-true (fixity_number token.fixity) (fixity_number fixity)
        (and_left (fixity_number token.fixity == fixity_number fixity)
        (bytes_eq token.text text) k) in
        let here = fixity_in token.text token.fixity (ap is_quoted_operator is_text ∙ h) in
        let index : index_of token.text ≡ index_of text = ap index_of is_text in
        any_holds (4 * index_of text + fixity_number fixity)
        (kind_class token.text token.fixity) token.first (omega arith)

-- Tokens with one of some texts.

pub texts_of : {X : Type 0} (text_in : X → List ℕ) (xs : List X) (token : Option Spelled)
    → list_any (λ x. has_text (text_in x) token) xs ≡ has_text_of (map text_in xs) token
texts_of text_in [] token = refl
texts_of text_in (x ∷ xs) token =
    ap (λ b. has_text (text_in x) token || b) (texts_of text_in xs token)

pub starts-one_of : (texts : List (List ℕ)) (token : Option Spelled)
    → list_all is_quoted texts ≡ true → has_text_of texts token ≡ starts (one_of texts) token
unfolding has
starts-one_of texts None h = none texts
  where
    none : (texts : List (List ℕ)) → list_any (λ text. has_text text None) texts ≡ false
    none [] = refl
    none (x ∷ texts) = none texts
starts-one_of [] (Some token) h = refl
starts-one_of (x ∷ texts) (Some token) h =
    cong_or (sym (has-quoted x token (and_left _ _ h)))
    (starts-one_of texts (Some token) (and_right _ _ h))
    ∙ sym (starts-append (quoted x) (one_of texts) (Some token))
  where
    cong_or : {a b a' b' : Bool} → a ≡ a' → b ≡ b' → (a || b) ≡ (a' || b')
    cong_or p q = cc

pub has-one_of : (texts : List (List ℕ)) (token : Spelled) → list_all is_quoted texts ≡ true
    → has (one_of texts) token ≡ list_any (λ text. bytes_eq token.text text) texts
has-one_of texts token h = sym (starts-one_of texts (Some token) h)

pub starts-standing_of : (fixity : Fixity) (texts : List (List ℕ)) (token : Option Spelled)
    → list_all is_quoted_operator texts ≡ true
    → (stands fixity token && has_text_of texts token) ≡ starts (standing_of fixity texts) token
unfolding has
starts-standing_of fixity texts None h = refl
starts-standing_of fixity [] (Some token) h = never _
  where
    never : (a : Bool) → (a && false) ≡ false
    never true = refl
    never false = refl
starts-standing_of fixity (x ∷ texts) (Some token) h =
    parts (stands fixity (Some token)) (bytes_eq token.text x) (has_text_of texts (Some token))
    ∙ (cong_or (sym (has-standing fixity x token (and_left _ _ h)))
    (starts-standing_of fixity texts (Some token) (and_right _ _ h))
    ∙ sym (starts-append (standing fixity x) (standing_of fixity texts) (Some token)))
  where
    cong_or : {a b a' b' : Bool} → a ≡ a' → b ≡ b' → (a || b) ≡ (a' || b')
    cong_or p q = cc

    parts : (a b c : Bool) → (a && (b || c)) ≡ ((a && b) || (a && c))
    parts true b c = refl
    parts false b c = refl

-- The text of an attribute begins with `@`.

word_is_none : (text : List ℕ) → is_at (word_kind text) ≡ false
unfolding word_kind
word_is_none text = by_underscore (bytes_eq text (codes "_"))
  where
    by_name : (number : Option ℕ) → is_at (named_kind number) ≡ false
    by_name None = refl
    by_name (Some number) = refl

    by_underscore : (b : Bool) → is_at (cond b kinds.Underscore
        (named_kind (position (λ word. bytes_eq word text) key_words))) ≡ false
    by_underscore true = refl
    by_underscore false = by_name (position (λ word. bytes_eq word text) key_words)

pub attribute_text : (text : List ℕ) → is_at (kind_of text) ≡ true
    → (more : List ℕ) × (text ≡ 64 ∷ more)
unfolding kind_of
attribute_text text h = by_literal (literal_of true text) text h
  where
    by_at : (byte : ℕ) (more : List ℕ) (b : Bool) → byte == 64 ≡ b
        → is_at (cond b kinds.At (word_kind (byte ∷ more))) ≡ true
        → (rest : List ℕ) × (byte ∷ more ≡ 64 ∷ rest)
    by_at byte more true is k = (more, ap (λ n. n ∷ more) (eqb-true byte 64 is))
    by_at byte more false is k = absurd (let clash : true ≡ false =
        sym k ∙ word_is_none (byte ∷ more) in cc)

    by_mark : (byte : ℕ) (more : List ℕ) (b : Bool)
        → is_at (cond b (kinds.Mark (mark_number (byte ∷ more)))
        (cond (byte == 64) kinds.At (word_kind (byte ∷ more)))) ≡ true
        → (rest : List ℕ) × (byte ∷ more ≡ 64 ∷ rest)
    by_mark byte more true k = absurd (cc)
    by_mark byte more false k = by_at byte more (byte == 64) refl k

    by_operator : (byte : ℕ) (more : List ℕ) (b : Bool)
        → is_at (cond b (kinds.Op (unwrap_or (operator_number (byte ∷ more)) 0))
        (cond (is_mark byte) (kinds.Mark (mark_number (byte ∷ more)))
        (cond (byte == 64) kinds.At (word_kind (byte ∷ more))))) ≡ true
        → (rest : List ℕ) × (byte ∷ more ≡ 64 ∷ rest)
    by_operator byte more true k = absurd (cc)
    by_operator byte more false k = by_mark byte more (is_mark byte) k

    by_literal : (l : Option Literal) (text : List ℕ) → is_at (literal_kind l text) ≡ true
        → (more : List ℕ) × (text ≡ 64 ∷ more)
    by_literal (Some literal) text k = absurd (cc)
    by_literal None [] k = absurd (cc)
    by_literal None (byte ∷ more) k = by_operator byte more (is_operator_byte byte) k

-- A set within another.
pub starts-within : (set other : Set) (token : Option Spelled) → within set other ≡ true
    → starts set token ≡ true → starts other token ≡ true
starts-within set other None h k = absurd (cc)
starts-within set other (Some token) h k = has-within set other token h k

-- Two sets with the same tokens.
pub starts-same : (set other : Set) (token : Option Spelled) → within set other ≡ true
    → within other set ≡ true → starts set token ≡ starts other token
starts-same set other None h k = refl
starts-same set other (Some token) h k =
    same_truth _ _ (has-within set other token h) (has-within other set token k)

-- A set without the tokens of another.
pub starts-without : (part whole other : Set) (token : Option Spelled) → within part whole ≡ true
    → within whole (part ++ other) ≡ true → apart other part ≡ true
    → starts part token ≡ (starts whole token && not (starts other token))
starts-without part whole other None h k l = refl
starts-without part whole other (Some token) h k l = by_both (has whole token) refl
    (has other token) refl
  where
    by_both : (a : Bool) → has whole token ≡ a → (b : Bool) → has other token ≡ b
        → has part token ≡ (a && not b)
    by_both a is true is' = has-apart other part token l is' ∙ never a
      where
        never : (a : Bool) → false ≡ (a && false)
        never true = refl
        never false = refl
    by_both true is false is' = elim (or_cases (has part token) (has other token)
        (sym (has-append part other token) ∙ has-within whole (part ++ other) token k is)) [
          | inl this ↦ this
          | inr that ↦ absurd (let clash : true ≡ false = sym that ∙ is' in cc)
        ]
    by_both false is false is' = none (has part token) refl
      where
        none : (b : Bool) → has part token ≡ b → has part token ≡ false
        none true have = absurd (let clash : true ≡ false =
            sym (has-within part whole token h have) ∙ is in cc)
        none false have = have
