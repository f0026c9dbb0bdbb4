-- The ids of the texts with `??` at their end. A text without `?`, and one with a single `?` after
-- that, has another.
use Rattle.std.proofs.Common.{◌≡◌, ℕ, ◌<◌, Bool, true, false, not, ◌||◌, ◌&&◌, ◌==◌, IsTrue, List, []}
use Rattle.std.proofs.Common.{◌∷◌, ◌++◌, bytes_eq, codes, get_or, length, nat_lt, refl, sym, ap, subst}
use Rattle.std.proofs.Common.{◌∙◌, if◌then◌else◌, Some, arith}
use Rattle.std.proofs.lemmas.Bool.{and_parts, ltb-true}
use Rattle.std.proofs.lemmas.Bool.Decides.{nat_tests}
use Rattle.std.proofs.lemmas.List.Sums.{passes_at_first}
use Rattle.std.proofs.lemmas.Slice.Eq.{bytes_eq-Decides}
use Rattle.std.proofs.lemmas.List.Elements.{recursion_from_All}
use Rattle.std.specs.List.{AllByRecursion, list_all}
use Rattle.sw_token.specs.Kinds.{kind_of}
use Rattle.sw_token.specs.Spelling.{Spelled}
use Rattle.sw_token.specs.declared.Kind.{Kind}
use Rattle.sw_token.specs.declared.Kind.TheVariants as kinds
use Rattle.sw_grammar_forms.proofs.CursorSteps.{seen_text}
use Rattle.sw_grammar_forms.proofs.SetLaws.{has-word}
use Rattle.sw_grammar_forms.specs.Sets.{has, is_name, quoted, word}
use Rattle.sw_tree.specs.Names.{id_in}
use Rattle.sw_sugar.specs.Calls.{declared_texts, whole_text}
use Rattle.sw_grammar.specs.Around.{index_in}
use Rattle.sw_grammar.specs.Tokens.{optional_text}
use Rattle.sw_grammar_facts.specs.Interned.{AreInterned, given_texts, is_binding, made_texts}
use Rattle.sw_grammar_facts.specs.Interned.{next_texts, texts_by, texts_in}
use Rattle.sw_grammar_facts.proofs.CaseWords.{index_is}
use Rattle.sw_grammar_facts.proofs.Unmarked.{is_unmarked}

abbrev ends_twice : List ℕ → Bool
ends_twice [] = false
ends_twice (byte ∷ text) = bytes_eq (byte ∷ text) (codes "??") || ends_twice text

-- what begins with another byte isn't `??`
begins_other : (byte : ℕ) (text : List ℕ) → not (byte == 63) ≡ true
    → bytes_eq (byte ∷ text) (codes "??") ≡ false
begins_other byte text other = by (bytes_eq (byte ∷ text) (codes "??")) refl where
  first : List ℕ → ℕ
  first [] = 0
  first (one ∷ _) = one

  by : (b : Bool) → bytes_eq (byte ∷ text) (codes "??") ≡ b → b ≡ false
  by true is =
      let same : byte ≡ 63 = ap first ((bytes_eq-Decides (byte ∷ text) (codes "??")).0 is) in
      absurd (let clash : not (63 == 63) ≡ true = subst (λ n. not (n == 63) ≡ true) same other in cc)
  by false is = refl

unmarked_ends : (text : List ℕ) → is_unmarked text ≡ true → ends_twice text ≡ false
unmarked_ends [] all = refl
unmarked_ends (byte ∷ text) all =
    let parts = and_parts (not (byte == 63)) (is_unmarked text) all in
    rw (begins_other byte text parts.0) (unmarked_ends text parts.1)

optional_ends : (text : List ℕ) → is_unmarked text ≡ true → ends_twice (optional_text text) ≡ false
optional_ends [] all = refl
optional_ends (byte ∷ text) all =
    let parts = and_parts (not (byte == 63)) (is_unmarked text) all in
    rw (begins_other byte (optional_text text) parts.0) (optional_ends text parts.1)

whole_ends : (text : List ℕ) → ends_twice (whole_text text) ≡ true
whole_ends [] = refl
whole_ends (byte ∷ text) =
    by (bytes_eq (byte ∷ whole_text text) (codes "??")) (ends_twice (whole_text text))
    (whole_ends text)
  where
    by : (a b : Bool) → b ≡ true → (a || b) ≡ true
    by true b is = refl
    by false b is = is

module _ (texts : List (List ℕ)) where
  abbrev pub is_whole : ℕ → Bool
  is_whole id = ends_twice (get_or texts id [])

  text_at : (text : List ℕ) → id_in texts text < length texts
      → get_or texts (id_in texts text) [] ≡ text
  unfolding id_in
  text_at text has =
      sym ((bytes_eq-Decides text _).0 (passes_at_first (bytes_eq text) texts [] has))

  pub whole_is : (text : List ℕ) → id_in texts (whole_text text) < length texts
      → is_whole (index_in texts (whole_text text)) ≡ true
  whole_is text has =
      ap is_whole (index_is texts (whole_text text) has)
      ∙ ap ends_twice (text_at (whole_text text) has) ∙ whole_ends text

  module _ (int : id_in texts (codes "Int") ≡ 0) where
    -- the first text, which a name has whose text isn't there
    first_other : is_whole 0 ≡ false
    first_other = by (nat_lt 0 (length texts)) refl where
      by : (b : Bool) → nat_lt 0 (length texts) ≡ b → is_whole 0 ≡ false
      by true is =
          let some : id_in texts (codes "Int") < length texts
          = subst (λ id. id < length texts) (sym int) (ltb-true 0 (length texts) is) in
          ap is_whole (sym int) ∙ ap ends_twice (text_at (codes "Int") some)
      by false is = none texts (grind (arith, nat_tests)) where
        none : (all : List (List ℕ)) → length all ≡ 0 → ends_twice (get_or all 0 []) ≡ false
        none [] empty = refl
        none (text ∷ all) empty = absurd (omega arith)

    other_is : (text : List ℕ) → ends_twice text ≡ false
        → is_whole (index_in texts text) ≡ false
    other_is text other = by (nat_lt (id_in texts text) (length texts)) refl where
      by : (b : Bool) → nat_lt (id_in texts text) (length texts) ≡ b
          → is_whole (if b then id_in texts text else 0) ≡ false
      by true is =
          ap ends_twice (text_at text (ltb-true (id_in texts text) (length texts) is)) ∙ other
      by false is = first_other

    pub unmarked_is : (text : List ℕ) → IsTrue (is_unmarked text)
        → is_whole (index_in texts text) ≡ false
    unmarked_is text unmarked = other_is text (unmarked_ends text unmarked)

    pub optional_is : (text : List ℕ) → IsTrue (is_unmarked text)
        → is_whole (index_in texts (optional_text text)) ≡ false
    optional_is text unmarked = other_is (optional_text text) (optional_ends text unmarked)

  -- Whether all names of tokens are there.
  abbrev has_text : List ℕ → Bool
  has_text text = nat_lt (id_in texts text) (length texts)

  -- where `let` or `var` stands before them, or not
  abbrev knows : Bool → List Spelled → Bool
  knows bound tokens = list_all has_text (given_texts bound tokens)

  unfoldable pub is_known : List Spelled → Bool
  is_known tokens = knows false tokens

  all_left : (xs ys : List (List ℕ)) → list_all has_text (xs ++ ys) ≡ true
      → list_all has_text xs ≡ true
  all_left [] ys all = refl
  all_left (x ∷ xs) ys all =
      let parts = and_parts (has_text x) (list_all has_text (xs ++ ys)) all in
      rw parts.0 (all_left xs ys parts.1)

  all_right : (xs ys : List (List ℕ)) → list_all has_text (xs ++ ys) ≡ true
      → list_all has_text ys ≡ true
  all_right [] ys all = all
  all_right (x ∷ xs) ys all =
      all_right xs ys (and_parts (has_text x) (list_all has_text (xs ++ ys)) all).1

  all_both : (xs ys : List (List ℕ)) → list_all has_text xs ≡ true → list_all has_text ys ≡ true
      → list_all has_text (xs ++ ys) ≡ true
  all_both [] ys first second = second
  all_both (x ∷ xs) ys first second =
      let parts = and_parts (has_text x) (list_all has_text xs) first in
      rw parts.0 (all_both xs ys parts.1 second)

  -- what a token names before fewer tokens
  alone : (bound : Bool) (kind : Kind) (text : List ℕ) (after : List Spelled)
      → list_all has_text (texts_by bound kind text after) ≡ true
      → list_all has_text (texts_by bound kind text []) ≡ true
  alone bound kinds.Word text after all =
      rw (and_parts (has_text text) (list_all has_text (made_texts bound text after)) all).0 refl
  alone bound kinds.At text after all = all
  alone bound kinds.Underscore text after all = refl
  alone bound (kinds.Key _) text after all = refl
  alone bound (kinds.Int _) text after all = refl
  alone bound (kinds.Op _) text after all = refl
  alone bound (kinds.Mark _) text after all = refl

  -- it names by the next token alone
  same_next : (bound : Bool) (kind : Kind) (text : List ℕ) (next : Spelled) (us vs : List Spelled)
      → texts_by bound kind text (next ∷ us) ≡ texts_by bound kind text (next ∷ vs)
  same_next bound kinds.Word text next us vs = refl
  same_next bound kinds.At text next us vs = refl
  same_next bound kinds.Underscore text next us vs = refl
  same_next bound (kinds.Key _) text next us vs = refl
  same_next bound (kinds.Int _) text next us vs = refl
  same_next bound (kinds.Op _) text next us vs = refl
  same_next bound (kinds.Mark _) text next us vs = refl

  left_known : (bound : Bool) (us vs : List Spelled) → knows bound (us ++ vs) ≡ true
      → knows bound us ≡ true
  left_known bound [] vs all = refl
  left_known bound (token ∷ []) vs all =
      all_both (next_texts bound (token ∷ [])) []
      (alone bound (kind_of token.text) token.text vs
      (all_left (next_texts bound (token ∷ vs)) (given_texts (is_binding token.text) vs) all)) refl
  left_known bound (token ∷ next ∷ us) vs all =
      let first = next_texts bound (token ∷ next ∷ (us ++ vs)) in
      let binds = is_binding token.text in
      let more = given_texts binds (next ∷ (us ++ vs)) in
      all_both (next_texts bound (token ∷ next ∷ us)) (given_texts binds (next ∷ us))
      (subst (λ named. list_all has_text named ≡ true)
      (same_next bound (kind_of token.text) token.text next (us ++ vs) us)
      (all_left first more all))
      (left_known binds (next ∷ us) vs (all_right first more all))

  pub known_left : (us vs : List Spelled) → IsTrue (is_known (us ++ vs)) → IsTrue (is_known us)
  unfolding is_known
  known_left = left_known false

  -- a word has fewer where no `let` or `var` is before it
  unbound : (bound : Bool) (kind : Kind) (text : List ℕ) (after : List Spelled)
      → list_all has_text (texts_by bound kind text after) ≡ true
      → list_all has_text (texts_by false kind text after) ≡ true
  unbound false kind text after all = all
  unbound true kinds.Word text [] all = all
  unbound true kinds.Word text (next ∷ after) all =
      let parts = and_parts (has_text text) (list_all has_text (made_texts true text (next ∷ after)))
      all in
      rw parts.0 (by (bytes_eq next.text (codes "?")) (bytes_eq next.text (codes ":")) parts.1)
    where
      by : (a b : Bool)
          → list_all has_text (if a then optional_text text ∷ []
          else (if true && b then declared_texts text else [])) ≡ true
          → list_all has_text (if a then optional_text text ∷ []
          else (if false && b then declared_texts text else [])) ≡ true
      by true b made = made
      by false b made = refl
  unbound true kinds.At text after all = all
  unbound true kinds.Underscore text after all = refl
  unbound true (kinds.Key _) text after all = refl
  unbound true (kinds.Int _) text after all = refl
  unbound true (kinds.Op _) text after all = refl
  unbound true (kinds.Mark _) text after all = refl

  right_known : (bound : Bool) (us vs : List Spelled) → knows bound (us ++ vs) ≡ true
      → knows false vs ≡ true
  right_known bound [] [] all = refl
  right_known bound [] (token ∷ vs) all =
      let first = next_texts bound (token ∷ vs) in
      let more = given_texts (is_binding token.text) vs in
      all_both (next_texts false (token ∷ vs)) more
      (unbound bound (kind_of token.text) token.text vs (all_left first more all))
      (all_right first more all)
  right_known bound (token ∷ us) vs all =
      right_known (is_binding token.text) us vs
      (all_right (next_texts bound (token ∷ us ++ vs))
      (given_texts (is_binding token.text) (us ++ vs)) all)

  pub known_right : (us vs : List Spelled) → IsTrue (is_known (us ++ vs)) → IsTrue (is_known vs)
  unfolding is_known
  known_right = right_known false

  -- a word that `let` or `var` is before, with a `:` after it, has the text of its whole
  pub whole_known : (let_token word_token colon : Spelled) → is_binding let_token.text ≡ true
      → IsTrue (has word word_token) → IsTrue (has (quoted (codes ":")) colon)
      → IsTrue (is_known (let_token ∷ word_token ∷ colon ∷ []))
      → id_in texts (whole_text word_token.text) < length texts
  unfolding is_known
  whole_known let_token word_token colon is_let is_word is_colon all =
      by (kind_of text) (sym (has-word word_token) ∙ is_word)
      (all_left (next_texts true after) (given_texts (is_binding text) (colon ∷ []))
      (subst (λ bound. knows bound after ≡ true) is_let
      (all_right (next_texts false (let_token ∷ after)) (given_texts (is_binding let_token.text) after)
      all)))
    where
      text : List ℕ
      text = word_token.text

      after : List Spelled
      after = word_token ∷ colon ∷ []

      by : (kind : Kind) → is_name kind ≡ true
          → list_all has_text (texts_by true kind text (colon ∷ [])) ≡ true
          → id_in texts (whole_text text) < length texts
      by kinds.Word is named =
          let made = (and_parts (has_text text)
          (list_all has_text (made_texts true text (colon ∷ []))) named).1 in
          let both
          : list_all has_text (made_texts true text (record colon { text = codes ":" } ∷ [])) ≡ true
          = subst (λ (chars : List ℕ). list_all has_text (made_texts true text
          (record colon { text = chars } ∷ [])) ≡ true)
          (seen_text (codes ":") (Some colon) refl is_colon) made in
          let later = (and_parts (has_text (text ++ codes "?")) (has_text (whole_text text) && true)
          both).1 in
          ltb-true (id_in texts (whole_text text)) (length texts)
          (and_parts (has_text (whole_text text)) true later).0
      by kinds.At is named = absurd (cc)
      by kinds.Underscore is named = absurd (cc)
      by (kinds.Key _) is named = absurd (cc)
      by (kinds.Int _) is named = absurd (cc)
      by (kinds.Op _) is named = absurd (cc)
      by (kinds.Mark _) is named = absurd (cc)

  pub known_of : (tokens : List Spelled) → AreInterned texts tokens → IsTrue (is_known tokens)
  unfolding is_known
  known_of tokens interned =
      all_tests (given_texts false tokens)
      (recursion_from_All (λ text. id_in texts text < length texts) (texts_in tokens) interned).1.1
    where
      all_tests : (xs : List (List ℕ)) → AllByRecursion (λ text. id_in texts text < length texts) xs
          → list_all has_text xs ≡ true
      all_tests [] all = refl
      all_tests (x ∷ xs) all =
          let first = all.0 in
          let is : has_text x ≡ true = grind (arith, nat_tests) in
          rw is (all_tests xs all.1)
