-- Sets of tokens: members, sets apart and sets within each other.
use Rattle.std.proofs.Common.{◌≡◌, ℕ, ◌+◌, ◌*◌, ◌%◌, Bool, true, false, cond, not, ◌&&◌, ◌||◌, List}
use Rattle.std.proofs.Common.{[], ◌∷◌, ◌++◌, refl, sym, subst, ◌∙◌, ap, arith, filter, ◌==◌}
use Rattle.std.proofs.Common.{bytes_eq}
use Rattle.std.specs.List.{list_any, list_all}
use Rattle.std.specs.Prelude.{Option, Some, None}
use Rattle.std.proofs.lemmas.Bool.{eqb-true, eq-eqb}
use Rattle.std.proofs.lemmas.List.Folds.{list_any-append}
use Rattle.sw_token.specs.Bytes.{is_operator_byte, is_mark}
use Rattle.std.proofs.lemmas.Slice.Eq.{bytes_eq-Decides}
use Rattle.sw_token.specs.Spelling.{Spelled, IsTokenText}
use Rattle.sw_token.proofs.TokenTexts.{is_ascii_token, IsTokenText-ascii}
use Rattle.sw_grammar_forms.specs.Sets.{Set, starts, sample_texts, is_sample, class_of, kind_class, is_in}
use Rattle.sw_grammar_forms.specs.Sets.{has, apart, within, not_first, first_only}

pub and_left : (a b : Bool) → (a && b) ≡ true → a ≡ true
and_left true b h = refl
and_left false b h = absurd (cc)

pub and_right : (a b : Bool) → (a && b) ≡ true → b ≡ true
and_right true b h = h
and_right false b h = absurd (cc)

pub and_both : (a b : Bool) → a ≡ true → b ≡ true → (a && b) ≡ true
and_both a b h k = rw (h, k) refl

pub or_right : (a b : Bool) → b ≡ true → (a || b) ≡ true
or_right true b h = refl
or_right false b h = h

pub or_left : (a b : Bool) → a ≡ true → (a || b) ≡ true
or_left a b h = rw h refl

pub not_true : (a : Bool) → not a ≡ true → a ≡ false
not_true true h = absurd (cc)
not_true false h = refl

pub implied : (a b : Bool) → (not a || b) ≡ true → a ≡ true → b ≡ true
implied true b h k = h
implied false b h k = absurd (cc)

pub is_in-append : (set other : Set) (class : ℕ)
    → is_in (set ++ other) class ≡ (is_in set class || is_in other class)
is_in-append set other class = list_any-append (λ member. member == class) set other

pub has-append : (set other : Set) (token : Spelled)
    → has (set ++ other) token ≡ (has set token || has other token)
unfolding has
has-append set other token = is_in-append set other (class_of token.text token.fixity token.first)

is_in-apart : (set other : Set) (class : ℕ) → apart set other ≡ true → is_in set class ≡ true
    → is_in other class ≡ false
is_in-apart [] other class h k = absurd (cc)
is_in-apart (x ∷ set) other class h k =
    by_test (x == class) refl k (is_in-apart set other class (and_right _ _ h))
  where
    by_test : (b : Bool) → (x == class) ≡ b → (b || list_any (λ member. member == class) set) ≡ true
        → (list_any (λ member. member == class) set ≡ true
        → list_any (λ member. member == class) other ≡ false)
        → list_any (λ member. member == class) other ≡ false
    by_test true is k others = let same : x ≡ class = eqb-true x class is in
        ap (λ c. list_any (λ member. member == c) other) (sym same) ∙ not_true _ (and_left _ _ h)
    by_test false is k others = others k

pub has-apart : (set other : Set) (token : Spelled) → apart set other ≡ true → has set token ≡ true
    → has other token ≡ false
unfolding has
has-apart set other token h k =
    is_in-apart set other (class_of token.text token.fixity token.first) h k

is_in-within : (set other : Set) (class : ℕ) → within set other ≡ true → is_in set class ≡ true
    → is_in other class ≡ true
is_in-within [] other class h k = absurd (cc)
is_in-within (x ∷ set) other class h k =
    by_test (x == class) refl k (is_in-within set other class (and_right _ _ h))
  where
    by_test : (b : Bool) → (x == class) ≡ b → (b || list_any (λ member. member == class) set) ≡ true
        → (list_any (λ member. member == class) set ≡ true
        → list_any (λ member. member == class) other ≡ true)
        → list_any (λ member. member == class) other ≡ true
    by_test true is k others = let same : x ≡ class = eqb-true x class is in
        ap (λ c. list_any (λ member. member == c) other) (sym same) ∙ and_left _ _ h
    by_test false is k others = others k

pub has-within : (set other : Set) (token : Spelled) → within set other ≡ true
    → has set token ≡ true → has other token ≡ true
unfolding has
has-within set other token h k =
    is_in-within set other (class_of token.text token.fixity token.first) h k

pub is_in-filter : (test : ℕ → Bool) (set : Set) (class : ℕ) → test class ≡ true
    → is_in set class ≡ true → is_in (filter test set) class ≡ true
is_in-filter test [] class passes k = absurd (cc)
is_in-filter test (x ∷ set) class passes k =
    by_test (x == class) refl k (is_in-filter test set class passes)
  where
    by_kept : (b : Bool) → list_any (λ member. member == class) (filter test set) ≡ true
        → list_any (λ member. member == class) (cond b (x ∷ filter test set) (filter test set))
        ≡ true
    by_kept true h = or_right _ _ h
    by_kept false h = h

    by_test : (b : Bool) → (x == class) ≡ b → (b || list_any (λ member. member == class) set) ≡ true
        → (list_any (λ member. member == class) set ≡ true
        → list_any (λ member. member == class) (filter test set) ≡ true)
        → list_any (λ member. member == class) (filter test (x ∷ set)) ≡ true
    by_test true is k others = let same : x ≡ class = eqb-true x class is in
        let kept : test x ≡ true = ap test same ∙ passes in
        ap (λ b. list_any (λ member. member == class)
        (cond b (x ∷ filter test set) (filter test set))) kept
        ∙ ap (λ b. b || list_any (λ member. member == class) (filter test set)) is
    by_test false is k others = by_kept (test x) (others k)

even : (class : ℕ) → ((2 * class + 0) % 2 == 0) ≡ true
even class = eq-eqb ((2 * class + 0) % 2) 0 (omega arith)

-- A token of the set that isn't the first on its line is of `not_first`.
pub has-not_first : (set : Set) (token : Spelled) → token.first ≡ false → has set token ≡ true
    → has (not_first set) token ≡ true
unfolding has
has-not_first set token stays h =
    is_in-filter (λ class. class % 2 == 0) set _
    (ap (λ b. (2 * kind_class token.text token.fixity + cond b 1 0) % 2 == 0) stays
    ∙ even (kind_class token.text token.fixity)) h

-- The texts of examples are those of tokens.

samples_are_tokens : list_all is_ascii_token sample_texts ≡ true
unfolding is_operator_byte is_mark
samples_are_tokens = refl

among : (texts : List (List ℕ)) (text : List ℕ) → list_all is_ascii_token texts ≡ true
    → list_any (λ sample. bytes_eq sample text) texts ≡ true
    → IsTokenText text
among [] text h k = absurd (cc)
among (x ∷ texts) text h k = by_test (bytes_eq x text) refl k (among texts text (and_right _ _ h))
  where
    by_test : (b : Bool) → bytes_eq x text ≡ b
        → (b || list_any (λ sample. bytes_eq sample text) texts) ≡ true
        → (list_any (λ sample. bytes_eq sample text) texts ≡ true → IsTokenText text)
        → IsTokenText text
    by_test true is k others = subst IsTokenText ((bytes_eq-Decides x text).0 is)
        (IsTokenText-ascii x (and_left _ _ h))
    by_test false is k others = others k

pub sample_is_token : (text : List ℕ) → is_sample text ≡ true → IsTokenText text
sample_is_token text h = among sample_texts text samples_are_tokens h

odd : (class : ℕ) → ((2 * class + 1) % 2 == 1) ≡ true
odd class = eq-eqb ((2 * class + 1) % 2) 1 (omega arith)

-- A token of the set that is the first on its line is of `first_only`.
pub has-first_only : (set : Set) (token : Spelled) → token.first ≡ true → has set token ≡ true
    → has (first_only set) token ≡ true
unfolding has
has-first_only set token leads h =
    is_in-filter (λ class. class % 2 == 1) set _
    (ap (λ b. (2 * kind_class token.text token.fixity + cond b 1 0) % 2 == 1) leads
    ∙ odd (kind_class token.text token.fixity)) h

pub starts-append : (set other : Set) (token : Option Spelled)
    → starts (set ++ other) token ≡ (starts set token || starts other token)
starts-append set other None = refl
starts-append set other (Some token) = has-append set other token
