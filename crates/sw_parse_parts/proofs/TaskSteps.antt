-- Words that stand for tasks, and words that are declared beside them.
use Rattle.std.proofs.Common.{◌≡◌, ℕ, Bool, true, false, not, ◌||◌, ◌&&◌, ◌==◌, if◌then◌else◌, List, []}
use Rattle.std.proofs.Common.{◌∷◌, bytes_eq, map, length, refl, sym, ◌∙◌, ap, arith}
use Rattle.std.proofs.Common.{◌-◌, ◌++◌, take, length-append}
use Rattle.std.proofs.Math.Seq.{take-append_seam}
use Rattle.std.proofs.lemmas.Bool.{and_parts}
use Rattle.std.proofs.lemmas.Bool.Decides.{nat_tests}
use Rattle.std.proofs.lemmas.Slice.Eq.{bytes_eq-Decides}
use Rattle.std.specs.List.{list_any}
use Rattle.std.specs.Prelude.{Option, None, Some, Ok, Err}
use Rattle.sw_token.specs.Spelling.{Spelled}
use Rattle.sw_grammar_forms.specs.Form.{a_word}
use Rattle.sw_grammar_forms.specs.Outcome.{text_of}
use Rattle.sw_grammar_forms.specs.Reader.{check, checked, next, refused, take_if}
use Rattle.sw_grammar_forms.specs.Reader.Fault.{unexpected}
use Rattle.sw_grammar_forms.specs.Relations.{head, is_none_of}
use Rattle.sw_grammar_forms.specs.Sets.{has, starts, word}
use Rattle.sw_grammar_forms.proofs.ReaderLaws.{bind_step, bind_stop}
use Rattle.sw_grammar.specs.Around.{index_in}
use Rattle.sw_parse_parts.specs.Taking.{TakesAs}

-- What has the text of one of some words has the id of one of them.
module _ (texts : List (List ℕ)) (text : List ℕ) where
  abbrev has_id : List ℕ → Bool
  has_id ids = list_any (λ id. id == index_in texts text) ids

  abbrev has_text : List (List ℕ) → Bool
  has_text words = list_any (λ task. bytes_eq text task) words

  no_text : (words : List (List ℕ)) → has_id (map (index_in texts) words) ≡ false
      → has_text words ≡ false
  no_text [] none = refl
  no_text (first ∷ words) none =
      by (bytes_eq text first) (index_in texts first == index_in texts text) refl refl none
      (no_text words)
    where
      same_id : text ≡ first → (index_in texts first == index_in texts text) ≡ true
      same_id same =
          let both : index_in texts first ≡ index_in texts text = ap (index_in texts) (sym same) in
          grind (arith, nat_tests)

      by : (b c : Bool) → bytes_eq text first ≡ b
          → (index_in texts first == index_in texts text) ≡ c
          → (c || has_id (map (index_in texts) words)) ≡ false
          → (has_id (map (index_in texts) words) ≡ false → has_text words ≡ false)
          → (b || has_text words) ≡ false
      by true true is is' none' more = absurd (cc)
      by false true is is' none' more = absurd (cc)
      by false false is is' none' more = more none'
      by true false is is' none' more =
          absurd (let clash : true ≡ false
          = sym (same_id ((bytes_eq-Decides text first).0 is)) ∙ is' in cc)

  -- the same, where the ids are there
  pub no_task : (words : List (List ℕ)) (ids : List ℕ) → ids ≡ map (index_in texts) words
      → (id : ℕ) → id ≡ index_in texts text → list_any (λ other. other == id) ids ≡ false
      → false ≡ has_text words
  no_task words ids are id is none =
      sym (no_text words ((λ j. list_any (λ other. other == sym is j) (sym are j)) ∙ none))

  pub no_task_of_none : (words : List (List ℕ)) (ids : List ℕ) → ids ≡ map (index_in texts) words
      → (length ids == 0) ≡ true → false ≡ has_text words
  no_task_of_none words ids are empty =
      no_task words ids are (index_in texts text) refl (nothing ids empty)
    where
      nothing : (all : List ℕ) → (length all == 0) ≡ true → has_id all ≡ false
      nothing [] is = refl
      nothing (id ∷ all) is =
          absurd (let none : length (id ∷ all) ≡ 0 = grind (arith, nat_tests) in omega (arith, none))

-- texts that are behind something
pub among : {X : Type 0} (text : List ℕ) (now : X → List ℕ) (words : List X)
    → list_any (λ word. bytes_eq text (now word)) words
    ≡ list_any (λ task. bytes_eq text task) (map now words)
among text now [] = refl
among text now (word ∷ words) = ap (λ more. bytes_eq text (now word) || more) (among text now words)

-- what is added at the end is what is taken from there
pub without_last : {X : Type 0} (xs : List X) (x : X) (n : ℕ) → n ≡ length (xs ++ x ∷ [])
    → take (n - 1) (xs ++ x ∷ []) ≡ xs
without_last xs x n is =
    ap (λ m. take m (xs ++ x ∷ [])) (omega (arith, is, length-append xs (x ∷ [])))
    ∙ take-append_seam xs (x ∷ [])

-- a word is none of these, or one by its text
pub none_of_is : (words : List (List ℕ)) (token : Option Spelled) → starts word token ≡ true
    → not (list_any (λ task. bytes_eq (text_of token) task) words) ≡ is_none_of words token
none_of_is words None is = absurd (cc)
none_of_is words (Some token) is = refl

module _ {A : Type 0} (words : List (List ℕ)) (value : Spelled → A) where
  passes : (token : Spelled) (ts : List Spelled) (b : Bool) → is_none_of words (Some token) ≡ b
      → check (is_none_of words) (token ∷ ts)
      ≡ (if b then Ok (tt, token ∷ ts) else refused (token ∷ ts))
  passes token ts b is =
      ap (λ (test : Bool). if test then Ok (tt, token ∷ ts) else refused (token ∷ ts)) is

  -- a token that is no word, or a word that stands for a task
  pub word_refused : (ts : List Spelled)
      → (starts word (head ts) && is_none_of words (head ts)) ≡ false
      → checked (is_none_of words) (next (a_word value)) ts ≡ Err (unexpected (length ts))
  word_refused [] is = refl
  word_refused (token ∷ ts) is =
      by (has word token) (is_none_of words (Some token)) refl refl is
    where
      by : (b c : Bool) → has word token ≡ b → is_none_of words (Some token) ≡ c
          → (b && c) ≡ false
          → checked (is_none_of words) (next (a_word value)) (token ∷ ts)
          ≡ Err (unexpected (length (token ∷ ts)))
      by true true b-is c-is none = absurd (cc)
      by b false b-is c-is none =
          bind_stop (check (is_none_of words) (token ∷ ts)) _ (unexpected (length (token ∷ ts)))
          (passes token ts false c-is)
      by false true b-is c-is none =
          bind_step (check (is_none_of words) (token ∷ ts)) _ (tt, token ∷ ts) _
          (passes token ts true c-is) (ap (λ b. take_if b (value token) ts) b-is)

  -- any other word
  pub word_taken : (ts left : List Spelled) (x : A)
      → (starts word (head ts) && is_none_of words (head ts)) ≡ true → TakesAs value ts x left
      → checked (is_none_of words) (next (a_word value)) ts ≡ Ok (x, left)
  word_taken [] left x is takes = absurd takes
  word_taken (token ∷ ts) left x is takes =
      let parts = and_parts (has word token) (is_none_of words (Some token)) is in
      bind_step (check (is_none_of words) (token ∷ ts)) _ (tt, token ∷ ts) _
      (passes token ts true parts.1)
      (ap (λ b. take_if b (value token) ts) parts.0
      ∙ (λ j. Ok (sym takes.0 j, sym takes.1 j)))
