-- The `?` of optionals among tokens: no rule takes anything from them, so each is left for an enum.
use Rattle.std.proofs.Common.{◌≡◌, ℕ, ◌+◌, ◌≤◌, Bool, true, false, IsTrue, if◌then◌else◌, List, []}
use Rattle.std.proofs.Common.{◌∷◌, ◌++◌, bytes_eq, codes, refl, sym, ◌∙◌, ap, arith}
use Rattle.std.specs.List.{list_any}
use Rattle.std.specs.Prelude.{fold}
use Rattle.sw_token.specs.Spelling.{Spelled}
use Rattle.sw_tree.proofs.Counting.{Weight, in_all, in_all-append, in_all-cons, in_all-nil}
use Rattle.sw_grammar_forms.specs.Sets.{Set, has, quoted, apart}
use Rattle.sw_grammar_forms.proofs.SetLaws.{has-quoted}
use Rattle.sw_grammar_forms.proofs.SetLemmas.{has-apart}
use Rattle.sw_grammar.specs.Enums.{Marked, marked, marked_by, with_marked, optionals}

abbrev pub is_question : Spelled → Bool
is_question token = bytes_eq token.text (codes "?")

-- any other token
abbrev pub IsOther : Spelled → Type 0
IsOther token = is_question token ≡ false

-- a set that has no `?`, and its tokens
abbrev pub is_paid : Set → Bool
is_paid set = apart set (quoted (codes "?"))

pub other_of : (set : Set) (token : Spelled) → is_paid set ≡ true
    → IsTrue (has set token) → IsOther token
other_of set token without member =
    sym (has-quoted (codes "?") token refl) ∙ has-apart set (quoted (codes "?")) token without member

-- a weight without that of each `?`, and that of each `?` alone
unfoldable pub besides : (Spelled → Weight) → Spelled → Weight
besides w token k = if is_question token then 0 else w token k

unfoldable only : (Spelled → Weight) → Spelled → Weight
only w token k = if is_question token then w token k else 0

pub besides_is : (w : Spelled → Weight) (token : Spelled) → IsOther token → (k : ℕ)
    → besides w token k ≡ w token k
unfolding besides
besides_is w token other k = ap (λ (b : Bool). if b then 0 else w token k) other

pub in_all-less : (less w : Spelled → Weight)
    → ((token : Spelled) (k : ℕ) → less token k ≤ w token k) → (tokens : List Spelled) (k : ℕ)
    → in_all less tokens k ≤ in_all w tokens k
unfolding in_all
in_all-less less w each [] k = omega arith
in_all-less less w each (token ∷ tokens) k =
    omega (arith, each token k, in_all-less less w each tokens k)

both_parts : (w : Spelled → Weight) (tokens : List Spelled) (k : ℕ)
    → in_all (only w) tokens k + in_all (besides w) tokens k ≡ in_all w tokens k
unfolding in_all only besides
both_parts w [] k = refl
both_parts w (token ∷ tokens) k = by (is_question token) (both_parts w tokens k) where
  by : (b : Bool)
      → in_all (only w) tokens k + in_all (besides w) tokens k ≡ in_all w tokens k
      → ((if b then w token k else 0) + in_all (only w) tokens k)
      + ((if b then 0 else w token k) + in_all (besides w) tokens k)
      ≡ w token k + in_all w tokens k
  by true more = omega (arith, more)
  by false more = omega (arith, more)

-- What the optionals of tokens weigh, where each weighs no more than its `?`.
module _ (w : Spelled → Weight) (u : Marked → Weight)
    (less : (one : Marked) (k : ℕ) → u one k ≤ w one.mark k) where
  one_more : (all : List Marked) (one : Marked) (k : ℕ)
      → in_all u (with_marked all one) k ≤ in_all u all k + u one k
  one_more all one k = by (list_any (λ other. bytes_eq other.word.text one.word.text) all) where
    by : (b : Bool) → in_all u (if b then all else all ++ one ∷ []) k ≤ in_all u all k + u one k
    by true = omega arith
    by false =
        omega (arith, in_all-append u all (one ∷ []) k, in_all-cons u one [] k, in_all-nil u k)

  all_more : (all more : List Marked) (k : ℕ)
      → in_all u (fold with_marked all more) k ≤ in_all u all k + in_all u more k
  all_more all [] k = omega (arith, in_all-nil u k)
  all_more all (one ∷ more) k =
      omega (
        arith,
        all_more (with_marked all one) more k,
        one_more all one k,
        in_all-cons u one more k,
      )

  next_marked : (word next : Spelled) (rest : List Spelled) (k : ℕ)
      → in_all u (marked_by word (next ∷ rest)) k ≤ only w next k
  unfolding only
  next_marked word next rest k = by (is_question next) where
    one : Marked
    one = record { word = word; mark = next }

    by : (b : Bool) → in_all u (if b then one ∷ [] else []) k ≤ (if b then w next k else 0)
    by true = omega (arith, less one k, in_all-cons u one [] k, in_all-nil u k)
    by false = omega (arith, in_all-nil u k)

  all_marked : (token : Spelled) (tokens : List Spelled) (k : ℕ)
      → in_all u (marked (token ∷ tokens)) k ≤ in_all (only w) tokens k
  all_marked token [] k = omega (arith, in_all-nil u k, in_all-nil (only w) k)
  all_marked token (next ∷ rest) k =
      omega (
        arith,
        in_all-append u (marked_by token (next ∷ rest)) (marked (next ∷ rest)) k,
        next_marked token next rest k,
        all_marked next rest k,
        in_all-cons (only w) next rest k,
      )

  -- with the other tokens they weigh no more than all tokens do
  pub optionals_weigh : (tokens : List Spelled) (k : ℕ)
      → in_all u (optionals tokens) k + in_all (besides w) tokens k ≤ in_all w tokens k
  optionals_weigh [] k =
      omega (arith, in_all-nil u k, in_all-nil (besides w) k, in_all-nil w k)
  optionals_weigh (token ∷ tokens) k =
      omega (
        arith,
        all_more [] (marked (token ∷ tokens)) k,
        in_all-nil u k,
        all_marked token tokens k,
        in_all-cons (only w) token tokens k,
        both_parts w (token ∷ tokens) k,
      )
