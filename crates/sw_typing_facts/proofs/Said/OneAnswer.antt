-- What rows answer of a key of which they tell once at most.
use Rattle.std.proofs.Common.{◌≡◌, ℕ, zero, suc, ◌≤◌, List, [], ◌∷◌, Option, Some, None, Contains}
use Rattle.std.proofs.Common.{arith, refl, ap, ◌∙◌, if◌then◌else◌, ◌==◌}
use Rattle.std.proofs.lemmas.Grind.{common_steps}
use Rattle.sw_tree.proofs.Counting.{Weight, hits, hits_same, in_all, in_all-cons}
use Rattle.sw_types.specs.declared.ty.Ty.{Ty}
use Rattle.sw_decl_words.specs.Words.{or_else}
use Rattle.sw_typing_rules.specs.declared.row.Meaning.{Meaning}
use Rattle.sw_typing_rules.specs.declared.row.Row.{Row}
use Rattle.sw_typing_rules.specs.declared.row.Row.TheVariants.{Typed, Means, Ill}
use Rattle.sw_isolation_rules.specs.Answers.{meaning_in, meaning_row, type_in, type_row}
use Rattle.sw_typing_facts.proofs.Said.Counts.{Counts}

-- What is in a list counts there.
pub contained_counts : {X : Type 0} (w : X → Weight) (xs : List X) (x : X) (k : ℕ)
    → Contains xs x → w x k ≤ in_all w xs k
contained_counts w [] x k has = let lt = has.1 in absurd (omega (arith, lt))
contained_counts w (y ∷ xs) x k (zero, lt, is) =
    let same = ap (λ z. w z k) is in omega (arith, in_all-cons w y xs k, same)
contained_counts w (y ∷ xs) x k (suc i, lt, is) =
    omega (
      arith,
      in_all-cons w y xs k,
      contained_counts w xs x k (i, omega (arith, lt), is),
    )

-- A look-up that takes the first row with an answer, where only rows that count at a key have one.
module _ {A : Type 0} (w : Row → Weight) (at : ℕ) (look : Row → Option A)
    (all : List Row → Option A) (nothing : all [] ≡ None)
    (either : (row : Row) (rows : List Row) → all (row ∷ rows) ≡ or_else (look row) (all rows))
    (uncounted : (row : Row) → w row at ≡ 0 → look row ≡ None) where
  -- Where no row counts there is no answer.
  pub none_answers : (rows : List Row) → in_all w rows at ≡ 0 → all rows ≡ None
  none_answers [] is = nothing
  none_answers (row ∷ rows) is =
      either row rows
      ∙ ap (λ one. or_else one (all rows))
      (uncounted row (omega (arith, in_all-cons w row rows at, is)))
      ∙ none_answers rows (omega (arith, in_all-cons w row rows at, is))

  -- Where one row counts at most, its answer is the one.
  pub one_answers : (rows : List Row) (row : Row) (x : A) → in_all w rows at ≤ 1 → 1 ≤ w row at
      → look row ≡ Some x → Contains rows row → all rows ≡ Some x
  one_answers [] row x once counted found has = let lt = has.1 in absurd (omega (arith, lt))
  one_answers (first ∷ rows) row x once counted found (zero, lt, is) =
      either first rows
      ∙ ap (λ one. or_else (look one) (all rows)) is
      ∙ ap (λ one. or_else one (all rows)) found
  one_answers (first ∷ rows) row x once counted found (suc i, lt, is) =
      let there : Contains rows row = (i, omega (arith, lt), is) in
      let more = contained_counts w rows row at there in
      either first rows
      ∙ ap (λ one. or_else one (all rows))
      (uncounted first (omega (arith, in_all-cons w first rows at, once, more, counted)))
      ∙ one_answers rows row x (omega (arith, in_all-cons w first rows at, once)) counted found
      there

-- how often rows tell of the type of a key, and of its meaning
abbrev pub types_told : Row → Weight
types_told (Typed at ty) k = hits at k
types_told (Means at meaning) k = 0
types_told (Ill at code unless) k = 0

-- how often a row tells the meaning of a key
abbrev pub meanings_told : Row → Weight
meanings_told (Typed at ty) k = 0
meanings_told (Means at meaning) k = hits at k
meanings_told (Ill at code unless) k = 0

-- Both are counts of one thing.
pub types_count : Counts types_told
types_count = record { pair = λ at ty meaning k. omega arith; ill = λ at code unless k. refl }

-- This counts what is noted of keys.
pub meanings_count : Counts meanings_told
meanings_count = record { pair = λ at ty meaning k. omega arith; ill = λ at code unless k. refl }

-- What a row answers of another key than its own, and of its own.
unlike : {A : Type 0} (at key : ℕ) (x : A) → hits at key ≡ 0
    → (if at == key then Some x else None) ≡ None
unfolding hits
unlike at key x is = grind (arith, common_steps)

alike : {A : Type 0} (at : ℕ) (x : A) → (if at == at then Some x else None) ≡ Some x
alike at x = grind (arith, common_steps)

-- A row that doesn't count at a key has no answer.
type_untold : (key : ℕ) (row : Row) → types_told row key ≡ 0 → type_row key row ≡ None
type_untold key (Typed at ty) is = unlike at key ty is
type_untold key (Means at meaning) is = refl
type_untold key (Ill at code unless) is = refl

meaning_untold : (key : ℕ) (row : Row) → meanings_told row key ≡ 0 → meaning_row key row ≡ None
meaning_untold key (Typed at ty) is = refl
meaning_untold key (Means at meaning) is = unlike at key meaning is
meaning_untold key (Ill at code unless) is = refl

-- What rows answer of a key of whose type they tell once at most.
pub type_answered : (rows : List Row) (at : ℕ) (ty : Ty) → in_all types_told rows at ≤ 1
    → Contains rows (Typed at ty) → type_in rows at ≡ Some ty
type_answered rows at ty once has =
    one_answers types_told at (type_row at) (λ more. type_in more at) refl (λ row more. refl)
    (type_untold at) rows (Typed at ty) ty once (omega (arith, hits_same at)) (alike at ty) has

-- Where they don't tell of its type they answer nothing.
pub no_type_answered : (rows : List Row) (at : ℕ) → in_all types_told rows at ≡ 0
    → type_in rows at ≡ None
no_type_answered rows at is =
    none_answers types_told at (type_row at) (λ more. type_in more at) refl (λ row more. refl)
    (type_untold at) rows is

-- The same of its meaning.
pub meaning_answered : (rows : List Row) (at : ℕ) (meaning : Meaning)
    → in_all meanings_told rows at ≤ 1 → Contains rows (Means at meaning)
    → meaning_in rows at ≡ Some meaning
meaning_answered rows at meaning once has =
    one_answers meanings_told at (meaning_row at) (λ more. meaning_in more at) refl
    (λ row more. refl) (meaning_untold at) rows (Means at meaning) meaning once
    (omega (arith, hits_same at)) (alike at meaning) has
