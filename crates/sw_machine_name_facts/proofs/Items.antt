-- Where an item of a changed list comes from.
use Rattle.std.proofs.Common.{◌≡◌, ℕ, zero, suc, ◌⊎◌, inl, inr, Option, Some, None, List, [], ◌∷◌}
use Rattle.std.proofs.Common.{take, refl, ap, sym, ◌∙◌}
use Rattle.std.specs.List.{slice_get, slice_set}
use Rattle.std.proofs.lemmas.Bool.{cases_eq}
use Rattle.sw_list.proofs.ListLemmas.{some_injective}
use Rattle.sw_value.specs.Lists.{changed_at}
use Rattle.sw_value.proofs.ListLemmas.{changed_at_found, changed_at_none}
use Rattle.sw_machine_access_facts.proofs.CellLemmas.{changed_other}

-- an item that was there, at the index at which the list is changed
pub record WasItem {A : Type 0} (g : A → A) (i j : ℕ) (xs : List A) (now : A) : Type 0 where
  pub here : j ≡ i
  pub old : A
  pub was : slice_get xs j ≡ Some old
  pub is : g old ≡ now

pub of_changed : {A : Type 0} (g : A → A) (i j : ℕ) (xs : List A) (x : A)
    → slice_get (changed_at g i xs) j ≡ Some x
    → (slice_get xs j ≡ Some x) ⊎ WasItem g i j xs x
of_changed {A} g i j xs x at = elim (cases_eq j i) [
  | inl here ↦ by here (slice_get xs i) refl
  | inr apart ↦ inl (sym (changed_other g i j xs apart) ∙ at)
] where
  by : j ≡ i → (o : Option A) → slice_get xs i ≡ o
      → (slice_get xs j ≡ Some x) ⊎ WasItem g i j xs x
  by here None is = inl (sym (ap (λ l. slice_get l j) (changed_at_none g i xs is)) ∙ at)
  by here (Some old) is =
      inr (record {
        here = here;
        old = old;
        was = ap (slice_get xs) here ∙ is;
        is = some_injective (sym (changed_at_found g i xs old is)
            ∙ ap (slice_get (changed_at g i xs)) (sym here) ∙ at);
      })

-- an item that is put at an index, or was there
pub of_set : {A : Type 0} (xs : List A) (i j : ℕ) (y x : A)
    → slice_get (slice_set xs i y) j ≡ Some x
    → (slice_get xs j ≡ Some x) ⊎ ((j ≡ i) × (y ≡ x))
of_set [] i j y x at = cc
of_set (z ∷ zs) zero zero y x at = inr (refl, some_injective at)
of_set (z ∷ zs) zero (suc j) y x at = inl at
of_set (z ∷ zs) (suc i) zero y x at = inl at
of_set (z ∷ zs) (suc i) (suc j) y x at = elim (of_set zs i j y x at) [
  | inl was ↦ inl was
  | inr (here, is) ↦ inr (ap suc here, is)
]

-- an item of the first ones
pub of_taken : {A : Type 0} (n : ℕ) (xs : List A) (j : ℕ) (x : A)
    → slice_get (take n xs) j ≡ Some x → slice_get xs j ≡ Some x
of_taken zero xs j x at = cc
of_taken (suc n) [] j x at = cc
of_taken (suc n) (y ∷ xs) zero x at = at
of_taken (suc n) (y ∷ xs) (suc j) x at = of_taken n xs j x at
