-- Lists that get one element more.
use Rattle.std.proofs.Common.{◌≡◌, ℕ, zero, suc, ◌-◌, ◌⊎◌, inl, inr, Some, List}
use Rattle.std.proofs.Common.{refl, [], ◌∷◌, ◌++◌, length, sym, ◌∙◌, arith}
use Rattle.std.proofs.lemmas.Bool.{cases_lt}
use Rattle.std.specs.List.{slice_get}
use Rattle.sw_list.proofs.ListLemmas.{slice_get_first, slice_get_second}

at_end : {A : Type 0} (k : ℕ) (x y : A) → slice_get (x ∷ []) k ≡ Some y → (k ≡ 0) × (x ≡ y)
at_end zero x y e = (refl, cc)
at_end (suc k) x y e = cc

-- an element of a list with one more at its end
pub pushed : {A : Type 0} (xs : List A) (x y : A) (k : ℕ) → slice_get (xs ++ x ∷ []) k ≡ Some y
    → (slice_get xs k ≡ Some y) ⊎ ((k ≡ length xs) × (x ≡ y))
pushed xs x y k e = elim (cases_lt k (length xs)) [
  | inl before ↦ inl (sym (slice_get_first xs (x ∷ []) k before) ∙ e)
  | inr past ↦ (
      let h = at_end (k - length xs) x y (sym (slice_get_second xs (x ∷ []) k past) ∙ e) in
      inr (omega (arith, past, h.0), h.1)
      )
]
