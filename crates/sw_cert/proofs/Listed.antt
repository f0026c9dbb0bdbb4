-- Lists of what there is for each number.
use Rattle.std.proofs.Common.{◌≡◌, ℕ, zero, suc, ◌+◌, ◌<◌, inl, inr, List, [], ◌∷◌, ◌++◌, length}
use Rattle.std.proofs.Common.{slice_index_or, refl, sym, subst, ap, ◌∙◌, arith, length-append}
use Rattle.std.proofs.lemmas.Bool.{cases_eq}
use Rattle.std.proofs.lemmas.List.{get_or_append_left, get_or_push}

-- a list of what there is for each number below a count
pub listed : {Y : Type 0} (P : ℕ → Y → Type 0) (n : ℕ) → ((k : ℕ) → k < n → (y : Y) × P k y)
    → (ys : List Y) × (length ys ≡ n)
    × ((k : ℕ) (d : Y) → k < n → P k (slice_index_or ys k d))
listed P zero each = ([], refl, λ k d lt. absurd (omega (arith, lt)))
listed P (suc n) each =
    let before = listed P n (λ k lt. each k (omega (arith, lt))) in
    let last = each n (omega arith) in (
      before.0 ++ last.0 ∷ [],
      length-append before.0 (last.0 ∷ []) ∙ ap (λ m. m + 1) before.1 ∙ next,
      λ k d lt. elim (cases_eq k n) [
        | inl e ↦ subst (λ m. P m (slice_index_or (before.0 ++ last.0 ∷ []) m d)) (sym e)
            (subst (P n) (sym (get_or_push before.0 last.0 d n before.1)) last.1)
        | inr other ↦ subst (P k) (sym (get_or_append_left before.0 (last.0 ∷ []) d k
            (omega (arith, lt, other, before.1)))) (before.2 k d (omega (arith, lt, other)))
      ],
    )
  where
    next : n + 1 ≡ suc n
    next = omega arith
