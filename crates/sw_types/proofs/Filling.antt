-- A table that is filled in the order of what shapes hold.
use Rattle.std.proofs.Common.{◌≡◌, ℕ, ◌+◌, ◌<◌, ◌≤◌, List, length, get_or, set, take}
use Rattle.std.proofs.Common.{Contains, sym, ap, subst, ◌∙◌, arith, inl, inr}
use Rattle.std.proofs.lemmas.Bool.{cases_eq, cases_lt}
use Rattle.std.proofs.lemmas.List.{get_or-set_same, get_or-set_other, get_or-map, get_or_past}
use Rattle.std.proofs.lemmas.List.{length-map}
use Rattle.std.proofs.lemmas.List.{take_more, take_all}
use Rattle.std.proofs.lemmas.List.Elements.{Contains-push_cases}
use Rattle.sw_types.specs.Depths.{of_shape, LooksAtHeld}
use Rattle.sw_types.specs.Held.{held_by, edges_of}
use Rattle.sw_types.specs.Paths.{AreRanked, IsTopologicalOrder, IsOrder}
use Rattle.sw_types.specs.declared.shape.Shape.{Shape}
use Rattle.sw_types.proofs.DepthLemmas.{of_shape-by_parts, of_shape-beyond}

-- the numbers of an order are those of the shapes
pub order_all : (shapes : List Shape) (order : List ℕ) → IsOrder (edges_of shapes) order → (k : ℕ)
    → k < length shapes → Contains order k
order_all shapes order is k lt =
    is.all k (subst (λ n. k < n) (sym (length-map shapes held_by)) lt)

pub order_within : (shapes : List Shape) (order : List ℕ) → IsOrder (edges_of shapes) order
    → (i : ℕ) → i < length order → get_or order i 0 < length shapes
order_within shapes order is i lt =
    subst (λ n. get_or order i 0 < n) (length-map shapes held_by) (is.within i 0 lt)

module _ {A : Type 0} (none : A) (step : (ℕ → A) → Shape → A) (shapes : List Shape) where
  -- the table says what is said of these shapes
  abbrev pub IsFilled : List ℕ → List A → Type 0
  IsFilled numbers table = (k : ℕ) → Contains numbers k
      → get_or table k none ≡ of_shape none step shapes k

  -- the next shape of the order is said by what the table says
  pub filled_more : LooksAtHeld step → AreRanked (edges_of shapes) → (order : List ℕ)
      → IsTopologicalOrder (edges_of shapes) order → (i : ℕ) (table : List A) (shape : Shape)
      → i < length order → get_or order i 0 < length shapes → length table ≡ length shapes
      → shape ≡ get_or shapes (get_or order i 0) shape
      → IsFilled (take i order) table
      → IsFilled (take (i + 1) order)
      (set table (get_or order i 0) (step (λ k. get_or table k none) shape))
  filled_more looks ranked order are i table shape lt within sized is filled k has =
      let number : ℕ = get_or order i 0 in
      let value : A = step (λ j. get_or table j none) shape in
      let said : value ≡ of_shape none step shapes number =
      looks (λ j. get_or table j none) (of_shape none step shapes) shape (λ b held.
      filled b (are i b lt (subst (λ row. Contains row b)
      (sym (get_or-map held_by shapes number shape _ within))
      (subst (λ (s : Shape). Contains (held_by s) b) is held))))
      ∙ ap (step (of_shape none step shapes)) is
      ∙ sym (of_shape-by_parts none step shapes looks ranked number shape within) in
      let here : get_or (set table number value) number none ≡ value =
      get_or-set_same table number value none (subst (λ n. number < n) (sym sized) within) in
      elim (cases_eq k number) [
        | inl e ↦ subst (λ j. get_or (set table number value) j none ≡ of_shape none step shapes j)
            (sym e) (here ∙ said)
        | inr ne ↦ get_or-set_other table number k value none ne
            ∙ filled k (elim (Contains-push_cases (take i order) number k
            (subst (λ l. Contains l k) (take_more order i 0 lt) has)) [
              | inl old ↦ old
              | inr same ↦ absurd (ne (sym same))
            ])
      ]

  -- the whole order fills the table
  pub filled_all : (order : List ℕ) → ((k : ℕ) → k < length shapes → Contains order k)
      → (i : ℕ) (table : List A) → length order ≤ i → length table ≡ length shapes
      → IsFilled (take i order) table → (k : ℕ)
      → get_or table k none ≡ of_shape none step shapes k
  filled_all order all i table end sized filled k = elim (cases_lt k (length shapes)) [
    | inl lt ↦ filled k (subst (λ l. Contains l k) (sym (take_all i order end)) (all k lt))
    | inr le ↦ get_or_past table k none (omega (arith, sized))
        ∙ sym (of_shape-beyond none step shapes k le)
  ]
