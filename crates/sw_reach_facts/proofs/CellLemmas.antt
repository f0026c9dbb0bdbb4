-- What a cell shows, by its number.
use Rattle.std.specs.List.{slice_get, slice_index_or}
use Rattle.std.proofs.Common.{◌≡◌, ℕ, zero, suc, ◌<◌, ◌==◌, Bool, true, false, cond, Option, Some}
use Rattle.std.proofs.Common.{None, List, [], ◌∷◌, length, flat_map, refl, sym, ap, ◌∙◌, arith, inl}
use Rattle.std.proofs.Common.{inr}
use Rattle.std.proofs.lemmas.Bool.{cases_eq, ne_eqb, eq-eqb}
use Rattle.std.proofs.lemmas.List.{append-nil}
use Rattle.sw_value.specs.declared.value.Value.{out-Value, Value}
use Rattle.sw_value.specs.declared.value.Value.TheOpen as layer
use Rattle.sw_value.specs.declared.cell.HeapCell.{HeapCell}
use Rattle.sw_value.specs.Value.{reference_of}
use Rattle.sw_reach_facts.specs.Reached.{shown, shown_below, colours_of}
use Rattle.sw_reach_facts.proofs.ReferenceLemmas.{references-cell, cell_of}

module _ {C : Type 0} where
  -- heaps whose first cells show the same
  pub shown_same : (cells others : List HeapCell) (colours hues : List (Option C)) (n : ℕ)
      → ((k : ℕ) → k < n → (below : ℕ → List C)
      → shown below (slice_index_or colours k None) (slice_get cells k)
      ≡ shown below (slice_index_or hues k None) (slice_get others k))
      → (c : ℕ) → shown_below cells colours n c ≡ shown_below others hues n c
  unfolding shown_below
  shown_same cells others colours hues zero same c = refl
  shown_same cells others colours hues (suc n) same c =
      let below = shown_same cells others colours hues n (λ k lt. same k (omega (arith, lt))) in
      by (c == n) below where
        by : (b : Bool) → ((d : ℕ) → shown_below cells colours n d ≡ shown_below others hues n d)
            → cond b (shown (shown_below cells colours n) (slice_index_or colours n None)
            (slice_get cells n)) (shown_below cells colours n c)
            ≡ cond b (shown (shown_below others hues n) (slice_index_or hues n None)
            (slice_get others n)) (shown_below others hues n c)
        by true below =
            ap (λ f. shown f (slice_index_or colours n None) (slice_get cells n)) (λ i d. below d i)
            ∙ same n (omega arith) (shown_below others hues n)
        by false below = below c

  pub shown_next : (cells : List HeapCell) (colours : List (Option C)) (n c : ℕ) → c < n
      → shown_below cells colours (suc n) c ≡ shown_below cells colours n c
  unfolding shown_below
  shown_next cells colours n c lt =
      ap (λ b. cond b (shown (shown_below cells colours n) (slice_index_or colours n None)
      (slice_get cells n)) (shown_below cells colours n c))
      (ne_eqb c n (λ e. let x : ⊥ = omega (arith, lt, e) in x))

  shown_here : (cells : List HeapCell) (colours : List (Option C)) (n c : ℕ) → c ≡ n
      → shown_below cells colours (suc n) c
      ≡ shown (shown_below cells colours n) (slice_index_or colours n None) (slice_get cells n)
  unfolding shown_below
  shown_here cells colours n c same =
      ap (λ b. cond b (shown (shown_below cells colours n) (slice_index_or colours n None)
      (slice_get cells n)) (shown_below cells colours n c)) (eq-eqb c n same)

  -- what cell n shows is what is said of it and of those before
  pub shown_at : (cells : List HeapCell) (colours : List (Option C)) (n m c : ℕ) → c ≡ n → n < m
      → shown_below cells colours m c
      ≡ shown (shown_below cells colours n) (slice_index_or colours n None) (slice_get cells n)
  shown_at cells colours n zero c same lt = absurd (omega (arith, lt))
  shown_at cells colours n (suc m) c same lt = elim (cases_eq n m) [
    | inl e ↦ ap (λ k. shown_below cells colours (suc k) c) (sym e)
        ∙ shown_here cells colours n c same
    | inr differ ↦
        let less : n < m = omega (arith, lt, differ) in
        shown_next cells colours m c (omega (arith, same, less))
        ∙ shown_at cells colours n m c same less
  ]

  pub colours_of_cell : (cells : List HeapCell) (colours : List (Option C)) (v : Value) (c : ℕ)
      → out-Value v ≡ layer.Cell c → c < length cells
      → colours_of cells colours v
      ≡ shown (shown_below cells colours c) (slice_index_or colours c None) (slice_get cells c)
  unfolding colours_of
  colours_of_cell cells colours v c refers lt =
      ap (flat_map (shown_below cells colours (length cells))) (references-cell v c refers)
      ∙ append-nil (shown_below cells colours (length cells) c)
      ∙ shown_at cells colours c (length cells) c refl lt

  -- a cell with a colour shows that
  pub shows_own : (cells : List HeapCell) (colours : List (Option C)) (c : ℕ) (colour : C)
      → c < length cells → slice_index_or colours c None ≡ Some colour
      → shown (shown_below cells colours c) (slice_index_or colours c None) (slice_get cells c)
      ≡ colour ∷ []
  shows_own cells colours c colour lt is =
      ap (λ o. shown (shown_below cells colours c) o (slice_get cells c)) is

  pub reference_shows : (cells : List HeapCell) (colours : List (Option C)) (v : Value) (c : ℕ)
      (colour : C) → reference_of v ≡ Some c → c < length cells
      → slice_index_or colours c None ≡ Some colour → colours_of cells colours v ≡ colour ∷ []
  reference_shows cells colours v c colour refers lt is =
      colours_of_cell cells colours v c (cell_of v c refers) lt
      ∙ shows_own cells colours c colour lt is
