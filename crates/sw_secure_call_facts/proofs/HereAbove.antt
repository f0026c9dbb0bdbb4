-- The colours of the frames' `Here` where a frame begins and colours become one.
use Rattle.std.proofs.Common.{◌≡◌, ◌≢◌, ◌⊎◌, ℕ, zero, suc, Option, List, [], ◌∷◌, ◌++◌}
use Rattle.std.proofs.Common.{length, map, refl, sym, ap, ◌∙◌, unwrap_or, inl, inr}
use Rattle.std.specs.List.{slice_get, slice_index_or}
use Rattle.std.proofs.lemmas.Bool.{cases_eq}
use Rattle.sw_value.proofs.ListLemmas.{changed_at_found}
use Rattle.sw_machine_kind_facts.proofs.ItemLemmas.{changed_other}
use Rattle.sw_owner_facts.specs.Colours.{Colour, OfJob}
use Rattle.sw_owner_facts.specs.View.{above, Frame as Spot}
use Rattle.sw_owner_facts.proofs.FrameLemmas.{same_frame}
use Rattle.sw_view_facts.specs.Renaming.{HasHere, recoloured_by}
use Rattle.sw_view_facts.specs.Views.{Colours, here_at}
use Rattle.sw_secure_facts.specs.Painting.{with_here}

index_is : {A : Type 0} (xs : List A) (k : ℕ) (d : A)
    → slice_index_or xs k d ≡ unwrap_or (slice_get xs k) d
index_is [] k d = refl
index_is (x ∷ xs) zero d = refl
index_is (x ∷ xs) (suc k) d = index_is xs k d

index_rows : (f : Colour → Colour) (rows : List (List Colour)) (k : ℕ)
    → slice_index_or (map (map f) rows) k [] ≡ map f (slice_index_or rows k [])
index_rows f [] k = refl
index_rows f (row ∷ rows) zero = refl
index_rows f (row ∷ rows) (suc k) = index_rows f rows k

index_end : (f : Colour → Colour) (row : List Colour) (b d : Colour) (i : ℕ)
    → (i ≡ length row → ⊥)
    → slice_index_or (map f (row ++ b ∷ [])) i d ≡ slice_index_or (map f row) i d
index_end f [] b d zero differ = absurd (differ refl)
index_end f [] b d (suc i) differ = refl
index_end f (x ∷ row) b d zero differ = refl
index_end f (x ∷ row) b d (suc i) differ =
    index_end f row b d i (λ e. differ (ap suc e))

index_last : (f : Colour → Colour) (row : List Colour) (b d : Colour)
    → slice_index_or (map f (row ++ b ∷ [])) (length row) d ≡ f b
index_last f [] b d = refl
index_last f (x ∷ row) b d = index_last f row b d

module _ (colours : Colours) (q : Spot) (b : Colour) (h : HasHere colours q)
    (height : length h.row ≡ suc q.depth) (f : Colour → Colour) where
  abbrev more : Colours
  more = with_here q.job b colours

  row_then : slice_index_or colours.heres q.job [] ≡ h.row
  row_then = index_is colours.heres q.job []
      ∙ ap (λ (o : Option (List Colour)). unwrap_or o []) h.rows

  row_now : slice_index_or more.heres q.job [] ≡ h.row ++ b ∷ []
  row_now = index_is more.heres q.job []
      ∙ ap (λ (o : Option (List Colour)). unwrap_or o [])
      (changed_at_found (λ row. row ++ b ∷ []) q.job colours.heres h.row h.rows)

  row_other : (j : ℕ) → (j ≡ q.job → ⊥)
      → slice_index_or more.heres j [] ≡ slice_index_or colours.heres j []
  row_other j differ = index_is more.heres j []
      ∙ ap (λ (o : Option (List Colour)). unwrap_or o [])
      (changed_other (λ row. row ++ b ∷ []) q.job j colours.heres differ)
      ∙ sym (index_is colours.heres j [])

  pub here_elsewhere : (p : Spot) → p ≢ above q
      → here_at (recoloured_by f more) p ≡ here_at (recoloured_by f colours) p
  here_elsewhere p differ =
      ap (λ row. slice_index_or row p.depth (OfJob p.job 0)) (index_rows f more.heres p.job)
      ∙ by (cases_eq p.job q.job)
      ∙ sym (ap (λ row. slice_index_or row p.depth (OfJob p.job 0))
      (index_rows f colours.heres p.job))
    where
      by : (p.job ≡ q.job) ⊎ (p.job ≡ q.job → ⊥)
          → slice_index_or (map f (slice_index_or more.heres p.job [])) p.depth (OfJob p.job 0)
          ≡ slice_index_or (map f (slice_index_or colours.heres p.job [])) p.depth (OfJob p.job 0)
      by (inr away) = ap (λ row. slice_index_or (map f row) p.depth (OfJob p.job 0))
          (row_other p.job away)
      by (inl same) =
          ap (λ row. slice_index_or (map f row) p.depth (OfJob p.job 0))
          (ap (λ j. slice_index_or more.heres j []) same ∙ row_now)
          ∙ index_end f h.row b (OfJob p.job 0) p.depth
          (λ e. differ (same_frame same (e ∙ height)))
          ∙ sym (ap (λ row. slice_index_or (map f row) p.depth (OfJob p.job 0))
          (ap (λ j. slice_index_or colours.heres j []) same ∙ row_then))

  pub here_above : here_at (recoloured_by f more) (above q) ≡ f b
  here_above =
      ap (λ row. slice_index_or row (suc q.depth) (OfJob q.job 0)) (index_rows f more.heres q.job)
      ∙ ap (λ row. slice_index_or (map f row) (suc q.depth) (OfJob q.job 0)) row_now
      ∙ ap (λ n. slice_index_or (map f (h.row ++ b ∷ [])) n (OfJob q.job 0)) (sym height)
      ∙ index_last f h.row b (OfJob q.job 0)
