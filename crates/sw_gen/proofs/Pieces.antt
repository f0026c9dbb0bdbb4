-- A list that a loop makes piece by piece: what is made so far, and what the items that are left
-- give.
use Rattle.std.proofs.Common.{◌≡◌, ℕ, suc, ◌+◌, ◌-◌, ◌<◌, ◌≤◌, List, ◌∷◌, ◌++◌, length, drop}
use Rattle.std.proofs.Common.{slice_index_or, flat_map, ap, sym, ◌∙◌, arith, append_assoc}
use Rattle.std.proofs.Common.{drop-cons}
use Rattle.std.proofs.Common.{add-one}
use Rattle.std.specs.List.{range_with_len}

module _ {A B : Type 0} (piece : A → List B) where
  pub one_more : (made : List B) (item : A) (left : List A)
      → (made ++ piece item) ++ flat_map piece left ≡ made ++ flat_map piece (item ∷ left)
  one_more made item left = append_assoc made (piece item) (flat_map piece left)

  -- the items are those of a list
  pub one_more_of : (made : List B) (items : List A) (i : ℕ) (item : A) → i < length items
      → item ≡ slice_index_or items i item
      → (made ++ piece item) ++ flat_map piece (drop (i + 1) items)
      ≡ made ++ flat_map piece (drop i items)
  one_more_of made items i item inside is =
      let next : drop i items ≡ item ∷ drop (i + 1) items =
      rw add-one (drop-cons items i item inside ∙ ap (λ first. first ∷ drop (suc i) items) (sym is))
      in
      one_more made item (drop (i + 1) items)
      ∙ ap (λ left. made ++ flat_map piece left) (sym next)

-- the items are the numbers up to n
pub one_more_number : {B : Type 0} (piece : ℕ → List B) (made : List B) (i n : ℕ) → i ≤ n
    → (made ++ piece i) ++ flat_map piece (range_with_len (i + 1) (n + 1 - (i + 1)))
    ≡ made ++ flat_map piece (range_with_len i (n + 1 - i))
one_more_number piece made i n within =
    let more : n + 1 - i ≡ suc (n + 1 - (i + 1)) = omega (arith, within) in
    one_more piece made i (range_with_len (i + 1) (n + 1 - (i + 1)))
    ∙ ap (λ count. made ++ flat_map piece (range_with_len i count)) (sym more)
