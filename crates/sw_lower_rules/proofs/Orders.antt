-- Each list can be put in the order of a number of its items, and in any such order the numbers are
-- the same list.
use Rattle.std.proofs.Common.{◌≡◌, ℕ, zero, suc, ◌<◌, ◌≤◌, List, [], ◌∷◌, map, length, get_or}
use Rattle.std.proofs.Common.{Bool, true, false, nat_eq, Contains, ◌⊎◌, inl, inr, refl, ap, sym}
use Rattle.std.proofs.Common.{◌∙◌, arith}
use Rattle.std.proofs.lemmas.Bool.{cases_lt}
use Rattle.std.proofs.lemmas.Grind.{common_steps}
use Rattle.std.proofs.lemmas.List.{get_or_default}
use Rattle.std.proofs.lemmas.List.Elements.{Contains-append_right}
use Rattle.std.proofs.lemmas.List.Sorted.{Contains-permutation, IsNonDecreasingBy-short}
use Rattle.std.proofs.lemmas.List.Sorted.{IsPermutation-cons, IsPermutation-middle}
use Rattle.std.proofs.lemmas.List.Sorted.{IsPermutation-refl, IsPermutation-sym}
use Rattle.std.proofs.lemmas.List.Sorted.{IsPermutation-trans, sum_by-IsPermutation}
use Rattle.std.proofs.lemmas.List.Sums.{sum_by-cons}
use Rattle.std.specs.List.{sum_by}
use Rattle.std.specs.List.Sorted.{IsNonDecreasingBy, IsPermutation}
use Rattle.sw_tree.proofs.Counting.{Weight, hits, hits_same, in_all, in_all-cons, in_all-nil}

hits_it : (number k : ℕ) → 1 ≤ hits number k → number ≡ k
unfolding hits
hits_it number k some = by (nat_eq number k) refl where
  by : (same : Bool) → nat_eq number k ≡ same → number ≡ k
  by true is = grind (arith, common_steps)
  by false is = absurd (grind (arith, common_steps))

module _ {X : Type 0} (n : X → ℕ) where
  order_more : (x : X) (xs : List X) → IsNonDecreasingBy n (x ∷ xs) → IsNonDecreasingBy n xs
  order_more x xs up i j d le lt = up (suc i) (suc j) d (omega (arith, le)) (omega (arith, lt))

  first_least : (x : X) (xs : List X) (other : X) → IsNonDecreasingBy n (x ∷ xs)
      → Contains (x ∷ xs) other → n x ≤ n other
  first_least x xs other up (k, lt, is) =
      let le = up 0 k other (omega arith) lt in omega (arith, le, ap n is)

  -- how often a number is that of an item
  abbrev numbered : X → Weight
  numbered x = hits (n x)

  abbrev times : List X → Weight
  times xs = in_all numbered xs

  found : (xs : List X) (k : ℕ) → 1 ≤ times xs k → (x : X) × Contains xs x × (n x ≡ k)
  found [] k some = absurd (omega (arith, some, in_all-nil numbered k))
  found (x ∷ xs) k some = by (cases_lt 0 (hits (n x) k)) (found xs k) where
    by : (0 < hits (n x) k) ⊎ (hits (n x) k ≤ 0)
        → (1 ≤ times xs k → (other : X) × Contains xs other × (n other ≡ k))
        → (other : X) × Contains (x ∷ xs) other × (n other ≡ k)
    by (inl here) later = (x, (0, omega arith, refl), hits_it (n x) k (omega (arith, here)))
    by (inr none) later =
        let (other, has, is) = later (omega (arith, some, none, in_all-cons numbered x xs k)) in
        (other, Contains-append_right (x ∷ []) xs other has, is)

  first_times : (x : X) (xs : List X) → 1 ≤ times (x ∷ xs) (n x)
  first_times x xs = omega (arith, in_all-cons numbered x xs (n x), hits_same (n x))

  abbrev Alike : List X → List X → Type 0
  Alike xs ys = (k : ℕ) → times xs k ≡ times ys k

  -- the first of one list comes after none of another with the same numbers
  first_below : (x : X) (xs : List X) (y : X) (ys : List X) → IsNonDecreasingBy n (x ∷ xs)
      → Alike (x ∷ xs) (y ∷ ys) → n x ≤ n y
  first_below x xs y ys up alike =
      let (other, has, is) = found (x ∷ xs) (n y)
      (omega (arith, alike (n y), first_times y ys)) in
      let le = first_least x xs other up has in
      omega (arith, le, is)

  one_order : (xs ys : List X) → IsNonDecreasingBy n xs → IsNonDecreasingBy n ys → Alike xs ys
      → map n xs ≡ map n ys
  one_order [] [] up down alike = refl
  one_order [] (y ∷ ys) up down alike =
      absurd (omega (arith, alike (n y), first_times y ys, in_all-nil numbered (n y)))
  one_order (x ∷ xs) [] up down alike =
      absurd (omega (arith, alike (n x), first_times x xs, in_all-nil numbered (n x)))
  one_order (x ∷ xs) (y ∷ ys) up down alike =
      let le = first_below x xs y ys up alike in
      let ge = first_below y ys x xs down (λ k. sym (alike k)) in
      let same : n x ≡ n y = omega (arith, le, ge) in
      let more : Alike xs ys = λ k. omega (
        arith,
        alike k,
        in_all-cons numbered x xs k,
        in_all-cons numbered y ys k,
        ap (λ number. hits number k) same,
      ) in
      let rest = one_order xs ys (order_more x xs up) (order_more y ys down) more in
      ap (λ number. number ∷ map n xs) same ∙ ap (λ list. n y ∷ list) rest

  weighed : (xs : List X) (k : ℕ) → times xs k ≡ sum_by (λ x. numbered x k) xs
  weighed [] k = in_all-nil numbered k
  weighed (x ∷ xs) k =
      omega (
        arith,
        in_all-cons numbered x xs k,
        weighed xs k,
        sum_by-cons (λ (other : X). numbered other k) x xs,
      )

  -- the numbers of two orders of one list
  pub one_numbering : (all xs ys : List X) → IsPermutation all xs → IsNonDecreasingBy n xs
      → IsPermutation all ys → IsNonDecreasingBy n ys → map n xs ≡ map n ys
  one_numbering all xs ys first up second down =
      one_order xs ys up down (λ k. omega (
        arith,
        weighed xs k,
        weighed ys k,
        sum_by-IsPermutation (λ (x : X). numbered x k) all xs first,
        sum_by-IsPermutation (λ (x : X). numbered x k) all ys second,
      ))

  order_first : (x : X) (xs : List X) → IsNonDecreasingBy n xs
      → ((other : X) → Contains xs other → n x ≤ n other) → IsNonDecreasingBy n (x ∷ xs)
  order_first x xs up least zero zero d le lt = omega arith
  order_first x xs up least zero (suc j) d le lt =
      let within : j < length xs = omega (arith, lt) in
      least (get_or xs j d) (j, within, get_or_default xs j _ d within)
  order_first x xs up least (suc i) zero d le lt = absurd (omega (arith, le))
  order_first x xs up least (suc i) (suc j) d le lt =
      up i j d (omega (arith, le)) (omega (arith, lt))

  -- the first of a list in order, beside one more item that doesn't come before it
  still_least : (x first : X) (xs : List X) → IsNonDecreasingBy n (first ∷ xs) → n first ≤ n x
      → (other : X) → Contains (x ∷ xs) other → n first ≤ n other
  still_least x first xs up before other (zero, lt, is) = omega (arith, before, ap n is)
  still_least x first xs up before other (suc k, lt, is) =
      first_least first xs other up (suc k, omega (arith, lt), is)

  abbrev pub Ordered : List X → Type 0
  Ordered xs = (all : List X) × IsPermutation xs all × IsNonDecreasingBy n all

  with_one : (x : X) (xs : List X) → IsNonDecreasingBy n xs → Ordered (x ∷ xs)
  with_one x [] up = (
    x ∷ [],
    IsPermutation-refl (x ∷ []),
    IsNonDecreasingBy-short n (x ∷ []) (omega arith),
  )
  with_one x (first ∷ xs) up =
      by (cases_lt (n first) (n x)) (with_one x xs (order_more first xs up))
    where
      by : (n first < n x) ⊎ (n x ≤ n first) → Ordered (x ∷ xs) → Ordered (x ∷ first ∷ xs)
      by (inl before) (all, same, order) = (
        first ∷ all,
        IsPermutation-trans (x ∷ first ∷ xs) (first ∷ x ∷ xs) (first ∷ all)
            (IsPermutation-middle (x ∷ []) first xs) (IsPermutation-cons first _ _ same),
        order_first first all order
            (λ other has. still_least x first xs up (omega (arith, before)) other
            (Contains-permutation all (x ∷ xs) other (IsPermutation-sym (x ∷ xs) all same) has)),
      )
      by (inr after) rest = (
        x ∷ first ∷ xs,
        IsPermutation-refl (x ∷ first ∷ xs),
        order_first x (first ∷ xs) up
            (λ other has. let le = first_least first xs other up has in omega (arith, after, le)),
      )

  pub some_order : (xs : List X) → Ordered xs
  some_order [] = ([], IsPermutation-refl [], IsNonDecreasingBy-short n [] (omega arith))
  some_order (x ∷ xs) =
      let (all, same, up) = some_order xs in
      let (more, moved, order) = with_one x all up in (
        more,
        IsPermutation-trans (x ∷ xs) (x ∷ all) more (IsPermutation-cons x _ _ same) moved,
        order,
      )
