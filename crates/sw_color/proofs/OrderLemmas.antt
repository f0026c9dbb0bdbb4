-- Numbers in rising order, each once.
use Rattle.std.proofs.Common.{◌≡◌, ℕ, suc, ◌<◌, ◌≤◌, Bool, true, false, cond, eqb, ltb, List, [], ◌∷◌}
use Rattle.std.proofs.Common.{fold, refl, ap, sym, ◌∙◌, subst, arith, Contains}
use Rattle.std.specs.List.{All, AllPairs, dedup}
use Rattle.std.specs.List.Sorted.{IsStrictlyIncreasing, IsPermutation}
use Rattle.std.proofs.lemmas.Bool.Decides.{nat_tests}
use Rattle.std.proofs.lemmas.List.Elements.{All-nil, All-cons, All-head, All-tail, All-weaker}
use Rattle.std.proofs.lemmas.List.Elements.{All-contains, All-contains_itself}
use Rattle.std.proofs.lemmas.List.Kept.{Contains-dedup_nat, Contains-from_dedup, AllPairs-from_increasing}
use Rattle.std.proofs.lemmas.List.Sorted.{Contains-permutation, IsPermutation-sym}
use Rattle.sw_color_rules.specs.Tints.{inserted, in_order}
use Rattle.sw_color_rules.proofs.NumberLemmas.{all_inserted, all_ordered}

abbrev Rises : List ℕ → Type 0
Rises [] = Unit {0}
Rises (n ∷ ns) = All (λ m. n < m) ns × Rises ns

rising_pairs : (ns : List ℕ) → AllPairs (λ m n. m < n) ns → Rises ns
rising_pairs [] pairs = tt
rising_pairs (n ∷ ns) pairs = (
  λ k d inside. pairs 0 (suc k) d (omega arith) (omega (arith, inside)),
  rising_pairs ns
      (λ i j d less inside. pairs (suc i) (suc j) d (omega (arith, less)) (omega (arith, inside))),
)

-- ---- the definition
inserted_rises : (n : ℕ) (ns : List ℕ) → Rises ns → Rises (inserted n ns)
inserted_rises n [] rises = (All-nil (λ m. n < m), tt)
inserted_rises n (m ∷ ms) rises =
    by (ltb n m) (eqb n m) refl refl (inserted_rises n ms rises.1) where
      by : (low same : Bool) → ltb n m ≡ low → eqb n m ≡ same → Rises (inserted n ms)
          → Rises (cond low (n ∷ m ∷ ms) (cond same (m ∷ ms) (m ∷ inserted n ms)))
      by true same low_is same_is rest =
          let less : n < m = grind (arith, nat_tests) in (
            All-cons (λ k. n < k) m ms less
                (All-weaker (λ k. m < k) (λ k. n < k) (λ k l. omega (arith, less, l)) ms rises.0),
            rises,
          )
      by false true low_is same_is rest = rises
      by false false low_is same_is rest =
          let less : m < n = grind (arith, nat_tests) in
          (all_inserted (λ k. m < k) n ms less rises.0, rest)

ordered_rises : (done ns : List ℕ) → Rises done → Rises (fold (λ ms n. inserted n ms) done ns)
ordered_rises done [] rises = rises
ordered_rises done (n ∷ ns) rises =
    ordered_rises (inserted n done) ns (inserted_rises n done rises)

from_inserted : (P : ℕ → Type 0) (n : ℕ) (ns : List ℕ) → All P (inserted n ns) → P n × All P ns
from_inserted P n [] all = (All-head P n [] all, All-nil P)
from_inserted P n (m ∷ ms) all =
    by (ltb n m) (eqb n m) refl (from_inserted P n ms) all where
      by : (low same : Bool) → eqb n m ≡ same → (All P (inserted n ms) → P n × All P ms)
          → All P (cond low (n ∷ m ∷ ms) (cond same (m ∷ ms) (m ∷ inserted n ms)))
          → P n × All P (m ∷ ms)
      by true same same_is rest given = (All-head P n (m ∷ ms) given, All-tail P n (m ∷ ms) given)
      by false true same_is rest given =
          let is : m ≡ n = grind (arith, nat_tests) in
          (subst P is (All-head P m ms given), given)
      by false false same_is rest given =
          let both = rest (All-tail P m (inserted n ms) given) in
          (both.0, All-cons P m ms (All-head P m (inserted n ms) given) both.1)

from_ordered : (P : ℕ → Type 0) (done ns : List ℕ) → All P (fold (λ ms n. inserted n ms) done ns)
    → All P done × All P ns
from_ordered P done [] all = (all, All-nil P)
from_ordered P done (n ∷ ns) all =
    let rest = from_ordered P (inserted n done) ns all in
    let both = from_inserted P n done rest.0 in (both.1, All-cons P n ns both.0 rest.1)

-- ---- there is one such list
tails : (P : ℕ → Type 0) (m n : ℕ) (ms ns : List ℕ) → m ≡ n → All (λ k. m < k) ms
    → ((Q : ℕ → Type 0) → All Q (n ∷ ns) → All Q (m ∷ ms)) → All P ns → All P ms
tails P m n ms ns same above within all =
    λ k d inside. all_after k d inside (above k d inside) where
      all_after : All (λ k. m < k → P k) ms
      all_after = All-tail (λ k. m < k → P k) m ms
          (within (λ k. m < k → P k)
          (All-cons (λ k. m < k → P k) n ns (λ less. absurd (omega (arith, less, same)))
          (All-weaker P (λ k. m < k → P k) (λ k p less. p) ns all)))

lowest : (m n : ℕ) (ms ns : List ℕ) → All (λ k. n < k) ns
    → ((Q : ℕ → Type 0) → All Q (n ∷ ns) → All Q (m ∷ ms)) → n ≤ m
lowest m n ms ns above within =
    All-head (λ k. n ≤ k) m ms
    (within (λ k. n ≤ k)
    (All-cons (λ k. n ≤ k) n ns (omega arith)
    (All-weaker (λ k. n < k) (λ k. n ≤ k) (λ k less. omega (arith, less)) ns above)))

one_list : (ms ns : List ℕ) → Rises ms → Rises ns
    → ((P : ℕ → Type 0) → All P ns → All P ms) → ((P : ℕ → Type 0) → All P ms → All P ns) → ms ≡ ns
one_list [] [] one other there back = refl
one_list [] (n ∷ ns) one other there back =
    absurd (All-head (λ k. ⊥) n ns (back (λ k. ⊥) (All-nil (λ k. ⊥))))
one_list (m ∷ ms) [] one other there back =
    absurd (All-head (λ k. ⊥) m ms (there (λ k. ⊥) (All-nil (λ k. ⊥))))
one_list (m ∷ ms) (n ∷ ns) one other there back =
    let same : m ≡ n =
    omega (arith, lowest m n ms ns other.0 there, lowest n m ns ms one.0 back) in
    ap (λ k. k ∷ ms) same
    ∙ ap (λ l. n ∷ l) (one_list ms ns one.1 other.1
    (λ P. tails P m n ms ns same one.0 there) (λ P. tails P n m ns ms (sym same) other.0 back))

-- what sorting and dropping doubles leaves
ordered : (ns sorted : List ℕ) → IsPermutation ns sorted → IsStrictlyIncreasing (dedup eqb sorted)
    → dedup eqb sorted ≡ in_order ns
unfolding in_order
ordered ns sorted moved increasing =
    one_list (dedup eqb sorted) (fold (λ ms n. inserted n ms) [] ns)
    (rising_pairs (dedup eqb sorted) (AllPairs-from_increasing (dedup eqb sorted) increasing))
    (ordered_rises [] ns tt)
    (λ P all. of_all P (dedup eqb sorted) ns
    (λ n has. Contains-permutation _ _ n (IsPermutation-sym _ _ moved)
    (Contains-from_dedup eqb sorted n has)) (from_ordered P [] ns all).1)
    (λ P all. all_ordered P [] ns (All-nil P)
    (of_all P ns (dedup eqb sorted)
    (λ n has. Contains-dedup_nat sorted n (Contains-permutation _ _ n moved has)) all)) where
      of_all : (P : ℕ → Type 0) (ms ns : List ℕ) → ((n : ℕ) → Contains ms n → Contains ns n)
          → All P ns → All P ms
      of_all P ms ns within all =
          All-weaker (Contains ms) P (λ n has. All-contains P ns n all (within n has)) ms
          (All-contains_itself ms)

pub put_in_order : (ns given sorted left : List ℕ) → given ≡ ns → IsPermutation given sorted
    → left ≡ dedup eqb sorted → IsStrictlyIncreasing (dedup eqb sorted) → left ≡ in_order ns
put_in_order ns given sorted left same moved left_is increasing =
    left_is ∙ ordered ns sorted (subst (λ l. IsPermutation l sorted) same moved) increasing
