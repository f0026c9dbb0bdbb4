-- Of any breaches there is a list in order, each once.
use Rattle.std.proofs.Common.{◌≡◌, ℕ, List, [], ◌∷◌, Contains, ap, sym, subst, refl, ◌∙◌, arith}
use Rattle.std.proofs.Common.{◌⊎◌, inl, inr}
use Rattle.std.proofs.lemmas.List.Elements.{Contains-append_cases, Contains-append_left}
use Rattle.std.proofs.lemmas.List.Elements.{Contains-append_right}
use Rattle.std.specs.List.{AllByRecursion}
use Rattle.std.specs.List.Sorted.{IsStrictlySortedBy}
use Rattle.std.proofs.lemmas.Cmp.{nat_cmp_total, on_total, ranked, then_total}
use Rattle.std.proofs.lemmas.List.Elements.{All-contains, All-from_recursion}
use Rattle.std.specs.Cmp.{IsTotalOrder}
use Rattle.std.specs.Ordering.{nat_cmp, ordering_reverse, ordering_then}
use Rattle.std.specs.declared.cmp.Ordering.{Ordering}
use Rattle.std.specs.declared.cmp.Ordering.TheVariants.{Less, Equal, Greater}
use Rattle.sw_decl_words.specs.Placed.{placed_cmp}
use Rattle.sw_decl_words.specs.declared.placed.Placed.{Placed}
use Rattle.sw_isolation_rules.specs.Races.{IsMerged}

in_total : IsTotalOrder placed_cmp
in_total =
    then_total (on_total (λ (p : Placed). p.at) nat_cmp_total)
    (on_total (λ (p : Placed). p.code) nat_cmp_total)

both_equal : (a b : Ordering) → ordering_then a b ≡ Equal → (a ≡ Equal) × (b ≡ Equal)
both_equal Less b is = let never : Less ≡ Equal = is in cc
both_equal Equal b is = (refl, is)
both_equal Greater b is = let never : Greater ≡ Equal = is in cc

same_number : (x y : ℕ) → nat_cmp x y ≡ Equal → x ≡ y
same_number x y is = ranked x y Equal (sym is)

-- one more breach, where it belongs
abbrev put_by : Ordering → Placed → Placed → List Placed → List Placed → List Placed
put_by Less one head tail more = one ∷ head ∷ tail
put_by Equal one head tail more = head ∷ tail
put_by Greater one head tail more = head ∷ more

abbrev put : Placed → List Placed → List Placed
put one [] = one ∷ []
put one (head ∷ tail) = put_by (placed_cmp one head) one head tail (put one tail)

head_in : (one : Placed) (list : List Placed) → Contains (one ∷ list) one
head_in one list = Contains-append_left (one ∷ []) list one (0, (omega arith), refl)

tail_in : (head one : Placed) (list : List Placed) → Contains list one → Contains (head ∷ list) one
tail_in head one list has = Contains-append_right (head ∷ []) list one has

in_cons : (head one : Placed) (list : List Placed) → Contains (head ∷ list) one
    → Contains (head ∷ []) one ⊎ Contains list one
in_cons head one list has = Contains-append_cases (head ∷ []) list one has

equal : (one other : Placed) → placed_cmp one other ≡ Equal → other ≡ one
equal one other is =
    let parts = both_equal (nat_cmp one.at other.at) (nat_cmp one.code other.code) is in
    let at = sym (same_number one.at other.at parts.0) in
    let code = sym (same_number one.code other.code parts.1) in
    λ i. record { at = at i; code = code i }

greater : (one other : Placed) → placed_cmp one other ≡ Greater → placed_cmp other one ≡ Less
greater one other is = in_total.antisymm other one ∙ ap ordering_reverse is

put_in : (one : Placed) (list : List Placed) → Contains (put one list) one
put_in one [] = head_in one []
put_in one (head ∷ tail) = by (placed_cmp one head) refl (put_in one tail) where
  by : (r : Ordering) → placed_cmp one head ≡ r → Contains (put one tail) one
      → Contains (put_by r one head tail (put one tail)) one
  by Less is more = head_in one (head ∷ tail)
  by Equal is more = subst (Contains (head ∷ tail)) (equal one head is) (head_in head tail)
  by Greater is more = tail_in head one (put one tail) more

put_keeps : (one other : Placed) (list : List Placed) → Contains list other
    → Contains (put one list) other
put_keeps one other [] has = tail_in one other [] has
put_keeps one other (head ∷ tail) has =
    by (placed_cmp one head) (in_cons head other tail has) (put_keeps one other tail) where
      by : (r : Ordering) → Contains (head ∷ []) other ⊎ Contains tail other
          → (Contains tail other → Contains (put one tail) other)
          → Contains (put_by r one head tail (put one tail)) other
      by Less places more = tail_in one other (head ∷ tail) has
      by Equal places more = has
      by Greater (inl first) more = Contains-append_left (head ∷ []) (put one tail) other first
      by Greater (inr later) more = tail_in head other (put one tail) (more later)

put_from : (one other : Placed) (list : List Placed) → Contains (put one list) other
    → Contains (one ∷ list) other
put_from one other [] has = has
put_from one other (head ∷ tail) has =
    by (placed_cmp one head) has (put_from one other tail) where
      by : (r : Ordering) → Contains (put_by r one head tail (put one tail)) other
          → (Contains (put one tail) other → Contains (one ∷ tail) other)
          → Contains (one ∷ head ∷ tail) other
      by Less has more = has
      by Equal has more = tail_in one other (head ∷ tail) has
      by Greater has more = elim (in_cons head other (put one tail) has) [
        | inl first ↦ tail_in one other (head ∷ tail)
            (Contains-append_left (head ∷ []) tail other first)
        | inr later ↦ elim (in_cons one other tail (more later)) [
          | inl new ↦ Contains-append_left (one ∷ []) (head ∷ tail) other new
          | inr old ↦ tail_in one other (head ∷ tail) (tail_in head other tail old)
        ]
      ]

-- what holds of all holds where one more is put
put_all : (P : Placed → Type 0) (one : Placed) (list : List Placed) → P one
    → AllByRecursion P list → AllByRecursion P (put one list)
put_all P one [] is all = (is, tt)
put_all P one (head ∷ tail) is all =
    by (placed_cmp one head) (put_all P one tail is all.1) where
      by : (r : Ordering) → AllByRecursion P (put one tail)
          → AllByRecursion P (put_by r one head tail (put one tail))
      by Less more = (is, all)
      by Equal more = all
      by Greater more = (all.0, more)

further : (one head : Placed) (list : List Placed) → placed_cmp one head ≡ Less
    → AllByRecursion (λ z. placed_cmp head z ≡ Less) list
    → AllByRecursion (λ z. placed_cmp one z ≡ Less) list
further one head [] less all = tt
further one head (z ∷ list) less all =
    (in_total.trans one head z less all.0, further one head list less all.1)

put_rises : (one : Placed) (list : List Placed) → IsStrictlySortedBy placed_cmp list
    → IsStrictlySortedBy placed_cmp (put one list)
unfolding IsStrictlySortedBy
put_rises one [] rises = (tt, tt)
put_rises one (head ∷ tail) rises =
    by (placed_cmp one head) refl (put_rises one tail rises.1) where
      by : (r : Ordering) → placed_cmp one head ≡ r → IsStrictlySortedBy placed_cmp (put one tail)
          → IsStrictlySortedBy placed_cmp (put_by r one head tail (put one tail))
      by Less is more = ((is, further one head tail is rises.0), rises)
      by Equal is more = rises
      by Greater is more = (
        put_all (λ z. placed_cmp head z ≡ Less) one tail (greater one head is) rises.0,
        more,
      )

put_merged : (one : Placed) (all merged : List Placed) → IsMerged all merged
    → IsMerged (one ∷ all) (put one merged)
put_merged one all merged is = record {
  rises = put_rises one merged is.rises;
  from = λ other has. elim (in_cons one other merged (put_from one other merged has)) [
    | inl new ↦ Contains-append_left (one ∷ []) all other new
    | inr old ↦ tail_in one other all (is.from other old)
  ];
  covers = λ other has. elim (in_cons one other all has) [
    | inl new ↦ subst (Contains (put one merged)) (sym (only one other new)) (put_in one merged)
    | inr old ↦ put_keeps one other merged (is.covers other old)
  ];
} where
  only : (one other : Placed) → Contains (one ∷ []) other → other ≡ one
  only one other has =
      All-contains (λ z. z ≡ one) (one ∷ []) other
      (All-from_recursion (λ z. z ≡ one) (one ∷ []) (refl, tt)) has

pub some_merged : (all : List Placed) → (merged : List Placed) × IsMerged all merged
unfolding IsStrictlySortedBy
some_merged [] = ([], record { rises = tt; from = λ one has. has; covers = λ one has. has })
some_merged (one ∷ all) =
    let (merged, is) = some_merged all in (put one merged, put_merged one all merged is)
