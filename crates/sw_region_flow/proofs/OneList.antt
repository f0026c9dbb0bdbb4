-- A graph has one list of breaches, in order.
use Rattle.std.proofs.Common.{◌≡◌, ℕ, suc, ◌<◌, ◌⊎◌, inl, inr, Option, Some}
use Rattle.std.proofs.Common.{None, List, [], ◌∷◌, Contains, refl, sym, subst, ap}
use Rattle.std.proofs.Common.{◌∙◌, arith}
use Rattle.std.specs.List.{AllByRecursion, AllPairs}
use Rattle.std.specs.List.Sorted.{IsStrictlySortedBy}
use Rattle.std.specs.Option.{option_cmp}
use Rattle.std.specs.Ordering.{nat_cmp, ordering_then}
use Rattle.std.specs.declared.cmp.Ordering.TheVariants.{Less, Equal}
use Rattle.std.proofs.lemmas.Cmp.{ranked, by_ranked}
use Rattle.sw_breach.specs.Order.{breach_cmp}
use Rattle.sw_breach.specs.declared.Breach.{Breach}
use Rattle.sw_graph.specs.declared.graph.Graph.{Graph}
use Rattle.sw_region_flow.proofs.OneSites.{member_cases, member_first, member_later, no_member}
use Rattle.sw_region_flow.specs.Breaches.{AreAll, AreBreaches, IsBefore, IsBreachOf, IsNoteAtMost}

-- a rising list: its first breach is before the others, and these rise
pub first_before : (b : Breach) (bs : List Breach) → AllPairs IsBefore (b ∷ bs) → (other : Breach)
    → Contains bs other → IsBefore b other
first_before b bs rising other (k, within, e) =
    subst (λ x. IsBefore b x) e (rising 0 (suc k) other (omega arith) (omega arith))

pub rest_rises : (b : Breach) (bs : List Breach) → AllPairs IsBefore (b ∷ bs) → AllPairs IsBefore bs
rest_rises b bs rising i j d lt within =
    rising (suc i) (suc j) d (omega arith) (omega (arith, within))

never_both : (one other : Breach) → IsBefore one other → IsBefore other one → ⊥
never_both one other (inl first) (inl second) = omega arith
never_both one other (inl first) (inr second) = omega (arith, second.0)
never_both one other (inr first) (inl second) = omega (arith, first.0)
never_both one other (inr first) (inr second) = omega (arith, first.1, second.1)

not_alike : (one other : Breach) → one.at ≡ other.at → one.code ≡ other.code → IsBefore one other
    → ⊥
not_alike one other at code (inl first) = omega arith
not_alike one other at code (inr first) = omega (arith, first.1)

-- two breaches of a rising list with one position and one code are one
alike_are_one : (list : List Breach) → AllPairs IsBefore list → (one other : Breach)
    → Contains list one → Contains list other → one.at ≡ other.at → one.code ≡ other.code
    → one ≡ other
alike_are_one [] rising one other has has_too at code = absurd (no_member one has)
alike_are_one (b ∷ bs) rising one other has has_too at code =
    by (alike_are_one bs (rest_rises b bs rising) one other) (member_cases b bs one has)
    (member_cases b bs other has_too)
  where
    by : (Contains bs one → Contains bs other → one.at ≡ other.at → one.code ≡ other.code
        → one ≡ other) → (one ≡ b) ⊎ Contains bs one → (other ≡ b) ⊎ Contains bs other
        → one ≡ other
    by among (inl e) (inl e_too) = e ∙ sym e_too
    by among (inl e) (inr later) = absurd (not_alike one other at code
        (subst (λ x. IsBefore x other) (sym e) (first_before b bs rising other later)))
    by among (inr later) (inl e) = absurd (not_alike other one (sym at) (sym code)
        (subst (λ x. IsBefore x one) (sym e) (first_before b bs rising one later)))
    by among (inr later) (inr later_too) = among later later_too at code

-- rising lists of the same breaches are one
same_are_one : (xs ys : List Breach) → AllPairs IsBefore xs → AllPairs IsBefore ys
    → ((b : Breach) → Contains xs b → Contains ys b)
    → ((b : Breach) → Contains ys b → Contains xs b) → xs ≡ ys
same_are_one [] [] first second forth back = refl
same_are_one [] (y ∷ ys) first second forth back =
    absurd (no_member y (back y (member_first y ys)))
same_are_one (x ∷ xs) [] first second forth back =
    absurd (no_member x (forth x (member_first x xs)))
same_are_one (x ∷ xs) (y ∷ ys) first second forth back =
    ap (λ b. b ∷ xs) heads ∙ ap (λ bs. y ∷ bs)
    (same_are_one xs ys (rest_rises x xs first) (rest_rises y ys second)
    (λ b has. in_rest x xs y ys heads first b (forth b (member_later x xs b has)) has)
    (λ b has. in_rest y ys x xs (sym heads) second b (back b (member_later y ys b has)) has))
  where
    heads : x ≡ y
    heads = elim (member_cases y ys x (forth x (member_first x xs))) [
      | inl e ↦ e
      | inr x_later ↦ elim (member_cases x xs y (back y (member_first y ys))) [
        | inl e ↦ sym e
        | inr y_later ↦ absurd (never_both x y (first_before x xs first y y_later)
            (first_before y ys second x x_later))
      ]
    ]

    in_rest : (a : Breach) (rest : List Breach) (c : Breach) (cs : List Breach) → a ≡ c
        → AllPairs IsBefore (a ∷ rest) → (b : Breach) → Contains (c ∷ cs) b → Contains rest b
        → Contains cs b
    in_rest a rest c cs e rising b there has = elim (member_cases c cs b there) [
      | inl is ↦ let h = first_before a rest rising b has in
          let same : b ≡ a = is ∙ sym e in
          absurd (not_alike a b (ap (λ x. x.at) (sym same)) (ap (λ x. x.code) (sym same)) h)
      | inr later ↦ later
    ]

notes_same : (a b : Option ℕ) → IsNoteAtMost a b → IsNoteAtMost b a → a ≡ b
notes_same None None first second = refl
notes_same None (Some y) first second = absurd second
notes_same (Some x) None first second = absurd first
notes_same (Some x) (Some y) first second = let e : x ≡ y = omega arith in ap Some e

breach_same : (a b : Breach) → a.at ≡ b.at → a.code ≡ b.code → a.note ≡ b.note → a ≡ b
breach_same a b at code note = ap (λ x. record { code = x; at = a.at; note = a.note }) code
    ∙ ap (λ x. record { code = b.code; at = x; note = a.note }) at
    ∙ ap (λ x. record { code = b.code; at = b.at; note = x }) note

-- a breach of one list stands in the other
within_other : (Is : Breach → Type 0) (xs ys : List Breach) → AreAll Is xs → AreAll Is ys
    → (b : Breach) → Contains xs b → Contains ys b
within_other Is xs ys first second b has =
    let other = second.complete b (first.sound b has) in
    let back = first.complete other.0 (second.sound other.0 other.1) in
    let one : back.0 ≡ b = alike_are_one xs first.rising back.0 b back.1 has
    (back.2.at ∙ other.2.at) (back.2.code ∙ other.2.code) in
    let same : other.0 ≡ b = breach_same other.0 b other.2.at other.2.code
    (notes_same other.0.note b.note other.2.note
    (subst (λ x. IsNoteAtMost x.note other.0.note) one back.2.note)) in
    subst (λ x. Contains ys x) same other.1

-- the breaches of a kind have one list at most
pub one_of_kind : (Is : Breach → Type 0) (a b : List Breach) → AreAll Is a → AreAll Is b → a ≡ b
one_of_kind Is a b first second = same_are_one a b first.rising second.rising
    (within_other Is a b first second) (within_other Is b a second first)

-- a graph has one list of breaches at most
pub one_list : (graph : Graph) (a b : List Breach) → AreBreaches graph a → AreBreaches graph b
    → a ≡ b
one_list graph = one_of_kind (IsBreachOf graph)

-- the order of breaches
less_at : (x y : ℕ) → x < y → nat_cmp x y ≡ Less
less_at x y lt = by_ranked (x < y) (x ≡ y) (y < x) (nat_cmp x y) (ranked x y (nat_cmp x y) refl)
    (λ e _. e) (λ _ same. absurd (omega arith)) (λ _ more. absurd (omega arith))

same_at : (x y : ℕ) → x ≡ y → nat_cmp x y ≡ Equal
same_at x y same = by_ranked (x < y) (x ≡ y) (y < x) (nat_cmp x y) (ranked x y (nat_cmp x y) refl)
    (λ _ less. absurd (omega arith)) (λ e _. e) (λ _ more. absurd (omega arith))

before_less : (one other : Breach) → IsBefore one other → breach_cmp one other ≡ Less
before_less one other (inl at) =
    ap (λ o. ordering_then (ordering_then o (nat_cmp one.code other.code))
    (option_cmp nat_cmp one.note other.note)) (less_at one.at other.at at)
before_less one other (inr code) =
    ap (λ o. ordering_then (ordering_then o (nat_cmp one.code other.code))
    (option_cmp nat_cmp one.note other.note)) (same_at one.at other.at code.0)
    ∙ ap (λ o. ordering_then o (option_cmp nat_cmp one.note other.note))
    (less_at one.code other.code code.1)

-- what holds of each breach of a list
pub each_breach : (P : Breach → Type 0) (list : List Breach)
    → ((b : Breach) → Contains list b → P b) → AllByRecursion P list
each_breach P [] holds = tt
each_breach P (b ∷ bs) holds = (
  holds b (member_first b bs),
  each_breach P bs (λ other has. holds other (member_later b bs other has)),
)

rising_sorted : (list : List Breach) → AllPairs IsBefore list → IsStrictlySortedBy breach_cmp list
unfolding IsStrictlySortedBy
rising_sorted [] rising = tt
rising_sorted (b ∷ bs) rising = (
  each_breach (λ other. breach_cmp b other ≡ Less) bs
      (λ other has. before_less b other (first_before b bs rising other has)),
  rising_sorted bs (rest_rises b bs rising),
)

-- the breaches of a kind stand in order, each once
pub kind_in_order : (Is : Breach → Type 0) (list : List Breach) → AreAll Is list
    → IsStrictlySortedBy breach_cmp list
kind_in_order Is list are = rising_sorted list are.rising

-- the breaches of a graph stand in order, each once
pub list_in_order : (graph : Graph) (list : List Breach) → AreBreaches graph list
    → IsStrictlySortedBy breach_cmp list
list_in_order graph = kind_in_order (IsBreachOf graph)
