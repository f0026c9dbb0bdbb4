-- Of merged breaches there is one list.
use Rattle.std.proofs.Common.{◌≡◌, ℕ, ◌<◌, ◌≤◌, true, false, List, [], ◌∷◌, Contains, ap, sym}
use Rattle.std.proofs.Common.{subst, refl, ◌∙◌, ◌⊎◌, inl, inr, arith}
use Rattle.std.proofs.lemmas.Bool.{cases_lt, false≢true}
use Rattle.std.proofs.lemmas.List.Elements.{All-contains, All-from_recursion, Contains-append_cases}
use Rattle.std.proofs.lemmas.List.Elements.{Contains-append_left, Contains-append_right}
use Rattle.std.specs.Cmp.{nat_cmp_is}
use Rattle.std.specs.List.{AllByRecursion}
use Rattle.std.specs.List.Sorted.{IsStrictlySortedBy}
use Rattle.std.specs.Ordering.{is_lt, nat_cmp, ordering_then}
use Rattle.std.specs.declared.cmp.Ordering.TheVariants.{Less, Equal, Greater}
use Rattle.sw_decl_words.specs.Placed.{placed_cmp}
use Rattle.sw_decl_words.specs.declared.placed.Placed.{Placed}
use Rattle.sw_isolation_rules.specs.Races.{IsMerged}

abbrev Before : Placed → Placed → Type 0
Before a b = (a.at < b.at) ⊎ ((a.at ≡ b.at) × (a.code < b.code))

by_first : (x y : ℕ) (c d : ℕ) → is_lt (ordering_then (nat_cmp x y) (nat_cmp c d)) ≡ true → x ≤ y
by_first x y c d is = elim (cases_lt y x) [
  | inl more ↦ absurd (false≢true
      (ap (λ r. is_lt (ordering_then r (nat_cmp c d))) (nat_cmp_is x y Greater more) ∙ is))
  | inr le ↦ le
]

by_second : (x y c d : ℕ) → x ≡ y → is_lt (ordering_then (nat_cmp x y) (nat_cmp c d)) ≡ true → c < d
by_second x y c d same is = elim (cases_lt c d) [
  | inl less ↦ less
  | inr le ↦ absurd (false≢true (sym (not_less c d le)
      ∙ (ap (λ r. is_lt (ordering_then r (nat_cmp c d))) (nat_cmp_is x y Equal same) ∙ is)))
] where
  not_less : (c d : ℕ) → d ≤ c → is_lt (nat_cmp c d) ≡ false
  not_less c d le = elim (cases_lt d c) [
    | inl more ↦ ap is_lt (sym (nat_cmp_is c d Greater more))
    | inr ge ↦ ap is_lt (sym (nat_cmp_is c d Equal (omega (arith, le, ge))))
  ]

before : (a b : Placed) → placed_cmp a b ≡ Less → Before a b
before a b is = elim (cases_lt a.at b.at) [
  | inl less ↦ inl less
  | inr le ↦ inr (
      let most = by_first a.at b.at a.code b.code (ap is_lt is) in
      let same : a.at ≡ b.at = omega (arith, le, most) in
      (same, by_second a.at b.at a.code b.code same (ap is_lt is)))
]

never_both : (a b : Placed) → Before a b → Before b a → ⊥
never_both a b (inl one) (inl other) = omega (arith, one, other)
never_both a b (inl one) (inr (same, less)) = omega (arith, one, same)
never_both a b (inr (same, less)) (inl other) = omega (arith, other, same)
never_both a b (inr (same, less)) (inr (also, more)) = omega (arith, less, more)

only : (y x : Placed) → Contains (y ∷ []) x → x ≡ y
only y x has =
    All-contains (λ z. z ≡ y) (y ∷ []) x
    (All-from_recursion (λ z. z ≡ y) (y ∷ []) (refl, tt)) has

after : (y : Placed) (ys : List Placed) (x : Placed)
    → AllByRecursion (λ z. placed_cmp y z ≡ Less) ys → Contains ys x → Before y x
after y ys x all has =
    before y x (All-contains (λ z. placed_cmp y z ≡ Less) ys x
    (All-from_recursion (λ z. placed_cmp y z ≡ Less) ys all) has)

nothing_in_nil : (x : Placed) → Contains [] x → ⊥
nothing_in_nil x has = let less = has.1 in omega (arith, less)

head_in : (x : Placed) (xs : List Placed) → Contains (x ∷ xs) x
head_in x xs = Contains-append_left (x ∷ []) xs x (0, (omega arith), refl)

heads : (x y : Placed) (xs ys : List Placed) → AllByRecursion (λ z. placed_cmp x z ≡ Less) xs
    → AllByRecursion (λ z. placed_cmp y z ≡ Less) ys → Contains (y ∷ ys) x → Contains (x ∷ xs) y
    → x ≡ y
heads x y xs ys one other has also = elim (Contains-append_cases (y ∷ []) ys x has) [
  | inl is ↦ only y x is
  | inr later ↦ elim (Contains-append_cases (x ∷ []) xs y also) [
    | inl is ↦ sym (only x y is)
    | inr late ↦ absurd (never_both x y (after x xs y one late) (after y ys x other later))
  ]
]

-- what stands after the first of one list stands after the same first of the other
rest : (x y : Placed) (xs ys : List Placed) → x ≡ y
    → AllByRecursion (λ z. placed_cmp x z ≡ Less) xs
    → ((p : Placed) → Contains (x ∷ xs) p → Contains (y ∷ ys) p)
    → (p : Placed) → Contains xs p → Contains ys p
rest x y xs ys same one all p has =
    elim (Contains-append_cases (y ∷ []) ys p (all p (Contains-append_right (x ∷ []) xs p has))) [
      | inl is ↦ absurd (let late = subst (λ z. Before x z) (only y p is ∙ sym same)
          (after x xs p one has) in never_both x x late late)
      | inr later ↦ later
    ]

one_list : (xs ys : List Placed) → IsStrictlySortedBy placed_cmp xs
    → IsStrictlySortedBy placed_cmp ys → ((p : Placed) → Contains xs p → Contains ys p)
    → ((p : Placed) → Contains ys p → Contains xs p) → xs ≡ ys
unfolding IsStrictlySortedBy
one_list [] [] one other there back = refl
one_list [] (y ∷ ys) one other there back =
    absurd (nothing_in_nil y (back y (head_in y ys)))
one_list (x ∷ xs) [] one other there back =
    absurd (nothing_in_nil x (there x (head_in x xs)))
one_list (x ∷ xs) (y ∷ ys) one other there back =
    let same = heads x y xs ys one.0 other.0 (there x (head_in x xs)) (back y (head_in y ys)) in
    let tails = one_list xs ys one.1 other.1 (rest x y xs ys same one.0 there)
    (rest y x ys xs (sym same) other.0 back) in
    ap (λ z. z ∷ xs) same ∙ ap (λ zs. y ∷ zs) tails

pub one_merged : (all one other : List Placed) → IsMerged all one → IsMerged all other
    → one ≡ other
one_merged all one other first second =
    one_list one other first.rises second.rises
    (λ p has. second.covers p (first.from p has)) (λ p has. first.covers p (second.from p has))
