-- What is true or false, and can be decided.
use Rattle.std.proofs.Common.{◌≡◌, ℕ, zero, suc, ◌<◌, ◌⊎◌, inl, inr, Bool, true, false}
use Rattle.std.proofs.Common.{List, [], ◌∷◌, Contains, refl, sym, subst, arith}
use Rattle.std.proofs.lemmas.Bool.{cases_eq, cases_lt}
use Rattle.sw_region_flow.proofs.OneSites.{member_cases, member_first, member_later, no_member}

-- a fact that holds or doesn't
abbrev pub Decided : Type 0 → Type 0
Decided P = P ⊎ (P → ⊥)

pub both_decided : {P Q : Type 0} → Decided P → Decided Q → Decided (P × Q)
both_decided (inl p) (inl q) = inl (p, q)
both_decided (inl p) (inr non) = inr (λ h. non h.1)
both_decided (inr non) q = inr (λ h. non h.0)

pub either_decided : {P Q : Type 0} → Decided P → Decided Q → Decided (P ⊎ Q)
either_decided (inl p) q = inl (inl p)
either_decided (inr non) (inl q) = inl (inr q)
either_decided {P} {Q} (inr non) (inr none) = inr neither
  where
    neither : P ⊎ Q → ⊥
    neither (inl p) = non p
    neither (inr q) = none q

pub not_decided : {P : Type 0} → Decided P → Decided (P → ⊥)
not_decided (inl p) = inr (λ non. non p)
not_decided (inr non) = inl non

pub same_decided : (x y : ℕ) → Decided (x ≡ y)
same_decided x y = cases_eq x y

pub below_decided : (x y : ℕ) → Decided (x < y)
below_decided x y = elim (cases_lt x y) [
  | inl lt ↦ inl lt
  | inr ge ↦ inr (λ lt. omega arith)
]

pub member_decided : (xs : List ℕ) (x : ℕ) → Decided (Contains xs x)
member_decided [] x = inr (no_member x)
member_decided (y ∷ ys) x = elim (cases_eq x y) [
  | inl e ↦ inl (subst (λ z. Contains (y ∷ ys) z) (sym e) (member_first y ys))
  | inr other ↦ elim (member_decided ys x) [
    | inl has ↦ inl (member_later y ys x has)
    | inr none ↦ inr (λ has. elim (member_cases y ys x has) [
      | inl e ↦ other e
      | inr later ↦ none later
    ])
  ]
]

-- the first number below a bound of which a fact holds, or it holds of none
pub first_below : (n : ℕ) (P : ℕ → Type 0) → ((k : ℕ) → Decided (P k))
    → ((k : ℕ) × (k < n) × P k × ((j : ℕ) → j < k → P j → ⊥)) ⊎ ((k : ℕ) → k < n → P k → ⊥)
first_below zero P decide = inr (λ k lt p. omega arith)
first_below (suc n) P decide = elim (first_below n P decide) [
  | inl h ↦ inl (h.0, omega (arith, h.1), h.2, h.3)
  | inr none ↦ elim (decide n) [
    | inl p ↦ inl (n, omega arith, p, none)
    | inr non ↦ inr (λ k lt p. elim (cases_eq k n) [
      | inl e ↦ non (subst P e p)
      | inr other ↦ none k (omega (arith, other)) p
    ])
  ]
]

-- the answer as a test
abbrev pub test : {P : Type 0} → Decided P → Bool
test (inl p) = true
test (inr non) = false

pub test_holds : {P : Type 0} (d : Decided P) → test d ≡ true → P
test_holds (inl p) e = p
test_holds (inr non) e = cc

pub holds_test : {P : Type 0} (d : Decided P) → P → test d ≡ true
holds_test (inl p) holds = refl
holds_test (inr non) holds = absurd (non holds)

-- facts that hold together have one test
pub tests_same : {P Q : Type 0} (d : Decided P) (e : Decided Q) → (P → Q) → (Q → P)
    → test d ≡ test e
tests_same (inl p) (inl q) forth back = refl
tests_same (inl p) (inr non) forth back = absurd (non (forth p))
tests_same (inr non) (inl q) forth back = absurd (non (back q))
tests_same (inr non) (inr none) forth back = refl
