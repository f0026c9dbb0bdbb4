-- Sets that can be searched: numbers below a bound, members of a list, lists of these up to a
-- length, and what is made of such.
use Rattle.std.proofs.Common.{◌≡◌, ℕ, zero, suc, ◌<◌, ◌≤◌, ◌⊎◌, inl, inr, Option, Some, None, List}
use Rattle.std.proofs.Common.{[], ◌∷◌, length, slice_index, Contains, refl, sym, subst, ap, ◌∙◌}
use Rattle.std.proofs.Common.{arith}
use Rattle.std.proofs.lemmas.List.{get_or_default, nil_from_length}
use Rattle.std.proofs.lemmas.List.Elements.{Contains-get_or}
use Rattle.std.proofs.lemmas.Option.{none-some, same_Some}
use Rattle.std.specs.List.{AllByRecursion}
use Rattle.sw_dictation.proofs.Deciding.{Searched}
use Rattle.sw_region_flow.proofs.Deciding.{Decided, not_decided, below_decided, first_below}

pub below_searched : (n : ℕ) → Searched (λ k. k < n)
below_searched n P decide =
    elim (first_below n (λ k. (k < n) × P k) (λ k. tell k (below_decided k n))) [
      | inl h ↦ inl (h.0, h.1, h.2.1)
      | inr none ↦ inr (λ k lt holds. none k lt (lt, holds))
    ]
  where
    tell : (k : ℕ) → Decided (k < n) → Decided ((k < n) × P k)
    tell k (inl lt) = elim (decide k lt) [
      | inl holds ↦ inl (lt, holds)
      | inr fails ↦ inr (λ h. fails h.1)
    ]
    tell k (inr past) = inr (λ h. past h.0)

pub one_searched : {A : Type 0} (a : A) → Searched (λ x. x ≡ a)
one_searched a P decide = elim (decide a refl) [
  | inl holds ↦ inl (a, refl, holds)
  | inr fails ↦ inr (λ x e holds. fails (subst P e holds))
]

pub option_searched : {A : Type 0} (o : Option A) → Searched (λ x. o ≡ Some x)
option_searched None P decide = inr (λ x e holds. none-some x e)
option_searched (Some a) P decide = elim (decide a refl) [
  | inl holds ↦ inl (a, refl, holds)
  | inr fails ↦ inr (λ x e holds. fails (subst P (sym (same_Some a x e)) holds))
]

module _ {A : Type 0} (Q : A → Type 0) (search : Searched Q) where
  pub same_searched : (R : A → Type 0) → ((a : A) → Q a → R a) → ((a : A) → R a → Q a)
      → Searched R
  same_searched R forth back P decide = elim (search P (λ a is. decide a (forth a is))) [
    | inl (a, is, holds) ↦ inl (a, forth a is, holds)
    | inr none ↦ inr (λ a is holds. none a (back a is) holds)
  ]

  -- those of which a fact holds too
  pub part_searched : (R : A → Type 0) → ((a : A) → Q a → Decided (R a))
      → Searched (λ a. Q a × R a)
  part_searched R tell P decide =
      elim (search (λ a. R a × P a) (λ a is. both a is (tell a is))) [
        | inl (a, is, (has, holds)) ↦ inl (a, (is, has), holds)
        | inr none ↦ inr (λ a is holds. none a is.0 (is.1, holds))
      ]
    where
      both : (a : A) → Q a → Decided (R a) → Decided (R a × P a)
      both a is (inl has) = elim (decide a (is, has)) [
        | inl holds ↦ inl (has, holds)
        | inr fails ↦ inr (λ h. fails h.1)
      ]
      both a is (inr lacks) = inr (λ h. lacks h.0)

  -- those of the sets that belong to these
  pub union_searched : {B : Type 0} (R : A → B → Type 0) → ((a : A) → Q a → Searched (R a))
      → Searched (λ b. (a : A) × Q a × R a b)
  union_searched {B} R each P decide =
      elim (search (λ a. (b : B) × R a b × P b)
      (λ a is. told a (each a is P (λ b has. decide b (a, is, has))))) [
        | inl (a, is, (b, has, holds)) ↦ inl (b, (a, is, has), holds)
        | inr none ↦ inr (λ b is holds. none is.0 is.1 (b, is.2, holds))
      ]
    where
      told : (a : A) → ((b : B) × R a b × P b) ⊎ ((b : B) → R a b → P b → ⊥)
          → Decided ((b : B) × R a b × P b)
      told a (inl h) = inl h
      told a (inr none) = inr (λ h. none h.0 h.1 h.2)

  -- what a function makes of these
  pub made_searched : {B : Type 0} (f : A → B) → Searched (λ b. (a : A) × Q a × (b ≡ f a))
  made_searched f = union_searched (λ a b. b ≡ f a) (λ a is. one_searched (f a))

  pub all_decided : (R : A → Type 0) → ((a : A) → Q a → Decided (R a))
      → Decided ((a : A) → Q a → R a)
  all_decided R tell = elim (search (λ a. R a → ⊥) (λ a is. not_decided (tell a is))) [
    | inl (a, is, fails) ↦ inr (λ all. fails (all a is))
    | inr none ↦ inl (λ a is. elim (tell a is) [
      | inl holds ↦ holds
      | inr fails ↦ absurd (none a is fails)
    ])
  ]

pub members_searched : (xs : List ℕ) → Searched (Contains xs)
members_searched xs = same_searched (λ x. (k : ℕ) × (k < length xs) × (x ≡ slice_index xs k))
    (made_searched (λ k. k < length xs) (below_searched (length xs)) (slice_index xs))
    (Contains xs)
    (λ x (k, within, at). subst (Contains xs) (sym at) (Contains-get_or xs k 0 within))
    (λ x (k, within, at). (k, within, sym (get_or_default xs k 0 x within ∙ at)))

-- ---- lists
abbrev pub AreOf : {A : Type 0} → (A → Type 0) → ℕ → List A → Type 0
AreOf Q n xs = (length xs ≡ n) × AllByRecursion Q xs

abbrev pub AreUpTo : {A : Type 0} → (A → Type 0) → ℕ → List A → Type 0
AreUpTo Q n xs = (length xs ≤ n) × AllByRecursion Q xs

-- a first one, and then a list
abbrev IsLonger : {A : Type 0} → (A → Type 0) → ℕ → List A → Type 0
IsLonger {A} Q n list = (x : A) × Q x × ((xs : List A) × AreOf Q n xs × (list ≡ x ∷ xs))

module _ {A : Type 0} (Q : A → Type 0) (search : Searched Q) where
  pub lists_searched : (n : ℕ) → Searched (AreOf Q n)
  lists_searched zero = same_searched (λ xs. xs ≡ []) (one_searched []) (AreOf Q 0)
      (λ xs e. subst (AreOf Q 0) (sym e) (refl, tt)) (λ xs are. nil_from_length xs are.0)
  lists_searched (suc n) = same_searched (IsLonger Q n)
      (union_searched Q search (λ x list. (xs : List A) × AreOf Q n xs × (list ≡ x ∷ xs))
      (λ x is. made_searched (AreOf Q n) (lists_searched n) (λ xs. x ∷ xs)))
      (AreOf Q (suc n)) put take_off
    where
      put : (list : List A) → IsLonger Q n list → AreOf Q (suc n) list
      put list (x, is, (xs, are, e)) =
          subst (AreOf Q (suc n)) (sym e) (ap suc are.0, (is, are.1))

      take_off : (list : List A) → AreOf Q (suc n) list → IsLonger Q n list
      take_off [] are = absurd (omega (arith, are.0))
      take_off (x ∷ xs) are = (x, are.1.0, (xs, (omega (arith, are.0), are.1.1), refl))

  pub short_lists_searched : (n : ℕ) → Searched (AreUpTo Q n)
  short_lists_searched n = same_searched (λ xs. (k : ℕ) × (k < suc n) × AreOf Q k xs)
      (union_searched (λ k. k < suc n) (below_searched (suc n)) (AreOf Q)
      (λ k lt. lists_searched k)) (AreUpTo Q n)
      (λ xs (k, lt, are). (omega (arith, lt, are.0), are.1))
      (λ xs are. (length xs, omega (arith, are.0), (refl, are.1)))
