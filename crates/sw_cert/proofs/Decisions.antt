-- Facts of each member of a list, of each number below a bound and of what an option has can be
-- decided.
use Rattle.std.proofs.Common.{◌≡◌, ℕ, ◌<◌, ◌⊎◌, inl, inr, Option, Some, None, List, [], ◌∷◌, ◌++◌}
use Rattle.std.proofs.Common.{Contains, refl, subst, ap}
use Rattle.std.proofs.lemmas.Option.{none-some}
use Rattle.std.specs.List.{AllByRecursion}
use Rattle.sw_list.proofs.ListLemmas.{some_injective}
use Rattle.sw_region_flow.proofs.Deciding.{Decided, first_below, not_decided}
use Rattle.sw_region_flow.proofs.OneSites.{member_cases, member_first, member_later, no_member}

-- a member of which the fact holds, or there is none
pub some_member : {X : Type 0} (P : X → Type 0) → ((x : X) → Decided (P x)) → (xs : List X)
    → Decided ((x : X) × Contains xs x × P x)
some_member P decide [] = inr (λ h. no_member h.0 h.1)
some_member {X} P decide (y ∷ ys) = by (decide y) (some_member P decide ys)
  where
    by : Decided (P y) → Decided ((x : X) × Contains ys x × P x)
        → Decided ((x : X) × Contains (y ∷ ys) x × P x)
    by (inl holds) rest = inl (y, member_first y ys, holds)
    by (inr non) (inl h) = inl (h.0, member_later y ys h.0 h.1, h.2)
    by (inr non) (inr none) = inr (λ h. elim (member_cases y ys h.0 h.1) [
      | inl e ↦ non (subst P e h.2)
      | inr later ↦ none (h.0, later, h.2)
    ])

-- the fact holds of each member, or not
pub each_member : {X : Type 0} (P : X → Type 0) → ((x : X) → Decided (P x)) → (xs : List X)
    → Decided ((x : X) → Contains xs x → P x)
each_member {X} P decide xs =
    by (some_member (λ x. P x → ⊥) (λ x. not_decided (decide x)) xs)
  where
    by : Decided ((x : X) × Contains xs x × (P x → ⊥)) → Decided ((x : X) → Contains xs x → P x)
    by (inl h) = inr (λ all. h.2 (all h.0 h.1))
    by (inr none) = inl (λ x has. elim (decide x) [
      | inl holds ↦ holds
      | inr non ↦ absurd (none (x, has, non))
    ])

-- the fact holds of each number below a bound, or not
pub each_below : (n : ℕ) (P : ℕ → Type 0) → ((k : ℕ) → Decided (P k))
    → Decided ((k : ℕ) → k < n → P k)
each_below n P decide = elim (first_below n (λ k. P k → ⊥) (λ k. not_decided (decide k))) [
  | inl h ↦ inr (λ all. h.2 (all h.0 h.1))
  | inr none ↦ inl (λ k lt. elim (decide k) [
    | inl holds ↦ holds
    | inr non ↦ absurd (none k lt non)
  ])
]

-- a fact from another that can be decided
pub from_decided : {P Q : Type 0} → Decided P → Decided Q → Decided (P → Q)
from_decided (inr non) q = inl (λ p. absurd (non p))
from_decided (inl p) (inl q) = inl (λ _. q)
from_decided (inl p) (inr none) = inr (λ f. none (f p))

-- the fact holds of what an option has, or not
pub of_option : {X : Type 0} (P : X → Type 0) (o : Option X)
    → ((x : X) → o ≡ Some x → Decided (P x)) → Decided ((x : X) → o ≡ Some x → P x)
of_option P None decide = inl (λ x e. absurd (none-some x e))
of_option {X} P (Some y) decide = by (decide y refl)
  where
    by : Decided (P y) → Decided ((x : X) → Some y ≡ Some x → P x)
    by (inl holds) = inl (λ x e. subst P (some_injective e) holds)
    by (inr non) = inr (λ all. non (all y refl))

-- a list's first member of which a fact doesn't hold
pub record IsFirstNot {X : Type 0} (P : X → Type 0) (xs : List X) : Type 0 where
  pub before : List X
  pub member : X
  pub behind : List X
  pub splits : xs ≡ before ++ member ∷ behind
  pub hold : AllByRecursion P before
  pub fails : P member → ⊥

pub first_not : {X : Type 0} (P : X → Type 0) → ((x : X) → Decided (P x)) → (xs : List X)
    → AllByRecursion P xs ⊎ IsFirstNot P xs
first_not P decide [] = inl tt
first_not P decide (y ∷ ys) = by (decide y) (first_not P decide ys)
  where
    by : Decided (P y) → AllByRecursion P ys ⊎ IsFirstNot P ys
        → AllByRecursion P (y ∷ ys) ⊎ IsFirstNot P (y ∷ ys)
    by (inr non) rest = inr (record {
      before = [];
      member = y;
      behind = ys;
      splits = refl;
      hold = tt;
      fails = non;
    })
    by (inl holds) (inl all) = inl (holds, all)
    by (inl holds) (inr first) = inr (record {
      before = y ∷ first.before;
      member = first.member;
      behind = first.behind;
      splits = ap (λ zs. y ∷ zs) first.splits;
      hold = (holds, first.hold);
      fails = first.fails;
    })
