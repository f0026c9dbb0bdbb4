-- Lemmas on transitive closures.
use Rattle.std.proofs.Common.{◌≡◌, ℕ, ◌<◌, ◌⊎◌, inl, inr, refl, subst, arith}
use Rattle.sw_before.specs.Closure.{Closure, one, through}

pub mapped : (R S : ℕ → ℕ → Type 0) → ((p q : ℕ) → R p q → S p q) → (p q : ℕ)
    → Closure R p q → Closure S p q
mapped R S f _ _ (one p q r) = one p q (f p q r)
mapped R S f _ _ (through p q r a b) = through p q r (mapped R S f p q a) (mapped R S f q r b)

-- the same position, or an earlier one that leads there
abbrev pub OrSame : (ℕ → ℕ → Type 0) → ℕ → ℕ → Type 0
OrSame R p q = (p ≡ q) ⊎ Closure R p q

onto : (R : ℕ → ℕ → Type 0) (p q s : ℕ) → Closure R p q → OrSame R q s → Closure R p s
onto R p q s a (inl e) = subst (λ v. Closure R p v) e a
onto R p q s a (inr b) = through p q s a b

-- the last step of a path
pub last_step : (R : ℕ → ℕ → Type 0) (p r : ℕ) → Closure R p r
    → (q : ℕ) × OrSame R p q × R q r
last_step R _ _ (one p q r) = (p, inl refl, r)
last_step R _ _ (through p q r a b) =
    let h = last_step R q r b in (h.0, inr (onto R p q h.0 a h.1), h.2)

pub rises : (R : ℕ → ℕ → Type 0) → ((p q : ℕ) → R p q → p < q) → (p q : ℕ) → Closure R p q
    → p < q
rises R rise _ _ (one p q r) = rise p q r
rises R rise _ _ (through p q r a b) = omega (arith, rises R rise p q a, rises R rise q r b)

-- where steps rise, a path has only steps that end below its own end
pub bounded : (R S : ℕ → ℕ → Type 0) (n : ℕ) → ((p q : ℕ) → R p q → p < q)
    → ((p q : ℕ) → q < n → R p q → S p q) → (p q : ℕ) → q < n → Closure R p q → Closure S p q
bounded R S n rise f _ _ below (one p q r) = one p q (f p q below r)
bounded R S n rise f _ _ below (through p q r a b) = through p q r
    (bounded R S n rise f p q (omega (arith, below, rises R rise q r b)) a)
    (bounded R S n rise f q r below b)
