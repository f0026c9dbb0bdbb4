-- The longest prefix of a list whose items pass a test, and the suffix after it.
use Rattle.std.proofs.Common.{◌≡◌, ℕ, suc, ◌+◌, Bool, true, false, cond, List, [], ◌∷◌, ◌++◌}
use Rattle.std.proofs.Common.{length, take, drop, refl, ap, ◌∙◌, ◌⊎◌, inl, inr, arith}
use Rattle.std.proofs.lemmas.Bool.{cases_Bool, and_parts}
use Rattle.std.proofs.Math.Numerals.{one-add}
use Rattle.std.specs.List.{list_all, prefix_len}
use Rattle.sw_scan.specs.Prefixes.{BeginsWithout}

-- which way a test went
pub chosen : {A : Type 0} (b : Bool) (x y z : A)
    → cond b x y ≡ z → ((b ≡ true) × (x ≡ z)) ⊎ ((b ≡ false) × (y ≡ z))
chosen true x y z e = inl (refl, e)
chosen false x y z e = inr (refl, e)

pub prefix_len-yes : (p : ℕ → Bool) (x : ℕ) (xs : List ℕ)
    → p x ≡ true → prefix_len p (x ∷ xs) ≡ suc (prefix_len p xs)
prefix_len-yes p x xs h = rw (h, one-add) refl

pub prefix_len-no : (p : ℕ → Bool) (x : ℕ) (xs : List ℕ)
    → p x ≡ false → prefix_len p (x ∷ xs) ≡ 0
prefix_len-no p x xs h = rw h refl

-- the prefix passes
pub prefix_passes : (p : ℕ → Bool) (xs : List ℕ)
    → list_all p (take (prefix_len p xs) xs) ≡ true
prefix_passes p [] = refl
prefix_passes p (x ∷ xs) = elim (cases_Bool (p x)) [
  | inl h ↦ rw (prefix_len-yes p x xs h) (rw h (prefix_passes p xs))
  | inr h ↦ rw (prefix_len-no p x xs h) refl
]

-- the suffix begins with an item that fails, or is empty
pub suffix_fails : (p : ℕ → Bool) (xs : List ℕ) → BeginsWithout p (drop (prefix_len p xs) xs)
suffix_fails p [] = tt
suffix_fails p (x ∷ xs) = elim (cases_Bool (p x)) [
  | inl h ↦ rw (prefix_len-yes p x xs h) (suffix_fails p xs)
  | inr h ↦ rw (prefix_len-no p x xs h) h
]

-- a prefix that passes, before a suffix that doesn't begin with an item that does, is the longest
pub prefix_len-append : (p : ℕ → Bool) (prefix suffix : List ℕ)
    → list_all p prefix ≡ true → BeginsWithout p suffix
    → prefix_len p (prefix ++ suffix) ≡ length prefix
prefix_len-append p [] [] passes fails = refl
prefix_len-append p [] (y ∷ ys) passes fails = prefix_len-no p y ys fails
prefix_len-append p (x ∷ xs) suffix passes fails =
    let parts = and_parts (p x) (list_all p xs) passes in
    prefix_len-yes p x (xs ++ suffix) parts.0 ∙ ap suc (prefix_len-append p xs suffix parts.1 fails)

-- what passes one test passes a wider one
pub list_all-wider : (p q : ℕ → Bool) → ((x : ℕ) → p x ≡ true → q x ≡ true)
    → (xs : List ℕ) → list_all p xs ≡ true → list_all q xs ≡ true
list_all-wider p q wider [] passes = refl
list_all-wider p q wider (x ∷ xs) passes =
    let parts = and_parts (p x) (list_all p xs) passes in
    rw (wider x parts.0) (list_all-wider p q wider xs parts.1)

-- after a prefix that passes, the count goes on
pub prefix_len-through : (p : ℕ → Bool) (prefix suffix : List ℕ)
    → list_all p prefix ≡ true
    → prefix_len p (prefix ++ suffix) ≡ length prefix + prefix_len p suffix
prefix_len-through p [] suffix passes = omega arith
prefix_len-through p (x ∷ xs) suffix passes =
    let parts = and_parts (p x) (list_all p xs) passes in
    omega (arith, prefix_len-yes p x (xs ++ suffix) parts.0, prefix_len-through p xs suffix parts.1)
