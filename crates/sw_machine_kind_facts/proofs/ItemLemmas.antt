-- Items of lists by index: changed, put at the end, and the last of them.
use Rattle.std.proofs.Common.{◌≡◌, ℕ, ◌-◌, ◌<◌, ◌⊎◌, inl, inr, zero, suc, Option, Some, None}
use Rattle.std.proofs.Common.{List, [], ◌∷◌, ◌++◌, length, refl, ap, sym, ◌∙◌, arith, length-append}
use Rattle.std.specs.List.{slice_get, slice_set}
use Rattle.std.specs.Option.{option_and_then}
use Rattle.std.proofs.lemmas.Bool.{cases_eq}
use Rattle.std.proofs.lemmas.Option.{slice_get_within}
use Rattle.sw_list.proofs.ListLemmas.{some_injective}
use Rattle.sw_value.specs.declared.value.Value.{Value}
use Rattle.sw_value.specs.Lists.{changed_at}
use Rattle.sw_value.specs.Value.{value_at}
use Rattle.std.proofs.Common.{subst}
use Rattle.sw_value.proofs.ListLemmas.{changed_at_found, changed_at_there}
use Rattle.sw_value.proofs.ListLemmas.{set_there, slice_get_end}
use Rattle.sw_value.proofs.ListLemmas.{changed_at_none}

-- an item of a list with one more at the end
pub at_end : {A : Type 0} (xs : List A) (x y : A) (k : ℕ) → slice_get (xs ++ x ∷ []) k ≡ Some y
    → (slice_get xs k ≡ Some y) ⊎ ((k ≡ length xs) × (y ≡ x))
at_end [] x y zero e = inr (refl, sym (some_injective e))
at_end [] x y (suc k) e = cc
at_end (z ∷ zs) x y zero e = inl e
at_end (z ∷ zs) x y (suc k) e = elim (at_end zs x y k e) [
  | inl before ↦ inl before
  | inr (at, is) ↦ inr (ap (λ n. suc n) at, is)
]

pub found_within : {A : Type 0} (xs : List A) (k : ℕ) → k < length xs
    → (x : A) × (slice_get xs k ≡ Some x)
found_within [] k inside = absurd (omega arith)
found_within (x ∷ xs) zero inside = (x, refl)
found_within (x ∷ xs) (suc k) inside = found_within xs k (omega arith)

pub last_of : {A : Type 0} (xs : List A) (x : A) → length (xs ++ x ∷ []) - 1 ≡ length xs
last_of xs x = omega (arith, length-append xs (x ∷ []))

pub top_of : {A : Type 0} (xs : List A) (x : A)
    → slice_get (xs ++ x ∷ []) (length (xs ++ x ∷ []) - 1) ≡ Some x
top_of xs x = ap (slice_get (xs ++ x ∷ [])) (last_of xs x) ∙ slice_get_end xs x

pub set_end : {A : Type 0} (xs : List A) (x y : A)
    → slice_set (xs ++ x ∷ []) (length xs) y ≡ xs ++ y ∷ []
set_end [] x y = refl
set_end (z ∷ zs) x y = ap (λ l. z ∷ l) (set_end zs x y)

-- the last item is changed
pub changed_end : {A : Type 0} (g : A → A) (xs : List A) (x : A)
    → changed_at g (length (xs ++ x ∷ []) - 1) (xs ++ x ∷ []) ≡ xs ++ g x ∷ []
changed_end g xs x =
    ap (λ k. changed_at g k (xs ++ x ∷ [])) (last_of xs x)
    ∙ changed_at_there g (length xs) (xs ++ x ∷ []) x (slice_get_end xs x)
    ∙ set_end xs x (g x)

-- the last of a list, and what stands before it
pub ends_same : {A : Type 0} (xs ys : List A) (x y : A) → xs ++ x ∷ [] ≡ ys ++ y ∷ []
    → (xs ≡ ys) × (x ≡ y)
ends_same [] [] x y e = (refl, cc)
ends_same [] (z ∷ []) x y e = absurd (let c : ⊥ = cc in c)
ends_same [] (z ∷ (w ∷ ws)) x y e = absurd (let c : ⊥ = cc in c)
ends_same (z ∷ []) [] x y e = absurd (let c : ⊥ = cc in c)
ends_same (z ∷ (w ∷ ws)) [] x y e = absurd (let c : ⊥ = cc in c)
ends_same (z ∷ zs) (w ∷ ws) x y e =
    let heads : z ≡ w = cc in
    let rest : zs ++ x ∷ [] ≡ ws ++ y ∷ [] = cc in
    let same = ends_same zs ws x y rest in
    (let both : z ∷ zs ≡ w ∷ ws = cc (heads, same.0) in both, same.1)

pub split_end : {A : Type 0} (xs : List A) (x : A)
    → (ys : List A) × (y : A) × (x ∷ xs ≡ ys ++ y ∷ [])
split_end [] x = ([], x, refl)
split_end (z ∷ zs) x = let rest = split_end zs z in
    (x ∷ rest.0, rest.1, ap (λ l. x ∷ l) rest.2)

pub set_other : {A : Type 0} (xs : List A) (i k : ℕ) (y : A) → (k ≡ i → ⊥)
    → slice_get (slice_set xs i y) k ≡ slice_get xs k
set_other [] i k y apart = refl
set_other (z ∷ zs) zero zero y apart = absurd (apart refl)
set_other (z ∷ zs) zero (suc k) y apart = refl
set_other (z ∷ zs) (suc i) zero y apart = refl
set_other (z ∷ zs) (suc i) (suc k) y apart = set_other zs i k y (λ e. apart (ap (λ n. suc n) e))

pub changed_other : {A : Type 0} (g : A → A) (i k : ℕ) (xs : List A) → (k ≡ i → ⊥)
    → slice_get (changed_at g i xs) k ≡ slice_get xs k
changed_other {A} g i k xs apart = by (slice_get xs i) refl where
  by : (o : Option A) → slice_get xs i ≡ o → slice_get (changed_at g i xs) k ≡ slice_get xs k
  by None e = ap (λ l. slice_get l k) (changed_at_none g i xs e)
  by (Some x) e = ap (λ l. slice_get l k) (changed_at_there g i xs x e) ∙ set_other xs i k (g x)
      apart

-- the registers of a frame: one that was set, and another
pub set_here : (regs : List (Option Value)) (r : ℕ) (v : Value) → r < length regs
    → value_at (slice_set regs r (Some v)) r ≡ Some v
set_here regs r v inside = let old = found_within regs r inside in
    ap (option_and_then (λ w. w)) (set_there regs r old.0 (Some v) old.1)

pub set_elsewhere : (regs : List (Option Value)) (r k : ℕ) (v : Value) → (k ≡ r → ⊥)
    → value_at (slice_set regs r (Some v)) k ≡ value_at regs k
set_elsewhere regs r k v apart = ap (option_and_then (λ w. w)) (set_other regs r k (Some v) apart)

-- what holds of the items of two lists, index by index, where both get one more at the end
pub pairs_end : {A B : Type 0} (P : A → B → Type 0) (xs : List A) (ys : List B) (x : A) (y : B)
    → length xs ≡ length ys
    → ((k : ℕ) (a : A) (b : B) → slice_get xs k ≡ Some a → slice_get ys k ≡ Some b → P a b) → P x y
    → (k : ℕ) (a : A) (b : B) → slice_get (xs ++ x ∷ []) k ≡ Some a
    → slice_get (ys ++ y ∷ []) k ≡ Some b → P a b
pairs_end P xs ys x y count each new k a b here there = elim (at_end xs x a k here) [
  | inl before ↦ elim (at_end ys y b k there) [
    | inl known ↦ each k a b before known
    | inr (at, is) ↦ let inside = slice_get_within xs k a before in
        absurd (omega (arith, inside, at, count))
  ]
  | inr (at, is) ↦ elim (at_end ys y b k there) [
    | inl known ↦ let inside = slice_get_within ys k b known in
        absurd (omega (arith, inside, at, count))
    | inr (place, also) ↦ subst (λ v. P v b) (sym is) (subst (P x) (sym also) new)
  ]
]

-- the same, where an item of the first is changed
pub pairs_changed : {A B : Type 0} (P : A → B → Type 0) (g : A → A) (i : ℕ) (xs : List A)
    (ys : List B) (x : A) → slice_get xs i ≡ Some x
    → ((k : ℕ) (a : A) (b : B) → slice_get xs k ≡ Some a → slice_get ys k ≡ Some b → P a b)
    → ((b : B) → slice_get ys i ≡ Some b → P (g x) b) → (k : ℕ) (a : A) (b : B)
    → slice_get (changed_at g i xs) k ≡ Some a → slice_get ys k ≡ Some b → P a b
pairs_changed P g i xs ys x at each new k a b here there = elim (cases_eq k i) [
  | inl same ↦
      let is : g x ≡ a = some_injective (sym (changed_at_found g i xs x at)
      ∙ ap (slice_get (changed_at g i xs)) (sym same) ∙ here) in
      subst (λ v. P v b) is (new b (ap (slice_get ys) (sym same) ∙ there))
  | inr apart ↦ each k a b (sym (changed_other g i k xs apart) ∙ here) there
]
