-- Lists of which each item is related to the item of another list at its place.
use Rattle.std.proofs.Common.{◌≡◌, ℕ, zero, suc, Option, Some, None, List, [], ◌∷◌, ◌++◌, length}
use Rattle.std.proofs.Common.{take, drop, reverse, refl, ap, sym, subst}
use Rattle.std.specs.Prelude.{slice_get}
use Rattle.std.specs.List.{AllZip}
use mathlib.Core.List.{reverse-cons}
use Rattle.sw_value.specs.Lists.{changed_at, changed_by}

pub zip_length : {A B : Type 0} (R : A → B → Type 0) (xs : List A) (ys : List B) → AllZip R xs ys
    → length xs ≡ length ys
zip_length R [] [] are = refl
zip_length R (x ∷ xs) (y ∷ ys) are = ap (λ n. suc n) (zip_length R xs ys are.1)
zip_length R [] (y ∷ ys) are = absurd are
zip_length R (x ∷ xs) [] are = absurd are

pub zip_take : {A B : Type 0} (R : A → B → Type 0) (n : ℕ) (xs : List A) (ys : List B)
    → AllZip R xs ys → AllZip R (take n xs) (take n ys)
zip_take R zero xs ys are = tt
zip_take R (suc n) [] [] are = tt
zip_take R (suc n) (x ∷ xs) (y ∷ ys) are = (are.0, zip_take R n xs ys are.1)
zip_take R (suc n) [] (y ∷ ys) are = absurd are
zip_take R (suc n) (x ∷ xs) [] are = absurd are

pub zip_drop : {A B : Type 0} (R : A → B → Type 0) (n : ℕ) (xs : List A) (ys : List B)
    → AllZip R xs ys → AllZip R (drop n xs) (drop n ys)
zip_drop R zero xs ys are = are
zip_drop R (suc n) [] [] are = tt
zip_drop R (suc n) (x ∷ xs) (y ∷ ys) are = zip_drop R n xs ys are.1
zip_drop R (suc n) [] (y ∷ ys) are = absurd are
zip_drop R (suc n) (x ∷ xs) [] are = absurd are

pub zip_both : {A B : Type 0} (R : A → B → Type 0) (xs others : List A) (ys more : List B)
    → AllZip R xs ys → AllZip R others more → AllZip R (xs ++ others) (ys ++ more)
zip_both R [] others [] more are later = later
zip_both R (x ∷ xs) others (y ∷ ys) more are later =
    (are.0, zip_both R xs others ys more are.1 later)
zip_both R [] others (y ∷ ys) more are later = absurd are
zip_both R (x ∷ xs) others [] more are later = absurd are

pub zip_reverse : {A B : Type 0} (R : A → B → Type 0) (xs : List A) (ys : List B) → AllZip R xs ys
    → AllZip R (reverse xs) (reverse ys)
zip_reverse R [] [] are = tt
zip_reverse R (x ∷ xs) (y ∷ ys) are =
    subst (λ list. AllZip R list (reverse (y ∷ ys))) (sym (reverse-cons x xs))
    (subst (AllZip R (reverse xs ++ x ∷ [])) (sym (reverse-cons y ys))
    (zip_both R (reverse xs) (x ∷ []) (reverse ys) (y ∷ []) (zip_reverse R xs ys are.1)
    (are.0, tt)))
zip_reverse R [] (y ∷ ys) are = absurd are
zip_reverse R (x ∷ xs) [] are = absurd are

-- two items that are related, or none
abbrev pub BothOrNone : {A B : Type 0} → (A → B → Type 0) → Option A → Option B → Type 0
BothOrNone R None None = Unit {0}
BothOrNone R (Some x) (Some y) = R x y
BothOrNone R None (Some y) = ⊥
BothOrNone R (Some x) None = ⊥

pub zip_get : {A B : Type 0} (R : A → B → Type 0) (xs : List A) (ys : List B) (i : ℕ)
    → AllZip R xs ys → BothOrNone R (slice_get xs i) (slice_get ys i)
zip_get R [] [] i are = tt
zip_get R (x ∷ xs) (y ∷ ys) zero are = are.0
zip_get R (x ∷ xs) (y ∷ ys) (suc i) are = zip_get R xs ys i are.1
zip_get R [] (y ∷ ys) i are = absurd are
zip_get R (x ∷ xs) [] i are = absurd are

changed_next : {A : Type 0} (g : A → A) (i : ℕ) (x : A) (xs : List A)
    → changed_at g (suc i) (x ∷ xs) ≡ x ∷ changed_at g i xs
unfolding changed_at
changed_next {A} g i x xs = by (slice_get xs i) where
  by : (o : Option A) → changed_by o g (suc i) (x ∷ xs) ≡ x ∷ changed_by o g i xs
  by None = refl
  by (Some y) = refl

-- related items at one place are changed
pub zip_changed : {A B : Type 0} (R : A → B → Type 0) (g : A → A) (h : B → B) (i : ℕ) (x : A) (y : B)
    (xs : List A) (ys : List B) → AllZip R xs ys → slice_get xs i ≡ Some x → slice_get ys i ≡ Some y
    → R (g x) (h y) → AllZip R (changed_at g i xs) (changed_at h i ys)
unfolding changed_at
zip_changed R g h i x y [] [] are at there is = cc
zip_changed R g h zero x y (z ∷ xs) (w ∷ ys) are at there is =
    let first : z ≡ x = cc in
    let second : w ≡ y = cc in
    (subst (λ a. R (g a) (h w)) (sym first) (subst (λ b. R (g x) (h b)) (sym second) is), are.1)
zip_changed R g h (suc i) x y (z ∷ xs) (w ∷ ys) are at there is =
    subst (λ list. AllZip R list (changed_at h (suc i) (w ∷ ys))) (sym (changed_next g i z xs))
    (subst (AllZip R (z ∷ changed_at g i xs)) (sym (changed_next h i w ys))
    (are.0, zip_changed R g h i x y xs ys are.1 at there is))
zip_changed R g h i x y [] (w ∷ ys) are at there is = absurd are
zip_changed R g h i x y (z ∷ xs) [] are at there is = absurd are

-- so is the item of one list alone
pub zip_changed_left : {A B : Type 0} (R : A → B → Type 0) (g : A → A) (i : ℕ) (x : A) (y : B)
    (xs : List A) (ys : List B) → AllZip R xs ys → slice_get xs i ≡ Some x → slice_get ys i ≡ Some y
    → R (g x) y → AllZip R (changed_at g i xs) ys
unfolding changed_at
zip_changed_left R g i x y [] [] are at there is = cc
zip_changed_left R g zero x y (z ∷ xs) (w ∷ ys) are at there is =
    let first : z ≡ x = cc in
    let second : w ≡ y = cc in
    (subst (λ a. R (g a) w) (sym first) (subst (R (g x)) (sym second) is), are.1)
zip_changed_left R g (suc i) x y (z ∷ xs) (w ∷ ys) are at there is =
    subst (λ list. AllZip R list (w ∷ ys)) (sym (changed_next g i z xs))
    (are.0, zip_changed_left R g i x y xs ys are.1 at there is)
zip_changed_left R g i x y [] (w ∷ ys) are at there is = absurd are
zip_changed_left R g i x y (z ∷ xs) [] are at there is = absurd are

-- whatever stands there
pub zip_kept : {A B : Type 0} (R : A → B → Type 0) (g : A → A) (h : B → B) (i : ℕ) (xs : List A)
    (ys : List B) → AllZip R xs ys → ((x : A) (y : B) → R x y → R (g x) (h y))
    → AllZip R (changed_at g i xs) (changed_at h i ys)
unfolding changed_at
zip_kept R g h i [] [] are keeps = tt
zip_kept R g h zero (x ∷ xs) (y ∷ ys) are keeps = (keeps x y are.0, are.1)
zip_kept R g h (suc i) (x ∷ xs) (y ∷ ys) are keeps =
    subst (λ list. AllZip R list (changed_at h (suc i) (y ∷ ys))) (sym (changed_next g i x xs))
    (subst (AllZip R (x ∷ changed_at g i xs)) (sym (changed_next h i y ys))
    (are.0, zip_kept R g h i xs ys are.1 keeps))
zip_kept R g h i [] (y ∷ ys) are keeps = absurd are
zip_kept R g h i (x ∷ xs) [] are keeps = absurd are
