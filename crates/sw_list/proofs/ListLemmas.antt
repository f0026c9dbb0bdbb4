-- An element of a list, by index.
use Rattle.std.proofs.Common.{◌≡◌, ℕ, ◌+◌, zero, suc, List, [], ◌∷◌, ◌++◌, length, Some, subst}
use Rattle.std.proofs.Common.{◌-◌, ◌<◌, ◌≤◌, zero-add, suc-add, refl, ap, ◌∙◌, arith}
use Rattle.std.specs.Prelude.{slice_get}
use Rattle.std.specs.List.{All}
use Rattle.std.proofs.lemmas.Option.{slice_get_within, get_or_from_slice_get}

pub some_injective : {X : Type 0} {x y : X} → Some x ≡ Some y → x ≡ y
some_injective e = cc

-- what holds of each element holds of the one at an index
pub at_index : {X : Type 0} (P : X → Type 0) (xs : List X) (k : ℕ) (x : X) → All P xs
    → slice_get xs k ≡ Some x → P x
at_index P xs k x all here =
    subst P (get_or_from_slice_get xs k x x here) (all k x (slice_get_within xs k x here))

-- an element of a prefix
pub slice_get_before : {A : Type 0} (xs ys : List A) (i : ℕ) (x : A) → slice_get xs i ≡ Some x
    → slice_get (xs ++ ys) i ≡ Some x
slice_get_before [] ys i x e = cc
slice_get_before (y ∷ xs) ys zero x e = e
slice_get_before (y ∷ xs) ys (suc i) x e = slice_get_before xs ys i x e

-- an element after a prefix
pub slice_get_after : {A : Type 0} (xs ys : List A) (i : ℕ)
    → slice_get (xs ++ ys) (length xs + i) ≡ slice_get ys i
slice_get_after [] ys i = rw zero-add refl
slice_get_after (x ∷ xs) ys i = rw suc-add (slice_get_after xs ys i)

-- an element of the first of two lists
pub slice_get_first : {A : Type 0} (xs ys : List A) (i : ℕ) → i < length xs
    → slice_get (xs ++ ys) i ≡ slice_get xs i
slice_get_first [] ys i inside = absurd (omega arith)
slice_get_first (x ∷ xs) ys zero inside = refl
slice_get_first (x ∷ xs) ys (suc i) inside = slice_get_first xs ys i (omega arith)

-- an element of the second of two lists
pub slice_get_second : {A : Type 0} (xs ys : List A) (i : ℕ) → length xs ≤ i
    → slice_get (xs ++ ys) i ≡ slice_get ys (i - length xs)
slice_get_second xs ys i past =
    ap (slice_get (xs ++ ys)) (let split : i ≡ length xs + (i - length xs) = omega arith in split)
    ∙ slice_get_after xs ys (i - length xs)

-- the element after some others
pub at_seam : {A : Type 0} (earlier : List A) (x : A) (later : List A)
    → slice_get (earlier ++ x ∷ later) (length earlier) ≡ Some x
at_seam [] x later = refl
at_seam (y ∷ earlier) x later = at_seam earlier x later
