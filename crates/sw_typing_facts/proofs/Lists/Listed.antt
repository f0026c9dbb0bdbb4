-- Elements of lists by their places.
use Rattle.std.proofs.Common.{◌≡◌, ℕ, zero, suc, ◌<◌, Some, List, [], ◌∷◌, ◌++◌, length}
use Rattle.std.proofs.Common.{Contains, refl, ap, ◌∙◌, arith}
use Rattle.std.proofs.lemmas.List.Elements.{Contains-append_left, Contains-append_right}
use Rattle.std.proofs.lemmas.Option.{get_or_from_slice_get, slice_get-get_or}
use Rattle.std.proofs.lemmas.Option.{slice_get_within}
use Rattle.std.specs.Prelude.{slice_get}

-- an element of a list is at some place
pub place_in : {X : Type 0} (xs : List X) (x : X) → Contains xs x
    → (k : ℕ) × (slice_get xs k ≡ Some x)
place_in xs x (k, below, is) = (k, slice_get-get_or xs k x below ∙ ap Some is)

-- and what is at a place is an element
pub in_place : {X : Type 0} (xs : List X) (k : ℕ) (x : X) → slice_get xs k ≡ Some x
    → Contains xs x
in_place xs k x at = (k, slice_get_within xs k x at, get_or_from_slice_get xs k x x at)

-- there is an element at each place
pub some_at : {X : Type 0} (xs : List X) (k : ℕ) → k < length xs
    → (x : X) × (slice_get xs k ≡ Some x)
some_at [] k below = absurd (omega arith)
some_at (x ∷ xs) zero below = (x, refl)
some_at (x ∷ xs) (suc k) below = some_at xs k (omega (arith, below))

-- the first of a list, which is in it
pub in_first : {X : Type 0} (x : X) (xs : List X) → Contains (x ∷ xs) x
in_first x xs = (0, omega arith, refl)

-- what is in the rest of a list is in the list
pub in_rest : {X : Type 0} (x : X) (xs : List X) (y : X) → Contains xs y → Contains (x ∷ xs) y
in_rest x xs y has = Contains-append_right (x ∷ []) xs y has

-- what is in a list of one thing is that thing
pub only_in : {X : Type 0} (x y : X) → Contains (x ∷ []) y → x ≡ y
only_in x y (zero, below, is) = is
only_in x y (suc k, below, is) = absurd (omega (arith, below))

-- what stands between others
pub between : {X : Type 0} (before here after : List X) (x : X) → Contains here x
    → Contains (before ++ here ++ after) x
between before here after x has =
    Contains-append_left (before ++ here) after x (Contains-append_right before here x has)
