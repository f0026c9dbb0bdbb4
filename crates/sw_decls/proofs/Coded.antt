-- Lists of breaches whose codes are those of declarations.
use Rattle.std.proofs.Common.{ℕ, ◌≤◌, Bool, true, false, cond, List, [], ◌∷◌, ◌++◌, map, flat_map}
use Rattle.std.specs.List.{AllByRecursion}
use Rattle.sw_decl_words.specs.declared.placed.Placed.{Placed}

-- a code of a breach of the rules on declarations
abbrev pub IsDeclCode : ℕ → Type 0
IsDeclCode code = (301 ≤ code) × (code ≤ 307)

abbrev pub AreCoded : List Placed → Type 0
AreCoded found = AllByRecursion (λ (placed : Placed). IsDeclCode placed.code) found

pub coded_one : (at code : ℕ) → 301 ≤ code → code ≤ 307
    → AreCoded (record { at = at; code = code } ∷ [])
coded_one at code low high = ((low, high), tt)

pub coded_join : (before after : List Placed) → AreCoded before → AreCoded after
    → AreCoded (before ++ after)
coded_join [] after first second = second
coded_join (one ∷ before) after first second = (first.0, coded_join before after first.1 second)

pub coded_each : {X : Type 0} (f : X → List Placed) → ((x : X) → AreCoded (f x)) → (xs : List X)
    → AreCoded (flat_map f xs)
coded_each f are [] = tt
coded_each f are (x ∷ xs) = coded_join (f x) (flat_map f xs) (are x) (coded_each f are xs)

pub coded_map : {X : Type 0} (f : X → Placed) → ((x : X) → IsDeclCode (f x).code) → (xs : List X)
    → AreCoded (map f xs)
coded_map f are [] = tt
coded_map f are (x ∷ xs) = (are x, coded_map f are xs)

-- the breaches of each node together, where a step made something of each
pub coded_made : {X Y : Type 0} (f : X → Y) (found : Y → List Placed) (xs : List X)
    → AllByRecursion (λ x. AreCoded (found (f x))) xs → AreCoded (flat_map found (map f xs))
coded_made f found [] all = tt
coded_made f found (x ∷ xs) all =
    coded_join (found (f x)) (flat_map found (map f xs)) all.0 (coded_made f found xs all.1)

pub coded_if : (is : Bool) (found : List Placed) → AreCoded found → AreCoded (cond is found [])
coded_if true found are = are
coded_if false found are = tt

pub coded_unless : (is : Bool) (found : List Placed) → AreCoded found → AreCoded (cond is [] found)
coded_unless true found are = tt
coded_unless false found are = are
