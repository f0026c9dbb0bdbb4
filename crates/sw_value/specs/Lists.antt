-- Words on lists that the machine's definitions share.
use Rattle.std.specs.Prelude.{ℕ, Option, Some, None, List, [], ◌∷◌, slice_get, slice_set}
use Rattle.std.specs.Prelude.{option_and_then}
use Rattle.std.specs.Option.{option_map}

-- the list with the item at an index changed by g; past the end nothing changes
abbrev pub changed_by : {A : Type 0} → Option A → (A → A) → ℕ → List A → List A
changed_by None g i xs = xs
changed_by (Some x) g i xs = slice_set xs i (g x)

unfoldable pub changed_at : {A : Type 0} → (A → A) → ℕ → List A → List A
changed_at g i xs = changed_by (slice_get xs i) g i xs

-- what f gives of every item, or None where it gives nothing of one
abbrev pub each_of : {A B : Type 0} → (A → Option B) → List A → Option (List B)
each_of f [] = Some []
each_of f (x ∷ xs) = option_and_then (λ y. option_map (λ ys. y ∷ ys) (each_of f xs)) (f x)
