-- Lists that are mapped, and what is among lists.
use Rattle.std.proofs.Common.{◌≡◌, ◌⊎◌, ℕ, Option, Some, None, List, [], ◌∷◌, map, Contains, refl}
use Rattle.std.proofs.Common.{sym, subst, ap, ◌∙◌, inl, inr}
use Rattle.std.specs.Option.{option_map}
use Rattle.std.specs.List.{All, slice_get, slice_set}
use Rattle.std.proofs.lemmas.List.{map-set}
use Rattle.std.proofs.lemmas.List.Elements.{All-cons, All-head, All-nil, All-tail}
use Rattle.std.proofs.lemmas.List.Elements.{Contains-append_left, Contains-append_right}
use Rattle.std.proofs.lemmas.Option.{slice_get-map}
use Rattle.sw_list.proofs.Members.{first_or_later, in_one, none_in}
use Rattle.sw_value.specs.Lists.{changed_at, changed_by}

-- two maps that agree on what holds of each
pub map_all : {X Y : Type 0} (P : X → Type 0) (f g : X → Y) (xs : List X)
    → ((x : X) → P x → f x ≡ g x) → All P xs → map f xs ≡ map g xs
map_all P f g [] same all = refl
map_all P f g (x ∷ xs) same all =
    ap (λ y. y ∷ map f xs) (same x (All-head P x xs all))
    ∙ ap (λ ys. g x ∷ ys) (map_all P f g xs same (All-tail P x xs all))

-- two maps that agree
pub map_same : {X Y : Type 0} (f g : X → Y) (xs : List X) → ((x : X) → f x ≡ g x)
    → map f xs ≡ map g xs
map_same f g [] same = refl
map_same f g (x ∷ xs) same =
    ap (λ y. y ∷ map f xs) (same x) ∙ ap (λ ys. g x ∷ ys) (map_same f g xs same)

-- what is first in a list, and what is later
pub first_in : {X : Type 0} (x : X) (xs : List X) → Contains (x ∷ xs) x
first_in x xs = Contains-append_left (x ∷ []) xs x (in_one x)

pub later_in : {X : Type 0} (x : X) (xs : List X) (y : X) → Contains xs y → Contains (x ∷ xs) y
later_in x xs y has = Contains-append_right (x ∷ []) xs y has

pub in_map : {X Y : Type 0} (f : X → Y) (xs : List X) (x : X) → Contains xs x
    → Contains (map f xs) (f x)
in_map f [] x has = absurd (none_in x has)
in_map f (y ∷ ys) x has = elim (first_or_later y ys x has) [
  | inl same ↦ subst (λ z. Contains (map f (y ∷ ys)) (f z)) same (first_in (f y) (map f ys))
  | inr later ↦ later_in (f y) (map f ys) (f x) (in_map f ys x later)
]

-- what holds of each that is among a list
pub all_of : {X : Type 0} (P : X → Type 0) (xs : List X) → ((x : X) → Contains xs x → P x)
    → All P xs
all_of P [] each = All-nil P
all_of P (x ∷ xs) each = All-cons P x xs (each x (first_in x xs))
    (all_of P xs (λ y has. each y (later_in x xs y has)))

-- an item that is changed, before a map or after it
pub map_changed : {X Y : Type 0} (h : X → Y) (f : X → X) (g : Y → Y) (i : ℕ) (xs : List X)
    → ((x : X) → h (f x) ≡ g (h x)) → map h (changed_at f i xs) ≡ changed_at g i (map h xs)
unfolding changed_at
map_changed {X = X} h f g i xs same =
    by (slice_get xs i) ∙ ap (λ o. changed_by o g i (map h xs)) (sym (slice_get-map h xs i)) where
      by : (o : Option X)
          → map h (changed_by o f i xs) ≡ changed_by (option_map h o) g i (map h xs)
      by None = refl
      by (Some x) = map-set h xs i (f x) ∙ ap (slice_set (map h xs) i) (same x)

-- whether something is among a list, where its items can be told from it
pub is_among : {X : Type 0} (x : X) (xs : List X) → ((y : X) → (y ≡ x) ⊎ (y ≡ x → ⊥))
    → Contains xs x ⊎ (Contains xs x → ⊥)
is_among x [] tells = inr (none_in x)
is_among x (y ∷ ys) tells = by (tells y) (is_among x ys tells) where
  by : (y ≡ x) ⊎ (y ≡ x → ⊥) → Contains ys x ⊎ (Contains ys x → ⊥)
      → Contains (y ∷ ys) x ⊎ (Contains (y ∷ ys) x → ⊥)
  by (inl same) _ = inl (subst (λ z. Contains (y ∷ ys) z) same
      (first_in y ys))
  by (inr differs) (inl later) = inl (later_in y ys x later)
  by (inr differs) (inr nowhere) = inr (λ has. elim (first_or_later y ys x has) [
    | inl same ↦ differs same
    | inr later ↦ nowhere later
  ])
