-- Members of lists, also of lists that are made of lists.
use Rattle.std.specs.List.{slice_get, list_all, concat}
use Rattle.std.proofs.Common.{◌≡◌, ◌⊎◌, ℕ, zero, suc, Bool, true, List, [], ◌∷◌, ◌++◌, Some}
use Rattle.std.proofs.Common.{Contains, flat_map, map, refl, sym, subst, ap, ◌∙◌, arith, inl, inr}
use Rattle.std.proofs.lemmas.Bool.{and_parts}
use Rattle.std.proofs.lemmas.Grind.{flat_map-append}
use Rattle.std.proofs.lemmas.List.{map-append}
use Rattle.std.proofs.lemmas.List.Concat.{concat_is}
use Rattle.std.proofs.lemmas.List.Folds.{flat_map-map}
use Rattle.std.proofs.lemmas.List.Elements.{Contains-append_cases, Contains-append_left}
use Rattle.std.proofs.lemmas.List.Elements.{Contains-append_right}
use Rattle.std.proofs.lemmas.Option.{slice_get-get_or, slice_get_within, get_or_from_slice_get}

pub none_in : {X : Type 0} (x : X) → Contains [] x → ⊥
none_in x has = let lt = has.1 in omega (arith, lt)

pub one_in : {X : Type 0} (x y : X) → Contains (x ∷ []) y → x ≡ y
one_in x y (zero, lt, is) = is
one_in x y (suc k, lt, is) = absurd (omega (arith, lt))

pub first_in : {X : Type 0} (x : X) (xs : List X) → Contains (x ∷ xs) x
first_in x xs = (0, omega arith, refl)

pub in_one : {X : Type 0} (x : X) → Contains (x ∷ []) x
in_one x = first_in x []

pub later_in : {X : Type 0} (x : X) (xs : List X) (y : X) → Contains xs y → Contains (x ∷ xs) y
later_in x xs y has = (suc has.0, omega (arith, has.1), has.2)

pub first_or_later : {X : Type 0} (x : X) (xs : List X) (y : X) → Contains (x ∷ xs) y
    → (x ≡ y) ⊎ Contains xs y
first_or_later x xs y has = elim (Contains-append_cases (x ∷ []) xs y has) [
  | inl here ↦ inl (one_in x y here)
  | inr there ↦ inr there
]

-- a list without its second member, and the other way round
pub without_second : {X : Type 0} (x y : X) (xs : List X) (z : X) → Contains (x ∷ xs) z
    → Contains (x ∷ y ∷ xs) z
without_second x y xs z has = elim (first_or_later x xs z has) [
  | inl is ↦ subst (Contains (x ∷ y ∷ xs)) is (first_in x (y ∷ xs))
  | inr there ↦ later_in x (y ∷ xs) z (later_in y xs z there)
]

pub second_or_other : {X : Type 0} (x y : X) (xs : List X) (z : X) → Contains (x ∷ y ∷ xs) z
    → (y ≡ z) ⊎ Contains (x ∷ xs) z
second_or_other x y xs z has = elim (first_or_later x (y ∷ xs) z has) [
  | inl is ↦ inr (subst (Contains (x ∷ xs)) is (first_in x xs))
  | inr there ↦ elim (first_or_later y xs z there) [
    | inl same ↦ inl same
    | inr later ↦ inr (later_in x xs z later)
  ]
]

-- a member of a list stands at an index
pub stands_at : {X : Type 0} (xs : List X) (x : X) → Contains xs x
    → (i : ℕ) × (slice_get xs i ≡ Some x)
stands_at xs x has = (has.0, slice_get-get_or xs has.0 x has.1 ∙ ap (λ y. Some y) has.2)

pub member_at : {X : Type 0} (xs : List X) (i : ℕ) (x : X) → slice_get xs i ≡ Some x
    → Contains xs x
member_at xs i x at = (i, slice_get_within xs i x at, get_or_from_slice_get xs i x x at)

pub all_at : {X : Type 0} (p : X → Bool) (xs : List X) (i : ℕ) (x : X) → list_all p xs ≡ true
    → slice_get xs i ≡ Some x → p x ≡ true
all_at p [] i x all at = cc
all_at p (y ∷ ys) zero x all at =
    let e : y ≡ x = cc in subst (λ z. p z ≡ true) e (and_parts (p y) (list_all p ys) all).0
all_at p (y ∷ ys) (suc i) x all at = all_at p ys i x (and_parts (p y) (list_all p ys) all).1 at

module _ {X Y : Type 0} (f : X → List Y) where
  pub in_flat_map : (xs : List X) (x : X) (y : Y) → Contains xs x → Contains (f x) y
      → Contains (flat_map f xs) y
  in_flat_map [] x y has is = absurd (none_in x has)
  in_flat_map (z ∷ xs) x y has is = elim (Contains-append_cases (z ∷ []) xs x has) [
    | inl here ↦ Contains-append_left (f z) (flat_map f xs) y
        (subst (λ w. Contains (f w) y) (sym (one_in z x here)) is)
    | inr there ↦ Contains-append_right (f z) (flat_map f xs) y (in_flat_map xs x y there is)
  ]

  pub of_flat_map : (xs : List X) (y : Y) → Contains (flat_map f xs) y
      → (x : X) × Contains xs x × Contains (f x) y
  of_flat_map [] y has = absurd (none_in y has)
  of_flat_map (z ∷ xs) y has = elim (Contains-append_cases (f z) (flat_map f xs) y has) [
    | inl here ↦ (z, Contains-append_left (z ∷ []) xs z (in_one z), here)
    | inr there ↦ let more = of_flat_map xs y there in
        (more.0, Contains-append_right (z ∷ []) xs more.0 more.1, more.2)
  ]

-- functions that agree on the members
pub flat_map_same : {X Y : Type 0} (f g : X → List Y) (xs : List X)
    → ((x : X) → Contains xs x → f x ≡ g x) → flat_map f xs ≡ flat_map g xs
flat_map_same f g [] same = refl
flat_map_same f g (x ∷ xs) same =
    ap (λ l. l ++ flat_map f xs) (same x (0, omega arith, refl))
    ∙ ap (λ l. g x ++ l) (flat_map_same f g xs (λ y has.
    same y (suc has.0, omega (arith, has.1), has.2)))

pub map-flat_map : {X Y Z : Type 0} (f : Y → Z) (g : X → List Y) (xs : List X)
    → map f (flat_map g xs) ≡ flat_map (λ x. map f (g x)) xs
map-flat_map f g [] = refl
map-flat_map f g (x ∷ xs) = map-append f (g x) (flat_map g xs)
    ∙ ap (λ l. map f (g x) ++ l) (map-flat_map f g xs)

pub flat_map-flat_map : {X Y Z : Type 0} (f : Y → List Z) (g : X → List Y) (xs : List X)
    → flat_map f (flat_map g xs) ≡ flat_map (λ x. flat_map f (g x)) xs
flat_map-flat_map f g [] = refl
flat_map-flat_map f g (x ∷ xs) = flat_map-append f (g x) (flat_map g xs)
    ∙ ap (λ l. flat_map f (g x) ++ l) (flat_map-flat_map f g xs)

pub concat-map : {X : Type 0} (f : X → List ℕ) (xs : List X) → concat (map f xs) ≡ flat_map f xs
concat-map f xs = concat_is (map f xs) ∙ flat_map-map (λ l. l) f xs
