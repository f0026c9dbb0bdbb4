-- Members of lists after a function, and of those that pass a test.
use Rattle.std.proofs.Common.{◌≡◌, ◌⊎◌, inl, inr, Bool, true, false, List, [], ◌∷◌, map, Contains}
use Rattle.std.proofs.Common.{refl, ap, sym, subst, ◌∙◌}
use Rattle.std.specs.List.{filter}
use Rattle.std.specs.Prelude.{if◌then◌else◌}
use Rattle.sw_list.proofs.Members.{first_in, first_or_later, later_in, none_in}

-- an element of a list, after a function
pub in_map : {X Y : Type 0} (f : X → Y) (xs : List X) (x : X) → Contains xs x
    → Contains (map f xs) (f x)
in_map f [] x has = absurd (none_in x has)
in_map f (one ∷ xs) x has = elim (first_or_later one xs x has) [
  | inl here ↦ subst (λ other. Contains (f one ∷ map f xs) (f other)) here
      (first_in (f one) (map f xs))
  | inr there ↦ later_in (f one) (map f xs) (f x) (in_map f xs x there)
]

-- what an element after a function was made of
pub of_map : {X Y : Type 0} (f : X → Y) (xs : List X) (y : Y) → Contains (map f xs) y
    → (x : X) × Contains xs x × (f x ≡ y)
of_map f [] y has = absurd (none_in y has)
of_map f (x ∷ xs) y has = elim (first_or_later (f x) (map f xs) y has) [
  | inl here ↦ (x, first_in x xs, here)
  | inr there ↦ let (one, among, is) = of_map f xs y there in (one, later_in x xs one among, is)
]

-- what a filter keeps is in the list
pub of_filter : {X : Type 0} (p : X → Bool) (xs : List X) (x : X) → Contains (filter p xs) x
    → Contains xs x
of_filter p [] x has = has
of_filter p (y ∷ ys) x has = by (p y) has (of_filter p ys x) where
  by : (keeps : Bool) → Contains (if keeps then y ∷ filter p ys else filter p ys) x
      → (Contains (filter p ys) x → Contains ys x) → Contains (y ∷ ys) x
  by true has later = elim (first_or_later y (filter p ys) x has) [
    | inl here ↦ subst (Contains (y ∷ ys)) here (first_in y ys)
    | inr there ↦ later_in y ys x (later there)
  ]
  by false has later = later_in y ys x (later has)

-- and what passes the test is kept
pub in_filter : {X : Type 0} (p : X → Bool) (xs : List X) (x : X) → Contains xs x → p x ≡ true
    → Contains (filter p xs) x
in_filter p [] x has passes = has
in_filter {X} p (y ∷ ys) x has passes =
    by (p y) refl (first_or_later y ys x has) (λ there. in_filter p ys x there passes) where
      by : (keeps : Bool) → p y ≡ keeps → (y ≡ x) ⊎ Contains ys x
          → (Contains ys x → Contains (filter p ys) x)
          → Contains (if keeps then y ∷ filter p ys else filter p ys) x
      by true is (inl here) later =
          subst (Contains (y ∷ filter p ys)) here (first_in y (filter p ys))
      by true is (inr there) later = later_in y (filter p ys) x (later there)
      by false is (inl here) later = absurd (apart (sym passes ∙ ap p (sym here) ∙ is)) where
        apart : true ≡ false → ⊥
        apart same = cc
      by false is (inr there) later = later there
