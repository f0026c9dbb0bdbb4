-- What a list makes of its items, put together, is empty exactly where each of it is.
use Rattle.std.proofs.Common.{◌≡◌, List, [], ◌∷◌, map, flat_map, Contains, refl, sym, ◌∙◌}
use Rattle.std.proofs.lemmas.List.Elements.{All-contains, All-from_recursion}
use Rattle.std.proofs.lemmas.List.Folds.{flat_map-map}
use Rattle.std.specs.List.{AllByRecursion}
use mathlib.Core.List.{append-eq-nil_iff}
use Rattle.sw_tree.specs.Keys.{Keys, joined}

module _ {X : Type 0} (f : X → Keys) where
  -- what is made of an item is empty
  abbrev HasNone : X → Type 0
  HasNone x = f x ≡ []

  each_none : (xs : List X) → flat_map f xs ≡ [] → AllByRecursion HasNone xs
  each_none [] none = tt
  each_none (x ∷ xs) none =
      let both = append-eq-nil_iff.0 none in (both.0, each_none xs both.1)

  pub one_flat : (xs : List X) (x : X) → flat_map f xs ≡ [] → Contains xs x → f x ≡ []
  one_flat xs x none has =
      All-contains HasNone xs x (All-from_recursion HasNone xs (each_none xs none)) has

  pub none_flat : (xs : List X) → AllByRecursion HasNone xs → flat_map f xs ≡ []
  none_flat [] each = refl
  none_flat (x ∷ xs) each = append-eq-nil_iff.1 (each.0, none_flat xs each.1)

  -- the same where the lists are made first
  pub one_joined : (xs : List X) (x : X) → joined (map f xs) ≡ [] → Contains xs x → f x ≡ []
  one_joined xs x none has = one_flat xs x (sym (flat_map-map (λ more. more) f xs) ∙ none) has

  pub none_joined : (xs : List X) → AllByRecursion HasNone xs → joined (map f xs) ≡ []
  none_joined xs each = flat_map-map (λ more. more) f xs ∙ none_flat xs each
