-- What holds of lists that are joined holds of each.
use Rattle.std.proofs.Common.{List, [], ◌∷◌, ◌++◌, flat_map, Contains, ◌≡◌, ap, ◌∙◌}
use Rattle.std.proofs.lemmas.List.Elements.{All-append, All-contains, All-contains_itself, All-nil}
use Rattle.std.proofs.lemmas.List.Elements.{Contains-append_left, Contains-append_right}
use Rattle.std.specs.Prelude.{All}
use Rattle.sw_typing_facts.proofs.Lists.Listed.{in_first, in_rest}

-- two empty lists
pub both_none : {X : Type 0} (xs ys : List X) → xs ≡ [] → ys ≡ [] → xs ++ ys ≡ []
both_none xs ys one other = ap (λ all. all ++ ys) one ∙ other

module _ {X : Type 0} (P : X → Type 0) where
  -- what holds of each element of two lists holds of each of the first
  pub all_left : (xs ys : List X) → All P (xs ++ ys) → All P xs
  all_left xs ys all =
      λ k d below. All-contains P (xs ++ ys) _ all
      (Contains-append_left xs ys _ (All-contains_itself xs k d below))

  -- and of each of the second
  pub all_right : (xs ys : List X) → All P (xs ++ ys) → All P ys
  all_right xs ys all =
      λ k d below. All-contains P (xs ++ ys) _ all
      (Contains-append_right xs ys _ (All-contains_itself ys k d below))

module _ {X : Type 0} (P Q : X → Type 0) where
  -- where one thing holds of a list, another does
  abbrev pub Gives : List X → Type 0
  Gives xs = All P xs → All Q xs

  -- the empty list
  pub none_gives : Gives []
  none_gives all = All-nil Q

  -- two lists
  pub both_give : (xs ys : List X) → Gives xs → Gives ys → Gives (xs ++ ys)
  both_give xs ys one other all =
      All-append Q xs ys (one (all_left P xs ys all)) (other (all_right P xs ys all))

  -- the lists that are made of each element of a list
  pub each_gives : {Y : Type 0} (f : Y → List X) (ys : List Y)
      → ((y : Y) → Contains ys y → Gives (f y)) → Gives (flat_map f ys)
  each_gives f [] each = none_gives
  each_gives f (y ∷ ys) each =
      both_give (f y) (flat_map f ys) (each y (in_first y ys))
      (each_gives f ys (λ one has. each one (in_rest y ys one has)))
