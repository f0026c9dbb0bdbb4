-- Code after code that goes on at its end alone.
use Rattle.std.proofs.Common.{◌≡◌, ℕ, ◌+◌, ◌≤◌, ◌<◌, ◌==◌, inl, inr, Bool, true, false, ◌||◌}
use Rattle.std.proofs.Common.{List, [], ◌∷◌, ◌++◌, length, refl, sym, subst, ◌∙◌, arith}
use Rattle.std.proofs.Common.{ap}
use Rattle.std.proofs.lemmas.Bool.{cases_lt}
use Rattle.std.proofs.Common.{length-append}
use Rattle.std.specs.List.{AllByRecursion}
use Rattle.sw_lower_plans.specs.Plan.{Ended, Piece, Place, after, joined}
use Rattle.sw_lower_code.specs.Code.{Code, andthen, done}
use Rattle.sw_lower_first_facts.specs.Flowing.{FlowsWithoutReturn, GoesWithoutReturn, IsNoReturn, IsOwn}
use Rattle.sw_lower_first_facts.specs.Flowing.{ends}

-- what holds of each of two lists
pub all_joined : {X : Type 0} (P : X → Type 0) (xs ys : List X) → AllByRecursion P xs
    → AllByRecursion P ys → AllByRecursion P (xs ++ ys)
all_joined P [] ys one other = other
all_joined P (x ∷ xs) ys one other = (one.0, all_joined P xs ys one.1 other)

second_holds : (a b : Bool) → b ≡ true → (a || b) ≡ true
second_holds true b is = refl
second_holds false b is = is

-- a block that one of two lists ends
pub ends_first : (number : ℕ) (xs ys : List Ended) → ends number xs ≡ true
    → ends number (xs ++ ys) ≡ true
ends_first number [] ys is = cc
ends_first number (x ∷ xs) ys is = by (x.block == number) is (ends_first number xs ys) where
  by : (here : Bool) → (here || ends number xs) ≡ true
      → (ends number xs ≡ true → ends number (xs ++ ys) ≡ true)
      → (here || ends number (xs ++ ys)) ≡ true
  by true is more = refl
  by false is more = more is

pub ends_second : (number : ℕ) (xs ys : List Ended) → ends number ys ≡ true
    → ends number (xs ++ ys) ≡ true
ends_second number [] ys is = is
ends_second number (x ∷ xs) ys is =
    second_holds (x.block == number) (ends number (xs ++ ys)) (ends_second number xs ys is)

-- one piece, and another after it
pub goes_joined : {A B : Type 0} (place : Place) (first : Piece A) (second : Piece B)
    → GoesWithoutReturn place first → GoesWithoutReturn (after place first) second
    → GoesWithoutReturn place (joined first second)
goes_joined place first second one other = record {
  lasts = all_joined IsNoReturn first.lasts second.lasts one.lasts other.lasts;
  ended = λ number own left. by number own left (number == first.there) refl;
} where
  Done : ℕ → Type 0
  Done number = ends number (first.lasts ++ second.lasts) ≡ true

  in_first : (number : ℕ) → IsOwn place first number → (number == first.there) ≡ false
      → Done number
  in_first number own apart =
      ends_first number first.lasts second.lasts
      (one.ended number own (λ same. grind (arith, same, apart)))

  in_second : (number : ℕ) → IsOwn (after place first) second number
      → (number ≡ second.there → ⊥) → Done number
  in_second number own left =
      ends_second number first.lasts second.lasts (other.ended number own left)

  made : (number : ℕ) → place.blocks ≤ number
      → number < place.blocks + length (first.made ++ second.made)
      → (number == first.there) ≡ false → (number ≡ second.there → ⊥) → Done number
  made number low high apart left =
      elim (cases_lt number (place.blocks + length first.made)) [
        | inl here ↦ in_first number (inr (low, here)) apart
        | inr there ↦ in_second number
            (inr (there, omega (arith, high, length-append first.made second.made))) left
      ]

  by : (number : ℕ) → IsOwn place (joined first second) number
      → (number ≡ second.there → ⊥) → (here : Bool) → (number == first.there) ≡ here
      → Done number
  by number own left true same =
      in_second number (inl (let is : number ≡ first.there = grind (arith, same) in is)) left
  by number (inl begins) left false apart = in_first number (inl begins) apart
  by number (inr (low, high)) left false apart = made number low high apart left

pub flows_then : {A B : Type 0} (first : Code A) (next : A → Code B) → FlowsWithoutReturn first
    → ((value : A) → FlowsWithoutReturn (next value)) → FlowsWithoutReturn (andthen first next)
unfolding andthen
flows_then first next one other place =
    let piece = first.plan place in
    goes_joined place piece ((next piece.value).plan (after place piece)) (one place)
    (other piece.value (after place piece))

-- a piece that makes and ends no block
pub goes_still : {A : Type 0} (place : Place) (piece : Piece A) → piece.made ≡ []
    → piece.lasts ≡ [] → piece.there ≡ place.here → GoesWithoutReturn place piece
goes_still place piece made lasts there = record {
  lasts = subst (AllByRecursion IsNoReturn) (sym lasts) tt;
  ended = λ number own left. absurd (never number own left);
} where
  never : (number : ℕ) → IsOwn place piece number → (number ≡ piece.there → ⊥) → ⊥
  never number (inl begins) left = left (begins ∙ sym there)
  never number (inr (low, high)) left = omega (arith, low, high, ap length made)

pub flows_done : {A : Type 0} (value : A) → FlowsWithoutReturn (done value)
unfolding done
flows_done value place = goes_still place _ refl refl refl
