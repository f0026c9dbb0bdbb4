-- Lists of byte offsets, by how often each offset stands in them. Offsets that stand in disjoint
-- spans, each span's once, differ.
use Rattle.std.proofs.Common.{◌≡◌, ℕ, ◌+◌, ◌<◌, ◌≤◌, ◌⊎◌, inl, inr, false, ◌&&◌, if◌then◌else◌}
use Rattle.std.proofs.Common.{nat_eq, nat_lt, nat_le, List, [], ◌∷◌, ◌++◌, map, flat_map, Option}
use Rattle.std.proofs.Common.{None, Some, option_map, option_to_list, unwrap_or, refl, arith}
use Rattle.std.proofs.lemmas.Bool.{cases_lt}
use Rattle.std.proofs.lemmas.Grind.{common_steps}
use Rattle.std.specs.Bool.{⊤}
use Rattle.std.specs.List.{IsDistinct, AllByRecursion}

-- how often each offset stands somewhere
abbrev pub Weight : Type 0
Weight = ℕ → ℕ

-- one at `at` alone
unfoldable pub hits : ℕ → Weight
hits at k = if nat_eq at k then 1 else 0

-- the weights of the items, together
unfoldable pub in_all : {X : Type 0} → (X → Weight) → List X → Weight
in_all w [] k = 0
in_all w (x ∷ xs) k = w x k + in_all w xs k

-- the weight of an item that is there
unfoldable pub in_option : {X : Type 0} → (X → Weight) → Option X → Weight
in_option w None k = 0
in_option w (Some x) k = w x k

-- how often k is in the list
abbrev pub count : List ℕ → Weight
count ats = in_all hits ats

module _ {X : Type 0} (w : X → Weight) where
  pub in_all-nil : (k : ℕ) → in_all w [] k ≡ 0
  unfolding in_all
  in_all-nil k = refl

  pub in_all-cons : (x : X) (xs : List X) (k : ℕ) → in_all w (x ∷ xs) k ≡ w x k + in_all w xs k
  unfolding in_all
  in_all-cons x xs k = refl

  pub in_all-append : (xs ys : List X) (k : ℕ)
      → in_all w (xs ++ ys) k ≡ in_all w xs k + in_all w ys k
  unfolding in_all
  in_all-append [] ys k = omega arith
  in_all-append (x ∷ xs) ys k = omega (arith, in_all-append xs ys k)

  pub in_all-option_to_list : (x : Option X) (k : ℕ)
      → in_all w (option_to_list x) k ≡ in_option w x k
  unfolding in_all in_option
  in_all-option_to_list None k = refl
  in_all-option_to_list (Some x) k = omega arith

  module _ {Y : Type 0} where
    pub in_all-map : (f : Y → X) (ys : List Y) (k : ℕ)
        → in_all w (map f ys) k ≡ in_all (λ y. w (f y)) ys k
    unfolding in_all
    in_all-map f [] k = refl
    in_all-map f (y ∷ ys) k = omega (arith, in_all-map f ys k)

    pub in_all-flat_map : (f : Y → List X) (ys : List Y) (k : ℕ)
        → in_all w (flat_map f ys) k ≡ in_all (λ y. in_all w (f y)) ys k
    unfolding in_all
    in_all-flat_map f [] k = refl
    in_all-flat_map f (y ∷ ys) k =
        omega (arith, in_all-append (f y) (flat_map f ys) k, in_all-flat_map f ys k)

    -- the same where the lists are made first
    pub in_all-joined : (f : Y → List X) (ys : List Y) (k : ℕ)
        → in_all w (flat_map (λ more. more) (map f ys)) k ≡ in_all (λ y. in_all w (f y)) ys k
    unfolding in_all
    in_all-joined f [] k = refl
    in_all-joined f (y ∷ ys) k =
        omega (
          arith,
          in_all-append (f y) (flat_map (λ more. more) (map f ys)) k,
          in_all-joined f ys k,
        )

    pub in_all-option : (f : Y → List X) (y : Option Y) (k : ℕ)
        → in_all w (unwrap_or (option_map f y) []) k ≡ in_option (λ y. in_all w (f y)) y k
    unfolding in_all in_option
    in_all-option f None k = refl
    in_all-option f (Some y) k = refl

pub hits_same : (at : ℕ) → hits at at ≡ 1
unfolding hits
hits_same at = grind (arith, common_steps)

-- what isn't in the list differs from all that is
none_equal : (at : ℕ) (ats : List ℕ) → count ats at ≡ 0
    → AllByRecursion (λ other. nat_eq at other ≡ false) ats
unfolding in_all hits
none_equal at [] none = tt
none_equal at (other ∷ ats) none = (grind (arith, common_steps), none_equal at ats (omega arith))

-- offsets that stand in a list once at most are distinct
pub IsDistinct-count : (ats : List ℕ) → ((k : ℕ) → count ats k ≤ 1) → IsDistinct nat_eq ats
unfolding IsDistinct
IsDistinct-count [] once = tt
IsDistinct-count (at ∷ ats) once = (
  none_equal at ats (let one = once at in
      omega (arith, one, hits_same at, in_all-cons hits at ats at)),
  IsDistinct-count ats (λ k. let one = once k in
      omega (arith, one, in_all-cons hits at ats k)),
)

-- Items with a span each, from its start to before its end, as the tokens of a text have.
module _ {T : Type 0} (start end : T → ℕ) where
  -- whether k lies in the item's span
  unfoldable pub here : T → Weight
  here t k = if nat_le (start t) k && nat_lt k (end t) then 1 else 0

  -- how many of the spans k lies in
  unfoldable pub covers : List T → Weight
  covers ts = in_all here ts

  -- the spans are in order, from an offset on
  abbrev pub InOrder : ℕ → List T → Type 0
  InOrder from [] = ⊤
  InOrder from (t ∷ ts) = (from ≤ start t) × (start t ≤ end t) × InOrder (end t) ts

  here_not : (t : T) (k : ℕ) → k < start t → here t k ≡ 0
  unfolding here
  here_not t k before = grind (arith, common_steps)

  here_past : (t : T) (k : ℕ) → end t ≤ k → here t k ≡ 0
  unfolding here
  here_past t k past = grind (arith, common_steps)

  here_once : (t : T) (k : ℕ) → here t k ≤ 1
  unfolding here
  here_once t k = grind (arith, common_steps)

  covers_none : (from : ℕ) (ts : List T) → InOrder from ts → (k : ℕ) → k < from → covers ts k ≡ 0
  unfolding covers in_all
  covers_none from [] order k before = refl
  covers_none from (t ∷ ts) order k before =
      let one = order.0 in
      let two = order.1 in
      omega (arith, here_not t k (omega arith), covers_none (end t) ts order.2 k (omega arith))

  -- so no offset lies in two of them
  pub covers_once : (from : ℕ) (ts : List T) → InOrder from ts → (k : ℕ) → covers ts k ≤ 1
  unfolding covers in_all
  covers_once from [] order k = omega arith
  covers_once from (t ∷ ts) order k = by (cases_lt k (end t)) (covers_once (end t) ts order.2 k)
    where
      by : (k < end t) ⊎ (end t ≤ k) → in_all here ts k ≤ 1 → here t k + in_all here ts k ≤ 1
      by (inl before) rest = omega (arith, here_once t k, covers_none (end t) ts order.2 k before)
      by (inr past) rest = omega (arith, here_past t k past, rest)

  -- and offsets that are counted in the spans alone are distinct
  pub IsDistinct-covers : (from : ℕ) (ts : List T) → InOrder from ts → (ats : List ℕ)
      → ((k : ℕ) → count ats k ≤ covers ts k) → IsDistinct nat_eq ats
  IsDistinct-covers from ts order ats counted =
      IsDistinct-count ats (λ k. let one = covers_once from ts order k in let two = counted k in
      omega (arith, one, two))
