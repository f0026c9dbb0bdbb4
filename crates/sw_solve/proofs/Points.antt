-- The least annotation of the points that a least annotation of the blocks gives.
use Rattle.std.proofs.Common.{◌≡◌, ℕ, zero, suc, ◌+◌, ◌-◌, ◌<◌, ◌≤◌, ◌⊎◌, inl, inr, Option, Some}
use Rattle.std.proofs.Common.{None, IfSome, List, [], ◌∷◌, ◌++◌, length, map, replicate, Contains}
use Rattle.std.proofs.Common.{refl, sym}
use Rattle.std.proofs.Common.{subst, ap, ◌∙◌, arith}
use Rattle.std.proofs.lemmas.Bool.{cases_eq, cases_lt}
use Rattle.std.proofs.lemmas.List.{get_or_past}
use Rattle.std.proofs.Math.ListN.{length-replicate}
use Rattle.sw_solve.specs.Annotation.{value_at, IsBelow, IsAtMost}
use Rattle.sw_solve.specs.Layout.{Layout, IsLayout, Chain, PointsBound}
use Rattle.sw_solve.proofs.Chains.{values, length_values, steps_on, reaches, sized}
use Rattle.sw_solve.proofs.Chains.{passes, climbs}

-- an element of the first of two lists
value_left : {X : Type 0} (xs ys : List (Option X)) (k : ℕ) → k < length xs
    → value_at (xs ++ ys) k ≡ value_at xs k
value_left [] ys k within = absurd (omega arith)
value_left (x ∷ xs) ys zero within = refl
value_left (x ∷ xs) ys (suc k) within = value_left xs ys k (omega arith)

-- an element of the second
value_right : {X : Type 0} (xs ys : List (Option X)) (n k : ℕ) → n ≡ length xs + k
    → value_at (xs ++ ys) n ≡ value_at ys k
value_right [] ys n k e = ap (value_at ys) (let h : n ≡ k = omega arith in h)
value_right (x ∷ xs) ys zero k e = absurd (omega arith)
value_right (x ∷ xs) ys (suc n) k e = value_right xs ys n k (omega arith)

value_none : {X : Type 0} (n k : ℕ) → value_at {X = X} (replicate n None) k ≡ None
value_none zero k = refl
value_none (suc n) zero = refl
value_none (suc n) (suc k) = value_none n k

pub contains_one : (x q : ℕ) → Contains (x ∷ []) q → q ≡ x
contains_one x q (zero, within, e) = sym e
contains_one x q (suc k, within, e) = absurd (omega arith)

contains_later : (x : ℕ) (xs : List ℕ) (y : ℕ) → Contains xs y → Contains (x ∷ xs) y
contains_later x xs y (k, within, e) = (suc k, omega arith, e)

pub contains_map : (f : ℕ → ℕ) (xs : List ℕ) (q : ℕ) → Contains (map f xs) q
    → (x : ℕ) × Contains xs x × (q ≡ f x)
contains_map f [] q (k, within, e) = absurd (omega arith)
contains_map f (x ∷ xs) q (zero, within, e) = (x, (0, omega arith, refl), sym e)
contains_map f (x ∷ xs) q (suc k, within, e) =
    let h = contains_map f xs q (k, omega arith, e) in
    (h.0, contains_later x xs h.0 h.1, h.2)

to_map : (f : ℕ → ℕ) (xs : List ℕ) (x : ℕ) → Contains xs x → Contains (map f xs) (f x)
to_map f [] x (k, within, e) = absurd (omega arith)
to_map f (y ∷ xs) x (zero, within, e) = (0, omega arith, ap f e)
to_map f (y ∷ xs) x (suc k, within, e) =
    contains_later (f y) (map f xs) (f x) (to_map f xs x (k, omega arith, e))

some_same : {X : Type 0} (x y : X) → Some x ≡ Some y → x ≡ y
some_same x y e = cc

pub none_some : {X : Type 0} (o : Option X) (x : X) → o ≡ None → o ≡ Some x → ⊥
none_some o x e f = cc

module _ {X : Type 0} (L : Layout X) (is : IsLayout L) where
  -- a block with a value has a chain through it
  abbrev pub Walks : ℕ → Option X → Type 0
  Walks b o = (x : X) → o ≡ Some x → (z : X) × Chain L.step (L.start b) (L.len b) x z

  -- the values at the points of a block
  abbrev pub block_values : (b : ℕ) (o : Option X) → Walks b o → List (Option X)
  block_values b None walks = replicate (L.len b) None
  block_values b (Some x) walks =
      values L.step (L.start b) (L.len b) x (walks x refl).0 (walks x refl).1

  length_block : (b : ℕ) (o : Option X) (walks : Walks b o)
      → length (block_values b o walks) ≡ L.len b
  length_block b None walks = length-replicate (L.len b) None
  length_block b (Some x) walks =
      length_values L.step (L.start b) (L.len b) x (walks x refl).0 (walks x refl).1

  -- the values at the points of n blocks from b on
  module _ (s : List (Option X)) (walks : (b : ℕ) → Walks b (value_at s b)) where
    abbrev pub at_block : ℕ → List (Option X)
    at_block b = block_values b (value_at s b) (walks b)

    abbrev pub from_block : ℕ → ℕ → List (Option X)
    from_block b zero = []
    from_block b (suc n) = at_block b ++ from_block (suc b) n

    start_up : (b c : ℕ) → b < c → L.start b + L.len b ≤ L.start c
    start_up b zero below = absurd (omega arith)
    start_up b (suc c) below = elim (cases_eq b c) [
      | inl same ↦ let e : L.start (suc b) ≡ L.start (suc c) = ap (λ n. L.start (suc n)) same in
          omega (arith, e, is.begins b)
      | inr other ↦ let h : b < c = omega arith in omega (arith, start_up b c h, is.begins c)
    ]

    -- the values of a block stand at its points
    stand : (n b c k p : ℕ) → b ≤ c → c < b + n → k < L.len c → p + L.start b ≡ L.start c + k
        → value_at (from_block b n) p ≡ value_at (at_block c) k
    stand zero b c k p low high within e = absurd (omega arith)
    stand (suc n) b c k p low high within e = elim (cases_eq b c) [
      | inl same ↦ here same
      | inr other ↦ let h : b < c = omega arith in
          there h (λ q at. stand n (suc b) c k q h (omega arith) within at)
    ]
      where
        here : b ≡ c → value_at (from_block b (suc n)) p ≡ value_at (at_block c) k
        here same =
            let starts : L.start b ≡ L.start c = ap L.start same in
            let at : p ≡ k = omega arith in
            let lens : L.len b ≡ L.len c = ap L.len same in
            value_left (at_block b) (from_block (suc b) n) p
            (omega (arith, length_block b (value_at s b) (walks b)))
            ∙ ap (λ q. value_at (at_block b) q) at
            ∙ ap (λ d. value_at (at_block d) k) same

        there : b < c → ((q : ℕ) → q + L.start (suc b) ≡ L.start c + k
            → value_at (from_block (suc b) n) q ≡ value_at (at_block c) k)
            → value_at (from_block b (suc n)) p ≡ value_at (at_block c) k
        there below later =
            let up = start_up b c below in
            value_right (at_block b) (from_block (suc b) n) p (p - L.len b)
            (omega (arith, up, length_block b (value_at s b) (walks b)))
            ∙ later (p - L.len b) (omega (arith, up, is.begins b))

    length_from : (b n : ℕ) → L.start b + length (from_block b n) ≡ L.start (b + n)
    length_from b zero =
        let same : L.start b ≡ L.start (b + 0) =
        ap L.start (let h : b ≡ b + 0 = omega arith in h) in
        omega (arith, same)
    length_from b (suc n) =
        let h = length_from (suc b) n in
        let e = length_both (at_block b) (from_block (suc b) n) in
        let f = length_block b (value_at s b) (walks b) in
        let same : L.start (suc b + n) ≡ L.start (b + suc n) =
        ap L.start (let q : suc b + n ≡ b + suc n = omega arith in q) in
        omega (arith, h, e, f, same, is.begins b)
      where
        length_both : (xs ys : List (Option X)) → length (xs ++ ys) ≡ length xs + length ys
        length_both [] ys = omega arith
        length_both (x ∷ xs) ys = let h = length_both xs ys in omega (arith, h)

    -- all points
    abbrev pub points : List (Option X)
    points = from_block 0 L.blocks

    pub at_place : (b k : ℕ) → b < L.blocks → k < L.len b
        → value_at points (L.start b + k) ≡ value_at (at_block b) k
    at_place b k inside within = stand L.blocks 0 b k (L.start b + k) (omega arith) (omega arith)
        within (omega (arith, is.first))

    -- each point below the first one of block n lies in a block before that
    pub place_of : (n p : ℕ) → p < L.start n
        → (b k : ℕ) × (b < n) × (k < L.len b) × (p ≡ L.start b + k)
    place_of zero p below = absurd (omega (arith, is.first))
    place_of (suc n) p below = elim (cases_lt p (L.start n)) [
      | inl lower ↦ let h = place_of n p lower in (h.0, h.1, omega (arith, h.2), h.3, h.4)
      | inr upper ↦ (n, p - L.start n, omega arith, omega (arith, is.begins n), omega arith)
    ]

    pub outside : (p : ℕ) → L.start L.blocks ≤ p → value_at points p ≡ None
    outside p past = get_or_past points p None
        (omega (
          arith,
          length_from 0 L.blocks,
          is.first,
          ap L.start (let h : 0 + L.blocks ≡ L.blocks = omega arith in h),
        ))

-- What stands in a block whose value is o: at each point a value from which its step leads to the
-- value at the next point, or at the last point to a value at the blocks that follow.
module _ {X : Type 0} (L : Layout X) (is : IsLayout L) where
  pub block_sized : (b : ℕ) (o : Option X) (walks : Walks L is b o)
      → IfSome o (λ x. L.size x ≡ L.facts) → (k : ℕ)
      → IfSome (value_at (block_values L is b o walks) k) (λ x. L.size x ≡ L.facts)
  block_sized b None walks fits k = subst (λ v. IfSome v (λ x. L.size x ≡ L.facts))
      (sym (value_none (L.len b) k)) tt
  block_sized b (Some x) walks fits k = sized L is (L.start b) (L.len b) x (walks x refl).0
      (walks x refl).1 fits k

  -- the step at a point of a block
  abbrev pub Steps : (s : List (Option X)) (b : ℕ) (o : Option X) → Walks L is b o → ℕ → X → Type 0
  Steps s b o walks k m = (made : X) × L.step (L.start b + k) m made
      × (((suc k < L.len b) × (value_at (block_values L is b o walks) (suc k) ≡ Some made))
      ⊎ ((suc k ≡ L.len b) × ((q : ℕ) → Contains (L.next b) q → IsBelow L.le made (value_at s q))))

  pub block_steps : (s : List (Option X)) (b : ℕ) (o : Option X) (walks : Walks L is b o)
      → ((x : X) (e : o ≡ Some x) (q : ℕ) → Contains (L.next b) q
      → IsBelow L.le (walks x e).0 (value_at s q))
      → (k : ℕ) (m : X) → k < L.len b → value_at (block_values L is b o walks) k ≡ Some m
      → Steps s b o walks k m
  block_steps s b None walks passed k m within e =
      absurd (none_some (value_at (replicate (L.len b) None) k) m (value_none (L.len b) k) e)
  block_steps s b (Some x) walks passed k m within e =
      let h = steps_on L.step (L.start b) (L.len b) x (walks x refl).0 (walks x refl).1 k m within
      e in (
        h.0,
        h.1,
        elim h.2 [
          | inl w ↦ inl w
          | inr w ↦ inr (
            w.0,
            λ q has. subst (λ y. IsBelow L.le y (value_at s q)) (sym w.1)
                (passed x refl q has),
          )
        ],
      )

  -- what a block has, and what stands at its points
  pub block_stands : (b : ℕ) (o : Option X) (walks : Walks L is b o) (k : ℕ) (x : X) → k < L.len b
      → o ≡ Some x
      → (m : X) × (value_at (block_values L is b o walks) k ≡ Some m)
      × Chain L.step (L.start b) k x m
  block_stands b None walks k x within e = cc
  block_stands b (Some y) walks k x within e =
      let same : y ≡ x = cc in
      let h = reaches L.step (L.start b) (L.len b) y (walks y refl).0 (walks y refl).1 k within in
      (h.0, h.1, subst (λ v. Chain L.step (L.start b) k v h.0) same h.2)

  pub block_stood : (b : ℕ) (o : Option X) (walks : Walks L is b o) (k : ℕ) (m : X) → k < L.len b
      → value_at (block_values L is b o walks) k ≡ Some m
      → (x : X) × (o ≡ Some x) × Chain L.step (L.start b) k x m
  block_stood b None walks k m within e =
      absurd (none_some (value_at (replicate (L.len b) None) k) m (value_none (L.len b) k) e)
  block_stood b (Some x) walks k m within e =
      let h = reaches L.step (L.start b) (L.len b) x (walks x refl).0 (walks x refl).1 k within in
      let same : h.0 ≡ m = some_same h.0 m (sym h.1 ∙ e) in
      (x, refl, subst (λ v. Chain L.step (L.start b) k x v) same h.2)

  pub block_starts : (b : ℕ) (o : Option X) (walks : Walks L is b o) → 0 < L.len b
      → value_at (block_values L is b o walks) 0 ≡ o
  block_starts b None walks some = value_none (L.len b) 0
  block_starts b (Some x) walks some =
      let h = reaches L.step (L.start b) (L.len b) x (walks x refl).0 (walks x refl).1 0 some in
      h.1 ∙ ap Some h.2

  -- a point inside a block leads to the next one
  goes_on : (b : ℕ) → b < L.blocks → (j : ℕ) → suc j < L.len b
      → Contains (L.after (L.start b + j)) (suc (L.start b + j))
  goes_on b inside j within = subst (λ qs. Contains qs (suc (L.start b + j)))
      (sym (is.inner b j inside within)) (0, omega arith, refl)

  -- the points of a block are below an annotation that bounds, if the block is
  pub block_climbs : (a : List (Option X)) → PointsBound L a → (b : ℕ) → b < L.blocks
      → (o : Option X) (walks : Walks L is b o) → IfSome o (λ x. L.size x ≡ L.facts)
      → IsAtMost L.le o (value_at a (L.start b)) → (k : ℕ) (m : X) → k < L.len b
      → value_at (block_values L is b o walks) k ≡ Some m
      → IsBelow L.le m (value_at a (L.start b + k))
  block_climbs a bounds b inside None walks fits below k m within e =
      absurd (none_some (value_at (replicate (L.len b) None) k) m (value_none (L.len b) k) e)
  block_climbs a bounds b inside (Some x) walks fits below k m within e =
      climbs L is a bounds (L.start b) (L.len b) x (walks x refl).0 (walks x refl).1 fits below
      (goes_on b inside) k m within e

  -- what a walk makes of a value that is below is below at the blocks that follow
  pub block_passes : (a : List (Option X)) → PointsBound L a → (b : ℕ) → b < L.blocks → (x z : X)
      → Chain L.step (L.start b) (L.len b) x z → L.size x ≡ L.facts
      → IsBelow L.le x (value_at a (L.start b)) → (q : ℕ) → Contains (L.next b) q
      → IsBelow L.le z (value_at a (L.start q))
  block_passes a bounds b inside x z chain fits below q has =
      let filled = is.filled b inside in
      let k : ℕ = L.len b - 1 in
      let within : k < L.len b = omega arith in
      let ends : suc k ≡ L.len b = omega arith in
      let at = reaches L.step (L.start b) (L.len b) x z chain k within in
      let on = steps_on L.step (L.start b) (L.len b) x z chain k at.0 within at.1 in
      let there = climbs L is a bounds (L.start b) (L.len b) x z chain fits below
      (goes_on b inside) k at.0 within at.1 in
      let size = sized_there k at.0 (sized L is (L.start b) (L.len b) x z chain fits k) at.1 in
      let after : Contains (L.after (L.start b + k)) (L.start q) =
      subst (λ qs. Contains qs (L.start q)) (sym (is.last b k inside ends))
      (to_map L.start (L.next b) q has) in
      let below_next = passes L a bounds (L.start b + k) at.0 on.0 (value_at a (L.start b + k)) refl
      size there on.1 (L.start q) after in
      elim on.2 [
        | inl w ↦ absurd (omega (arith, w.0))
        | inr w ↦ subst (λ v. IsBelow L.le v (value_at a (L.start q))) w.1 below_next
      ]
    where
      sized_there : (k : ℕ) (m : X)
          → IfSome (value_at (values L.step (L.start b) (L.len b) x z chain) k)
          (λ y. L.size y ≡ L.facts)
          → value_at (values L.step (L.start b) (L.len b) x z chain) k ≡ Some m
          → L.size m ≡ L.facts
      sized_there k m h e = subst (λ o. IfSome o (λ y. L.size y ≡ L.facts)) e h
