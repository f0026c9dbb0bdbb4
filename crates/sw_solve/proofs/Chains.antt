-- Chains of steps, and the values that stand at their points.
use Rattle.std.proofs.Common.{◌≡◌, ℕ, zero, suc, ◌+◌, ◌<◌, ◌⊎◌, inl, inr, Option, Some, None}
use Rattle.std.proofs.Common.{IfSome, List, []}
use Rattle.std.proofs.Common.{◌∷◌, length, Contains, refl, sym, subst, ap, ◌∙◌, arith}
use Rattle.sw_solve.specs.Annotation.{value_at, IsBelow}
use Rattle.sw_solve.specs.Layout.{Layout, IsLayout, Chain, PointsBound}

module _ {X : Type 0} (step : ℕ → X → X → Type 0) where
  -- the value before each point of a chain
  abbrev pub values : (p n : ℕ) (a z : X) → Chain step p n a z → List (Option X)
  values p zero a z c = []
  values p (suc n) a z (m, s, c) = Some a ∷ values (suc p) n m z c

  pub length_values : (p n : ℕ) (a z : X) (c : Chain step p n a z) → length (values p n a z c) ≡ n
  length_values p zero a z c = refl
  length_values p (suc n) a z (m, s, c) = ap suc (length_values (suc p) n m z c)

  step_at : (p : ℕ) (a m y : X) → step p a y → a ≡ m → step (p + 0) m y
  step_at p a m y s same = let here : p ≡ p + 0 = omega arith in
      subst (λ q. step q m y) here (subst (λ v. step p v y) same s)

  -- a chain with a point begins with its first value, and one without ends there
  begins : (p n : ℕ) (a z : X) (c : Chain step p n a z)
      → ((0 < n) × (value_at (values p n a z c) 0 ≡ Some a)) ⊎ ((n ≡ 0) × (a ≡ z))
  begins p zero a z c = inr (refl, sym c)
  begins p (suc n) a z (m, s, c) = inl (omega arith, refl)

  -- At each point a step leads to the value at the next point, or to the end of the chain.
  pub steps_on : (p n : ℕ) (a z : X) (c : Chain step p n a z) (k : ℕ) (m : X) → k < n
      → value_at (values p n a z c) k ≡ Some m
      → (made : X) × step (p + k) m made
      × (((suc k < n) × (value_at (values p n a z c) (suc k) ≡ Some made))
      ⊎ ((suc k ≡ n) × (made ≡ z)))
  steps_on p zero a z c k m within e = absurd (omega arith)
  steps_on p (suc n) a z (y, s, c) zero m within e = (
    y,
    step_at p a m y s (let h : a ≡ m = cc in h),
    elim (begins (suc p) n y z c) [
      | inl w ↦ inl (omega (arith, w.0), w.1)
      | inr w ↦ inr (ap suc (sym w.0), w.1)
    ],
  )
  steps_on p (suc n) a z (y, s, c) (suc k) m within e =
      let h = steps_on (suc p) n y z c k m (omega arith) e in
      let here : suc p + k ≡ p + suc k = omega arith in (
        h.0,
        subst (λ q. step q m h.0) here h.1,
        elim h.2 [
          | inl w ↦ inl (omega (arith, w.0), w.1)
          | inr w ↦ inr (ap suc w.0, w.1)
        ],
      )

  -- what stands at a point is what the points before it make of the first value
  pub reaches : (p n : ℕ) (a z : X) (c : Chain step p n a z) (k : ℕ) → k < n
      → (m : X) × (value_at (values p n a z c) k ≡ Some m) × Chain step p k a m
  reaches p zero a z c k within = absurd (omega arith)
  reaches p (suc n) a z (m, s, c) zero within = (a, refl, refl)
  reaches p (suc n) a z (m, s, c) (suc k) within =
      let h = reaches (suc p) n m z c k (omega arith) in (h.0, h.1, (m, s, h.2))

-- all values of a chain have one size
pub sized : {X : Type 0} (L : Layout X) → IsLayout L → (p n : ℕ) (a z : X)
    (c : Chain L.step p n a z) → L.size a ≡ L.facts → (k : ℕ)
    → IfSome (value_at (values L.step p n a z c) k) (λ x. L.size x ≡ L.facts)
sized L is p zero a z c fits k = tt
sized L is p (suc n) a z (m, s, c) fits zero = fits
sized L is p (suc n) a z (m, s, c) fits (suc k) =
    sized L is (suc p) n m z c (is.kept p a m s ∙ fits) k

-- what a step makes of a value that is below is below at the points that follow
pub passes : {X : Type 0} (L : Layout X) (a : List (Option X)) → PointsBound L a
    → (p : ℕ) (x made : X) (o : Option X) → value_at a p ≡ o → L.size x ≡ L.facts
    → IsBelow L.le x o → L.step p x made → (q : ℕ) → Contains (L.after p) q
    → IsBelow L.le made (value_at a q)
passes L a bounds p x made None e fits below s q has = absurd below
passes L a bounds p x made (Some y) e fits below s q has =
    bounds.stepped p x y made e below fits s q has

-- the values of a chain are below an annotation that bounds, if the first is
pub climbs : {X : Type 0} (L : Layout X) → IsLayout L → (a : List (Option X)) → PointsBound L a
    → (p n : ℕ) (x z : X) (c : Chain L.step p n x z) → L.size x ≡ L.facts
    → IsBelow L.le x (value_at a p)
    → ((j : ℕ) → suc j < n → Contains (L.after (p + j)) (suc (p + j)))
    → (k : ℕ) (m : X) → k < n → value_at (values L.step p n x z c) k ≡ Some m
    → IsBelow L.le m (value_at a (p + k))
climbs L is a bounds p zero x z c fits below inner k m within e = absurd (omega arith)
climbs L is a bounds p (suc n) x z (y, s, c) fits below inner zero m within e =
    let same : x ≡ m = cc in
    let here : p ≡ p + 0 = omega arith in
    subst (λ q. IsBelow L.le m (value_at a q)) here
    (subst (λ v. IsBelow L.le v (value_at a p)) same below)
climbs L is a bounds p (suc n) x z (y, s, c) fits below inner (suc k) m within e =
    let here : suc p + k ≡ p + suc k = omega arith in
    subst (λ q. IsBelow L.le m (value_at a q)) here
    (climbs L is a bounds (suc p) n y z c (is.kept p x y s ∙ fits)
    (passes L a bounds p x y (value_at a p) refl fits below s (suc p) next)
    (λ j inside. later j inside) k m (omega arith) e)
  where
    next : Contains (L.after p) (suc p)
    next = let here : p + 0 ≡ p = omega arith in
        subst (λ q. Contains (L.after q) (suc q)) here (inner 0 (omega arith))

    later : (j : ℕ) → suc j < n → Contains (L.after (suc p + j)) (suc (suc p + j))
    later j inside = let here : p + suc j ≡ suc p + j = omega arith in
        subst (λ q. Contains (L.after q) (suc q)) here (inner (suc j) (omega arith))
