-- From a least annotation of the blocks, a least annotation of the points.
use Rattle.std.proofs.Common.{◌≡◌, ℕ, zero, suc, ◌+◌, ◌<◌, ◌≤◌, ◌⊎◌, inl, inr, Option, Some, None}
use Rattle.std.proofs.Common.{IfSome, List, [], ◌∷◌, Contains, refl, sym, subst, ap, ◌∙◌, arith}
use Rattle.std.proofs.lemmas.Bool.{cases_lt}
use Rattle.sw_solve.specs.Annotation.{value_at, IsBelow, IsAtMost, IsAtMostEverywhere, IsPassedOn}
use Rattle.sw_solve.specs.Layout.{Layout, IsLayout, Chain, PointsBound, PointsClosed, BlocksClosed}
use Rattle.sw_solve.specs.Layout.{BlocksBound, IsLeastOfBlocks, IsLeastOfPoints}
use Rattle.sw_solve.proofs.Points.{Walks, block_values, points, at_place, place_of, outside}
use Rattle.sw_solve.proofs.Points.{block_sized, block_steps, block_stands, block_stood}
use Rattle.sw_solve.proofs.Points.{block_starts, block_climbs, block_passes, contains_one}
use Rattle.sw_solve.proofs.Points.{contains_map, none_some}

-- what an annotation of points has at the first points of n blocks from b on
abbrev heads : {X : Type 0} → Layout X → List (Option X) → ℕ → ℕ → List (Option X)
heads L a b zero = []
heads L a b (suc n) = value_at a (L.start b) ∷ heads L a (suc b) n

head_at : {X : Type 0} (L : Layout X) (a : List (Option X)) (b n k : ℕ) → k < n
    → value_at (heads L a b n) k ≡ value_at a (L.start (b + k))
head_at L a b zero k within = absurd (omega arith)
head_at L a b (suc n) zero within =
    let e : b ≡ b + 0 = omega arith in ap (λ c. value_at a (L.start c)) e
head_at L a b (suc n) (suc k) within =
    let e : suc b + k ≡ b + suc k = omega arith in
    head_at L a (suc b) n k (omega arith) ∙ ap (λ c. value_at a (L.start c)) e

head_past : {X : Type 0} (L : Layout X) (a : List (Option X)) (b n k : ℕ) → n ≤ k
    → value_at (heads L a b n) k ≡ None
head_past L a b zero k past = refl
head_past L a b (suc n) zero past = absurd (omega arith)
head_past L a b (suc n) (suc k) past = head_past L a (suc b) n k (omega arith)

head_of : {X : Type 0} (L : Layout X) (a : List (Option X)) (b : ℕ) → b < L.blocks
    → value_at (heads L a 0 L.blocks) b ≡ value_at a (L.start b)
head_of L a b inside = let e : 0 + b ≡ b = omega arith in
    head_at L a 0 L.blocks b inside ∙ ap (λ c. value_at a (L.start c)) e

-- the first points of an annotation that bounds are one of the blocks that bounds
heads_bound : {X : Type 0} (L : Layout X) → IsLayout L → (a : List (Option X)) → PointsBound L a
    → BlocksBound L (heads L a 0 L.blocks)
heads_bound {X} L is a bounds = record {
  sized = λ b. elim (cases_lt b L.blocks) [
    | inl inside ↦ subst (λ o. IfSome o (λ x. L.size x ≡ L.facts)) (sym (head_of L a b inside))
        (bounds.sized (L.start b))
    | inr past ↦ subst (λ o. IfSome o (λ x. L.size x ≡ L.facts))
        (sym (head_past L a 0 L.blocks b past)) tt
  ];
  entered = λ x enters fits. subst (λ o. IsBelow L.le x o)
      (sym (head_of L a 0 is.some ∙ ap (value_at a) is.first)) (bounds.entered x enters fits);
  stepped = λ b x y made e below fits walk q has. elim (cases_lt b L.blocks) [
    | inl inside ↦ subst (λ o. IsBelow L.le made o) (sym (head_of L a q (is.within b q inside has)))
        (block_passes L is a bounds b inside x made (is.walked b x made walk) fits
        (subst (λ o. IsBelow L.le x o) (sym (sym (head_of L a b inside) ∙ e)) below) q has)
    | inr past ↦ absurd (none_some (value_at (heads L a 0 L.blocks) b) y
        (head_past L a 0 L.blocks b past) e)
  ];
}

module _ {X : Type 0} (L : Layout X) (is : IsLayout L) (s : List (Option X))
    (closed : BlocksClosed L s) where
  pub walks : (b : ℕ) → Walks L is b (value_at s b)
  walks b x e = let h = closed.stepped b x e in (h.made, is.walked b x h.made h.leads_to)

  passed : (b : ℕ) (x : X) (e : value_at s b ≡ Some x) (q : ℕ) → Contains (L.next b) q
      → IsBelow L.le (walks b x e).0 (value_at s q)
  unfolding walks
  passed b x e q has = (closed.stepped b x e).below q has

  abbrev pub all : List (Option X)
  all = points L is s walks

  at : (b k : ℕ) → b < L.blocks → k < L.len b
      → value_at all (L.start b + k) ≡ value_at (block_values L is b (value_at s b) (walks b)) k
  at b k inside within = at_place L is s walks b k inside within

  pub starts : (b : ℕ) → b < L.blocks → value_at all (L.start b) ≡ value_at s b
  starts b inside = let e : L.start b ≡ L.start b + 0 = omega arith in
      ap (value_at all) e ∙ at b 0 inside (is.filled b inside)
      ∙ block_starts L is b (value_at s b) (walks b) (is.filled b inside)

  fits : Option X → Type 0
  fits o = IfSome o (λ x. L.size x ≡ L.facts)

  pub points_closed : PointsClosed L all
  points_closed = record {
    sized = λ p. elim (cases_lt p (L.start L.blocks)) [
      | inl below ↦ let h = place_of L is s walks L.blocks p below in
          subst (λ o. IfSome o (λ x. L.size x ≡ L.facts))
          (sym (ap (value_at all) h.4 ∙ at h.0 h.1 h.2 h.3))
          (block_sized L is h.0 (value_at s h.0) (walks h.0) (closed.sized h.0) h.1)
      | inr past ↦ subst (λ o. IfSome o (λ x. L.size x ≡ L.facts))
          (sym (outside L is s walks p past)) tt
    ];
    entry = closed.entry;
    enters_by = closed.enters_by;
    entered = subst (λ o. IsBelow L.le closed.entry o)
        (sym (ap (value_at all) (sym is.first) ∙ starts 0 is.some)) closed.entered;
    stepped = λ p x e. elim (cases_lt p (L.start L.blocks)) [
      | inl below ↦ let h = place_of L is s walks L.blocks p below in
          stepped_at p x h.0 h.1 h.2 h.3 h.4 e
      | inr past ↦ absurd (none_some (value_at all p) x (outside L is s walks p past) e)
    ];
  }
    where
      goes : (b k : ℕ) (m made : X) → b < L.blocks → k < L.len b
          → (((suc k < L.len b)
          × (value_at (block_values L is b (value_at s b) (walks b)) (suc k) ≡ Some made))
          ⊎ ((suc k ≡ L.len b)
          × ((q : ℕ) → Contains (L.next b) q → IsBelow L.le made (value_at s q))))
          → (q : ℕ) → Contains (L.after (L.start b + k)) q → IsBelow L.le made (value_at all q)
      goes b k m made inside within (inl w) q has =
          let to : q ≡ suc (L.start b + k) = contains_one (suc (L.start b + k)) q
          (subst (λ qs. Contains qs q) (is.inner b k inside w.0) has) in
          let place : suc (L.start b + k) ≡ L.start b + suc k = omega arith in
          subst (λ o. IsBelow L.le made o)
          (sym (ap (value_at all) (to ∙ place) ∙ at b (suc k) inside w.0 ∙ w.1)) (is.reflexive made)
      goes b k m made inside within (inr w) q has =
          let h = contains_map L.start (L.next b) q
          (subst (λ qs. Contains qs q) (is.last b k inside w.0) has) in
          subst (λ o. IsBelow L.le made o)
          (sym (ap (value_at all) h.2 ∙ starts h.0 (is.within b h.0 inside h.1))) (w.1 h.0 h.1)

      stepped_at : (p : ℕ) (x : X) (b k : ℕ) → b < L.blocks → k < L.len b → p ≡ L.start b + k
          → value_at all p ≡ Some x → IsPassedOn L.le L.step L.after all p x
      stepped_at p x b k inside within place e =
          let here : value_at (block_values L is b (value_at s b) (walks b)) k ≡ Some x =
          sym (at b k inside within) ∙ ap (value_at all) (sym place) ∙ e in
          let h = block_steps L is s b (value_at s b) (walks b) (passed b) k x within here in
          record {
            made = h.0;
            leads_to = subst (λ q. L.step q x h.0) (sym place) h.1;
            below = λ q has. goes b k x h.0 inside within h.2 q
                (subst (λ q'. Contains (L.after q') q) place has);
          }

  pub points_lowest : ((b : List (Option X)) → BlocksBound L b → IsAtMostEverywhere L.le s b)
      → (a : List (Option X)) → PointsBound L a → IsAtMostEverywhere L.le all a
  points_lowest lowest a bounds = record {
    each = λ p. elim (cases_lt p (L.start L.blocks)) [
      | inl below ↦ let h = place_of L is s walks L.blocks p below in
          at_most (value_at all p) p
          (λ m e. subst (λ q. IsBelow L.le m (value_at a q)) (sym h.4)
          (climbed h.0 h.1 h.2 h.3 m (sym (at h.0 h.1 h.2 h.3) ∙ ap (value_at all) (sym h.4) ∙ e)))
      | inr past ↦ subst (λ o. IsAtMost L.le o (value_at a p))
          (sym (outside L is s walks p past)) tt
    ];
  }
    where
      at_most : (o : Option X) (p : ℕ) → ((m : X) → o ≡ Some m → IsBelow L.le m (value_at a p))
          → IsAtMost L.le o (value_at a p)
      at_most None p below = tt
      at_most (Some m) p below = below m refl

      climbed : (b k : ℕ) → b < L.blocks → k < L.len b → (m : X)
          → value_at (block_values L is b (value_at s b) (walks b)) k ≡ Some m
          → IsBelow L.le m (value_at a (L.start b + k))
      climbed b k inside within m e =
          block_climbs L is a bounds b inside (value_at s b) (walks b) (closed.sized b)
          (subst (λ o. IsAtMost L.le (value_at s b) o) (head_of L a b inside)
          ((lowest (heads L a 0 L.blocks) (heads_bound L is a bounds)).each b)) k m within e

  pub stands : (b k : ℕ) (x : X) → b < L.blocks → k < L.len b → value_at s b ≡ Some x
      → (m : X) × (value_at all (L.start b + k) ≡ Some m) × Chain L.step (L.start b) k x m
  stands b k x inside within e =
      let h = block_stands L is b (value_at s b) (walks b) k x within e in
      (h.0, at b k inside within ∙ h.1, h.2)

  pub stood : (b k : ℕ) (m : X) → b < L.blocks → k < L.len b
      → value_at all (L.start b + k) ≡ Some m
      → (x : X) × (value_at s b ≡ Some x) × Chain L.step (L.start b) k x m
  stood b k m inside within e =
      block_stood L is b (value_at s b) (walks b) k m within (sym (at b k inside within) ∙ e)

-- A least annotation of the blocks gives one of the points.
pub blocks_give_points : {X : Type 0} (L : Layout X) → IsLayout L → (s : List (Option X))
    → IsLeastOfBlocks L s → (a : List (Option X)) × IsLeastOfPoints L s a
blocks_give_points L is s least = (
  all L is s least.closed,
  record {
    closed = points_closed L is s least.closed;
    lowest = points_lowest L is s least.closed least.lowest;
    starts = starts L is s least.closed;
    stands = stands L is s least.closed;
    stood = stood L is s least.closed;
  },
)
