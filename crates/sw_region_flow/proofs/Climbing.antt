-- A flow with finitely many points over states of bounded rank has a least annotation: it is raised
-- point by point until it is closed.
use Rattle.std.proofs.Common.{◌≡◌, ◌≢◌, ℕ, zero, suc, ◌+◌, ◌*◌, ◌<◌, ◌≤◌, ◌⊎◌, inl, inr, Option}
use Rattle.std.proofs.Common.{Some, None, IfSome, List, [], ◌∷◌, length, set, replicate, Contains}
use Rattle.std.proofs.Common.{refl, sym, subst, ap, ◌∙◌, arith}
use Rattle.std.proofs.lemmas.Bool.{cases_eq, cases_lt}
use Rattle.std.proofs.lemmas.List.{get_or-set_same, get_or-set_other, get_or_past, get_or-replicate}
use Rattle.std.proofs.Math.ListN.{length-set, length-replicate}
use Rattle.sw_region_flow.proofs.OneSites.{member_cases, member_first, member_later, no_member}
use Rattle.sw_solve.proofs.Solving.{Problem, IsLawful, Closed, Bounds, IsSettled}
use Rattle.sw_solve.proofs.Spreading.{weighed-set, below_up}
use Rattle.sw_solve.specs.Annotation.{value_at, IsBelow, IsAtMost, IsAtMostEverywhere}
use Rattle.sw_solve.specs.Work.{level_of, weighed}

-- a value takes another in: it is the least above both, and stands higher than the first
pub record IsHigher {X : Type 0} (P : Problem X) (x y z : X) : Type 0 where
  pub sized : P.size z ≡ P.facts
  pub left : P.le x z
  pub right : P.le y z
  pub least : (w : X) → P.size w ≡ P.facts → P.le x w → P.le y w → P.le z w
  pub higher : P.rank x < P.rank z

-- what is asked of a flow: its points are below a count, each step can be done, a value can take
-- another in, ranks have a bound, and some value enters
pub record CanClimb {X : Type 0} (P : Problem X) (count bound : ℕ) : Type 0 where
  pub some : 0 < count
  pub inside : (p q : ℕ) → Contains (P.successors p) q → q < count
  pub steps : (p : ℕ) (x : X) → P.size x ≡ P.facts
      → (made : X) × P.leads p x made × (P.size made ≡ P.facts)
  pub takes : (x y : X) → P.size x ≡ P.facts → P.size y ≡ P.facts
      → P.le y x ⊎ ((z : X) × IsHigher P x y z)
  pub bounded : (x : X) → P.size x ≡ P.facts → P.rank x ≤ bound
  pub entry : X
  pub enters_by : P.enters entry
  pub entry_sized : P.size entry ≡ P.facts

none_is : {X : Type 0} (x : X) → None ≡ Some x → ⊥
none_is x e = cc

one_value : {X : Type 0} (x y : X) → Some x ≡ Some y → x ≡ y
one_value x y e = cc

module _ {X : Type 0} (P : Problem X) (laws : IsLawful P) (count bound : ℕ)
    (can : CanClimb P count bound) where
  -- an annotation on the way up
  record IsClimbing (a : List (Option X)) : Type 0 where
    length_is : length a ≡ count
    sized : (p : ℕ) → IfSome (value_at a p) (λ x. P.size x ≡ P.facts)
    entered : IsBelow P.le can.entry (value_at a 0)
    lowest : (b : List (Option X)) → Bounds P b → IsAtMostEverywhere P.le a b

  abbrev levels : List (Option X) → ℕ
  levels a = weighed P.rank (λ _. 1) 0 a

  -- an annotation that stands higher
  Above : List (Option X) → Type 0
  Above a = (b : List (Option X)) × IsClimbing b × (levels a < levels b)

  -- one slot is raised
  raised : (a : List (Option X)) → IsClimbing a → (q : ℕ) (z : X) → q < count
      → P.size z ≡ P.facts → IsAtMost P.le (value_at a q) (Some z)
      → level_of P.rank (value_at a q) < level_of P.rank (Some z)
      → ((b : List (Option X)) → Bounds P b → IsBelow P.le z (value_at b q)) → Above a
  unfolding Above
  raised a climbing q z lt sized above higher least = (
    set a q (Some z),
    record {
      length_is = length-set a q (Some z) ∙ climbing.length_is;
      sized = λ p. elim (cases_eq p q) [
        | inl e ↦ subst (λ o. IfSome o (λ x. P.size x ≡ P.facts)) (sym (here p e)) sized
        | inr other ↦ subst (λ o. IfSome o (λ x. P.size x ≡ P.facts)) (sym (there p other))
            (climbing.sized p)
      ];
      entered = elim (cases_eq 0 q) [
        | inl e ↦ subst (λ o. IsBelow P.le can.entry o) (sym (here 0 e))
            (below_up P.le laws.transitive can.entry (value_at a 0) (Some z) climbing.entered
            (subst (λ n. IsAtMost P.le (value_at a n) (Some z)) (sym e) above))
        | inr other ↦ subst (λ o. IsBelow P.le can.entry o) (sym (there 0 other))
            climbing.entered
      ];
      lowest = λ b bounds. record {
        each = λ p. elim (cases_eq p q) [
          | inl e ↦ subst (λ o. IsAtMost P.le o (value_at b p)) (sym (here p e))
              (subst (λ n. IsBelow P.le z (value_at b n)) (sym e) (least b bounds))
          | inr other ↦ subst (λ o. IsAtMost P.le o (value_at b p)) (sym (there p other))
              ((climbing.lowest b bounds).each p)
        ];
      };
    },
    (let h = weighed-set P.rank (λ _. 1) 0 a q (Some z) within in omega (arith, h, higher)),
  )
    where
      within : q < length a
      within = subst (λ n. q < n) (sym climbing.length_is) lt

      here : (p : ℕ) → p ≡ q → value_at (set a q (Some z)) p ≡ Some z
      here p e = subst (λ n. value_at (set a q (Some z)) n ≡ Some z) (sym e)
          (get_or-set_same a q (Some z) None within)

      there : (p : ℕ) → p ≢ q → value_at (set a q (Some z)) p ≡ value_at a p
      there p other = get_or-set_other a q p (Some z) None other

  -- what a step makes is below what stands at a point, or the annotation can be raised
  passed_to : (a : List (Option X)) → IsClimbing a → (p : ℕ) (x made : X) → value_at a p ≡ Some x
      → P.leads p x made → P.size made ≡ P.facts → (q : ℕ) → Contains (P.successors p) q
      → IsBelow P.le made (value_at a q) ⊎ Above a
  passed_to a climbing p x made at leads sized q has = by (value_at a q) refl (climbing.sized q)
    where
      x_sized : P.size x ≡ P.facts
      x_sized = subst (λ o. IfSome o (λ y. P.size y ≡ P.facts)) at (climbing.sized p)

      above_of : (b : List (Option X)) → Bounds P b → (o : Option X) → value_at b p ≡ o
          → IsAtMost P.le (Some x) o → IsBelow P.le made (value_at b q)
      above_of b bounds None e below = absurd below
      above_of b bounds (Some y) e below = bounds.stepped p x y made e below x_sized leads q has

      made_least : (b : List (Option X)) → Bounds P b → IsBelow P.le made (value_at b q)
      made_least b bounds = above_of b bounds (value_at b p) refl
          (subst (λ o. IsAtMost P.le o (value_at b p)) at ((climbing.lowest b bounds).each p))

      both_least : (y z : X) → value_at a q ≡ Some y → IsHigher P y made z
          → (b : List (Option X)) → Bounds P b → (o : Option X) → value_at b q ≡ o
          → IsAtMost P.le (Some y) o → IsBelow P.le made o
          → IfSome o (λ w. P.size w ≡ P.facts) → IsBelow P.le z o
      both_least y z e is b bounds None at_b most below fits = absurd below
      both_least y z e is b bounds (Some w) at_b most below fits = is.least w fits most below

      by : (o : Option X) → value_at a q ≡ o → IfSome o (λ y. P.size y ≡ P.facts)
          → IsBelow P.le made o ⊎ Above a
      by None e fits = inr (raised a climbing q made (can.inside p q has) sized
          (subst (λ o. IsAtMost P.le o (Some made)) (sym e) tt)
          (subst (λ o. level_of P.rank o < level_of P.rank (Some made)) (sym e) (omega arith))
          made_least)
      by (Some y) e fits = elim (can.takes y made fits sized) [
        | inl le ↦ inl le
        | inr h ↦ inr (raised a climbing q h.0 (can.inside p q has) h.1.sized
            (subst (λ o. IsAtMost P.le o (Some h.0)) (sym e) h.1.left)
            (subst (λ o. level_of P.rank o < level_of P.rank (Some h.0)) (sym e)
            (let up = h.1.higher in omega arith))
            (λ b bounds. both_least y h.0 e h.1 b bounds (value_at b q) refl
            (subst (λ o. IsAtMost P.le o (value_at b q)) e ((climbing.lowest b bounds).each q))
            (made_least b bounds) (bounds.sized q)))
      ]

  -- the same for all points that follow
  passed_all : (a : List (Option X)) (made : X) (qs : List ℕ)
      → ((q : ℕ) → Contains qs q → IsBelow P.le made (value_at a q) ⊎ Above a)
      → ((q : ℕ) → Contains qs q → IsBelow P.le made (value_at a q)) ⊎ Above a
  passed_all a made [] each = inl (λ q has. absurd (no_member q has))
  passed_all a made (q ∷ qs) each =
      by (each q (member_first q qs))
      (passed_all a made qs (λ r has. each r (member_later q qs r has)))
    where
      by : IsBelow P.le made (value_at a q) ⊎ Above a
          → ((r : ℕ) → Contains qs r → IsBelow P.le made (value_at a r)) ⊎ Above a
          → ((r : ℕ) → Contains (q ∷ qs) r → IsBelow P.le made (value_at a r)) ⊎ Above a
      by (inr up) rest = inr up
      by (inl here) (inr up) = inr up
      by (inl here) (inl rest) = inl (λ r has. elim (member_cases q qs r has) [
        | inl e ↦ subst (λ n. IsBelow P.le made (value_at a n)) (sym e) here
        | inr later ↦ rest r later
      ])

  -- a point is settled, or the annotation can be raised
  settled_at : (a : List (Option X)) → IsClimbing a → (p : ℕ) → IsSettled P a p ⊎ Above a
  settled_at a climbing p = by (value_at a p) refl
    where
      by : (o : Option X) → value_at a p ≡ o → IsSettled P a p ⊎ Above a
      by None e = inl (λ x at. absurd (none_is x (sym e ∙ at)))
      by (Some y) e =
          let fits : P.size y ≡ P.facts =
          subst (λ o. IfSome o (λ x. P.size x ≡ P.facts)) e (climbing.sized p) in
          let step = can.steps p y fits in
          elim (passed_all a step.0 (P.successors p)
          (passed_to a climbing p y step.0 e step.1 step.2)) [
            | inl below ↦ inl (λ x at. let one : y ≡ x = one_value y x (sym e ∙ at) in record {
              made = step.0;
              leads_to = subst (λ v. P.leads p v step.0) one step.1;
              below = below;
            })
            | inr up ↦ inr up
          ]

  settled_below : (a : List (Option X)) → IsClimbing a → (k : ℕ)
      → ((p : ℕ) → p < k → IsSettled P a p) ⊎ Above a
  settled_below a climbing zero = inl (λ p lt. absurd (omega arith))
  settled_below a climbing (suc k) = by (settled_below a climbing k) (settled_at a climbing k)
    where
      by : ((p : ℕ) → p < k → IsSettled P a p) ⊎ Above a → IsSettled P a k ⊎ Above a
          → ((p : ℕ) → p < suc k → IsSettled P a p) ⊎ Above a
      by (inr up) last = inr up
      by (inl before) (inr up) = inr up
      by (inl before) (inl last) = inl (λ p lt. elim (cases_eq p k) [
        | inl e ↦ subst (IsSettled P a) (sym e) last
        | inr other ↦ before p (omega (arith, other))
      ])

  -- the annotation is closed, or it can be raised
  closed_or_above : (a : List (Option X)) → IsClimbing a → Closed P a ⊎ Above a
  closed_or_above a climbing = elim (settled_below a climbing count) [
    | inr up ↦ inr up
    | inl settled ↦ inl (record {
      sized = climbing.sized;
      entry = can.entry;
      enters_by = can.enters_by;
      entered = climbing.entered;
      stepped = λ p x at. elim (cases_lt p count) [
        | inl lt ↦ settled p lt x at
        | inr past ↦ absurd (none_is x (sym (get_or_past a p None
            (let e = climbing.length_is in omega (arith, e, past))) ∙ at))
      ];
    })
  ]

  -- how high an annotation can stand
  levels_bound : (n : ℕ) (a : List (Option X))
      → ((p : ℕ) → IfSome (value_at a p) (λ x. P.size x ≡ P.facts))
      → weighed P.rank (λ _. 1) n a ≤ length a * (bound + 1)
  levels_bound n [] sized = omega arith
  levels_bound n (o ∷ os) sized =
      let rest = levels_bound (suc n) os (λ p. sized (suc p)) in
      let here = by o (sized 0) in omega (arith, rest, here)
    where
      by : (o : Option X) → IfSome o (λ x. P.size x ≡ P.facts) → level_of P.rank o ≤ bound + 1
      by None fits = omega arith
      by (Some x) fits = let h = can.bounded x fits in omega (arith, h)

  -- a closed annotation that is at most each that bounds
  pub record IsTop (a : List (Option X)) : Type 0 where
    pub closed : Closed P a
    pub lowest : (b : List (Option X)) → Bounds P b → IsAtMostEverywhere P.le a b

  climb : (fuel : ℕ) (a : List (Option X)) → IsClimbing a
      → count * (bound + 1) < fuel + levels a → (b : List (Option X)) × IsTop b
  unfolding Above
  climb zero a climbing enough =
      let h = levels_bound 0 a climbing.sized in
      let e : length a * (bound + 1) ≡ count * (bound + 1) =
      ap (λ n. n * (bound + 1)) climbing.length_is in absurd (omega (arith, h, e, enough))
  climb (suc fuel) a climbing enough = elim (closed_or_above a climbing) [
    | inl closed ↦ (
      a,
      record {
        closed = closed;
        lowest = climbing.lowest;
      },
    )
    | inr up ↦ climb fuel up.0 up.1 (omega (arith, up.2, enough))
  ]

  -- only what enters, at point 0
  bottom : List (Option X)
  bottom = set (replicate count None) 0 (Some can.entry)

  bottom_climbs : IsClimbing bottom
  unfolding bottom
  bottom_climbs = record {
    length_is = length-set (replicate count None) 0 (Some can.entry) ∙ length-replicate count None;
    sized = λ p. elim (cases_eq p 0) [
      | inl e ↦ subst (λ n. IfSome (value_at bottom n) (λ x. P.size x ≡ P.facts)) (sym e)
          (subst (λ o. IfSome o (λ x. P.size x ≡ P.facts)) (sym first) can.entry_sized)
      | inr other ↦ subst (λ o. IfSome o (λ x. P.size x ≡ P.facts)) (sym (others p other)) tt
    ];
    entered = subst (λ o. IsBelow P.le can.entry o) (sym first) (laws.reflexive can.entry);
    lowest = λ b bounds. record {
      each = λ p. elim (cases_eq p 0) [
        | inl e ↦ subst (λ n. IsAtMost P.le (value_at bottom n) (value_at b n)) (sym e)
            (subst (λ o. IsAtMost P.le o (value_at b 0)) (sym first)
            (bounds.entered can.entry can.enters_by can.entry_sized))
        | inr other ↦ subst (λ o. IsAtMost P.le o (value_at b p)) (sym (others p other)) tt
      ];
    };
  }
    where
      first : value_at bottom 0 ≡ Some can.entry
      first = get_or-set_same (replicate count None) 0 (Some can.entry) None
          (subst (λ n. 0 < n) (sym (length-replicate count None)) can.some)

      none_there : (p : ℕ) → value_at {X = X} (replicate count None) p ≡ None
      none_there p = elim (cases_lt p count) [
        | inl lt ↦ get_or-replicate count p None None lt
        | inr past ↦ get_or_past (replicate count None) p None
            (let e = length-replicate {A = Option X} count None in omega (arith, e, past))
      ]

      others : (p : ℕ) → p ≢ 0 → value_at bottom p ≡ None
      others p other = get_or-set_other (replicate count None) 0 p (Some can.entry) None other
          ∙ none_there p

  pub some_top : (a : List (Option X)) × IsTop a
  some_top = climb (count * (bound + 1) + 1) bottom bottom_climbs (omega arith)
