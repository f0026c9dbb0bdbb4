-- How the solver's passes compose.
use Rattle.std.proofs.Common.{◌≡◌, ℕ, zero, suc, ◌+◌, ◌*◌, ◌<◌, ◌≤◌, ◌≢◌, inl, inr, Bool, true}
use Rattle.std.proofs.Common.{false, cond, Option, Some, None, IsSome, IfSome, List, [], ◌∷◌, ◌++◌}
use Rattle.std.proofs.Common.{length, set, Contains, sum_by, refl, sym, subst, ◌∙◌, arith, zero-add}
use Rattle.std.proofs.lemmas.Bool.{cases_eq, cases_Bool}
use Rattle.std.proofs.lemmas.List.{get_or-set_same, get_or-set_other}
use Rattle.std.proofs.lemmas.List.Elements.{Contains-append_cases, Contains-append_left}
use Rattle.std.proofs.lemmas.List.Elements.{Contains-append_right}
use Rattle.std.proofs.Math.ListN.{length-set}
use Rattle.std.proofs.Math.Nat.{mul-le-mul_left}
use Rattle.sw_solve.specs.Annotation.{value_at, IsBelow, IsAtMost, IsAtMostEverywhere}
use Rattle.sw_solve.specs.Work.{level_of, weighed, Listed, TakesIn, IsSpread}
use Rattle.sw_solve.proofs.Members.{contains_head, contains_cons_cases, contains_none}

pub at_most_refl : {X : Type 0} (le : X → X → Type 0) → ((x : X) → le x x) → (o : Option X)
    → IsAtMost le o o
at_most_refl le reflexive None = tt
at_most_refl le reflexive (Some x) = reflexive x

pub below_up : {X : Type 0} (le : X → X → Type 0) → ((x y z : X) → le x y → le y z → le x z)
    → (x : X) (o n : Option X) → IsBelow le x o → IsAtMost le o n → IsBelow le x n
below_up le transitive x None n b m = absurd b
below_up le transitive x (Some y) None b m = absurd m
below_up le transitive x (Some y) (Some z) b m = transitive x y z b m

pub at_most_trans : {X : Type 0} (le : X → X → Type 0) → ((x y z : X) → le x y → le y z → le x z)
    → (a b c : Option X) → IsAtMost le a b → IsAtMost le b c → IsAtMost le a c
at_most_trans le transitive None b c m n = tt
at_most_trans le transitive (Some x) b c m n = below_up le transitive x b c m n

pub below_down : {X : Type 0} (le : X → X → Type 0) → ((x y z : X) → le x y → le y z → le x z)
    → (x y : X) (o : Option X) → le x y → IsBelow le y o → IsBelow le x o
below_down le transitive x y None l b = absurd b
below_down le transitive x y (Some z) l b = transitive x y z l b

pub everywhere_trans : {X : Type 0} (le : X → X → Type 0) → ((x y z : X) → le x y → le y z → le x z)
    → (a b c : List (Option X)) → IsAtMostEverywhere le a b → IsAtMostEverywhere le b c
    → IsAtMostEverywhere le a c
everywhere_trans le transitive a b c m n =
    record {
      each = λ p. at_most_trans le transitive (value_at a p) (value_at b p) (value_at c p)
          (m.each p) (n.each p);
    }

-- where something at least x stands, something stands
pub some_from_below : {X : Type 0} (le : X → X → Type 0) (x : X) (o : Option X) → IsBelow le x o
    → IsSome o
some_from_below le x None b = absurd b
some_from_below le x (Some y) b = refl

-- what a write to one slot changes of the weighed levels
pub weighed-set : {X : Type 0} (rank : X → ℕ) (weight : ℕ → ℕ) (n : ℕ) (a : List (Option X)) (i : ℕ)
    (s : Option X) → i < length a
    → weighed rank weight n (set a i s) + weight (n + i) * level_of rank
    (value_at a i) ≡ weighed rank weight n a + weight (n + i) * level_of rank s
weighed-set rank weight n [] i s lt = absurd (omega arith)
weighed-set rank weight n (o ∷ os) zero s lt = let e : n + 0 ≡ n = omega arith in rw e (omega arith)
weighed-set rank weight n (o ∷ os) (suc i) s lt =
    let e : n + suc i ≡ suc n + i = omega arith in
    let h = weighed-set rank weight (suc n) os i s (omega arith) in
    rw e (omega (arith, h))

-- the list after a slot was offered a value
pub record IsPushed (q : ℕ) (rose : Bool) (before after : Listed) : Type 0 where
  pub room_same : after.room ≡ before.room
  pub there : rose ≡ true → Contains after.points q
  pub kept : (p : ℕ) → Contains before.points p → Contains after.points p
  pub weights : (weight : ℕ → ℕ)
      → sum_by weight after.points ≤ sum_by weight before.points + cond rose (weight q) 0

weight_rises : (w lo ln : ℕ) (rose : Bool) → lo + cond rose 1 0 ≤ ln
    → w * lo + cond rose w 0 ≤ w * ln
weight_rises w lo ln true h = omega (arith, mul-le-mul_left w h)
weight_rises w lo ln false h = omega (arith, mul-le-mul_left w h)

-- one slot takes a value in
pub spread_one : {X : Type 0} (le : X → X → Type 0) (size : X → List ℕ) (rank : X → ℕ)
    → ((x : X) → le x x) → (value : X) (old : List (Option X)) (q : ℕ) (slot : Option X)
    (rose : Bool) (before after : Listed) → q < length old
    → ((p : ℕ) → IfSome (value_at old p) (λ x. size x ≡ size value))
    → TakesIn le size rank value (value_at old q) slot rose → IsPushed q rose before after
    → IsSpread le size rank (q ∷ []) value old (set old q slot) before after
spread_one {X} le size rank reflexive value old q slot rose before after lt sized merged pushed =
    let same : value_at (set old q slot) q ≡ slot = get_or-set_same old q slot None lt in
    let other : (p : ℕ) → p ≢ q → value_at (set old q slot) p ≡ value_at old p =
    λ p ne. get_or-set_other old q p slot None ne in
    record {
      length_same = length-set old q slot;
      room_same = pushed.room_same;
      grown = record {
        each = λ p. elim (cases_eq p q) [
          | inl e ↦ subst (λ v. IsAtMost le (value_at old v) (value_at (set old q slot) v)) (sym e)
              (subst (λ o. IsAtMost le (value_at old q) o) (sym same) merged.grown)
          | inr ne ↦ subst (λ o. IsAtMost le (value_at old p) o) (sym (other p ne))
              (at_most_refl le reflexive (value_at old p))
        ];
      };
      sized = λ p. elim (cases_eq p q) [
        | inl e ↦ subst (λ v. IfSome (value_at (set old q slot) v) (λ x. size x ≡ size value))
            (sym e) (subst (λ o. IfSome o (λ x. size x ≡ size value)) (sym same) merged.sized)
        | inr ne ↦ subst (λ o. IfSome o (λ x. size x ≡ size value)) (sym (other p ne)) (sized p)
      ];
      least = λ a fits above targets. record {
        each = λ p. elim (cases_eq p q) [
          | inl e ↦ subst (λ v. IsAtMost le (value_at (set old q slot) v) (value_at a v)) (sym e)
              (subst (λ o. IsAtMost le o (value_at a q)) (sym same)
              (merged_least le size rank value (value_at old q) slot (value_at a q) rose merged
              (fits q) (above.each q) (targets q (contains_head q []))))
          | inr ne ↦ subst (λ o. IsAtMost le o (value_at a p)) (sym (other p ne)) (above.each p)
        ];
      };
      reached = λ p has. elim (contains_cons_cases q [] p has) [
        | inl e ↦ subst (λ v. IsBelow le value (value_at (set old q slot) v)) e
            (subst (λ o. IsBelow le value o) (sym same) merged.reached)
        | inr none ↦ absurd (contains_none p none)
      ];
      touched = λ p is. elim (cases_eq p q) [
        | inl e ↦ inr (subst (λ v. Contains (q ∷ []) v) (sym e) (contains_head q []))
        | inr ne ↦ inl (subst (λ o. IsSome o) (other p ne) is)
      ];
      listed = λ p. elim (cases_eq p q) [
        | inl e ↦ elim (cases_Bool rose) [
          | inl up ↦ inr (subst (λ v. Contains after.points v) (sym e) (pushed.there up))
          | inr flat ↦ inl (subst (λ v. value_at (set old q slot) v ≡ value_at old v) (sym e) (same
              ∙ merged.unchanged flat))
        ]
        | inr ne ↦ inl (other p ne)
      ];
      kept = pushed.kept;
      weights = λ weight. spread_one_weights rank weight old q slot rose
          (sum_by weight before.points) (sum_by weight after.points) lt merged.level
          (pushed.weights weight);
    }
  where
    merged_least : {X : Type 0} (le : X → X → Type 0) (size : X → List ℕ) (rank : X → ℕ) (value : X)
        (o n z : Option X) (rose : Bool) → TakesIn le size rank value o n rose
        → IfSome z (λ x. size x ≡ size value) → IsAtMost le o z → IsBelow le value z
        → IsAtMost le n z
    merged_least le size rank value o n None rose merged fits above below = absurd below
    merged_least le size rank value o n (Some z) rose merged fits above below =
        merged.least z fits above below

    spread_one_weights : {X : Type 0} (rank : X → ℕ) (weight : ℕ → ℕ) (old : List (Option X))
        (q : ℕ) (slot : Option X) (rose : Bool) (b a : ℕ) → q < length old
        → level_of rank (value_at old q) + cond rose 1 0 ≤ level_of rank slot
        → a ≤ b + cond rose (weight q) 0
        → a + weighed rank weight 0 old ≤ b + weighed rank weight 0 (set old q slot)
    spread_one_weights rank weight old q slot rose b a lt level le_b =
        let e : 0 + q ≡ q = zero-add q in
        let w = subst (λ v. weighed rank weight 0 (set old q slot) + weight v * level_of rank
        (value_at old q) ≡ weighed rank weight 0 old + weight v * level_of rank slot) e
        (weighed-set rank weight 0 old q slot lt) in
        let r = weight_rises (weight q) (level_of rank (value_at old q))
        (level_of rank slot) rose level in
        omega (arith, w, r, le_b)

-- first some slots take a value in, and then others
pub spread_append : {X : Type 0} (le : X → X → Type 0) (size : X → List ℕ) (rank : X → ℕ)
    → ((x y z : X) → le x y → le y z → le x z)
    → (ts us : List ℕ) (value : X) (old mid new : List (Option X)) (before between after : Listed)
    → IsSpread le size rank ts value old mid before between
    → IsSpread le size rank us value mid new between after
    → IsSpread le size rank (ts ++ us) value old new before after
spread_append le size rank transitive ts us value old mid new before between after first second =
    record {
      length_same = second.length_same ∙ first.length_same;
      room_same = second.room_same ∙ first.room_same;
      grown = everywhere_trans le transitive old mid new first.grown second.grown;
      sized = second.sized;
      least = λ a fits above targets. second.least a fits
          (first.least a fits above (λ q has. targets q (Contains-append_left ts us q has)))
          (λ q has. targets q (Contains-append_right ts us q has));
      reached = λ q has. elim (Contains-append_cases ts us q has) [
        | inl in_first ↦ below_up le transitive value (value_at mid q) (value_at new q)
            (first.reached q in_first) (second.grown.each q)
        | inr in_second ↦ second.reached q in_second
      ];
      touched = λ p is. elim (second.touched p is) [
        | inl was ↦ elim (first.touched p was) [
          | inl before ↦ inl before
          | inr in_first ↦ inr (Contains-append_left ts us p in_first)
        ]
        | inr in_second ↦ inr (Contains-append_right ts us p in_second)
      ];
      listed = λ p. elim (second.listed p) [
        | inl same ↦ elim (first.listed p) [
          | inl as_before ↦ inl (same ∙ as_before)
          | inr there ↦ inr (second.kept p there)
        ]
        | inr there ↦ inr there
      ];
      kept = λ p has. second.kept p (first.kept p has);
      weights = λ weight. omega (arith, first.weights weight, second.weights weight);
    }

pub pushed_rose : (q : ℕ) (rose : Bool) (before after : Listed) → rose ≡ true
    → after.room ≡ before.room → Contains after.points q
    → ((p : ℕ) → Contains before.points p → Contains after.points p)
    → ((weight : ℕ → ℕ) → sum_by weight after.points ≤ sum_by weight before.points + weight q)
    → IsPushed q rose before after
pushed_rose q true before after is room there kept weights = record {
  room_same = room;
  there = λ _. there;
  kept = kept;
  weights = weights;
}
pushed_rose q false before after is room there kept weights = absurd (cc)
