-- Elements of lists, and the marks of the points on a list.
use Rattle.std.proofs.Common.{◌≡◌, ℕ, zero, suc, ◌<◌, ◌⊎◌, inl, inr, Bool, true, false, List, []}
use Rattle.std.proofs.Common.{◌∷◌, ◌++◌, length, get_or, set, Contains, refl, sym, subst, ◌∙◌}
use Rattle.std.proofs.Common.{arith}
use Rattle.std.proofs.lemmas.Bool.{cases_eq, false≢true}
use Rattle.std.proofs.lemmas.List.{get_or-set_same, get_or-set_other}
use Rattle.std.proofs.Math.ListN.{length-set}
use Rattle.std.proofs.lemmas.List.Elements.{Contains-push, Contains-append_left}
use Rattle.std.proofs.lemmas.List.Elements.{Contains-push_cases}
use Rattle.sw_solve.specs.Marks.{AreMarked}

pub contains_head : {X : Type 0} → (x : X) (xs : List X) → Contains (x ∷ xs) x
contains_head x xs = (0, omega arith, refl)

pub contains_tail : {X : Type 0} → (x : X) (xs : List X) (y : X) → Contains xs y
    → Contains (x ∷ xs) y
contains_tail x xs y (k, lt, e) = (suc k, omega arith, e)

pub contains_cons_cases : {X : Type 0} → (x : X) (xs : List X) (y : X) → Contains (x ∷ xs) y
    → (x ≡ y) ⊎ Contains xs y
contains_cons_cases x xs y (zero, lt, e) = inl e
contains_cons_cases x xs y (suc k, lt, e) = inr (k, omega arith, e)

pub contains_none : {X : Type 0} → (y : X) → Contains [] y → ⊥
contains_none y (k, lt, e) = omega arith

-- a point is added at the end and marked
pub marks_push : (points : List ℕ) (marks : List Bool) (p : ℕ) → p < length marks
    → AreMarked points marks → AreMarked (points ++ p ∷ []) (set marks p true)
marks_push points marks p lt are = record {
  marked = λ q is. elim (cases_eq q p) [
    | inl e ↦ subst (λ v. Contains (points ++ p ∷ []) v) (sym e) (Contains-push points p)
    | inr ne ↦ Contains-append_left points (p ∷ []) q
        (are.marked q (sym (get_or-set_other marks p q true false ne) ∙ is))
  ];
  in_range = λ q has. elim (Contains-push_cases points p q has) [
    | inl old ↦ (let old_range = are.in_range q old in rw length-set old_range)
    | inr e ↦ rw length-set (subst (λ v. v < length marks) e lt)
  ];
}

-- the first point is taken off and its mark cleared
pub marks_pop : (points : List ℕ) (marks : List Bool) (p : ℕ) → AreMarked (p ∷ points) marks
    → AreMarked points (set marks p false)
marks_pop points marks p are = record {
  marked = λ q is. elim (cases_eq q p) [
    | inl e ↦ absurd (false≢true
        (sym (get_or-set_same marks p false false (are.in_range p (contains_head p points)))
        ∙ subst (λ v. get_or (set marks p false) v false ≡ true) e is))
    | inr ne ↦ elim (contains_cons_cases p points q
        (are.marked q (sym (get_or-set_other marks p q false false ne) ∙ is))) [
          | inl same ↦ absurd (ne (sym same))
          | inr rest ↦ rest
        ]
  ];
  in_range = λ q has. rw length-set (are.in_range q (contains_tail p points q has));
}

pub first_in_range : (points : List ℕ) (marks : List Bool) (p : ℕ) (rest : List ℕ)
    → points ≡ p ∷ rest → AreMarked points marks → p < length marks
first_in_range points marks p rest e are =
    are.in_range p (subst (λ ps. Contains ps p) (sym e) (contains_head p rest))
