-- Tables of labels before and after a change.
use Rattle.std.proofs.Common.{◌≡◌, ◌≢◌, ℕ, ◌<◌, ◌⊎◌, inl, inr, eqb, List, length, slice_index, sym}
use Rattle.std.proofs.Common.{subst, ap, ◌∙◌}
use Rattle.std.specs.Prelude.{◌==◌, if◌then◌else◌}
use Rattle.std.proofs.lemmas.Bool.{cases_eq, cond-true, cond-false, eq-eqb, ne_eqb}
use Rattle.sw_partition.specs.Tables.{AreLabels, IsRelabeled}

-- a label after `from` was replaced by `to`
abbrev pub replaced : ℕ → ℕ → ℕ → ℕ
replaced from to v = if v == from then to else v

pub replaced-same : (from to v : ℕ) → v ≡ from → replaced from to v ≡ to
replaced-same from to v e = cond-true (eqb v from) to v (eq-eqb v from e)

pub replaced-other : (from to v : ℕ) → v ≢ from → replaced from to v ≡ v
replaced-other from to v ne = cond-false (eqb v from) to v (ne_eqb v from ne)

-- labels that were made equal were equal, or were the two
pub replaced_cases : (from to v w : ℕ) → replaced from to v ≡ replaced from to w → (v ≡ w)
    ⊎ (((v ≡ from) × (w ≡ to)) ⊎ ((v ≡ to) × (w ≡ from)))
replaced_cases from to v w e = elim (cases_eq v from) [
  | inl v_is ↦ elim (cases_eq w from) [
    | inl w_is ↦ inl (v_is ∙ sym w_is)
    | inr w_not ↦ inr (inl (
      v_is,
      sym (replaced-other from to w w_not)
          ∙ (sym e ∙ replaced-same from to v v_is),
    ))
  ]
  | inr v_not ↦ elim (cases_eq w from) [
    | inl w_is ↦ inr (inr (
      sym (replaced-other from to v v_not)
          ∙ (e ∙ replaced-same from to w w_is),
      w_is,
    ))
    | inr w_not ↦ inl (sym (replaced-other from to v v_not) ∙ (e ∙ replaced-other from to w w_not))
  ]
]

pub replaced-to : (from to : ℕ) → replaced from to to ≡ to
replaced-to from to = elim (cases_eq to from) [
  | inl e ↦ replaced-same from to to e
  | inr ne ↦ replaced-other from to to ne
]

-- a replacement of labels by an element that labels itself leaves a table of labels
pub relabeled_labels : (from to : ℕ) (old new : List ℕ) → AreLabels old
    → IsRelabeled from to old new → to < length old → slice_index old to ≡ to → AreLabels new
relabeled_labels from to old new labels relabeled lt own = record {
  within = λ p p_lt.
      let in_old : p < length old = subst (λ n. p < n) relabeled.length_same p_lt in
      subst (λ n. slice_index new p < n) (sym relabeled.length_same)
      (subst (λ v. v < length old) (sym (relabeled.each p in_old))
      (elim (cases_eq (slice_index old p) from) [
        | inl e ↦ subst (λ v. v < length old) (sym (replaced-same from to (slice_index old p) e)) lt
        | inr ne ↦ subst (λ v. v < length old) (sym (replaced-other from to (slice_index old p) ne))
            (labels.within p in_old)
      ]));
  own = λ p p_lt.
      let in_old : p < length old = subst (λ n. p < n) relabeled.length_same p_lt in
      let new_to : slice_index new to ≡ to = relabeled.each to lt
      ∙ (ap (replaced from to) own ∙ replaced-to from to) in
      elim (cases_eq (slice_index old p) from) [
        | inl e ↦ (let is_to : slice_index new p ≡ to = relabeled.each p in_old
            ∙ replaced-same from to (slice_index old p) e in ap (slice_index new) is_to
            ∙ (new_to ∙ sym is_to))
        | inr ne ↦ (let stays : slice_index new p ≡ slice_index old p = relabeled.each p in_old
            ∙ replaced-other from to (slice_index old p) ne in
            ap (slice_index new) stays
            ∙ (relabeled.each (slice_index old p) (labels.within p in_old)
            ∙ (ap (replaced from to) (labels.own p in_old)
            ∙ (replaced-other from to (slice_index old p) ne ∙ sym stays))))
      ];
}
