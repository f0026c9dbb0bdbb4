-- The marks of a class, element by element.
use Rattle.std.proofs.Common.{◌≡◌, ◌≢◌, ℕ, ◌+◌, ◌*◌, ◌/◌, ◌%◌, ◌<◌, ◌≤◌, inl, inr, List, length}
use Rattle.std.proofs.Common.{slice_index, sym, subst, ap, ◌∙◌, arith}
use Rattle.std.proofs.lemmas.Bool.{cases_eq}
use Rattle.std.proofs.lemmas.Nat.{same_from_place}
use Rattle.sw_partition.specs.Regions.{bit_of}
use Rattle.sw_partition.specs.Tables.{SetsBit, IsClassMarked}
use Rattle.sw_partition.proofs.Bits.{row_bit}

-- the elements below p that have the label are marked
pub record IsMarking (labels : List ℕ) (label width column : ℕ) (old now : List ℕ)
    (p : ℕ) : Type 0 where
  pub length_same : length now ≡ length old
  pub set : (q : ℕ) → 0 < q → q < p → slice_index labels q ≡ label
      → bit_of now (q * (width * 64) + column) ≡ 1
  pub others : (q k : ℕ) → k < width * 64
      → ((k ≡ column) × (q ≢ 0) × (slice_index labels q ≡ label) → ⊥)
      → bit_of now (q * (width * 64) + k) ≡ bit_of old (q * (width * 64) + k)

-- element p has another label
pub marking_skips : (labels : List ℕ) (label width column : ℕ) (old now : List ℕ) (p : ℕ)
    → slice_index labels p ≢ label → IsMarking labels label width column old now p
    → IsMarking labels label width column old now (p + 1)
marking_skips labels label width column old now p apart marking = record {
  length_same = marking.length_same;
  set = λ q some lt is. elim (cases_eq q p) [
    | inl e ↦ absurd (apart (subst (λ v. slice_index labels v ≡ label) e is))
    | inr ne ↦ marking.set q some (omega (arith, ne)) is
  ];
  others = marking.others;
}

-- element p has the label, and its bit was set
pub marking_sets : (labels : List ℕ) (label width column : ℕ) (old now new : List ℕ) (p : ℕ) → 0 < p
    → column < width * 64 → slice_index labels p ≡ label
    → SetsBit ((p * width + column / 64) * 64 + column % 64) now new
    → IsMarking labels label width column old now p
    → IsMarking labels label width column old new (p + 1)
marking_sets labels label width column old now new p some column_lt has marked marking =
    let here : (p * width + column / 64) * 64 + column % 64 ≡ p * (width * 64) + column =
    row_bit p width column in
    let set : bit_of new (p * (width * 64) + column) ≡ 1 = ap (bit_of new) (sym here)
    ∙ marked.set in
    let others : (m : ℕ) → m ≢ p * (width * 64) + column → bit_of new m ≡ bit_of now m =
    λ m ne. marked.others m (λ e. ne (e ∙ here)) in
    record {
      length_same = marked.length_same ∙ marking.length_same;
      set = λ q q_some lt is. elim (cases_eq q p) [
        | inl e ↦ ap (λ v. bit_of new (v * (width * 64) + column)) e ∙ set
        | inr ne ↦ elim (cases_eq (q * (width * 64) + column) (p * (width * 64) + column)) [
          | inl same ↦ ap (bit_of new) same ∙ set
          | inr apart ↦ others (q * (width * 64) + column) apart
              ∙ marking.set q q_some (omega (arith, ne)) is
        ]
      ];
      others = λ q k k_lt other. others (q * (width * 64) + k) (λ e. let w =
          same_from_place q k p column (width * 64) k_lt column_lt e in
          other (
            w.1,
            (λ z. omega (arith, z, w.0)),
            subst (λ v. slice_index labels v ≡ label) (sym w.0) has,
          )) ∙ marking.others q k k_lt other;
    }

pub marking_ends : (labels : List ℕ) (label width column : ℕ) (old now : List ℕ) (p : ℕ)
    → length labels ≤ p → IsMarking labels label width column old now p
    → IsClassMarked labels label (width * 64) column old now
marking_ends labels label width column old now p ge marking = record {
  length_same = marking.length_same;
  set = λ q some lt is. marking.set q some (omega arith) is;
  others = marking.others;
}
