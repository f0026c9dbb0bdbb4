-- Each state has a line.
use Rattle.std.proofs.Common.{◌≡◌, ℕ, zero, suc, ◌+◌, ◌<◌, ◌≤◌, inl, inr, List, [], ◌∷◌, ◌++◌, length}
use Rattle.std.proofs.Common.{slice_index, refl, subst, arith}
use Rattle.std.proofs.lemmas.Bool.{cases_lt}
use Rattle.std.specs.List.Sorted.{IsStrictlyIncreasing}
use Rattle.sw_dictation.specs.Lines.{line_text}
use Rattle.sw_partition.specs.Regions.{Regions, Together}
use Rattle.sw_region_flow.proofs.Deciding.{first_below}
use Rattle.sw_region_flow.proofs.Doing.{itself, tell_pair, tell_together}
use Rattle.sw_cert.proofs.Gathered.{AreFirstClasses, classes_start, classes_more, classes_end}
use Rattle.sw_cert.proofs.Gathered.{ArePairsTo, none_below, row_starts, row_has, row_lacks, row_ends}
use Rattle.sw_cert.specs.Certificate.{numbers_of}
use Rattle.sw_cert.specs.Shown.{ArePairsBelow, IsLineFor}
use Rattle.sw_cert.specs.declared.line.Line.{Line}
use Rattle.sw_cert.specs.declared.line.Pair.{Pair}

module _ (r : Regions) where
  -- the least element of a class
  some_class : (x : ℕ) → x < length r.labels → (class : ℕ) × Together r x class
      × ((y : ℕ) → Together r x y → class ≤ y)
  some_class x lt = elim (first_below (length r.labels) (Together r x) (tell_together r x)) [
    | inr none ↦ absurd (none x lt (itself r x lt))
    | inl found ↦ (
      found.0,
      found.2,
      λ y t. at_most found.0 y (λ below. found.3 y below t),
    )
  ]
    where
      at_most : (a b : ℕ) → (b < a → ⊥) → a ≤ b
      at_most a b none = elim (cases_lt b a) [
        | inl lt ↦ absurd (none lt)
        | inr ge ↦ ge
      ]

  some_classes : (count : ℕ) → count ≤ length r.labels
      → (classes : List ℕ) × AreFirstClasses r count classes
  some_classes zero within = ([], classes_start r)
  some_classes (suc count) within =
      let before = some_classes count (omega (arith, within)) in
      let class = some_class count (omega (arith, within)) in
      let next : count + 1 ≡ suc count = omega arith in (
        before.0 ++ class.0 ∷ [],
        subst (λ n. AreFirstClasses r n (before.0 ++ class.0 ∷ [])) next
            (classes_more r count class.0 before.0 (before.0 ++ class.0 ∷ []) before.1 class.1
            class.2 refl),
      )

  module _ (rising : IsStrictlyIncreasing r.sites) where
    some_row : (element : ℕ) (pairs : List Pair) → ArePairsBelow r element pairs → (count : ℕ)
        → count ≤ length r.sites → (more : List Pair) × ArePairsTo r element count more
    some_row element pairs below zero within = (pairs, row_starts r element pairs below)
    some_row element pairs below (suc count) within =
        let before = some_row element pairs below count (omega (arith, within)) in
        let site : ℕ = slice_index r.sites count in
        let next : count + 1 ≡ suc count = omega arith in
        elim (tell_pair r element site) [
          | inl has ↦ (
            before.0 ++ record { element = element; site = site } ∷ [],
            subst (λ n. ArePairsTo r element n
                (before.0 ++ record { element = element; site = site } ∷ [])) next
                (row_has r element count site before.0 _ rising (omega (arith, within)) refl before.1
                has refl),
          )
          | inr lacks ↦ (
            before.0,
            subst (λ n. ArePairsTo r element n before.0) next
                (row_lacks r element count site before.0 refl before.1 lacks),
          )
        ]

    some_pairs : (count : ℕ) → (pairs : List Pair) × ArePairsBelow r count pairs
    some_pairs zero = ([], none_below r)
    some_pairs (suc count) =
        let before = some_pairs count in
        let row = some_row count before.0 before.1 (length r.sites) (omega arith) in
        let next : count + 1 ≡ suc count = omega arith in (
          row.0,
          subst (λ n. ArePairsBelow r n row.0) next
              (row_ends r count (length r.sites) row.0 (omega arith) row.1),
        )

    pub some_line : (function block : ℕ) → (text : List ℕ) × IsLineFor function block r text
    some_line function block =
        let classes = some_classes (length r.labels) (omega arith) in
        let pairs = some_pairs (length r.labels) in
        let line : Line = record {
          function = function;
          block = block;
          classes = classes.0;
          pairs = pairs.0;
        } in (
          line_text (numbers_of line),
          record {
            line = line;
            function_is = refl;
            block_is = refl;
            shows = record {
              classes = classes_end r (length r.labels) classes.0 refl classes.1;
              pairs = pairs.1;
            };
            spelled = refl;
          },
        )
