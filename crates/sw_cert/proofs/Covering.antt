-- The first function that isn't entered is one of few: each function before it has a line.
use Rattle.std.proofs.Common.{◌≡◌, ◌≢◌, ℕ, zero, suc, ◌+◌, ◌^◌, ◌<◌, ◌≤◌, inl, inr, Option, Some, None}
use Rattle.std.proofs.Common.{List, [], ◌∷◌, ◌++◌, length, Contains, refl, ap, ◌∙◌, arith}
use Rattle.std.proofs.lemmas.Bool.{cases_lt}
use Rattle.std.proofs.lemmas.List.{length-append}
use Rattle.sw_dictation.specs.Lines.{line_text}
use Rattle.sw_dictation.specs.Numbers.{spelled}
use Rattle.sw_dictation.specs.Numerals.{numeral}
use Rattle.sw_partition.specs.Regions.{Regions, IsWithin}
use Rattle.sw_region_flow.proofs.OneSites.{no_member}
use Rattle.sw_region_flow.proofs.Places.{element_at}
use Rattle.sw_solve.specs.Annotation.{value_at, IsBelow}
use Rattle.sw_cert.proofs.Alike.{stands_past}
use Rattle.sw_cert.specs.Certificate.{start, behind, numbers_of, pair_numbers, AreLinesFrom}
use Rattle.sw_cert.specs.Certificate.{IsCertificate}
use Rattle.sw_cert.specs.Choices.{RisesTo}
use Rattle.sw_cert.specs.ReadLines.{text_of}
use Rattle.sw_cert.specs.Reading.{states_of}
use Rattle.sw_cert.specs.Tables.{AreTabled}
use Rattle.sw_cert.specs.Tests.{IsFirstBelow}
use Rattle.sw_cert.specs.Verified.{Annotations}
use Rattle.sw_cert.specs.declared.flows.FunctionFlow.{FunctionFlow}
use Rattle.sw_cert.specs.declared.line.Extent.{Extent}
use Rattle.sw_cert.specs.declared.line.Line.{Line}
use Rattle.sw_cert.specs.declared.line.Spot.{Spot}

lines_few : (lines : List Line) → length lines ≤ length (text_of lines)
lines_few [] = omega arith
lines_few (line ∷ lines) = omega (
  arith,
  lines_few lines,
  length-append (line_text (numbers_of line)) (text_of lines),
  line_some line,
)
  where
    line_some : (line : Line) → 0 < length (line_text (numbers_of line))
    line_some line = omega (
      arith,
      length-append (spelled line.function 32)
          (line_text (line.block ∷ length line.classes
          ∷ (line.classes ++ length line.pairs ∷ pair_numbers line.pairs))),
      length-append (numeral line.function) (32 ∷ []),
    )

-- functions from one on that have lines
abbrev HaveLines : List Line → ℕ → ℕ → Type 0
HaveLines lines from to = (n : ℕ) → from ≤ n → n < to
    → (line : Line) × Contains lines line × (line.function ≡ n)

in_rest : (line : Line) (lines : List Line) (n : ℕ) → line.function ≢ n
    → (other : Line) × Contains (line ∷ lines) other × (other.function ≡ n)
    → (other : Line) × Contains lines other × (other.function ≡ n)
in_rest line lines n apart (other, (zero, within, e), same) =
    absurd (apart (ap (λ l. l.function) e ∙ same))
in_rest line lines n apart (other, (suc k, within, e), same) =
    (other, (k, omega (arith, within), e), same)

few_functions : (extents : List Extent) (spot : Spot) (lines : List Line) (from to : ℕ)
    → AreLinesFrom extents spot lines → HaveLines lines from to → to ≤ from + length lines
few_functions extents spot [] from to are have = elim (cases_lt from to) [
  | inl more ↦ (let h = have from (omega arith) more in absurd (no_member h.0 h.1))
  | inr few ↦ omega (arith, few)
]
few_functions extents spot (line ∷ lines) from to (is, are) have =
    elim (cases_lt from line.function) [
      | inr low ↦ (
          let rest : HaveLines lines (from + 1) to = λ n above below.
          in_rest line lines n (omega (arith, low, above)) (have n (omega (arith, above)) below) in
          let h = few_functions extents (behind line) lines (from + 1) to are rest in
          omega (arith, h)
          )
      | inl high ↦ elim (cases_lt from to) [
        | inr few ↦ omega (arith, few)
        | inl more ↦ (
            let h = in_rest line lines from (omega (arith, high)) (have from (omega arith) more) in
            absurd (past h.0.function h.0.block from (stands_past extents (behind line) lines h.0 are h.1) high h.2)
            )
      ]
    ]
  where
    past : (f b m : ℕ) → RisesTo (behind line) f b → m < line.function → f ≡ m → ⊥
    past f b m (inl up) high same = omega (arith, up, high, same)
    past f b m (inr (e, up)) high same = omega (arith, e, high, same)

pub first_few : (flows : List FunctionFlow) (extents : List Extent) (bytes : List ℕ)
    (lines : List Line) (tables : Annotations) → IsCertificate extents bytes lines
    → AreTabled flows lines tables → length bytes ≤ 4194304 → (function : ℕ)
    → IsFirstBelow flows tables (Some function) → function < 2 ^ 32
first_few flows extents bytes lines tables is tabled few function (within, not, before) =
    let have : HaveLines lines 0 function = λ n above below. line_of n below in
    omega (
      arith,
      few,
      ap length is.spelled,
      lines_few lines,
      few_functions extents start lines 0 function is.are_lines have,
    )
  where
    stated : (o : Option Regions) (a : Regions) → IsBelow IsWithin a o
        → (x : Regions) × (o ≡ Some x)
    stated None a below = absurd below
    stated (Some x) a below = (x, refl)

    line_of : (n : ℕ) → n < function
        → (line : Line) × Contains lines line × (line.function ≡ n)
    line_of n below =
        let flow = element_at flows n (omega (arith, below, within)) in
        let there = stated (value_at (states_of tables n) 0) flow.0.entry
        (before n below flow.0 flow.1) in
        let by = (tabled.stated n flow.0 flow.1).stated 0 there.0 there.1 in
        (by.line, by.is_line, by.function_is)
