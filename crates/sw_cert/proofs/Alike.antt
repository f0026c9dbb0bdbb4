-- The bytes of a certificate give the blocks of each function one state.
use Rattle.std.proofs.Common.{◌≡◌, ℕ, zero, suc, ◌<◌, inl, inr, Option, Some}
use Rattle.std.proofs.Common.{None, List, [], ◌∷◌, ◌++◌, length, slice_index, Contains, IsSome, refl}
use Rattle.std.proofs.Common.{sym, subst, ap, ◌∙◌, arith}
use Rattle.std.proofs.lemmas.Option.{slice_get_within}
use Rattle.std.specs.List.{slice_get}
use Rattle.sw_dictation.proofs.Reading.{one_line}
use Rattle.sw_dictation.specs.Lines.{line_text}
use Rattle.sw_dictation.specs.Numerals.{numeral}
use Rattle.sw_graph.specs.declared.graph.Graph.{Graph}
use Rattle.sw_partition.specs.Regions.{Regions, Together, IsWithin}
use Rattle.sw_partition.specs.Laws.{within_both}
use Rattle.sw_region_flow.proofs.OneSites.{sites_are_one}
use Rattle.sw_region_flow.proofs.Places.{element_at}
use Rattle.sw_region_flow.specs.Walks.{IsCopy}
use Rattle.sw_region_ops.specs.Setting.{setting_of}
use Rattle.sw_solve.specs.Annotation.{value_at}
use Rattle.sw_cert.proofs.Texts.{form_is_readable}
use Rattle.sw_cert.specs.Certificate.{IsLineAt, AreLinesFrom, behind, numbers_of, pair_numbers}
use Rattle.sw_cert.specs.Choices.{RisesTo}
use Rattle.sw_cert.specs.ReadLines.{text_of}
use Rattle.sw_cert.specs.Reading.{AreExtentsOf, AreStated}
use Rattle.sw_cert.specs.Shown.{Shows, AreClassesOf}
use Rattle.sw_cert.specs.declared.line.Extent.{Extent}
use Rattle.sw_cert.specs.declared.line.Line.{Line}
use Rattle.sw_cert.specs.declared.line.Pair.{Pair}
use Rattle.sw_cert.specs.declared.line.Spot.{Spot}

-- ---- one list of extents
same_lists : {A : Type 0} (xs ys : List A) → length xs ≡ length ys
    → ((n : ℕ) (x y : A) → slice_get xs n ≡ Some x → slice_get ys n ≡ Some y → x ≡ y) → xs ≡ ys
same_lists [] [] e same = refl
same_lists [] (y ∷ ys) e same = absurd (omega (arith, e))
same_lists (x ∷ xs) [] e same = absurd (omega (arith, e))
same_lists (x ∷ xs) (y ∷ ys) e same =
    ap (λ z. z ∷ xs) (same 0 x y refl refl)
    ∙ ap (λ zs. y ∷ zs) (same_lists xs ys (omega (arith, e)) (λ n. same (suc n)))

same_extent : (a b : Extent) → a.blocks ≡ b.blocks → a.elements ≡ b.elements → a.sites ≡ b.sites
    → a ≡ b
same_extent a b blocks elements sites =
    ap (λ n. record { blocks = n; elements = a.elements; sites = a.sites }) blocks
    ∙ ap (λ n. record { blocks = b.blocks; elements = n; sites = a.sites }) elements
    ∙ ap (λ s. record { blocks = b.blocks; elements = b.elements; sites = s }) sites

pub one_extents : (graph : Graph) (a b : List Extent) → AreExtentsOf graph a → AreExtentsOf graph b
    → a ≡ b
one_extents graph a b first second =
    same_lists a b (first.count ∙ sym second.count) (λ n x y is_x is_y.
    let body = element_at graph.functions n
    (let h = slice_get_within a n x is_x in omega (arith, h, first.count)) in
    let f = first.each n body.0 x body.1 is_x in
    let s = second.each n body.0 y body.1 is_y in
    same_extent x y (f.blocks ∙ sym s.blocks) (f.elements ∙ sym s.elements)
    (sites_are_one (setting_of graph body.0) x.sites y.sites f.sites s.sites))

-- ---- one list of lines
pairs_of : (ps qs : List Pair) → pair_numbers ps ≡ pair_numbers qs → ps ≡ qs
pairs_of [] [] e = refl
pairs_of [] (q ∷ qs) e = cc
pairs_of (p ∷ ps) [] e = cc
pairs_of (p ∷ ps) (q ∷ qs) e =
    let element : p.element ≡ q.element = cc in
    let site : p.site ≡ q.site = cc in
    let rest : pair_numbers ps ≡ pair_numbers qs = cc in
    let same : p ≡ q = ap (λ n. record { element = n; site = p.site }) element
    ∙ ap (λ n. record { element = q.element; site = n }) site in
    ap (λ x. x ∷ ps) same ∙ ap (λ xs. q ∷ xs) (pairs_of ps qs rest)

parts_of : (xs ys us vs : List ℕ) → length xs ≡ length ys → xs ++ us ≡ ys ++ vs
    → (xs ≡ ys) × (us ≡ vs)
parts_of [] [] us vs len e = (refl, e)
parts_of [] (y ∷ ys) us vs len e = absurd (omega (arith, len))
parts_of (x ∷ xs) [] us vs len e = absurd (omega (arith, len))
parts_of (x ∷ xs) (y ∷ ys) us vs len e =
    let head : x ≡ y = cc in
    let tail : xs ++ us ≡ ys ++ vs = cc in
    let h = parts_of xs ys us vs (omega (arith, len)) tail in
    (ap (λ z. z ∷ xs) head ∙ ap (λ zs. y ∷ zs) h.0, h.1)

-- a line is its parts
pub same_parts : (a b : Line) → a.function ≡ b.function → a.block ≡ b.block
    → a.classes ≡ b.classes → a.pairs ≡ b.pairs → a ≡ b
same_parts a b function block classes pairs =
    ap (λ n. record { function = n; block = a.block; classes = a.classes; pairs = a.pairs })
    function
    ∙ ap (λ n. record { function = b.function; block = n; classes = a.classes; pairs = a.pairs })
    block
    ∙ ap (λ c. record { function = b.function; block = b.block; classes = c; pairs = a.pairs })
    classes
    ∙ ap (λ p. record { function = b.function; block = b.block; classes = b.classes; pairs = p })
    pairs

same_line : (a b : Line) → numbers_of a ≡ numbers_of b → a ≡ b
same_line a b e =
    let function : a.function ≡ b.function = cc in
    let block : a.block ≡ b.block = cc in
    let count : length a.classes ≡ length b.classes = cc in
    let rest : a.classes ++ length a.pairs ∷ pair_numbers a.pairs
    ≡ b.classes ++ length b.pairs ∷ pair_numbers b.pairs = cc in
    let parts = parts_of a.classes b.classes (length a.pairs ∷ pair_numbers a.pairs)
    (length b.pairs ∷ pair_numbers b.pairs) count rest in
    let tails = parts.1 in
    let numbers : pair_numbers a.pairs ≡ pair_numbers b.pairs = cc in
    same_parts a b function block parts.0 (pairs_of a.pairs b.pairs numbers)

closed_some : (xs ys zs : List ℕ) (c : ℕ) → ((xs ++ c ∷ []) ++ ys) ++ zs ≡ [] → ⊥
closed_some [] ys zs c e = cc
closed_some (x ∷ xs) ys zs c e = cc

not_empty : (line : Line) (more : List ℕ) → line_text (numbers_of line) ++ more ≡ [] → ⊥
not_empty line more e = closed_some (numeral line.function)
    (line_text (line.block ∷ length line.classes
    ∷ (line.classes ++ length line.pairs ∷ pair_numbers line.pairs))) more 32 e

pub one_lines : (extents : List Extent) (spot : Spot) (a b : List Line)
    → AreLinesFrom extents spot a → AreLinesFrom extents spot b → text_of a ≡ text_of b → a ≡ b
one_lines extents spot [] [] first second e = refl
one_lines extents spot [] (line ∷ b) first second e =
    absurd (not_empty line (text_of b) (sym e))
one_lines extents spot (line ∷ a) [] first second e = absurd (not_empty line (text_of a) e)
one_lines extents spot (x ∷ a) (y ∷ b) (first, firsts) (second, seconds) e =
    let some = λ (line : Line) (at : IsLineAt extents spot line).
    (form_is_readable extents).some spot (numbers_of line)
    (record { line = line; is_at = at; numbers_are = refl }) in
    let h = one_line (numbers_of x) (numbers_of y) (text_of a) (text_of b) (some x first)
    (some y second) e in
    let same = same_line x y h.0 in
    let rest = one_lines extents (behind x) a b firsts
    (subst (λ l. AreLinesFrom extents (behind l) b) (sym same) seconds) h.1 in
    ap (λ l. l ∷ a) same ∙ ap (λ ls. y ∷ ls) rest

-- ---- one line of a block
module _ (extents : List Extent) where
  rises_on : (spot : Spot) (line : Line) (function block : ℕ) → IsLineAt extents spot line
      → RisesTo (behind line) function block → RisesTo spot function block
  rises_on spot line function block is rises = elim is.rises [
    | inl lower ↦ elim rises [
      | inl up ↦ inl (omega (arith, lower, up))
      | inr (same, up) ↦ inl (omega (arith, lower, same))
    ]
    | inr (same, below) ↦ elim rises [
      | inl up ↦ inl (omega (arith, same, up))
      | inr (same_too, up) ↦ inr (omega (arith, same, same_too), omega (arith, below, up))
    ]
  ]

  pub stands_past : (spot : Spot) (lines : List Line) (line : Line) → AreLinesFrom extents spot lines
      → Contains lines line → RisesTo spot line.function line.block
  stands_past spot [] line are (k, within, e) = absurd (omega (arith, within))
  stands_past spot (x ∷ lines) line (is, are) (zero, within, e) =
      subst (λ l. RisesTo spot l.function l.block) e is.rises
  stands_past spot (x ∷ lines) line (is, are) (suc k, within, e) =
      rises_on spot x line.function line.block is
      (stands_past (behind x) lines line are (k, omega (arith, within), e))

  not_past : (line other : Line) → RisesTo (behind line) other.function other.block
      → line.function ≡ other.function → line.block ≡ other.block → ⊥
  not_past line other (inl up) same same_too = omega (arith, up, same)
  not_past line other (inr (e, up)) same same_too = omega (arith, up, same_too)

  pub one_line_of : (spot : Spot) (lines : List Line) (a b : Line)
      → AreLinesFrom extents spot lines → Contains lines a → Contains lines b
      → a.function ≡ b.function → a.block ≡ b.block → a ≡ b
  one_line_of spot [] a b are (k, within, e) second same same_too = absurd (omega (arith, within))
  one_line_of spot (x ∷ lines) a b (is, are) (zero, within, e) (zero, within_too, e_too) same
      same_too = sym e ∙ e_too
  one_line_of spot (x ∷ lines) a b (is, are) (zero, within, e) (suc j, within_too, e_too) same
      same_too = absurd (not_past x b
      (stands_past (behind x) lines b are (j, omega (arith, within_too), e_too))
      (ap (λ l. l.function) e ∙ same) (ap (λ l. l.block) e ∙ same_too))
  one_line_of spot (x ∷ lines) a b (is, are) (suc k, within, e) (zero, within_too, e_too) same
      same_too = absurd (not_past x a
      (stands_past (behind x) lines a are (k, omega (arith, within), e))
      (ap (λ l. l.function) e_too ∙ sym same) (ap (λ l. l.block) e_too ∙ sym same_too))
  one_line_of spot (x ∷ lines) a b (is, are) (suc k, within, e) (suc j, within_too, e_too) same
      same_too = one_line_of (behind x) lines a b are (k, omega (arith, within), e)
      (j, omega (arith, within_too), e_too) same same_too

-- ---- one state of a line
classes_met : (r : Regions) (classes : List ℕ) → AreClassesOf r classes → (x y : ℕ) → Together r x y
    → slice_index classes x ≡ slice_index classes y
classes_met r classes are x y t =
    let x_class = are.class x t.left in
    let y_class = are.class y t.right in
    let one = are.least x (slice_index classes y) (record {
      left = t.left;
      right = y_class.right;
      same = t.same ∙ y_class.same;
    }) in
    let other = are.least y (slice_index classes x) (record {
      left = t.right;
      right = x_class.right;
      same = sym t.same ∙ x_class.same;
    }) in
    omega (arith, one, other)

met_classes : (r : Regions) (classes : List ℕ) → AreClassesOf r classes → (x y : ℕ)
    → x < length r.labels → y < length r.labels → slice_index classes x ≡ slice_index classes y
    → Together r x y
met_classes r classes are x y left right e =
    let x_class = are.class x left in
    let y_class = are.class y right in
    record {
      left = left;
      right = right;
      same = x_class.same ∙ ap (slice_index r.labels) e ∙ sym y_class.same;
    }

shown_within : (line : Line) (a b : Regions) → Shows line a → Shows line b → IsWithin a b
shown_within line a b first second = record {
  together = λ x y t.
      let count : length a.labels ≡ length b.labels =
      sym first.classes.elements ∙ second.classes.elements in
      met_classes b line.classes second.classes x y (omega (arith, t.left, count))
      (omega (arith, t.right, count)) (classes_met a line.classes first.classes x y t);
  pairs = λ x site has.
      let pair : Pair = record { element = x; site = site } in
      ((second.pairs.same pair).0 ((first.pairs.same pair).1 (has.element, has))).1;
}

pub one_shown : (line : Line) (a b : Regions) → Shows line a → Shows line b → a.sites ≡ b.sites
    → IsCopy a b
one_shown line a b first second sites = record {
  same = within_both a b (shown_within line a b first second)
      (shown_within line b a second first);
  sized =
      let count : length b.labels ≡ length a.labels =
      sym second.classes.elements ∙ first.classes.elements in
      ap (λ n. n ∷ b.sites) count ∙ ap (λ s. length a.labels ∷ s) (sym sites);
}

-- ---- one annotation of a function
-- the second has a copy of what the first has
pub record IsCopiedIn (a b : List (Option Regions)) (block : ℕ) (state : Regions) : Type 0 where
  pub copy : Regions
  pub stands : value_at b block ≡ Some copy
  pub is_copy : IsCopy state copy

some_of : {X : Type 0} (o : Option X) → IsSome o → (x : X) × (o ≡ Some x)
some_of None is = cc
some_of (Some x) is = (x, refl)

pub states_copied : (extents : List Extent) (spot : Spot) (lines : List Line) (extent : Extent)
    (function : ℕ) (a b : List (Option Regions)) → AreLinesFrom extents spot lines
    → AreStated extent lines function a → AreStated extent lines function b → (block : ℕ)
    (state : Regions) → value_at a block ≡ Some state → IsCopiedIn a b block state
states_copied extents spot lines extent function a b are first second block state at =
    let by = first.stated block state at in
    let there = some_of (value_at b by.line.block) (second.all by.line by.is_line by.function_is) in
    let stands = ap (value_at b) (sym by.block_is) ∙ there.1 in
    let by_too = second.stated block there.0 stands in
    let same = one_line_of extents spot lines by.line by_too.line are by.is_line by_too.is_line
    (by.function_is ∙ sym by_too.function_is) (by.block_is ∙ sym by_too.block_is) in
    record {
      copy = there.0;
      stands = stands;
      is_copy = one_shown by.line state there.0 by.shows
          (subst (λ l. Shows l there.0) (sym same) by_too.shows)
          (first.sites block state at ∙ sym (second.sites block there.0 stands));
    }
