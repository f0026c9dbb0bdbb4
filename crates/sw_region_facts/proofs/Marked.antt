-- The marks of operands, and the elements that they are of.
use Rattle.std.proofs.Common.{◌≡◌, ℕ, ◌+◌, ◌<◌, Bool, true, false, cond, Option, Some, None, List}
use Rattle.std.proofs.Common.{[], ◌∷◌, ◌++◌, map, length, Contains, refl, sym, ap, ◌∙◌}
use Rattle.std.specs.List.{slice_get}
use Rattle.std.specs.Option.{option_map}
use Rattle.std.proofs.lemmas.List.{map-append}
use Rattle.std.proofs.lemmas.Option.{slice_get-map}
use Rattle.sw_list.proofs.ListLemmas.{some_injective}
use Rattle.sw_list.proofs.Members.{stands_at, member_at}
use Rattle.sw_graph.specs.declared.instr.Operand.{Operand}
use Rattle.sw_owner_facts.specs.View.{Element, Register}
use Rattle.sw_partition.specs.Regions.{Regions}
use Rattle.sw_region_ops.specs.Elements.{element_at}
use Rattle.sw_region_ops.specs.Marks.{mark_of, mark_at, marks_of, is_wanted, arguments_from}
use Rattle.sw_region_ops.specs.declared.marks.Mark.{Mark}
use Rattle.sw_region_facts.specs.FrameRegions.{element_in, HaveOwnNumbers, IsStateOf}
use Rattle.sw_region_facts.specs.Moves.{if_tracked, tracked}
use Rattle.sw_region_facts.specs.Calling.{passed_from}
use Rattle.sw_region_facts.proofs.Numbers.{inside}

abbrev numbers_of : List Mark → List (Option ℕ)
numbers_of marks = map (λ (mark : Mark). Some mark.x) marks

-- the marks are those of the elements, in their order
abbrev pub AreMarked : List (Option ℕ) → List Element → List Mark → Type 0
AreMarked elements xs marks = map (element_in elements) xs ≡ numbers_of marks

module _ (elements : List (Option ℕ)) where
  pub marked_append : (xs ys : List Element) (marks others : List Mark)
      → AreMarked elements xs marks → AreMarked elements ys others
      → AreMarked elements (xs ++ ys) (marks ++ others)
  marked_append xs ys marks others first second =
      map-append (element_in elements) xs ys
      ∙ ap (λ l. l ++ map (element_in elements) ys) first
      ∙ ap (λ l. numbers_of marks ++ l) second
      ∙ sym (map-append (λ (mark : Mark). Some mark.x) marks others)

  one_marked : (operand : Operand) (o : Option ℕ) → element_at elements operand.reg ≡ o
      → AreMarked elements (if_tracked o (Register operand.reg ∷ [])) (mark_of o operand.at)
  one_marked operand None is = refl
  one_marked operand (Some x) is = ap (λ p. p ∷ []) is

  wanted_marked : (operand : Operand) (wanted : Bool)
      → AreMarked elements
      (cond wanted (if_tracked (element_at elements operand.reg) (Register operand.reg ∷ [])) [])
      (cond wanted (mark_at elements operand) [])
  wanted_marked operand true = one_marked operand (element_at elements operand.reg) refl
  wanted_marked operand false = refl

  pub tracked_marked : (operands : List Operand)
      → AreMarked elements (tracked elements operands) (marks_of elements operands)
  tracked_marked [] = refl
  tracked_marked (operand ∷ operands) = marked_append
      (if_tracked (element_at elements operand.reg) (Register operand.reg ∷ []))
      (tracked elements operands) (mark_at elements operand) (marks_of elements operands)
      (one_marked operand (element_at elements operand.reg) refl) (tracked_marked operands)

  pub passed_marked : (sending : List Bool) (wanted : Bool) (k : ℕ) (operands : List Operand)
      → AreMarked elements (passed_from elements sending wanted k operands)
      (arguments_from elements sending wanted k operands)
  passed_marked sending wanted k [] = refl
  passed_marked sending wanted k (operand ∷ operands) = marked_append
      (cond (is_wanted sending wanted k)
      (if_tracked (element_at elements operand.reg) (Register operand.reg ∷ [])) [])
      (passed_from elements sending wanted (k + 1) operands)
      (cond (is_wanted sending wanted k) (mark_at elements operand) [])
      (arguments_from elements sending wanted (k + 1) operands)
      (wanted_marked operand (is_wanted sending wanted k))
      (passed_marked sending wanted (k + 1) operands)

  -- an element and its mark, by their index
  pub record Marked (marks : List Mark) (i : ℕ) (x : Element) : Type 0 where
    pub mark : Mark
    pub at : slice_get marks i ≡ Some mark
    pub is : element_in elements x ≡ Some mark.x

  pub mark_at_index : (xs : List Element) (marks : List Mark) → AreMarked elements xs marks
      → (i : ℕ) (x : Element) → slice_get xs i ≡ Some x → Marked marks i x
  mark_at_index xs marks marked i x at = by (slice_get marks i) refl
      (sym (slice_get-map (λ (mark : Mark). Some mark.x) marks i)
      ∙ ap (λ l. slice_get l i) (sym marked) ∙ slice_get-map (element_in elements) xs i
      ∙ ap (option_map (element_in elements)) at)
    where
      by : (o : Option Mark) → slice_get marks i ≡ o
          → option_map (λ (mark : Mark). Some mark.x) o ≡ Some (element_in elements x)
          → Marked marks i x
      by None none same = absurd cc
      by (Some mark) there same =
          record { mark = mark; at = there; is = sym (some_injective same) }

  -- an element has its mark
  pub mark_of_element : (xs : List Element) (marks : List Mark) → AreMarked elements xs marks
      → (x : Element) → Contains xs x
      → (mark : Mark) × Contains marks mark × (element_in elements x ≡ Some mark.x)
  mark_of_element xs marks marked x has =
      let there = stands_at xs x has in
      let found = mark_at_index xs marks marked there.0 x there.1 in
      (found.mark, member_at marks there.0 found.mark found.at, found.is)

  -- a mark is of an element
  pub element_of_mark : (xs : List Element) (marks : List Mark) → AreMarked elements xs marks
      → (mark : Mark) → Contains marks mark
      → (x : Element) × Contains xs x × (element_in elements x ≡ Some mark.x)
  element_of_mark xs marks marked mark has =
      let there = stands_at marks mark has in
      by there.0 (slice_get xs there.0) refl
      (sym (slice_get-map (element_in elements) xs there.0)
      ∙ ap (λ l. slice_get l there.0) marked
      ∙ slice_get-map (λ (m : Mark). Some m.x) marks there.0
      ∙ ap (option_map (λ (m : Mark). Some m.x)) there.1)
    where
      by : (i : ℕ) (o : Option Element) → slice_get xs i ≡ o
          → option_map (element_in elements) o ≡ Some (Some mark.x)
          → (x : Element) × Contains xs x × (element_in elements x ≡ Some mark.x)
      by i None none same = absurd cc
      by i (Some x) at same = (x, member_at xs i x at, some_injective same)

  pub marks_inside : HaveOwnNumbers elements → (xs : List Element) (marks : List Mark)
      → AreMarked elements xs marks → (a : Regions) → IsStateOf elements a → (mark : Mark)
      → Contains marks mark → mark.x < length a.labels
  marks_inside own xs marks marked a sized mark has =
      let of = element_of_mark xs marks marked mark has in
      inside elements own a sized of.0 mark.x of.2
