-- The lines that may stand at a place of a certificate can be searched.
use Rattle.std.proofs.Common.{◌≡◌, ◌≢◌, ℕ, ◌<◌, ◌≤◌, inl, inr, Some, List, [], ◌∷◌, length}
use Rattle.std.proofs.Common.{slice_index, get_or, Contains, refl, sym, subst, ap, ◌∙◌, arith}
use Rattle.std.proofs.lemmas.Bool.{cases_lt}
use Rattle.std.proofs.lemmas.List.{get_or_default}
use Rattle.std.proofs.lemmas.List.Elements.{recursion_from_All}
use Rattle.std.proofs.lemmas.Option.{slice_get_within}
use Rattle.std.specs.List.{slice_get}
use Rattle.sw_dictation.proofs.Deciding.{Searched}
use Rattle.sw_region_flow.proofs.Deciding.{Decided, both_decided, either_decided, not_decided}
use Rattle.sw_region_flow.proofs.Deciding.{same_decided, below_decided}
use Rattle.sw_cert.proofs.RisingPairs.{most_pairs, few_pairs}
use Rattle.sw_cert.proofs.Searching.{AreOf, AreUpTo, below_searched, option_searched}
use Rattle.sw_cert.proofs.Searching.{same_searched, part_searched, union_searched, made_searched}
use Rattle.sw_cert.proofs.Searching.{all_decided, members_searched, lists_searched}
use Rattle.sw_cert.proofs.Searching.{short_lists_searched}
use Rattle.sw_cert.specs.Certificate.{numbers_of, IsPairBefore, ArePairsRising, AreClasses}
use Rattle.sw_cert.specs.Certificate.{IsPairOf, IsLineOf, IsLineAt}
use Rattle.sw_cert.specs.Choices.{RisesTo}
use Rattle.sw_cert.specs.Form.{AreNumbersAt}
use Rattle.sw_cert.specs.declared.line.Extent.{Extent}
use Rattle.sw_cert.specs.declared.line.Line.{Line}
use Rattle.sw_cert.specs.declared.line.Pair.{Pair}
use Rattle.sw_cert.specs.declared.line.Spot.{Spot}

at_most_decided : (x y : ℕ) → Decided (x ≤ y)
at_most_decided x y = elim (cases_lt y x) [
  | inl past ↦ inr (λ le. omega arith)
  | inr le ↦ inl le
]

-- ---- what is asked of a line can be decided
before_decided : (one other : Pair) → Decided (IsPairBefore one other)
before_decided one other = either_decided (below_decided one.element other.element)
    (both_decided (same_decided one.element other.element) (below_decided one.site other.site))

rising_decided : (pairs : List Pair) → Decided (ArePairsRising pairs)
rising_decided [] = inl tt
rising_decided (one ∷ []) = inl tt
rising_decided (one ∷ other ∷ pairs) =
    both_decided (before_decided one other) (rising_decided (other ∷ pairs))

classes_decided : (classes : List ℕ) → Decided (AreClasses classes)
classes_decided classes = all_decided (λ x. x < length classes) (below_searched (length classes))
    (λ x. (slice_index classes x ≤ x)
    × (slice_index classes (slice_index classes x) ≡ slice_index classes x))
    (λ x within. both_decided (at_most_decided (slice_index classes x) x)
    (same_decided (slice_index classes (slice_index classes x)) (slice_index classes x)))

rises_decided : (spot : Spot) (function block : ℕ) → Decided (RisesTo spot function block)
rises_decided spot function block = either_decided (below_decided spot.function function)
    (both_decided (same_decided spot.function function) (at_most_decided spot.block block))

-- ---- pairs
module _ (extent : Extent) where
  -- an element but `Here`
  abbrev IsGiven : ℕ → Type 0
  IsGiven element = (element < extent.elements) × (element ≢ 0)

  abbrev IsMade : Pair → Type 0
  IsMade pair = (element : ℕ) × IsGiven element × ((site : ℕ) × Contains extent.sites site
      × (pair ≡ record { element = element; site = site }))

  pairs_searched : Searched (IsPairOf extent)
  pairs_searched = same_searched IsMade
      (union_searched IsGiven
      (part_searched (λ n. n < extent.elements) (below_searched extent.elements) (λ n. n ≢ 0)
      (λ n lt. not_decided (same_decided n 0)))
      (λ element pair. (site : ℕ) × Contains extent.sites site
      × (pair ≡ record { element = element; site = site }))
      (λ element given. made_searched (Contains extent.sites) (members_searched extent.sites)
      (λ site. record { element = element; site = site })))
      (IsPairOf extent)
      (λ pair (element, given, (site, has, e)). subst (IsPairOf extent) (sym e)
      (record { not_here = given.1; element = given.0; site = has }))
      (λ pair is. (pair.element, (is.element, is.not_here), (pair.site, is.site, refl)))

  -- ---- lines
  abbrev IsNamed : List ℕ → Type 0
  IsNamed classes = AreOf (λ class. class < extent.elements) extent.elements classes
      × AreClasses classes

  abbrev IsPaired : List Pair → Type 0
  IsPaired pairs = AreUpTo (IsPairOf extent) (most_pairs extent) pairs × ArePairsRising pairs

  -- the line has these parts
  abbrev HasPairs : ℕ → ℕ → List ℕ → Line → Type 0
  HasPairs function block classes line = (pairs : List Pair) × IsPaired pairs
      × (line ≡ record { function = function; block = block; classes = classes; pairs = pairs })

  abbrev HasClasses : ℕ → ℕ → Line → Type 0
  HasClasses function block line =
      (classes : List ℕ) × IsNamed classes × HasPairs function block classes line

  abbrev HasBlock : ℕ → Line → Type 0
  HasBlock function line =
      (block : ℕ) × (block < extent.blocks) × HasClasses function block line

  blocks_searched : (function : ℕ) → Searched (HasBlock function)
  blocks_searched function =
      union_searched (λ block. block < extent.blocks) (below_searched extent.blocks)
      (HasClasses function)
      (λ block within. union_searched IsNamed
      (part_searched (AreOf (λ class. class < extent.elements) extent.elements)
      (lists_searched (λ class. class < extent.elements) (below_searched extent.elements)
      extent.elements) AreClasses (λ classes are. classes_decided classes))
      (HasPairs function block)
      (λ classes named. made_searched IsPaired
      (part_searched (AreUpTo (IsPairOf extent) (most_pairs extent))
      (short_lists_searched (IsPairOf extent) pairs_searched (most_pairs extent)) ArePairsRising
      (λ pairs are. rising_decided pairs))
      (λ pairs. record {
        function = function;
        block = block;
        classes = classes;
        pairs = pairs;
      })))

  fits : (function : ℕ) (line : Line) → HasBlock function line
      → (line.function ≡ function) × IsLineOf extent line
  fits function line (block, within, (classes, named, (pairs, paired, e))) =
      subst (λ (l : Line). (l.function ≡ function) × IsLineOf extent l) (sym e) (
        refl,
        record {
          block = within;
          elements = named.0.0;
          classes = named.1;
          pairs = paired.0.1;
          rising = paired.1;
        },
      )

  has_block : (line : Line) → IsLineOf extent line → HasBlock line.function line
  has_block line is = (
    line.block,
    is.block,
    (
      line.classes,
      (
        (
          is.elements,
          recursion_from_All (λ class. class < extent.elements) line.classes
              (λ k d within. small k d within),
        ),
        is.classes,
      ),
      (line.pairs, ((few_pairs extent line.pairs is.pairs is.rising, is.pairs), is.rising), refl),
    ),
  )
    where
      small : (k d : ℕ) → k < length line.classes → get_or line.classes k d < extent.elements
      small k d within = omega (
        arith,
        (is.classes k within).0,
        get_or_default line.classes k d 0 within,
        is.elements,
      )

-- ---- lines at a place
module _ (extents : List Extent) (spot : Spot) where
  abbrev HasExtent : ℕ → Line → Type 0
  HasExtent function line = (extent : Extent) × (slice_get extents function ≡ Some extent)
      × HasBlock extent function line

  abbrev HasFunction : Line → Type 0
  HasFunction line = (function : ℕ) × (function < length extents) × HasExtent function line

  functions_searched : Searched HasFunction
  functions_searched = union_searched (λ function. function < length extents)
      (below_searched (length extents)) HasExtent
      (λ function within. union_searched (λ extent. slice_get extents function ≡ Some extent)
      (option_searched (slice_get extents function))
      (λ extent. HasBlock extent function) (λ extent is. blocks_searched extent function))

  lines_searched : Searched (IsLineAt extents spot)
  lines_searched = same_searched
      (λ line. HasFunction line × RisesTo spot line.function line.block)
      (part_searched HasFunction functions_searched
      (λ line. RisesTo spot line.function line.block)
      (λ line has. rises_decided spot line.function line.block))
      (IsLineAt extents spot) stands parts
    where
      stands : (line : Line) → HasFunction line × RisesTo spot line.function line.block
          → IsLineAt extents spot line
      stands line ((function, within, (extent, is, has)), rises) =
          let h = fits extent function line has in
          record {
            extent = extent;
            is_extent = ap (slice_get extents) h.0 ∙ is;
            fits = h.1;
            rises = rises;
          }

      parts : (line : Line) → IsLineAt extents spot line
          → HasFunction line × RisesTo spot line.function line.block
      parts line at = (
        (
          line.function,
          slice_get_within extents line.function at.extent at.is_extent,
          (at.extent, at.is_extent, has_block at.extent line at.fits),
        ),
        at.rises,
      )

  pub numbers_searched : Searched (AreNumbersAt extents spot)
  numbers_searched = same_searched
      (λ numbers. (line : Line) × IsLineAt extents spot line × (numbers ≡ numbers_of line))
      (made_searched (IsLineAt extents spot) lines_searched numbers_of)
      (AreNumbersAt extents spot)
      (λ numbers (line, at, e). record { line = line; is_at = at; numbers_are = e })
      (λ numbers are. (are.line, are.is_at, are.numbers_are))
