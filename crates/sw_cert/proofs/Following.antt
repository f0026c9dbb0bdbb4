-- Which numbers may stand behind the first numbers of a line of a certificate, up to the classes.
use Rattle.std.proofs.Common.{◌≡◌, ℕ, ◌+◌, ◌-◌, ◌<◌, ◌⊎◌, inl, inr, ◌↔◌, Some}
use Rattle.std.proofs.Common.{List, [], ◌∷◌, ◌++◌, length, refl, sym, subst, ap, ◌∙◌, arith}
use Rattle.std.proofs.Common.{append_assoc, length-append}
use Rattle.std.specs.List.{slice_get}
use Rattle.sw_dictation.specs.Lines.{closer_before, MayFollow}
use Rattle.sw_cert.specs.Certificate.{IsLineAt, AreClasses}
use Rattle.sw_cert.specs.declared.line.Spot.{Spot}
use Rattle.sw_cert.specs.Certificate.{pair_numbers}
use Rattle.sw_cert.specs.Choices.{RisesTo, HasBlock, MayBeNext}
use Rattle.sw_cert.specs.Form.{certificate_form, AreNumbersAt, AreFit}
use Rattle.sw_cert.proofs.Classing.{one_class_more, class_is_next, complete, alone}
use Rattle.sw_cert.proofs.Splitting.{next_of, blank_before}
use Rattle.sw_cert.specs.declared.line.Extent.{Extent}
use Rattle.sw_cert.specs.declared.line.Line.{Line}

pub one_extent : (extents : List Extent) (one other : Extent) (m n : ℕ)
    → slice_get extents m ≡ Some one → m ≡ n → slice_get extents n ≡ Some other → one ≡ other
one_extent extents one other m n first same second =
    let both : Some one ≡ Some other = sym first ∙ ap (slice_get extents) same ∙ second in cc both

module _ (extents : List Extent) (fit : AreFit extents) (spot : Spot) where
  -- a line of a block with these classes and without pairs
  abbrev plain : ℕ → ℕ → List ℕ → Line
  plain function block classes = record {
    function = function;
    block = block;
    classes = classes;
    pairs = [];
  }

  pub plain_is_at : (function block : ℕ) (classes : List ℕ) (extent : Extent)
      → slice_get extents function ≡ Some extent → block < extent.blocks
      → RisesTo spot function block → length classes ≡ extent.elements → AreClasses classes
      → IsLineAt extents spot (plain function block classes)
  plain_is_at function block classes extent is within rises count are = record {
    extent = extent;
    is_extent = is;
    fits = record {
      block = within;
      elements = count;
      classes = are;
      pairs = tt;
      rising = tt;
    };
    rises = rises;
  }

  -- the function
  pub function_follows : (n c : ℕ) → MayFollow (certificate_form extents) spot [] n c
      ↔ ((c ≡ 32) × HasBlock extents spot n)
  function_follows n c = (λ may. forth may.rest may.is_line may.closer_is, back)
    where
      forth : (rest : List ℕ) → AreNumbersAt extents spot (n ∷ rest) → c ≡ closer_before rest
          → (c ≡ 32) × HasBlock extents spot n
      forth rest are closer =
          let head : n ≡ are.line.function = cc are.numbers_are in
          let tail : rest ≡ are.line.block ∷ length are.line.classes
          ∷ (are.line.classes ++ length are.line.pairs ∷ pair_numbers are.line.pairs) =
          cc are.numbers_are in (
            closer ∙ ap closer_before tail,
            record {
              extent = are.is_at.extent;
              is_extent = ap (slice_get extents) head ∙ are.is_at.is_extent;
              room = room head are.is_at.rises;
            },
          )
        where
          room : n ≡ are.line.function → RisesTo spot are.line.function are.line.block
              → (spot.function < n)
              ⊎ ((spot.function ≡ n) × (spot.block < are.is_at.extent.blocks))
          room head (inl lt) = inl (omega (arith, lt, head))
          room head (inr (e, le)) = inr (e ∙ sym head, omega (arith, le, are.is_at.fits.block))

      with_block : (block : ℕ) (extent : Extent) → slice_get extents n ≡ Some extent
          → block < extent.blocks → RisesTo spot n block
          → MayFollow (certificate_form extents) spot [] n 32
      with_block block extent is within rises =
          let full = alone extent.elements in
          record {
            rest = block ∷ length full.0 ∷ (full.0 ++ 0 ∷ []);
            is_line = record {
              line = plain n block full.0;
              is_at = plain_is_at n block full.0 extent is within rises full.1 full.2;
              numbers_are = refl;
            };
            closer_is = refl;
          }

      back : (c ≡ 32) × HasBlock extents spot n → MayFollow (certificate_form extents) spot [] n c
      back (e, has) = subst (MayFollow (certificate_form extents) spot [] n) (sym e) (by has.room)
        where
          by : (spot.function < n) ⊎ ((spot.function ≡ n) × (spot.block < has.extent.blocks))
              → MayFollow (certificate_form extents) spot [] n 32
          by (inl lt) = with_block 0 has.extent has.is_extent
              (fit.each n has.extent has.is_extent).blocks (inl lt)
          by (inr (same, lt)) = with_block spot.block has.extent has.is_extent lt
              (inr (same, omega arith))

  -- Behind a function that there is.
  module _ (function : ℕ) (extent : Extent)
      (is_extent : slice_get extents function ≡ Some extent) where
    -- the block
    pub block_follows : (n c : ℕ) → MayFollow (certificate_form extents) spot (function ∷ []) n c
        ↔ ((c ≡ 32) × (n < extent.blocks) × RisesTo spot function n)
    block_follows n c = (λ may. forth may.rest may.is_line may.closer_is, back)
      where
        forth : (rest : List ℕ) → AreNumbersAt extents spot (function ∷ n ∷ rest)
            → c ≡ closer_before rest
            → (c ≡ 32) × (n < extent.blocks) × RisesTo spot function n
        forth rest are closer =
            let head : function ≡ are.line.function = cc are.numbers_are in
            let second : n ≡ are.line.block = cc are.numbers_are in
            let tail : rest ≡ length are.line.classes
            ∷ (are.line.classes ++ length are.line.pairs ∷ pair_numbers are.line.pairs) =
            cc are.numbers_are in
            let same = one_extent extents are.is_at.extent extent are.line.function function
            are.is_at.is_extent (sym head) is_extent in (
              closer ∙ ap closer_before tail,
              (let blocks = ap (λ (e : Extent). e.blocks) same in
                  omega (arith, are.is_at.fits.block, second, blocks)),
              subst (RisesTo spot function) (sym second)
                  (subst (λ f. RisesTo spot f are.line.block) (sym head) are.is_at.rises),
            )

        back : (c ≡ 32) × (n < extent.blocks) × RisesTo spot function n
            → MayFollow (certificate_form extents) spot (function ∷ []) n c
        back (e, within, rises) =
            let full = alone extent.elements in
            record {
              rest = length full.0 ∷ (full.0 ++ 0 ∷ []);
              is_line = record {
                line = plain function n full.0;
                is_at = plain_is_at function n full.0 extent is_extent within rises full.1 full.2;
                numbers_are = refl;
              };
              closer_is = e;
            }

    -- Behind a block that may have a line.
    module _ (block : ℕ) (within : block < extent.blocks)
        (rises : RisesTo spot function block) where
      -- the number of elements
      pub elements_follow : (n c : ℕ)
          → MayFollow (certificate_form extents) spot (function ∷ block ∷ []) n c
          ↔ ((c ≡ 32) × (n ≡ extent.elements))
      elements_follow n c = (λ may. forth may.rest may.is_line may.closer_is, back)
        where
          forth : (rest : List ℕ) → AreNumbersAt extents spot (function ∷ block ∷ n ∷ rest)
              → c ≡ closer_before rest → (c ≡ 32) × (n ≡ extent.elements)
          forth rest are closer =
              let head : function ≡ are.line.function = cc are.numbers_are in
              let third : n ≡ length are.line.classes = cc are.numbers_are in
              let tail : rest ≡ are.line.classes ++ length are.line.pairs
              ∷ pair_numbers are.line.pairs = cc are.numbers_are in
              let same = one_extent extents are.is_at.extent extent are.line.function function
              are.is_at.is_extent (sym head) is_extent in (
                closer ∙ ap closer_before tail
                    ∙ blank_before are.line.classes (pair_numbers are.line.pairs)
                    (length are.line.pairs),
                third ∙ are.is_at.fits.elements ∙ ap (λ (e : Extent). e.elements) same,
              )

          back : (c ≡ 32) × (n ≡ extent.elements)
              → MayFollow (certificate_form extents) spot (function ∷ block ∷ []) n c
          back (e, count) =
              let full = alone extent.elements in
              record {
                rest = full.0 ++ 0 ∷ [];
                is_line = record {
                  line = plain function block full.0;
                  is_at = plain_is_at function block full.0 extent is_extent within rises full.1
                      full.2;
                  numbers_are = ap (λ k. function ∷ block ∷ k ∷ (full.0 ++ 0 ∷ []))
                      (count ∙ sym full.1);
                };
                closer_is = e ∙ sym (blank_before full.0 [] 0);
              }

      -- the class of an element
      pub class_follows : (classes : List ℕ) → length classes < extent.elements
          → AreClasses classes → (n c : ℕ)
          → MayFollow (certificate_form extents) spot
          (function ∷ block ∷ extent.elements ∷ classes) n c ↔ ((c ≡ 32) × MayBeNext classes n)
      class_follows classes more are_classes n c =
          (λ may. forth may.rest may.is_line may.closer_is, back)
        where
          forth : (rest : List ℕ)
              → AreNumbersAt extents spot
              (function ∷ block ∷ extent.elements ∷ (classes ++ n ∷ rest))
              → c ≡ closer_before rest → (c ≡ 32) × MayBeNext classes n
          forth rest are closer =
              let head : function ≡ are.line.function = cc are.numbers_are in
              let third : extent.elements ≡ length are.line.classes = cc are.numbers_are in
              let tail : classes ++ n ∷ rest ≡ are.line.classes ++ length are.line.pairs
              ∷ pair_numbers are.line.pairs = cc are.numbers_are in
              let h = next_of are.line.classes (length are.line.pairs
              ∷ pair_numbers are.line.pairs) classes rest n (omega (arith, more, third))
              (sym tail) in (
                closer ∙ ap closer_before h.2
                    ∙ blank_before h.0 (pair_numbers are.line.pairs) (length are.line.pairs),
                class_is_next classes h.0 n (subst AreClasses h.1 are.is_at.fits.classes),
              )

          back : (c ≡ 32) × MayBeNext classes n
              → MayFollow (certificate_form extents) spot
              (function ∷ block ∷ extent.elements ∷ classes) n c
          back (e, next) =
              let so_far : List ℕ = classes ++ n ∷ [] in
              let length_is : length so_far ≡ length classes + 1 =
              length-append classes (n ∷ []) in
              let full = complete (extent.elements - (length classes + 1)) so_far
              (one_class_more classes n are_classes next) in
              let count : length (so_far ++ full.0) ≡ extent.elements =
              omega (arith, full.1, length_is, more) in
              let split : so_far ++ full.0 ≡ classes ++ n ∷ full.0 =
              append_assoc classes (n ∷ []) full.0 in
              record {
                rest = full.0 ++ 0 ∷ [];
                is_line = record {
                  line = plain function block (so_far ++ full.0);
                  is_at = plain_is_at function block (so_far ++ full.0) extent is_extent within
                      rises count full.2;
                  numbers_are = ap (λ l. function ∷ block ∷ extent.elements ∷ l)
                      (sym (append_assoc classes (n ∷ full.0) (0 ∷ []))
                      ∙ ap (λ l. l ++ 0 ∷ []) (sym split))
                      ∙ ap (λ k. function ∷ block ∷ k ∷ ((so_far ++ full.0) ++ 0 ∷ []))
                      (sym count);
                };
                closer_is = e ∙ sym (blank_before full.0 [] 0);
              }
