-- Which numbers may stand behind the classes of a line of a certificate.
use Rattle.std.proofs.Common.{◌≡◌, ℕ, suc, ◌+◌, ◌-◌, ◌<◌, ◌≤◌, inl, inr, ◌↔◌, Some}
use Rattle.std.proofs.Common.{List, [], ◌∷◌, ◌++◌, length, refl, sym, subst, ap, ◌∙◌, arith}
use Rattle.std.proofs.Common.{append_assoc, length-append}
use Rattle.std.specs.List.{slice_get, AllByRecursion}
use Rattle.sw_dictation.specs.Lines.{closer_before, MayFollow}
use Rattle.sw_cert.specs.Certificate.{IsPairOf, AreClasses}
use Rattle.sw_cert.specs.declared.line.Spot.{Spot}
use Rattle.sw_cert.specs.Certificate.{pair_numbers}
use Rattle.sw_cert.specs.Form.{certificate_form, pair_count, AreNumbersAt, AreFit, IsFit}
use Rattle.sw_cert.specs.Choices.{RisesTo, ClosesCount, HasRank, RiseTo, MayBePair, ClosesPair}
use Rattle.sw_cert.proofs.Following.{one_extent}
use Rattle.sw_cert.proofs.Ranks.{RiseFrom, room, fill, rise_fits, rise_rising}
use Rattle.sw_cert.proofs.Ranks.{some_ranks, rank_below, rise_both, rise_behind}
use Rattle.sw_cert.proofs.Splitting.{all_known, next_pair, pair_numbers_split}
use Rattle.sw_cert.specs.declared.line.Extent.{Extent}
use Rattle.sw_cert.specs.declared.line.Line.{Line}
use Rattle.sw_cert.specs.declared.line.Pair.{Pair}

-- a block of a function that may have a line, with all its classes
module _ (extents : List Extent) (fit : AreFit extents) (spot : Spot) (function : ℕ)
    (extent : Extent) (is_extent : slice_get extents function ≡ Some extent) (block : ℕ)
    (within : block < extent.blocks) (rises : RisesTo spot function block) (classes : List ℕ)
    (count : length classes ≡ extent.elements) (are_classes : AreClasses classes) where
  abbrev pub form_of : ℕ → ℕ → List ℕ → Type 0
  form_of n c more = MayFollow (certificate_form extents) spot
      (function ∷ block ∷ extent.elements ∷ (classes ++ more)) n c

  rising : IsFit extent
  rising = fit.each function extent is_extent

  abbrev line_with : List Pair → Line
  line_with pairs = record {
    function = function;
    block = block;
    classes = classes;
    pairs = pairs;
  }

  numbers_with : (pairs : List Pair) → RiseFrom extent 0 pairs
      → AreNumbersAt extents spot (function ∷ block ∷ extent.elements
      ∷ (classes ++ length pairs ∷ pair_numbers pairs))
  numbers_with pairs rise = record {
    line = line_with pairs;
    is_at = record {
      extent = extent;
      is_extent = is_extent;
      fits = record {
        block = within;
        elements = count;
        classes = are_classes;
        pairs = rise_fits extent 0 pairs rise;
        rising = rise_rising extent rising.rising 0 pairs rise;
      };
      rises = rises;
    };
    numbers_are = ap (λ k. function ∷ block ∷ k ∷ (classes ++ length pairs ∷ pair_numbers pairs))
        (sym count);
  }

  -- what a line with these classes has behind them
  pub record HasPairs (behind : List ℕ) : Type 0 where
    pub pairs : List Pair
    pub behind_is : behind ≡ length pairs ∷ pair_numbers pairs
    pub rise : RiseFrom extent 0 pairs

  pairs_of : (behind : List ℕ)
      → AreNumbersAt extents spot (function ∷ block ∷ extent.elements ∷ (classes ++ behind))
      → HasPairs behind
  pairs_of behind are =
      let head : function ≡ are.line.function = cc are.numbers_are in
      let third : extent.elements ≡ length are.line.classes = cc are.numbers_are in
      let tail : classes ++ behind ≡ are.line.classes ++ length are.line.pairs
      ∷ pair_numbers are.line.pairs = cc are.numbers_are in
      let same = one_extent extents are.is_at.extent extent are.line.function function
      are.is_at.is_extent (sym head) is_extent in
      let h = all_known are.line.classes (length are.line.pairs ∷ pair_numbers are.line.pairs)
      classes behind (omega (arith, count, third)) (sym tail) in
      record {
        pairs = are.line.pairs;
        behind_is = sym h.1;
        rise = some_ranks extent rising.rising are.line.pairs
            (subst (λ e. AllByRecursion (IsPairOf e) are.line.pairs) same are.is_at.fits.pairs)
            are.is_at.fits.rising;
      }

  -- the number of pairs
  pub count_follows : (n c : ℕ)
      → MayFollow (certificate_form extents) spot
      (function ∷ block ∷ extent.elements ∷ classes) n c ↔ ClosesCount extent n c
  count_follows n c = (λ may. forth may.rest may.is_line may.closer_is, back)
    where
      by : (pairs : List Pair) (rest : List ℕ) → n ∷ rest ≡ length pairs ∷ pair_numbers pairs
          → RiseFrom extent 0 pairs → c ≡ closer_before rest → ClosesCount extent n c
      by [] rest e rise closer =
          let none : n ≡ 0 = cc e in
          let end : rest ≡ [] = cc e in inl (none, closer ∙ ap closer_before end)
      by (pair ∷ pairs) rest e rise closer =
          let some : n ≡ suc (length pairs) = cc e in
          let more : rest ≡ pair.element ∷ pair.site ∷ pair_numbers pairs = cc e in
          let inside = room extent 0 (pair ∷ pairs) rise (omega arith) in
          inr (omega (arith, some), omega (arith, some, inside), closer ∙ ap closer_before more)

      forth : (rest : List ℕ)
          → AreNumbersAt extents spot
          (function ∷ block ∷ extent.elements ∷ (classes ++ n ∷ rest))
          → c ≡ closer_before rest → ClosesCount extent n c
      forth rest are closer =
          let h = pairs_of (n ∷ rest) are in by h.pairs rest h.behind_is h.rise closer

      closed : (pairs : List Pair) → 0 < length pairs → closer_before (pair_numbers pairs) ≡ 32
      closed [] some = absurd (omega (arith, some))
      closed (pair ∷ pairs) some = refl

      back : ClosesCount extent n c → MayFollow (certificate_form extents) spot
          (function ∷ block ∷ extent.elements ∷ classes) n c
      back (inl (none, e)) = record {
        rest = [];
        is_line = subst (λ k. AreNumbersAt extents spot
            (function ∷ block ∷ extent.elements ∷ (classes ++ k ∷ []))) (sym none)
            (numbers_with [] tt);
        closer_is = e;
      }
      back (inr (some, few, e)) =
          let full = fill extent n 0 (omega (arith, few)) in
          record {
            rest = pair_numbers full.0;
            is_line = subst (λ k. AreNumbersAt extents spot
                (function ∷ block ∷ extent.elements ∷ (classes ++ k ∷ pair_numbers full.0)))
                full.1 (numbers_with full.0 full.2);
            closer_is = e ∙ sym (closed full.0 (omega (arith, some, full.1)));
          }

  -- Behind some pairs, where `left` of all are to come.
  module _ (known : List Pair) (to left : ℕ) (rise : RiseTo extent 0 known to)
      (some : 0 < left) where
    -- what follows the known pairs
    split_front : (more : List ℕ) (n : ℕ) (rest : List ℕ)
        → (classes ++ (length known + left) ∷ (pair_numbers known ++ more)) ++ n ∷ rest
        ≡ classes ++ (length known + left) ∷ (pair_numbers known ++ (more ++ n ∷ rest))
    split_front more n rest =
        append_assoc classes ((length known + left) ∷ (pair_numbers known ++ more)) (n ∷ rest)
        ∙ ap (λ l. classes ++ (length known + left) ∷ l)
        (append_assoc (pair_numbers known) more (n ∷ rest))

    -- the next pair of a line that goes on
    pub record HasNext (behind : List ℕ) : Type 0 where
      pub next : Pair
      pub more : List Pair
      pub behind_is : behind ≡ next.element ∷ next.site ∷ pair_numbers more
      pub may : MayBePair extent to left next
      pub left_is : left ≡ suc (length more)

    next_of_line : (n : ℕ) (behind : List ℕ)
        → AreNumbersAt extents spot (function ∷ block ∷ extent.elements
        ∷ (classes ++ (length known + left) ∷ (pair_numbers known ++ n ∷ behind)))
        → HasNext (n ∷ behind)
    next_of_line n behind are =
        let h = pairs_of ((length known + left) ∷ (pair_numbers known ++ n ∷ behind)) are in
        let total : length known + left ≡ length h.pairs = cc h.behind_is in
        let tail : pair_numbers known ++ n ∷ behind ≡ pair_numbers h.pairs = cc h.behind_is in
        let p = next_pair h.pairs known n behind (sym tail) in
        let later = rise_behind extent rising.rising 0 known (p.0 ∷ p.1) to rise
        (subst (RiseFrom extent 0) p.2 h.rise) in
        let inside = room extent (later.0 + 1) p.1 later.3
        (below later.0 later.2) in
        let lengths = ap length p.2 ∙ length-append known (p.0 ∷ p.1) in
        record {
          next = p.0;
          more = p.1;
          behind_is = ap (λ k. k ∷ behind) (sym p.3) ∙ ap (λ l. p.0.element ∷ l) p.4;
          may = record {
            rank = later.0;
            has_rank = later.2;
            rises = later.1;
            room = omega (arith, inside, total, lengths);
          };
          left_is = omega (arith, total, lengths);
        }
      where
        below : (r : ℕ) → {pair : Pair} → HasRank extent pair r → r + 1 ≤ pair_count extent
        below r {pair} has = let h = rank_below extent pair r has in omega (arith, h)

    numbers_next : (pair : Pair) → MayBePair extent to left pair
        → (more : List Pair) × (left ≡ suc (length more))
        × AreNumbersAt extents spot (function ∷ block ∷ extent.elements
        ∷ (classes ++ (length known + left)
        ∷ (pair_numbers known ++ pair.element ∷ pair.site ∷ pair_numbers more)))
    numbers_next pair may =
        let full = fill extent (left - 1) (may.rank + 1) (omega (arith, may.room, some)) in
        let pairs : List Pair = known ++ pair ∷ full.0 in
        let all = rise_both extent 0 known (pair ∷ full.0) to rise
        (may.rank, may.rises, may.has_rank, full.2) in
        let total : length pairs ≡ length known + left =
        length-append known (pair ∷ full.0) ∙ omega (arith, full.1, some) in (
          full.0,
          omega (arith, full.1, some),
          subst (λ k. AreNumbersAt extents spot (function ∷ block ∷ extent.elements
              ∷ (classes ++ k
              ∷ (pair_numbers known ++ pair.element ∷ pair.site ∷ pair_numbers full.0)))) total
              (subst (λ l. AreNumbersAt extents spot (function ∷ block ∷ extent.elements
              ∷ (classes ++ length pairs ∷ l))) (pair_numbers_split known (pair ∷ full.0))
              (numbers_with pairs all)),
        )

    -- the element of the next pair
    pub element_follows : (n c : ℕ)
        → form_of n c ((length known + left) ∷ pair_numbers known)
        ↔ ((c ≡ 32) × ((pair : Pair) × (pair.element ≡ n) × MayBePair extent to left pair))
    element_follows n c = (λ may. forth may.rest may.is_line may.closer_is, back)
      where
        front : (rest : List ℕ)
            → (classes ++ (length known + left) ∷ pair_numbers known) ++ n ∷ rest
            ≡ classes ++ (length known + left) ∷ (pair_numbers known ++ n ∷ rest)
        front rest =
            append_assoc classes ((length known + left) ∷ pair_numbers known) (n ∷ rest)

        forth : (rest : List ℕ)
            → AreNumbersAt extents spot (function ∷ block ∷ extent.elements
            ∷ ((classes ++ (length known + left) ∷ pair_numbers known) ++ n ∷ rest))
            → c ≡ closer_before rest
            → (c ≡ 32) × ((pair : Pair) × (pair.element ≡ n) × MayBePair extent to left pair)
        forth rest are closer =
            let h = next_of_line n rest (subst (λ l. AreNumbersAt extents spot
            (function ∷ block ∷ extent.elements ∷ l)) (front rest) are) in
            let head : n ≡ h.next.element = cc h.behind_is in
            let tail : rest ≡ h.next.site ∷ pair_numbers h.more = cc h.behind_is in
            (closer ∙ ap closer_before tail, (h.next, sym head, h.may))

        back : (c ≡ 32) × ((pair : Pair) × (pair.element ≡ n) × MayBePair extent to left pair)
            → form_of n c ((length known + left) ∷ pair_numbers known)
        back (e, (pair, is, may)) =
            let h = numbers_next pair may in
            record {
              rest = pair.site ∷ pair_numbers h.0;
              is_line = subst (λ l. AreNumbersAt extents spot
                  (function ∷ block ∷ extent.elements ∷ l))
                  (sym (front (pair.site ∷ pair_numbers h.0)))
                  (subst (λ k. AreNumbersAt extents spot (function ∷ block ∷ extent.elements
                  ∷ (classes ++ (length known + left)
                  ∷ (pair_numbers known ++ k ∷ pair.site ∷ pair_numbers h.0)))) is h.2);
              closer_is = e;
            }

    -- its site, behind its element
    pub site_follows : (element n c : ℕ)
        → form_of n c ((length known + left) ∷ (pair_numbers known ++ element ∷ []))
        ↔ (ClosesPair left c
        × MayBePair extent to left (record { element = element; site = n }))
    site_follows element n c = (λ may. forth may.rest may.is_line may.closer_is, back)
      where
        closes : (more : List Pair) → left ≡ suc (length more)
            → c ≡ closer_before (pair_numbers more) → ClosesPair left c
        closes [] e closer = inl (omega (arith, e), closer)
        closes (pair ∷ pairs) e closer = inr (omega (arith, e), closer)

        closed : (more : List Pair) → left ≡ suc (length more) → ClosesPair left c
            → c ≡ closer_before (pair_numbers more)
        closed [] e (inl (last, is)) = is
        closed [] e (inr (many, is)) = absurd (omega (arith, e, many))
        closed (pair ∷ pairs) e (inl (last, is)) = absurd (omega (arith, e, last))
        closed (pair ∷ pairs) e (inr (many, is)) = is

        forth : (rest : List ℕ)
            → AreNumbersAt extents spot (function ∷ block ∷ extent.elements
            ∷ ((classes ++ (length known + left) ∷ (pair_numbers known ++ element ∷ []))
            ++ n ∷ rest))
            → c ≡ closer_before rest
            → ClosesPair left c × MayBePair extent to left (record { element = element; site = n })
        forth rest are closer =
            let h = next_of_line element (n ∷ rest) (subst (λ l. AreNumbersAt extents spot
            (function ∷ block ∷ extent.elements ∷ l)) (split_front (element ∷ []) n rest) are) in
            let first : element ≡ h.next.element = cc h.behind_is in
            let second : n ≡ h.next.site = cc h.behind_is in
            let tail : rest ≡ pair_numbers h.more = cc h.behind_is in
            let same : h.next ≡ record { element = element; site = n } =
            ap (λ x. record { element = x; site = h.next.site }) (sym first)
            ∙ ap (λ y. record { element = element; site = y }) (sym second) in (
              closes h.more h.left_is (closer ∙ ap closer_before tail),
              subst (MayBePair extent to left) same h.may,
            )

        back : ClosesPair left c × MayBePair extent to left (record { element = element; site = n })
            → form_of n c ((length known + left) ∷ (pair_numbers known ++ element ∷ []))
        back (close, may) =
            let h = numbers_next (record { element = element; site = n }) may in
            record {
              rest = pair_numbers h.0;
              is_line = subst (λ l. AreNumbersAt extents spot
                  (function ∷ block ∷ extent.elements ∷ l))
                  (sym (split_front (element ∷ []) n (pair_numbers h.0))) h.2;
              closer_is = closed h.0 h.1 close;
            }
