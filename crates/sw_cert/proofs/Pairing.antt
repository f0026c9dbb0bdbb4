-- Pairs of a line that are read one after the other.
use Rattle.std.proofs.Common.{◌≡◌, ℕ, zero, suc, ◌+◌, ◌-◌, ◌<◌, ◌≤◌, inl, inr, ◌↔◌, Some, List, [], ◌∷◌}
use Rattle.std.proofs.Common.{◌++◌, length, drop, refl, sym, subst, ap, ◌∙◌, arith, length-append}
use Rattle.std.proofs.Common.{append_assoc, Contains}
use Rattle.std.specs.List.{slice_get}
use Rattle.std.proofs.lemmas.Bool.{cases_eq}
use Rattle.std.proofs.lemmas.List.{append-nil}
use Rattle.sw_dictation.specs.Lines.{line_text, MayFollow, IsBadPlace}
use Rattle.sw_dictation.specs.Numbers.{IsOffered}
use Rattle.sw_cert.proofs.Beginning.{begun_more, line_ends, stuck_same, stuck_is_bad}
use Rattle.sw_cert.proofs.Following.{one_extent}
use Rattle.sw_cert.proofs.FollowingPairs.{count_follows, element_follows, site_follows}
use Rattle.sw_cert.proofs.Ranks.{RiseFrom, rise_push, pair_at, rise_fits, rise_rising, rise_both}
use Rattle.sw_cert.proofs.Ranks.{one_rank}
use Rattle.sw_cert.proofs.Splitting.{pair_numbers_split}
use Rattle.sw_cert.specs.Begun.{IsForm, IsBegun, IsNext, IsStuck, AreAllClassesRead, IsRead}
use Rattle.sw_cert.specs.Certificate.{numbers_of, pair_numbers}
use Rattle.sw_cert.specs.Choices.{HasLine, HasClasses, HasRank, RiseTo, MayBePair, ClosesPair}
use Rattle.sw_cert.specs.Choices.{ClosesCount}
use Rattle.sw_cert.specs.Form.{certificate_form, pair_count}
use Rattle.sw_cert.specs.Pending.{MayBeCount, MayBeElement, MayBeSite, IsPairing, ArePairsRead}
use Rattle.sw_cert.specs.declared.form.Form.{Form}
use Rattle.sw_cert.specs.declared.line.Extent.{Extent}
use Rattle.sw_cert.specs.declared.line.Line.{Line}
use Rattle.sw_cert.specs.declared.line.Pair.{Pair}
use Rattle.sw_cert.specs.declared.line.Spot.{Spot}
use Rattle.sw_cert.specs.declared.pairs.Pending.{Pending}

-- the numbers of pairs that are offered
pub counts_offered : (most : ℕ) (going : List ℕ) (end : ℕ) → end ≡ most + 1
    → ((n : ℕ) → Contains going n ↔ ((1 ≤ n) × (n < end)))
    → (n c : ℕ) → IsOffered (0 ∷ []) going n c ↔ MayBeCount most n c
counts_offered most going end end_is offers n c = (forth, back)
  where
    forth : IsOffered (0 ∷ []) going n c → MayBeCount most n c
    forth (inl (feed, has)) = inl (zero_only has, feed)
      where
        zero_only : Contains (0 ∷ []) n → n ≡ 0
        zero_only (zero, within, at) = sym at
        zero_only (suc k, within, at) = absurd (omega (arith, within))
    forth (inr (blank, has)) =
        let h = (offers n).0 has in inr (h.0, omega (arith, h.1, end_is), blank)

    back : MayBeCount most n c → IsOffered (0 ∷ []) going n c
    back (inl (none, feed)) =
        inl (feed, subst (Contains (0 ∷ [])) (sym none) (0, omega arith, refl))
    back (inr (some, few, blank)) =
        inr (blank, (offers n).1 (omega (arith, some), omega (arith, few, end_is)))

module _ (form : Form) (is : IsForm form) (spot : Spot) (text : List ℕ) where
  -- a line whose pairs are all known
  done : (line : Line) (extent : Extent) (to end : ℕ)
      → HasLine form.extents spot line.function line.block extent → HasClasses extent line.classes
      → RiseTo extent 0 line.pairs to → end ≤ length text
      → (text ≡ line_text (numbers_of line) ++ drop end text)
      × (end ≡ length (line_text (numbers_of line)))
      → IsRead form.extents spot text line end
  done line extent to end has classes rise within whole =
      let fit = is.fit.each line.function extent has.is_extent in
      let from = subst (λ l. RiseFrom extent 0 l) (append-nil line.pairs)
      (rise_both extent 0 line.pairs [] to rise tt) in
      record {
        is_at = record {
          extent = extent;
          is_extent = has.is_extent;
          fits = record {
            block = has.within;
            elements = classes.all;
            classes = classes.are_classes;
            pairs = rise_fits extent 0 line.pairs from;
            rising = rise_rising extent fit.rising 0 line.pairs from;
          };
          rises = has.rises;
        };
        within = within;
        end_is = whole.1;
        splits = whole.0;
      }

  -- ---- the number of pairs
  abbrev pub classes_with : (head : Spot) (classes : List ℕ) (at : ℕ) (extent : Extent)
      → slice_get form.extents head.function ≡ Some extent
      → AreAllClassesRead form.extents spot text head classes at
      → AreAllClassesRead form.extents spot text head classes at
  classes_with head classes at extent here read =
      let same = one_extent form.extents read.extent extent head.function head.function
      read.has_line.is_extent refl here in
      record {
        extent = extent;
        has_line = subst (HasLine form.extents spot head.function head.block) same read.has_line;
        has_classes = subst (λ x. HasClasses x classes) same read.has_classes;
        begun = subst (λ (x : Extent). IsBegun text
            (head.function ∷ head.block ∷ x.elements ∷ classes) at) same read.begun;
      }

  module _ (head : Spot) (classes : List ℕ) (at : ℕ)
      (read : AreAllClassesRead form.extents spot text head classes at) where
    abbrev numbers : List ℕ
    numbers = head.function ∷ head.block ∷ read.extent.elements ∷ classes

    follows : (n c : ℕ) → MayFollow (certificate_form form.extents) spot numbers n c
        ↔ ClosesCount read.extent n c
    follows = count_follows form.extents is.fit spot head.function read.extent
        read.has_line.is_extent head.block read.has_line.within read.has_line.rises classes
        read.has_classes.all read.has_classes.are_classes

    pub count_not_said : (bad : ℕ) → IsStuck (MayBeCount (pair_count read.extent)) text at bad
        → IsBadPlace (certificate_form form.extents) spot text bad
    count_not_said bad stuck = stuck_is_bad form.extents spot text numbers at read.begun bad
        (inr (0, 10, (follows 0 10).1 (inl (refl, refl)))) (λ none. cc)
        (stuck_same (MayBeCount (pair_count read.extent)) _ text at bad
        (λ n c. ((follows n c).1, (follows n c).0)) stuck)

    -- the line with these classes
    abbrev pub line_of_classes : Line
    line_of_classes = record {
      function = head.function;
      block = head.block;
      classes = classes;
      pairs = [];
    }

    pub count_said : (n end : ℕ) → IsNext (MayBeCount (pair_count read.extent)) text at n end
        → ArePairsRead form.extents spot text line_of_classes
        (record { at = end; to = 0; left = n })
    count_said n end next = by next.offered refl
      where
        same_count : n ≡ 0 + n
        same_count = omega arith

        by : (offered : MayBeCount (pair_count read.extent) n next.closer)
            → next.closer ≡ next.closer
            → ArePairsRead form.extents spot text line_of_classes
            (record { at = end; to = 0; left = n })
        by (inl (none, feed)) e = inr (
          none,
          done line_of_classes read.extent 0 end read.has_line read.has_classes refl next.within
              (subst (λ k. (text ≡ line_text (head.function ∷ head.block ∷ k ∷ (classes ++ 0 ∷ []))
              ++ drop end text) × (end ≡ length
              (line_text (head.function ∷ head.block ∷ k ∷ (classes ++ 0 ∷ [])))))
              (sym read.has_classes.all)
              (subst (λ k. (text ≡ line_text (numbers ++ k ∷ []) ++ drop end text)
              × (end ≡ length (line_text (numbers ++ k ∷ [])))) none
              (line_ends (MayBeCount (pair_count read.extent)) text numbers at n end read.begun next feed))),
        )
        by (inr (some, few, blank)) e = inl (
          some,
          record {
            extent = read.extent;
            has_line = read.has_line;
            has_classes = read.has_classes;
            rise = refl;
            room = omega (arith, few);
            begun = subst (λ k. IsBegun text (head.function ∷ head.block ∷ read.extent.elements
                ∷ (classes ++ k ∷ [])) end) same_count
                (begun_more (MayBeCount (pair_count read.extent)) text numbers at n end read.begun
                next blank);
          },
        )

  -- ---- a pair
  pub still_pairing : (line : Line) (pending : Pending) → 0 < pending.left
      → ArePairsRead form.extents spot text line pending
      → IsPairing form.extents spot text line pending.to pending.left pending.at
  still_pairing line pending some (inl read) = read.1
  still_pairing line pending some (inr read) = absurd (omega (arith, some, read.0))

  abbrev pub pairing_with : (line : Line) (to left at : ℕ) (extent : Extent)
      → slice_get form.extents line.function ≡ Some extent
      → IsPairing form.extents spot text line to left at
      → IsPairing form.extents spot text line to left at
  pairing_with line to left at extent here read =
      let same = one_extent form.extents read.extent extent line.function line.function
      read.has_line.is_extent refl here in
      record {
        extent = extent;
        has_line = subst (HasLine form.extents spot line.function line.block) same read.has_line;
        has_classes = subst (λ x. HasClasses x line.classes) same read.has_classes;
        rise = subst (λ x. RiseTo x 0 line.pairs to) same read.rise;
        room = subst (λ x. to + left ≤ pair_count x) same read.room;
        begun = subst (λ (x : Extent). IsBegun text (line.function ∷ line.block ∷ x.elements
            ∷ (line.classes ++ (length line.pairs + left) ∷ pair_numbers line.pairs)) at) same
            read.begun;
      }

  module _ (line : Line) (to left at : ℕ) (some : 0 < left)
      (read : IsPairing form.extents spot text line to left at) where
    abbrev before : List ℕ
    before = line.function ∷ line.block ∷ read.extent.elements
        ∷ (line.classes ++ (length line.pairs + left) ∷ pair_numbers line.pairs)

    element_may : (n c : ℕ) → MayFollow (certificate_form form.extents) spot before n c
        ↔ MayBeElement read.extent to left n c
    element_may = element_follows form.extents is.fit spot line.function read.extent
        read.has_line.is_extent line.block read.has_line.within read.has_line.rises line.classes
        read.has_classes.all read.has_classes.are_classes line.pairs to left read.rise some

    pub element_not_said : (bad : ℕ) → IsStuck (MayBeElement read.extent to left) text at bad
        → IsBadPlace (certificate_form form.extents) spot text bad
    element_not_said bad stuck = stuck_is_bad form.extents spot text before at read.begun bad
        (inr (
          first.0.element,
          32,
          (element_may first.0.element 32).1 (
            refl,
            (
              first.0,
              refl,
              (record {
                rank = to;
                has_rank = first.1;
                rises = omega arith;
                room = read.room;
              }),
            ),
          ),
        )) (λ none. cc)
        (stuck_same (MayBeElement read.extent to left) _ text at bad
        (λ n c. ((element_may n c).1, (element_may n c).0)) stuck)
      where
        first : (pair : Pair) × HasRank read.extent pair to
        first = pair_at read.extent to (omega (arith, read.room, some))

    module _ (element end : ℕ) (next : IsNext (MayBeElement read.extent to left) text at element end)
      where
        abbrev behind : List ℕ
        behind = line.function ∷ line.block ∷ read.extent.elements
            ∷ (line.classes ++ (length line.pairs + left) ∷ (pair_numbers line.pairs ++ element ∷ []))

        begun_behind : IsBegun text behind end
        begun_behind = subst (λ l. IsBegun text (line.function ∷ line.block ∷ read.extent.elements ∷ l)
            end) (append_assoc line.classes ((length line.pairs + left) ∷ pair_numbers line.pairs)
            (element ∷ []))
            (begun_more (MayBeElement read.extent to left) text before at element end read.begun next
            next.offered.0)

        site_may : (n c : ℕ) → MayFollow (certificate_form form.extents) spot behind n c
            ↔ MayBeSite read.extent to left element n c
        site_may = site_follows form.extents is.fit spot line.function read.extent
            read.has_line.is_extent line.block read.has_line.within read.has_line.rises line.classes
            read.has_classes.all read.has_classes.are_classes line.pairs to left read.rise some element

        pub site_not_said : (bad : ℕ) → IsStuck (MayBeSite read.extent to left element) text end bad
            → IsBadPlace (certificate_form form.extents) spot text bad
        site_not_said bad stuck = stuck_is_bad form.extents spot text behind end begun_behind
            bad (inr (pair.site, closer.0, (site_may pair.site closer.0).1 (closer.1, may)))
            (λ none. cc)
            (stuck_same (MayBeSite read.extent to left element) _ text end bad
            (λ n c. ((site_may n c).1, (site_may n c).0)) stuck)
          where
            pair : Pair
            pair = next.offered.1.0

            may : MayBePair read.extent to left (record { element = element; site = pair.site })
            may = subst (λ x. MayBePair read.extent to left (record { element = x; site = pair.site }))
                next.offered.1.1 next.offered.1.2

            closer : (c : ℕ) × ClosesPair left c
            closer = elim (cases_eq left 1) [
              | inl last ↦ (10, inl (last, refl))
              | inr more ↦ (32, inr (omega (arith, some, more), refl))
            ]

        -- the pair is read
        module _ (site past rank : ℕ)
            (ended : IsNext (MayBeSite read.extent to left element) text end site past)
            (has : HasRank read.extent (record { element = element; site = site }) rank)
            (new : Line) (grown : new ≡ record {
              function = line.function;
              block = line.block;
              classes = line.classes;
              pairs = line.pairs ++ record { element = element; site = site } ∷ [];
            }) where
          abbrev pair : Pair
          pair = record { element = element; site = site }

          abbrev pairs : List Pair
          pairs = line.pairs ++ pair ∷ []

          abbrev grown_line : Line
          grown_line = record {
            function = line.function;
            block = line.block;
            classes = line.classes;
            pairs = pairs;
          }

          ranks : ended.offered.1.rank ≡ rank
          ranks = one_rank read.extent (is.fit.each line.function read.extent
              read.has_line.is_extent).rising pair ended.offered.1.rank rank ended.offered.1.has_rank has

          rise : RiseTo read.extent 0 pairs (rank + 1)
          rise = rise_push read.extent 0 line.pairs to pair rank read.rise
              (omega (arith, ended.offered.1.rises, ranks)) has

          count : length pairs ≡ length line.pairs + 1
          count = length-append line.pairs (pair ∷ [])

          grown_numbers : behind ++ site ∷ [] ≡ line.function ∷ line.block ∷ read.extent.elements
              ∷ (line.classes ++ (length line.pairs + left) ∷ pair_numbers pairs)
          grown_numbers = ap (λ l. line.function ∷ line.block ∷ read.extent.elements ∷ l)
              (append_assoc line.classes
              ((length line.pairs + left) ∷ (pair_numbers line.pairs ++ element ∷ [])) (site ∷ [])
              ∙ ap (λ l. line.classes ++ (length line.pairs + left) ∷ l)
              (append_assoc (pair_numbers line.pairs) (element ∷ []) (site ∷ [])
              ∙ sym (pair_numbers_split line.pairs (pair ∷ []))))

          pub pair_said : ArePairsRead form.extents spot text new
              (record { at = past; to = rank + 1; left = left - 1 })
          pair_said = subst (λ l. ArePairsRead form.extents spot text l
              (record { at = past; to = rank + 1; left = left - 1 })) (sym grown)
              (by ended.offered.0)
            where
              by : ClosesPair left ended.closer → ArePairsRead form.extents spot text grown_line
                  (record { at = past; to = rank + 1; left = left - 1 })
              by (inl (last, feed)) = inr (
                omega (arith, last),
                done grown_line read.extent (rank + 1) past read.has_line read.has_classes rise
                    ended.within
                    (subst (λ l. (text ≡ line_text l ++ drop past text)
                    × (past ≡ length (line_text l))) (grown_numbers ∙ lengths last)
                    (line_ends (MayBeSite read.extent to left element) text behind end site past
                    begun_behind ended feed)),
              )
                where
                  lengths : left ≡ 1 → line.function ∷ line.block ∷ read.extent.elements
                      ∷ (line.classes ++ (length line.pairs + left) ∷ pair_numbers pairs)
                      ≡ numbers_of grown_line
                  lengths last = ap (λ k. line.function ∷ line.block ∷ k
                      ∷ (line.classes ++ (length line.pairs + left) ∷ pair_numbers pairs))
                      (sym read.has_classes.all)
                      ∙ ap (λ k. line.function ∷ line.block ∷ length line.classes
                      ∷ (line.classes ++ k ∷ pair_numbers pairs))
                      (ap (λ k. length line.pairs + k) last ∙ sym count)
              by (inr (many, blank)) = inl (
                omega (arith, many),
                record {
                  extent = read.extent;
                  has_line = read.has_line;
                  has_classes = read.has_classes;
                  rise = rise;
                  room = omega (arith, ended.offered.1.room, ranks, many);
                  begun = subst (λ l. IsBegun text l past) (grown_numbers ∙ counts)
                      (begun_more (MayBeSite read.extent to left element) text behind end site past
                      begun_behind ended blank);
                },
              )
                where
                  total : length line.pairs + left ≡ length pairs + (left - 1)
                  total = omega (arith, count, many)

                  counts : line.function ∷ line.block ∷ read.extent.elements
                      ∷ (line.classes ++ (length line.pairs + left) ∷ pair_numbers pairs)
                      ≡ line.function ∷ line.block ∷ read.extent.elements
                      ∷ (line.classes ++ (length pairs + (left - 1)) ∷ pair_numbers pairs)
                  counts = ap (λ k. line.function ∷ line.block ∷ read.extent.elements
                      ∷ (line.classes ++ k ∷ pair_numbers pairs)) total
