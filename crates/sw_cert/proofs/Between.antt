-- Which elements and sites the next pair of a line may have, as numbers between two.
use Rattle.std.proofs.Common.{◌≡◌, ℕ, ◌+◌, ◌-◌, ◌*◌, ◌/◌, ◌%◌, ◌<◌, ◌≤◌, ◌↔◌, inl, inr, min}
use Rattle.std.proofs.Common.{List, [], length, slice_index, take, drop, Contains, refl, sym, subst}
use Rattle.std.proofs.Common.{ap, ◌∙◌, arith}
use Rattle.std.proofs.lemmas.Bool.{cases_eq, cases_lt}
use Rattle.std.proofs.lemmas.Nat.{div-add-mod'}
use Rattle.std.proofs.Math.Nat.{mul-le-mul_right, mod-lt}
use Rattle.sw_dictation.specs.Numbers.{IsOffered}
use Rattle.sw_cert.proofs.Beginning.{going_offered, ending_offered, next_same, stuck_same}
use Rattle.sw_cert.proofs.Ranks.{rows_apart}
use Rattle.sw_cert.proofs.Slices.{part_has}
use Rattle.sw_cert.specs.Begun.{IsNext, IsStuck, IsBetween}
use Rattle.sw_cert.specs.Choices.{MayBePair, ClosesPair}
use Rattle.sw_cert.specs.Form.{pair_count}
use Rattle.sw_cert.specs.Pending.{MayBeElement, MayBeSite}
use Rattle.sw_cert.specs.declared.line.Extent.{Extent}
use Rattle.sw_cert.specs.declared.line.Pair.{Pair}

module _ (extent : Extent) (to left : ℕ) (some : 0 < left) (room : to + left ≤ pair_count extent) where
  abbrev width : ℕ
  width = length extent.sites

  -- the last rank that the next pair may have
  abbrev last : ℕ
  last = pair_count extent - left

  pub wide : 0 < width
  wide = elim (cases_eq width 0) [
    | inl none ↦ absurd (omega (arith, some, room, ap (λ n. (extent.elements - 1) * n) none))
    | inr some_width ↦ omega (arith, some_width)
  ]

  -- a place in a row
  pair_in : (row column rank : ℕ) → row + 1 < extent.elements → column < width
      → rank ≡ row * width + column → to ≤ rank → rank ≤ last
      → MayBePair extent to left
      (record { element = row + 1; site = slice_index extent.sites column })
  pair_in row column rank below within is after before = record {
    rank = rank;
    has_rank = record {
      row = row;
      column = column;
      is_row = refl;
      below = below;
      within = within;
      is_site = refl;
      rank_is = is;
    };
    rises = after;
    room = omega (arith, before, room);
  }

  rows_fit : (row : ℕ) → row * width ≤ last → row + 1 < extent.elements
  rows_fit row le = elim (cases_lt (row + 1) extent.elements) [
    | inl lt ↦ lt
    | inr past ↦ (let up : (extent.elements - 1) * width ≤ row * width =
        mul-le-mul_right width (omega (arith, past)) in
        absurd (omega (arith, up, le, some, room)))
  ]

  -- the element of the next pair
  pub element_from : (pair : Pair) → MayBePair extent to left pair → to / width + 1 ≤ pair.element
  element_from pair may =
      elim (cases_lt may.has_rank.row (to / width)) [
        | inr ge ↦ omega (arith, ge, may.has_rank.is_row)
        | inl lt ↦ absurd (omega (
          arith,
          rows_apart width may.has_rank.row (to / width) lt,
          div-add-mod' to width,
          may.rises,
          may.has_rank.rank_is,
          may.has_rank.within,
        ))
      ]

  pub element_to : (pair : Pair) → MayBePair extent to left pair
      → pair.element < last / width + 2
  element_to pair may =
      elim (cases_lt (last / width) may.has_rank.row) [
        | inr le ↦ omega (arith, le, may.has_rank.is_row)
        | inl lt ↦ absurd (omega (
          arith,
          rows_apart width (last / width) may.has_rank.row lt,
          div-add-mod' last width,
          mod-lt last wide,
          may.has_rank.rank_is,
          may.room,
        ))
      ]

  pub element_between : (n : ℕ) → to / width + 1 ≤ n → n < last / width + 2
      → (pair : Pair) × (pair.element ≡ n) × MayBePair extent to left pair
  element_between n after before = by (n - 1) (omega (arith, after))
    where
      by : (row : ℕ) → row + 1 ≡ n
          → (pair : Pair) × (pair.element ≡ n) × MayBePair extent to left pair
      by row is =
          let up : row * width ≤ last / width * width =
          mul-le-mul_right width (omega (arith, is, before)) in
          let fits : row * width ≤ last = omega (arith, up, div-add-mod' last width) in
          elim (cases_eq row (to / width)) [
            | inl e ↦ (
              record { element = row + 1; site = slice_index extent.sites (to % width) },
              is,
              pair_in row (to % width) to (rows_fit row fits) (mod-lt to wide)
                  (sym (div-add-mod' to width) ∙ ap (λ q. q * width + to % width) (sym e))
                  (omega arith) (omega (arith, room)),
            )
            | inr ne ↦ (
              record { element = row + 1; site = slice_index extent.sites 0 },
              is,
              pair_in row 0 (row * width) (rows_fit row fits) wide (omega arith)
                  (omega (
                    arith,
                    rows_apart width (to / width) row (omega (arith, ne, after, is)),
                    div-add-mod' to width,
                    mod-lt to wide,
                  )) fits,
            )
          ]

  -- a number from one on and below another
  pub elements_between : (from end : ℕ) → from ≡ to / width + 1 → end ≡ last / width + 2
      → (n c : ℕ) → IsBetween from end n c ↔ MayBeElement extent to left n c
  elements_between from end from_is end_is n c = (
    λ (blank, (after, before)). (
      blank,
      element_between n (omega (arith, after, from_is)) (omega (arith, before, end_is)),
    ),
    λ (blank, (pair, e, may)). (
      blank,
      (
        omega (arith, from_is, e, element_from pair may),
        omega (arith, end_is, e, element_to pair may),
      ),
    ),
  )

  -- a number that is offered so, and none
  module _ (columns pairs : ℕ) (columns_are : columns ≡ width)
      (pairs_are : pairs ≡ pair_count extent) where
    abbrev AnElement : ℕ → ℕ → Type 0
    AnElement n c = IsBetween (to / columns + 1) ((pairs - left) / columns + 2) n c

    offered : (n c : ℕ) → AnElement n c ↔ MayBeElement extent to left n c
    offered = elements_between (to / columns + 1) ((pairs - left) / columns + 2)
        (ap (λ w. to / w + 1) columns_are)
        (ap (λ p. (p - left) / columns + 2) pairs_are
        ∙ ap (λ w. (pair_count extent - left) / w + 2) columns_are)

    pub element_said : (text : List ℕ) (at n end : ℕ) → IsNext AnElement text at n end
        → IsNext (MayBeElement extent to left) text at n end
    element_said text at n end = next_same AnElement (MayBeElement extent to left) text
        at n end (λ m c. (offered m c).0)

    pub element_stuck : (text : List ℕ) (at place : ℕ) → IsStuck AnElement text at place
        → IsStuck (MayBeElement extent to left) text at place
    element_stuck text at place = stuck_same AnElement (MayBeElement extent to left)
        text at place offered

  -- its site
  module _ (element : ℕ) (first : ℕ) (is_first : first ≡ (element - 1) * width)
      (pair : Pair) (of : pair.element ≡ element) (may : MayBePair extent to left pair) where
    first_is : first ≡ may.has_rank.row * width
    first_is =
        let rows : element - 1 ≡ may.has_rank.row = omega (arith, of, may.has_rank.is_row) in
        is_first ∙ ap (λ n. n * width) rows

    pub first_fits : first ≤ last
    first_fits = omega (arith, first_is, may.has_rank.rank_is, may.room)

    pub site_column : (site : ℕ)
        → MayBePair extent to left (record { element = element; site = site })
        → (k : ℕ) × (to - first ≤ k) × (k < min (last - first + 1) width)
        × (slice_index extent.sites k ≡ site)
    site_column site here =
        let rows : here.has_rank.row ≡ may.has_rank.row =
        omega (arith, here.has_rank.is_row, of, may.has_rank.is_row) in
        let start = ap (λ n. n * width) rows in (
          here.has_rank.column,
          omega (arith, here.rises, here.has_rank.rank_is, first_is, start),
          omega (
            arith,
            here.room,
            here.has_rank.rank_is,
            first_is,
            start,
            here.has_rank.within,
          ),
          here.has_rank.is_site,
        )

    pub column_site : (site k : ℕ) → to - first ≤ k → k < min (last - first + 1) width
        → slice_index extent.sites k ≡ site
        → MayBePair extent to left (record { element = element; site = site })
    column_site site k after before at = record {
      rank = may.has_rank.row * width + k;
      has_rank = record {
        row = may.has_rank.row;
        column = k;
        is_row = sym of ∙ may.has_rank.is_row;
        below = may.has_rank.below;
        within = omega (arith, before);
        is_site = at;
        rank_is = refl;
      };
      rises = omega (arith, after, first_is);
      room = omega (arith, before, first_is, first_fits, room);
    }

    pub columns_rise : to - first ≤ min (last - first + 1) width
    columns_rise = let h = site_column pair.site
        (subst (MayBePair extent to left) same may) in omega (arith, h.1, h.2)
      where
        same : pair ≡ record { element = element; site = pair.site }
        same = ap (λ x. record { element = x; site = pair.site }) of

    module _ (xs : List ℕ) (same : xs ≡ extent.sites) (from end : ℕ) (from_is : from ≡ to - first)
        (end_is : end ≡ min (last - first + 1) width) where
      pub from_end : from ≤ end
      from_end = omega (arith, from_is, end_is, columns_rise)

      pub end_within : end ≤ length xs
      end_within = omega (arith, end_is, ap length same)

      sites_here : (site : ℕ) → Contains (take (end - from) (drop from xs)) site
          ↔ MayBePair extent to left (record { element = element; site = site })
      sites_here site = (forth, back)
        where
          forth : Contains (take (end - from) (drop from xs)) site
              → MayBePair extent to left (record { element = element; site = site })
          forth has =
              let h = (part_has xs from end from_end end_within site).0 has in
              column_site site h.0 (omega (arith, h.1, from_is)) (omega (arith, h.2, end_is))
              (ap (λ l. slice_index l h.0) (sym same) ∙ h.3)

          back : MayBePair extent to left (record { element = element; site = site })
              → Contains (take (end - from) (drop from xs)) site
          back here =
              let h = site_column site here in
              (part_has xs from end from_end end_within site).1 (
                h.0,
                omega (arith, h.1, from_is),
                omega (arith, h.2, end_is),
                ap (λ l. slice_index l h.0) same ∙ h.3,
              )

      pub last_site : left ≡ 1 → (n c : ℕ)
          → IsOffered (take (end - from) (drop from xs)) [] n c
          ↔ MayBeSite extent to left element n c
      last_site one n c =
          let h = ending_offered (take (end - from) (drop from xs)) _ sites_here n c in (
            λ offered. (inl (one, (h.0 offered).0), (h.0 offered).1),
            λ (closes, may). h.1 (by closes, may),
          )
        where
          by : ClosesPair left c → c ≡ 10
          by (inl (is, feed)) = feed
          by (inr (many, blank)) = absurd (omega (arith, many, one))

      pub inner_site : (left ≡ 1 → ⊥) → (n c : ℕ)
          → IsOffered [] (take (end - from) (drop from xs)) n c
          ↔ MayBeSite extent to left element n c
      inner_site others n c =
          let h = going_offered (take (end - from) (drop from xs)) _ sites_here n c in (
            λ offered. (inr (omega (arith, some, others), (h.0 offered).0), (h.0 offered).1),
            λ (closes, may). h.1 (by closes, may),
          )
        where
          by : ClosesPair left c → c ≡ 32
          by (inl (is, feed)) = absurd (others is)
          by (inr (many, blank)) = blank

      -- a site that is offered so, and none
      module _ (text : List ℕ) (at : ℕ) where
        abbrev part_here : List ℕ
        part_here = take (end - from) (drop from xs)

        pub last_said : left ≡ 1 → (n past : ℕ) → IsNext (IsOffered part_here []) text at n past
            → IsNext (MayBeSite extent to left element) text at n past
        last_said one n past = next_same (IsOffered part_here []) (MayBeSite extent to left element)
            text at n past (λ m c. (last_site one m c).0)

        pub last_stuck : left ≡ 1 → (place : ℕ) → IsStuck (IsOffered part_here []) text at place
            → IsStuck (MayBeSite extent to left element) text at place
        last_stuck one place = stuck_same (IsOffered part_here [])
            (MayBeSite extent to left element) text at place (last_site one)

        pub inner_said : (left ≡ 1 → ⊥) → (n past : ℕ)
            → IsNext (IsOffered [] part_here) text at n past
            → IsNext (MayBeSite extent to left element) text at n past
        inner_said others n past = next_same (IsOffered [] part_here)
            (MayBeSite extent to left element) text at n past (λ m c. (inner_site others m c).0)

        pub inner_stuck : (left ≡ 1 → ⊥) → (place : ℕ)
            → IsStuck (IsOffered [] part_here) text at place
            → IsStuck (MayBeSite extent to left element) text at place
        inner_stuck others place = stuck_same (IsOffered [] part_here)
            (MayBeSite extent to left element) text at place (inner_site others)
