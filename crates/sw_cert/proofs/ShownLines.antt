-- Lines of a certificate show states, and so give each function of a graph an annotation.
use Rattle.std.proofs.Common.{◌≡◌, ℕ, ◌<◌, inl, inr, Option, Some, None, IsSome, List, []}
use Rattle.std.proofs.Common.{length, slice_index, Contains, refl, sym, subst, ap, ◌∙◌, arith}
use Rattle.std.proofs.lemmas.Bool.{cases_lt}
use Rattle.std.proofs.lemmas.List.{get_or_past}
use Rattle.std.proofs.lemmas.Option.{none-some, slice_get_within}
use Rattle.std.specs.List.{slice_get}
use Rattle.sw_graph.specs.declared.graph.Graph.{Graph}
use Rattle.sw_list.proofs.ListLemmas.{some_injective}
use Rattle.sw_partition.specs.Regions.{Regions}
use Rattle.sw_region_flow.proofs.Deciding.{Decided, both_decided, below_decided, same_decided}
use Rattle.sw_region_flow.proofs.Places.{element_at}
use Rattle.sw_region_flow.proofs.Tabled.{IsState, IsMade, made, is_made}
use Rattle.sw_cert.proofs.Decisions.{some_member}
use Rattle.sw_cert.proofs.Judging.{lines_from_in, of_member}
use Rattle.sw_cert.proofs.Listed.{listed}
use Rattle.sw_cert.specs.Certificate.{IsLineOf, IsPairOf, AreLinesFrom, IsCertificate, start}
use Rattle.sw_cert.specs.Reading.{AreExtentsOf, AreStated, IsReading, IsStated}
use Rattle.sw_cert.specs.Shown.{Shows}
use Rattle.sw_cert.specs.Tables.{IsLineIn}
use Rattle.sw_cert.specs.Verified.{Annotations}
use Rattle.sw_cert.specs.declared.line.Extent.{Extent}
use Rattle.sw_cert.specs.declared.line.Line.{Line}
use Rattle.sw_cert.specs.declared.line.Pair.{Pair}

-- ---- the state of a line
module _ (extent : Extent) (line : Line) (fits : IsLineOf extent line) where
  -- the elements are in one class
  abbrev Met : ℕ → ℕ → Type 0
  Met x y = ((x < extent.elements) × (y < extent.elements))
      × (slice_index line.classes x ≡ slice_index line.classes y)

  abbrev Paired : ℕ → ℕ → Type 0
  Paired x site = Contains line.pairs (record { element = x; site = site })

  tell_paired : (x site : ℕ) → Decided (Paired x site)
  tell_paired x site = by (some_member (λ (p : Pair). (p.element ≡ x) × (p.site ≡ site))
      (λ p. both_decided (same_decided p.element x) (same_decided p.site site)) line.pairs)
    where
      by : Decided ((p : Pair) × Contains line.pairs p × ((p.element ≡ x) × (p.site ≡ site)))
          → Decided (Paired x site)
      by (inl h) = inl (subst (λ n. Paired n site) h.2.0
          (subst (λ n. Paired h.0.element n) h.2.1 h.1))
      by (inr none) = inr (λ has. none (record { element = x; site = site }, has, (refl, refl)))

  line_is_state : IsState extent.elements extent.sites Met Paired
  line_is_state = record {
    tell = λ x y. both_decided
        (both_decided (below_decided x extent.elements) (below_decided y extent.elements))
        (same_decided (slice_index line.classes x) (slice_index line.classes y));
    within = λ x y t. t.0;
    itself = λ x lt. ((lt, lt), refl);
    turned = λ x y t. ((t.0.1, t.0.0), sym t.1);
    along = λ x y z t u. ((t.0.0, u.0.1), t.1 ∙ u.1);
    tell_pair = tell_paired;
    there = λ x site has.
        let pair = of_member (IsPairOf extent) line.pairs (record { element = x; site = site })
        fits.pairs has in (pair.element, pair.site);
  }

  shown : Regions
  shown = made extent.elements extent.sites Met Paired line_is_state

  shown_is : IsMade extent.elements extent.sites Met Paired shown
  unfolding shown
  shown_is = is_made extent.elements extent.sites Met Paired line_is_state

  -- the class of an element is an element
  class_within : (x : ℕ) → x < extent.elements → slice_index line.classes x < extent.elements
  class_within x lt = let h = (fits.classes x (omega (arith, lt, fits.elements))).0 in
      omega (arith, lt, h)

  shown_shows : Shows line shown
  shown_shows = record {
    classes = record {
      elements = fits.elements ∙ sym shown_is.elements_are;
      class = λ x lt.
          let inside : x < extent.elements = omega (arith, lt, shown_is.elements_are) in
          let class = fits.classes x (omega (arith, inside, fits.elements)) in
          (shown_is.together x (slice_index line.classes x)).1
          ((inside, class_within x inside), sym class.1);
      least = λ x y t.
          let met = (shown_is.together x y).0 t in
          let class = (fits.classes y (omega (arith, met.0.1, fits.elements))).0 in
          omega (arith, met.1, class);
    };
    pairs = record {
      same = λ pair. (
        λ has. let there = (shown_is.pairs pair.element pair.site).1 has in
            (there.element, there),
        λ h. (shown_is.pairs pair.element pair.site).0 h.1,
      );
      rising = fits.rising;
    };
  }

  -- the line shows a state over the sites of its function
  pub some_shown : (r : Regions) × Shows line r × (r.sites ≡ extent.sites)
  some_shown = (shown, shown_shows, shown_is.sites_are)

-- ---- the annotation of a function
-- whether lines have one of a block
pub find_line : (lines : List Line) (function block : ℕ) → Decided ((line : Line)
    × Contains lines line × ((line.function ≡ function) × (line.block ≡ block)))
find_line lines function block =
    some_member (λ line. (line.function ≡ function) × (line.block ≡ block))
    (λ line. both_decided (same_decided line.function function) (same_decided line.block block))
    lines

-- what an annotation has at a block is that of the block's line
record IsShownAt (extent : Extent) (lines : List Line) (function block : ℕ)
    (o : Option Regions) : Type 0 where
  sites : (state : Regions) → o ≡ Some state → state.sites ≡ extent.sites
  stated : (state : Regions) → o ≡ Some state → IsStated lines function block state
  all : (line : Line) → Contains lines line → line.function ≡ function → line.block ≡ block
      → IsSome o

-- a line of a certificate is one of a function with its extent
pub line_in : (extents : List Extent) (lines : List Line) (line : Line)
    → AreLinesFrom extents start lines → Contains lines line → IsLineIn extents line
line_in extents lines line are has =
    of_member (IsLineIn extents) lines line (lines_from_in extents start lines are) has

pub line_of : (extents : List Extent) (lines : List Line) (line : Line) (function : ℕ)
    (extent : Extent) → AreLinesFrom extents start lines → Contains lines line
    → line.function ≡ function → slice_get extents function ≡ Some extent → IsLineOf extent line
line_of extents lines line function extent are has same is =
    let by = line_in extents lines line are has in
    subst (λ e. IsLineOf e line)
    (some_injective (sym by.is_extent ∙ ap (slice_get extents) same ∙ is)) by.fits

module _ (extents : List Extent) (lines : List Line) (are : AreLinesFrom extents start lines)
    (function : ℕ) (extent : Extent) (is : slice_get extents function ≡ Some extent) where
  value_for : (block : ℕ) → (o : Option Regions) × IsShownAt extent lines function block o
  value_for block = by (find_line lines function block)
    where
      by : Decided ((line : Line) × Contains lines line
          × ((line.function ≡ function) × (line.block ≡ block)))
          → (o : Option Regions) × IsShownAt extent lines function block o
      by (inl (line, has, of)) =
          let r = some_shown extent line
          (line_of extents lines line function extent are has of.0 is) in (
            Some r.0,
            record {
              sites = λ state e. subst (λ s. s.sites ≡ extent.sites) (some_injective e) r.2;
              stated = λ state e. record {
                line = line;
                is_line = has;
                function_is = of.0;
                block_is = of.1;
                shows = subst (Shows line) (some_injective e) r.1;
              };
              all = λ other _ _ _. refl;
            },
          )
      by (inr none) = (
        None,
        record {
          sites = λ state e. absurd (none-some state e);
          stated = λ state e. absurd (none-some state e);
          all = λ other has same at. absurd (none (other, has, (same, at)));
        },
      )

  -- lines give the function an annotation
  pub some_states : (states : List (Option Regions)) × AreStated extent lines function states
  some_states =
      let all = listed (IsShownAt extent lines function) extent.blocks
      (λ block lt. value_for block) in (
        all.0,
        record {
          sites = λ block state at. elim (cases_lt block extent.blocks) [
            | inl lt ↦ (all.2 block None lt).sites state at
            | inr past ↦ absurd (none-some state
                (sym (get_or_past all.0 block None (omega (arith, past, all.1))) ∙ at))
          ];
          stated = λ block state at. elim (cases_lt block extent.blocks) [
            | inl lt ↦ (all.2 block None lt).stated state at
            | inr past ↦ absurd (none-some state
                (sym (get_or_past all.0 block None (omega (arith, past, all.1))) ∙ at))
          ];
          all = λ line has same.
              (all.2 line.block None
              (line_of extents lines line function extent are has same is).block).all line has same
              refl;
        },
      )

-- ---- the annotations of a graph
abbrev IsFor : List Extent → List Line → ℕ → List (Option Regions) → Type 0
IsFor extents lines function states = (extent : Extent) → slice_get extents function ≡ Some extent
    → AreStated extent lines function states

-- bytes that are a certificate of a graph are read
pub some_reading : (graph : Graph) (bytes : List ℕ) (lines : List Line) (extents : List Extent)
    → AreExtentsOf graph extents → IsCertificate extents bytes lines
    → (annotations : Annotations) × IsReading graph bytes lines annotations
some_reading graph bytes lines extents are_extents certificate =
    let all = listed (IsFor extents lines) (length extents) (λ function lt.
    let extent = element_at extents function lt in
    let states = some_states extents lines certificate.are_lines function extent.0 extent.1 in (
      states.0,
      λ other is. subst (λ e. AreStated e lines function states.0)
          (some_injective (sym extent.1 ∙ is)) states.1,
    )) in (
      all.0,
      record {
        extents = extents;
        are_extents = are_extents;
        is_certificate = certificate;
        are_stated = λ function extent is.
            all.2 function [] (slice_get_within extents function extent is) extent is;
      },
    )
