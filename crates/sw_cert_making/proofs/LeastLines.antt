-- The lines of least annotations are lines of a certificate of the graph.
use Rattle.std.proofs.Common.{◌≡◌, ℕ, zero, suc, ◌<◌, ◌≤◌, inl, inr, Option, Some}
use Rattle.std.proofs.Common.{List, [], ◌∷◌, length, slice_index, get_or, Contains, refl}
use Rattle.std.proofs.Common.{subst}
use Rattle.std.proofs.Common.{◌∙◌, arith}
use Rattle.std.proofs.lemmas.List.{get_or_default}
use Rattle.std.proofs.lemmas.List.Elements.{Contains-get_or, recursion_from_All}
use Rattle.std.specs.List.{AllByRecursion, AllPairs}
use Rattle.sw_graph.specs.declared.graph.Graph.{Graph}
use Rattle.sw_partition.specs.Regions.{Regions, size_of, HasPair}
use Rattle.sw_region_flow.proofs.Doing.{itself, along}
use Rattle.sw_region_flow.proofs.Exact.{size_at}
use Rattle.sw_region_flow.proofs.Leasts.{some_sites}
use Rattle.sw_region_flow.proofs.OneSites.{sites_are_one}
use Rattle.sw_region_flow.specs.Analysis.{IsLeastOfFunction, facts_of}
use Rattle.sw_region_ops.specs.Elements.{element_count}
use Rattle.sw_region_ops.specs.Setting.{FunctionSetting, setting_of}
use Rattle.sw_solve.specs.Annotation.{value_at}
use Rattle.sw_cert_making.proofs.Bared.{least_is_bare}
use Rattle.sw_cert.proofs.Extents.{extent_for, extents_for, extent_at}
use Rattle.sw_cert.specs.Certificate.{IsLineOf, IsPairOf, AreClasses, AreLinesFrom}
use Rattle.sw_cert.specs.Certificate.{start, behind}
use Rattle.sw_cert.specs.Choices.{RisesTo}
use Rattle.sw_cert_making.specs.Printed.{IsLineBefore, IsLeastLine}
use Rattle.sw_cert.specs.Shown.{AreClassesOf}
use Rattle.sw_cert.specs.declared.line.Line.{Line}
use Rattle.sw_cert.specs.declared.line.Pair.{Pair}
use Rattle.sw_cert.specs.declared.line.Spot.{Spot}

all_by : {X : Type 0} (P : X → Type 0) (xs : List X) → ((x : X) → Contains xs x → P x)
    → AllByRecursion P xs
all_by P xs each = recursion_from_All P xs
    (λ k d within. each (get_or xs k d) (Contains-get_or xs k d within))

-- ---- the line of a state
shown_classes : (r : Regions) (classes : List ℕ) → AreClassesOf r classes → AreClasses classes
shown_classes r classes are = λ x lt.
    let within : x < length r.labels = omega (arith, lt, are.elements) in
    let with_least = are.class x within in
    let again = are.class (slice_index classes x) with_least.right in (
      are.least x x (itself r x within),
      between (slice_index classes (slice_index classes x)) (slice_index classes x)
          (are.least (slice_index classes x) (slice_index classes x)
          (itself r (slice_index classes x) with_least.right))
          (are.least x (slice_index classes (slice_index classes x))
          (along r x (slice_index classes x) (slice_index classes (slice_index classes x)) with_least
          again)),
    )
  where
    between : (a b : ℕ) → a ≤ b → b ≤ a → a ≡ b
    between a b first second = omega (arith, first, second)

pub state_size : (setting : FunctionSetting) (states : List (Option Regions))
    → (least : IsLeastOfFunction setting states) → (block : ℕ) (state : Regions)
    → value_at states block ≡ Some state
    → size_of state ≡ element_count setting.elements ∷ least.sites
state_size setting states least block state stands =
    size_at (facts_of (record { setting = setting; sites = least.sites })) (value_at states block)
    state stands (least.least.closed.sized block)

pub state_sites : (setting : FunctionSetting) (states : List (Option Regions))
    → IsLeastOfFunction setting states → (block : ℕ) (state : Regions)
    → value_at states block ≡ Some state → state.sites ≡ (some_sites setting).0
state_sites setting states least block state stands =
    tails (length state.labels) (element_count setting.elements) state.sites least.sites
    (state_size setting states least block state stands)
    ∙ sites_are_one setting least.sites (some_sites setting).0 least.fits.sites
    (some_sites setting).1
  where
    tails : (m n : ℕ) (xs ys : List ℕ) → m ∷ xs ≡ n ∷ ys → xs ≡ ys
    tails m n xs ys e = cc

state_elements : (setting : FunctionSetting) (states : List (Option Regions))
    → IsLeastOfFunction setting states → (block : ℕ) (state : Regions)
    → value_at states block ≡ Some state → length state.labels ≡ element_count setting.elements
state_elements setting states least block state stands =
    heads (length state.labels) (element_count setting.elements) state.sites least.sites
    (state_size setting states least block state stands)
  where
    heads : (m n : ℕ) (xs ys : List ℕ) → m ∷ xs ≡ n ∷ ys → m ≡ n
    heads m n xs ys e = cc

line_fits : (graph : Graph) (line : Line) → (is : IsLeastLine graph line)
    → IsLineOf (extent_for (setting_of graph is.body)) line
line_fits graph line is =
    let setting : FunctionSetting = setting_of graph is.body in
    let elements = state_elements setting is.states is.least line.block is.state is.stands in
    record {
      block = (is.least.least.closed.stepped line.block is.state is.stands).leads_to.0;
      elements = is.shows.classes.elements ∙ elements;
      classes = shown_classes is.state line.classes is.shows.classes;
      pairs = all_by (IsPairOf (extent_for setting)) line.pairs (λ pair has.
          let pair_is = (is.shows.pairs.same pair).0 has in record {
            not_here = λ e. least_is_bare (record { setting = setting; sites = is.least.sites })
                is.least.fits is.states is.least.least line.block is.state is.stands pair.site
                (subst (λ x. HasPair is.state x pair.site) e pair_is.1);
            element = subst (λ n. pair.element < n) elements pair_is.0;
            site = subst (λ sites. Contains sites pair.site)
                (state_sites setting is.states is.least line.block is.state is.stands)
                (is_site is.state pair pair_is.1);
          });
      rising = is.shows.pairs.rising;
    }
  where
    is_site : (r : Regions) (pair : Pair) → HasPair r pair.element pair.site
        → Contains r.sites pair.site
    is_site r pair has = (
      has.column,
      has.in_range,
      get_or_default r.sites has.column pair.site 0 has.in_range ∙ has.is_site,
    )

-- ---- lines that rise
lines_rise : (graph : Graph) (spot : Spot) (lines : List Line)
    → ((line : Line) → Contains lines line → IsLeastLine graph line)
    → ((line : Line) → Contains lines line → RisesTo spot line.function line.block)
    → AllPairs IsLineBefore lines → AreLinesFrom (extents_for graph) spot lines
lines_rise graph spot [] least from rising = tt
lines_rise graph spot (line ∷ lines) least from rising = (
  (let is = least line first in record {
    extent = extent_for (setting_of graph is.body);
    is_extent = extent_at graph line.function is.body is.is_body;
    fits = line_fits graph line is;
    rises = from line first;
  }),
  lines_rise graph (behind line) lines (λ other has. least other (later other has))
      (λ other has. onward other (before other has))
      (λ i j d lt within. rising (suc i) (suc j) d (omega (arith, lt)) (omega (arith, within))),
)
  where
    first : Contains (line ∷ lines) line
    first = (0, omega arith, refl)

    later : (other : Line) → Contains lines other → Contains (line ∷ lines) other
    later other (k, within, e) = (suc k, omega (arith, within), e)

    before : (other : Line) → Contains lines other → IsLineBefore line other
    before other (k, within, e) =
        subst (IsLineBefore line) e (rising 0 (suc k) other (omega arith) (omega (arith, within)))

    onward : (other : Line) → IsLineBefore line other
        → RisesTo (behind line) other.function other.block
    onward other (inl lt) = inl lt
    onward other (inr (e, lt)) = inr (e, omega (arith, lt))

pub are_lines : (graph : Graph) (lines : List Line)
    → ((line : Line) → Contains lines line → IsLeastLine graph line)
    → AllPairs IsLineBefore lines → AreLinesFrom (extents_for graph) start lines
are_lines graph lines least rising = lines_rise graph start lines least
    (λ line has. from_start line.function line.block) rising
  where
    from_start : (function block : ℕ) → RisesTo start function block
    from_start zero block = inr (refl, omega arith)
    from_start (suc function) block = inl (omega arith)
