-- The certificate that is made for a graph without region breaches is accepted.
use Rattle.std.proofs.Common.{◌≡◌, ℕ, ◌<◌, inl, inr, Option, Some}
use Rattle.std.proofs.Common.{IsSome, List, [], ◌∷◌, length, slice_index_or, Contains}
use Rattle.std.proofs.Common.{refl, sym, subst, ap, ◌∙◌}
use Rattle.std.proofs.lemmas.Option.{same_Some, slice_get_within}
use Rattle.std.specs.List.{slice_get}
use Rattle.sw_graph.specs.declared.function.Function.{Function}
use Rattle.sw_graph.specs.declared.graph.Graph.{Graph}
use Rattle.sw_partition.specs.Laws.{within_both}
use Rattle.sw_partition.specs.Regions.{Regions}
use Rattle.sw_region_flow.proofs.Deciding.{Decided}
use Rattle.sw_region_flow.proofs.Exact.{breaches_are, stands_above, at_some}
use Rattle.sw_region_flow.proofs.OneSites.{sites_are_one, no_member}
use Rattle.sw_region_flow.proofs.Passing.{pass_if_none}
use Rattle.sw_region_flow.proofs.Places.{element_at}
use Rattle.sw_region_flow.specs.Analysis.{Analysis, IsLeastOfFunction, layout}
use Rattle.sw_region_flow.specs.Analysis.{block_ops_at}
use Rattle.sw_region_flow.specs.Breaches.{AreBreaches}
use Rattle.sw_region_flow.specs.Certified.{IsCertified}
use Rattle.sw_region_flow.specs.Walks.{IsCopy}
use Rattle.sw_region_ops.specs.Elements.{element_count}
use Rattle.sw_region_ops.specs.Setting.{FunctionSetting, setting_of}
use Rattle.sw_solve.specs.Annotation.{value_at, IsAtMostEverywhere}
use Rattle.sw_solve.specs.Layout.{IsLeastOfBlocks}
use Rattle.sw_partition.specs.Regions.{IsWithin}
use Rattle.sw_cert_making.proofs.Bared.{bounds, least_is_reached}
use Rattle.sw_cert_making.proofs.LeastLines.{are_lines, state_sites, state_size}
use Rattle.sw_cert_making.specs.Printed.{HasLineOf, IsLeastCertificate, IsLeastLine}
use Rattle.sw_cert.proofs.Extents.{are_extents, body_at, extent_for, extents_for}
use Rattle.sw_cert.proofs.Listed.{listed}
use Rattle.sw_cert.proofs.ShownLines.{find_line}
use Rattle.sw_cert.specs.Reading.{AreStated, IsReading, IsStated, states_of}
use Rattle.sw_cert.specs.Shown.{Shows}
use Rattle.sw_cert.specs.Verified.{IsAccepted}
use Rattle.sw_cert.specs.declared.line.Line.{Line}

-- ---- a line that shows a state shows each copy of it
pub shows_copy : (line : Line) (a b : Regions) → IsCopy a b → Shows line a → Shows line b
shows_copy line a b copy shows = record {
  classes = record {
    elements = shows.classes.elements ∙ sym elements;
    class = λ x lt. (copy.same.together x _).0
        (shows.classes.class x (subst (λ n. x < n) elements lt));
    least = λ x y t. shows.classes.least x y ((copy.same.together x y).1 t);
  };
  pairs = record {
    same = λ pair. (
      λ has. let h = (shows.pairs.same pair).0 has in
          (subst (λ n. pair.element < n) (sym elements) h.0, (copy.same.pairs _ _).0 h.1),
      λ (lt, has). (shows.pairs.same pair).1
          (subst (λ n. pair.element < n) elements lt, (copy.same.pairs _ _).1 has),
    );
    rising = shows.pairs.rising;
  };
}
  where
    heads : (m n : ℕ) (xs ys : List ℕ) → m ∷ xs ≡ n ∷ ys → m ≡ n
    heads m n xs ys e = cc

    elements : length b.labels ≡ length a.labels
    elements = heads (length b.labels) (length a.labels) b.sites a.sites copy.sized

-- ---- a function has one least annotation, up to copies
abbrev analysis_by : FunctionSetting → List ℕ → Analysis
analysis_by setting sites = record { setting = setting; sites = sites }

lowest_of_two : (setting : FunctionSetting) (s t : List (Option Regions))
    → IsLeastOfFunction setting s → IsLeastOfFunction setting t
    → IsAtMostEverywhere IsWithin s t
lowest_of_two setting s t first second =
    first.least.lowest t (bounds (analysis_by setting first.sites) first.fits t (subst
    (λ sites. IsLeastOfBlocks (layout (analysis_by setting sites)) t)
    (sites_are_one setting second.sites first.sites second.fits.sites first.fits.sites)
    second.least))

pub one_least : (setting : FunctionSetting) (s t : List (Option Regions))
    → IsLeastOfFunction setting s → IsLeastOfFunction setting t → (block : ℕ) (x : Regions)
    → value_at s block ≡ Some x → (y : Regions) × (value_at t block ≡ Some y) × IsCopy y x
one_least setting s t first second block x stands =
    let up = lowest_of_two setting s t first second in
    let down = lowest_of_two setting t s second first in
    let y = stands_above (value_at t block) x
    (at_some (value_at s block) (value_at t block) x stands (up.each block)) in
    let back = stands_above (value_at s block) y.0
    (at_some (value_at t block) (value_at s block) y.0 y.1 (down.each block)) in (
      y.0,
      y.1,
      record {
        same = within_both y.0 x
            (subst (IsWithin y.0) (same_Some back.0 x (sym back.1 ∙ stands)) back.2) y.2;
        sized = state_size setting s first block x stands
            ∙ ap (λ sites. element_count setting.elements ∷ sites)
            (sites_are_one setting first.sites second.sites first.fits.sites second.fits.sites)
            ∙ sym (state_size setting t second block y.0 y.1);
      },
    )

-- ---- whether lines have one of a block
pub tell_line : (lines : List Line) (function block : ℕ) → Decided (HasLineOf lines function block)
tell_line lines function block = by (find_line lines function block)
  where
    by : Decided ((line : Line) × Contains lines line
        × ((line.function ≡ function) × (line.block ≡ block)))
        → Decided (HasLineOf lines function block)
    by (inl (line, has, of)) =
        inl (record { line = line; is_line = has; function_is = of.0; block_is = of.1 })
    by (inr none) =
        inr (λ has. none (has.line, has.is_line, (has.function_is, has.block_is)))

-- ---- the certificate
module _ (graph : Graph) (text : List ℕ) (made : IsLeastCertificate graph text) where
  abbrev IsFor : ℕ → List (Option Regions) → Type 0
  IsFor number states = (body : Function) → slice_get graph.functions number ≡ Some body
      → IsLeastOfFunction (setting_of graph body) states

  -- block 0 of each function has a line
  some_states : (number : ℕ) → number < length graph.functions
      → (states : List (Option Regions)) × IsFor number states
  some_states number within =
      let body = element_at graph.functions number within in
      let has = made.all number body.0 0 body.1 (0, refl) in
      let is = made.least has.line has.is_line in (
        is.states,
        λ other at. subst (λ (b : Function). IsLeastOfFunction (setting_of graph b) is.states)
            (same_Some is.body other
            (sym is.is_body ∙ ap (slice_get graph.functions) has.function_is ∙ at)) is.least,
      )

  annotations : (all : List (List (Option Regions))) × (length all ≡ length graph.functions)
      × ((k : ℕ) (d : List (Option Regions)) → k < length graph.functions
      → IsFor k (slice_index_or all k d))
  annotations = listed IsFor (length graph.functions) some_states

  are_stated : (number : ℕ) (body : Function) (states : List (Option Regions))
      → slice_get graph.functions number ≡ Some body
      → IsLeastOfFunction (setting_of graph body) states
      → AreStated (extent_for (setting_of graph body)) made.lines number states
  are_stated number body states at least = record {
    sites = λ block state stands.
        state_sites (setting_of graph body) states least block state stands;
    stated = λ block state stands. by block state stands (tell_line made.lines number block);
    all = λ line has function_is.
        let is = made.least line has in
        let other = one_least (setting_of graph body) is.states states (least_of line is function_is)
        least line.block is.state is.stands in
        some_is other.0 (value_at states line.block) other.1;
  }
    where
      least_of : (line : Line) → (is : IsLeastLine graph line) → line.function ≡ number
          → IsLeastOfFunction (setting_of graph body) is.states
      least_of line is function_is =
          subst (λ (b : Function). IsLeastOfFunction (setting_of graph b) is.states)
          (same_Some is.body body
          (sym is.is_body ∙ ap (slice_get graph.functions) function_is ∙ at)) is.least

      some_is : (x : Regions) (o : Option Regions) → o ≡ Some x → IsSome o
      some_is x o e = cc

      by : (block : ℕ) (state : Regions) → value_at states block ≡ Some state
          → Decided (HasLineOf made.lines number block) → IsStated made.lines number block state
      by block state stands (inl has) =
          let is = made.least has.line has.is_line in
          let other = one_least (setting_of graph body) states is.states least
          (least_of has.line is has.function_is) block state stands in
          let here = same_Some is.state other.0
          (sym is.stands ∙ ap (value_at is.states) has.block_is ∙ other.1) in record {
            line = has.line;
            is_line = has.is_line;
            function_is = has.function_is;
            block_is = has.block_is;
            shows = shows_copy has.line other.0 state other.2
                (subst (Shows has.line) here is.shows);
          }
      by block state stands (inr none) = absurd (least_is_reached
          (record { setting = setting_of graph body; sites = least.sites }) least.fits states
          least.least block state stands (λ way. none (made.all number body block at way)))

  reading : IsReading graph text made.lines annotations.0
  reading = record {
    extents = extents_for graph;
    are_extents = are_extents graph;
    is_certificate = record {
      are_lines = are_lines graph made.lines made.least made.rising;
      spelled = made.spelled;
    };
    are_stated = λ number extent at.
        let w = body_at graph number extent at in
        subst (λ e. AreStated e made.lines number (states_of annotations.0 number)) (sym w.2)
        (are_stated number w.0 (states_of annotations.0 number) w.1
        (annotations.2 number [] (slice_get_within graph.functions number w.0 w.1) w.0 w.1));
  }

  module _ (none : AreBreaches graph []) where
    certified : (number : ℕ) (body : Function) (states : List (Option Regions))
        → slice_get graph.functions number ≡ Some body
        → IsLeastOfFunction (setting_of graph body) states
        → IsCertified (setting_of graph body) states
    certified number body states at least = record {
      sites = least.sites;
      are_sites = least.fits.sites;
      closed = least.least.closed;
      passes = λ block state copied stands copy.
          let tells = pass_if_none (block_ops_at (setting_of graph body) block) copied []
          (λ breach. (
            λ has. inl has,
            λ found. elim found [
              | inl has ↦ has
              | inr fails ↦ (let kept = none.complete breach (record {
                number = number;
                body = body;
                is_body = at;
                breaks = (breaches_are
                    (record { setting = setting_of graph body; sites = least.sites }) least.fits
                    states least.least breach).1 (
                      block,
                      record {
                        state = state;
                        stands = stands;
                        copied = copied;
                        is_copy = copy;
                        fails = fails;
                      },
                    );
              }) in absurd (no_member kept.0 kept.1))
            ],
          )) in tells.0 refl;
    }

    pub is_accepted : IsAccepted graph text
    is_accepted = record {
      lines = made.lines;
      annotations = annotations.0;
      is_reading = reading;
      certified = λ number body at. certified number body (states_of annotations.0 number) at
          (annotations.2 number [] (slice_get_within graph.functions number body at) body at);
    }
