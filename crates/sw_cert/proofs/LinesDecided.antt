-- Whether the operations of a line's block pass, and whether its state is closed, can be decided.
use Rattle.std.proofs.Common.{◌≡◌, ℕ, ◌<◌, inl, inr, Option, Some, None, List, ◌∷◌, length}
use Rattle.std.proofs.Common.{refl, sym, subst, ap, ◌∙◌, arith}
use Rattle.std.proofs.lemmas.Option.{none-some, slice_get_within}
use Rattle.std.specs.List.{All, slice_get}
use Rattle.sw_graph.specs.declared.function.Function.{Function}
use Rattle.sw_graph.specs.declared.graph.Graph.{Graph}
use Rattle.sw_partition.specs.Regions.{Regions, size_of, IsWithin}
use Rattle.sw_region_flow.proofs.Deciding.{Decided, both_decided}
use Rattle.sw_region_flow.proofs.Doing.{some_run}
use Rattle.sw_region_flow.proofs.Flows.{body_fits}
use Rattle.sw_region_flow.proofs.Places.{element_at}
use Rattle.sw_region_flow.proofs.Same.{copy_same}
use Rattle.sw_region_flow.specs.Analysis.{block_ops_at, targets_at}
use Rattle.sw_region_flow.specs.Passing.{AllPass}
use Rattle.sw_region_flow.specs.Walks.{IsCopy}
use Rattle.sw_region_ops.specs.Elements.{element_count}
use Rattle.sw_region_ops.specs.Runs.{Runs, Fits}
use Rattle.sw_region_ops.specs.Setting.{setting_of}
use Rattle.sw_region_ops.specs.Sites.{AreSites}
use Rattle.sw_solve.specs.Annotation.{value_at, IsBelow}
use Rattle.sw_cert.proofs.Copies.{passes_at, closed_at, closed_not}
use Rattle.sw_cert.proofs.Decisions.{each_member, of_option}
use Rattle.sw_cert.proofs.OpsDecided.{ops_fit_at, tell_ops}
use Rattle.sw_cert.proofs.RegionsDecided.{tell_below}
use Rattle.sw_cert.proofs.ShownLines.{line_of}
use Rattle.sw_cert.specs.Reading.{IsReading, IsStated, states_of}
use Rattle.sw_cert.specs.Tests.{IsAllBelow}
use Rattle.sw_cert.specs.Verified.{Annotations, PassesAt, ClosedAt, LinePasses, LineIsClosed}
use Rattle.sw_cert.specs.Verified.{Holds}
use Rattle.sw_cert.specs.declared.line.Line.{Line}

-- what stands at a block is the state that a line shows, over these sites
pub record IsStateOf (graph : Graph) (lines : List Line) (function : ℕ) (body : Function)
    (sites : List ℕ) (block : ℕ) (state : Regions) : Type 0 where
  pub sized : size_of state ≡ element_count (setting_of graph body).elements ∷ sites
  pub there : block < length body.blocks
  pub stated : IsStated lines function block state

-- so it is at each block of a function, over the sites at which it gives elements away
pub record AreStatesOf (graph : Graph) (lines : List Line) (annotations : Annotations)
    (function : ℕ) (body : Function) : Type 0 where
  pub sites : List ℕ
  pub are_sites : AreSites (setting_of graph body) sites
  pub each : (block : ℕ) (state : Regions)
      → value_at (states_of annotations function) block ≡ Some state
      → IsStateOf graph lines function body sites block state

module _ (graph : Graph) (bytes : List ℕ) (lines : List Line) (annotations : Annotations)
    (reading : IsReading graph bytes lines annotations) where
  pub states_fit : (function : ℕ) (body : Function) → slice_get graph.functions function ≡ Some body
      → AreStatesOf graph lines annotations function body
  states_fit function body is =
      let extent = element_at reading.extents function
      (let h = slice_get_within graph.functions function body is in
      omega (arith, h, reading.are_extents.count)) in
      let of = reading.are_extents.each function body extent.0 is extent.1 in
      let are = reading.are_stated function extent.0 extent.1 in
      record {
        sites = extent.0.sites;
        are_sites = of.sites;
        each = λ block state at.
            let by = are.stated block state at in
            let fits = line_of reading.extents lines by.line function extent.0
            reading.is_certificate.are_lines by.is_line by.function_is extent.1 in
            record {
              sized = ap (λ n. n ∷ state.sites)
                  (sym by.shows.classes.elements ∙ fits.elements ∙ of.elements)
                  ∙ ap (λ ss. element_count (setting_of graph body).elements ∷ ss)
                  (are.sites block state at);
              there = omega (arith, fits.block, by.block_is, of.blocks);
              stated = by;
            };
      }

  -- the operations of a block can be done in the state that stands there
  module _ (function : ℕ) (body : Function) (is : slice_get graph.functions function ≡ Some body)
      (block : ℕ) (state : Regions)
      (at : value_at (states_of annotations function) block ≡ Some state) where
    ops_fit_here : All (Fits (size_of state)) (block_ops_at (setting_of graph body) block)
    ops_fit_here =
        let are = states_fit function body is in
        let here = are.each block state at in
        subst (λ f. All (Fits f) (block_ops_at (setting_of graph body) block)) (sym here.sized)
        (ops_fit_at (record { setting = setting_of graph body; sites = are.sites })
        (body_fits graph function body are.sites is are.are_sites) block here.there)

    runs_here : (made : Regions) × Runs (block_ops_at (setting_of graph body) block) state made
    runs_here = some_run (block_ops_at (setting_of graph body) block) state ops_fit_here

    passes_here : Decided ((copied : Regions) → IsCopy state copied
        → AllPass (block_ops_at (setting_of graph body) block) copied)
    passes_here =
        by (tell_ops (block_ops_at (setting_of graph body) block) state runs_here.0 runs_here.1)
      where
        by : Decided (AllPass (block_ops_at (setting_of graph body) block) state)
            → Decided ((copied : Regions) → IsCopy state copied
            → AllPass (block_ops_at (setting_of graph body) block) copied)
        by (inl passes) = inl (λ copied copy.
            passes_at (setting_of graph body) (states_of annotations function) block state state
            runs_here.0 at (copy_same state) runs_here.1 passes state copied at copy)
        by (inr fails) = inr (λ all. fails (all state (copy_same state)))

    closed_here : Decided (ClosedAt (setting_of graph body) (states_of annotations function) block)
    closed_here = by (each_member
        (λ next. IsBelow IsWithin runs_here.0 (value_at (states_of annotations function) next))
        (λ next. tell_below runs_here.0 (value_at (states_of annotations function) next))
        (targets_at body.blocks block))
      where
        by : Decided (IsAllBelow runs_here.0 (states_of annotations function)
            (targets_at body.blocks block))
            → Decided (ClosedAt (setting_of graph body) (states_of annotations function) block)
        by (inl below) = inl (closed_at (setting_of graph body) (states_of annotations function)
            block state state runs_here.0 at (copy_same state) runs_here.1 below)
        by (inr gap) = inr (closed_not (setting_of graph body) (states_of annotations function)
            block state state runs_here.0 at (copy_same state) runs_here.1 gap)

  pub tell_passes : (line : Line) → Decided (LinePasses graph annotations line)
  tell_passes line = of_option
      (λ body. PassesAt (setting_of graph body) (states_of annotations line.function) line.block)
      (slice_get graph.functions line.function) (λ body is. turned body (of_option
      (λ state. (copied : Regions) → IsCopy state copied
      → AllPass (block_ops_at (setting_of graph body) line.block) copied)
      (value_at (states_of annotations line.function) line.block)
      (λ state at. passes_here line.function body is line.block state at)))
    where
      turned : (body : Function)
          → Decided ((state : Regions)
          → value_at (states_of annotations line.function) line.block ≡ Some state
          → (copied : Regions) → IsCopy state copied
          → AllPass (block_ops_at (setting_of graph body) line.block) copied)
          → Decided (PassesAt (setting_of graph body) (states_of annotations line.function)
          line.block)
      turned body (inl all) = inl (λ state copied at copy. all state at copied copy)
      turned body (inr non) = inr (λ all. non (λ state at copied copy. all state copied at copy))

  pub tell_closed : (line : Line) → Decided (LineIsClosed graph annotations line)
  tell_closed line = of_option
      (λ body. ClosedAt (setting_of graph body) (states_of annotations line.function) line.block)
      (slice_get graph.functions line.function) (λ body is. at body is
      (value_at (states_of annotations line.function) line.block) refl)
    where
      at : (body : Function) → slice_get graph.functions line.function ≡ Some body
          → (o : Option Regions)
          → value_at (states_of annotations line.function) line.block ≡ o
          → Decided (ClosedAt (setting_of graph body) (states_of annotations line.function)
          line.block)
      at body is None e = inl (λ state stands. absurd (none-some state (sym e ∙ stands)))
      at body is (Some state) e = closed_here line.function body is line.block state e

  pub tell_holds : (line : Line) → Decided (Holds graph annotations line)
  tell_holds line = both_decided (tell_passes line) (tell_closed line)
