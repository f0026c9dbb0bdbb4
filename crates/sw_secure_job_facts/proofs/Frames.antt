-- Frames of a coloured state: each has a function and a region state.
use Rattle.std.proofs.Common.{◌≡◌, ◌≤◌, ◌+◌, ℕ, Option, Some, None, List, length, sym, subst}
use Rattle.std.proofs.Common.{ap, ◌∙◌, arith}
use Rattle.std.specs.List.{slice_get}
use Rattle.std.proofs.lemmas.Option.{slice_get_past}
use Rattle.sw_list.proofs.ListLemmas.{at_index}
use Rattle.sw_graph.specs.declared.function.Function.{Function}
use Rattle.sw_graph.specs.declared.graph.Graph.{Graph}
use Rattle.sw_graph.specs.Points.{Point}
use Rattle.sw_graph.specs.Limits.{IsWithinLimits}
use Rattle.sw_value.specs.declared.frame.Frame.{Frame}
use Rattle.sw_value.specs.declared.frame.TheConstants.{NO_REGISTER}
use Rattle.sw_value.specs.declared.job.Job.{Job}
use Rattle.sw_value.specs.declared.state.State.{State}
use Rattle.sw_solve.specs.Annotation.{value_at}
use Rattle.sw_partition.specs.Regions.{Regions}
use Rattle.sw_region_ops.specs.Elements.{elements_of}
use Rattle.sw_machine_kind_facts.specs.Standing.{FrameFits, Stands, awaited_at, awaited_in}
use Rattle.sw_machine_kind_facts.specs.Standing.{or_above}
use Rattle.sw_machine_kind_facts.proofs.OperandLemmas.{function_fits}
use Rattle.sw_machine_kind_facts.proofs.StackLemmas as stack
use Rattle.sw_machine_kind_facts.proofs.TopLemmas.{Executes}
use Rattle.sw_owner_facts.specs.View.{Element, InOneRegion, Frame as Spot}
use Rattle.sw_region_facts.specs.Annotated.{Annotates}
use Rattle.sw_region_facts.specs.FrameRegions.{TogetherIn, region_in}
use Rattle.sw_region_facts.proofs.Annotated.{reached_at}
use Rattle.sw_view_facts.specs.Standing.{StandsAt}
use Rattle.sw_view_facts.specs.Views.{Colours, annotated, elements_in, elements_with, frame_at}
use Rattle.sw_view_facts.specs.Views.{region_by, state_with, view_of}
use Rattle.sw_view_facts.proofs.TopLemmas.{frame_was}
use Rattle.sw_store_facts.specs.Sound.{IsColoured}
use Rattle.sw_store_facts.proofs.Bare.{fits_at}

-- a function has no register with the number of none
pub few_registers : (graph : Graph) (n : ℕ) (function : Function)
    → slice_get graph.functions n ≡ Some function → length function.regs ≤ NO_REGISTER
few_registers graph n function is =
    (at_index IsWithinLimits graph.functions n function graph.well_formed.limits is).registers

module _ (graph : Graph) (states : ℕ → List (Option Regions)) (state : State) (colours : Colours)
    (s : IsColoured graph states state colours) (p : Spot) (h : Frame)
    (there : frame_at state p ≡ Some h) where
  fits : (awaits : Option ℕ) × FrameFits graph s.kinded.world.cells awaits h
  fits = fits_at graph state s.kinded p h there

  pub function_at : (function : Function) × (slice_get graph.functions h.function ≡ Some function)
  function_at = (fits.1.function, fits.1.is)

  pub few_at : length h.regs ≤ NO_REGISTER
  few_at =
      let few = few_registers graph h.function fits.1.function fits.1.is in
      let slots = fits.1.stands.slots in
      let count = slots.count in
      omega (arith, few, count)

  pub state_at : (a : Regions) × (value_at (states h.function) h.point ≡ Some a)
      × (annotated states state p ≡ Some a)
  state_at =
      let here = reached_at graph fits.1.function (states h.function)
      (s.annotates h.function fits.1.function fits.1.is) h.point fits.1.stands.passed
      fits.1.stands.way in
      (here.0, here.1, ap (state_with states) there ∙ here.1)

-- what is in one region of a frame's view is together in its region state
pub together_at : (graph : Graph) (regions : Spot → Option Regions) (state : State)
    (colours : Colours) (p : Spot) (h : Frame) (function : Function) → frame_at state p ≡ Some h
    → slice_get graph.functions h.function ≡ Some function → (c : Regions) → regions p ≡ Some c
    → (x y : Element) → InOneRegion (view_of graph regions state colours) p x y
    → TogetherIn (elements_of graph.shapes function.regs) c x y
together_at graph regions state colours p h function there is c stands x y one =
    sym (region_is x) ∙ one ∙ region_is y
  where
    elements_is : elements_in graph (frame_at state p) ≡ elements_of graph.shapes function.regs
    elements_is = ap (elements_in graph) there ∙ ap (elements_with graph) is

    region_is : (z : Element) → (view_of graph regions state colours).region p z
        ≡ region_in (elements_of graph.shapes function.regs) c z
    region_is z = ap (λ l. region_by l (regions p) z) elements_is
        ∙ ap (λ o. region_by (elements_of graph.shapes function.regs) o z) stands

-- ---- the top frame of a running job
module _ (graph : Graph) (states : ℕ → List (Option Regions)) (state : State) (colours : Colours)
    (s : IsColoured graph states state colours) (q : Spot) (job : Job) (f : Frame)
    (function : Function) (point : Point) (x : StandsAt graph state q job f function point) where
  none_awaited : awaited_at job q.depth ≡ None
  none_awaited =
      ap (λ o. or_above o (awaited_in job.status))
      (slice_get_past job.frames (q.depth + 1) (let h = x.top.height in omega (arith, h)))
      ∙ ap awaited_in x.running

  pub fits_now : FrameFits graph s.kinded.world.cells None f
  fits_now = subst (λ o. FrameFits graph s.kinded.world.cells o f) none_awaited
      (stack.frame_at graph state s.kinded q.job q.depth job f x.top.there x.top.top)

  pub same_function : fits_now.function ≡ function
  same_function = let both : Some fits_now.function ≡ Some function = sym fits_now.is ∙ x.is in cc

  -- it has what its next instruction needs
  abbrev pub runs : Executes graph s.kinded.world state f
  runs = record {
    supplied = s.supplied;
    fits = s.kinded.fits;
    function = function;
    is = x.is;
    well = function_fits graph f.function function x.is;
    stands = subst (λ b. Stands graph.shapes s.kinded.world.cells b None f.point f.regs)
        same_function fits_now.stands;
  }

  pub annotates : Annotates graph function (states f.function)
  annotates = s.annotates f.function function x.is

  -- the region state at its point
  pub here : (a : Regions) × (value_at (states f.function) f.point ≡ Some a)
      × (annotated states state q ≡ Some a)
  here = state_at graph states state colours s q f (frame_was state q job f x.top)
