-- What the top frame of a job holds, in a region state that says that it is live.
use Rattle.std.proofs.Common.{◌≡◌, ℕ, suc, false, Option, Some, None, List, Contains, sym, subst}
use Rattle.std.proofs.Common.{ap, ◌∙◌, arith}
use Rattle.std.specs.Option.{option_map}
use Rattle.std.specs.List.{slice_get}
use Rattle.sw_graph.specs.declared.function.Function.{Function}
use Rattle.sw_graph.specs.declared.graph.Graph.{Graph}
use Rattle.sw_value.specs.declared.frame.Frame.{Frame}
use Rattle.sw_value.specs.declared.state.State.{State}
use Rattle.sw_partition.specs.Regions.{Regions}
use Rattle.sw_region_ops.specs.Elements.{elements_of}
use Rattle.sw_owner_facts.specs.Colours.{Colour}
use Rattle.sw_owner_facts.specs.View.{Element, Here, Register, HoldsLive, InOneRegion, IsLive, View}
use Rattle.sw_owner_facts.specs.View.{Holds, above, Frame as Spot}
use Rattle.sw_region_facts.specs.FrameRegions.{LiveIn, TogetherIn, live_in, region_in}
use Rattle.sw_view_facts.specs.Changes.{HoldsIn}
use Rattle.sw_view_facts.specs.Views.{Colours, awaited_by, colours_by, elements_in, elements_with}
use Rattle.sw_view_facts.specs.Views.{frame_at, frame_under, function_of, here_at, closes_at}
use Rattle.sw_view_facts.specs.Views.{live_by, region_by, shape_by, shape_with, view_of}
use Rattle.sw_view_facts.specs.Steps.{height_in}

module _ (graph : Graph) (state : State) (colours : Colours) (q : Spot) (f : Frame)
    (function : Function) (frame_is : frame_at state q ≡ Some f)
    (function_is : slice_get graph.functions f.function ≡ Some function)
    (none_above : frame_at state (above q) ≡ None) (height : height_in state q.job ≡ suc q.depth)
    (goes_on : closes_at graph function f.point ≡ false) (regions : Spot → Option Regions)
    (c : Regions) (stands : regions q ≡ Some c) where
  abbrev pub meant : View
  meant = view_of graph regions state colours

  abbrev elements : List (Option ℕ)
  elements = elements_of graph.shapes function.regs

  elements_is : elements_in graph (frame_at state q) ≡ elements
  elements_is = ap (elements_in graph) frame_is ∙ ap (elements_with graph) function_is

  open_is : (meant.shape q).closing ≡ false
  open_is =
      ap (λ h. (shape_by graph (function_of graph (frame_under state q.job q.depth)) h).closing)
      frame_is
      ∙ ap (λ b. (shape_with graph (function_of graph (frame_under state q.job q.depth)) f b).closing)
      function_is
      ∙ goes_on

  live_is : (r : ℕ) → meant.live q r ≡ live_in elements c r
  live_is r = ap (λ l. live_by l (awaited_by state q) (regions q) r) elements_is
      ∙ ap (λ v. live_by elements v (regions q) r)
      (ap (option_map (λ (h : Frame). h.result)) none_above)
      ∙ ap (λ o. live_by elements None o r) stands

  region_is : (y : Element) → meant.region q y ≡ region_in elements c y
  region_is y = ap (λ l. region_by l (regions q) y) elements_is
      ∙ ap (λ o. region_by elements o y) stands

  pub one_region : (y z : Element) → TogetherIn elements c y z → InOneRegion meant q y z
  one_region y z together = region_is y ∙ together ∙ sym (region_is z)

  pub together_is : (y z : Element) → InOneRegion meant q y z → TogetherIn elements c y z
  together_is y z one = sym (region_is y) ∙ one ∙ region_is z

  pub holds_live : (y : Element) (colour : Colour) → LiveIn elements c y
      → HoldsIn state colours f (here_at colours q) y colour → HoldsLive meant q y colour
  holds_live y colour live holds = record {
    frame = omega (arith, height);
    not_closing = open_is;
    live = live_now y live;
    holds = holds_now y holds;
  }
    where
      live_now : (y : Element) → LiveIn elements c y → IsLive meant q y
      live_now Here live = tt
      live_now (Register r) live = live_is r ∙ live

      holds_now : (y : Element) → HoldsIn state colours f (here_at colours q) y colour
          → Holds meant q y colour
      holds_now Here holds = holds
      holds_now (Register r) holds =
          subst (λ h. Contains (colours_by state colours h r) colour) (sym frame_is) holds
