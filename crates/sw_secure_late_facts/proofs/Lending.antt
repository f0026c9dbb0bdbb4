-- A frame that hasn't begun: what it was lent is with its `Here`. And the number of the actor on
-- which
-- a frame is to run.
use Rattle.std.proofs.Common.{◌≡◌, ◌<◌, ℕ, false, Option, Some, None, List, [], Contains, refl, sym}
use Rattle.std.proofs.Common.{subst}
use Rattle.std.proofs.Common.{ap, ◌∙◌}
use Rattle.std.specs.List.{slice_get}
use Rattle.std.specs.Option.{option_map_or}
use Rattle.sw_list.proofs.ListLemmas.{some_injective}
use Rattle.sw_list.proofs.Members.{none_in}
use Rattle.sw_graph.specs.declared.function.Function.{Function}
use Rattle.sw_graph.specs.declared.graph.Graph.{Graph}
use Rattle.sw_value.specs.declared.executor.Executor.{Executor}
use Rattle.sw_value.specs.declared.executor.Executor.TheVariants as executor
use Rattle.sw_value.specs.declared.frame.Frame.{Frame}
use Rattle.sw_value.specs.declared.state.State.{State}
use Rattle.sw_value.specs.declared.value.Value.{Value}
use Rattle.sw_value.specs.Value.{value_at}
use Rattle.sw_solve.specs.Annotation as annotation
use Rattle.sw_color_rules.specs.declared.colors.Colors.{Colors}
use Rattle.sw_color_rules.specs.Plans.{next_color, number_on}
use Rattle.sw_partition.specs.Regions.{Regions}
use Rattle.sw_region_ops.specs.Elements.{element_at, elements_of}
use Rattle.sw_owner_facts.specs.Colours.{Actor, Colour, GlobalActor, Instance, OfActor}
use Rattle.sw_owner_facts.specs.View.{Element, Here, InOneRegion, Register, View, Frame as Spot}
use Rattle.sw_region_facts.specs.FrameRegions.{TogetherIn, region_in}
use Rattle.sw_region_facts.proofs.Annotated.{lent_here}
use Rattle.sw_reach_facts.specs.Reached.{colours_of}
use Rattle.sw_view_facts.specs.Views.{Colours, colours_by, elements_in, elements_with, frame_at}
use Rattle.sw_view_facts.specs.Views.{region_by, state_with, view_at}
use Rattle.sw_store_facts.proofs.Bare.{untracked_bare}
use Rattle.sw_late_facts.specs.Hues.{hue}
use Rattle.sw_secure_facts.specs.Painting.{actor_on}
use Rattle.sw_secure_facts.specs.Secure.{IsSecure}
use Rattle.sw_secure_late_facts.proofs.Begun.{HasNumber}

-- the actor on which a frame is to run has this number
pub record IsNumbered (colors : Colors) (on : Executor) (n : ℕ) : Type 0 where
  pub actor : Actor
  pub is_on : actor_on on ≡ Some actor
  pub below : n < next_color colors
  pub hue_is : hue colors.palette n ≡ OfActor actor

pub numbered_on : (colors : Colors) (on : Executor) → HasNumber colors on → (n : ℕ)
    → number_on colors on ≡ Some n → IsNumbered colors on n
numbered_on colors executor.Generic has n is = cc
numbered_on colors (executor.ActorOf c) has n is =
    let number = has (Instance c) refl in
    let same : number.0 ≡ n = some_injective (sym number.1 ∙ is) in
    record {
      actor = Instance c;
      is_on = refl;
      below = subst (λ k. k < next_color colors) same number.2;
      hue_is = ap (hue colors.palette) (sym same) ∙ number.3;
    }
numbered_on colors (executor.Global g) has n is =
    let number = has (GlobalActor g) refl in
    let same : number.0 ≡ n = some_injective (sym number.1 ∙ is) in
    record {
      actor = GlobalActor g;
      is_on = refl;
      below = subst (λ k. k < next_color colors) same number.2;
      hue_is = ap (hue colors.palette) (sym same) ∙ number.3;
    }

module _ (graph : Graph) (states : ℕ → List (Option Regions)) (state : State) (colours : Colours)
    (s : IsSecure graph states state colours) (p : Spot) (h : Frame) (body : Function) (e : Regions)
    (there : frame_at state p ≡ Some h) (is : slice_get graph.functions h.function ≡ Some body)
    (entry : h.point ≡ 0) (stands : annotation.value_at (states h.function) 0 ≡ Some e) where
  abbrev w : View
  w = view_at graph states state colours

  abbrev es : List (Option ℕ)
  es = elements_of graph.shapes body.regs

  regions_are : state_with states (frame_at state p) ≡ Some e
  regions_are = ap (state_with states) there ∙ ap (annotation.value_at (states h.function)) entry
      ∙ stands

  region_is : (y : Element) → w.region p y ≡ region_in es e y
  region_is y = ap (λ o. region_by (elements_in graph o) (state_with states (frame_at state p)) y)
      there
      ∙ ap (λ f. region_by (elements_with graph f) (state_with states (frame_at state p)) y) is
      ∙ ap (λ o. region_by es o y) regions_are

  -- what a register holds, it holds by its value
  pub holds_by : (r : ℕ) (c : Colour) → Contains (w.colours p r) c
      → (v : Value) × (value_at h.regs r ≡ Some v) × Contains
      (colours_of state.cells colours.cells v) c
  holds_by r c has = by (value_at h.regs r) refl
      (subst (λ o. Contains (colours_by state colours o r) c) there has) where
        by : (o : Option Value) → value_at h.regs r ≡ o
            → Contains (option_map_or (colours_of state.cells colours.cells) o []) c
            → (v : Value) × (value_at h.regs r ≡ Some v)
            × Contains (colours_of state.cells colours.cells v) c
        by None at has = absurd (none_in c has)
        by (Some v) at has = (v, at, has)

  -- what it was lent is with `Here`
  pub lent_with_here : (r : ℕ) (c : Colour) → Contains (w.colours p r) c
      → slice_get body.sending r ≡ Some false → InOneRegion w p (Register r) Here
  lent_with_here r c has keeps =
      region_is (Register r) ∙ by (element_at es r) refl ∙ sym (region_is Here) where
        by : (o : Option ℕ) → element_at es r ≡ o → TogetherIn es e (Register r) Here
        by None none = absurd (untracked_bare graph s.coloured.clean state s.coloured.kinded colours
            s.coloured.have p h there body is r none c
            (subst (λ o. Contains (colours_by state colours o r) c) there has))
        by (Some k) at = lent_here graph body (states h.function)
            (s.coloured.annotates h.function body is) e stands r k keeps at
