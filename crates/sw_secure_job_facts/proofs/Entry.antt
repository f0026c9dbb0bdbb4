-- A frame that begins with values none of which is sent to it: it holds what they reach, all of it
-- with `Here`.
use Rattle.std.specs.Option.{option_map_or}
use Rattle.std.specs.List.{slice_get}
use Rattle.std.proofs.Common.{◌≡◌, ◌⊎◌, ℕ, Option, Some, None, List, [], length}
use Rattle.std.proofs.Common.{Contains, refl, sym, subst, ap, ◌∙◌, inl, inr}
use Rattle.sw_list.proofs.Members.{member_at, none_in}
use Rattle.sw_graph.specs.declared.function.Function.{Function}
use Rattle.sw_graph.specs.declared.graph.Graph.{Graph}
use Rattle.sw_value.specs.declared.frame.Frame.{Frame}
use Rattle.sw_value.specs.declared.state.State.{State}
use Rattle.sw_value.specs.declared.value.Value.{Value}
use Rattle.sw_value.specs.Value.{registers, value_at}
use Rattle.sw_partition.specs.Regions.{Regions}
use Rattle.sw_region_ops.specs.Elements.{element_at, elements_of}
use Rattle.sw_owner_facts.specs.Colours.{Colour}
use Rattle.sw_owner_facts.specs.View.{Element, Here, HoldsLive, InOneRegion, Register, View}
use Rattle.sw_owner_facts.specs.View.{Frame as Spot}
use Rattle.sw_region_facts.specs.FrameRegions.{TogetherIn, region_in}
use Rattle.sw_reach_facts.specs.Reached.{colours_of}
use Rattle.sw_view_facts.specs.Views.{Colours, colours_by, elements_in, elements_with, frame_at}
use Rattle.sw_view_facts.specs.Views.{here_at, region_by, view_of}
use Rattle.sw_view_facts.proofs.EntryLemmas.{given_value}

-- Frame t at q begins with these values, and its parameters are in the region of `Here`.
pub record BeginsLent (graph : Graph) (regions : Spot → Option Regions) (state : State)
    (colours : Colours) (q : Spot) (t : Frame) (callee : Function) (values : List Value)
    (e : Regions) : Type 0 where
  pub there : frame_at state q ≡ Some t
  pub is : slice_get graph.functions t.function ≡ Some callee
  pub regs : t.regs ≡ registers (length callee.regs) values
  pub stands : regions q ≡ Some e
  pub with_here : (k x : ℕ) (v : Value) → slice_get values k ≡ Some v
      → element_at (elements_of graph.shapes callee.regs) k ≡ Some x
      → TogetherIn (elements_of graph.shapes callee.regs) e (Register k) Here
  -- what isn't tracked reaches nothing
  pub bare : (k : ℕ) (v : Value) (d : Colour) → slice_get values k ≡ Some v
      → element_at (elements_of graph.shapes callee.regs) k ≡ None
      → Contains (colours_of state.cells colours.cells v) d → ⊥

module _ (graph : Graph) (regions : Spot → Option Regions) (state : State) (colours : Colours)
    (q : Spot) (t : Frame) (callee : Function) (values : List Value) (e : Regions)
    (x : BeginsLent graph regions state colours q t callee values e) where
  abbrev w : View
  w = view_of graph regions state colours

  abbrev elements : List (Option ℕ)
  elements = elements_of graph.shapes callee.regs

  -- what a register holds comes from a value
  record FromValue (r : ℕ) (d : Colour) : Type 0 where
    value : Value
    at : slice_get values r ≡ Some value
    has : Contains (colours_of state.cells colours.cells value) d

  from_value : (r : ℕ) (d : Colour) → Contains (w.colours q r) d → FromValue r d
  from_value r d has = by (value_at t.regs r) refl
      (subst (λ l. Contains l d) (ap (λ o. colours_by state colours o r) x.there) has) where
        by : (o : Option Value) → value_at t.regs r ≡ o
            → Contains (option_map_or (colours_of state.cells colours.cells) o []) d
            → FromValue r d
        by None e has = absurd (none_in d has)
        by (Some v) is has = record {
          value = v;
          at = given_value (length callee.regs) values r v
              (sym (ap (λ l. value_at l r) x.regs) ∙ is);
          has = has;
        }

  -- it holds the colour of its `Here`, and those that values reach
  pub holds_given : (y : Element) (d : Colour) → HoldsLive w q y d → (here_at colours q ≡ d)
      ⊎ ((v : Value) × Contains values v × Contains (colours_of state.cells colours.cells v) d)
  holds_given Here d h = inl h.holds
  holds_given (Register r) d h = let from = from_value r d h.holds in
      inr (from.value, member_at values r from.value from.at, from.has)

  region_is : (y : Element) → w.region q y ≡ region_in elements e y
  region_is y = ap (λ o. region_by (elements_in graph o) (regions q) y) x.there
      ∙ ap (λ f. region_by (elements_with graph f) (regions q) y) x.is
      ∙ ap (λ s. region_by elements s y) x.stands

  held_with_here : (y : Element) (d : Colour) → HoldsLive w q y d → InOneRegion w q y Here
  held_with_here Here d h = refl
  held_with_here (Register r) d h =
      let from = from_value r d h.holds in
      region_is (Register r)
      ∙ by (element_at elements r) refl from.value from.at from.has
      ∙ sym (region_is Here)
    where
      by : (o : Option ℕ) → element_at elements r ≡ o → (v : Value) → slice_get values r ≡ Some v
          → Contains (colours_of state.cells colours.cells v) d
          → TogetherIn elements e (Register r) Here
      by None none v at has = absurd (x.bare r v d at none has)
      by (Some k) is v at has = x.with_here r k v at is

  -- and all that it holds is in one region
  pub holds_together : (y z : Element) (d : Colour) → HoldsLive w q y d → HoldsLive w q z d
      → InOneRegion w q y z
  holds_together y z d h k = held_with_here y d h ∙ sym (held_with_here z d k)
