-- What a frame holds where it begins: the values that it takes, whose colours are that of its
-- `Here` where it is lent them.
use Rattle.std.specs.Option.{option_map, option_map_or, option_and_then}
use Rattle.std.specs.List.{slice_get}
use Rattle.std.proofs.Common.{◌≡◌, ℕ, zero, suc, ◌-◌, Option, Some, None, List, [], length, map}
use Rattle.std.proofs.Common.{Contains, refl, sym, subst, ap, ◌∙◌, arith, inl, inr, replicate}
use Rattle.std.proofs.lemmas.Bool.{cases_lt}
use Rattle.std.proofs.lemmas.List.{length-map}
use Rattle.std.proofs.lemmas.Option.{slice_get-map}
use Rattle.sw_list.proofs.Members.{none_in, member_at}
use Rattle.sw_list.proofs.ListLemmas.{slice_get_first, slice_get_second}
use Rattle.sw_graph.specs.declared.function.Function.{Function}
use Rattle.sw_graph.specs.declared.graph.Graph.{Graph}
use Rattle.sw_value.specs.declared.frame.Frame.{Frame}
use Rattle.sw_value.specs.declared.state.State.{State}
use Rattle.sw_value.specs.declared.value.Value.{Value}
use Rattle.sw_value.specs.Value.{value_at, registers}
use Rattle.sw_partition.specs.Regions.{Regions}
use Rattle.sw_region_ops.specs.Elements.{elements_of, element_at}
use Rattle.sw_owner_facts.specs.Colours.{Colour}
use Rattle.sw_owner_facts.specs.View.{Element, Here, Register, View, HoldsLive, InOneRegion}
use Rattle.sw_owner_facts.specs.View.{Frame as Spot}
use Rattle.sw_region_facts.specs.FrameRegions.{TogetherIn, region_in}
use Rattle.sw_reach_facts.specs.Reached.{colours_of}
use Rattle.sw_view_facts.specs.Views.{Colours, view_of, colours_by, elements_in, elements_with}
use Rattle.sw_view_facts.specs.Views.{region_by}
use Rattle.sw_view_facts.specs.Entering.{TakesLent}

none_there : (n k : ℕ) (v : Value)
    → option_and_then (λ (o : Option Value). o) (slice_get (replicate n None) k) ≡ Some v → ⊥
none_there zero k v e = cc
none_there (suc n) zero v e = cc
none_there (suc n) (suc k) v e = none_there n k v e

-- the value of a register at the start is one of those that are given
pub given_value : (n : ℕ) (values : List Value) (r : ℕ) (v : Value)
    → value_at (registers n values) r ≡ Some v → slice_get values r ≡ Some v
unfolding registers
given_value n values r v e = elim (cases_lt r (length values)) [
  | inl lt ↦ by (slice_get values r) refl
      (sym (ap (option_and_then (λ (o : Option Value). o))
      (slice_get_first (map Some values) (replicate (n - length values) None) r
      (let m = length-map values Some in omega (arith, m, lt)) ∙ slice_get-map Some values r)) ∙ e)
  | inr past ↦ absurd (none_there (n - length values) (r - length (map Some values)) v
      (sym (ap (option_and_then (λ (o : Option Value). o))
      (slice_get_second (map Some values) (replicate (n - length values) None) r
      (let m = length-map values Some in omega (arith, m, past)))) ∙ e))
]
  where
    by : (o : Option Value) → slice_get values r ≡ o
        → option_and_then (λ (o : Option Value). o) (option_map Some o) ≡ Some v
        → slice_get values r ≡ Some v
    by None is e = cc
    by (Some w) is e = is ∙ e

module _ (graph : Graph) (regions : Spot → Option Regions) (state : State) (colours : Colours)
    (q : Spot) (t : Frame) (callee : Function) (values : List Value) (e : Regions)
    (x : TakesLent graph regions state colours q t callee values e) where
  abbrev w : View
  w = view_of graph regions state colours

  abbrev elements : List (Option ℕ)
  elements = elements_of graph.shapes callee.regs

  -- what a register holds comes from a value
  record FromValue (r : ℕ) (d : Colour) : Type 0 where
    value : Value
    at : slice_get values r ≡ Some value
    has : Contains (colours_of state.cells colours.cells value) d

  from_value : (r : ℕ) (d : Colour) → Contains (w.colours q r) d → FromValue r d
  from_value r d has = by (value_at t.regs r) refl
      (subst (λ l. Contains l d) (ap (λ o. colours_by state colours o r) x.there) has) where
        by : (o : Option Value) → value_at t.regs r ≡ o
            → Contains (option_map_or (colours_of state.cells colours.cells) o []) d
            → FromValue r d
        by None e has = absurd (none_in d has)
        by (Some v) is has = record {
          value = v;
          at = given_value (length callee.regs) values r v
              (sym (ap (λ l. value_at l r) x.regs) ∙ is);
          has = has;
        }

  -- a frame that is lent all that it takes holds the colour of its `Here` alone
  pub holds_own : (y : Element) (d : Colour) → HoldsLive w q y d → w.here q ≡ d
  holds_own Here d h = h.holds
  holds_own (Register r) d h = let from = from_value r d h.holds in
      x.one from.value d (member_at values r from.value from.at) from.has

  region_is : (y : Element) → w.region q y ≡ region_in elements e y
  region_is y = ap (λ o. region_by (elements_in graph o) (regions q) y) x.there
      ∙ ap (λ f. region_by (elements_with graph f) (regions q) y) x.is
      ∙ ap (λ s. region_by elements s y) x.stands

  held_with_here : (y : Element) (d : Colour) → HoldsLive w q y d → InOneRegion w q y Here
  held_with_here Here d h = refl
  held_with_here (Register r) d h =
      let from = from_value r d h.holds in
      region_is (Register r)
      ∙ by (element_at elements r) refl from.value from.at from.has
      ∙ sym (region_is Here)
    where
      by : (o : Option ℕ) → element_at elements r ≡ o → (v : Value) → slice_get values r ≡ Some v
          → Contains (colours_of state.cells colours.cells v) d
          → TogetherIn elements e (Register r) Here
      by None none v at has = absurd (x.bare r v d at none has)
      by (Some k) is v at has = x.with_here r k (x.lent r v at) is

  -- and all that it holds is in one region
  pub holds_together : (y z : Element) (d : Colour) → HoldsLive w q y d → HoldsLive w q z d
      → InOneRegion w q y z
  holds_together y z d h k = held_with_here y d h ∙ sym (held_with_here z d k)
