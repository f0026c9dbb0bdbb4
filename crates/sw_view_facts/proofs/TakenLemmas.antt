-- A register that gets a part of what another reaches: copies, fields, payloads and loads.
use Rattle.std.specs.Option.{option_map_or}
use Rattle.std.specs.List.{slice_get}
use Rattle.std.proofs.Common.{◌≡◌, ◌+◌, ℕ, zero, suc, Bool, true, false, not, cond, Option, Some}
use Rattle.std.proofs.Common.{None, List, [], ◌∷◌, Contains, refl, sym, subst, ap, ◌∙◌}
use Rattle.sw_list.proofs.ListLemmas.{some_injective}
use Rattle.sw_list.proofs.Members.{in_one}
use Rattle.sw_types.specs.declared.shape.Shape.{Shape}
use Rattle.sw_graph.specs.declared.function.Function.{Function}
use Rattle.sw_graph.specs.declared.function.RegKind.{RegKind}
use Rattle.sw_graph.specs.declared.function.RegKind.TheVariants.{Plain, BoxOf}
use Rattle.sw_graph.specs.declared.graph.Graph.{Graph}
use Rattle.sw_graph.specs.Clean.{is_untracked}
use Rattle.sw_value.specs.declared.effect.Effect.TheVariants as effect
use Rattle.sw_value.specs.declared.frame.Frame.{Frame}
use Rattle.sw_value.specs.declared.state.State.{State}
use Rattle.sw_value.specs.declared.value.Value.{Value}
use Rattle.sw_value.specs.State.{in_job}
use Rattle.sw_value.specs.Value.{value_at}
use Rattle.sw_partition.specs.Regions.{Regions}
use Rattle.sw_region_ops.specs.Elements.{element_at, elements_of, is_tracked, numbered}
use Rattle.sw_machine_kind_facts.specs.Kinds.{HasKind, Referents}
use Rattle.sw_owner_facts.specs.Colours.{Colour}
use Rattle.sw_owner_facts.specs.Owned.{IsSound}
use Rattle.sw_owner_facts.specs.View.{Element, Register, Frame as Spot}
use Rattle.sw_region_facts.specs.Moves.{Sets, copied_from}
use Rattle.sw_reach_facts.specs.Coloured.{ColoursFit, ConformancesHold}
use Rattle.sw_reach_facts.specs.Reached.{colours_of}
use Rattle.sw_reach_facts.proofs.SendableLemmas.{crosses_nothing}
use Rattle.sw_view_facts.specs.Changes.{HoldsIn, KeepsShape}
use Rattle.sw_view_facts.specs.Effects.{turn_of}
use Rattle.sw_view_facts.specs.Executing.{Executes}
use Rattle.sw_view_facts.specs.Views.{Colours, colours_by, here_at, view_of}
use Rattle.sw_view_facts.proofs.StepLemmas.{effect_sets}
use Rattle.sw_view_facts.proofs.ValueLemmas.{register_shows}

-- ---- registers without an element
element_none : (shapes : List Shape) (n : ℕ) (kinds : List RegKind) (r : ℕ) (kind : RegKind)
    → element_at (numbered shapes n kinds) r ≡ None → slice_get kinds r ≡ Some kind
    → is_tracked shapes kind ≡ false
element_none shapes n [] r kind none at = cc
element_none shapes n (first ∷ kinds) r kind none at =
    by (is_tracked shapes first) refl r none at
    (λ m s no here. element_none shapes m kinds s kind no here) where
      by : (b : Bool) → is_tracked shapes first ≡ b → (r : ℕ)
          → element_at (cond b (Some n ∷ numbered shapes (n + 1) kinds)
          (None ∷ numbered shapes n kinds)) r ≡ None → slice_get (first ∷ kinds) r ≡ Some kind
          → ((m s : ℕ) → element_at (numbered shapes m kinds) s ≡ None
          → slice_get kinds s ≡ Some kind → is_tracked shapes kind ≡ false)
          → is_tracked shapes kind ≡ false
      by true is zero none at rest = cc
      by true is (suc s) none at rest = rest (n + 1) s none at
      by false is zero none at rest = ap (is_tracked shapes) (sym (some_injective at)) ∙ is
      by false is (suc s) none at rest = rest n s none at

untracked_crosses : (graph : Graph) (kind : RegKind) → is_tracked graph.shapes kind ≡ false
    → is_untracked graph (Some kind) ≡ true
untracked_crosses graph (Plain ty) is = by (is_untracked graph (Some (Plain ty))) is where
  by : (b : Bool) → not b ≡ false → b ≡ true
  by true e = refl
  by false e = cc
untracked_crosses graph (BoxOf ty) is = cc

module _ (graph : Graph) (conform : ConformancesHold graph) (world : Referents) (state : State)
    (colours : Colours) (fit : ColoursFit graph world state.cells colours.cells) where
  -- what is in a register without an element reaches nothing
  pub untracked_shows : (function : Function) (r : ℕ) (kind : RegKind) (v : Value) (c : Colour)
      → element_at (elements_of graph.shapes function.regs) r ≡ None
      → slice_get function.regs r ≡ Some kind → HasKind graph.shapes world.cells v kind
      → Contains (colours_of state.cells colours.cells v) c → ⊥
  untracked_shows function r kind v c none is has shows =
      crosses_nothing graph conform world state.cells colours.cells fit v kind has
      (untracked_crosses graph kind (element_none graph.shapes 1 function.regs r kind none is)) c
      shows

  -- Register r gets v, which reaches no more than the value w of register s.
  pub taken_keeps : (states : ℕ → List (Option Regions)) (next : State) (q : Spot) (f : Frame)
      (function : Function) (r s n : ℕ) (v w : Value) (from to : RegKind)
      (regions later : Spot → Option Regions) (a c : Regions)
      → Executes graph states state next q f function (effect.Set r v n) regions later colours
      colours a c → KeepsShape graph f (turn_of (effect.Set r v n) f)
      → value_at f.regs s ≡ Some w → slice_get function.regs s ≡ Some from
      → HasKind graph.shapes world.cells w from → slice_get function.regs r ≡ Some to
      → HasKind graph.shapes world.cells v to
      → ((colour : Colour) → Contains (colours_of state.cells colours.cells v) colour
      → Contains (colours_of state.cells colours.cells w) colour)
      → Sets (elements_of graph.shapes function.regs) r
      (copied_from (element_at (elements_of graph.shapes function.regs) r)
      (element_at (elements_of graph.shapes function.regs) s) s) a c
      → IsSound (view_of graph regions state colours) → IsSound (view_of graph later next colours)
  unfolding in_job
  taken_keeps states next q f function r s n v w from to regions later a c x shape has from_is from_fits
      to_is to_fits less sets sound =
      effect_sets graph states state next q f function (effect.Set r v n) regions later colours
      colours a c x shape r (copied_from (element_at elements r) (element_at elements s) s) refl sets
      brings sound
    where
      elements : List (Option ℕ)
      elements = elements_of graph.shapes function.regs

      reached : (colour : Colour)
          → Contains (colours_by next colours (Some (turn_of (effect.Set r v n) f)) r) colour
          → Contains (colours_of state.cells colours.cells v) colour
      reached colour in_r =
          subst (λ cells. Contains (colours_of cells colours.cells v) colour)
          (ap (λ (t : State). t.cells) x.steps)
          (register_shows next colours f (effect.Set r v n) r v colour refl refl in_r)

      brings : (colour : Colour)
          → Contains (colours_by next colours (Some (turn_of (effect.Set r v n) f)) r) colour
          → (y : Element) × Contains (copied_from (element_at elements r) (element_at elements s) s) y
          × HoldsIn state colours f (here_at colours q) y colour
      brings colour in_r = by (element_at elements r) refl (element_at elements s) refl where
        by : (o : Option ℕ) → element_at elements r ≡ o → (p : Option ℕ)
            → element_at elements s ≡ p → (y : Element) × Contains (copied_from o p s) y
            × HoldsIn state colours f (here_at colours q) y colour
        by (Some i) e (Some k) d = (
          Register s,
          in_one (Register s),
          subst (λ l. Contains l colour)
              (sym (ap (λ o. option_map_or (colours_of state.cells colours.cells) o []) has))
              (less colour (reached colour in_r)),
        )
        by None e p d =
            absurd (untracked_shows function r to v colour e to_is to_fits (reached colour in_r))
        by (Some i) e None d =
            absurd (untracked_shows function s from w colour d from_is from_fits
            (less colour (reached colour in_r)))
