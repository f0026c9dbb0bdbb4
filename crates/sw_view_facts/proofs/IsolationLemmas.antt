-- What a frame is isolated to, and what follows for its executor and the colour of its `Here`.
use Rattle.std.proofs.Common.{◌≡◌, ◌&&◌, ℕ, Bool, true, false, not, cond, Option, Some}
use Rattle.std.proofs.Common.{List, refl, sym, ap, ◌∙◌}
use Rattle.std.specs.Option.{option_and_then}
use Rattle.std.specs.List.{list_any, slice_get}
use Rattle.std.proofs.lemmas.Bool.{and_parts, eqb-true}
use Rattle.sw_types.specs.declared.isolation.Iso.{Iso}
use Rattle.sw_types.specs.declared.isolation.Iso.TheVariants as iso
use Rattle.sw_graph.specs.declared.function.Function.{Function}
use Rattle.sw_graph.specs.declared.graph.Graph.{Graph}
use Rattle.sw_graph.specs.Bodies.{has_self, is_actor_initialiser, is_on, is_own, makes_actor}
use Rattle.sw_graph.specs.Points.{points_of}
use Rattle.sw_value.specs.declared.frame.Frame.{Frame}
use Rattle.sw_value.specs.declared.state.State.{State}
use Rattle.sw_value.specs.declared.value.Value.{Value}
use Rattle.sw_value.specs.Value.{reference_of, value_at}
use Rattle.sw_partition.specs.Regions.{Regions}
use Rattle.sw_owner_facts.specs.Colours.{Actor, GlobalActor, Instance, OfActor, On}
use Rattle.sw_owner_facts.specs.Owned.{IsOwned}
use Rattle.sw_owner_facts.specs.View.{FrameShape, IsFrame, IsolatedTo, MakesActor, View}
use Rattle.sw_owner_facts.specs.View.{Frame as Spot}
use Rattle.sw_view_facts.specs.Views.{Colours, frame_at, frame_under, function_of, here_at}
use Rattle.sw_view_facts.specs.Views.{isolation_by, isolation_in, on_actor, shape_by, shape_with}
use Rattle.sw_view_facts.specs.Views.{stands_on, view_of}

-- ---- isolations of functions
pub on_is : (actor : ℕ) (i : Iso) → is_on actor i ≡ true → i ≡ iso.Global actor
on_is actor (iso.Global other) is = ap iso.Global (sym (eqb-true actor other is))
on_is actor iso.Free is = cc
on_is actor iso.Own is = cc
on_is actor iso.Caller is = cc

own_is : (i : Iso) → is_own i ≡ true → i ≡ iso.Own
own_is iso.Own is = refl
own_is (iso.Global other) is = cc
own_is iso.Free is = cc
own_is iso.Caller is = cc

-- one with its own `self` is isolated to that, and is no initialiser of an actor
pub self_is_own : (function : Function) → has_self function ≡ true → function.iso ≡ iso.Own
self_is_own function self = own_is function.iso
    (and_parts (is_own function.iso) (not (is_actor_initialiser function)) self).0

pub self_makes_not : (function : Function) → has_self function ≡ true
    → is_actor_initialiser function ≡ false
self_makes_not function self = by (is_actor_initialiser function)
    (and_parts (is_own function.iso) (not (is_actor_initialiser function)) self).1 where
      by : (b : Bool) → not b ≡ true → b ≡ false
      by true is = cc
      by false is = refl

-- ---- isolations of frames
-- where the function is no actor's initialiser
pub isolated_by : (function : Function) (regs : List (Option Value)) (i : Iso)
    → is_actor_initialiser function ≡ false → function.iso ≡ i
    → isolation_in function regs ≡ isolation_by i regs
isolated_by function regs i makes is =
    ap (λ b. cond b MakesActor (isolation_by function.iso regs)) makes
    ∙ ap (λ j. isolation_by j regs) is

-- where it isn't isolated to `self`
pub isolated_as : (function : Function) (regs : List (Option Value)) (i : Iso)
    → function.iso ≡ i → is_own i ≡ false → isolation_in function regs ≡ isolation_by i regs
isolated_as function regs i is other = isolated_by function regs i
    (ap (λ b. b && list_any (makes_actor function.result) (points_of function.blocks))
    (ap is_own is ∙ other)) is

-- a function on a global actor
pub global_isolation : (function : Function) (regs : List (Option Value)) (actor : ℕ)
    → function.iso ≡ iso.Global actor
    → isolation_in function regs ≡ IsolatedTo (GlobalActor actor)
global_isolation function regs actor is = isolated_as function regs (iso.Global actor) is refl

-- one with its own `self`
pub self_isolation : (function : Function) (regs : List (Option Value)) (w : Value) (c : ℕ)
    → has_self function ≡ true → value_at regs 0 ≡ Some w → reference_of w ≡ Some c
    → isolation_in function regs ≡ IsolatedTo (Instance c)
self_isolation function regs w c self has refers =
    isolated_by function regs iso.Own (self_makes_not function self) (self_is_own function self)
    ∙ ap (λ o. on_actor (option_and_then reference_of o)) has
    ∙ ap on_actor refers

-- ---- frames in a view
module _ (graph : Graph) (regions : Spot → Option Regions) (state : State) (colours : Colours)
    (p : Spot) (f : Frame) (function : Function) (there : frame_at state p ≡ Some f)
    (is : slice_get graph.functions f.function ≡ Some function) where
  abbrev w : View
  w = view_of graph regions state colours

  pub shape_at : w.shape p
      ≡ shape_with graph (function_of graph (frame_under state p.job p.depth)) f (Some function)
  shape_at = ap (shape_by graph (function_of graph (frame_under state p.job p.depth))) there
      ∙ ap (shape_with graph (function_of graph (frame_under state p.job p.depth)) f) is

  pub isolation_at : (w.shape p).isolation ≡ isolation_in function f.regs
  isolation_at = ap (λ (h : FrameShape). h.isolation) shape_at

  -- a frame of an isolated function stands on its actor
  pub stands_isolated : IsOwned w → IsFrame w p → (a : Actor)
      → isolation_in function f.regs ≡ IsolatedTo a → (w.shape p).executor ≡ On a
  stands_isolated owned below a isolated = owned.stands p below (isolation_at ∙ isolated)

  pub executor_isolated : IsOwned w → IsFrame w p → (a : Actor)
      → isolation_in function f.regs ≡ IsolatedTo a → stands_on f.executor ≡ On a
  executor_isolated owned below a isolated = sym (ap (λ (h : FrameShape). h.executor) shape_at)
      ∙ stands_isolated owned below a isolated

  -- and its `Here` has the actor's colour
  pub here_isolated : IsOwned w → IsFrame w p → (a : Actor)
      → isolation_in function f.regs ≡ IsolatedTo a → here_at colours p ≡ OfActor a
  here_isolated owned below a isolated = owned.isolated p below (isolation_at ∙ isolated)
