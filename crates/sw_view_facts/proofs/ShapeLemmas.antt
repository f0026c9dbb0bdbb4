-- When a frame keeps its shape.
use Rattle.std.specs.Prelude.{IsTrue}
use Rattle.std.specs.Option.{option_and_then}
use Rattle.std.specs.List.{slice_get}
use Rattle.std.proofs.Common.{◌≡◌, ◌+◌, ◌&&◌, ℕ, Bool, true, false, not, cond, Option, Some, None}
use Rattle.std.proofs.Common.{List, refl, sym, ap, ◌∙◌, add-one}
use Rattle.std.proofs.lemmas.Bool.{and_left, and_right}
use Rattle.sw_types.specs.declared.isolation.Iso.{Iso}
use Rattle.sw_types.specs.declared.isolation.Iso.TheVariants as iso
use Rattle.sw_graph.specs.declared.function.Function.{Function}
use Rattle.sw_graph.specs.declared.graph.Graph.{Graph}
use Rattle.sw_graph.specs.Bodies.{has_self, is_actor_initialiser, is_own}
use Rattle.sw_graph.specs.Points.{Point, point_in}
use Rattle.sw_graph.specs.Sure.{point_before}
use Rattle.sw_value.specs.declared.frame.Frame.{Frame}
use Rattle.sw_value.specs.declared.value.Value.{Value}
use Rattle.sw_value.specs.Value.{reference_of, value_at}
use Rattle.sw_owner_facts.specs.View.{MakesActor}
use Rattle.sw_view_facts.specs.Changes.{KeepsShape}
use Rattle.sw_view_facts.specs.Steps.{SameCall}
use Rattle.sw_view_facts.specs.Views.{closes, closes_at, is_return, isolation_by, isolation_in}
use Rattle.sw_view_facts.specs.Views.{makes_itself, on_actor, shape_by, shape_with, stands_on}
use Rattle.sw_view_facts.specs.Views.{tracked_in}

same_cond : {X : Type 0} (b : Bool) (x y z : X) → (b ≡ false → y ≡ z) → cond b x y ≡ cond b x z
same_cond true x y z same = refl
same_cond false x y z same = same refl

-- The isolation of a frame depends on its own `self`.
pub isolation_kept : (function : Function) (regs later : List (Option Value))
    → (IsTrue (has_self function) → value_at later 0 ≡ value_at regs 0)
    → isolation_in function later ≡ isolation_in function regs
isolation_kept function regs later self = same_cond (is_actor_initialiser function) MakesActor
    (isolation_by function.iso later) (isolation_by function.iso regs)
    (λ never. by function.iso refl never) where
      by : (i : Iso) → function.iso ≡ i → is_actor_initialiser function ≡ false
          → isolation_by i later ≡ isolation_by i regs
      by iso.Free is never = refl
      by iso.Caller is never = refl
      by (iso.Global g) is never = refl
      by iso.Own is never = ap (λ o. on_actor (option_and_then reference_of o))
          (self (ap (λ i. is_own i && not (is_actor_initialiser function)) is ∙ ap not never))

-- a frame that stands at no return is open
pub open_here : (graph : Graph) (function : Function) (p : ℕ)
    → is_return (point_in function p) ≡ false → closes_at graph function p ≡ false
open_here graph function p never = by (point_before function p) where
  by : (o : Option Point) → closes graph function (point_in function p) o ≡ false
  by None = refl
  by (Some before) = and_left (is_return (point_in function p))
      (makes_itself graph function before) never

-- and so is one before which nothing stands that makes what its function initialises
pub open_after : (graph : Graph) (function : Function) (p : ℕ) (point : Point)
    → point_in function p ≡ Some point → makes_itself graph function point ≡ false
    → closes_at graph function (p + 1) ≡ false
open_after graph function p point at ordinary =
    ap (λ n. closes graph function (point_in function (p + 1)) (point_before function n))
    (add-one p)
    ∙ ap (closes graph function (point_in function (p + 1))) at
    ∙ and_right (is_return (point_in function (p + 1))) (makes_itself graph function point) ordinary

-- a frame closes at a return directly after such a point
pub shut_after : (graph : Graph) (function : Function) (p : ℕ) (point : Point)
    → point_in function p ≡ Some point → makes_itself graph function point ≡ true
    → is_return (point_in function (p + 1)) ≡ true → closes_at graph function (p + 1) ≡ true
shut_after graph function p point at makes returns =
    ap (λ n. closes graph function (point_in function (p + 1)) (point_before function n))
    (add-one p)
    ∙ ap (closes graph function (point_in function (p + 1))) at
    ∙ ap (λ b. b && makes_itself graph function point) returns ∙ makes

-- two frames of one call, where only the test of closing may differ
shape_is : (graph : Graph) (function : Function) (f g : Frame) (b : Bool) → SameCall f g
    → slice_get graph.functions f.function ≡ Some function
    → isolation_in function g.regs ≡ isolation_in function f.regs
    → closes_at graph function g.point ≡ b → (under : Option Function)
    → shape_by graph under (Some g) ≡ record (shape_by graph under (Some f)) { closing = b }
shape_is graph function f g b call is isolation closing under =
    ap (shape_with graph under g) (ap (slice_get graph.functions) call.function ∙ is)
    ∙ (λ i. record {
      isolation = isolation i;
      executor = stands_on (call.executor i);
      crossing = call.crossing i;
      closing = closing i;
      result = cond function.sends None (option_and_then (tracked_in graph (call.result i)) under);
    })
    ∙ sym (ap (λ o. record (shape_with graph under f o) { closing = b }) is)

pub shape_kept : (graph : Graph) (function : Function) (f g : Frame) → SameCall f g
    → slice_get graph.functions f.function ≡ Some function
    → isolation_in function g.regs ≡ isolation_in function f.regs
    → closes_at graph function g.point ≡ closes_at graph function f.point → KeepsShape graph f g
shape_kept graph function f g call is isolation closing under =
    shape_is graph function f g (closes_at graph function f.point) call is isolation closing under
    ∙ ap (λ o. record (shape_with graph under f o) { closing = closes_at graph function f.point }) is
    ∙ sym (ap (shape_with graph under f) is)

pub shape_shut : (graph : Graph) (function : Function) (f g : Frame) → SameCall f g
    → slice_get graph.functions f.function ≡ Some function
    → isolation_in function g.regs ≡ isolation_in function f.regs
    → closes_at graph function g.point ≡ true → (under : Option Function)
    → shape_by graph under (Some g) ≡ record (shape_by graph under (Some f)) { closing = true }
shape_shut graph function f g = shape_is graph function f g true
