-- What an initialiser gives once it has made it may cross: an actor, or an object of a class with a
-- global actor.
use Rattle.std.specs.Prelude.{IsSome, is_some}
use Rattle.std.specs.Option.{option_and_then}
use Rattle.std.specs.List.{flat_map, list_all, slice_get}
use Rattle.std.proofs.Common.{◌≡◌, ◌||◌, ◌&&◌, ℕ, zero, suc, Bool, true, false, Option, Some}
use Rattle.std.proofs.Common.{None, List, [], ◌∷◌, length, map, get_or, Contains, refl, sym, subst}
use Rattle.std.proofs.Common.{ap, ◌∙◌, arith, inl, inr}
use Rattle.std.proofs.lemmas.Bool.{and_parts, eqb-true, or_cases, or_right}
use Rattle.std.proofs.lemmas.List.{get_or-map}
use Rattle.std.proofs.lemmas.List.Elements.{Contains-append_cases}
use Rattle.std.proofs.lemmas.Option.{get_or_from_slice_get, slice_get_within}
use Rattle.sw_list.proofs.Members.{member_at, of_flat_map, one_in, stands_at}
use Rattle.sw_list.proofs.ListLemmas.{at_index}
use Rattle.sw_types.specs.declared.isolation.Iso.{Iso}
use Rattle.sw_types.specs.declared.shape.Shape.{Shape}
use Rattle.sw_types.specs.declared.shape.ShapeKind.{ShapeKind}
use Rattle.sw_types.specs.declared.shape.ShapeKind.TheVariants as shape
use Rattle.sw_types.specs.declared.ty.Ty.{Ty, out-Ty}
use Rattle.sw_types.specs.declared.ty.Ty.TheOpen as type
use Rattle.sw_types.specs.Depths.{by_depth, of_shape}
use Rattle.sw_types.specs.Held.{types_in}
use Rattle.sw_types.specs.Sendable.{kind_sends, layer_sends, sends_at, shape_sends, type_sends}
use Rattle.sw_graph.specs.declared.function.Function.{Function}
use Rattle.sw_graph.specs.declared.function.RegKind.{RegKind}
use Rattle.sw_graph.specs.declared.graph.Graph.{Graph}
use Rattle.sw_graph.specs.declared.instr.Instr.{Instr}
use Rattle.sw_graph.specs.declared.instr.Instr.TheVariants as instr
use Rattle.sw_graph.specs.declared.instr.Last.{Last}
use Rattle.sw_graph.specs.Bodies.{actor_of, is_on_some, is_own, layer_names, makes_actor}
use Rattle.sw_graph.specs.Bodies.{makes_object, names}
use Rattle.sw_graph.specs.Clean.{IsClean, may_cross}
use Rattle.sw_graph.specs.Kinds.{EachOf, Goes, KindsFit, is_actor, kinds_of, parts, shape_at}
use Rattle.sw_graph.specs.Placed.{ActorOfClass}
use Rattle.sw_graph.specs.Points.{End, Middle, Point, point_in, points_of, points_of_block}
use Rattle.sw_graph.specs.WellFormed.{BlockFits, InstrFits}
use Rattle.sw_machine_kind_facts.proofs.KindLemmas.{shape_found}
use Rattle.sw_machine_kind_facts.proofs.OperandLemmas.{function_fits}
use Rattle.sw_view_facts.specs.Views.{closes, closes_at, is_return, makes_itself}
use Rattle.sw_view_facts.proofs.RenameLemmas.{of_map}

-- ---- which declared types are Sendable
-- one of which this holds whatever its parts are
pub sends_up : (shapes : List Shape) (k : ℕ) (one : Shape) → slice_get shapes k ≡ Some one
    → ((f : ℕ → Bool) → shape_sends f one ≡ true) → sends_at shapes k ≡ true
unfolding of_shape
sends_up shapes k one at always = by (length shapes) refl where
  by : (depth : ℕ) → length shapes ≡ depth
      → get_or (by_depth false shape_sends shapes depth) k false ≡ true
  by zero is = absurd (let inside = slice_get_within shapes k one at in omega (arith, inside, is))
  by (suc depth) is =
      let said : ℕ → Bool = λ n. get_or (by_depth false shape_sends shapes depth) n false in
      get_or-map (shape_sends said) shapes k one false (slice_get_within shapes k one at)
      ∙ ap (shape_sends said) (get_or_from_slice_get shapes k one one at) ∙ always said

is_actor_kind : (kind : ShapeKind) → is_actor kind ≡ true → kind ≡ shape.Actor
is_actor_kind shape.Actor is = refl
is_actor_kind shape.Struct is = cc
is_actor_kind shape.Enum is = cc
is_actor_kind shape.Class is = cc

actor_sends : (shapes : List Shape) (k : ℕ) (one : Shape) → slice_get shapes k ≡ Some one
    → is_actor one.kind ≡ true → sends_at shapes k ≡ true
actor_sends shapes k one at is = sends_up shapes k one at
    (λ f. ap (λ kind. kind_sends kind one (list_all (type_sends f) (types_in one)))
    (is_actor_kind one.kind is))

class_sends : (graph : Graph) → IsClean graph → (k actor : ℕ)
    → actor_of graph.shapes k ≡ Some actor → sends_at graph.shapes k ≡ true
class_sends graph clean k actor is = by (slice_get graph.shapes k) refl is where
  of_class : (o : Option ℕ) (conforms : Bool) → o ≡ Some actor → (conforms || is_some o) ≡ true
  of_class o conforms is = or_right conforms (is_some o) (ap (λ x. is_some x) is)

  has : (one : Shape) → one.actor ≡ Some actor → IsSome one.actor
  has one is = subst (λ o. IsSome o) (sym is) refl

  by : (o : Option Shape) → slice_get graph.shapes k ≡ o
      → option_and_then (λ (one : Shape). one.actor) o ≡ Some actor
      → sends_at graph.shapes k ≡ true
  by None at is = cc
  by (Some one) at is =
      let kind : one.kind ≡ shape.Class =
      at_index ActorOfClass graph.shapes k one clean.placed.actors at (has one is) in
      sends_up graph.shapes k one at
      (λ f. ap (λ x. kind_sends x one (list_all (type_sends f) (types_in one))) kind
      ∙ of_class one.actor one.conforms is)

-- ---- instructions at points
in_middles : (instrs : List Instr) (last : Last) (i : Instr)
    → Contains (points_of_block (record { instrs = instrs; last = last })) (Middle i)
    → Contains instrs i
in_middles instrs last i has =
    elim (Contains-append_cases (map Middle instrs) (End last ∷ []) (Middle i) has) [
      | inl found ↦
          let one = of_map Middle instrs (Middle i) found in
          subst (λ x. Contains instrs x) (let same : one.0 ≡ i = middle_is one.0 i one.2 in same)
          one.1
      | inr at_end ↦ absurd (no_end (one_in (End last) (Middle i) at_end))
    ]
  where
    middle_is : (x y : Instr) → Middle x ≡ Middle y → x ≡ y
    middle_is x y e = cc

    no_end : End last ≡ Middle i → ⊥
    no_end e = cc

pub kinds_fit_at : (graph : Graph) (number : ℕ) (function : Function)
    → slice_get graph.functions number ≡ Some function → (p : ℕ) (i : Instr)
    → point_in function p ≡ Some (Middle i)
    → KindsFit graph.shapes graph.globals graph.functions function.regs i
unfolding points_of
kinds_fit_at graph number function is p i here =
    let found = of_flat_map points_of_block function.blocks (Middle i)
    (member_at (flat_map points_of_block function.blocks) p (Middle i) here) in
    let block = stands_at function.blocks found.0 found.1 in
    let fits = at_index (BlockFits graph.shapes graph.globals graph.functions function)
    function.blocks block.0 found.0 (function_fits graph number function is).blocks block.1 in
    let instr = stands_at found.0.instrs i (in_middles found.0.instrs found.0.last i found.2) in
    (at_index (InstrFits graph.shapes graph.globals graph.functions function) found.0.instrs
    instr.0 i fits.instrs instr.1).kinds

-- ---- what an initialiser gives
crosses_by_name : (graph : Graph) (k : ℕ) (ty : Ty) → names k ty ≡ true
    → sends_at graph.shapes k ≡ true → may_cross graph ty ≡ true
crosses_by_name graph k ty named sends = by (out-Ty ty) named where
  by : (l : type.Ty-F Ty) → layer_names k l ≡ true
      → layer_sends (sends_at graph.shapes) l ≡ true
  by (type.Named n) is = ap (sends_at graph.shapes) (eqb-true n k is) ∙ sends
  by type.Int is = cc
  by type.Bool is = cc
  by type.Unit is = cc
  by (type.Func sendable params result) is = cc
  by (type.Task inner) is = cc

parts_there : (shapes : List Shape) (k : ℕ) (froms : List (Option RegKind))
    → EachOf Goes froms (parts (shape_at shapes is_actor k))
    → (one : Shape) × (shape_at shapes is_actor k ≡ Some one)
parts_there shapes k froms = by (shape_at shapes is_actor k) where
  by : (o : Option Shape) → EachOf Goes froms (parts o) → (one : Shape) × (o ≡ Some one)
  by None each = absurd each
  by (Some one) each = (one, refl)

on_some : (actor : Option ℕ) (iso : Iso) → is_on_some actor iso ≡ true
    → (g : ℕ) × (actor ≡ Some g)
on_some None iso is = cc
on_some (Some g) iso is = (g, refl)

module _ (graph : Graph) (clean : IsClean graph) (number : ℕ) (function : Function)
    (is : slice_get graph.functions number ≡ Some function) where
  of_actor : (p : ℕ) (point : Point) → point_in function p ≡ Some point
      → makes_actor function.result point ≡ true → may_cross graph function.result ≡ true
  of_actor p (Middle (instr.NewActor at dst k args)) here makes =
      let kinds = kinds_fit_at graph number function is p (instr.NewActor at dst k args) here in
      let one = parts_there graph.shapes k (kinds_of function.regs args) kinds.0 in
      let found = shape_found graph.shapes is_actor k one.0 one.1 in
      crosses_by_name graph k function.result makes
      (actor_sends graph.shapes k one.0 found.0 found.1)
  of_actor p _ here makes = cc

  of_object : (point : Point) → makes_object graph.shapes function point ≡ true
      → may_cross graph function.result ≡ true
  of_object (Middle (instr.NewObject at dst k args)) makes =
      let both = and_parts (names k function.result)
      (is_on_some (actor_of graph.shapes k) function.iso) makes in
      let actor = on_some (actor_of graph.shapes k) function.iso both.1 in
      crosses_by_name graph k function.result both.0 (class_sends graph clean k actor.0 actor.1)
  of_object _ makes = cc

  -- the result of a function that closes may cross
  pub closing_crosses : (p : ℕ) → closes_at graph function p ≡ true
      → may_cross graph function.result ≡ true
  closing_crosses zero shut = cc
  closing_crosses (suc p) shut = by (point_in function p) refl shut where
    by : (o : Option Point) → point_in function p ≡ o
        → closes graph function (point_in function (suc p)) o ≡ true → may_cross graph
        function.result ≡ true
    by None here shut = cc
    by (Some point) here shut =
        let both = and_parts (is_return (point_in function (suc p)))
        (makes_itself graph function point) shut in
        elim (or_cases (is_own function.iso && makes_actor function.result point)
        (makes_object graph.shapes function point) both.1) [
          | inl actor ↦ of_actor p point here
              (and_parts (is_own function.iso) (makes_actor function.result point) actor).1
          | inr object ↦ of_object point object
        ]
