-- The graph of a program is placed, by what is shown of its bodies.
use Rattle.std.proofs.Common.{◌≡◌, ℕ, true, false, List, Some, Contains, refl, sym, ap, subst, ◌∙◌}
use Rattle.std.proofs.Common.{All, slice_get, true≢false}
use Rattle.std.proofs.lemmas.Bool.{and_parts, not-true}
use Rattle.sw_types.specs.declared.shape.ShapeKind.{ShapeKind}
use Rattle.sw_types.specs.declared.shape.ShapeKind.TheVariants as kinds
use Rattle.sw_graph.specs.Bodies.{has_self, is_actor_initialiser, is_own}
use Rattle.sw_graph.specs.Placed.{ActorOfClass, EachFunction, EachInstr, FunctionAt, GivesFirst, HasSelf, IsAlone}
use Rattle.sw_graph.specs.Placed.{IsFirst, IsPlaced, SetsApart, named_by}
use Rattle.sw_graph.specs.Points.{Middle, point_in}
use Rattle.sw_graph.specs.declared.function.Function.{Function}
use Rattle.sw_graph.specs.declared.graph.Graph.{Graph}
use Rattle.sw_graph.specs.declared.instr.Instr.{Instr}
use Rattle.sw_lower_code.specs.Whole.{Body, function_of}
use Rattle.sw_lower_placed_facts.specs.Bodies.{ArePlaced, IsFirstValue, IsMaker, IsPlacedBody}
use Rattle.sw_lower_placed_facts.specs.Bodies.IsPlacedBody.{first, maker, ordinary}
use Rattle.sw_lower_placed_facts.specs.Claims.{IsOrdinary}
use Rattle.sw_lower_placed_facts.specs.Hosts.{Program}
use Rattle.sw_lower_placed_facts.proofs.Graphs.Accesses.{accesses_placed, globals, shapes}
use Rattle.sw_lower_placed_facts.proofs.Graphs.Calls.{calls_placed}
use Rattle.sw_lower_placed_facts.proofs.Graphs.Closures.{apart_placed}
use Rattle.sw_lower_placed_facts.proofs.Graphs.Functions.{InOrder, of_body}
use Rattle.sw_lower_placed_facts.proofs.Graphs.Initialisers.{global_not_own, kind_not_own, made, maker_is}
use Rattle.sw_lower_placed_facts.proofs.Graphs.Makers.{makers_placed}
use Rattle.sw_lower_placed_facts.proofs.Graphs.Standing.{at_points}
use Rattle.sw_lower_placed_facts.proofs.Graphs.Stores.{AreStarts, stores_placed}

-- What is known of what begins in a graph: its entry and the functions that give first values.
pub record BeginsRight (graph : Graph) : Type 0 where
  pub entry : FunctionAt graph graph.entry IsFirst
  pub firsts : (f : ℕ) → Contains graph.starts f → FunctionAt graph f IsFirst
  pub alone : (f p : ℕ) (body : Function) (instr : Instr) → GivesFirst graph f
      → slice_get graph.functions f ≡ Some body → point_in body p ≡ Some (Middle instr)
      → IsAlone instr
  pub unnamed : EachInstr graph (λ body instr. (f : ℕ) → Contains graph.starts f
      → Contains (named_by instr) f → ⊥)

module _ (program : Program) where
  ordinary_has : (body : Body) → IsOrdinary program body → has_self (made program body) ≡ true
      → HasSelf (shapes program) (made program body)
  unfolding function_of
  ordinary_has body one has =
      one.selves (one.self (and_parts (is_own body.iso) _ has).0)

  -- An initialiser has no `self`.
  other_maker : (body : Body) (one : IsMaker program body) → is_own body.iso ≡ true
      → (one.shape.kind ≡ kinds.Actor → ⊥) → ⊥
  other_maker body one own other =
      true≢false (sym own ∙ ap is_own one.iso ∙ kind_not_own one.shape.kind one.shape.actor other)

  by_kind : (body : Body) (one : IsMaker program body) → is_own body.iso ≡ true
      → is_actor_initialiser (made program body) ≡ false → (kind : ShapeKind)
      → one.shape.kind ≡ kind → ⊥
  by_kind body one own other kinds.Struct same =
      other_maker body one own (λ actor. cc (same, actor))
  by_kind body one own other kinds.Enum same = other_maker body one own (λ actor. cc (same, actor))
  by_kind body one own other kinds.Class same = other_maker body one own (λ actor. cc (same, actor))
  by_kind body one own other kinds.Actor same =
      true≢false (sym (maker_is program body one same) ∙ other)

  maker_has : (body : Body) → IsMaker program body → has_self (made program body) ≡ true → ⊥
  unfolding function_of
  maker_has body one has =
      let parts = and_parts (is_own body.iso) _ has in
      by_kind body one parts.0 (not-true (is_actor_initialiser (made program body)) parts.1)
      one.shape.kind refl

  -- nor has what gives a first value
  first_has : (body : Body) → IsFirstValue program body → has_self (made program body) ≡ true → ⊥
  unfolding function_of
  first_has body one has =
      true≢false (sym (and_parts (is_own body.iso) _ has).0 ∙ ap is_own one.iso
      ∙ global_not_own one.global.actor)

  body_has : (body : Body) → IsPlacedBody program body → has_self (made program body) ≡ true
      → HasSelf (shapes program) (made program body)
  body_has body (ordinary one) has = ordinary_has body one has
  body_has body (maker one) has = absurd (maker_has body one has)
  body_has body (first one) has = absurd (first_has body one has)

  module _ (ordered : List Body) (is : InOrder program ordered) (placed : ArePlaced program)
      (actors : All ActorOfClass (shapes program)) (graph : Graph)
      (same_shapes : graph.shapes ≡ shapes program) (same_globals : graph.globals ≡ globals program)
      (functions : graph.functions ≡ program.functions) where
    here : (f : ℕ) (function : Function) → slice_get graph.functions f ≡ Some function
        → slice_get program.functions f ≡ Some function
    here f function there = subst (λ all. slice_get all f ≡ Some function) functions there

    selves_placed : EachFunction graph (λ body. has_self body ≡ true → HasSelf graph.shapes body)
    selves_placed n body there =
        let one = of_body program ordered is n body (here n body there) in
        subst (λ all. has_self body ≡ true → HasSelf all body) (sym same_shapes)
        (subst (λ f. has_self f ≡ true → HasSelf (shapes program) f) one.same
        (body_has one.body (placed.each one.body one.has)))

    sets_placed : EachInstr graph (λ body. SetsApart)
    sets_placed n body there =
        at_points program ordered (λ n body instr. SetsApart instr) (record {
          allowed = λ n body at host of block index instr ok. ok.sets;
          makes = λ n body at one block index key r operands apart last. apart;
          gives = λ n body at one block index key s. tt;
        }) is placed n body (here n body there)

    pub graph_placed : AreStarts program graph.starts → BeginsRight graph → IsPlaced graph
    graph_placed starts begins = record {
      actors = subst (All ActorOfClass) (sym same_shapes) actors;
      calls = calls_placed program ordered is placed graph functions;
      accesses = accesses_placed program ordered is placed actors graph same_shapes same_globals
          functions;
      stores = stores_placed program ordered is placed actors graph same_shapes same_globals
          functions starts;
      makers = makers_placed program graph same_shapes ordered is placed functions;
      apart = apart_placed program ordered is placed graph same_shapes functions;
      selves = selves_placed;
      alone = begins.alone;
      unnamed = begins.unnamed;
      entry = begins.entry;
      firsts = begins.firsts;
      sets = sets_placed;
    }
