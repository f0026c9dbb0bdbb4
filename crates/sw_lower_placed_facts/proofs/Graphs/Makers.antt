-- Actors and objects of classes with global actors are made as the last of their initialisers.
use Rattle.std.proofs.Common.{◌≡◌, ℕ, true, List, Option, Some, refl, sym, ap, subst}
use Rattle.std.proofs.Common.{◌∙◌, slice_get}
use Rattle.std.proofs.lemmas.Bool.{and_from, eq-eqb}
use Rattle.std.specs.Option.{option_and_then}
use Rattle.sw_types.specs.declared.isolation.Iso.{Iso}
use Rattle.sw_types.specs.declared.shape.Shape.{Shape}
use Rattle.sw_types.specs.declared.shape.ShapeKind.{ShapeKind}
use Rattle.sw_types.specs.declared.shape.ShapeKind.TheVariants as kinds
use Rattle.sw_types.specs.declared.ty.Ty.TheVariants as types
use Rattle.sw_graph.specs.Bodies.{actor_of, is_on, is_own, names}
use Rattle.sw_graph.specs.Placed.{EachFunction, IsLastOf, MakerPlaced}
use Rattle.sw_graph.specs.declared.function.Function.{Function}
use Rattle.sw_graph.specs.declared.function.RegKind.{RegKind}
use Rattle.sw_graph.specs.declared.graph.Graph.{Graph}
use Rattle.sw_graph.specs.declared.instr.Block.{Block}
use Rattle.sw_graph.specs.declared.instr.Instr.{Instr}
use Rattle.sw_graph.specs.declared.instr.Instr.TheVariants.{NewActor, NewObject}
use Rattle.sw_graph.specs.declared.instr.Operand.{Operand}
use Rattle.sw_decls.specs.Signatures.{actor_iso}
use Rattle.sw_typing_rules.specs.Worlds.{is_object_kind}
use Rattle.sw_isolation_rules.specs.Kinds.{kind_iso}
use Rattle.sw_lower_code.specs.Whole.{Body, function_of}
use Rattle.sw_lower_rules.specs.Bodies.{made_instr}
use Rattle.sw_lower_placed_facts.specs.Allowed.{IsAllowed}
use Rattle.sw_lower_placed_facts.specs.Bodies.{ArePlaced, IsMaker}
use Rattle.sw_lower_placed_facts.specs.Hosts.{Program, Host}
use Rattle.sw_lower_placed_facts.proofs.Graphs.Accesses.{shapes}
use Rattle.sw_lower_placed_facts.proofs.Graphs.Functions.{InOrder}
use Rattle.sw_lower_placed_facts.proofs.Graphs.Initialisers.{made, names_itself}
use Rattle.sw_lower_placed_facts.proofs.Graphs.Standing.{InEach, in_blocks}

-- a class's initialiser is on its global actor
on_its_actor : (found : Option ℕ) (actor : ℕ) (around : Iso) → around ≡ actor_iso found
    → found ≡ Some actor → is_on actor around ≡ true
on_its_actor found actor around same is =
    ap (is_on actor) (same ∙ ap actor_iso is) ∙ eq-eqb actor actor refl

module _ (program : Program) (graph : Graph) (same_shapes : graph.shapes ≡ shapes program) where
  allowed : (function : Function) (host : Host) (regs : List RegKind) (block : Block) (index : ℕ)
      (instr : Instr) → IsAllowed program host regs instr
      → MakerPlaced graph function block index instr
  allowed function host regs block index (NewActor at r k ss) ok = absurd ok.uses
  allowed function host regs block index (NewObject at r k ss) ok = absurd ok.uses
  allowed function host regs block index _ ok = tt

  -- what an initialiser makes, by the kind of its type
  by_kind : (function : Function) (kind : ShapeKind) (found : Option ℕ) (k : ℕ)
      → is_object_kind kind ≡ true → function.iso ≡ kind_iso kind found
      → function.result ≡ types.Named k → actor_of graph.shapes k ≡ found → (block : Block)
      (index key r : ℕ) (operands : List Operand) → IsLastOf block index
      → MakerPlaced graph function block index (made_instr kind key r k operands)
  by_kind function kinds.Struct found k object same result is block index key r operands last = cc
  by_kind function kinds.Enum found k object same result is block index key r operands last = cc
  by_kind function kinds.Class found k object same result is block index key r operands last =
      λ actor here. (
        and_from (is_on actor function.iso) (names k function.result)
            (on_its_actor found actor function.iso same (sym is ∙ here))
            (names_itself k function.result result),
        last,
      )
  by_kind function kinds.Actor found k object same result is block index key r operands last = (
    and_from (is_own function.iso) (names k function.result) (ap is_own same)
        (names_itself k function.result result),
    last,
  )

  made_last : (body : Body) (one : IsMaker program body) (block : Block) (index key r : ℕ)
      (operands : List Operand) → IsLastOf block index
      → MakerPlaced graph (made program body) block index
      (made_instr one.shape.kind key r one.k operands)
  unfolding function_of
  made_last body one block index key r operands last =
      by_kind (made program body) one.shape.kind one.shape.actor one.k one.object one.iso one.result
      (ap (λ all. actor_of all one.k) same_shapes
      ∙ ap (option_and_then (λ (shape : Shape). shape.actor)) one.is_shape) block index key r
      operands last

  module _ (ordered : List Body) (is : InOrder program ordered) (placed : ArePlaced program)
      (functions : graph.functions ≡ program.functions) where
    each : InEach program ordered
        (λ n function block index instr. MakerPlaced graph function block index instr)
    each = record {
      allowed = λ n body at host of block index instr ok.
          allowed (made program body) host (made program body).regs block index instr ok;
      makes = λ n body at one block index key r operands apart last.
          made_last body one block index key r operands last;
      gives = λ n body at one block index key s. tt;
    }

    pub makers_placed : EachFunction graph (λ body. (number index : ℕ) (block : Block)
        (instr : Instr) → slice_get body.blocks number ≡ Some block
        → slice_get block.instrs index ≡ Some instr → MakerPlaced graph body block index instr)
    makers_placed n body there =
        in_blocks program ordered
        (λ n function block index instr. MakerPlaced graph function block index instr) each is
        placed n body (subst (λ all. slice_get all n ≡ Some body) functions there)
