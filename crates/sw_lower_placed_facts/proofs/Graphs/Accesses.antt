-- Parts and global variables are accessed in bodies of their isolation, but for a `let` that is
-- read.
use Rattle.std.proofs.Common.{◌≡◌, ℕ, Bool, true, false, not, ◌||◌, List, Option, Some, None, refl}
use Rattle.std.proofs.Common.{All, sym, ap, subst, ◌∙◌, map, slice_get}
use Rattle.std.proofs.lemmas.Bool.{eq-eqb, not_from_false, or_left, or_right}
use Rattle.std.proofs.lemmas.Option.{slice_get-map}
use Rattle.std.specs.Option.{option_and_then, option_map, option_map_or}
use Rattle.std.specs.Prelude.{cond, ◌==◌}
use Rattle.sw_types.specs.declared.isolation.CallKind.TheVariants.{Same, Strong}
use Rattle.sw_types.specs.declared.isolation.Iso.{Iso}
use Rattle.sw_types.specs.declared.isolation.Iso.TheVariants as iso
use Rattle.sw_types.specs.declared.shape.Part.{Part}
use Rattle.sw_types.specs.declared.shape.Shape.{Shape}
use Rattle.sw_types.specs.declared.shape.ShapeKind.{ShapeKind}
use Rattle.sw_types.specs.declared.shape.ShapeKind.TheVariants as kinds
use Rattle.sw_types.specs.declared.ty.Ty.TheVariants as types
use Rattle.sw_graph.specs.Bodies.{is_on, is_own, is_self}
use Rattle.sw_types.specs.CallKinds.{global_kind, kind_by, own_kind}
use Rattle.sw_graph.specs.Kinds.{is_actor, is_cell, number_of, part, shape_at, shape_of}
use Rattle.sw_graph.specs.Placed.{AccessPlaced, ActorOfClass, EachInstr, is_inside}
use Rattle.sw_graph.specs.Placed.{is_inside_global}
use Rattle.sw_graph.specs.Placed.{is_inside_shape, is_var_global, is_var_part}
use Rattle.sw_graph.specs.declared.function.Function.{Function}
use Rattle.sw_graph.specs.declared.function.GlobalKind.{GlobalKind}
use Rattle.sw_graph.specs.declared.function.RegKind.{RegKind}
use Rattle.sw_graph.specs.declared.function.RegKind.TheVariants.{Plain}
use Rattle.sw_graph.specs.declared.graph.Graph.{Graph}
use Rattle.sw_graph.specs.declared.instr.Instr.{Instr}
use Rattle.sw_graph.specs.declared.instr.Instr.TheVariants.{LoadGlobal, LoadProp}
use Rattle.sw_graph.specs.declared.instr.Instr.TheVariants.{StoreGlobal, StoreProp}
use Rattle.sw_graph.specs.declared.instr.Operand.{Operand}
use Rattle.sw_graph.proofs.GlobalActorLemmas.{actor_alone}
use Rattle.sw_decls.specs.Signatures.{actor_iso}
use Rattle.sw_decls.specs.declared.signature.GlobalVar.{GlobalVar}
use Rattle.sw_typing_rules.specs.Worlds.{is_object_kind}
use Rattle.sw_isolation_rules.specs.Kinds.{is_strong, kind_iso}
use Rattle.sw_lower_code.specs.Whole.{Body, function_of}
use Rattle.sw_lower_rules.specs.Bodies.{global_kind as kind_of_global}
use Rattle.sw_lower_placed_facts.specs.Allowed.{IsAllowed, PartUsed, global_storage, is_away}
use Rattle.sw_lower_placed_facts.specs.Allowed.{used_storage}
use Rattle.sw_lower_placed_facts.specs.Bodies.{ArePlaced, IsFirstValue}
use Rattle.sw_lower_placed_facts.specs.Hosts.{Program, Host}
use Rattle.sw_lower_placed_facts.proofs.Graphs.Functions.{InOrder}
use Rattle.sw_lower_placed_facts.proofs.Graphs.Initialisers.{made}
use Rattle.sw_lower_placed_facts.proofs.Graphs.Selves.{own_is_self}
use Rattle.sw_lower_placed_facts.proofs.Graphs.Standing.{InEach, HostOf, at_points, made_either}

cell_kind : (kind : ShapeKind) → is_object_kind kind ≡ true → is_cell kind ≡ true
cell_kind kinds.Struct object = cc
cell_kind kinds.Enum object = cc
cell_kind kinds.Class object = refl
cell_kind kinds.Actor object = refl

-- the shape of the object or the actor in a register
pub cell_is : (shapes : List Shape) (regs : List RegKind) (r k : ℕ) (shape : Shape)
    → slice_get regs r ≡ Some (Plain (types.Named k)) → slice_get shapes k ≡ Some shape
    → is_object_kind shape.kind ≡ true → shape_of shapes is_cell (slice_get regs r) ≡ Some shape
cell_is shapes regs r k shape held is object =
    ap (shape_of shapes is_cell) held
    ∙ ap (λ layer. option_and_then (shape_at shapes is_cell) (number_of (Some layer)))
    (types.outs-Named k)
    ∙ ap (option_and_then (λ (s : Shape). cond (is_cell s.kind) (Some s) None)) is
    ∙ ap (λ cell. cond cell (Some shape) None) (cell_kind shape.kind object)

-- What a global actor isolates is inside where the body has the actor.
on_actor : (actor : ℕ) (around : Iso) → is_strong (global_kind actor around) ≡ false
    → is_on actor around ≡ true
on_actor actor iso.Free near = cc
on_actor actor iso.Own near = cc
on_actor actor iso.Caller near = cc
on_actor actor (iso.Global other) near = by (actor == other) near where
  by : (same : Bool) → is_strong (cond same Same Strong) ≡ false → same ≡ true
  by true near = refl
  by false near = cc

-- What is isolated to `self` is inside on `self`, where the body is isolated to it.
on_own : (on_self : Bool) (around : Iso) → is_strong (own_kind on_self around) ≡ false
    → (on_self ≡ true) × (is_own around ≡ true)
on_own true iso.Own near = (refl, refl)
on_own true iso.Free near = cc
on_own true (iso.Global actor) near = cc
on_own true iso.Caller near = cc
on_own false around near = cc

-- What an object or an actor stores is inside.
inside_by : (kind : ShapeKind) (actor : Option ℕ) (on_self self : Bool) (around : Iso)
    → is_object_kind kind ≡ true → (kind ≡ kinds.Actor → actor ≡ None)
    → (on_self ≡ true → is_own around ≡ true → self ≡ true)
    → is_strong (kind_by (kind_iso kind actor) false on_self around) ≡ false
    → option_map_or (λ one. is_on one around) actor (not (is_actor kind) || self) ≡ true
inside_by kinds.Struct actor on_self self around object alone own near = cc
inside_by kinds.Enum actor on_self self around object alone own near = cc
inside_by kinds.Class None on_self self around object alone own near = refl
inside_by kinds.Class (Some actor) on_self self around object alone own near =
    on_actor actor around near
inside_by kinds.Actor actor on_self self around object alone own near =
    let parts = on_own on_self around near in
    ap (λ found. option_map_or (λ one. is_on one around) found self) (alone refl)
    ∙ own parts.0 parts.1

-- what a global variable stores
global_by : (actor : Option ℕ) (around : Iso)
    → is_strong (kind_by (actor_iso actor) false false around) ≡ false
    → option_map_or (λ one. is_on one around) actor true ≡ true
global_by None around near = refl
global_by (Some actor) around near = on_actor actor around near

-- A `let` is read from elsewhere, and all else inside.
read_by : (away variable inside : Bool) → (away ≡ true → variable ≡ false)
    → (away ≡ false → inside ≡ true) → (not variable || inside) ≡ true
read_by true variable inside constant near =
    or_left (not variable) inside (not_from_false variable (constant refl))
read_by false variable inside constant near = or_right (not variable) inside (near refl)

-- The first value of a global variable is given in its own isolation.
pub own_global : (actor : Option ℕ) (around : Iso) → around ≡ actor_iso actor
    → option_map_or (λ one. is_on one around) actor true ≡ true
own_global None around same = refl
own_global (Some actor) around same = ap (is_on actor) same ∙ eq-eqb actor actor refl

module _ (program : Program) where
  abbrev pub shapes : List Shape
  shapes = program.tables.world.shapes

  abbrev pub globals : List GlobalKind
  globals = map kind_of_global program.tables.world.globals

  pub global_at : (g : ℕ) (global : GlobalVar)
      → slice_get program.tables.world.globals g ≡ Some global
      → slice_get globals g ≡ Some (kind_of_global global)
  global_at g global is =
      slice_get-map kind_of_global program.tables.world.globals g
      ∙ ap (option_map kind_of_global) is

  module _ (actors : All ActorOfClass shapes) (function : Function) (host : Host)
      (of : HostOf function host) where
    -- A part that isn't another isolation's is inside.
    pub part_inside : (o : Operand) (i : ℕ) (used : PartUsed program host function.regs o i)
        → is_away host.iso (used_storage program host function.regs o i used) ≡ false
        → is_inside shapes function o ≡ true
    part_inside o i used near =
        ap (λ found. option_map_or (is_inside_shape function o) found false)
        (cell_is shapes function.regs o.reg used.k used.shape used.held used.is_shape used.object)
        ∙ inside_by used.shape.kind used.shape.actor used.on_self (is_self function o) function.iso
        used.object (actor_alone shapes used.k used.shape actors used.is_shape)
        (λ on own. own_is_self function host of o (used.own on) own)
        (ap (λ around. is_away around (used_storage program host function.regs o i used))
        (sym of.iso) ∙ near)

    pub part_variable : (o : Operand) (i : ℕ) (used : PartUsed program host function.regs o i)
        → is_var_part shapes function o i ≡ used.part.mutable
    part_variable o i used =
        ap (λ found. option_map_or (λ (s : Shape).
        option_map_or (λ (one : Part). one.mutable) (slice_get s.parts i) false) found false)
        (cell_is shapes function.regs o.reg used.k used.shape used.held used.is_shape used.object)
        ∙ ap (λ found. option_map_or (λ (one : Part). one.mutable) found false) used.is_part

    pub part_holds : (o : Operand) (i : ℕ) (used : PartUsed program host function.regs o i)
        → part (shape_of shapes is_cell (slice_get function.regs o.reg)) i
        ≡ Some (Plain used.part.ty)
    part_holds o i used =
        ap (λ found. part found i)
        (cell_is shapes function.regs o.reg used.k used.shape used.held used.is_shape used.object)
        ∙ ap (option_map (λ (one : Part). Plain one.ty)) used.is_part

    pub global_inside : (g : ℕ) (global : GlobalVar)
        → slice_get program.tables.world.globals g ≡ Some global
        → is_away host.iso (global_storage program global) ≡ false
        → is_inside_global globals function g ≡ true
    global_inside g global is near =
        ap (λ found. option_map_or (λ (one : GlobalKind).
        option_map_or (λ actor. is_on actor function.iso) one.actor true) found false)
        (global_at g global is)
        ∙ global_by global.actor function.iso
        (ap (λ around. is_away around (global_storage program global)) (sym of.iso) ∙ near)

    pub global_variable : (g : ℕ) (global : GlobalVar)
        → slice_get program.tables.world.globals g ≡ Some global
        → is_var_global globals g ≡ global.mutable
    global_variable g global is =
        ap (λ found. option_map_or (λ (one : GlobalKind). one.mutable) found false)
        (global_at g global is)

    module _ (graph : Graph) (same_shapes : graph.shapes ≡ shapes)
        (same_globals : graph.globals ≡ globals) where
      allowed : (instr : Instr) → IsAllowed program host function.regs instr
          → AccessPlaced graph function instr
      allowed (LoadProp at r o i) ok =
          let used = ok.uses.used in
          subst (λ all. (not (is_var_part all function o i) || is_inside all function o) ≡ true)
          (sym same_shapes)
          (read_by (is_away host.iso (used_storage program host function.regs o i used))
          (is_var_part shapes function o i) (is_inside shapes function o)
          (λ away. part_variable o i used ∙ ok.uses.ok.constant away) (part_inside o i used))
      allowed (StoreProp at o i s) ok =
          subst (λ all. is_inside all function o ≡ true) (sym same_shapes)
          (part_inside o i ok.uses.used ok.uses.ok.inside)
      allowed (LoadGlobal at r g) ok =
          let global = ok.uses.global in
          subst (λ all. (not (is_var_global all g) || is_inside_global all function g) ≡ true)
          (sym same_globals)
          (read_by (is_away host.iso (global_storage program global)) (is_var_global globals g)
          (is_inside_global globals function g)
          (λ away. global_variable g global ok.uses.is ∙ ok.uses.ok.constant away)
          (global_inside g global ok.uses.is))
      allowed (StoreGlobal at g s) ok =
          subst (λ all. is_inside_global all function g ≡ true) (sym same_globals)
          (global_inside g ok.uses.global ok.uses.is ok.uses.ok.inside)
      allowed _ ok = tt

  -- what gives a first value
  gives_inside : (body : Body) (one : IsFirstValue program body)
      → is_inside_global globals (made program body) one.g ≡ true
  unfolding function_of
  gives_inside body one =
      ap (λ found. option_map_or (λ (global : GlobalKind).
      option_map_or (λ actor. is_on actor body.iso) global.actor true) found false)
      (global_at one.g one.global one.is)
      ∙ own_global one.global.actor body.iso one.iso

  module _ (ordered : List Body) (is : InOrder program ordered) (placed : ArePlaced program)
      (actors : All ActorOfClass shapes) (graph : Graph) (same_shapes : graph.shapes ≡ shapes)
      (same_globals : graph.globals ≡ globals)
      (functions : graph.functions ≡ program.functions) where
    each : InEach program ordered
        (λ n function block index instr. AccessPlaced graph function instr)
    each = record {
      allowed = λ n body at host of block index instr ok.
          allowed actors _ host of graph same_shapes same_globals instr ok;
      makes = λ n body at one block index key r operands apart last.
          made_either (AccessPlaced graph (made program body)) one.shape.kind key r
          one.k operands tt tt;
      gives = λ n body at one block index key s.
          subst (λ all. is_inside_global all (made program body) one.g ≡ true) (sym same_globals)
          (gives_inside body one);
    }

    pub accesses_placed : EachInstr graph (AccessPlaced graph)
    accesses_placed n function there =
        at_points program ordered (λ n function instr. AccessPlaced graph function instr) each is
        placed n function (subst (λ all. slice_get all n ≡ Some function) functions there)
