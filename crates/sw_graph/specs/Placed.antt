-- Where calls, accesses and makers stand in the bodies of a graph, by isolation (SE-0306, SE-0316).
use Rattle.std.specs.Prelude.{◌≡◌, ℕ, ◌+◌, ◌<◌, Bool, true, false, ◌&&◌, ◌||◌, not, IsTrue, IsSome}
use Rattle.std.specs.Prelude.{Some, List, [], ◌∷◌, length, All, ◌≢◌}
use Rattle.std.specs.Prelude.{slice_get}
use Rattle.std.specs.List.{Contains}
use Rattle.std.specs.Option.{option_map_or}
use Rattle.sw_types.specs.declared.isolation.Iso.{Iso}
use Rattle.sw_types.specs.declared.isolation.Iso.TheVariants.{Free, Own, Global, Caller}
use Rattle.sw_types.specs.declared.isolation.CallKind.{CallKind}
use Rattle.sw_types.specs.declared.isolation.CallKind.TheVariants.{Same}
use Rattle.sw_types.specs.declared.shape.Shape.{Shape}
use Rattle.sw_types.specs.declared.shape.ShapeKind.TheVariants.{Class}
use Rattle.sw_graph.specs.declared.graph.Graph.{Graph}
use Rattle.sw_graph.specs.declared.function.Function.{Function}
use Rattle.sw_graph.specs.declared.function.GlobalKind.{GlobalKind}
use Rattle.sw_graph.specs.declared.instr.Block.{Block}
use Rattle.sw_graph.specs.declared.instr.Instr.{Instr}
use Rattle.sw_graph.specs.declared.instr.Instr.TheVariants.{Make, NewObject, NewBox, NewActor}
use Rattle.sw_graph.specs.declared.instr.Instr.TheVariants.{LoadProp, StoreProp, LoadGlobal}
use Rattle.sw_graph.specs.declared.instr.Instr.TheVariants.{StoreGlobal, NewClosure, Call, NewTask}
use Rattle.sw_graph.specs.declared.instr.Last.{Last}
use Rattle.sw_graph.specs.declared.instr.Last.TheVariants.{Return}
use Rattle.sw_graph.specs.declared.instr.Operand.{Operand}
use Rattle.sw_graph.specs.Bodies.{is_own, is_on, names, actor_of, is_actor_initialiser}
use Rattle.sw_graph.specs.Bodies.{is_class_initialiser, has_self, is_self, first_is_self}
use Rattle.sw_types.specs.CallKinds.{Callee, call_kind}
use Rattle.sw_graph.specs.Kinds.{shape_of, is_actor, is_cell}
use Rattle.sw_graph.specs.Mentions.{reads}
use Rattle.sw_graph.specs.Points.{Middle, point_in}
use Rattle.sw_graph.specs.Ways.{point_sets}

-- what holds of each function
abbrev pub EachFunction : Graph → (Function → Type 0) → Type 0
EachFunction graph P = (n : ℕ) (function : Function) → slice_get graph.functions n ≡ Some function
    → P function

-- what holds of each instruction of each body
abbrev pub EachInstr : Graph → (Function → Instr → Type 0) → Type 0
EachInstr graph P = EachFunction graph (λ body. (p : ℕ) (instr : Instr)
    → point_in body p ≡ Some (Middle instr) → P body instr)

-- what holds of the function with a number
abbrev pub FunctionAt : Graph → ℕ → (Function → Type 0) → Type 0
FunctionAt graph f P = (function : Function) → slice_get graph.functions f ≡ Some function
    → P function

abbrev pub callee_of : Bool → Function → Callee
callee_of on_self callee = record {
  iso = callee.iso;
  is_async = callee.is_async;
  is_initialiser = is_actor_initialiser callee;
  on_self = on_self;
}

-- A call has the kind that its callee and the caller's isolation give, on `self` or on something
-- else. One within an actor is on the body's own `self`. So may others be: what `await self` gives
-- is no `self` by the table of kinds, so a call on it is one into another isolation.
pub record HasCallKind (body callee : Function) (operands : List Operand) (kind : CallKind)
    : Type 0 where
  pub on_self : Bool
  pub given : kind ≡ call_kind (callee_of on_self callee) body.iso
  pub within : kind ≡ Same → callee.iso ≡ Own → IsTrue (first_is_self body operands)

-- each call of a body has the kind that isolation gives it
abbrev pub CallPlaced : Graph → Function → Instr → Type 0
CallPlaced graph body (Call at dst kind function args) = FunctionAt graph function
    (λ callee. HasCallKind body callee args kind)
CallPlaced graph body _ = Unit {0}

-- Of declared types only classes have a global actor.
abbrev pub ActorOfClass : Shape → Type 0
ActorOfClass shape = IsSome shape.actor → shape.kind ≡ Class

-- Whether a part of this cell is the body's own: a part of its own `self`, or of an object of a
-- class that has the body's global actor or none.
abbrev pub is_inside_shape : Function → Operand → Shape → Bool
is_inside_shape body cell shape =
    option_map_or (λ actor. is_on actor body.iso) shape.actor
    (not (is_actor shape.kind) || is_self body cell)

abbrev pub is_inside : List Shape → Function → Operand → Bool
is_inside shapes body cell =
    option_map_or (is_inside_shape body cell)
    (shape_of shapes is_cell (slice_get body.regs cell.reg)) false

-- whether part i of a cell is a `var`
abbrev pub is_var_part : List Shape → Function → Operand → ℕ → Bool
is_var_part shapes body cell i =
    option_map_or (λ shape. option_map_or (λ part. part.mutable) (slice_get shape.parts i) false)
    (shape_of shapes is_cell (slice_get body.regs cell.reg)) false

abbrev pub is_var_global : List GlobalKind → ℕ → Bool
is_var_global globals g = option_map_or (λ global. global.mutable) (slice_get globals g) false

-- whether a global is isolated to nothing, or to the body's global actor
abbrev pub is_inside_global : List GlobalKind → Function → ℕ → Bool
is_inside_global globals body g =
    option_map_or (λ global. option_map_or (λ actor. is_on actor body.iso) global.actor true)
    (slice_get globals g) false

-- A part or a global is accessed in a body of its isolation, but for a `let` that is read.
abbrev pub AccessPlaced : Graph → Function → Instr → Type 0
AccessPlaced graph body (LoadProp at dst cell part) =
    IsTrue (not (is_var_part graph.shapes body cell part) || is_inside graph.shapes body cell)
AccessPlaced graph body (StoreProp at cell part src) = IsTrue (is_inside graph.shapes body cell)
AccessPlaced graph body (LoadGlobal at dst global) =
    IsTrue (not (is_var_global graph.globals global) || is_inside_global graph.globals body global)
AccessPlaced graph body (StoreGlobal at global src) =
    IsTrue (is_inside_global graph.globals body global)
AccessPlaced graph body _ = Unit {0}

-- A `var` part is stored, and a global `let` by a function that gives a first value alone.
abbrev pub StorePlaced : Graph → ℕ → Function → Instr → Type 0
StorePlaced graph n body (StoreProp at cell part src) =
    IsTrue (is_var_part graph.shapes body cell part)
StorePlaced graph n body (StoreGlobal at global src) = is_var_global graph.globals global ≡ false
    → Contains graph.starts n
StorePlaced graph n body _ = Unit {0}

-- a block ends with a return
abbrev pub IsReturn : Last → Type 0
IsReturn (Return value) = Unit {0}
IsReturn _ = ⊥

-- the instruction stands directly before a return
pub record IsLastOf (block : Block) (index : ℕ) : Type 0 where
  pub last : index + 1 ≡ length block.instrs
  pub returns : IsReturn block.last

-- An actor is made as the last of its initialiser, and so is an object of a class with a global
-- actor.
abbrev pub MakerPlaced : Graph → Function → Block → ℕ → Instr → Type 0
MakerPlaced graph body block index (NewActor at dst shape args) =
    IsTrue (is_own body.iso && names shape body.result) × IsLastOf block index
MakerPlaced graph body block index (NewObject at dst shape args) =
    (actor : ℕ) → actor_of graph.shapes shape ≡ Some actor
    → IsTrue (is_on actor body.iso && names shape body.result) × IsLastOf block index
MakerPlaced graph body block index _ = Unit {0}

-- An isolated function stands in a body of its isolation, and one that is isolated to `self` gets
-- the body's own `self` first.
abbrev pub MadeInside : Function → List Operand → Iso → Type 0
MadeInside body captures Own = IsTrue (first_is_self body captures)
MadeInside body captures (Global actor) = IsTrue (is_on actor body.iso)
MadeInside body captures Free = Unit {0}
MadeInside body captures Caller = Unit {0}

-- A task may run anywhere; one that is isolated to `self` gets the body's own `self` first.
abbrev pub TaskInside : Function → List Operand → Iso → Type 0
TaskInside body captures Own = IsTrue (first_is_self body captures)
TaskInside body captures _ = Unit {0}

-- A function that a closure or a task runs isn't its caller's, marks nothing as `sending` and is no
-- initialiser.
pub record IsRunApart (shapes : List Shape) (function : Function) : Type 0 where
  pub iso : function.iso ≢ Caller
  pub sending : All (λ sends. sends ≡ false) function.sending
  pub actor : is_actor_initialiser function ≡ false
  pub class : is_class_initialiser shapes function ≡ false

-- closures and tasks stand where their isolation lets them
abbrev pub ApartPlaced : Graph → Function → Instr → Type 0
ApartPlaced graph body (NewClosure at dst number captures) = FunctionAt graph number
    (λ function. MadeInside body captures function.iso × IsRunApart graph.shapes function)
ApartPlaced graph body (NewTask at dst number captures) = FunctionAt graph number
    (λ function. TaskInside body captures function.iso × IsRunApart graph.shapes function)
ApartPlaced graph body _ = Unit {0}

-- Where a body has its own `self`, that is the actor in register 0, which is taken and never set.
pub record HasSelf (shapes : List Shape) (function : Function) : Type 0 where
  pub taken : 0 < function.takes
  pub kind : IsSome (shape_of shapes is_actor (slice_get function.regs 0))
  pub stays : (p : ℕ) → point_sets 0 (point_in function p) ≡ false

-- the functions that an instruction leads to by a call or a closure
abbrev pub leads_to : Instr → List ℕ
leads_to (NewClosure at dst function captures) = function ∷ []
leads_to (Call at dst kind function args) = function ∷ []
leads_to _ = []

-- the functions that give first values, and those that they lead to
pub data GivesFirst (graph : Graph) : ℕ → Type 0 where
  starts : (f : ℕ) → Contains graph.starts f → GivesFirst graph f
  leads : (n f p : ℕ) (body : Function) (instr : Instr) → GivesFirst graph n
      → slice_get graph.functions n ≡ Some body → point_in body p ≡ Some (Middle instr)
      → Contains (leads_to instr) f → GivesFirst graph f

-- It reads no global and makes no task.
abbrev pub IsAlone : Instr → Type 0
IsAlone (LoadGlobal at dst global) = ⊥
IsAlone (NewTask at dst function captures) = ⊥
IsAlone _ = Unit {0}

-- the functions that an instruction names
abbrev pub named_by : Instr → List ℕ
named_by (NewTask at dst function captures) = function ∷ []
named_by instr = leads_to instr

-- isolated to no actor or to a global actor
abbrev pub IsFreeOrGlobal : Iso → Type 0
IsFreeOrGlobal Free = Unit {0}
IsFreeOrGlobal (Global actor) = Unit {0}
IsFreeOrGlobal Own = ⊥
IsFreeOrGlobal Caller = ⊥

-- what holds of the entry and of the functions that give first values: they take nothing, and are
-- isolated to no actor or to a global actor
pub record IsFirst (function : Function) : Type 0 where
  pub takes : function.takes ≡ 0
  pub iso : IsFreeOrGlobal function.iso

-- The register that is given a new value is none of the operands.
abbrev pub SetsApart : Instr → Type 0
SetsApart (Make at dst shape tag args) = Contains (reads (Make at dst shape tag args)) dst → ⊥
SetsApart (NewObject at dst shape args) = Contains (reads (NewObject at dst shape args)) dst → ⊥
SetsApart (NewBox at dst src) = Contains (reads (NewBox at dst src)) dst → ⊥
SetsApart (NewClosure at dst function captures) =
    Contains (reads (NewClosure at dst function captures)) dst → ⊥
SetsApart _ = Unit {0}

-- The graph is placed: its calls, accesses, makers, closures and tasks stand where their isolation
-- lets them, and only classes have a global actor.
pub record IsPlaced (graph : Graph) : Type 0 where
  pub actors : All ActorOfClass graph.shapes
  pub calls : EachInstr graph (CallPlaced graph)
  pub accesses : EachInstr graph (AccessPlaced graph)
  pub stores : (n : ℕ) (body : Function) (p : ℕ) (instr : Instr)
      → slice_get graph.functions n ≡ Some body → point_in body p ≡ Some (Middle instr)
      → StorePlaced graph n body instr
  pub makers : EachFunction graph (λ body. (number index : ℕ) (block : Block) (instr : Instr)
      → slice_get body.blocks number ≡ Some block → slice_get block.instrs index ≡ Some instr
      → MakerPlaced graph body block index instr)
  pub apart : EachInstr graph (ApartPlaced graph)
  pub selves : EachFunction graph
      (λ body. IsTrue (has_self body) → HasSelf graph.shapes body)
  pub alone : (f p : ℕ) (body : Function) (instr : Instr) → GivesFirst graph f
      → slice_get graph.functions f ≡ Some body → point_in body p ≡ Some (Middle instr)
      → IsAlone instr
  pub unnamed : EachInstr graph (λ body instr. (f : ℕ) → Contains graph.starts f
      → Contains (named_by instr) f → ⊥)
  pub entry : FunctionAt graph graph.entry IsFirst
  pub firsts : (f : ℕ) → Contains graph.starts f → FunctionAt graph f IsFirst
  pub sets : EachInstr graph (λ body. SetsApart)
