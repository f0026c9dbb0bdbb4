-- What a graph has to keep besides for its jobs never to get stuck.
use Rattle.std.specs.Prelude.{◌≡◌, ℕ, ◌<◌, IsSome, Some, None, List, []}
use Rattle.std.specs.Prelude.{slice_get}
use Rattle.std.specs.List.{Contains}
use Rattle.sw_types.specs.declared.isolation.CallKind.TheVariants.{Strong}
use Rattle.sw_types.specs.declared.isolation.Iso.TheVariants.{Free, Own}
use Rattle.sw_types.specs.declared.shape.Shape.{Shape}
use Rattle.sw_types.specs.declared.ty.Ty.TheVariants.{Unit as Void}
use Rattle.sw_graph.specs.declared.function.Function.{Function}
use Rattle.sw_graph.specs.declared.graph.Graph.{Graph}
use Rattle.sw_graph.specs.declared.instr.Instr.{Instr}
use Rattle.sw_graph.specs.declared.instr.Instr.TheVariants.{Call, NewTask}
use Rattle.sw_graph.specs.declared.instr.Last.TheVariants.{Return}
use Rattle.sw_graph.specs.Kinds.{shape_of, is_actor}
use Rattle.sw_graph.specs.Placed.{EachFunction, EachInstr, FunctionAt, GivesFirst, IsAlone, IsFirst}
use Rattle.sw_graph.specs.Points.{Middle, End, point_in}
use Rattle.sw_graph.specs.Stores.{StoresFirst}
use Rattle.sw_graph.specs.Sure.{SureWay}

-- A return of nothing stands in a function that gives nothing, if a way leads to it that no
-- constant rules out.
abbrev pub ReturnsResult : Function → Type 0
ReturnsResult function = (p : ℕ) (passed : List ℕ) → SureWay function p passed
    → point_in function p ≡ Some (End (Return None)) → function.result ≡ Void

-- A function that is isolated to `self` takes an actor first.
pub record TakesActor (shapes : List Shape) (function : Function) : Type 0 where
  pub takes : 0 < function.takes
  pub kind : IsSome (shape_of shapes is_actor (slice_get function.regs 0))

-- A strong call and a task that run on an actor's executor give that actor.
abbrev pub GivesActor : Graph → Function → Instr → Type 0
GivesActor graph body (Call at dst Strong number args) = FunctionAt graph number
    (λ function. function.iso ≡ Own → TakesActor graph.shapes function)
GivesActor graph body (NewTask at dst number captures) = FunctionAt graph number
    (λ function. function.iso ≡ Own → TakesActor graph.shapes function)
GivesActor graph body _ = Unit {0}

-- Functions begin with what they ask for, first of all those with which the machine begins.
pub record BeginsWell (graph : Graph) : Type 0 where
  pub actors : EachInstr graph (GivesActor graph)
  pub entry : FunctionAt graph graph.entry IsFirst
  pub firsts : (f : ℕ) → Contains graph.starts f → FunctionAt graph f IsFirst

-- Globals get their first values, and before that nothing reads them.
pub record SetsGlobals (graph : Graph) : Type 0 where
  pub alone : (f p : ℕ) (body : Function) (instr : Instr) → GivesFirst graph f
      → slice_get graph.functions f ≡ Some body → point_in body p ≡ Some (Middle instr)
      → IsAlone instr
  pub values : (g f : ℕ) → slice_get graph.starts g ≡ Some f → FunctionAt graph f (StoresFirst g)

pub record IsSupplied (graph : Graph) : Type 0 where
  pub begins : BeginsWell graph
  pub returns : EachFunction graph ReturnsResult
  pub globals : SetsGlobals graph

-- Graphs without globals, whose functions are isolated to no actor, and whose entry takes nothing.
pub record IsPlain (graph : Graph) : Type 0 where
  pub free : EachFunction graph (λ function. function.iso ≡ Free)
  pub entry : FunctionAt graph graph.entry (λ function. function.takes ≡ 0)
  pub globals : graph.globals ≡ []
