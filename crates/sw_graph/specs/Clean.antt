-- What a graph of a program that keeps the rules of Sendable has (SE-0302, SE-0306, SE-0316,
-- SE-0412, SE-0430).
use Rattle.std.specs.Prelude.{◌≡◌, Bool, false, ◌&&◌, ◌||◌, not, IsTrue, Option, Some, None, All}
use Rattle.std.specs.Prelude.{slice_get}
use Rattle.std.specs.List.{list_all}
use Rattle.std.specs.Option.{option_map_or}
use Rattle.sw_types.specs.declared.isolation.CallKind.TheVariants.{Strong}
use Rattle.sw_types.specs.declared.isolation.Iso.TheVariants.{Free}
use Rattle.sw_types.specs.declared.shape.Shape.{Shape}
use Rattle.sw_types.specs.declared.ty.Ty.{Ty}
use Rattle.sw_types.specs.Accepts.{is_marked}
use Rattle.sw_types.specs.Held.{types_in}
use Rattle.sw_types.specs.Sendable.{is_sendable}
use Rattle.sw_graph.specs.declared.graph.Graph.{Graph}
use Rattle.sw_graph.specs.declared.function.Function.{Function}
use Rattle.sw_graph.specs.declared.function.GlobalKind.{GlobalKind}
use Rattle.sw_graph.specs.declared.function.RegKind.{RegKind}
use Rattle.sw_graph.specs.declared.function.RegKind.TheVariants.{Plain}
use Rattle.sw_graph.specs.declared.instr.Instr.{Instr}
use Rattle.sw_graph.specs.declared.instr.Instr.TheVariants.{LoadProp, LoadGlobal, NewClosure, Call}
use Rattle.sw_graph.specs.declared.instr.Instr.TheVariants.{NewTask}
use Rattle.sw_graph.specs.Kinds.{kinds_of, part, shape_of, is_cell, is_class}
use Rattle.sw_graph.specs.Placed.{EachInstr, FunctionAt, is_inside, is_var_part, is_var_global}
use Rattle.sw_graph.specs.Placed.{is_inside_global, IsPlaced}

-- Whether values of a type may cross between the isolations of a graph.
abbrev pub may_cross : Graph → Ty → Bool
may_cross graph ty = is_sendable graph.shapes ty

-- A register is untracked where it is no box and its type is Sendable.
abbrev pub is_untracked : Graph → Option RegKind → Bool
is_untracked graph (Some (Plain ty)) = may_cross graph ty
is_untracked graph _ = false

-- whether the register holds a `@Sendable` function
abbrev pub is_marked_kind : Option RegKind → Bool
is_marked_kind (Some (Plain ty)) = is_marked ty
is_marked_kind _ = false

-- A `@Sendable` closure is isolated to no actor and captures untracked registers alone.
abbrev pub ClosureClean : Graph → Function → Instr → Type 0
ClosureClean graph body (NewClosure at dst number captures) =
    IsTrue (is_marked_kind (slice_get body.regs dst))
    → FunctionAt graph number (λ function. function.iso ≡ Free)
    × IsTrue (list_all (is_untracked graph) (kinds_of body.regs captures))
ClosureClean graph body _ = Unit {0}

-- The result of a call into another isolation is untracked or `sending`.
abbrev pub CallClean : Graph → Function → Instr → Type 0
CallClean graph body (Call at dst kind function args) = kind ≡ Strong
    → FunctionAt graph function
    (λ callee. IsTrue (callee.sends || is_untracked graph (slice_get body.regs dst)))
CallClean graph body _ = Unit {0}

-- A task's result is Sendable.
abbrev pub TaskClean : Graph → Instr → Type 0
TaskClean graph (NewTask at dst number captures) = FunctionAt graph number
    (λ function. IsTrue (may_cross graph function.result))
TaskClean graph _ = Unit {0}

-- What is read directly from outside its isolation is an untracked `let`.
abbrev pub ReadClean : Graph → Function → Instr → Type 0
ReadClean graph body (LoadProp at dst cell index) = is_inside graph.shapes body cell ≡ false
    → IsTrue (not (is_var_part graph.shapes body cell index)
    && is_untracked graph
    (part (shape_of graph.shapes is_cell (slice_get body.regs cell.reg)) index))
ReadClean graph body (LoadGlobal at dst number) = is_inside_global graph.globals body number ≡ false
    → IsTrue (not (is_var_global graph.globals number)
    && option_map_or (λ global. may_cross graph global.ty) (slice_get graph.globals number) false)
ReadClean graph body _ = Unit {0}

-- Whether a declaration that says it is Sendable may: its parts are, and a class without a global
-- actor has no `var`.
abbrev pub conforms : Graph → Shape → Bool
conforms graph shape = list_all (may_cross graph) (types_in shape)
    && (not (is_class shape.kind) || list_all (λ part. not part.mutable) shape.parts)

-- A declared type that says it is Sendable may say so, except for one with a global actor. In a
-- placed graph that is a class.
abbrev pub ShapeClean : Graph → Shape → Type 0
ShapeClean graph shape = IsTrue shape.conforms → shape.actor ≡ None → IsTrue (conforms graph shape)

-- A global without a global actor is an untracked `let`.
abbrev pub GlobalClean : Graph → GlobalKind → Type 0
GlobalClean graph global = global.actor ≡ None
    → IsTrue (not global.mutable && may_cross graph global.ty)

-- The graph is clean: it is placed, and what crosses from one isolation to another may cross.
pub record IsClean (graph : Graph) : Type 0 where
  pub placed : IsPlaced graph
  pub closures : EachInstr graph (ClosureClean graph)
  pub calls : EachInstr graph (CallClean graph)
  pub tasks : EachInstr graph (λ body. TaskClean graph)
  pub reads : EachInstr graph (ReadClean graph)
  pub conformances : All (ShapeClean graph) graph.shapes
  pub globals : All (GlobalClean graph) graph.globals
