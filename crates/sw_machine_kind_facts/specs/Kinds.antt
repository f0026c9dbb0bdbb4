-- When a value is of the kind of its place, and what the cells hold that values refer to.
use Rattle.std.specs.Prelude.{◌≡◌, ℕ, ℤ, Bool, Option, Some, None, List, ◌++◌, length, map}
use Rattle.std.specs.Prelude.{slice_get}
use Rattle.sw_types.specs.declared.shape.Shape.{Shape}
use Rattle.sw_types.specs.declared.shape.ShapeKind.{ShapeKind}
use Rattle.sw_types.specs.declared.shape.ShapeKind.TheVariants as shape
use Rattle.sw_types.specs.declared.ty.Ty.{Ty, out-Ty}
use Rattle.sw_types.specs.declared.ty.Ty.TheOpen as type
use Rattle.sw_graph.specs.declared.function.Function.{Function}
use Rattle.sw_graph.specs.declared.function.RegKind.{RegKind}
use Rattle.sw_graph.specs.declared.function.RegKind.TheVariants.{Plain, BoxOf}
use Rattle.sw_graph.specs.declared.graph.Graph.{Graph}
use Rattle.sw_graph.specs.declared.instr.Instr.{Instr}
use Rattle.sw_graph.specs.declared.instr.Instr.TheVariants.{NewClosure, NewTask}
use Rattle.sw_graph.specs.declared.instr.Operand.{Operand}
use Rattle.sw_graph.specs.Kinds.{IsCaptured, form_of, kinds_of, shape_of, shape_at, is_struct}
use Rattle.sw_graph.specs.Kinds.{is_enum, is_class}
use Rattle.sw_graph.specs.Kinds.{is_actor, parts, payload, box_content, taken}
use Rattle.sw_graph.specs.Points.{Middle, point_in}
use Rattle.sw_value.specs.declared.value.Value.{Value, out-Value}
use Rattle.sw_value.specs.declared.value.Value.TheOpen as layer
use Rattle.sw_value.specs.declared.cell.HeapCell.{HeapCell}
use Rattle.sw_value.specs.declared.cell.HeapCell.TheVariants as cell
use Rattle.sw_value.specs.Value.{value_at}

-- what the values of a kind are made as
pub data ValueSort : Type 0 where
  Integer : ValueSort
  Truth : ValueSort
  Void : ValueSort
  Struct : ValueSort
  Enum : ValueSort
  Reference : ValueSort
  Nothing : ValueSort

abbrev pub declared_sort : ShapeKind → ValueSort
declared_sort shape.Struct = Struct
declared_sort shape.Enum = Enum
declared_sort shape.Class = Reference
declared_sort shape.Actor = Reference

abbrev pub shape_sort : Option Shape → ValueSort
shape_sort (Some shape) = declared_sort shape.kind
shape_sort None = Nothing

abbrev pub layer_sort : List Shape → type.Ty-F Ty → ValueSort
layer_sort shapes type.Int = Integer
layer_sort shapes type.Bool = Truth
layer_sort shapes type.Unit = Void
layer_sort shapes (type.Named k) = shape_sort (slice_get shapes k)
layer_sort shapes (type.Func sendable params result) = Reference
layer_sort shapes (type.Task result) = Reference

-- Objects, actors, closures, tasks and boxes are referred to.
abbrev pub sort_of : List Shape → RegKind → ValueSort
sort_of shapes (Plain ty) = layer_sort shapes (out-Ty ty)
sort_of shapes (BoxOf ty) = Reference

-- A value has a kind: of a struct each part has its kind, of an enum's case each value of the
-- payload, and a reference leads to a cell whose own kind goes there. `cells` has the kinds of the
-- cells, by number.
pub data HasKind (shapes : List Shape) (cells : List RegKind) : Value → RegKind → Type 0 where
  integer : (v : Value) (kind : RegKind) (n : ℤ) → out-Value v ≡ layer.Int n
      → sort_of shapes kind ≡ Integer → HasKind shapes cells v kind
  truth : (v : Value) (kind : RegKind) (b : Bool) → out-Value v ≡ layer.Bool b
      → sort_of shapes kind ≡ Truth → HasKind shapes cells v kind
  void : (v : Value) (kind : RegKind) → out-Value v ≡ layer.Unit → sort_of shapes kind ≡ Void
      → HasKind shapes cells v kind
  refers : (v : Value) (kind : RegKind) (c : ℕ) (from : RegKind) → out-Value v ≡ layer.Cell c
      → sort_of shapes kind ≡ Reference → slice_get cells c ≡ Some from
      → IsCaptured (Some from) (Some kind) → HasKind shapes cells v kind
  group : (v : Value) (kind : RegKind) (vs : List Value) (kinds : List RegKind)
      → out-Value v ≡ layer.Group vs → sort_of shapes kind ≡ Struct
      → parts (shape_of shapes is_struct (Some kind)) ≡ Some kinds → length vs ≡ length kinds
      → ((i : ℕ) (w : Value) (k : RegKind) → slice_get vs i ≡ Some w → slice_get kinds i ≡ Some k
      → HasKind shapes cells w k) → HasKind shapes cells v kind
  choice : (v : Value) (kind : RegKind) (tag : ℕ) (vs : List Value) (kinds : List RegKind)
      → out-Value v ≡ layer.Case tag vs → sort_of shapes kind ≡ Enum
      → payload (shape_of shapes is_enum (Some kind)) tag ≡ Some kinds → length vs ≡ length kinds
      → ((i : ℕ) (w : Value) (k : RegKind) → slice_get vs i ≡ Some w → slice_get kinds i ≡ Some k
      → HasKind shapes cells w k) → HasKind shapes cells v kind

-- as many values as kinds, each of its kind
pub record HaveKinds (shapes : List Shape) (cells : List RegKind) (vs : List Value)
    (kinds : List RegKind) : Type 0 where
  pub count : length vs ≡ length kinds
  pub each : (i : ℕ) (w : Value) (k : RegKind) → slice_get vs i ≡ Some w
      → slice_get kinds i ≡ Some k → HasKind shapes cells w k

-- the same, where the kinds are known
pub record HavePlaces (shapes : List Shape) (cells : List RegKind) (vs : List Value)
    (places : Option (List RegKind)) : Type 0 where
  pub kinds : List RegKind
  pub are : places ≡ Some kinds
  pub have : HaveKinds shapes cells vs kinds

-- as many registers or globals as kinds; where one has a value, it has its kind
pub record SlotsFit (shapes : List Shape) (cells : List RegKind) (slots : List (Option Value))
    (kinds : List RegKind) : Type 0 where
  pub count : length slots ≡ length kinds
  pub each : (r : ℕ) (v : Value) (kind : RegKind) → value_at slots r ≡ Some v
      → slice_get kinds r ≡ Some kind → HasKind shapes cells v kind

-- What references lead to: the kind of each cell, by number, and the type of each job's result.
pub record Referents : Type 0 where
  pub cells : List RegKind
  pub results : List Ty

-- what was there is there
abbrev pub IsMore : {A : Type 0} → List A → List A → Type 0
IsMore {A} xs ys = (k : ℕ) (x : A) → slice_get xs k ≡ Some x → slice_get ys k ≡ Some x

-- cells and jobs keep their kinds and results, and there may be more of them
pub record Grows (before after : Referents) : Type 0 where
  pub cells : IsMore before.cells after.cells
  pub results : IsMore before.results after.results

-- A box holds a value of its kind.
pub record BoxFits (shapes : List Shape) (cells : List RegKind) (v : Value) (kind : RegKind)
    : Type 0 where
  pub inner : RegKind
  pub is : box_content (Some kind) ≡ Some inner
  pub fits : HasKind shapes cells v inner

-- A function of the graph has the instruction.
pub record HasInstr (graph : Graph) (body : Function) (instr : Instr) : Type 0 where
  pub number : ℕ
  pub is : slice_get graph.functions number ≡ Some body
  pub point : ℕ
  pub here : point_in body point ≡ Some (Middle instr)

-- How a closure was made: by an instruction that puts it into a register of this kind, of operands
-- whose registers have these kinds. They say more than the kinds of the captures, which may lack a
-- mark `@Sendable` that an operand's type has.
pub record ClosureMade (graph : Graph) (cells : List RegKind) (number : ℕ) (captures : List Value)
    (kind : RegKind) : Type 0 where
  pub body : Function
  pub at : ℕ
  pub register : ℕ
  pub operands : List Operand
  pub maker : HasInstr graph body (NewClosure at register number operands)
  pub given : slice_get body.regs register ≡ Some kind
  pub kinds : List RegKind
  pub are : kinds_of body.regs operands ≡ map Some kinds
  pub have : HaveKinds graph.shapes cells captures kinds

-- A closure has captured what its function takes first; it takes the rest, and gives the result.
pub record ClosureFits (graph : Graph) (cells : List RegKind) (number : ℕ) (captures : List Value)
    (kind : RegKind) : Type 0 where
  pub function : Function
  pub is : slice_get graph.functions number ≡ Some function
  pub captured : List RegKind
  pub params : List Ty
  pub takes : taken function ≡ captured ++ map Plain params
  pub have : HaveKinds graph.shapes cells captures captured
  pub sendable : Bool
  pub form : form_of (Some kind) ≡ Some (type.Func sendable params function.result)
  pub made : ClosureMade graph cells number captures kind

-- How a task was made: by an instruction with a function that gives this.
pub record TaskMade (graph : Graph) (result : Ty) : Type 0 where
  pub body : Function
  pub at : ℕ
  pub register : ℕ
  pub number : ℕ
  pub operands : List Operand
  pub maker : HasInstr graph body (NewTask at register number operands)
  pub function : Function
  pub is : slice_get graph.functions number ≡ Some function
  pub gives : function.result ≡ result

-- A task gives the result of its job.
pub record TaskFits (graph : Graph) (results : List Ty) (job : ℕ) (kind : RegKind) : Type 0 where
  pub result : Ty
  pub is : slice_get results job ≡ Some result
  pub form : form_of (Some kind) ≡ Some (type.Task result)
  pub made : TaskMade graph result

-- A cell is of the sort that its kind names, and holds what that asks for.
abbrev pub CellFits : Graph → Referents → HeapCell → RegKind → Type 0
CellFits graph world (cell.Object k vs) kind = (form_of (Some kind) ≡ Some (type.Named k))
    × HavePlaces graph.shapes world.cells vs (parts (shape_at graph.shapes is_class k))
CellFits graph world (cell.Actor k vs) kind = (form_of (Some kind) ≡ Some (type.Named k))
    × HavePlaces graph.shapes world.cells vs (parts (shape_at graph.shapes is_actor k))
CellFits graph world (cell.BoxOf v) kind = BoxFits graph.shapes world.cells v kind
CellFits graph world (cell.Closure f vs) kind = ClosureFits graph world.cells f vs kind
CellFits graph world (cell.TaskOf j) kind = TaskFits graph world.results j kind
