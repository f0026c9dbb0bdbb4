-- The kinds of registers that instructions and last instructions ask for. A value goes into a
-- register, part, payload, box, parameter, capture, global or result only where its type is
-- accepted, and a box only into a capture that is a box of the same type.
use Rattle.std.specs.Prelude.{◌≡◌, ℕ, Bool, true, false, cond, ◌||◌, IsTrue, Option, Some, None}
use Rattle.std.specs.Prelude.{List, [], ◌∷◌, length, map, take, drop, slice_get, IsSome}
use Rattle.std.specs.List.{All}
use Rattle.std.specs.Option.{option_map, option_and_then}
use Rattle.sw_types.specs.declared.ty.Ty.{Ty, out-Ty}
use Rattle.sw_types.specs.declared.ty.Ty.TheOpen as layer
use Rattle.sw_types.specs.declared.ty.Ty.TheVariants.{Int, Bool as BoolType, Unit as Void, Task}
use Rattle.sw_types.specs.declared.ty.Ty.TheVariants.{Func}
use Rattle.sw_types.specs.declared.ty.Ty.TheVariants.{Named}
use Rattle.sw_types.specs.declared.shape.Shape.{Shape}
use Rattle.sw_types.specs.declared.shape.ShapeKind.{ShapeKind}
use Rattle.sw_types.specs.declared.shape.ShapeKind.TheVariants.{Struct, Enum, Class, Actor}
use Rattle.sw_types.specs.Accepts.{IsAcceptedAs}
use Rattle.sw_graph.specs.declared.function.Function.{Function}
use Rattle.sw_graph.specs.declared.function.GlobalKind.{GlobalKind}
use Rattle.sw_graph.specs.declared.function.RegKind.{RegKind}
use Rattle.sw_graph.specs.declared.function.RegKind.TheVariants.{Plain, BoxOf}
use Rattle.sw_graph.specs.declared.instr.Literal.{Literal}
use Rattle.sw_graph.specs.declared.instr.Literal.TheVariants.{Int as IntOf, Bool as BoolOf}
use Rattle.sw_graph.specs.declared.instr.UnOp.{UnOp}
use Rattle.sw_graph.specs.declared.instr.UnOp.TheVariants.{Not, Neg}
use Rattle.sw_graph.specs.declared.instr.BinOp.{BinOp}
use Rattle.sw_graph.specs.declared.instr.BinOp.TheVariants.{Add, Sub, Mul, Div, Rem, Eq, Ne}
use Rattle.sw_graph.specs.declared.instr.Operand.{Operand}
use Rattle.sw_graph.specs.declared.instr.Instr.{Instr}
use Rattle.sw_graph.specs.declared.instr.Instr.TheVariants.{Const, Un, Bin, Print, Copy, Field}
use Rattle.sw_graph.specs.declared.instr.Instr.TheVariants.{Payload, SetField, Make, NewObject}
use Rattle.sw_graph.specs.declared.instr.Instr.TheVariants.{NewBox, NewActor, LoadBox, StoreBox}
use Rattle.sw_graph.specs.declared.instr.Instr.TheVariants.{LoadProp, StoreProp, LoadGlobal}
use Rattle.sw_graph.specs.declared.instr.Instr.TheVariants.{StoreGlobal, NewClosure, Call}
use Rattle.sw_graph.specs.declared.instr.Instr.TheVariants.{CallClosure, NewTask, Await, Yield}
use Rattle.sw_graph.specs.declared.instr.Last.{Last}
use Rattle.sw_graph.specs.declared.instr.Last.TheVariants.{Jump, Branch, Switch, Return}

-- A value goes where its type is accepted. Whether the register or part is there is part of it.
abbrev pub Goes : Option RegKind → Option RegKind → Type 0
Goes (Some (Plain from)) (Some (Plain to)) = IsAcceptedAs from to
Goes _ _ = ⊥

-- A capture is a value, or a box of the same type.
abbrev pub IsCaptured : Option RegKind → Option RegKind → Type 0
IsCaptured (Some (Plain from)) (Some (Plain to)) = IsAcceptedAs from to
IsCaptured (Some (BoxOf from)) (Some (BoxOf to)) = from ≡ to
IsCaptured _ _ = ⊥

-- each of the first goes to the place of its index, and there are as many of them as places
abbrev pub Each : (Option RegKind → Option RegKind → Type 0) → List (Option RegKind) → List RegKind
    → Type 0
Each May [] [] = Unit {0}
Each May (from ∷ froms) (to ∷ tos) = May from (Some to) × Each May froms tos
Each May _ _ = ⊥

-- the same, where the places are known
abbrev pub EachOf : (Option RegKind → Option RegKind → Type 0) → List (Option RegKind)
    → Option (List RegKind) → Type 0
EachOf May froms (Some tos) = Each May froms tos
EachOf May froms None = ⊥

-- the kinds of operands
abbrev pub kinds_of : List RegKind → List Operand → List (Option RegKind)
kinds_of regs operands = map (λ operand. slice_get regs operand.reg) operands

abbrev pub value : Ty → Option RegKind
value ty = Some (Plain ty)

-- the outermost form of the type of a value
abbrev pub form_of : Option RegKind → Option (layer.Ty-F Ty)
form_of (Some (Plain ty)) = Some (out-Ty ty)
form_of _ = None

-- what a box holds
abbrev pub box_content : Option RegKind → Option RegKind
box_content (Some (BoxOf ty)) = value ty
box_content _ = None

abbrev pub literal_type : Literal → Ty
literal_type (IntOf number) = Int
literal_type (BoolOf holds) = BoolType

abbrev pub form_is_printable : Option (layer.Ty-F Ty) → Bool
form_is_printable (Some layer.Int) = true
form_is_printable (Some layer.Bool) = true
form_is_printable _ = false

-- whether it is an integer or a truth value, which `print`, `==` and `!=` take
abbrev pub is_printable : Option RegKind → Bool
is_printable kind = form_is_printable (form_of kind)

-- the type of the operand and of the result
abbrev pub un_type : UnOp → Ty
un_type Not = BoolType
un_type Neg = Int

-- the kinds that an infix operator takes: `==` and `!=` two of one kind, the others two integers
abbrev pub TakesBoth : BinOp → Option RegKind → Option RegKind → Type 0
TakesBoth Eq left right = IsTrue (is_printable left) × (left ≡ right)
TakesBoth Ne left right = IsTrue (is_printable left) × (left ≡ right)
TakesBoth _ left right = (left ≡ value Int) × (right ≡ value Int)

abbrev pub bin_type : BinOp → Ty
bin_type Add = Int
bin_type Sub = Int
bin_type Mul = Int
bin_type Div = Int
bin_type Rem = Int
bin_type _ = BoolType

abbrev pub is_struct : ShapeKind → Bool
is_struct Struct = true
is_struct _ = false

abbrev pub is_enum : ShapeKind → Bool
is_enum Enum = true
is_enum _ = false

abbrev pub is_class : ShapeKind → Bool
is_class Class = true
is_class _ = false

abbrev pub is_actor : ShapeKind → Bool
is_actor Actor = true
is_actor _ = false

abbrev pub is_cell : ShapeKind → Bool
is_cell kind = is_class kind || is_actor kind

-- the shape with a number, where it is a declaration of that kind
abbrev pub shape_at : List Shape → (ShapeKind → Bool) → ℕ → Option Shape
shape_at shapes is_kind k =
    option_and_then (λ shape. cond (is_kind shape.kind) (Some shape) None) (slice_get shapes k)

abbrev pub number_of : Option (layer.Ty-F Ty) → Option ℕ
number_of (Some (layer.Named k)) = Some k
number_of _ = None

-- the shape of a value's type, where it is a declaration of that kind
abbrev pub shape_of : List Shape → (ShapeKind → Bool) → Option RegKind → Option Shape
shape_of shapes is_kind kind =
    option_and_then (shape_at shapes is_kind) (number_of (form_of kind))

-- the kind of part i, and of all parts in order
abbrev pub part : Option Shape → ℕ → Option RegKind
part shape i =
    option_and_then (λ s. option_map (λ part. Plain part.ty) (slice_get s.parts i)) shape

abbrev pub parts : Option Shape → Option (List RegKind)
parts shape = option_map (λ s. map (λ part. Plain part.ty) s.parts) shape

-- the kinds of the payload of a case, in order
abbrev pub payload : Option Shape → ℕ → Option (List RegKind)
payload shape tag =
    option_and_then (λ s. option_map (λ case. map Plain case.payload) (slice_get s.cases tag)) shape

-- what a struct, or a case of an enum, is made of
abbrev pub made_of : List Shape → ℕ → Option ℕ → Option (List RegKind)
made_of shapes k None = parts (shape_at shapes is_struct k)
made_of shapes k (Some tag) = payload (shape_at shapes is_enum k) tag

-- the kinds of the registers that a function takes: captures, then `self`, then parameters
abbrev pub taken : Function → List RegKind
taken function = take function.takes function.regs

abbrev pub types_of : List RegKind → Option (List Ty)
types_of [] = Some []
types_of (Plain ty ∷ kinds) = option_map (λ types. ty ∷ types) (types_of kinds)
types_of (BoxOf ty ∷ kinds) = None

-- A closure has the type of what its function takes after its captures and of its result. A
-- function type without the mark accepts one with it, so the mark may be missing.
abbrev pub closure_of : ℕ → Function → Option RegKind
closure_of captures function =
    option_map (λ params. Plain (Func true params function.result))
    (types_of (drop captures (taken function)))

abbrev pub result_of : Option Function → Option RegKind
result_of function = option_map (λ f. Plain f.result) function

-- what a value of function type takes and gives
abbrev pub params : Option (layer.Ty-F Ty) → Option (List RegKind)
params (Some (layer.Func sendable types result)) = Some (map Plain types)
params _ = None

abbrev pub given : Option (layer.Ty-F Ty) → Option RegKind
given (Some (layer.Func sendable types result)) = value result
given _ = None

-- the result of a task
abbrev pub awaited : Option (layer.Ty-F Ty) → Option RegKind
awaited (Some (layer.Task result)) = value result
awaited _ = None

-- The kinds of an instruction's operands and of its result. Where a payload stands and what it
-- gives is said of its block.
abbrev pub KindsFit : List Shape → List GlobalKind → List Function → List RegKind → Instr → Type 0
KindsFit shapes globals functions regs (Const at dst literal) =
    Goes (value (literal_type literal)) (slice_get regs dst)
KindsFit shapes globals functions regs (Un at dst op src) =
    (slice_get regs src.reg ≡ value (un_type op)) × Goes (value (un_type op)) (slice_get regs dst)
KindsFit shapes globals functions regs (Bin at dst op left right) =
    TakesBoth op (slice_get regs left.reg) (slice_get regs right.reg)
    × Goes (value (bin_type op)) (slice_get regs dst)
KindsFit shapes globals functions regs (Print at dst args) =
    All (λ kind. IsTrue (is_printable kind)) (kinds_of regs args)
    × Goes (value Void) (slice_get regs dst)
KindsFit shapes globals functions regs (Copy at dst src) =
    Goes (slice_get regs src.reg) (slice_get regs dst)
KindsFit shapes globals functions regs (Field at dst src index) =
    Goes (part (shape_of shapes is_struct (slice_get regs src.reg)) index) (slice_get regs dst)
KindsFit shapes globals functions regs (Payload at dst src index) =
    IsSome (shape_of shapes is_enum (slice_get regs src.reg))
KindsFit shapes globals functions regs (SetField at target index src) =
    Goes (slice_get regs src.reg)
    (part (shape_of shapes is_struct (slice_get regs target.reg)) index)
KindsFit shapes globals functions regs (Make at dst shape tag args) =
    EachOf Goes (kinds_of regs args) (made_of shapes shape tag)
    × Goes (value (Named shape)) (slice_get regs dst)
KindsFit shapes globals functions regs (NewObject at dst shape args) =
    EachOf Goes (kinds_of regs args) (parts (shape_at shapes is_class shape))
    × Goes (value (Named shape)) (slice_get regs dst)
KindsFit shapes globals functions regs (NewBox at dst src) =
    Goes (slice_get regs src.reg) (box_content (slice_get regs dst))
KindsFit shapes globals functions regs (NewActor at dst shape args) =
    EachOf Goes (kinds_of regs args) (parts (shape_at shapes is_actor shape))
    × Goes (value (Named shape)) (slice_get regs dst)
KindsFit shapes globals functions regs (LoadBox at dst cell) =
    Goes (box_content (slice_get regs cell.reg)) (slice_get regs dst)
KindsFit shapes globals functions regs (StoreBox at cell src) =
    Goes (slice_get regs src.reg) (box_content (slice_get regs cell.reg))
KindsFit shapes globals functions regs (LoadProp at dst cell index) =
    Goes (part (shape_of shapes is_cell (slice_get regs cell.reg)) index) (slice_get regs dst)
KindsFit shapes globals functions regs (StoreProp at cell index src) =
    Goes (slice_get regs src.reg) (part (shape_of shapes is_cell (slice_get regs cell.reg)) index)
KindsFit shapes globals functions regs (LoadGlobal at dst number) =
    Goes (option_map (λ global. Plain global.ty) (slice_get globals number)) (slice_get regs dst)
KindsFit shapes globals functions regs (StoreGlobal at number src) =
    Goes (slice_get regs src.reg)
    (option_map (λ global. Plain global.ty) (slice_get globals number))
KindsFit shapes globals functions regs (NewClosure at dst number captures) =
    EachOf IsCaptured (kinds_of regs captures)
    (option_map (λ function. take (length captures) (taken function)) (slice_get functions number))
    × Goes (option_and_then (closure_of (length captures)) (slice_get functions number))
    (slice_get regs dst)
KindsFit shapes globals functions regs (Call at dst kind function args) =
    EachOf Goes (kinds_of regs args) (option_map taken (slice_get functions function))
    × Goes (result_of (slice_get functions function)) (slice_get regs dst)
KindsFit shapes globals functions regs (CallClosure at dst closure args) =
    EachOf Goes (kinds_of regs args) (params (form_of (slice_get regs closure.reg)))
    × Goes (given (form_of (slice_get regs closure.reg))) (slice_get regs dst)
KindsFit shapes globals functions regs (NewTask at dst number captures) =
    EachOf IsCaptured (kinds_of regs captures) (option_map taken (slice_get functions number))
    × Goes (option_map (λ function. Plain (Task function.result)) (slice_get functions number))
    (slice_get regs dst)
KindsFit shapes globals functions regs (Await at dst task) =
    Goes (awaited (form_of (slice_get regs task.reg))) (slice_get regs dst)
KindsFit shapes globals functions regs (Yield at dst) = Goes (value Void) (slice_get regs dst)

-- The kind of what a last instruction reads. A `Switch` has a block for each case of the enum.
abbrev pub LastKindsFit : List Shape → List RegKind → Ty → Last → Type 0
LastKindsFit shapes regs result (Jump to) = Unit {0}
LastKindsFit shapes regs result (Branch condition holds fails) =
    slice_get regs condition.reg ≡ value BoolType
LastKindsFit shapes regs result (Switch subject to) =
    option_map (λ shape. length shape.cases) (shape_of shapes is_enum (slice_get regs subject.reg))
    ≡ Some (length to)
LastKindsFit shapes regs result (Return (Some operand)) =
    Goes (slice_get regs operand.reg) (value result)
LastKindsFit shapes regs result (Return None) = Unit {0}
