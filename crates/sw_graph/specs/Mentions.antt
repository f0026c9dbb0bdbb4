-- What instructions and last instructions mention: registers, blocks, functions, globals and
-- shapes, by number.
use Rattle.std.specs.Prelude.{ℕ, Option, Some, None, List, [], ◌∷◌, map}
use Rattle.sw_graph.specs.declared.instr.Operand.{Operand}
use Rattle.sw_graph.specs.declared.instr.Instr.{Instr}
use Rattle.sw_graph.specs.declared.instr.Instr.TheVariants.{Const, Un, Bin, Print, Copy, Field}
use Rattle.sw_graph.specs.declared.instr.Instr.TheVariants.{Payload, SetField, Make, NewObject}
use Rattle.sw_graph.specs.declared.instr.Instr.TheVariants.{NewBox, NewActor, LoadBox, StoreBox}
use Rattle.sw_graph.specs.declared.instr.Instr.TheVariants.{LoadProp, StoreProp, LoadGlobal}
use Rattle.sw_graph.specs.declared.instr.Instr.TheVariants.{StoreGlobal, NewClosure, Call}
use Rattle.sw_graph.specs.declared.instr.Instr.TheVariants.{CallClosure, NewTask, Await, Yield}
use Rattle.sw_graph.specs.declared.instr.Last.{Last}
use Rattle.sw_graph.specs.declared.instr.Last.TheVariants.{Jump, Branch, Switch, Return}

-- the operands of an instruction, in order
abbrev pub operands_of : Instr → List Operand
operands_of (Const at dst value) = []
operands_of (Un at dst op src) = src ∷ []
operands_of (Bin at dst op left right) = left ∷ right ∷ []
operands_of (Print at dst args) = args
operands_of (Copy at dst src) = src ∷ []
operands_of (Field at dst src part) = src ∷ []
operands_of (Payload at dst src index) = src ∷ []
operands_of (SetField at target part src) = target ∷ src ∷ []
operands_of (Make at dst shape tag args) = args
operands_of (NewObject at dst shape args) = args
operands_of (NewBox at dst src) = src ∷ []
operands_of (NewActor at dst shape args) = args
operands_of (LoadBox at dst cell) = cell ∷ []
operands_of (StoreBox at cell src) = cell ∷ src ∷ []
operands_of (LoadProp at dst cell part) = cell ∷ []
operands_of (StoreProp at cell part src) = cell ∷ src ∷ []
operands_of (LoadGlobal at dst global) = []
operands_of (StoreGlobal at global src) = src ∷ []
operands_of (NewClosure at dst function captures) = captures
operands_of (Call at dst kind function args) = args
operands_of (CallClosure at dst closure args) = closure ∷ args
operands_of (NewTask at dst function captures) = captures
operands_of (Await at dst task) = task ∷ []
operands_of (Yield at dst) = []

-- The register that an instruction gives a value. A `SetField` changes the value that its register
-- has.
abbrev pub set_by : Instr → Option ℕ
set_by (Const at dst value) = Some dst
set_by (Un at dst op src) = Some dst
set_by (Bin at dst op left right) = Some dst
set_by (Print at dst args) = Some dst
set_by (Copy at dst src) = Some dst
set_by (Field at dst src part) = Some dst
set_by (Payload at dst src index) = Some dst
set_by (SetField at target part src) = None
set_by (Make at dst shape tag args) = Some dst
set_by (NewObject at dst shape args) = Some dst
set_by (NewBox at dst src) = Some dst
set_by (NewActor at dst shape args) = Some dst
set_by (LoadBox at dst cell) = Some dst
set_by (StoreBox at cell src) = None
set_by (LoadProp at dst cell part) = Some dst
set_by (StoreProp at cell part src) = None
set_by (LoadGlobal at dst global) = Some dst
set_by (StoreGlobal at global src) = None
set_by (NewClosure at dst function captures) = Some dst
set_by (Call at dst kind function args) = Some dst
set_by (CallClosure at dst closure args) = Some dst
set_by (NewTask at dst function captures) = Some dst
set_by (Await at dst task) = Some dst
set_by (Yield at dst) = Some dst

abbrev pub and_then_all : Option ℕ → List ℕ → List ℕ
and_then_all (Some r) rs = r ∷ rs
and_then_all None rs = rs

-- the registers that an instruction reads, in order
abbrev pub reads : Instr → List ℕ
reads instr = map (λ operand. operand.reg) (operands_of instr)

-- the registers that an instruction sets or reads
abbrev pub registers_of : Instr → List ℕ
registers_of instr = and_then_all (set_by instr) (reads instr)

-- the functions that an instruction calls or hands on
abbrev pub functions_of : Instr → List ℕ
functions_of (NewClosure at dst function captures) = function ∷ []
functions_of (Call at dst kind function args) = function ∷ []
functions_of (NewTask at dst function captures) = function ∷ []
functions_of _ = []

-- the globals that an instruction reads or writes
abbrev pub globals_of : Instr → List ℕ
globals_of (LoadGlobal at dst global) = global ∷ []
globals_of (StoreGlobal at global src) = global ∷ []
globals_of _ = []

-- the shapes that an instruction makes a value or cell of
abbrev pub shapes_of : Instr → List ℕ
shapes_of (Make at dst shape tag args) = shape ∷ []
shapes_of (NewObject at dst shape args) = shape ∷ []
shapes_of (NewActor at dst shape args) = shape ∷ []
shapes_of _ = []

-- the registers that a last instruction reads
abbrev pub last_registers : Last → List ℕ
last_registers (Jump to) = []
last_registers (Branch condition holds fails) = condition.reg ∷ []
last_registers (Switch subject to) = subject.reg ∷ []
last_registers (Return None) = []
last_registers (Return (Some value)) = value.reg ∷ []

-- the blocks that a last instruction leads to
abbrev pub blocks_of : Last → List ℕ
blocks_of (Jump to) = to ∷ []
blocks_of (Branch condition holds fails) = holds ∷ fails ∷ []
blocks_of (Switch subject to) = to
blocks_of (Return value) = []
