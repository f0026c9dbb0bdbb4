-- The table of region operations (SE-0414, SE-0430): those of each instruction and of each last
-- instruction of a block, by the setting in which it stands.
use Rattle.std.specs.Prelude.{ℕ, Bool, true, false, if◌then◌else◌, Option, Some, None, List, []}
use Rattle.std.specs.Prelude.{◌∷◌, ◌++◌, ◌==◌, slice_get, flat_map}
use Rattle.std.specs.Option.{option_map_or}
use Rattle.sw_types.specs.declared.isolation.Iso.{Iso}
use Rattle.sw_types.specs.declared.isolation.Iso.TheVariants.{Own, Global}
use Rattle.sw_graph.specs.declared.function.Function.{Function}
use Rattle.sw_graph.specs.declared.graph.Graph.{Graph}
use Rattle.sw_graph.specs.declared.instr.Block.{Block}
use Rattle.sw_graph.specs.declared.instr.Instr.{Instr}
use Rattle.sw_graph.specs.declared.instr.Instr.TheVariants.{Const, Un, Bin, Print, Copy, Field}
use Rattle.sw_graph.specs.declared.instr.Instr.TheVariants.{Payload, SetField, Make, NewObject}
use Rattle.sw_graph.specs.declared.instr.Instr.TheVariants.{NewBox, NewActor, LoadBox, StoreBox}
use Rattle.sw_graph.specs.declared.instr.Instr.TheVariants.{LoadProp, StoreProp, LoadGlobal}
use Rattle.sw_graph.specs.declared.instr.Instr.TheVariants.{StoreGlobal, NewClosure, Call}
use Rattle.sw_graph.specs.declared.instr.Instr.TheVariants.{CallClosure, NewTask, Await, Yield}
use Rattle.sw_graph.specs.declared.instr.Last.{Last}
use Rattle.sw_graph.specs.declared.instr.Last.TheVariants.{Jump, Branch, Switch, Return}
use Rattle.sw_graph.specs.declared.instr.Operand.{Operand}
use Rattle.sw_graph.specs.Points.{Point, Middle, End, point_in, points_of_block}
use Rattle.sw_region_ops.specs.Calls.{is_isolated, free_code, callee_ops}
use Rattle.sw_region_ops.specs.Elements.{element_at}
use Rattle.sw_region_ops.specs.Groups.{need_each, free_each, put_here, join_result_here, put_first}
use Rattle.sw_region_ops.specs.Groups.{meet, keep, part_with, take_from, make_of}
use Rattle.sw_region_ops.specs.Marks.{marks_of}
use Rattle.sw_region_ops.specs.Setting.{FunctionSetting, setting_of}
use Rattle.sw_region_ops.specs.declared.marks.Mark.{Mark}
use Rattle.sw_region_ops.specs.declared.op.Op.{Op}
use Rattle.sw_region_ops.specs.declared.op.TheConstants.{NOT_DISCONNECTED}

-- the tracked ones of these operands
abbrev pub marks : FunctionSetting → List Operand → List Mark
marks setting operands = marks_of setting.elements operands

-- the element of a register that is set
abbrev pub result : FunctionSetting → ℕ → Option ℕ
result setting dst = element_at setting.elements dst

-- A part of an actor, or of another cell that isn't tracked, is in the region of the code itself.
abbrev pub load_ops : FunctionSetting → Option ℕ → ℕ → Operand → List Op
load_ops setting (Some element) dst cell =
    take_from (result setting dst) (marks setting (cell ∷ []))
load_ops setting None dst cell = put_here (result setting dst)

abbrev pub store_ops : FunctionSetting → Option ℕ → Operand → Operand → List Op
store_ops setting (Some element) cell src = meet (marks setting (cell ∷ src ∷ []))
store_ops setting None cell src = keep (marks setting (src ∷ []))

-- what an isolated closure holds, and the closure, are with its actor
abbrev pub closure_ops : Bool → Option ℕ → List Mark → List Op
closure_ops isolated r captures =
    make_of r captures ++ (if isolated then join_result_here r else [])

-- whether a task runs on the actor of the body that makes it
abbrev pub shares_actor : Iso → Iso → Bool
shares_actor Own Own = true
shares_actor (Global actor) (Global other) = actor == other
shares_actor task body = false

-- A task on the actor of its body keeps the captures there; any other is given them.
abbrev pub task_ops : Bool → ℕ → ℕ → List Mark → List Op
task_ops true code site captures = keep captures
task_ops false code site captures = part_with code site captures

-- the isolation of a function, tested; false where there is no such function
abbrev pub iso_is : FunctionSetting → (Iso → Bool) → ℕ → Bool
iso_is setting test f =
    option_map_or (λ function. test function.iso) (slice_get setting.functions f) false

abbrev pub instr_ops : FunctionSetting → Instr → List Op
instr_ops setting (Const at dst value) = []
instr_ops setting (Un at dst op src) = []
instr_ops setting (Bin at dst op left right) = []
instr_ops setting (Print at dst args) = []
instr_ops setting (Copy at dst src) = take_from (result setting dst) (marks setting (src ∷ []))
instr_ops setting (Field at dst src part) =
    take_from (result setting dst) (marks setting (src ∷ []))
instr_ops setting (Payload at dst src index) =
    take_from (result setting dst) (marks setting (src ∷ []))
instr_ops setting (SetField at target part src) = meet (marks setting (target ∷ src ∷ []))
instr_ops setting (Make at dst shape tag args) = make_of (result setting dst) (marks setting args)
instr_ops setting (NewObject at dst shape args) = make_of (result setting dst) (marks setting args)
instr_ops setting (NewBox at dst src) = make_of (result setting dst) (marks setting (src ∷ []))
instr_ops setting (NewActor at dst shape args) = need_each (marks setting args)
instr_ops setting (LoadBox at dst cell) = take_from (result setting dst) (marks setting (cell ∷ []))
instr_ops setting (StoreBox at cell src) = meet (marks setting (cell ∷ src ∷ []))
instr_ops setting (LoadProp at dst cell part) =
    load_ops setting (element_at setting.elements cell.reg) dst cell
instr_ops setting (StoreProp at cell part src) =
    store_ops setting (element_at setting.elements cell.reg) cell src
instr_ops setting (LoadGlobal at dst global) = put_here (result setting dst)
instr_ops setting (StoreGlobal at global src) = keep (marks setting (src ∷ []))
instr_ops setting (NewClosure at dst function captures) =
    closure_ops (iso_is setting is_isolated function) (result setting dst) (marks setting captures)
instr_ops setting (Call at dst kind function args) =
    callee_ops kind (free_code setting.body.iso) at (result setting dst) setting.elements args
    (slice_get setting.functions function)
instr_ops setting (CallClosure at dst closure args) =
    meet (marks setting (closure ∷ args))
    ++ put_first (result setting dst) (marks setting (closure ∷ args))
instr_ops setting (NewTask at dst function captures) =
    task_ops (iso_is setting (λ iso. shares_actor iso setting.body.iso) function)
    (free_code setting.body.iso) at (marks setting captures)
instr_ops setting (Await at dst task) = []
instr_ops setting (Yield at dst) = []

-- a `sending` result has to be free
abbrev pub return_ops : Bool → List Mark → List Op
return_ops sends value = need_each value ++ (if sends then free_each NOT_DISCONNECTED value else [])

abbrev pub last_ops : FunctionSetting → Last → List Op
last_ops setting (Jump to) = []
last_ops setting (Branch condition holds fails) = []
last_ops setting (Switch subject to) = need_each (marks setting (subject ∷ []))
last_ops setting (Return None) = []
last_ops setting (Return (Some value)) = return_ops setting.body.sends (marks setting (value ∷ []))

-- the operations of what stands at a point
abbrev pub point_ops : FunctionSetting → Point → List Op
point_ops setting (Middle instr) = instr_ops setting instr
point_ops setting (End last) = last_ops setting last

-- the operations of a block, in order
abbrev pub block_ops : FunctionSetting → Block → List Op
block_ops setting block = flat_map (point_ops setting) (points_of_block block)

-- the operations at a point of a function; none where there is no such point
abbrev pub ops_in : Graph → Function → ℕ → List Op
ops_in graph body point =
    option_map_or (point_ops (setting_of graph body)) (point_in body point) []

-- the operations at a point of the function with a number
abbrev pub ops_at : Graph → ℕ → ℕ → List Op
ops_at graph function point =
    option_map_or (λ body. ops_in graph body point) (slice_get graph.functions function) []
