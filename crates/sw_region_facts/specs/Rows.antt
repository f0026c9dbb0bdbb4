-- What each instruction comes to for the elements of its frame, row by row of the table of region
-- operations (SE-0414, SE-0430).
use Rattle.std.specs.Prelude.{◌≡◌, ◌++◌, ℕ, Bool, true, false, Option, Some, None, List, [], ◌∷◌}
use Rattle.std.specs.Prelude.{Contains, slice_get}
use Rattle.sw_types.specs.declared.isolation.CallKind.TheVariants.{Plain as PlainCall}
use Rattle.sw_graph.specs.declared.instr.Instr.{Instr}
use Rattle.sw_graph.specs.declared.instr.Instr.TheVariants.{Const, Un, Bin, Print, Copy, Field}
use Rattle.sw_graph.specs.declared.instr.Instr.TheVariants.{Payload, SetField, Make, NewObject}
use Rattle.sw_graph.specs.declared.instr.Instr.TheVariants.{NewBox, NewActor, LoadBox, StoreBox}
use Rattle.sw_graph.specs.declared.instr.Instr.TheVariants.{LoadProp, StoreProp, LoadGlobal}
use Rattle.sw_graph.specs.declared.instr.Instr.TheVariants.{StoreGlobal, NewClosure, Call}
use Rattle.sw_graph.specs.declared.instr.Instr.TheVariants.{CallClosure, NewTask, Await, Yield}
use Rattle.sw_graph.specs.declared.instr.Last.{Last}
use Rattle.sw_graph.specs.declared.instr.Last.TheVariants.{Jump, Branch, Switch, Return}
use Rattle.sw_graph.specs.declared.instr.Operand.{Operand}
use Rattle.sw_owner_facts.specs.View.{Element, Here, Register}
use Rattle.sw_partition.specs.Regions.{Regions}
use Rattle.sw_region_ops.specs.Calls.{is_isolated}
use Rattle.sw_region_ops.specs.Elements.{element_at}
use Rattle.sw_region_ops.specs.Setting.{FunctionSetting}
use Rattle.sw_region_ops.specs.Table.{iso_is, shares_actor}
use Rattle.sw_region_facts.specs.FrameRegions.{TogetherIn, LiveIn, IsWeaker}
use Rattle.sw_region_facts.specs.Moves.{if_tracked, tracked, copied_from, Sets, Uses, Gathers}
use Rattle.sw_region_facts.specs.Moves.{Makes, Sends}
use Rattle.sw_region_facts.specs.Calling.{Calls, CallsFunction}

-- Register r gets a copy of an operand, or of a part of it. The operand is live.
pub record CopiesFrom (elements : List (Option ℕ)) (r : ℕ) (operand : Operand)
    (a c : Regions) : Type 0 where
  pub live : LiveIn elements a (Register operand.reg)
  pub sets : Sets elements r
      (copied_from (element_at elements r) (element_at elements operand.reg) operand.reg) a c

-- register r gets something from the region of the code itself
abbrev pub SetsFromHere : List (Option ℕ) → ℕ → Regions → Regions → Type 0
SetsFromHere elements r a c = Sets elements r (if_tracked (element_at elements r) (Here ∷ [])) a c

-- A part of a cell that isn't tracked is in the region of the code itself.
abbrev pub LoadsPart : List (Option ℕ) → Option ℕ → ℕ → Operand → Regions → Regions → Type 0
LoadsPart elements (Some number) r cell a c = CopiesFrom elements r cell a c
LoadsPart elements None r cell a c = SetsFromHere elements r a c

abbrev pub StoresPart : List (Option ℕ) → Option ℕ → Operand → Operand → Regions → Regions → Type 0
StoresPart elements (Some number) cell src a c =
    Gathers elements (tracked elements (cell ∷ src ∷ [])) a c
StoresPart elements None cell src a c =
    Gathers elements (Here ∷ tracked elements (src ∷ [])) a c

-- an isolated closure is made of `Here` too
abbrev pub captured : Bool → List Element → List Element
captured true xs = xs ++ Here ∷ []
captured false xs = xs

-- A task on the actor of its body keeps its captures there; any other is given them.
abbrev pub StartsTask : Bool → List (Option ℕ) → List Element → Regions → Regions → Type 0
StartsTask true elements xs a c = Gathers elements (Here ∷ xs) a c
StartsTask false elements xs a c = Sends elements xs a c

-- The row of an instruction, between the state before it and the state that its operations make.
abbrev pub InstrMoves : FunctionSetting → Instr → Regions → Regions → Type 0
InstrMoves setting (Const at dst value) a c = IsWeaker setting.elements a c
InstrMoves setting (Un at dst op src) a c = IsWeaker setting.elements a c
InstrMoves setting (Bin at dst op left right) a c = IsWeaker setting.elements a c
InstrMoves setting (Print at dst args) a c = IsWeaker setting.elements a c
InstrMoves setting (Copy at dst src) a c = CopiesFrom setting.elements dst src a c
InstrMoves setting (Field at dst src part) a c = CopiesFrom setting.elements dst src a c
InstrMoves setting (Payload at dst src index) a c = CopiesFrom setting.elements dst src a c
InstrMoves setting (SetField at target part src) a c =
    Gathers setting.elements (tracked setting.elements (target ∷ src ∷ [])) a c
InstrMoves setting (Make at dst shape tag args) a c =
    Makes setting.elements dst (tracked setting.elements args) a c
InstrMoves setting (NewObject at dst shape args) a c =
    Makes setting.elements dst (tracked setting.elements args) a c
InstrMoves setting (NewBox at dst src) a c =
    Makes setting.elements dst (tracked setting.elements (src ∷ [])) a c
InstrMoves setting (NewActor at dst shape args) a c =
    Uses setting.elements (tracked setting.elements args) a c
InstrMoves setting (LoadBox at dst cell) a c = CopiesFrom setting.elements dst cell a c
InstrMoves setting (StoreBox at cell src) a c =
    Gathers setting.elements (tracked setting.elements (cell ∷ src ∷ [])) a c
InstrMoves setting (LoadProp at dst cell part) a c =
    LoadsPart setting.elements (element_at setting.elements cell.reg) dst cell a c
InstrMoves setting (StoreProp at cell part src) a c =
    StoresPart setting.elements (element_at setting.elements cell.reg) cell src a c
InstrMoves setting (LoadGlobal at dst global) a c = SetsFromHere setting.elements dst a c
InstrMoves setting (StoreGlobal at global src) a c =
    Gathers setting.elements (Here ∷ tracked setting.elements (src ∷ [])) a c
InstrMoves setting (NewClosure at dst function captures) a c =
    Makes setting.elements dst
    (captured (iso_is setting is_isolated function) (tracked setting.elements captures)) a c
InstrMoves setting (Call at dst kind function args) a c =
    CallsFunction setting.elements kind dst args (slice_get setting.functions function) a c
InstrMoves setting (CallClosure at dst closure args) a c =
    Calls setting.elements PlainCall false dst [] (tracked setting.elements (closure ∷ args)) a c
InstrMoves setting (NewTask at dst function captures) a c =
    StartsTask (iso_is setting (λ iso. shares_actor iso setting.body.iso) function)
    setting.elements (tracked setting.elements captures) a c
InstrMoves setting (Await at dst task) a c = IsWeaker setting.elements a c
InstrMoves setting (Yield at dst) a c = IsWeaker setting.elements a c

-- all of these elements are live
abbrev pub AreLive : List (Option ℕ) → List Element → Regions → Type 0
AreLive elements xs a = (x : Element) → Contains xs x → LiveIn elements a x

-- What is returned is live, and not with `Here` if the result is `sending`.
pub record MayReturn (elements : List (Option ℕ)) (sends : Bool) (xs : List Element)
    (a : Regions) : Type 0 where
  pub live : AreLive elements xs a
  pub free : sends ≡ true → (x : Element) → Contains xs x
      → ¬ (TogetherIn elements a x Here)

-- What the last instruction of a block asks of the state before it, which it leaves as it is.
abbrev pub LastAsks : FunctionSetting → Last → Regions → Type 0
LastAsks setting (Jump to) a = Unit {0}
LastAsks setting (Branch condition holds fails) a = Unit {0}
LastAsks setting (Switch subject to) a =
    AreLive setting.elements (tracked setting.elements (subject ∷ [])) a
LastAsks setting (Return None) a = Unit {0}
LastAsks setting (Return (Some value)) a =
    MayReturn setting.elements setting.body.sends (tracked setting.elements (value ∷ [])) a
