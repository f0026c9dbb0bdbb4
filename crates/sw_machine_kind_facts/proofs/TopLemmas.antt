-- What an effect leaves of the top frame, and what it needs: each fits.
use Rattle.std.proofs.Common.{◌≡◌, ℕ, ◌+◌, true, false, Option, Some, None, List, [], ◌∷◌, ◌++◌}
use Rattle.std.proofs.Common.{length, subst}
use Rattle.std.specs.Option.{option_map}
use Rattle.std.specs.List.{slice_get, slice_set}
use Rattle.sw_types.specs.declared.ty.Ty.{Ty}
use Rattle.sw_types.specs.declared.ty.Ty.TheOpen as type
use Rattle.sw_graph.specs.declared.function.Function.{Function}
use Rattle.sw_graph.specs.declared.function.RegKind.{RegKind}
use Rattle.sw_graph.specs.declared.function.RegKind.TheVariants.{Plain}
use Rattle.sw_graph.specs.declared.graph.Graph.{Graph}
use Rattle.sw_graph.specs.declared.instr.Instr.{Instr}
use Rattle.sw_graph.specs.declared.instr.Operand.{Operand}
use Rattle.sw_graph.specs.Kinds.{Goes, form_of, value}
use Rattle.sw_graph.specs.Mentions.{operands_of, set_by}
use Rattle.sw_graph.specs.Payloads.{is_payload}
use Rattle.sw_graph.specs.Points.{Middle, point_in}
use Rattle.sw_graph.specs.WellFormed.{FunctionFits}
use Rattle.sw_graph.specs.Kinds.{KindsFit}
use Rattle.sw_value.specs.declared.cell.HeapCell.{HeapCell}
use Rattle.sw_value.specs.declared.cell.Slot.{Slot}
use Rattle.sw_value.specs.declared.effect.Effect.{Effect}
use Rattle.sw_value.specs.declared.effect.Effect.TheVariants as effect
use Rattle.sw_value.specs.declared.frame.Frame.{Frame}
use Rattle.sw_value.specs.declared.state.State.{State}
use Rattle.sw_value.specs.declared.value.Value.{Value}
use Rattle.sw_value.specs.declared.value.Value.TheVariants as value
use Rattle.sw_value.specs.Cell.{with_slot}
use Rattle.sw_value.specs.Effect.{set_of}
use Rattle.sw_value.specs.Lists.{changed_at}
use Rattle.sw_value.specs.Value.{with_field}
use Rattle.sw_machine_kind_facts.specs.Kinded.{global_kinds, StateFits}
use Rattle.sw_machine_kind_facts.specs.Kinds.{HasKind, Referents, CellFits, TaskMade}
use Rattle.sw_machine_kind_facts.specs.Operands.{HasOperand}
use Rattle.sw_machine_kind_facts.specs.Standing.{HasConst, Stands, FrameFits, ResultGoes}
use Rattle.sw_graph.specs.Supplied.{IsSupplied}
use Rattle.sw_machine_kind_facts.proofs.FrameLemmas.{front_plain, stands_set, stands_on}
use Rattle.sw_machine_kind_facts.proofs.GrowthLemmas.{no_more}
use Rattle.sw_machine_kind_facts.proofs.KindLemmas.{WentTo}
use Rattle.sw_machine_kind_facts.proofs.OperandLemmas.{instr_fits, operand_has}
use Rattle.sw_machine_kind_facts.proofs.SureLemmas.{is_ordinary, no_payload, no_const}

-- The top frame of a running job, in a state that fits.
pub record Executes (graph : Graph) (world : Referents) (state : State)
    (frame : Frame) : Type 0 where
  pub supplied : IsSupplied graph
  pub fits : StateFits graph world state
  pub function : Function
  pub is : slice_get graph.functions frame.function ≡ Some function
  pub well : FunctionFits graph.shapes graph.globals graph.functions function
  pub stands : Stands graph.shapes world.cells function None frame.point frame.regs

abbrev pub StandsAt : Graph → List RegKind → Function → Option ℕ → ℕ → List (Option Value) → Type 0
StandsAt graph cells function awaits next regs =
    Stands graph.shapes cells function awaits next regs

-- a cell is made
pub record NewFits (graph : Graph) (world : Referents) (state : State) (function : Function)
    (frame : Frame) (r : ℕ) (cell : HeapCell) (number next : ℕ) : Type 0 where
  pub kind : RegKind
  pub number_is : number ≡ length state.cells
  pub fits : CellFits graph world cell kind
  pub stands : StandsAt graph (world.cells ++ kind ∷ []) function None next
      (slice_set frame.regs r (Some (value.Cell number)))

-- a slot of a cell is written
pub record WriteFits (graph : Graph) (world : Referents) (state : State) (function : Function)
    (frame : Frame) (c : ℕ) (slot : Slot) (v : Value) (next : ℕ) : Type 0 where
  pub cell : HeapCell
  pub is : slice_get state.cells c ≡ Some cell
  pub keeps : (kind : RegKind) → slice_get world.cells c ≡ Some kind
      → CellFits graph world (with_slot slot v cell) kind
  pub stands : StandsAt graph world.cells function None next frame.regs

-- a global is written
pub record GlobalFits (graph : Graph) (world : Referents) (function : Function) (frame : Frame)
    (g : ℕ) (v : Value) (next : ℕ) : Type 0 where
  pub kind : RegKind
  pub is : slice_get (global_kinds graph.globals) g ≡ Some kind
  pub fits : HasKind graph.shapes world.cells v kind
  pub stands : StandsAt graph world.cells function None next frame.regs

-- a frame is put on top
pub record EnterFits (graph : Graph) (world : Referents) (function : Function) (frame : Frame)
    (entered : Frame) (next : ℕ) : Type 0 where
  pub fits : FrameFits graph world.cells None entered
  pub links : ResultGoes function entered.result fits.function.result
  pub stands : StandsAt graph world.cells function (Some entered.result) next frame.regs

-- the job waits
pub record WaitFits (graph : Graph) (world : Referents) (function : Function) (frame : Frame)
    (on r next : ℕ) : Type 0 where
  pub result : Ty
  pub is : slice_get world.results on ≡ Some result
  pub goes : Goes (value result) (slice_get function.regs r)
  pub stands : StandsAt graph world.cells function (Some r) next frame.regs

-- a task is made
pub record SpawnFits (graph : Graph) (world : Referents) (state : State) (function : Function)
    (frame : Frame) (r : ℕ) (first : Frame) (job cell next : ℕ) : Type 0 where
  pub job_is : job ≡ length state.jobs
  pub cell_is : cell ≡ length state.cells
  pub fits : FrameFits graph world.cells None first
  pub kind : RegKind
  pub form : form_of (Some kind) ≡ Some (type.Task fits.function.result)
  pub made : TaskMade graph fits.function.result
  pub stands : StandsAt graph (world.cells ++ kind ∷ []) function None next
      (slice_set frame.regs r (Some (value.Cell cell)))

-- An effect of the top frame fits. A job that is stuck has none that does.
unfoldable pub TopFits : Graph → Referents → State → Function → Frame → Effect → Type 0
TopFits graph world state function frame (effect.Set r v next) =
    StandsAt graph world.cells function None next (slice_set frame.regs r (Some v))
TopFits graph world state function frame (effect.SetField r i v next) =
    StandsAt graph world.cells function None next
    (changed_at (option_map (with_field i v)) r frame.regs)
TopFits graph world state function frame (effect.Print r line next) =
    StandsAt graph world.cells function None next (slice_set frame.regs r (Some value.Unit))
TopFits graph world state function frame (effect.New r cell number next) =
    NewFits graph world state function frame r cell number next
TopFits graph world state function frame (effect.Write c slot v next) =
    WriteFits graph world state function frame c slot v next
TopFits graph world state function frame (effect.WriteGlobal g v next) =
    GlobalFits graph world function frame g v next
TopFits graph world state function frame (effect.Goto next) =
    StandsAt graph world.cells function None next frame.regs
TopFits graph world state function frame (effect.Enter entered next) =
    EnterFits graph world function frame entered next
TopFits graph world state function frame (effect.Wait on r next) =
    WaitFits graph world function frame on r next
TopFits graph world state function frame (effect.Rest r next) =
    StandsAt graph world.cells function None next (slice_set frame.regs r (Some value.Unit))
TopFits graph world state function frame (effect.Spawn r first job cell next) =
    SpawnFits graph world state function frame r first job cell next
TopFits graph world state function frame (effect.Leave v) =
    HasKind graph.shapes world.cells v (Plain function.result)
TopFits graph world state function frame (effect.Halt kind at) = Unit {0}
TopFits graph world state function frame effect.Stuck = ⊥

-- the instruction at which the frame stands
pub record IsAt (graph : Graph) (world : Referents) (state : State) (frame : Frame) (instr : Instr)
    : Type 0 where
  pub run : Executes graph world state frame
  pub here : point_in run.function frame.point ≡ Some (Middle instr)

pub kinds_at : (graph : Graph) (world : Referents) (state : State) (frame : Frame) (instr : Instr)
    → (at : IsAt graph world state frame instr)
    → KindsFit graph.shapes graph.globals graph.functions at.run.function.regs instr
kinds_at graph world state frame instr at =
    (instr_fits graph at.run.function at.run.well frame.point at.run.stands.place instr
    at.here).kinds

pub operand_at : (graph : Graph) (world : Referents) (state : State) (frame : Frame) (instr : Instr)
    → (at : IsAt graph world state frame instr) → (k : ℕ) (o : Operand)
    → slice_get (operands_of instr) k ≡ Some o
    → HasOperand graph.shapes world.cells at.run.function.regs frame.regs o.reg
operand_at graph world state frame instr at k o is =
    operand_has graph world.cells at.run.function at.run.well frame.point frame.regs at.run.stands
    instr at.here k o is

-- an instruction that takes no payload gives a register a value
pub gives : (graph : Graph) (world : Referents) (state : State) (frame : Frame) (instr : Instr)
    → (at : IsAt graph world state frame instr) → is_payload instr ≡ false → (r : ℕ)
    → set_by instr ≡ Some r → (v : Value)
    → HasConst None (slice_set frame.regs r (Some v)) (Some (Middle instr))
    → WentTo graph.shapes world.cells v (slice_get at.run.function.regs r)
    → StandsAt graph world.cells at.run.function None (frame.point + 1)
    (slice_set frame.regs r (Some v))
gives graph world state frame instr at plain r sets v constant went =
    let run = at.run in
    stands_set graph.shapes world.cells world.cells run.function frame.point frame.regs instr r v
    went.kind run.stands at.here sets
    (front_plain graph.shapes run.function None frame.point (slice_set frame.regs r (Some v)) instr
    run.stands.place (run.well.payloads run.stands.place.number run.stands.place.block
    run.stands.place.is) at.here plain) constant (no_more world.cells) went.is went.has

-- one that gives no constant either
pub puts : (graph : Graph) (world : Referents) (state : State) (frame : Frame) (instr : Instr)
    → (at : IsAt graph world state frame instr) → is_ordinary instr ≡ true → (r : ℕ)
    → set_by instr ≡ Some r → (v : Value)
    → WentTo graph.shapes world.cells v (slice_get at.run.function.regs r)
    → StandsAt graph world.cells at.run.function None (frame.point + 1)
    (slice_set frame.regs r (Some v))
puts graph world state frame instr at ordinary r sets v went =
    gives graph world state frame instr at (no_payload instr ordinary) r sets v
    (no_const None (slice_set frame.regs r (Some v)) instr ordinary) went

-- one that gives no value yet
pub goes_on : (graph : Graph) (world : Referents) (state : State) (frame : Frame) (instr : Instr)
    → (at : IsAt graph world state frame instr) → is_ordinary instr ≡ true → (awaits : Option ℕ)
    → set_by instr ≡ awaits
    → StandsAt graph world.cells at.run.function awaits (frame.point + 1) frame.regs
goes_on graph world state frame instr at ordinary awaits sets =
    let run = at.run in
    stands_on graph.shapes world.cells run.function awaits frame.point frame.regs instr run.stands
    at.here sets
    (front_plain graph.shapes run.function awaits frame.point frame.regs instr
    run.stands.place (run.well.payloads run.stands.place.number run.stands.place.block
    run.stands.place.is) at.here (no_payload instr ordinary))
    (no_const awaits frame.regs instr ordinary)

-- the value is there
pub set_there : (graph : Graph) (world : Referents) (state : State) (function : Function)
    (frame : Frame) (next r : ℕ) (o : Option Value) (v : Value) → o ≡ Some v
    → StandsAt graph world.cells function None next (slice_set frame.regs r (Some v))
    → TopFits graph world state function frame (set_of next r o)
unfolding TopFits
set_there graph world state function frame next r (Some w) v e stands =
    subst (λ x. StandsAt graph world.cells function None next (slice_set frame.regs r (Some x)))
    (let same : v ≡ w = cc in same) stands
set_there graph world state function frame next r None v e stands = cc
