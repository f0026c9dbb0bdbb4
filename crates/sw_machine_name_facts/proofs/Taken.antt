-- What an effect gives that takes it from registers, or gives it to a frame.
use Rattle.std.proofs.Common.{◌≡◌, ℕ, Bool, true, false, cond, Option, Some}
use Rattle.std.proofs.Common.{None, List, length, nat_le, Contains, refl}
use Rattle.std.specs.Prelude.{option_and_then, Result, Ok, Err}
use Rattle.sw_graph.specs.declared.instr.Operand.{Operand}
use Rattle.sw_value.specs.declared.cell.Slot.{Slot}
use Rattle.sw_value.specs.declared.effect.Act.TheVariants.{Execute}
use Rattle.sw_value.specs.declared.effect.Effect.{Effect}
use Rattle.sw_value.specs.declared.effect.Effect.TheVariants as effect
use Rattle.sw_value.specs.declared.frame.Frame.{Frame}
use Rattle.sw_value.specs.declared.frame.TheConstants.{MAX_FRAMES}
use Rattle.sw_value.specs.declared.job.TheConstants.{MAX_JOBS}
use Rattle.sw_value.specs.declared.state.State.{State}
use Rattle.sw_value.specs.declared.state.TrapKind.{TrapKind}
use Rattle.sw_value.specs.declared.state.TrapKind.TheVariants.{Frames, Jobs}
use Rattle.sw_value.specs.declared.value.Value.{Value}
use Rattle.sw_value.specs.Effect.{enter_of, spawn_of}
use Rattle.sw_value.specs.Effect.{needs, is_stuck, computed_of, slot_at, slot_write}
use Rattle.sw_value.specs.Effect.{returned_value}
use Rattle.sw_value.specs.Value.{operand_value, values_at}
use Rattle.sw_reach_facts.specs.Reached.{references}
use Rattle.sw_machine_name_facts.specs.Given.{EffectGives}
use Rattle.sw_machine_name_facts.specs.Names.{RegistersName}
use Rattle.sw_machine_name_facts.proofs.Computed.{IsPlain}
use Rattle.sw_machine_name_facts.proofs.Jobs.{begun_frame}
use Rattle.sw_machine_name_facts.proofs.Needs.{of_needs, in_needs}
use Rattle.sw_machine_name_facts.proofs.Parts.{nothing_named, void_names}
use Rattle.sw_machine_name_facts.proofs.Registers as register

-- the effect gives the name
abbrev pub Gives : ℕ → Effect → Type 0
Gives k e = EffectGives e k

-- what is stuck gives nothing
pub gives_free : (e : Effect) (k : ℕ) → EffectGives e k → is_stuck e ≡ false
gives_free effect.Stuck k gives = absurd gives
gives_free e k gives = refl

-- ---- from registers
-- what an instruction takes that has one operand
pub operand_given : (regs : List (Option Value)) (o : Operand) (k : ℕ) (f : Value → Effect)
    → ((v : Value) → Gives k (f v) → Contains (references v) k)
    → Gives k (needs (operand_value regs o) f) → RegistersName regs k
operand_given regs o k f of gives =
    let found = of_needs (Gives k) (λ none. none) (operand_value regs o) f gives in
    register.in_register regs o.reg found.0 k found.1 (of found.0 found.2)

-- and one that has several
pub operands_given : (regs : List (Option Value)) (os : List Operand) (k : ℕ) (f : List Value → Effect)
    → ((vs : List Value) → Gives k (f vs)
    → (v : Value) × Contains vs v × Contains (references v) k)
    → Gives k (needs (values_at regs os) f) → RegistersName regs k
operands_given regs os k f of gives =
    let found = of_needs (Gives k) (λ none. none) (values_at regs os) f gives in
    let one = of found.0 found.2 in
    register.in_operands regs os found.0 one.0 k found.1 one.1 one.2

-- a part that is taken of a value
pub part_given : (regs : List (Option Value)) (o : Operand) (k r next : ℕ) (part : Value → Option Value)
    → ((v w : Value) → part v ≡ Some w → Contains (references w) k → Contains (references v) k)
    → Gives k (needs (option_and_then part (operand_value regs o)) (λ v. effect.Set r v next))
    → RegistersName regs k
part_given regs o k r next part within = by (operand_value regs o) refl where
  by : (v : Option Value) → operand_value regs o ≡ v
      → Gives k (needs (option_and_then part v) (λ v. effect.Set r v next)) → RegistersName regs k
  by None at gives = absurd gives
  by (Some v) at gives =
      let found = of_needs (Gives k) (λ none. none) (part v) (λ v. effect.Set r v next) gives in
      register.in_register regs o.reg v k at (within v found.0 found.1 found.2)

-- what is computed is no reference
pub computed_given : (k next at r : ℕ) (result : Result Value TrapKind) → IsPlain result
    → Gives k (computed_of next at r result) → ⊥
computed_given k next at r (Ok v) plain gives = nothing_named v k plain gives
computed_given k next at r (Err kind) plain gives = gives

-- what a store writes
pub stored_given : (state : State) (frame : Frame) (next : ℕ) (o : Operand) (slot : Slot) (s : Operand)
    (k : ℕ) → Gives k (slot_write state frame next o slot s) → RegistersName frame.regs k
stored_given state frame next o slot s k =
    operand_given frame.regs s k
    (λ v. needs (slot_at state frame o slot) (λ c. effect.Write c slot v next))
    (λ v gives. (of_needs (Gives k) (λ none. none) (slot_at state frame o slot)
    (λ c. effect.Write c slot v next) gives).2)

pub returned_given : (regs : List (Option Value)) (o : Option Operand) (k : ℕ)
    → Gives k (needs (returned_value regs o) effect.Leave) → RegistersName regs k
returned_given regs None k gives = absurd (void_names k gives)
returned_given regs (Some o) k gives = operand_given regs o k effect.Leave (λ v names. names) gives

-- ---- in frames
-- what an instruction gives that begins a frame, a register of that frame names
abbrev pub BeginsNamed : ℕ → Effect → Type 0
BeginsNamed k e =
    Gives k e → (frame : Frame) × (begun_frame (Execute e) ≡ Some frame)
    × RegistersName frame.regs k

pub enter_begins : (k depth next at : ℕ) (frame : Frame) → BeginsNamed k (enter_of depth next at frame)
enter_begins k depth next at frame = by (nat_le MAX_FRAMES depth) where
  by : (full : Bool) → BeginsNamed k (cond full (effect.Halt Frames at) (effect.Enter frame next))
  by true = λ none. absurd none
  by false = λ named. (frame, refl, named)

pub spawn_begins : (state : State) (k next at r : ℕ) (frame : Frame)
    → BeginsNamed k (spawn_of state next at r frame)
spawn_begins state k next at r frame = by (nat_le MAX_JOBS (length state.jobs)) where
  by : (full : Bool) → BeginsNamed k (cond full (effect.Halt Jobs at)
      (effect.Spawn r frame (length state.jobs) (length state.cells) next))
  by true = λ none. absurd none
  by false = λ named. (frame, refl, named)

-- as all do that need something first
pub first_needs : {A : Type 0} (k : ℕ) (f : A → Effect) → ((x : A) → BeginsNamed k (f x))
    → (o : Option A) → BeginsNamed k (needs o f)
first_needs k = in_needs (BeginsNamed k) (λ none. absurd none)
