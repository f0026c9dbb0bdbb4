-- Making a function by pieces of code, within the limits of a graph's functions, and what it means
-- that this makes what a plan says.
use Rattle.std.specs.Prelude.{◌≡◌, ℕ, ◌+◌, ◌<◌, ◌≤◌, ◌⊎◌, Bool, true, false, ◌&&◌, nat_le, nat_lt}
use Rattle.std.specs.Prelude.{List, [], ◌∷◌, ◌++◌, Option, Some, None, Result, Ok, Err, length}
use Rattle.std.specs.Prelude.{slice_get, take, if◌then◌else◌}
use Rattle.std.specs.List.{list_all}
use Rattle.sw_types.specs.declared.isolation.Iso.{Iso}
use Rattle.sw_graph.specs.Payloads.{is_payload}
use Rattle.sw_graph.specs.Points.{points_of}
use Rattle.sw_graph.specs.declared.function.RegKind.{RegKind}
use Rattle.sw_graph.specs.declared.function.TheConstants.{MAX_POINTS, MAX_REGISTERS}
use Rattle.sw_graph.specs.declared.instr.Block.{Block}
use Rattle.sw_graph.specs.declared.instr.Instr.{Instr}
use Rattle.sw_graph.specs.declared.instr.Last.{Last}
use Rattle.sw_graph.specs.declared.instr.Last.TheVariants.{Return}
use Rattle.sw_lower_builder.specs.Blocks.{with_instr, with_last}
use Rattle.sw_lower_builder.specs.declared.builder.TheConstants.{MOST_BLOCKS}
use Rattle.sw_lower_builder.specs.Unfinished.{Unfinished, begun, in_block, with_block, with_register}
use Rattle.sw_lower_plans.specs.Plan.{Numbers, Piece, Place, Written, ended_in, size, var_in}
use Rattle.sw_lower_plans.specs.Plan.{written_in}
use Rattle.sw_lower_plans.specs.declared.bound.Bound.{Bound}
use Rattle.sw_lower_plans.specs.declared.name.FunctionName.{FunctionName}
use Rattle.sw_lower_plans.specs.declared.fault.CodeFault.{CodeFault}
use Rattle.sw_lower_plans.specs.declared.fault.CodeFault.TheVariants.{Registers, Blocks, Missing, Memory}

-- A function while code for it is made: what is made, the block that goes on, the variables that
-- are seen, the numbers of functions, and whether an instruction was dropped because the function
-- had all its points.
pub record Making : Type 0 where
  pub made : Unfinished
  pub here : ℕ
  pub vars : List Bound
  pub number : Numbers
  pub over : Bool

abbrev pub Run : Type 0 → Type 0
Run A = Making → Result (A × Making) CodeFault

abbrev pub points : Making → ℕ
points making = length (points_of making.made.blocks)

-- the place at which a function has come
abbrev pub place_of : Making → Place
place_of making = record {
  regs = length making.made.regs;
  blocks = length making.made.blocks;
  here = making.here;
  vars = making.vars;
  number = making.number;
}

abbrev pub run_reg : RegKind → Run ℕ
run_reg kind making =
    if nat_le MAX_REGISTERS (length making.made.regs) then Err Registers
    else Ok (length making.made.regs, record making { made = with_register kind making.made })

abbrev pub run_block : Run ℕ
run_block making =
    if nat_le MOST_BLOCKS (length making.made.blocks) then Err Blocks
    else Ok (length making.made.blocks, record making { made = with_block making.made })

-- A function with all its points takes no instruction. That this makes it too large is seen at its
-- end, so that too many registers count first.
abbrev pub run_emit : Instr → Run (Unit {0})
run_emit instr making =
    if nat_le MAX_POINTS (points making) then Ok (tt, record making { over = true })
    else Ok (tt, record making { made = in_block (with_instr instr) making.here making.made })

abbrev pub payloads_alone : Option Block → Bool
payloads_alone None = false
payloads_alone (Some block) = list_all is_payload block.instrs

-- A payload is taken at the front of a block, after payloads alone. No code asks for one elsewhere.
abbrev pub run_front : Instr → Run (Unit {0})
run_front instr making =
    if is_payload instr && payloads_alone (slice_get making.made.blocks making.here)
    then run_emit instr making else Err Missing

abbrev pub run_close : Last → Run (Unit {0})
run_close last making =
    Ok (tt, record making { made = in_block (with_last last) making.here making.made })

-- A block that goes on was made. No code asks for another.
abbrev pub run_resume : ℕ → Run (Unit {0})
run_resume number making =
    if nat_lt number (length making.made.blocks)
    then Ok (tt, record making { here = number }) else Err Missing

abbrev pub run_bind : Bound → Run (Unit {0})
run_bind bound making = Ok (tt, record making { vars = making.vars ++ bound ∷ [] })

-- What is asked for is known. No code asks for what isn't.
abbrev pub run_known : {A : Type 0} → Option A → Run A
run_known None making = Err Missing
run_known (Some value) making = Ok (value, making)

abbrev pub run_var : ℕ → Run Bound
run_var key making = run_known (var_in key making.vars) making

abbrev pub run_number : FunctionName → Run ℕ
run_number name making = run_known (making.number name) making

-- what runs after a run, with what that gave
abbrev pub run_after : {A B : Type 0} → Result (A × Making) CodeFault → (A → Run B)
    → Result (B × Making) CodeFault
run_after (Ok at) next = next at.0 at.1
run_after (Err fault) next = Err fault

-- after a run, the variables are the first ones, as many as a count
abbrev pub with_vars : {A : Type 0} → ℕ → Result (A × Making) CodeFault
    → Result (A × Making) CodeFault
with_vars count (Ok at) = Ok (at.0, record at.1 { vars = take count at.1.vars })
with_vars count (Err fault) = Err fault

-- a run after which the variables are those before it
abbrev pub run_scope : {A : Type 0} → Run A → Run A
run_scope run making = with_vars (length making.vars) (run making)

-- a function without registers whose first block goes on
abbrev pub at_start : Numbers → ℕ → Iso → Bool → Making
at_start number key iso is_async = record {
  made = with_block (begun key iso is_async);
  here = 0;
  vars = [];
  number = number;
  over = false;
}

-- What a block that isn't there has counts as what a new block has.
abbrev pub instrs_of : Option Block → List Instr
instrs_of None = []
instrs_of (Some block) = block.instrs

abbrev pub last_of : Option Block → Last
last_of None = Return None
last_of (Some block) = block.last

unfoldable pub instrs_at : ℕ → List Block → List Instr
instrs_at number blocks = instrs_of (slice_get blocks number)

unfoldable pub last_at : ℕ → List Block → Last
last_at number blocks = last_of (slice_get blocks number)

-- each instruction is in one of the first n blocks
abbrev pub AreInFirstBlocks : ℕ → List Written → Type 0
AreInFirstBlocks count [] = Unit {0}
AreInFirstBlocks count (one ∷ more) = (one.block < count) × AreInFirstBlocks count more

-- What is made by a piece of code, from s to t. Registers, blocks and variables are those of the
-- plan. The instructions are, but where the function has too many points; then more are planned
-- than it may have.
pub record Makes {A : Type 0} (piece : Piece A) (s t : Making) : Type 0 where
  pub key : t.made.key ≡ s.made.key
  pub iso : t.made.iso ≡ s.made.iso
  pub is_async : t.made.is_async ≡ s.made.is_async
  pub number : t.number ≡ s.number
  pub regs : t.made.regs ≡ s.made.regs ++ piece.regs
  pub few : length s.made.regs ≤ MAX_REGISTERS → length t.made.regs ≤ MAX_REGISTERS
  pub blocks : length t.made.blocks ≡ length s.made.blocks + length piece.made
  pub here : t.here ≡ piece.there
  pub there : t.here < length t.made.blocks
  pub vars : t.vars ≡ s.vars ++ piece.vars
  pub lasts : (number : ℕ) → last_at number t.made.blocks
      ≡ ended_in number piece.lasts (last_at number s.made.blocks)
  pub inside : AreInFirstBlocks (length t.made.blocks) piece.writes
  pub most : points t ≤ points s + size piece
  pub beyond : t.over ≡ true → (s.over ≡ true) ⊎ (MAX_POINTS < points s + size piece)
  pub before : t.over ≡ false → s.over ≡ false
  pub exact : t.over ≡ false → points t ≡ points s + size piece
  pub instrs : t.over ≡ false → (number : ℕ) → instrs_at number t.made.blocks
      ≡ instrs_at number s.made.blocks ++ written_in number piece.writes

-- A run does what a plan says. It ends early where the plan has too many registers or too many
-- blocks, or where it asks for what isn't known. It never wants memory.
abbrev pub Meets : {A : Type 0} → Making → Result (A × Making) CodeFault → Piece A → Type 0
Meets s (Ok at) piece = (at.0 ≡ piece.value) × Makes piece s at.1
Meets s (Err Registers) piece = MAX_REGISTERS < length s.made.regs + length piece.regs
Meets s (Err Blocks) piece = MOST_BLOCKS < length s.made.blocks + length piece.made
Meets s (Err Missing) piece = Unit {0}
Meets s (Err Memory) piece = ⊥

-- the block that goes on is there
abbrev pub IsGoing : Making → Type 0
IsGoing making = making.here < length making.made.blocks
