-- What a step of a run makes of a function that is being made.
use Rattle.std.specs.Prelude.{◌≡◌, ◌≢◌, ℕ, suc, ◌<◌, [], ◌∷◌, ◌++◌, length}
use Rattle.sw_graph.specs.declared.instr.Instr.{Instr}
use Rattle.sw_graph.specs.declared.instr.Last.{Last}
use Rattle.sw_graph.specs.declared.instr.Operand.{Operand}
use Rattle.sw_lower_plans.specs.Run.{Making, instrs_at, last_at}

-- how many instructions the block that goes on has
abbrev pub index : Making → ℕ
index s = length (instrs_at s.here s.made.blocks)

-- an instruction was written into the block that goes on
pub record Wrote (s : Making) (instr : Instr) (t : Making) : Type 0 where
  pub here : t.here ≡ s.here
  pub instrs : instrs_at s.here t.made.blocks ≡ instrs_at s.here s.made.blocks ++ instr ∷ []

-- and nothing else happened
pub record Emitted (s : Making) (instr : Instr) (t : Making) : Type 0 where
  pub wrote : Wrote s instr t
  pub vars : t.vars ≡ s.vars
  pub regs : length t.made.regs ≡ length s.made.regs

-- a register was made, and nothing else happened
pub record MadeReg (s : Making) (r : ℕ) (t : Making) : Type 0 where
  pub is : r ≡ length s.made.regs
  pub here : t.here ≡ s.here
  pub vars : t.vars ≡ s.vars
  pub over : t.over ≡ s.over
  pub regs : length t.made.regs ≡ suc (length s.made.regs)
  pub blocks : t.made.blocks ≡ s.made.blocks

-- a register was made, and an instruction for it was written
pub record Gave (s : Making) (instr : ℕ → Instr) (given : Operand) (t : Making) : Type 0 where
  pub reg : given.reg ≡ length s.made.regs
  pub wrote : Wrote s (instr (length s.made.regs)) t
  pub vars : t.vars ≡ s.vars
  pub regs : length t.made.regs ≡ suc (length s.made.regs)

-- a block was made
pub record MadeBlock (s : Making) (made : ℕ) (t : Making) : Type 0 where
  pub number : made ≡ length s.made.blocks
  pub count : length t.made.blocks ≡ suc (length s.made.blocks)
  pub here : t.here ≡ s.here
  pub vars : t.vars ≡ s.vars
  pub over : t.over ≡ s.over
  pub regs : t.made.regs ≡ s.made.regs
  pub instrs : (b : ℕ) → instrs_at b t.made.blocks ≡ instrs_at b s.made.blocks
  pub lasts : (b : ℕ) → last_at b t.made.blocks ≡ last_at b s.made.blocks
  pub empty : instrs_at made t.made.blocks ≡ []

-- the block that goes on got a last instruction
pub record Closed (s : Making) (last : Last) (t : Making) : Type 0 where
  pub here : t.here ≡ s.here
  pub vars : t.vars ≡ s.vars
  pub over : t.over ≡ s.over
  pub regs : t.made.regs ≡ s.made.regs
  pub count : length t.made.blocks ≡ length s.made.blocks
  pub instrs : (b : ℕ) → instrs_at b t.made.blocks ≡ instrs_at b s.made.blocks
  pub lasts : (b : ℕ) → b ≢ s.here → last_at b t.made.blocks ≡ last_at b s.made.blocks
  pub ended : last_at s.here t.made.blocks ≡ last

-- another block goes on
pub record Resumed (s : Making) (number : ℕ) (t : Making) : Type 0 where
  pub made : number < length s.made.blocks
  pub is : t ≡ record s { here = number }
