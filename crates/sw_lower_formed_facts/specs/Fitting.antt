-- What instructions and last instructions have to be for the function to be one of a well-formed
-- graph.
use Rattle.std.specs.Prelude.{◌≡◌, ◌≢◌, ℕ, ◌||◌, not, IsTrue, List, [], ◌∷◌, ◌++◌, Some, length}
use Rattle.std.specs.Prelude.{All, slice_get}
use Rattle.std.specs.List.{list_all}
use Rattle.sw_types.specs.Named.{is_within}
use Rattle.sw_graph.specs.Kinds.{Goes, KindsFit, LastKindsFit}
use Rattle.sw_graph.specs.Mentions.{blocks_of, last_registers, reads}
use Rattle.sw_graph.specs.Payloads.{is_payload, payload_at}
use Rattle.sw_graph.specs.WellFormed.{type_in}
use Rattle.sw_graph.specs.declared.function.RegKind.{RegKind}
use Rattle.sw_graph.specs.declared.instr.Instr.{Instr}
use Rattle.sw_graph.specs.declared.instr.Instr.TheVariants.{Payload}
use Rattle.sw_graph.specs.declared.instr.Last.{Last}
use Rattle.sw_graph.specs.declared.instr.Last.TheVariants.{Switch}
use Rattle.sw_graph.specs.declared.instr.Operand.{Operand}
use Rattle.sw_lower_plans.specs.Plan.{Anywhere, Ended, Entry, NewBlock, OfCase, Piece, Written}
use Rattle.sw_lower_plans.specs.Plan.{written_in}
use Rattle.sw_lower_formed_facts.specs.Whole.{AtEnd, IsSet, Whole, made_at}

-- The types that a register's kind names are declared.
abbrev pub IsKind : Whole → RegKind → Type 0
IsKind w kind = IsTrue (is_within (length w.shapes) (type_in kind))

-- A payload is taken in a block that is entered for its case alone, into another register than that
-- of the value, of a kind to which the payload goes.
pub record PayloadOk (w : Whole) (block r : ℕ) (s : Operand) (i : ℕ) : Type 0 where
  pub one : NewBlock
  pub shape : ℕ
  pub tag : ℕ
  pub made : made_at w block ≡ Some one
  pub entry : one.entry ≡ OfCase s.reg shape tag
  pub apart : r ≢ s.reg
  pub goes : Goes (payload_at w.shapes (slice_get w.regs s.reg) tag i) (slice_get w.regs r)

-- An instruction that takes a payload may take it in this block.
abbrev pub MayBePayload : Whole → ℕ → Instr → Type 0
MayBePayload w block (Payload at dst src index) = PayloadOk w block dst src index
MayBePayload w block _ = Unit {0}

-- An instruction of a block, after these of the function: its kinds fit, what it reads has a value,
-- and a payload is taken before anything else is done in the block.
pub record InstrOk (w : Whole) (before : List Written) (block : ℕ) (instr : Instr) : Type 0 where
  pub kinds : KindsFit w.shapes w.globals w.functions w.regs instr
  pub reads : All (IsSet w before block) (reads instr)
  pub payload : MayBePayload w block instr
  pub front : IsTrue (not (is_payload instr) || list_all is_payload (written_in block before))

-- A way of a last instruction, by its number, may lead to a block that is entered so: a block for a
-- case is entered by a switch alone, at the number of the case.
abbrev pub EntersBy : Last → ℕ → Entry → Type 0
EntersBy last number Anywhere = Unit {0}
EntersBy (Switch subject to) number (OfCase reg shape tag) = (subject.reg ≡ reg) × (number ≡ tag)
EntersBy _ number (OfCase reg shape tag) = ⊥

-- A way leads to a block that was made and may be entered so, and what has a value where that block
-- begins has one at the end of this one.
pub record LeadsOk (w : Whole) (block : ℕ) (last : Last) (number to : ℕ) : Type 0 where
  pub one : NewBlock
  pub made : made_at w to ≡ Some one
  pub entry : EntersBy last number one.entry
  pub passes : (r : ℕ) → AtEnd w one.from r → AtEnd w block r

-- The last instruction of a block: its kinds fit, what it reads has a value, and each of its ways
-- leads to such a block.
pub record LastOk (w : Whole) (block : ℕ) (last : Last) : Type 0 where
  pub kinds : LastKindsFit w.shapes w.regs w.result last
  pub reads : All (AtEnd w block) (last_registers last)
  pub leads : (number to : ℕ) → slice_get (blocks_of last) number ≡ Some to
      → LeadsOk w block last number to

-- Each of these instructions is such a one, after those before it.
abbrev pub AllWritten : Whole → List Written → List Written → Type 0
AllWritten w before [] = Unit {0}
AllWritten w before (one ∷ more) =
    InstrOk w before one.block one.instr × AllWritten w (before ++ one ∷ []) more

-- A piece of code, after these instructions, fits into the whole function: its registers have
-- declared types, and its instructions and last instructions are such ones.
pub record PieceOk {A : Type 0} (w : Whole) (before : List Written) (piece : Piece A) : Type 0 where
  pub kinds : All (IsKind w) piece.regs
  pub writes : AllWritten w before piece.writes
  pub lasts : All (λ (one : Ended). LastOk w one.block one.last) piece.lasts
