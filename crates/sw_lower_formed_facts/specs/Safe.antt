-- What it means that code is safe where it stands: whatever it makes of the function fits, and what
-- is claimed of its value holds.
use Rattle.std.specs.Prelude.{◌≡◌, ℕ, ◌+◌, ◌<◌, ◌≤◌, false, List, [], ◌∷◌, ◌++◌, Ok, Some, length}
use Rattle.std.specs.Prelude.{slice_get}
use Rattle.sw_types.specs.declared.ty.Ty.{Ty}
use Rattle.sw_graph.specs.Mentions.{set_by}
use Rattle.sw_graph.specs.declared.function.RegKind.{RegKind}
use Rattle.sw_graph.specs.declared.function.RegKind.TheVariants.{Plain}
use Rattle.sw_graph.specs.declared.instr.Instr.{Instr}
use Rattle.sw_graph.specs.declared.instr.Operand.{Operand}
use Rattle.sw_lower_plans.specs.Plan.{Entry, NewBlock, Piece, Written, written_in}
use Rattle.sw_lower_plans.specs.declared.bound.Bound.{Bound}
use Rattle.sw_lower_plans.specs.Run.{IsGoing, Making, instrs_at, place_of}
use Rattle.sw_lower_code.specs.Code.{Code}
use Rattle.sw_lower_formed_facts.specs.Fitting.{PieceOk}
use Rattle.sw_lower_formed_facts.specs.Whole.{AtEnd, IsSet, Whole, made_at}

-- Where code stands: the function as it is made until then, with the blocks that were made, and the
-- instructions in the order in which they were written.
pub record Position : Type 0 where
  pub making : Making
  pub made : List NewBlock
  pub writes : List Written

-- where code stands after a piece of code
abbrev pub moved : {A : Type 0} → Position → Piece A → Making → Position
moved p piece making = record {
  making = making;
  made = p.made ++ piece.made;
  writes = p.writes ++ piece.writes;
}

-- the block that goes on
abbrev pub here : Position → ℕ
here p = p.making.here

-- One list is the start of another.
abbrev pub IsStart : {A : Type 0} → List A → List A → Type 0
IsStart {A} start list = (rest : List A) × (list ≡ start ++ rest)

-- The function as it is made until then is what its plan says, and not too long.
pub record IsAsPlanned (p : Position) : Type 0 where
  pub going : IsGoing p.making
  pub fits : p.making.over ≡ false
  pub blocks : length p.making.made.blocks ≡ 1 + length p.made
  pub instrs : (number : ℕ) → instrs_at number p.making.made.blocks ≡ written_in number p.writes

-- What is made until then is the start of what the whole function has.
pub record IsIn (w : Whole) (p : Position) : Type 0 where
  pub regs : IsStart p.making.made.regs w.regs
  pub made : IsStart p.made w.made
  pub writes : IsStart p.writes w.writes

-- Code is safe at a position: if it runs to its end there, and what it makes is part of the whole
-- function, then it fits, and the claim holds of its value and of the position after it.
abbrev pub SafeAt : {A : Type 0} → Whole → Position → Code A → (A → Position → Type 0) → Type 0
SafeAt {A} w p code Post =
    IsAsPlanned p → (value : A) (t : Making) → code.run p.making ≡ Ok (value, t)
    → t.over ≡ false → IsIn w (moved p (code.plan (place_of p.making)) t)
    → PieceOk w p.writes (code.plan (place_of p.making))
    × Post value (moved p (code.plan (place_of p.making)) t)

-- What has a value at one position has it at a later one, and what has one at the end of its block
-- has one at the end of the later block. Functions keep their numbers.
pub record Follows (w : Whole) (p q : Position) : Type 0 where
  pub kept : (r : ℕ) → IsSet w p.writes (here p) r → IsSet w q.writes (here q) r
  pub under : (r : ℕ) → AtEnd w (here p) r → AtEnd w (here q) r
  pub regs : length p.making.made.regs ≤ length q.making.made.regs
  pub numbers : q.making.number ≡ p.making.number

-- A later position follows an earlier one, and the same variables are seen.
pub record Keeps (w : Whole) (p q : Position) : Type 0 where
  pub follows : Follows w p q
  pub vars : q.making.vars ≡ p.making.vars

-- The register of an operand has a value, of this type.
pub record IsValue (w : Whole) (q : Position) (ty : Ty) (x : Operand) : Type 0 where
  pub kind : slice_get w.regs x.reg ≡ Some (Plain ty)
  pub set : IsSet w q.writes (here q) x.reg
  pub made : x.reg < length q.making.made.regs

-- Code gives a value of a type, and what was known before is known after it.
abbrev pub ValueAfter : Whole → Position → Ty → Operand → Position → Type 0
ValueAfter w p ty x q = IsValue w q ty x × Keeps w p q

-- A register was made, and nothing else.
pub record MadeReg (w : Whole) (p : Position) (made : RegKind) (r : ℕ) (q : Position) : Type 0 where
  pub kind : slice_get w.regs r ≡ Some made
  pub number : r ≡ length p.making.made.regs
  pub below : r < length q.making.made.regs
  pub keeps : Keeps w p q
  pub there : here q ≡ here p
  pub writes : q.writes ≡ p.writes

-- An instruction was written, and what it sets has a value.
pub record Emitted (w : Whole) (p : Position) (instr : Instr) (q : Position) : Type 0 where
  pub keeps : Keeps w p q
  pub there : here q ≡ here p
  pub writes : q.writes ≡ p.writes ++ record { block = here p; instr = instr } ∷ []
  pub sets : (r : ℕ) → set_by instr ≡ Some r → IsSet w q.writes (here q) r

-- A block was made, and nothing else.
pub record MadeBlock (w : Whole) (p : Position) (entry : Entry) (number : ℕ) (q : Position)
    : Type 0 where
  pub made : made_at w number ≡ Some (record { entry = entry; from = here p })
  pub keeps : Keeps w p q
  pub there : here q ≡ here p
  pub writes : q.writes ≡ p.writes

-- Nothing but a last instruction was made.
pub record MadeLast (w : Whole) (p q : Position) : Type 0 where
  pub keeps : Keeps w p q
  pub there : here q ≡ here p
  pub writes : q.writes ≡ p.writes

-- Another block goes on, and nothing was made.
pub record Resumed (p : Position) (number : ℕ) (q : Position) : Type 0 where
  pub there : here q ≡ number
  pub writes : q.writes ≡ p.writes
  pub regs : length q.making.made.regs ≡ length p.making.made.regs
  pub vars : q.making.vars ≡ p.making.vars
  pub numbers : q.making.number ≡ p.making.number

-- One more variable is seen, and nothing was made.
pub record Named (w : Whole) (p : Position) (bound : Bound) (q : Position) : Type 0 where
  pub follows : Follows w p q
  pub there : here q ≡ here p
  pub writes : q.writes ≡ p.writes
  pub vars : q.making.vars ≡ p.making.vars ++ bound ∷ []

-- a position with these variables
abbrev pub seeing : List Bound → Position → Position
seeing vars q = record q { making = record q.making { vars = vars } }
