-- What a piece of code adds to a function, said by whole lists: no limit is looked at, and where it
-- begins is known as numbers alone.
use Rattle.std.specs.Prelude.{ℕ, zero, suc, ◌+◌, ◌==◌, List, [], ◌∷◌, ◌++◌, Option, Some, None}
use Rattle.std.specs.Prelude.{length, if◌then◌else◌}
use Rattle.sw_graph.specs.declared.function.RegKind.{RegKind}
use Rattle.sw_graph.specs.declared.instr.Block.{Block}
use Rattle.sw_graph.specs.declared.instr.Instr.{Instr}
use Rattle.sw_graph.specs.declared.instr.Last.{Last}
use Rattle.sw_graph.specs.declared.instr.Last.TheVariants.{Return}
use Rattle.sw_lower_plans.specs.declared.bound.Bound.{Bound}
use Rattle.sw_lower_plans.specs.declared.name.FunctionName.{FunctionName}

-- how a block may be entered: from anywhere, or by a switch on a register that holds a case of an
-- enum, by the numbers of the enum's shape and of the case
pub data Entry : Type 0 where
  Anywhere : Entry
  OfCase : ℕ → ℕ → ℕ → Entry

-- a block that is made: how it may be entered, and the block that went on when it was made
pub record NewBlock : Type 0 where
  pub entry : Entry
  pub from : ℕ

-- an instruction in a block, and the last instruction of a block
pub record Written : Type 0 where
  pub block : ℕ
  pub instr : Instr

pub record Ended : Type 0 where
  pub block : ℕ
  pub last : Last

-- the numbers of functions by their names
abbrev pub Numbers : Type 0
Numbers = FunctionName → Option ℕ

-- where a piece of code begins: how many registers and blocks there are, the block that goes on,
-- the variables that are seen, and the numbers of functions
pub record Place : Type 0 where
  pub regs : ℕ
  pub blocks : ℕ
  pub here : ℕ
  pub vars : List Bound
  pub number : Numbers

-- what a piece of code makes: a value, registers, blocks, instructions, last instructions and
-- variables; and the block that goes on after it
pub record Piece (A : Type 0) : Type 0 where
  pub value : A
  pub regs : List RegKind
  pub made : List NewBlock
  pub writes : List Written
  pub lasts : List Ended
  pub there : ℕ
  pub vars : List Bound

abbrev pub Plan : Type 0 → Type 0
Plan A = Place → Piece A

-- how many points a piece of code makes
abbrev pub size : {A : Type 0} → Piece A → ℕ
size piece = length piece.writes + length piece.made

-- the place after a piece of code
abbrev pub after : {A : Type 0} → Place → Piece A → Place
after place piece = record {
  regs = place.regs + length piece.regs;
  blocks = place.blocks + length piece.made;
  here = piece.there;
  vars = place.vars ++ piece.vars;
  number = place.number;
}

-- one piece, and another after it that gives the value
abbrev pub joined : {A B : Type 0} → Piece A → Piece B → Piece B
joined first second = record {
  value = second.value;
  regs = first.regs ++ second.regs;
  made = first.made ++ second.made;
  writes = first.writes ++ second.writes;
  lasts = first.lasts ++ second.lasts;
  there = second.there;
  vars = first.vars ++ second.vars;
}

-- nothing is made
abbrev pub nothing : {A : Type 0} → A → Plan A
nothing value place = record {
  value = value;
  regs = [];
  made = [];
  writes = [];
  lasts = [];
  there = place.here;
  vars = [];
}

-- the number that comes next among the registers
abbrev pub plan_reg : RegKind → Plan ℕ
plan_reg kind place = record (nothing place.regs place) { regs = kind ∷ [] }

-- the number that comes next among the blocks
abbrev pub plan_block : Entry → Plan ℕ
plan_block entry place =
    record (nothing place.blocks place) { made = record { entry = entry; from = place.here } ∷ [] }

abbrev pub plan_emit : Instr → Plan (Unit {0})
plan_emit instr place =
    record (nothing tt place) { writes = record { block = place.here; instr = instr } ∷ [] }

-- the block that goes on gets its last instruction
abbrev pub plan_close : Last → Plan (Unit {0})
plan_close last place =
    record (nothing tt place) { lasts = record { block = place.here; last = last } ∷ [] }

-- another block goes on
abbrev pub plan_resume : ℕ → Plan (Unit {0})
plan_resume number place = record (nothing tt place) { there = number }

abbrev pub plan_bind : Bound → Plan (Unit {0})
plan_bind bound place = record (nothing tt place) { vars = bound ∷ [] }

-- what is planned after a plan, with what that gave
abbrev pub plan_after : {A B : Type 0} → Plan A → (A → Plan B) → Plan B
plan_after first next place =
    let piece = first place in
    joined piece (next piece.value (after place piece))

-- a plan whose variables are seen in it alone
abbrev pub plan_scope : {A : Type 0} → Plan A → Plan A
plan_scope plan place = record (plan place) { vars = [] }

-- the first variable with a key
abbrev pub var_in : ℕ → List Bound → Option Bound
var_in key [] = None
var_in key (bound ∷ vars) = if bound.key == key then Some bound else var_in key vars

-- the instructions of a block
abbrev pub written_in : ℕ → List Written → List Instr
written_in number [] = []
written_in number (one ∷ more) =
    if one.block == number then one.instr ∷ written_in number more else written_in number more

-- the last instruction that a block was given last
abbrev pub ended_in : ℕ → List Ended → Last → Last
ended_in number [] last = last
ended_in number (one ∷ more) last =
    ended_in number more (if one.block == number then one.last else last)

-- the numbers from one on, as many as a count
abbrev pub counted_from : ℕ → ℕ → List ℕ
counted_from number zero = []
counted_from number (suc count) = number ∷ counted_from (number + 1) count

-- A block that is given no last instruction returns nothing.
abbrev pub block_by : {A : Type 0} → Piece A → ℕ → Block
block_by piece number = record {
  instrs = written_in number piece.writes;
  last = ended_in number piece.lasts (Return None);
}
