-- A function under construction, what each call does to it, and the function that it becomes.
use Rattle.std.specs.Prelude.{◌≡◌, ℕ, ◌+◌, ◌≤◌, Bool, List, [], ◌∷◌, ◌++◌, Option, length, refl}
use Rattle.std.specs.Prelude.{slice_get}
use Rattle.std.specs.Option.{option_map}
use Rattle.std.specs.Coded.{Coded, code_by, coded×, coded_ℕ, coded_bool, coded_list}
use Rattle.sw_types.specs.declared.isolation.Iso.{Iso}
use Rattle.sw_types.specs.declared.ty.Ty.{Ty}
use Rattle.sw_types.specs.contracts.isolation.Iso as iso
use Rattle.sw_graph.specs.declared.function.Function.{Function}
use Rattle.sw_graph.specs.declared.function.RegKind.{RegKind}
use Rattle.sw_graph.specs.declared.instr.Block.{Block}
use Rattle.sw_graph.specs.declared.instr.Instr.{Instr}
use Rattle.sw_graph.specs.contracts.function.RegKind as kind
use Rattle.sw_graph.specs.contracts.instr.Block as block
use Rattle.sw_graph.specs.declared.function.TheConstants.{MAX_REGISTERS, MAX_POINTS}
use Rattle.sw_graph.specs.Points.{points_of}
use Rattle.sw_lower_builder.specs.Blocks.{new_block, changed_at}
use Rattle.sw_lower_builder.specs.declared.builder.TheConstants.{MOST_BLOCKS}

pub record Unfinished : Type 0 where
  pub key : ℕ
  pub iso : Iso
  pub is_async : Bool
  pub regs : List RegKind
  pub blocks : List Block

-- it is stored as the pairs of its fields
abbrev pub unfinished_code : Coded Unfinished
unfinished_code =
    code_by
    ((ℕ × (Iso × Bool)) × (List RegKind × List Block))
    (coded×
    (coded× coded_ℕ (coded× iso.the_row.coded coded_bool))
    (coded× (coded_list kind.the_row.coded) (coded_list block.the_row.coded)))
    (λ u. ((u.key, (u.iso, u.is_async)), (u.regs, u.blocks)))
    (λ p. record {
      key = p.0.0;
      iso = p.0.1.0;
      is_async = p.0.1.1;
      regs = p.1.0;
      blocks = p.1.1;
    })
    (λ _. refl)

abbrev pub begun : ℕ → Iso → Bool → Unfinished
begun key iso is_async = record {
  key = key;
  iso = iso;
  is_async = is_async;
  regs = [];
  blocks = [];
}

abbrev pub with_register : RegKind → Unfinished → Unfinished
with_register kind unfinished = record unfinished { regs = unfinished.regs ++ kind ∷ [] }

abbrev pub with_block : Unfinished → Unfinished
with_block unfinished = record unfinished { blocks = unfinished.blocks ++ new_block ∷ [] }

-- a block of the function is changed by g, and nothing else
abbrev pub in_block : (Block → Block) → ℕ → Unfinished → Unfinished
in_block g number unfinished = record unfinished { blocks = changed_at g number unfinished.blocks }

-- the instructions of a block that was made
abbrev pub instrs_in : ℕ → Unfinished → Option (List Instr)
instrs_in number unfinished =
    option_map (λ (block : Block). block.instrs) (slice_get unfinished.blocks number)

-- the function takes no further register
abbrev pub HasAllRegisters : Unfinished → Type 0
HasAllRegisters unfinished = MAX_REGISTERS ≤ length unfinished.regs

-- the function takes no further instruction
abbrev pub HasAllPoints : Unfinished → Type 0
HasAllPoints unfinished = MAX_POINTS ≤ length (points_of unfinished.blocks)

-- the function, where it takes its first registers and gives a value of a type
abbrev pub finished : Unfinished → ℕ → List Bool → Bool → Ty → Function
finished unfinished takes sending sends gives = record {
  key = unfinished.key;
  iso = unfinished.iso;
  is_async = unfinished.is_async;
  takes = takes;
  sending = sending;
  sends = sends;
  result = gives;
  regs = unfinished.regs;
  blocks = unfinished.blocks;
}

-- What is kept of a function under construction: the count of its points, and bounds that keep the
-- count and the numbers of blocks small.
pub record IsCounted (regs : List RegKind) (blocks : List Block) (points : ℕ) : Type 0 where
  pub registers : length regs ≤ MAX_REGISTERS
  pub numbers : length blocks ≤ MOST_BLOCKS
  pub counted : points ≡ length (points_of blocks)
  pub bounded : points ≤ MAX_POINTS + length blocks
