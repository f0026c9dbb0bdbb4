-- What every graph keeps: its numbers are in range, each global has a first value, its functions
-- are within the limits, its registers have the kinds that are asked for, payloads are taken where
-- their case is known, and registers are set before they are read.
use Rattle.std.specs.Prelude.{◌≡◌, ℕ, ◌<◌, ◌≤◌, IsTrue, List, Some, length, slice_get}
use Rattle.std.specs.List.{All}
use Rattle.sw_types.specs.declared.ty.Ty.{Ty}
use Rattle.sw_types.specs.declared.shape.Shape.{Shape}
use Rattle.sw_types.specs.Named.{is_within}
use Rattle.sw_graph.specs.declared.function.Function.{Function}
use Rattle.sw_graph.specs.declared.function.GlobalKind.{GlobalKind}
use Rattle.sw_graph.specs.declared.function.RegKind.{RegKind}
use Rattle.sw_graph.specs.declared.function.RegKind.TheVariants.{Plain, BoxOf}
use Rattle.sw_graph.specs.declared.instr.Block.{Block}
use Rattle.sw_graph.specs.declared.instr.Instr.{Instr}
use Rattle.sw_graph.specs.declared.instr.Last.{Last}
use Rattle.sw_graph.specs.Kinds.{KindsFit, LastKindsFit}
use Rattle.sw_graph.specs.Limits.{IsWithinLimits}
use Rattle.sw_graph.specs.Mentions.{registers_of, functions_of, globals_of, shapes_of}
use Rattle.sw_graph.specs.Payloads.{PayloadsFit}
use Rattle.sw_graph.specs.Ways.{SetsBeforeReads}
use Rattle.sw_graph.specs.Mentions.{last_registers, blocks_of}

-- each number is below the count
abbrev pub AllBelow : ℕ → List ℕ → Type 0
AllBelow count numbers = All (λ n. n < count) numbers

-- the type of a kind's value, or of what its box holds
abbrev pub type_in : RegKind → Ty
type_in (Plain ty) = ty
type_in (BoxOf ty) = ty

-- An instruction names registers of its function, and functions, globals and shapes of the graph,
-- and its registers have the kinds that it asks for.
pub record InstrFits (shapes : List Shape) (globals : List GlobalKind) (functions : List Function)
    (function : Function) (instr : Instr) : Type 0 where
  pub registers : AllBelow (length function.regs) (registers_of instr)
  pub functions_in : AllBelow (length functions) (functions_of instr)
  pub globals_in : AllBelow (length globals) (globals_of instr)
  pub shapes_in : AllBelow (length shapes) (shapes_of instr)
  pub kinds : KindsFit shapes globals functions function.regs instr

-- The same of the last of a block, which names blocks of its function.
pub record LastFits (shapes : List Shape) (function : Function) (last : Last) : Type 0 where
  pub registers : AllBelow (length function.regs) (last_registers last)
  pub blocks_in : AllBelow (length function.blocks) (blocks_of last)
  pub kinds : LastKindsFit shapes function.regs function.result last

-- each instruction of a block fits, and so does its last
pub record BlockFits (shapes : List Shape) (globals : List GlobalKind) (functions : List Function)
    (function : Function) (block : Block) : Type 0 where
  pub instrs : All (InstrFits shapes globals functions function) block.instrs
  pub last : LastFits shapes function block.last

-- A function has a block to begin at, takes no more than it has registers for, says of each thing
-- that it takes whether that is `sending`, and has types of the graph's shapes alone. Its blocks
-- fit, payloads stand where their case is known, and registers are set before they are read.
pub record FunctionFits (shapes : List Shape) (globals : List GlobalKind)
    (functions : List Function) (function : Function) : Type 0 where
  pub takes : function.takes ≤ length function.regs
  pub sending : length function.sending ≡ function.takes
  pub begins : 0 < length function.blocks
  pub types : All (λ kind. IsTrue (is_within (length shapes) (type_in kind))) function.regs
  pub result : IsTrue (is_within (length shapes) function.result)
  pub blocks : All (BlockFits shapes globals functions function) function.blocks
  pub payloads : (number : ℕ) (block : Block) → slice_get function.blocks number ≡ Some block
      → PayloadsFit shapes function number block
  pub sets : SetsBeforeReads function

-- A graph is well formed: the numbers of its entry and of the functions that give first values are
-- in range, each global has such a function, and its functions fit and are within the limits.
pub record IsWellFormed (shapes : List Shape) (globals : List GlobalKind)
    (functions : List Function) (entry : ℕ) (starts : List ℕ) : Type 0 where
  pub entry_in : entry < length functions
  pub starts_in : AllBelow (length functions) starts
  pub first_values : length starts ≡ length globals
  pub types : All (λ global. IsTrue (is_within (length shapes) global.ty)) globals
  pub limits : All IsWithinLimits functions
  pub each : All (FunctionFits shapes globals functions) functions
