-- The points of a function: its instructions and the last instructions of its blocks, numbered in
-- the order of the blocks.
use Rattle.std.specs.Prelude.{ℕ, ◌<◌, ◌^◌, Option, List, [], ◌∷◌, ◌++◌, length, map, take}
use Rattle.std.specs.Prelude.{slice_get}
use Rattle.std.specs.List.{flat_map}
use Rattle.std.specs.Option.{option_map}
use Rattle.sw_graph.specs.declared.instr.Instr.{Instr}
use Rattle.sw_graph.specs.declared.instr.Last.{Last}
use Rattle.sw_graph.specs.declared.instr.Block.{Block}
use Rattle.sw_graph.specs.declared.function.Function.{Function}

-- what stands at a point: an instruction of a block, or the block's last
pub data Point : Type 0 where
  Middle : Instr → Point
  End : Last → Point

abbrev pub points_of_block : Block → List Point
points_of_block block = map Middle block.instrs ++ End block.last ∷ []

unfoldable pub points_of : List Block → List Point
points_of blocks = flat_map points_of_block blocks

-- what stands at point n of a function, if it has that point
abbrev pub point_in : Function → ℕ → Option Point
point_in function n = slice_get (points_of function.blocks) n

-- the point at which block n of a function begins, if it has that block
abbrev pub block_start : Function → ℕ → Option ℕ
block_start function n =
    option_map (λ block. length (points_of (take n function.blocks))) (slice_get function.blocks n)

-- the points of a function have numbers of 32 bits
abbrev pub IsNumbered : Function → Type 0
IsNumbered function = length (points_of function.blocks) < 2 ^ 32
