-- Where each point of a function stands, as a table: the place of each point, and the start of each
-- block.
use Rattle.std.specs.Prelude.{ℕ, zero, suc, ◌+◌, Option, List, [], ◌∷◌, ◌++◌, length}
use Rattle.std.specs.Prelude.{slice_get}
use Rattle.std.specs.Option.{option_and_then}
use Rattle.sw_graph.specs.declared.instr.Block.{Block}
use Rattle.sw_graph.specs.declared.function.Function.{Function}
use Rattle.sw_graph.specs.declared.table.Place.{Place}
use Rattle.sw_graph.specs.declared.table.PointTable.{PointTable}
use Rattle.sw_graph.specs.Points.{Point, points_of_block}

-- the first n places of a block
unfoldable pub places_in : ℕ → ℕ → List Place
places_in block zero = []
places_in block (suc n) = places_in block n ++ record { block = block; index = n } ∷ []

-- the places of the points of blocks, of which the first has this number
unfoldable pub places_from : ℕ → List Block → List Place
places_from number [] = []
places_from number (block ∷ blocks) =
    places_in number (length block.instrs + 1) ++ places_from (number + 1) blocks

-- the points at which blocks begin, of which the first begins at this point
unfoldable pub starts_from : ℕ → List Block → List ℕ
starts_from start [] = []
starts_from start (block ∷ blocks) = start ∷ starts_from (start + (length block.instrs + 1)) blocks

-- the table of a function
abbrev pub table_of : Function → PointTable
table_of function = record {
  places = places_from 0 function.blocks;
  starts = starts_from 0 function.blocks;
}

-- what stands at a place
abbrev pub at_place : List Block → Place → Option Point
at_place blocks place =
    option_and_then (λ block. slice_get (points_of_block block) place.index)
    (slice_get blocks place.block)
