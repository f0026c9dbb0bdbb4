-- A table tells what stands at each point, and where each block begins.
use Rattle.std.proofs.Common.{◌≡◌, ℕ, zero, suc, ◌+◌, ◌-◌, ◌<◌, ◌≤◌, inl, inr, Option, Some, List}
use Rattle.std.proofs.Common.{[]}
use Rattle.std.proofs.Common.{◌∷◌, ◌++◌, length, map, take, drop, refl, ap, sym, ◌∙◌, arith}
use Rattle.std.proofs.Common.{get_or, length-append, append_assoc, append-nil, add-one}
use Rattle.std.proofs.lemmas.List.{drop_all}
use Rattle.std.specs.Prelude.{slice_get, None, OnSome}
use Rattle.std.specs.Option.{option_and_then, option_map}
use Rattle.std.proofs.lemmas.Bool.{cases_lt}
use Rattle.std.proofs.lemmas.Option.{slice_get-map}
use Rattle.sw_graph.specs.declared.instr.Block.{Block}
use Rattle.sw_graph.specs.declared.function.Function.{Function}
use Rattle.sw_graph.specs.declared.table.Place.{Place}
use Rattle.sw_graph.specs.declared.table.PointTable.{PointTable}
use Rattle.sw_graph.specs.Points.{points_of, points_of_block, point_in, block_start}
use Rattle.sw_graph.specs.Table.{places_in, places_from, starts_from, table_of, at_place}
use Rattle.sw_list.proofs.ListLemmas.{slice_get_before, slice_get_first, slice_get_second, at_seam}
use Rattle.sw_graph.proofs.PointLemmas.{length-points_of_block, at_block}

length-places_in : (block n : ℕ) → length (places_in block n) ≡ n
unfolding places_in
length-places_in block zero = refl
length-places_in block (suc n) =
    omega (
      arith,
      length-places_in block n,
      length-append (places_in block n) (record { block = block; index = n } ∷ []),
    )

abbrev place : ℕ → ℕ → Place
place block index = record { block = block; index = index }

place_in : (block n k : ℕ) → k < n → slice_get (places_in block n) k ≡ Some (place block k)
unfolding places_in
place_in block zero k inside = absurd (omega arith)
place_in block (suc n) k inside =
    elim (cases_lt k n) [
      | inl below ↦ slice_get_before (places_in block n) (place block n ∷ []) k (place block k)
          (place_in block n k below)
      | inr above ↦
          ap (slice_get (places_in block n ++ place block n ∷ []))
          (let same : k ≡ length (places_in block n) =
          omega (arith, length-places_in block n) in same)
          ∙ at_seam (places_in block n) (place block n) []
          ∙ ap (λ m. Some (place block m)) (let same : n ≡ k = omega arith in same)
    ]

pub length-places_from : (number : ℕ) (blocks : List Block)
    → length (places_from number blocks) ≡ length (points_of blocks)
unfolding places_from points_of
length-places_from number [] = refl
length-places_from number (block ∷ blocks) =
    omega (
      arith,
      length-append (places_in number (length block.instrs + 1)) (places_from (number + 1) blocks),
      length-append (points_of_block block) (points_of blocks),
      length-places_in number (length block.instrs + 1),
      length-points_of_block block,
      length-places_from (number + 1) blocks,
    )

-- What stands at the place of a point is what stands at the point.
placed : (before blocks : List Block) (point : ℕ)
    → option_and_then (at_place (before ++ blocks))
    (slice_get (places_from (length before) blocks) point) ≡ slice_get (points_of blocks) point
unfolding places_from points_of
placed before [] point = refl
placed before (block ∷ rest) point =
    let count = length block.instrs + 1 in
    let number = length before in
    let all = before ++ block ∷ rest in
    let places = places_in number count in
    let size = length-places_in number count in
    let points = length-points_of_block block in
    elim (cases_lt point count) [
      | inl below ↦
          ap (option_and_then (at_place all))
          (slice_get_first places (places_from (number + 1) rest) point (omega arith)
          ∙ place_in number count point below)
          ∙ ap (option_and_then (λ (b : Block). slice_get (points_of_block b) point))
          (at_seam before block rest)
          ∙ sym (slice_get_first (points_of_block block) (points_of rest) point (omega arith))
      | inr above ↦
          ap (option_and_then (at_place all))
          (slice_get_second places (places_from (number + 1) rest) point (omega arith)
          ∙ ap (λ n. slice_get (places_from n rest) (point - length places))
          (let one : number + 1 ≡ length (before ++ block ∷ []) =
          omega (arith, length-append before (block ∷ [])) in one)
          ∙ ap (slice_get (places_from (length (before ++ block ∷ [])) rest))
          (let same : point - length places ≡ point - length (points_of_block block) =
          omega arith in same))
          ∙ ap (λ bs. option_and_then (at_place bs)
          (slice_get (places_from (length (before ++ block ∷ [])) rest)
          (point - length (points_of_block block)))) (sym (append_assoc before (block ∷ []) rest))
          ∙ placed (before ++ block ∷ []) rest (point - length (points_of_block block))
          ∙ sym (slice_get_second (points_of_block block) (points_of rest) point (omega arith))
    ]

pub point_placed : (function : Function) (table : PointTable) (point : ℕ)
    → table ≡ table_of function
    → option_and_then (at_place function.blocks) (slice_get table.places point)
    ≡ point_in function point
point_placed function table point is =
    ap (λ (t : PointTable).
    option_and_then (at_place function.blocks) (slice_get t.places point)) is
    ∙ placed [] function.blocks point

starts_at : (start : ℕ) (blocks : List Block) (k : ℕ) → slice_get (starts_from start blocks) k
    ≡ option_map (λ block. start + length (points_of (take k blocks))) (slice_get blocks k)
unfolding starts_from points_of
starts_at start [] k = refl
starts_at start (block ∷ blocks) zero =
    ap Some (let same : start ≡ start + length (points_of []) = omega arith in same)
starts_at start (block ∷ blocks) (suc k) =
    starts_at (start + (length block.instrs + 1)) blocks k
    ∙ ap (λ n. option_map (λ (b : Block). n) (slice_get blocks k))
    (let same : start + (length block.instrs + 1) + length (points_of (take k blocks))
    ≡ start + length (points_of (block ∷ take k blocks)) =
    omega (
      arith,
      length-points_of_block block,
      length-append (points_of_block block) (points_of (take k blocks)),
    ) in same)

pub start_told : (function : Function) (table : PointTable) (k : ℕ) → table ≡ table_of function
    → slice_get table.starts k ≡ block_start function k
start_told function table k is =
    ap (λ (t : PointTable). slice_get t.starts k) is ∙ starts_at 0 function.blocks k
    ∙ ap (λ n. option_map (λ (b : Block). n) (slice_get function.blocks k))
    (let same : 0 + length (points_of (take k function.blocks))
    ≡ length (points_of (take k function.blocks)) =
    omega arith in same)

-- the table of the function with a number
pub table_at : (functions : List Function) (tables : List PointTable) (k : ℕ)
    → tables ≡ map table_of functions
    → slice_get tables k ≡ option_map table_of (slice_get functions k)
table_at functions tables k same =
    ap (λ ts. slice_get ts k) same ∙ slice_get-map table_of functions k

-- one place more of a block
pub one_place : (places : List Place) (block n : ℕ)
    → places ++ places_in block (n + 1) ≡ places ++ places_in block n ++ place block n ∷ []
unfolding places_in
one_place places block n = rw add-one
    (sym (append_assoc places (places_in block n) (place block n ∷ [])))

pub no_place : (places : List Place) (block : ℕ) → places ≡ places ++ places_in block 0
unfolding places_in
no_place places block = sym (append-nil places)

-- How far the table of blocks has come before the block with this number.
pub record IsBegun (blocks : List Block) (number : ℕ) (table : PointTable) : Type 0 where
  pub few : number ≤ length table.places
  pub places : table.places ++ places_from number (drop number blocks) ≡ places_from 0 blocks
  pub starts : table.starts ++ starts_from (length table.places) (drop number blocks)
      ≡ starts_from 0 blocks

pub begun : (blocks : List Block) → IsBegun blocks 0 (record { places = []; starts = [] })
begun blocks = record { few = omega arith; places = refl; starts = refl }

pub block_room : (blocks : List Block) (number : ℕ) (block : Block) (table : PointTable)
    → IsBegun blocks number table → drop number blocks ≡ block ∷ drop (number + 1) blocks
    → length table.places + (length block.instrs + 1) ≤ length (points_of blocks)
unfolding places_from
block_room blocks number block table is at = omega (
  arith,
  length-places_from 0 blocks,
  ap length is.places,
  ap (λ bs. length (places_from number bs)) at,
  length-append table.places (places_from number (drop number blocks)),
  length-append (places_in number (length block.instrs + 1))
      (places_from (number + 1) (drop (number + 1) blocks)),
  length-places_in number (length block.instrs + 1),
)

pub block_added : (blocks : List Block) (number : ℕ) (block : Block) (table : PointTable)
    → IsBegun blocks number table → drop number blocks ≡ block ∷ drop (number + 1) blocks
    → IsBegun blocks (number + 1) (record {
      places = table.places ++ places_in number (length block.instrs + 1);
      starts = table.starts ++ length table.places ∷ [];
    })
unfolding places_from starts_from
block_added blocks number block table is at =
    let count = length block.instrs + 1 in
    let rest = drop (number + 1) blocks in
    let more = length-append table.places (places_in number count) in
    let size = length-places_in number count in
    record {
      few = omega (arith, more, size, is.few);
      places = append_assoc table.places (places_in number count) (places_from (number + 1) rest)
          ∙ ap (λ bs. table.places ++ places_from number bs) (sym at) ∙ is.places;
      starts = append_assoc table.starts (length table.places ∷ []) _
          ∙ ap (λ n. table.starts ++ length table.places ∷ starts_from n rest)
          (let same : length (table.places ++ places_in number count)
          ≡ length table.places + count =
          omega (arith, more, size) in same)
          ∙ ap (λ bs. table.starts ++ starts_from (length table.places) bs) (sym at) ∙ is.starts;
    }

pub table_ended : (function : Function) (number : ℕ) (table : PointTable)
    → IsBegun function.blocks number table → length function.blocks ≤ number
    → table ≡ table_of function
unfolding places_from starts_from
table_ended function number table is ended =
    let none = drop_all number function.blocks ended in
    let places : table.places ≡ places_from 0 function.blocks =
    sym (append-nil table.places)
    ∙ ap (λ bs. table.places ++ places_from number bs) (sym none) ∙ is.places in
    let starts : table.starts ≡ starts_from 0 function.blocks =
    sym (append-nil table.starts)
    ∙ ap (λ bs. table.starts ++ starts_from (length table.places) bs) (sym none) ∙ is.starts in
    λ i. record { places = places i; starts = starts i }

-- the block with a number
pub block_here : (blocks : List Block) (number index : ℕ) (block : Block) → number ≡ index
    → index < length blocks → block ≡ get_or blocks index block
    → drop number blocks ≡ block ∷ drop (number + 1) blocks
block_here blocks number index block same inside here =
    rw same (at_block blocks index block inside here)

-- what holds in any case holds where there is a result
pub on_some : {A : Type 0} {P : Type 0} (found : Option A) → P → OnSome found P
on_some None holds = tt
on_some (Some x) holds = holds
