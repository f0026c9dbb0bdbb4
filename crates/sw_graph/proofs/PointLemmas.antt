-- Lemmas on the points of a function.
use Rattle.std.proofs.Common.{◌≡◌, ℕ, suc, ◌+◌, ◌-◌, ◌<◌, Some, List, []}
use Rattle.std.proofs.Common.{◌∷◌, ◌++◌, length, map, drop, get_or, ap, sym, ◌∙◌, arith}
use Rattle.std.proofs.Common.{length-append, add-one}
use Rattle.std.proofs.lemmas.Option.{slice_get-map}
use Rattle.std.proofs.Math.Seq.{drop-cons}
use Rattle.std.proofs.lemmas.List.{length-map}
use Rattle.std.specs.Option.{option_map}
use Rattle.std.specs.List.{slice_get}
use Rattle.sw_graph.specs.declared.instr.Block.{Block}
use Rattle.sw_graph.specs.declared.instr.Instr.{Instr}
use Rattle.sw_graph.specs.Points.{Middle, End, points_of_block, points_of}
use Rattle.sw_list.proofs.ListLemmas.{slice_get_before, slice_get_after}

-- the point is an instruction of the first block
pub middle_here : (block : Block) (rest : List Block) (index : ℕ) (i : Instr)
    → slice_get block.instrs index ≡ Some i
    → slice_get (points_of (block ∷ rest)) index ≡ Some (Middle i)
unfolding points_of
middle_here block rest index i e =
    slice_get_before (points_of_block block) (points_of rest) index (Middle i)
    (slice_get_before (map Middle block.instrs) (End block.last ∷ []) index (Middle i)
    (slice_get-map Middle block.instrs index ∙ ap (option_map Middle) e))

-- it is the last instruction of the first block
pub end_here : (block : Block) (rest : List Block) (index : ℕ) → index ≡ length block.instrs
    → slice_get (points_of (block ∷ rest)) index ≡ Some (End block.last)
unfolding points_of
end_here block rest index e =
    let at : slice_get (map Middle block.instrs ++ End block.last ∷ []) index ≡ Some
    (End block.last) =
    ap (slice_get (map Middle block.instrs ++ End block.last ∷ []))
    (omega (arith, e, length-map block.instrs Middle))
    ∙ slice_get_after (map Middle block.instrs) (End block.last ∷ []) 0 in
    slice_get_before (points_of_block block) (points_of rest) index (End block.last) at

pub length-points_of_block : (block : Block)
    → length (points_of_block block) ≡ length block.instrs + 1
length-points_of_block block =
    omega (
      arith,
      length-append (map Middle block.instrs) (End block.last ∷ []),
      length-map block.instrs Middle,
    )

-- it comes after the first block
pub further : (block : Block) (rest : List Block) (index : ℕ) → length block.instrs < index
    → slice_get (points_of (block ∷ rest)) index ≡ slice_get (points_of rest)
    (index - (length block.instrs + 1))
unfolding points_of
further block rest index e =
    let count = length-points_of_block block in
    let split : index ≡ length (points_of_block block) + (index - (length block.instrs + 1)) =
    omega (arith, count) in
    ap (slice_get (points_of_block block ++ points_of rest)) split
    ∙ slice_get_after (points_of_block block) (points_of rest) (index - (length block.instrs + 1))

-- the same, for the blocks from index k on
pub at_block : (blocks : List Block) (k : ℕ) (block : Block) → k < length blocks
    → block ≡ get_or blocks k block → drop k blocks ≡ block ∷ drop (k + 1) blocks
at_block blocks k block inside e =
    rw add-one (drop-cons blocks k block inside ∙ ap (λ b. b ∷ drop (suc k) blocks) (sym e))
