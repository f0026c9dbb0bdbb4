-- What stands at a point of a block, by the block and the index in it.
use Rattle.std.proofs.Common.{◌≡◌, ℕ, zero, suc, ◌+◌, ◌≤◌, List, [], ◌∷◌, ◌++◌, length, map, take}
use Rattle.std.proofs.Common.{Some, refl, ap, ◌∙◌, arith, length-append}
use Rattle.std.specs.Prelude.{slice_get}
use Rattle.std.proofs.lemmas.Option.{none-some, same_Some}
use Rattle.sw_graph.specs.Points.{Middle, End, points_of, points_of_block}
use Rattle.sw_graph.specs.declared.instr.Block.{Block}
use Rattle.sw_graph.specs.declared.instr.Instr.{Instr}
use Rattle.sw_graph.specs.declared.instr.Last.{Last}
use Rattle.sw_list.proofs.ListLemmas.{slice_get_first, slice_get_after}
use Rattle.sw_graph.proofs.PointLemmas.{length-points_of_block}

-- the point at which a block begins
abbrev pub start_of : List Block → ℕ → ℕ
start_of blocks number = length (points_of (take number blocks))

-- The points of a block follow its start.
pub point_at : (blocks : List Block) (number index : ℕ) (block : Block)
    → slice_get blocks number ≡ Some block → index ≤ length block.instrs
    → slice_get (points_of blocks) (start_of blocks number + index)
    ≡ slice_get (points_of_block block) index
unfolding points_of
point_at [] number index block here inside = absurd (none-some block here)
point_at (first ∷ blocks) zero index block here inside =
    let same = same_Some first block here in
    ap (slice_get (points_of_block first ++ points_of blocks)) (omega arith)
    ∙ slice_get_first (points_of_block first) (points_of blocks) index
    (omega (arith, length-points_of_block first, ap (λ (b : Block). length b.instrs) same))
    ∙ ap (λ (b : Block). slice_get (points_of_block b) index) same
point_at (first ∷ blocks) (suc number) index block here inside =
    ap (slice_get (points_of_block first ++ points_of blocks))
    (let same : length (points_of_block first ++ points_of (take number blocks)) + index
    ≡ length (points_of_block first) + (start_of blocks number + index) =
    omega (arith, length-append (points_of_block first) (points_of (take number blocks))) in same)
    ∙ slice_get_after (points_of_block first) (points_of blocks) (start_of blocks number + index)
    ∙ point_at blocks number index block here inside

-- the points of a block are its instructions and its last instruction
pub middle_at : (instrs : List Instr) (last : Last) (index : ℕ) (instr : Instr)
    → slice_get (map Middle instrs ++ End last ∷ []) index ≡ Some (Middle instr)
    → slice_get instrs index ≡ Some instr
middle_at [] last zero instr here = cc
middle_at [] last (suc index) instr here = cc
middle_at (first ∷ instrs) last zero instr here =
    ap Some (let same : first ≡ instr = cc in same)
middle_at (first ∷ instrs) last (suc index) instr here = middle_at instrs last index instr here

-- The last point of a block is its last instruction.
pub end_at : (instrs : List Instr) (last other : Last) (index : ℕ)
    → slice_get (map Middle instrs ++ End last ∷ []) index ≡ Some (End other)
    → (index ≡ length instrs) × (last ≡ other)
end_at [] last other zero here = (refl, (let same : last ≡ other = cc in same))
end_at [] last other (suc index) here = cc
end_at (first ∷ instrs) last other zero here = cc
end_at (first ∷ instrs) last other (suc index) here =
    let rest = end_at instrs last other index here in (omega (arith, rest.0), rest.1)
