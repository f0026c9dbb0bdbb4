-- The points of a function's blocks.
use Rattle.std.proofs.Common.{◌≡◌, ℕ, zero, suc, ◌+◌, ◌-◌, ◌<◌, ◌≤◌, inl, inr, Some}
use Rattle.std.proofs.Common.{List, []}
use Rattle.std.proofs.Common.{◌∷◌, ◌++◌, length, map, take, refl, sym, ap, ◌∙◌, arith}
use Rattle.std.proofs.Common.{length-append}
use Rattle.std.proofs.lemmas.Bool.{cases_lt}
use Rattle.std.proofs.lemmas.List.{length-map}
use Rattle.std.proofs.lemmas.Option.{slice_get-map}
use Rattle.std.specs.List.{slice_get}
use Rattle.std.specs.Option.{option_map, option_map_or}
use Rattle.sw_graph.specs.Mentions.{blocks_of}
use Rattle.sw_graph.specs.Points.{Point, Middle, End, points_of, points_of_block}
use Rattle.sw_graph.specs.declared.instr.Block.{Block}
use Rattle.sw_graph.specs.declared.instr.Instr.{Instr}
use Rattle.sw_list.proofs.ListLemmas.{slice_get_before, slice_get_first, slice_get_after}
use Rattle.sw_graph.proofs.PointLemmas.{length-points_of_block}
use Rattle.sw_region_flow.specs.Analysis.{point_count, targets_at}
use Rattle.sw_region_flow.specs.Least.{first_point, followers, following}

-- an element within a list
pub element_at : {X : Type 0} (xs : List X) (k : ℕ) → k < length xs
    → (x : X) × (slice_get xs k ≡ Some x)
element_at [] k within = absurd (omega arith)
element_at (x ∷ xs) zero within = (x, refl)
element_at (x ∷ xs) (suc k) within = element_at xs k (omega arith)

pub first_zero : (blocks : List Block) → first_point blocks 0 ≡ 0
unfolding first_point points_of
first_zero blocks = refl

-- a block begins after the block before it
pub first_next : (blocks : List Block) (b : ℕ)
    → first_point blocks (suc b) ≡ first_point blocks b + point_count blocks b
unfolding first_point points_of point_count
first_next [] zero = refl
first_next [] (suc b) = refl
first_next (block ∷ rest) zero =
    omega (arith, length-append (points_of_block block) [])
first_next (block ∷ rest) (suc b) =
    omega (
      arith,
      first_next rest b,
      length-append (points_of_block block) (points_of (take (suc b) rest)),
      length-append (points_of_block block) (points_of (take b rest)),
    )

pub count_is : (blocks : List Block) (b : ℕ) (block : Block) → slice_get blocks b ≡ Some block
    → point_count blocks b ≡ length (points_of_block block)
unfolding point_count
count_is blocks b block e = ap (λ o. option_map_or (λ x. length (points_of_block x)) o 0) e

-- point k of a block
pub point_is : (blocks : List Block) (b k : ℕ) (block : Block) → slice_get blocks b ≡ Some block
    → k < length (points_of_block block)
    → slice_get (points_of blocks) (first_point blocks b + k)
    ≡ slice_get (points_of_block block) k
unfolding first_point points_of
point_is [] b k block e within = cc
point_is (first ∷ rest) zero k block e within =
    let same : first ≡ block = cc in
    let here : 0 + k ≡ k = omega arith in
    ap (slice_get (points_of_block first ++ points_of rest)) here
    ∙ slice_get_first (points_of_block first) (points_of rest) k
    (let h : k < length (points_of_block first) =
    omega (arith, ap (λ x. length (points_of_block x)) same, within) in h)
    ∙ ap (λ x. slice_get (points_of_block x) k) same
point_is (first ∷ rest) (suc b) k block e within =
    let place : length (points_of_block first ++ points_of (take b rest)) + k
    ≡ length (points_of_block first) + (length (points_of (take b rest)) + k) =
    omega (arith, length-append (points_of_block first) (points_of (take b rest))) in
    ap (slice_get (points_of_block first ++ points_of rest)) place
    ∙ slice_get_after (points_of_block first) (points_of rest)
    (length (points_of (take b rest)) + k)
    ∙ point_is rest b k block e within

-- the points of a block: its instructions, and then its last instruction
pub instr_at : (block : Block) (k : ℕ) → k < length block.instrs
    → (instr : Instr) × (slice_get (points_of_block block) k ≡ Some (Middle instr))
instr_at block k within =
    let h = element_at block.instrs k within in (
      h.0,
      slice_get_before (map Middle block.instrs) (End block.last ∷ []) k (Middle h.0)
          (slice_get-map Middle block.instrs k ∙ ap (option_map Middle) h.1),
    )

pub last_at : (block : Block) (k : ℕ) → k ≡ length block.instrs
    → slice_get (points_of_block block) k ≡ Some (End block.last)
last_at block k e =
    ap (slice_get (map Middle block.instrs ++ End block.last ∷ []))
    (let h : k ≡ length (map Middle block.instrs) + 0 =
    omega (arith, e, length-map block.instrs Middle)
    in h)
    ∙ slice_get_after (map Middle block.instrs) (End block.last ∷ []) 0

pub followers_of : (blocks : List Block) (p : ℕ) (point : Point)
    → slice_get (points_of blocks) p ≡ Some point → followers blocks p ≡ following blocks p point
unfolding followers
followers_of blocks p point e = ap (λ o. option_map_or (following blocks p) o []) e

pub targets_of : (blocks : List Block) (b : ℕ) (block : Block) → slice_get blocks b ≡ Some block
    → targets_at blocks b ≡ blocks_of block.last
unfolding targets_at
targets_of blocks b block e = ap (λ o. option_map_or (λ x. blocks_of x.last) o []) e

-- each block has a point
pub block_filled : (block : Block) → 0 < length (points_of_block block)
block_filled block = omega (arith, length-points_of_block block)

pub fewer_blocks : (blocks : List Block) → length blocks ≤ length (points_of blocks)
unfolding points_of
fewer_blocks [] = omega arith
fewer_blocks (block ∷ rest) =
    omega (
      arith,
      fewer_blocks rest,
      block_filled block,
      length-append (points_of_block block) (points_of rest),
    )

-- each point lies in a block
pub place_of : (blocks : List Block) (p : ℕ) (point : Point)
    → slice_get (points_of blocks) p ≡ Some point
    → (b k : ℕ) × (block : Block) × (slice_get blocks b ≡ Some block)
    × (k < length (points_of_block block)) × (p ≡ first_point blocks b + k)
    × (slice_get (points_of_block block) k ≡ Some point)
unfolding first_point points_of
place_of [] p point e = cc
place_of (block ∷ rest) p point e = elim (cases_lt p (length (points_of_block block))) [
  | inl here ↦ (
    0,
    p,
    block,
    refl,
    here,
    omega arith,
    sym (slice_get_first (points_of_block block) (points_of rest) p here) ∙ e,
  )
  | inr later ↦
      let k : ℕ = p - length (points_of_block block) in
      let split : p ≡ length (points_of_block block) + k = omega arith in
      let h = place_of rest k point
      (sym (slice_get_after (points_of_block block) (points_of rest) k)
      ∙ ap (slice_get (points_of_block block ++ points_of rest)) (sym split) ∙ e) in (
        suc h.0,
        h.1,
        h.2,
        h.3,
        h.4,
        omega (
          arith,
          h.5,
          length-append (points_of_block block) (points_of (take h.0 rest)),
        ),
        h.6,
      )
]
