-- How a change of one block changes the list of blocks and its points.
use Rattle.std.proofs.Common.{◌≡◌, ℕ, ◌+◌, ◌<◌, zero, suc, Some, List, [], ◌∷◌, ◌++◌}
use Rattle.std.proofs.Common.{length, refl, ap, sym, ◌∙◌, arith, length-append}
use Rattle.std.specs.List.{slice_get, slice_set}
use Rattle.sw_graph.specs.declared.instr.Block.{Block}
use Rattle.sw_graph.specs.declared.instr.Instr.{Instr}
use Rattle.sw_graph.specs.declared.instr.Last.{Last}
use Rattle.sw_graph.specs.Points.{points_of, points_of_block}
use Rattle.sw_graph.proofs.PointLemmas.{length-points_of_block}
use Rattle.sw_graph.specs.declared.function.RegKind.{RegKind}
use Rattle.sw_graph.specs.declared.function.TheConstants.{MAX_POINTS}
use Rattle.sw_lower_builder.specs.Unfinished.{IsCounted}
use Rattle.sw_lower_builder.specs.declared.builder.TheConstants.{MOST_BLOCKS}
use Rattle.sw_lower_builder.specs.Blocks.{new_block, with_instr, with_last, changed_at}

-- the item at an index, written back changed
pub changed_there : {A : Type 0} (g : A → A) (i : ℕ) (xs : List A) (x : A)
    → slice_get xs i ≡ Some x → slice_set xs i (g x) ≡ changed_at g i xs
unfolding changed_at
changed_there g i [] x e = cc
changed_there g zero (y ∷ ys) x e = cc
changed_there g (suc i) (y ∷ ys) x e = ap (λ zs. y ∷ zs) (changed_there g i ys x e)

pub put_there : {A : Type 0} (g : A → A) (i : ℕ) (xs : List A) (x y : A)
    → slice_get xs i ≡ Some x → y ≡ g x → slice_set xs i y ≡ changed_at g i xs
put_there g i xs x y found is = ap (slice_set xs i) is ∙ changed_there g i xs x found

-- the item at an index, written back as it was
pub same_there : {A : Type 0} (i : ℕ) (xs : List A) (x y : A)
    → slice_get xs i ≡ Some x → y ≡ x → slice_set xs i y ≡ xs
same_there i [] x y e is = cc
same_there zero (z ∷ zs) x y e is = ap (λ one. one ∷ zs) (cc)
same_there (suc i) (z ∷ zs) x y e is = ap (λ rest. z ∷ rest) (same_there i zs x y e is)

pub length_changed : {A : Type 0} (g : A → A) (i : ℕ) (xs : List A)
    → length (changed_at g i xs) ≡ length xs
unfolding changed_at
length_changed g i [] = refl
length_changed g zero (y ∷ ys) = refl
length_changed g (suc i) (y ∷ ys) = ap suc (length_changed g i ys)

-- how many points a function has, by those of its first block
points_first : (block : Block) (blocks : List Block)
    → length (points_of (block ∷ blocks)) ≡ suc (length block.instrs) + length (points_of blocks)
unfolding points_of
points_first block blocks =
    omega (
      arith,
      length-append (points_of_block block) (points_of blocks),
      length-points_of_block block,
    )

pub points_none : length (points_of []) ≡ 0
unfolding points_of
points_none = refl

-- a new block has one point
pub points_new_block : (blocks : List Block)
    → length (points_of (blocks ++ new_block ∷ [])) ≡ length (points_of blocks) + 1
points_new_block [] =
    omega (arith, points_first new_block [], points_none)
points_new_block (block ∷ blocks) =
    omega (
      arith,
      points_first block (blocks ++ new_block ∷ []),
      points_first block blocks,
      points_new_block blocks,
    )

-- an instruction more is a point more
pub points_with_instr : (instr : Instr) (i : ℕ) (blocks : List Block) → i < length blocks
    → length (points_of (changed_at (with_instr instr) i blocks)) ≡ length (points_of blocks) + 1
unfolding changed_at
points_with_instr instr i [] below = absurd (omega arith)
points_with_instr instr zero (block ∷ blocks) below =
    omega (
      arith,
      points_first (with_instr instr block) blocks,
      points_first block blocks,
      length-append block.instrs (instr ∷ []),
    )
points_with_instr instr (suc i) (block ∷ blocks) below =
    omega (
      arith,
      points_first block (changed_at (with_instr instr) i blocks),
      points_first block blocks,
      points_with_instr instr i blocks (omega arith),
    )

-- another last instruction changes no count of points
pub points_with_last : (last : Last) (i : ℕ) (blocks : List Block)
    → length (points_of (changed_at (with_last last) i blocks)) ≡ length (points_of blocks)
unfolding changed_at
points_with_last last i [] = refl
points_with_last last zero (block ∷ blocks) =
    omega (arith, points_first (with_last last block) blocks, points_first block blocks)
points_with_last last (suc i) (block ∷ blocks) =
    omega (
      arith,
      points_first block (changed_at (with_last last) i blocks),
      points_first block blocks,
      points_with_last last i blocks,
    )

-- What is kept of a function under construction, kept by each call.
pub none_counted : (regs : List RegKind) (blocks : List Block) → regs ≡ [] → blocks ≡ []
    → IsCounted regs blocks 0
none_counted regs blocks no_regs no_blocks =
    rw (no_regs, no_blocks) (record {
      registers = omega arith;
      numbers = omega arith;
      counted = sym points_none;
      bounded = omega arith;
    })

pub block_counted : (regs : List RegKind) (blocks blocks' : List Block) (points : ℕ)
    → IsCounted regs blocks points → length blocks < MOST_BLOCKS
    → blocks' ≡ blocks ++ new_block ∷ [] → IsCounted regs blocks' (points + 1)
block_counted regs blocks blocks' points was few is =
    let longer : length blocks' ≡ length blocks + 1 =
    ap length is ∙ length-append blocks (new_block ∷ []) in
    let more : length (points_of blocks') ≡ length (points_of blocks) + 1 =
    ap (λ bs. length (points_of bs)) is ∙ points_new_block blocks in
    record {
      registers = was.registers;
      numbers = omega arith;
      counted = omega arith;
      bounded = omega arith;
    }

pub instr_counted : (regs : List RegKind) (blocks blocks' : List Block) (points i : ℕ)
    (instr : Instr) → IsCounted regs blocks points → points < MAX_POINTS → i < length blocks
    → blocks' ≡ changed_at (with_instr instr) i blocks → IsCounted regs blocks' (points + 1)
instr_counted regs blocks blocks' points i instr was few below is =
    let same : length blocks' ≡ length blocks =
    ap length is ∙ length_changed (with_instr instr) i blocks in
    let more : length (points_of blocks') ≡ length (points_of blocks) + 1 =
    ap (λ bs. length (points_of bs)) is ∙ points_with_instr instr i blocks below in
    record {
      registers = was.registers;
      numbers = omega arith;
      counted = omega arith;
      bounded = omega arith;
    }

pub last_counted : (regs : List RegKind) (blocks blocks' : List Block) (points i : ℕ)
    (last : Last) → IsCounted regs blocks points
    → blocks' ≡ changed_at (with_last last) i blocks → IsCounted regs blocks' points
last_counted regs blocks blocks' points i last was is =
    let same : length blocks' ≡ length blocks =
    ap length is ∙ length_changed (with_last last) i blocks in
    let as_many : length (points_of blocks') ≡ length (points_of blocks) =
    ap (λ bs. length (points_of bs)) is ∙ points_with_last last i blocks in
    record {
      registers = was.registers;
      numbers = omega arith;
      counted = omega arith;
      bounded = omega arith;
    }
