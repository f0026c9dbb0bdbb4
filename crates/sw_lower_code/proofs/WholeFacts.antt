-- The function that is made of a body within the limits is the one that its plan says.
use Rattle.std.proofs.Common.{◌≡◌, ℕ, zero, suc, ◌+◌, ◌<◌, ◌≤◌, ◌⊎◌, inl, inr, Some, None}
use Rattle.std.proofs.Common.{List, [], ◌∷◌, ◌++◌, Bool, true, false, length, map, refl, ap, sym}
use Rattle.std.proofs.Common.{◌∙◌, arith, length-append, subst}
use Rattle.std.specs.Prelude.{◌==◌, ◌||◌, Result, Ok, Err, nat_lt, if◌then◌else◌}
use Rattle.std.proofs.lemmas.Bool.{cases_eq}
use Rattle.sw_graph.specs.Limits.{excess_of}
use Rattle.sw_graph.specs.Points.{points_of, points_of_block}
use Rattle.sw_graph.specs.declared.function.Excess.TheVariants as excess
use Rattle.sw_graph.specs.declared.function.Function.{Function}
use Rattle.sw_graph.specs.declared.function.TheConstants.{MAX_POINTS, MAX_REGISTERS}
use Rattle.sw_graph.specs.declared.instr.Block.{Block}
use Rattle.sw_graph.specs.declared.instr.Instr.{Instr}
use Rattle.sw_graph.specs.declared.instr.Last.{Last}
use Rattle.sw_graph.specs.declared.instr.Last.TheVariants.{Return}
use Rattle.sw_graph.proofs.PointLemmas.{length-points_of_block}
use Rattle.sw_lower_builder.specs.Blocks.{new_block}
use Rattle.sw_lower_builder.specs.Unfinished.{finished}
use Rattle.sw_lower_plans.specs.Plan.{Numbers, Piece, Written, block_by, counted_from, ended_in}
use Rattle.sw_lower_plans.specs.Plan.{written_in}
use Rattle.sw_lower_plans.specs.Run.{AreInFirstBlocks, Making, Makes, Meets, at_start, instrs_at}
use Rattle.sw_lower_plans.specs.Run.{last_at}
use Rattle.sw_lower_plans.specs.Run.{points}
use Rattle.sw_lower_code.specs.Whole.{Body, code_of, ended_by, function_of, lower_body}
use Rattle.sw_lower_code.specs.Whole.{HasManyBlocks, IsWhole, piece_of, sending_of}
use Rattle.sw_lower_plans.specs.declared.fault.CodeFault.{CodeFault}
use Rattle.sw_lower_plans.specs.declared.fault.CodeFault.TheVariants.{Registers, Blocks, Missing, Memory}
use Rattle.sw_lower_code.specs.declared.fault.BodyFault.TheVariants as faults

-- blocks are determined by their instructions and last instructions
blocks_are : (instrs : ℕ → List Instr) (last : ℕ → Last) (from : ℕ) (blocks : List Block)
    → ((number : ℕ) → instrs_at number blocks ≡ instrs (from + number))
    → ((number : ℕ) → number < length blocks → last_at number blocks ≡ last (from + number))
    → blocks
    ≡ map (λ number. record { instrs = instrs number; last = last number })
    (counted_from from (length blocks))
unfolding instrs_at last_at
blocks_are instrs last from [] instrs_are last_are = refl
blocks_are instrs last from (block ∷ blocks) instrs_are last_are =
    let first : block ≡ record { instrs = instrs from; last = last from } =
    ap (λ x. record { instrs = x; last = block.last })
    (instrs_are 0 ∙ ap instrs (omega arith))
    ∙ ap (λ x. record { instrs = instrs from; last = x })
    (last_are 0 (omega arith) ∙ ap last (omega arith)) in
    ap (λ one. one ∷ blocks) first
    ∙ ap (λ rest. record { instrs = instrs from; last = last from } ∷ rest)
    (blocks_are instrs last (from + 1) blocks
    (λ number. instrs_are (suc number) ∙ ap instrs (omega arith))
    (λ number below. last_are (suc number) (omega arith) ∙ ap last (omega arith)))

-- how many points blocks have that are made of a list of instructions
abbrev points_by : {A : Type 0} → Piece A → ℕ → ℕ → ℕ
points_by piece from count =
    length (points_of (map (block_by piece) (counted_from from count)))

abbrev without : {A : Type 0} → Piece A → List Written → Piece A
without piece writes = record piece { writes = writes }

points_next : {A : Type 0} (piece : Piece A) (from count : ℕ)
    → points_by piece from (suc count)
    ≡ length (written_in from piece.writes) + 1 + points_by piece (from + 1) count
unfolding points_of
points_next piece from count =
    omega (
      arith,
      length-append (points_of_block (block_by piece from))
          (points_of (map (block_by piece) (counted_from (from + 1) count))),
      length-points_of_block (block_by piece from),
    )

points_without : {A : Type 0} (piece : Piece A) (from count : ℕ)
    → points_by (without piece []) from count ≡ count
unfolding points_of
points_without piece from zero = refl
points_without piece from (suc count) =
    omega (
      arith,
      points_next (without piece []) from count,
      points_without piece (from + 1) count,
    )

written_here : (number : ℕ) (one : Written) (more : List Written) → one.block ≡ number
    → length (written_in number (one ∷ more)) ≡ length (written_in number more) + 1
written_here number one more is = by (one.block == number) (grind (arith, is)) where
  by : (here : Bool) → here ≡ true
      → length (if here then one.instr ∷ written_in number more else written_in number more)
      ≡ length (written_in number more) + 1
  by true _ = omega arith
  by false never = cc

written_elsewhere : (number : ℕ) (one : Written) (more : List Written)
    → (one.block ≡ number → ⊥)
    → length (written_in number (one ∷ more)) ≡ length (written_in number more)
written_elsewhere number one more isnt = by (one.block == number) refl where
  by : (here : Bool) → (one.block == number) ≡ here
      → length (if here then one.instr ∷ written_in number more else written_in number more)
      ≡ length (written_in number more)
  by true is = absurd (isnt (grind (arith, is)))
  by false _ = refl

-- an instruction before these blocks is none of theirs
points_before : {A : Type 0} (piece : Piece A) (one : Written) (more : List Written)
    (from count : ℕ) → one.block < from
    → points_by (without piece (one ∷ more)) from count
    ≡ points_by (without piece more) from count
unfolding points_of
points_before piece one more from zero below = refl
points_before piece one more from (suc count) below =
    omega (
      arith,
      points_next (without piece (one ∷ more)) from count,
      points_next (without piece more) from count,
      written_elsewhere from one more (λ is. omega (arith, is)),
      points_before piece one more (from + 1) count (omega arith),
    )

-- an instruction of these blocks is a point more
points_among : {A : Type 0} (piece : Piece A) (one : Written) (more : List Written)
    (from count : ℕ) → from ≤ one.block → one.block < from + count
    → points_by (without piece (one ∷ more)) from count
    ≡ points_by (without piece more) from count + 1
points_among piece one more from zero above below = absurd (omega arith)
points_among piece one more from (suc count) above below = elim (cases_eq one.block from) [
  | inl is ↦
      omega (
        arith,
        points_next (without piece (one ∷ more)) from count,
        points_next (without piece more) from count,
        written_here from one more is,
        points_before piece one more (from + 1) count (omega (arith, is)),
      )
  | inr isnt ↦
      omega (
        arith,
        points_next (without piece (one ∷ more)) from count,
        points_next (without piece more) from count,
        written_elsewhere from one more isnt,
        points_among piece one more (from + 1) count (omega (arith, isnt)) (omega arith),
      )
]

-- each instruction of blocks that are there is a point, and so is each block's last
points_all : {A : Type 0} (piece : Piece A) (writes : List Written) (count : ℕ)
    → AreInFirstBlocks count writes
    → points_by (without piece writes) 0 count ≡ length writes + count
points_all piece [] count inside = omega (arith, points_without piece 0 count)
points_all piece (one ∷ more) count inside =
    omega (
      arith,
      points_among piece one more 0 count (omega arith) (omega (arith, inside.0)),
      points_all piece more count inside.1,
    )

-- what stands in the first block before any code
instrs_none : (number : ℕ) → instrs_at number (new_block ∷ []) ≡ []
unfolding instrs_at
instrs_none zero = refl
instrs_none (suc number) = refl

last_none : (number : ℕ) → last_at number (new_block ∷ []) ≡ Return None
unfolding last_at
last_none zero = refl
last_none (suc number) = refl

-- the function of a body, as it begins
abbrev begun : Numbers → Body → Making
begun number body = at_start number body.key body.iso body.is_async

points_begun : (number : Numbers) (body : Body) → points (begun number body) ≡ 1
unfolding points_of
points_begun number body = refl

-- the blocks that are made are those of the plan
blocks_made : (number : Numbers) (body : Body) (t : Making)
    → Makes (piece_of number body) (begun number body) t
    → t.over ≡ false
    → t.made.blocks
    ≡ map (block_by (piece_of number body))
    (counted_from 0 (1 + length (piece_of number body).made))
blocks_made number body t made fits =
    blocks_are (λ block. written_in block (piece_of number body).writes)
    (λ block. ended_in block (piece_of number body).lasts (Return None)) 0 t.made.blocks
    (λ block.
    made.instrs fits block
    ∙ ap (λ earlier. earlier ++ written_in block (piece_of number body).writes) (instrs_none block)
    ∙ ap (λ n. written_in n (piece_of number body).writes) (omega arith))
    (λ block below.
    made.lasts block
    ∙ ap (ended_in block (piece_of number body).lasts) (last_none block)
    ∙ ap (λ n. ended_in n (piece_of number body).lasts (Return None)) (omega arith))
    ∙ ap (λ count. map (block_by (piece_of number body)) (counted_from 0 count)) made.blocks

-- how many points the function of a body has
abbrev points_in : Function → ℕ
points_in function = length (points_of function.blocks)

points_of_body : (number : Numbers) (body : Body) (t : Making)
    → Makes (piece_of number body) (begun number body) t
    → points_in (function_of number body)
    ≡ 1 + (length (piece_of number body).writes + length (piece_of number body).made)
unfolding function_of
points_of_body number body t made =
    let inside : AreInFirstBlocks (1 + length (piece_of number body).made)
    (piece_of number body).writes =
    subst (λ count. AreInFirstBlocks count (piece_of number body).writes)
    made.blocks made.inside in
    omega (
      arith,
      points_all (piece_of number body) (piece_of number body).writes
          (1 + length (piece_of number body).made) inside,
    )

-- where nothing is too large
within_limits : (function : Function) → length function.regs ≤ MAX_REGISTERS
    → points_in function ≤ MAX_POINTS → excess_of function ≡ None
within_limits function few small = by (nat_lt MAX_REGISTERS (length function.regs)) refl where
  then_points : (many : Bool) → nat_lt MAX_POINTS (points_in function) ≡ many
      → (if many then Some excess.Points else None) ≡ None
  then_points true is = absurd (grind (arith, is, small))
  then_points false is = refl

  by : (many : Bool) → nat_lt MAX_REGISTERS (length function.regs) ≡ many
      → (if many then Some excess.Registers
      else if nat_lt MAX_POINTS (points_in function) then Some excess.Points else None) ≡ None
  by true is = absurd (grind (arith, is, few))
  by false is = then_points (nat_lt MAX_POINTS (points_in function)) refl

too_many_registers : (function : Function) → MAX_REGISTERS < length function.regs
    → excess_of function ≡ Some excess.Registers
too_many_registers function many =
    by (nat_lt MAX_REGISTERS (length function.regs)) refl where
      by : (over : Bool) → nat_lt MAX_REGISTERS (length function.regs) ≡ over
          → (if over then Some excess.Registers
          else if nat_lt MAX_POINTS (points_in function) then Some excess.Points else None)
          ≡ Some excess.Registers
      by true is = refl
      by false is = absurd (grind (arith, is, many))

too_many_points : (function : Function) → length function.regs ≤ MAX_REGISTERS
    → MAX_POINTS < points_in function → excess_of function ≡ Some excess.Points
too_many_points function few many = by (nat_lt MAX_REGISTERS (length function.regs)) refl where
  then_points : (over : Bool) → nat_lt MAX_POINTS (points_in function) ≡ over
      → (if over then Some excess.Points else None) ≡ Some excess.Points
  then_points true is = refl
  then_points false is = absurd (grind (arith, is, many))

  by : (over : Bool) → nat_lt MAX_REGISTERS (length function.regs) ≡ over
      → (if over then Some excess.Registers
      else if nat_lt MAX_POINTS (points_in function) then Some excess.Points else None)
      ≡ Some excess.Points
  by true is = absurd (grind (arith, is, few))
  by false is = then_points (nat_lt MAX_POINTS (points_in function)) refl

-- Each block is a point.
has_blocks : {A : Type 0} (piece : Piece A) (from count : ℕ) → count ≤ points_by piece from count
has_blocks piece from zero = omega arith
has_blocks piece from (suc count) =
    omega (arith, points_next piece from count, has_blocks piece (from + 1) count)

more_than : (limit count : ℕ) → nat_lt limit count ≡ true → limit < count
more_than limit count is = grind (arith, is)

at_most : (limit count : ℕ) → nat_lt limit count ≡ false → count ≤ limit
at_most limit count is = grind (arith, is)

pub fits_points : (function : Function) → excess_of function ≡ None → points_in function ≤ MAX_POINTS
fits_points function fits =
    by (nat_lt MAX_REGISTERS (length function.regs)) (nat_lt MAX_POINTS (points_in function)) refl
    fits
  where
    by : (many long : Bool) → nat_lt MAX_POINTS (points_in function) ≡ long
        → (if many then Some excess.Registers else if long then Some excess.Points else None)
        ≡ None → points_in function ≤ MAX_POINTS
    by true long is none = cc
    by false true is none = cc
    by false false is none = at_most MAX_POINTS (points_in function) is

-- A function that hasn't too many points has a number for each block.
pub blocks_fit : (number : Numbers) (body : Body)
    → length (points_of (function_of number body).blocks) ≤ MAX_POINTS
    → HasManyBlocks number body → ⊥
unfolding function_of
blocks_fit number body few many =
    omega (
      arith,
      many,
      few,
      has_blocks (piece_of number body) 0 (1 + length (piece_of number body).made),
    )

-- the function that is made within the limits, or the limit that its whole lists pass
pub meets_whole : (number : Numbers) (body : Body) (result : Result (Unit {0} × Making) CodeFault)
    → lower_body number body ≡ ended_by body result
    → Meets (begun number body) result (piece_of number body)
    → IsWhole number body (ended_by body result)
unfolding function_of
meets_whole number body (Err Memory) is meets = tt
meets_whole number body (Err Missing) is meets = is
meets_whole number body (Err Registers) is meets = (
  refl,
  too_many_registers (function_of number body)
      (let many : MAX_REGISTERS < length (piece_of number body).regs = omega (arith, meets) in
      many),
)
meets_whole number body (Err Blocks) is meets = omega (arith, meets)
meets_whole number body (Ok at) is meets = by at.1.over refl where
  made : Makes (piece_of number body) (begun number body) at.1
  made = meets.1

  few : length (piece_of number body).regs ≤ MAX_REGISTERS
  few = omega (arith, made.few (omega arith), ap length made.regs)

  same : at.1.over ≡ false
      → finished at.1.made (length body.takes) (sending_of body) body.sends body.result
      ≡ function_of number body
  same fits =
      rw (made.key, made.iso, made.is_async, made.regs, blocks_made number body at.1 made fits) refl

  as_many : at.1.over ≡ false → points_in (function_of number body) ≡ points at.1
  as_many fits = omega (
    arith,
    made.exact fits,
    points_begun number body,
    points_of_body number body at.1 made,
  )

  measured : (many : Bool) → at.1.over ≡ false → nat_lt MAX_POINTS (points at.1) ≡ many
      → IsWhole number body (if many then Err (faults.TooManyPoints body.key)
      else Ok (finished at.1.made (length body.takes) (sending_of body) body.sends body.result))
  measured true fits many = (
    refl,
    too_many_points (function_of number body) few
        (subst (λ n. MAX_POINTS < n) (sym (as_many fits))
        (more_than MAX_POINTS (points at.1) many)),
  )
  measured false fits many = (
    same fits,
    within_limits (function_of number body) few
        (subst (λ n. n ≤ MAX_POINTS) (sym (as_many fits)) (at_most MAX_POINTS (points at.1) many)),
  )

  planned : (false ≡ true)
      ⊎ (MAX_POINTS < points (begun number body)
      + (length (piece_of number body).writes + length (piece_of number body).made))
      → MAX_POINTS < points_in (function_of number body)
  planned (inl never) = absurd (cc)
  planned (inr many) =
      omega (arith, many, points_begun number body, points_of_body number body at.1 made)

  by : (over : Bool) → at.1.over ≡ over
      → IsWhole number body (if over || nat_lt MAX_POINTS (points at.1)
      then Err (faults.TooManyPoints body.key)
      else Ok (finished at.1.made (length body.takes) (sending_of body) body.sends body.result))
  by true is =
      (refl, too_many_points (function_of number body) few (planned (made.beyond is)))
  by false is = measured (nat_lt MAX_POINTS (points at.1)) is refl

pub lowers_whole : (number : Numbers) (body : Body) → IsWhole number body (lower_body number body)
unfolding lower_body
lowers_whole number body =
    meets_whole number body ((code_of body).run (begun number body)) refl
    ((code_of body).same (begun number body) (omega arith))

-- the run of a body's code never wants memory
pub wants_no_memory : (number : Numbers) (body : Body)
    → lower_body number body ≡ Err faults.Memory → ⊥
unfolding lower_body
wants_no_memory number body = by ((code_of body).run (begun number body))
    ((code_of body).same (begun number body) (omega arith)) where
      finished_well : (many : Bool) (function : Function)
          → (if many then Err (faults.TooManyPoints body.key) else Ok function)
          ≡ Err faults.Memory → ⊥
      finished_well true function is = cc
      finished_well false function is = cc

      by : (result : Result (Unit {0} × Making) CodeFault)
          → Meets (begun number body) result (piece_of number body)
          → ended_by body result ≡ Err faults.Memory → ⊥
      by (Ok at) meets is =
          finished_well (at.1.over || nat_lt MAX_POINTS (points at.1))
          (finished at.1.made (length body.takes) (sending_of body) body.sends body.result) is
      by (Err Registers) meets is = cc
      by (Err Blocks) meets is = cc
      by (Err Missing) meets is = cc
      by (Err Memory) meets is = meets
