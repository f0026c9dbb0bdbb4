-- What stands at the place of a point, and the place of the next.
use Rattle.std.proofs.Common.{◌≡◌, ℕ, zero, suc, ◌+◌, ◌≤◌, inl, inr, Option, Some, None, List}
use Rattle.std.proofs.Common.{[], ◌∷◌, ◌++◌, length, map, take, ap, sym, ◌∙◌, arith}
use Rattle.std.proofs.Common.{length-append}
use Rattle.std.specs.List.{slice_get}
use Rattle.std.specs.Option.{option_map}
use Rattle.std.proofs.lemmas.Option.{slice_get-map, slice_get_within}
use Rattle.sw_list.proofs.ListLemmas.{some_injective, slice_get_first, slice_get_after}
use Rattle.sw_graph.specs.declared.function.Function.{Function}
use Rattle.sw_graph.specs.declared.instr.Block.{Block}
use Rattle.sw_graph.specs.declared.instr.Instr.{Instr}
use Rattle.sw_graph.specs.declared.instr.Last.{Last}
use Rattle.sw_graph.specs.Points.{Point, Middle, End, points_of_block, points_of, point_in}
use Rattle.sw_graph.specs.Points.{block_start}
use Rattle.sw_graph.proofs.PointLemmas.{length-points_of_block}
use Rattle.sw_machine_kind_facts.specs.Standing.{PlaceOfPoint}
use Rattle.sw_machine_kind_facts.proofs.ItemLemmas.{at_end, found_within}

-- a point of block n
pub point_of_block : (blocks : List Block) (n : ℕ) (block : Block) (index : ℕ)
    → slice_get blocks n ≡ Some block → index ≤ length block.instrs
    → slice_get (points_of blocks) (length (points_of (take n blocks)) + index)
    ≡ slice_get (points_of_block block) index
unfolding points_of
point_of_block [] n block index is inside = cc
point_of_block (b ∷ bs) zero block index is inside =
    let same : b ≡ block = some_injective is in
    let count = length-points_of_block block in
    let at : zero + index ≡ index = omega arith in
    ap (slice_get (points_of_block b ++ points_of bs)) at
    ∙ ap (λ c. slice_get (points_of_block c ++ points_of bs) index) same
    ∙ slice_get_first (points_of_block block) (points_of bs) index (omega (arith, count))
point_of_block (b ∷ bs) (suc n) block index is inside =
    let at : length (points_of_block b ++ points_of (take n bs)) + index
    ≡ length (points_of_block b) + (length (points_of (take n bs)) + index) =
    omega (arith, length-append (points_of_block b) (points_of (take n bs))) in
    ap (slice_get (points_of_block b ++ points_of bs)) at
    ∙ slice_get_after (points_of_block b) (points_of bs) (length (points_of (take n bs)) + index)
    ∙ point_of_block bs n block index is inside

pub start_is : (function : Function) (n : ℕ) (block : Block)
    → slice_get function.blocks n ≡ Some block
    → block_start function n ≡ Some (length (points_of (take n function.blocks)))
start_is function n block is = ap (option_map _) is

pub point_at_place : (function : Function) (p : ℕ) (place : PlaceOfPoint function p)
    → point_in function p ≡ slice_get (points_of_block place.block) place.index
point_at_place function p place =
    let begins : place.begins ≡ length (points_of (take place.number function.blocks)) =
    some_injective (sym place.starts ∙ start_is function place.number place.block place.is) in
    ap (point_in function) (place.at ∙ ap (λ b. b + place.index) begins)
    ∙ point_of_block function.blocks place.number place.block place.index place.is place.inside

-- the instruction at a place
pub instr_at_place : (function : Function) (p : ℕ) (place : PlaceOfPoint function p) (instr : Instr)
    → point_in function p ≡ Some (Middle instr)
    → slice_get place.block.instrs place.index ≡ Some instr
instr_at_place function p place instr here =
    elim (at_end (map Middle place.block.instrs) (End place.block.last) (Middle instr) place.index
    (sym (point_at_place function p place) ∙ here)) [
      | inl found ↦ by (slice_get place.block.instrs place.index)
          (sym (slice_get-map Middle place.block.instrs place.index) ∙ found)
      | inr (at, is) ↦ absurd (let c : ⊥ = cc in c)
    ] where
      by : (o : Option Instr) → option_map Middle o ≡ Some (Middle instr) → o ≡ Some instr
      by None e = cc
      by (Some i) e = cc

-- the last instruction at a place
pub last_at_place : (function : Function) (p : ℕ) (place : PlaceOfPoint function p) (last : Last)
    → point_in function p ≡ Some (End last) → last ≡ place.block.last
last_at_place function p place last here =
    elim (at_end (map Middle place.block.instrs) (End place.block.last) (End last) place.index
    (sym (point_at_place function p place) ∙ here)) [
      | inl found ↦ absurd (by (slice_get place.block.instrs place.index)
          (sym (slice_get-map Middle place.block.instrs place.index) ∙ found))
      | inr (at, is) ↦ cc
    ] where
      by : (o : Option Instr) → option_map Middle o ≡ Some (End last) → ⊥
      by None e = cc
      by (Some i) e = cc

-- a place has a point
pub point_there : (function : Function) (p : ℕ) → PlaceOfPoint function p
    → (point : Point) × (point_in function p ≡ Some point)
point_there function p place =
    let count = length-points_of_block place.block in
    let inside = place.inside in
    let found = found_within (points_of_block place.block) place.index
    (omega (arith, count, inside)) in
    (found.0, point_at_place function p place ∙ found.1)

abbrev pub next_place : (function : Function) (p : ℕ) → PlaceOfPoint function p → (instr : Instr)
    → point_in function p ≡ Some (Middle instr) → PlaceOfPoint function (p + 1)
next_place function p place instr here = record {
  number = place.number;
  block = place.block;
  is = place.is;
  begins = place.begins;
  starts = place.starts;
  index = place.index + 1;
  at = (let at = place.at in omega (arith, at));
  inside = (let within = slice_get_within place.block.instrs place.index instr
      (instr_at_place function p place instr here) in omega (arith, within));
}

abbrev pub block_place : (function : Function) (n q : ℕ) (block : Block)
    → slice_get function.blocks n ≡ Some block → block_start function n ≡ Some q
    → PlaceOfPoint function q
block_place function n q block is starts = record {
  number = n;
  block = block;
  is = is;
  begins = q;
  starts = starts;
  index = 0;
  at = omega arith;
  inside = omega arith;
}
