-- What stands at a point of blocks stands in one of them, and the other way round.
use Rattle.std.proofs.Common.{◌≡◌, ℕ, suc, ◌-◌, ◌+◌, List, [], ◌∷◌, Some, length, map, refl, sym}
use Rattle.std.proofs.Common.{ap, ◌∙◌, arith, inl, inr, Bool, true, false, get_or, slice_get}
use Rattle.std.proofs.lemmas.Bool.{cases_lt}
use Rattle.std.proofs.lemmas.List.Folds.{list_any_none}
use Rattle.std.proofs.lemmas.Map.Keys.{any_passes_from_place}
use Rattle.std.proofs.lemmas.Option.{slice_get-get_or, slice_get-map, slice_get_within}
use Rattle.std.specs.List.{list_any}
use Rattle.std.specs.Option.{option_map}
use Rattle.sw_list.proofs.ListLemmas.{slice_get_second, slice_get_before, slice_get_first}
use Rattle.sw_graph.specs.Points.{End, Middle, Point, points_of, points_of_block}
use Rattle.sw_graph.specs.declared.instr.Block.{Block}
use Rattle.sw_graph.specs.declared.instr.Instr.{Instr}
use Rattle.sw_graph.specs.declared.instr.Last.{Last}
use Rattle.sw_lower_formed_facts.proofs.Functions.Points.{middle_at, point_at, start_of}

-- an instruction of one of the blocks
pub record StandsIn (blocks : List Block) (instr : Instr) : Type 0 where
  pub number : ℕ
  pub index : ℕ
  pub block : Block
  pub at_block : slice_get blocks number ≡ Some block
  pub at_instr : slice_get block.instrs index ≡ Some instr

-- What stands at a point stands in a block.
pub stands_in : (blocks : List Block) (p : ℕ) (instr : Instr)
    → slice_get (points_of blocks) p ≡ Some (Middle instr) → StandsIn blocks instr
unfolding points_of
stands_in [] p instr here = cc
stands_in (block ∷ blocks) p instr here =
    let own = points_of_block block in
    elim (cases_lt p (length own)) [
      | inl below ↦ record {
        number = 0;
        index = p;
        block = block;
        at_block = refl;
        at_instr = middle_at block.instrs block.last p instr
            (sym (slice_get_first own (points_of blocks) p below) ∙ here);
      }
      | inr above ↦
          let later = stands_in blocks (p - length own) instr
          (sym (slice_get_second own (points_of blocks) p above) ∙ here) in record {
            number = suc later.number;
            index = later.index;
            block = later.block;
            at_block = later.at_block;
            at_instr = later.at_instr;
          }
    ]

-- What stands in a block stands at a point.
pub stands_at : (blocks : List Block) (instr : Instr) → StandsIn blocks instr
    → (p : ℕ) × (slice_get (points_of blocks) p ≡ Some (Middle instr))
stands_at blocks instr one = (
  start_of blocks one.number + one.index,
  point_at blocks one.number one.index one.block one.at_block
      (omega (arith, slice_get_within one.block.instrs one.index instr one.at_instr))
      ∙ slice_get_before (map Middle one.block.instrs) (End one.block.last ∷ []) one.index
      (Middle instr)
      (slice_get-map Middle one.block.instrs one.index ∙ ap (option_map Middle) one.at_instr),
)

-- A test that no instruction of the blocks passes, and no last instruction, is passed at no point.
pub none_passes : (test : Point → Bool) (blocks : List Block)
    → ((last : Last) → test (End last) ≡ false)
    → ((instr : Instr) → StandsIn blocks instr → test (Middle instr) ≡ false)
    → list_any test (points_of blocks) ≡ false
none_passes test blocks lasts instrs =
    list_any_none test (points_of blocks) (λ k d below.
    by k (get_or (points_of blocks) k d) (slice_get-get_or (points_of blocks) k d below)) where
      by : (k : ℕ) (point : Point) → slice_get (points_of blocks) k ≡ Some point
          → test point ≡ false
      by k (Middle instr) here = instrs instr (stands_in blocks k instr here)
      by k (End last) here = lasts last

-- A test that an instruction of the blocks passes is passed at a point.
pub one_passes : (test : Point → Bool) (blocks : List Block) (instr : Instr)
    → StandsIn blocks instr → test (Middle instr) ≡ true → list_any test (points_of blocks) ≡ true
one_passes test blocks instr one passes =
    let (p, here) = stands_at blocks instr one in
    any_passes_from_place test (points_of blocks) p (Middle instr) here passes
