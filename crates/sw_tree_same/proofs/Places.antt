-- What the instruction at which a frame stands does.
use Rattle.std.proofs.Common.{◌≡◌, ℕ, suc, ◌+◌, ◌<◌, ◌≤◌, [], ◌∷◌, length, map, take, ap, sym}
use Rattle.std.proofs.Common.{◌∙◌, arith, Some}
use Rattle.std.specs.Prelude.{slice_get, option_and_then, option_map}
use Rattle.std.proofs.lemmas.List.{length-map, length-set}
use Rattle.std.proofs.lemmas.Option.{slice_get-map, slice_get_within}
use Rattle.sw_list.proofs.ListLemmas.{slice_get_after, slice_get_before}
use Rattle.sw_graph.specs.declared.function.Function.{Function}
use Rattle.sw_graph.specs.declared.graph.Graph.{Graph}
use Rattle.sw_graph.specs.declared.instr.Block.{Block}
use Rattle.sw_graph.specs.declared.instr.Instr.{Instr}
use Rattle.sw_graph.specs.declared.instr.Last.{Last}
use Rattle.sw_graph.specs.Points.{End, Middle, Point, block_start, point_in, points_of}
use Rattle.sw_graph.specs.Points.{points_of_block}
use Rattle.sw_lower_plans.specs.Run.{instrs_at, instrs_of, last_at, last_of}
use Rattle.sw_value.specs.declared.effect.Effect.TheVariants as effect
use Rattle.sw_value.specs.declared.frame.Frame.{Frame}
use Rattle.sw_value.specs.declared.state.State.{State}
use Rattle.sw_value.specs.declared.value.Value.{Value}
use Rattle.sw_value.specs.Effect.{effect_of, goto_of, instr_effect, last_effect, needs, point_effect}
use Rattle.sw_value.specs.Frame.{finish_instr, go_on, point_at, start_at}
use Rattle.sw_machine_kind_facts.proofs.ItemLemmas.{found_within}
use Rattle.sw_machine_kind_facts.proofs.PlaceLemmas.{point_of_block, start_is}
use Rattle.sw_spots.specs.Spots.{IsEnd, IsInstr, Spot}
use Rattle.sw_tree_same.specs.Frames.{IsAt}

module _ (graph : Graph) (state : State) (depth : ℕ) (frame : Frame) (function : Function)
    (spot : Spot) (at : IsAt graph frame function spot.block spot.index) where
  point_is : (p : Point) → point_in function frame.point ≡ Some p
      → effect_of graph state depth frame ≡ point_effect graph state depth frame p
  unfolding effect_of point_at
  point_is p is =
      ap (λ o. needs o (point_effect graph state depth frame))
      (ap (option_and_then (λ (one : Function). point_in one frame.point)) at.is ∙ is)

  in_block : (block : Block) → slice_get function.blocks spot.block ≡ Some block
      → spot.index ≤ length block.instrs
      → point_in function frame.point ≡ slice_get (points_of_block block) spot.index
  in_block block is inside =
      ap (point_in function) at.point
      ∙ point_of_block function.blocks spot.block block spot.index is inside

  -- the instruction that is next
  pub instr_there : (instr : Instr) → IsInstr function spot instr
      → point_in function frame.point ≡ Some (Middle instr)
  unfolding instrs_at
  instr_there instr is =
      let found = found_within function.blocks spot.block at.within in
      let block = found.0 in
      let here : slice_get block.instrs spot.index ≡ Some instr =
      ap (λ o. slice_get (instrs_of o) spot.index) (sym found.1) ∙ is in
      let inside = slice_get_within block.instrs spot.index instr here in
      in_block block found.1 (omega (arith, inside))
      ∙ slice_get_before (map Middle block.instrs) (End block.last ∷ []) spot.index (Middle instr)
      (slice_get-map Middle block.instrs spot.index ∙ ap (option_map Middle) here)

  pub instr_here : (instr : Instr) → IsInstr function spot instr
      → effect_of graph state depth frame
      ≡ instr_effect graph state depth frame (frame.point + 1) instr
  instr_here instr is = point_is (Middle instr) (instr_there instr is)

  pub last_here : (last : Last) → IsEnd function spot last
      → effect_of graph state depth frame ≡ last_effect graph frame last
  unfolding instrs_at last_at
  last_here last end =
      let found = found_within function.blocks spot.block at.within in
      let block = found.0 in
      let index : spot.index ≡ length block.instrs =
      end.index ∙ ap (λ o. length (instrs_of o)) found.1 in
      let is : block.last ≡ last = ap last_of (sym found.1) ∙ end.ends in
      point_is (End last) (in_block block found.1 (omega (arith, index))
      ∙ ap (slice_get (points_of_block block))
      (let same : spot.index ≡ length (map Middle block.instrs) + 0 =
      omega (arith, index, length-map block.instrs Middle) in same)
      ∙ slice_get_after (map Middle block.instrs) (End block.last ∷ []) 0
      ∙ ap (λ l. Some (End l)) is)

  pub goto_here : (to : ℕ) → to < length function.blocks
      → goto_of graph frame to ≡ effect.Goto (length (points_of (take to function.blocks)))
  unfolding start_at
  goto_here to within =
      let found = found_within function.blocks to within in
      ap (λ o. needs o effect.Goto)
      (ap (option_and_then (λ (one : Function). block_start one to)) at.is
      ∙ start_is function to found.0 found.1)

  -- where the frame goes on
  pub goes_at : (to : ℕ) → to < length function.blocks
      → IsAt graph (go_on (length (points_of (take to function.blocks))) frame) function to 0
  unfolding go_on
  goes_at to within = record {
    is = at.is;
    within = within;
    point = omega arith;
    regs = at.regs;
  }

  pub next_at : (r : ℕ) (v : Value)
      → IsAt graph (finish_instr r v (frame.point + 1) frame) function spot.block (suc spot.index)
  unfolding finish_instr
  next_at r v = record {
    is = at.is;
    within = at.within;
    point = (let point = at.point in omega (arith, point));
    regs = length-set frame.regs r (Some v) ∙ at.regs;
  }

  pub passed_at : IsAt graph (go_on (frame.point + 1) frame) function spot.block (suc spot.index)
  unfolding go_on
  passed_at = record {
    is = at.is;
    within = at.within;
    point = (let point = at.point in omega (arith, point));
    regs = at.regs;
  }
