-- The instruction with which a block ends, after code that is placed.
use Rattle.std.proofs.Common.{◌≡◌, ℕ, zero, suc, ◌+◌, ◌<◌, ◌⊎◌, inl, inr, Bool, true, false}
use Rattle.std.proofs.Common.{List, [], ◌∷◌, ◌++◌, length, Some, refl, ap, sym, ◌∙◌, subst, arith}
use Rattle.std.proofs.Common.{length-append}
use Rattle.std.proofs.lemmas.List.Elements.{All-head, All-tail}
use Rattle.std.proofs.lemmas.Option.{same_Some}
use Rattle.std.specs.Prelude.{All, Ok, slice_get, nat_le, if◌then◌else◌}
use Rattle.sw_list.proofs.ListLemmas.{at_index, at_seam}
use Rattle.sw_graph.specs.declared.function.RegKind.{RegKind}
use Rattle.sw_graph.specs.declared.function.TheConstants.{MAX_POINTS}
use Rattle.sw_graph.specs.declared.instr.Block.{Block}
use Rattle.sw_graph.specs.declared.instr.Instr.{Instr}
use Rattle.sw_graph.specs.declared.instr.Last.{Last}
use Rattle.sw_lower_builder.specs.Blocks.{changed_at, with_instr, with_last}
use Rattle.sw_lower_builder.specs.Unfinished.{in_block}
use Rattle.sw_lower_plans.specs.Run.{IsGoing, Making, points}
use Rattle.sw_machine_kind_facts.proofs.ItemLemmas.{at_end}
use Rattle.sw_lower_code.specs.Code.{Code, close, emit}
use Rattle.sw_lower_formed_facts.proofs.Positions.Steps.{ended, gave}
use Rattle.sw_lower_placed_facts.specs.Allowed.{IsAllowed}
use Rattle.sw_lower_placed_facts.specs.Placing.{Stood}
use Rattle.sw_lower_placed_facts.specs.Hosts.{Program, Host}
use Rattle.sw_lower_placed_facts.proofs.Placing.Joining.{made_by_run}

-- This instruction is the last one of its block, which ends so.
pub record IsEnd (instr : Instr) (last : Last) (block : Block) (index : ℕ) (one : Instr)
    : Type 0 where
  pub is : one ≡ instr
  pub at_end : index + 1 ≡ length block.instrs
  pub ends : block.last ≡ last

abbrev ended_block : Instr → Last → Block → Block
ended_block instr last block = with_last last (with_instr instr block)

-- blocks of which one is ended
abbrev pub ended_at : Instr → Last → ℕ → List Block → List Block
ended_at instr last here blocks =
    changed_at (with_last last) here (changed_at (with_instr instr) here blocks)

-- the place of one more item
one_more : {A : Type 0} (xs : List A) (x : A) (k : ℕ) → k ≡ length xs
    → k + 1 ≡ length (xs ++ x ∷ [])
one_more xs x k is = omega (arith, is, length-append xs (x ∷ []))

module _ (P : Instr → Type 0) (instr : Instr) (last : Last) where
  abbrev AllOf : Block → Type 0
  AllOf block = All P block.instrs

  abbrev IsOne : Block → ℕ → Instr → Type 0
  IsOne block index one = P one ⊎ IsEnd instr last block index one

  in_ended : (first : Block) → All P first.instrs → (index : ℕ) (one : Instr)
      → slice_get (first.instrs ++ instr ∷ []) index ≡ Some one
      → IsOne (ended_block instr last first) index one
  in_ended first all index one at = elim (at_end first.instrs instr one index at) [
    | inl before ↦ inl (at_index P first.instrs index one all before)
    | inr (is, same) ↦ inr (record {
      is = same;
      at_end = one_more first.instrs instr index is;
      ends = refl;
    })
  ]

  -- Each instruction of the blocks is as those before, or the one that ends a block.
  ended_points : (here : ℕ) (blocks : List Block) → All AllOf blocks → (number index : ℕ)
      (block : Block) (one : Instr)
      → slice_get (ended_at instr last here blocks) number ≡ Some block
      → slice_get block.instrs index ≡ Some one → IsOne block index one
  unfolding changed_at
  ended_points here [] all number index block one at_block at_instr = cc
  ended_points zero (first ∷ blocks) all zero index block one at_block at_instr =
      let same = same_Some (ended_block instr last first) block at_block in
      subst (λ b. IsOne b index one) same
      (in_ended first (All-head AllOf first blocks all) index one
      (subst (λ (b : Block). slice_get b.instrs index ≡ Some one) (sym same) at_instr))
  ended_points zero (first ∷ blocks) all (suc number) index block one at_block at_instr =
      inl (at_index P block.instrs index one
      (at_index AllOf blocks number block (All-tail AllOf first blocks all) at_block) at_instr)
  ended_points (suc here) (first ∷ blocks) all zero index block one at_block at_instr =
      inl (at_index P block.instrs index one
      (subst AllOf (same_Some first block at_block) (All-head AllOf first blocks all)) at_instr)
  ended_points (suc here) (first ∷ blocks) all (suc number) index block one at_block at_instr =
      ended_points here blocks (All-tail AllOf first blocks all) number index block one at_block
      at_instr

-- where a block ends with an instruction
pub record End (instr : Instr) (last : Last) (blocks : List Block) : Type 0 where
  pub number : ℕ
  pub index : ℕ
  pub block : Block
  pub at_block : slice_get blocks number ≡ Some block
  pub at_instr : slice_get block.instrs index ≡ Some instr
  pub is_end : IsEnd instr last block index instr

end_later : (instr : Instr) (last : Last) (first : Block) (blocks : List Block)
    → End instr last blocks → End instr last (first ∷ blocks)
end_later instr last first blocks one = record {
  number = suc one.number;
  index = one.index;
  block = one.block;
  at_block = one.at_block;
  at_instr = one.at_instr;
  is_end = one.is_end;
}

end_there : (instr : Instr) (last : Last) (here : ℕ) (blocks : List Block) → here < length blocks
    → End instr last (ended_at instr last here blocks)
unfolding changed_at
end_there instr last here [] below = absurd (omega (arith, below))
end_there instr last zero (first ∷ blocks) below = record {
  number = 0;
  index = length first.instrs;
  block = ended_block instr last first;
  at_block = refl;
  at_instr = at_seam first.instrs instr [];
  is_end = record {
    is = refl;
    at_end = one_more first.instrs instr (length first.instrs) refl;
    ends = refl;
  };
}
end_there instr last (suc here) (first ∷ blocks) below =
    end_later instr last first (ended_at instr last here blocks)
    (end_there instr last here blocks (omega (arith, below)))

-- An instruction was put into a block that was ended.
ended_ran : (instr : Instr) (last : Last) (w v t : Making) (a b : Unit {0})
    → (emit instr).run w ≡ Ok (a, v) → (close last).run v ≡ Ok (b, t) → t.over ≡ false
    → (t.made.regs ≡ w.made.regs)
    × (t.made.blocks ≡ ended_at instr last w.here w.made.blocks)
unfolding emit close
ended_ran instr last w v t a b emits closes whole =
    by (nat_le MAX_POINTS (points w)) emits where
      closed : Making → Making
      closed u = record u { made = in_block (with_last last) u.here u.made }

      over : Making
      over = record w { over = true }

      written : Making
      written = record w { made = in_block (with_instr instr) w.here w.made }

      after : closed v ≡ t
      after = (ended tt (closed v) b t closes).1

      by : (full : Bool) → (if full then gave tt over else gave tt written) ≡ Ok (a, v)
          → (t.made.regs ≡ w.made.regs)
          × (t.made.blocks ≡ ended_at instr last w.here w.made.blocks)
      by true emits =
          let is = (ended tt over a v emits).1 in
          cc (whole, ap (λ (m : Making). m.over) after, ap (λ (m : Making). m.over) is)
      by false emits =
          let is : closed written ≡ t = ap closed (ended tt written a v emits).1 ∙ after in (
            ap (λ (m : Making). m.made.regs) (sym is),
            ap (λ (m : Making). m.made.blocks) (sym is),
          )

-- Where no instruction was dropped in the end, none was before.
pub over_before : {A : Type 0} (code : Code A) (s t : Making) (value : A) → IsGoing s
    → code.run s ≡ Ok (value, t) → t.over ≡ false → s.over ≡ false
over_before code s t value going ran whole =
    (made_by_run code s t value going ran).before whole

module _ (program : Program) (host : Host) where
  -- the instructions of a function whose last block ends with one of its own
  pub record Ends (instr : Instr) (last : Last) (regs : List RegKind) (blocks : List Block)
      : Type 0 where
    pub points : (number index : ℕ) (block : Block) (one : Instr)
        → slice_get blocks number ≡ Some block → slice_get block.instrs index ≡ Some one
        → IsAllowed program host regs one ⊎ IsEnd instr last block index one
    pub there : End instr last blocks

  pub ends_by : (instr : Instr) (last : Last) (w v t : Making) (a b : Unit {0})
      → Stood program host w → (emit instr).run w ≡ Ok (a, v) → (close last).run v ≡ Ok (b, t)
      → t.over ≡ false → Ends instr last t.made.regs t.made.blocks
  ends_by instr last w v t a b stood emits closes whole =
      let ran = ended_ran instr last w v t a b emits closes whole in
      subst (λ regs. Ends instr last regs t.made.blocks) (sym ran.0)
      (subst (Ends instr last w.made.regs) (sym ran.1) (record {
        points = ended_points (IsAllowed program host w.made.regs) instr last w.here w.made.blocks
            stood.written;
        there = end_there instr last w.here w.made.blocks stood.going;
      }))
