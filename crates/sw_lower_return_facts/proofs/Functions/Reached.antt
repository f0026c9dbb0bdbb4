-- A sure way leads only to blocks that are reached.
use Rattle.std.proofs.Common.{◌≡◌, ℕ, suc, ◌+◌, ◌<◌, ◌≤◌, inl, inr, true, List, []}
use Rattle.std.proofs.Common.{◌∷◌, length, take, Some, None, refl, ap, sym, ◌∙◌, subst}
use Rattle.std.proofs.Common.{arith}
use Rattle.std.specs.Prelude.{slice_get}
use Rattle.std.specs.Option.{option_map}
use Rattle.std.proofs.lemmas.Option.{same_Some, slice_get_within}
use Rattle.sw_graph.specs.Mentions.{blocks_of}
use Rattle.sw_graph.specs.Points.{End, Middle, Point, block_start, point_in, points_of}
use Rattle.sw_graph.specs.Points.{points_of_block}
use Rattle.sw_graph.specs.declared.function.Function.{Function}
use Rattle.sw_graph.specs.declared.instr.Block.{Block}
use Rattle.sw_graph.specs.declared.instr.Instr.TheVariants.{Const}
use Rattle.sw_graph.specs.declared.instr.Last.{Last}
use Rattle.sw_graph.specs.declared.instr.Last.TheVariants.{Branch, Return}
use Rattle.sw_graph.specs.declared.instr.Literal.TheVariants.{Bool as BoolOf}
use Rattle.sw_graph.specs.Sure.{MayTake, SureLeads, SureWay, begin, further, on, point_before, to}
use Rattle.sw_lower_plans.specs.Plan.{Ended, written_in}
use Rattle.sw_lower_formed_facts.specs.Whole.{Whole}
use Rattle.sw_lower_formed_facts.proofs.Functions.Blocks.{block_in, block_there, blocks_in}
use Rattle.sw_lower_formed_facts.proofs.Functions.Points.{end_at, middle_at, point_at, start_of}
use Rattle.sw_lower_return_facts.specs.Flows.{AtDead, AtFixed, AtLive, Dead, Fixed, Flows, IsFixed}
use Rattle.sw_lower_return_facts.specs.Flows.{IsMark, IsReached, LastFlows, Live, Mark, FlowState}
use Rattle.sw_lower_return_facts.proofs.Flow.Marks.{mark_within}
use Rattle.sw_lower_return_facts.proofs.Functions.Ended.{Given, last_given}

never_dead : (marks : List Mark) (number : ℕ) → IsReached marks number
    → IsMark marks number Dead → ⊥
never_dead marks number (inl is) other = let same : Some Live ≡ Some Dead = sym is ∙ other in cc
never_dead marks number (inr is) other = let same : Some Fixed ≡ Some Dead = sym is ∙ other in cc

start_first : (blocks : List Block) → start_of blocks 0 ≡ 0
unfolding points_of
start_first blocks = refl

-- A function that is this as a whole, of which the blocks that are reached are known.
module _ (w : Whole) (s : FlowState) (flows : Flows s []) (first : IsMark s.marks 0 Live)
    (same_writes : s.writes ≡ w.writes) (same_blocks : s.place.blocks ≡ 1 + length w.made)
    (function : Function) (are : function.blocks ≡ blocks_in w s.lasts) where
  abbrev blocks : List Block
  blocks = blocks_in w s.lasts

  abbrev block : ℕ → Block
  block number = block_in w s.lasts number

  reached_below : (number : ℕ) → IsReached s.marks number → number < 1 + length w.made
  reached_below number (inl is) =
      omega (arith, mark_within s.marks number Live is, flows.counted, same_blocks)
  reached_below number (inr is) =
      omega (arith, mark_within s.marks number Fixed is, flows.counted, same_blocks)

  reached_there : (number : ℕ) → IsReached s.marks number
      → slice_get blocks number ≡ Some (block number)
  reached_there number reached = block_there w s.lasts number (reached_below number reached)

  -- what the last instruction of a block is that is reached
  last_is : (number : ℕ) → IsReached s.marks number
      → Given (LastFlows s.marks s.writes) number (block number).last
  last_is number reached =
      last_given (LastFlows s.marks s.writes) number s.lasts (Return None) flows.lasts
      (elim (flows.closed number reached) [
        | inl one ↦ absurd one
        | inr has ↦ inr has
      ])

  -- a point of a block that is reached
  record At (p : ℕ) : Type 0 where
    number : ℕ
    index : ℕ
    reached : IsReached s.marks number
    inside : index ≤ length (block number).instrs
    is : p ≡ start_of blocks number + index

  point_is : (number index : ℕ) → IsReached s.marks number
      → index ≤ length (block number).instrs
      → point_in function (start_of blocks number + index)
      ≡ slice_get (points_of_block (block number)) index
  point_is number index reached inside =
      ap (λ all. slice_get (points_of all) (start_of blocks number + index)) are
      ∙ point_at blocks number index (block number) (reached_there number reached) inside

  at_point : (p : ℕ) (at : At p) (point : Point) → point_in function p ≡ Some point
      → slice_get (points_of_block (block at.number)) at.index ≡ Some point
  at_point p at point here =
      sym (point_is at.number at.index at.reached at.inside)
      ∙ ap (point_in function) (sym at.is) ∙ here

  -- The last instruction leads to a block that is reached.
  target_reached : (p : ℕ) (at : At p) (last : Last) (k target : ℕ)
      → at.index ≡ length (block at.number).instrs → (block at.number).last ≡ last
      → slice_get (blocks_of last) k ≡ Some target → MayTake last (point_before function p) k
      → IsReached s.marks target
  target_reached p at last k target end is leads may =
      let given = last_is at.number at.reached in
      by given.one given.block (sym is ∙ given.is) given.holds where
        fixed_one : (one : Ended) → one.block ≡ at.number → last ≡ one.last
            → IsFixed s.marks s.writes one → IsReached s.marks target
        fixed_one one same last_so fixed =
            subst (IsReached s.marks) holds_is fixed.reached where
              alone : (block at.number).instrs ≡ Const fixed.at fixed.on.reg (BoolOf true) ∷ []
              alone = ap (written_in at.number) (sym same_writes)
                  ∙ subst (λ n.
                  written_in n s.writes ≡ Const fixed.at fixed.on.reg (BoolOf true) ∷ [])
                  same fixed.alone

              start : ℕ
              start = start_of blocks at.number

              p_is : p ≡ suc start
              p_is = omega (arith, at.is, end, ap length alone)

              start_is : start ≡ start + 0
              start_is = omega arith

              before : point_before function p
                  ≡ Some (Middle (Const fixed.at fixed.on.reg (BoolOf true)))
              before = ap (point_before function) p_is
                  ∙ ap (point_in function) start_is
                  ∙ point_is at.number 0 at.reached (omega arith)
                  ∙ ap (λ instrs. slice_get (points_of_block (record (block at.number)
                  { instrs = instrs })) 0) alone

              taken : MayTake (Branch fixed.on fixed.holds fixed.fails)
                  (Some (Middle (Const fixed.at fixed.on.reg (BoolOf true)))) k
              taken =
                  subst (λ point. MayTake (Branch fixed.on fixed.holds fixed.fails) point k) before
                  (subst (λ one. MayTake one (point_before function p) k) (last_so ∙ fixed.last)
                  may)

              holds_is : fixed.holds ≡ target
              holds_is = same_Some fixed.holds target
                  (subst (λ n. slice_get (fixed.holds ∷ fixed.fails ∷ []) n ≡ Some target)
                  (taken refl)
                  (subst (λ one. slice_get (blocks_of one) k ≡ Some target) (last_so ∙ fixed.last)
                  leads))

        by : (one : Ended) → one.block ≡ at.number → last ≡ one.last
            → LastFlows s.marks s.writes one → IsReached s.marks target
        by one same last_so (AtDead dead) =
            absurd (never_dead s.marks at.number at.reached
            (subst (λ n. IsMark s.marks n Dead) same dead))
        by one same last_so (AtLive live leads_live) =
            leads_live.leads k target
            (subst (λ it. slice_get (blocks_of it) k ≡ Some target) last_so leads)
        by one same last_so (AtFixed fixed is_fixed) = fixed_one one same last_so is_fixed

  started : (target q : ℕ) → IsReached s.marks target → block_start function target ≡ Some q
      → q ≡ start_of blocks target + 0
  started target q reached start =
      let at_start : start_of blocks target ≡ q = same_Some (start_of blocks target) q
      (sym (ap (option_map (λ (b : Block). length (points_of (take target blocks))))
      (reached_there target reached))
      ∙ sym (ap (λ all. option_map (λ (b : Block). length (points_of (take target all)))
      (slice_get all target)) are) ∙ start) in
      omega (arith, at_start)

  -- From a point of such a block a step leads to another.
  step : (p q : ℕ) → SureLeads function p q → At p → At q
  step p q (on _ instr here) at =
      let found = middle_at (block at.number).instrs (block at.number).last at.index instr
      (at_point p at (Middle instr) here) in
      record {
        number = at.number;
        index = at.index + 1;
        reached = at.reached;
        inside = omega (arith, slice_get_within (block at.number).instrs at.index instr found);
        is = omega (arith, at.is);
      }
  step p q (to _ last k target _ here there start may) at =
      let ends = end_at (block at.number).instrs (block at.number).last last at.index
      (at_point p at (End last) here) in
      let reached = target_reached p at last k target ends.0 ends.1 there may in
      record {
        number = target;
        index = 0;
        reached = reached;
        inside = omega arith;
        is = started target q reached start;
      }

  -- A sure way leads to a point of a block that is reached.
  at_way : (p : ℕ) (passed : List ℕ) → SureWay function p passed → At p
  at_way p passed begin = record {
    number = 0;
    index = 0;
    reached = inl first;
    inside = omega arith;
    is = omega (arith, start_first blocks);
  }
  at_way q passed (further p _ before way leads) = step p q leads (at_way p before way)

  -- None leads to a return of nothing.
  pub returns_value : (p : ℕ) (passed : List ℕ) → SureWay function p passed
      → point_in function p ≡ Some (End (Return None)) → ⊥
  returns_value p passed way here =
      let at = at_way p passed way in
      let ends = end_at (block at.number).instrs (block at.number).last (Return None) at.index
      (at_point p at (End (Return None)) here) in
      let given = last_is at.number at.reached in
      by at.number at.reached given.one given.block (sym ends.1 ∙ given.is) given.holds where
        by : (number : ℕ) → IsReached s.marks number → (one : Ended) → one.block ≡ number
            → Return None ≡ one.last → LastFlows s.marks s.writes one → ⊥
        by number reached one same last_so (AtDead dead) =
            never_dead s.marks number reached (subst (λ n. IsMark s.marks n Dead) same dead)
        by number reached one same last_so (AtLive live is_live) = is_live.gives (sym last_so)
        by number reached one same last_so (AtFixed fixed is_fixed) =
            let other : Return None ≡ Branch is_fixed.on is_fixed.holds is_fixed.fails =
            last_so ∙ is_fixed.last in cc
