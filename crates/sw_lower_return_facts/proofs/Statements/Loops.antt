-- `while`.
use Rattle.std.proofs.Common.{◌≡◌, ◌≢◌, ℕ, inl, inr, Bool, true, false, List, [], ◌∷◌}
use Rattle.std.proofs.Common.{◌++◌, Some, subst, sym, refl, ap, ◌∙◌, arith}
use Rattle.std.specs.Prelude.{All, ◌&&◌, not}
use Rattle.std.proofs.lemmas.List.Elements.{All-append, All-cons, All-nil}
use Rattle.sw_graph.specs.declared.instr.Last.TheVariants.{Branch, Jump}
use Rattle.sw_graph.specs.declared.instr.Operand.{Operand}
use Rattle.sw_lower_plans.specs.Plan.{Anywhere, Ended, written_in}
use Rattle.sw_lower_code.specs.Code.{Code, close, resume, ◌>>=◌, ◌>>◌}
use Rattle.sw_lower_rules.specs.Carriers.{BlockCode}
use Rattle.sw_lower_rules.specs.Expressions.{block_made, jump}
use Rattle.sw_lower_rules.specs.Statements.{while_code}
use Rattle.sw_lower_rules.specs.declared.targets.Targets.{Targets}
use Rattle.sw_lower_return_facts.specs.Flows.{AtFixed, CodeFlows, Dead, Fixed, FlowAt, Flows, IsMark}
use Rattle.sw_lower_return_facts.specs.Flows.{IsReached, LastFlows, Live, FlowsHere, FlowState, WaysFlow}
use Rattle.sw_lower_return_facts.specs.Flows.{mark_of, passes}
use Rattle.sw_lower_return_facts.proofs.Flow.Going.{AreAmong, block_then, flow_on, flow_on_then, swapped}
use Rattle.sw_lower_return_facts.proofs.Flow.Marks.{last_within, mark_within, reached_later}
use Rattle.sw_lower_return_facts.proofs.Flow.Quiet.{all_later}
use Rattle.sw_lower_return_facts.proofs.Flow.Steps.{Closed, MadeBlock, Resumed, branch_live, flow_block}
use Rattle.sw_lower_return_facts.proofs.Flow.Steps.{flow_close, flow_resume, flow_resumed, flows_pending}
use Rattle.sw_lower_return_facts.proofs.Flow.Steps.{jump_live, last_by, live_reached}
use Rattle.sw_lower_return_facts.proofs.Flow.Then.{flow_then}
use Rattle.sw_lower_return_facts.proofs.Statements.Branches.{third_first}
use Rattle.sw_lower_return_facts.proofs.Statements.Passing.{passes_live}
use Rattle.sw_lower_return_facts.proofs.Statements.Truth.{IsAlone, MakesTrue, flow_true}

-- the targets in a loop
abbrev loop_targets : ℕ → ℕ → Targets
loop_targets head after = record { breaks = Some after; continues = Some head }

-- the first of four comes last
fourth_first : (one two three four : ℕ) (rest : List ℕ)
    → AreAmong (one ∷ two ∷ three ∷ four ∷ rest) (four ∷ one ∷ two ∷ three ∷ rest)
fourth_first one two three four rest number (inl is) = inr (inl is)
fourth_first one two three four rest number (inr (inl is)) = inr (inr (inl is))
fourth_first one two three four rest number (inr (inr (inl is))) = inr (inr (inr (inl is)))
fourth_first one two three four rest number (inr (inr (inr (inl is)))) = inl is
fourth_first one two three four rest number (inr (inr (inr (inr is)))) = inr (inr (inr (inr is)))

module _ (cond : Code Operand) (body : BlockCode) (ends breaks : Bool)
    (ways : WaysFlow ends breaks body.code) where
  abbrev in_inner : ℕ → ℕ → Code (Unit {0})
  in_inner head after = body.code (loop_targets head after) >> jump head >> resume after

  abbrev in_head : ℕ → ℕ → ℕ → Code (Unit {0})
  in_head head inner after =
      cond >>= λ given. close (Branch given inner after) >> resume inner >> in_inner head after

  -- the body, and the block after the loop
  body_in : (head after : ℕ) (s : FlowState) (live to_live : Bool) (rest : List ℕ)
      → FlowsHere s live (after ∷ rest) → (live ≡ true → IsReached s.marks head)
      → (live ≡ true → breaks ≡ true → IsReached s.marks after)
      → IsMark s.marks after (mark_of to_live)
      → FlowAt s (in_inner head after) (λ _ t. FlowsHere t to_live rest)
  body_in head after s live to_live rest stands again out is =
      flow_then s (body.code (loop_targets head after)) (λ _. jump head >> resume after)
      (λ _ t. FlowsHere t (passes ends live) (after ∷ rest)) (λ _ t. FlowsHere t to_live rest)
      (ways s live (after ∷ rest) (loop_targets head after) stands
      (record { breaks_to = out; continues_to = again }))
      (λ _ t extend in_t.
      flow_on t (passes ends live) to_live (Jump head) after (after ∷ rest) rest in_t
      (λ number one. one)
      (λ reached. jump_live t.marks head
      (reached_later s.marks t.marks head extend (again (passes_live ends live reached))))
      (extend after (mark_of to_live) is))

  -- a loop whose ways go on
  pub loop_flows : CodeFlows cond → CodeFlows (while_code cond body)
  loop_flows of_cond s live rest stands =
      block_then s live rest Anywhere (mark_of live)
      (λ head. block_made >>= λ inner. block_made >>= λ after. parts head inner after)
      (λ _ x. FlowsHere x live rest) stands
      (λ head t to_t head_is in_t.
      block_then t live (head ∷ rest) Anywhere (mark_of live)
      (λ inner. block_made >>= λ after. parts head inner after)
      (λ _ x. FlowsHere x live rest) in_t
      (λ inner u to_u inner_is in_u.
      block_then u live (inner ∷ head ∷ rest) Anywhere (mark_of live) (parts head inner)
      (λ _ x. FlowsHere x live rest) in_u
      (λ after v to_v after_is in_v.
      let head_now = to_v head (mark_of live) (to_u head (mark_of live) head_is) in
      let inner_now = to_v inner (mark_of live) inner_is in
      flow_on_then v live live (Jump head) head (after ∷ inner ∷ head ∷ rest)
      (after ∷ inner ∷ rest) (in_head head inner after) (λ _ x. FlowsHere x live rest) in_v
      (third_first after inner head rest)
      (λ reached. jump_live v.marks head (live_reached v.marks head live head_now reached)) head_now
      (λ w to_w in_w.
      flow_then w cond (λ given. close (Branch given inner after) >> resume inner
      >> in_inner head after) (λ _ x. FlowsHere x live (after ∷ inner ∷ rest))
      (λ _ x. FlowsHere x live rest) (of_cond w live (after ∷ inner ∷ rest) in_w)
      (λ given x to_x in_x.
      let head_then = to_x head (mark_of live) (to_w head (mark_of live) head_now) in
      let inner_then = to_x inner (mark_of live) (to_w inner (mark_of live) inner_now) in
      let after_then = to_x after (mark_of live) (to_w after (mark_of live) after_is) in
      flow_on_then x live live (Branch given inner after) inner (after ∷ inner ∷ rest)
      (after ∷ rest) (in_inner head after) (λ _ y. FlowsHere y live rest) in_x
      (swapped after inner rest)
      (λ reached. branch_live x.marks given inner after
      (live_reached x.marks inner live inner_then reached)
      (live_reached x.marks after live after_then reached)) inner_then
      (λ y to_y in_y.
      let after_last = to_y after (mark_of live) after_then in
      body_in head after y live live rest in_y
      (live_reached y.marks head live (to_y head (mark_of live) head_then))
      (λ is broken. live_reached y.marks after live after_last is) after_last)))))) where
        parts : ℕ → ℕ → ℕ → Code (Unit {0})
        parts head inner after = jump head >> resume head >> in_head head inner after

  -- the condition `true` and the body, in the head of a loop that no `break` leaves
  true_in : MakesTrue cond → breaks ≡ false → (head inner after : ℕ) (s : FlowState) (rest : List ℕ)
      → Flows s (after ∷ inner ∷ head ∷ rest) → s.place.here ≡ head → IsMark s.marks head Fixed
      → IsMark s.marks inner Live → IsMark s.marks after Dead → written_in head s.writes ≡ []
      → All (λ (one : Ended). one.block ≢ head) s.lasts
      → FlowAt s (in_head head inner after) (λ _ t. FlowsHere t false rest)
  true_in makes unbroken head inner after s rest flows here head_is inner_is after_is empty others =
      flow_then s cond (λ given. close (Branch given inner after) >> resume inner
      >> in_inner head after) (IsAlone head (after ∷ inner ∷ head ∷ rest))
      (λ _ x. FlowsHere x false rest)
      (flow_true s head (after ∷ inner ∷ head ∷ rest) cond makes flows here head_is empty others)
      (λ given t to_t alone.
      let head_now = to_t head Fixed head_is in
      let inner_now = to_t inner Live inner_is in
      flow_then t (close (Branch given inner after)) (λ _. resume inner >> in_inner head after)
      (λ _ x. Closed t (Branch given inner after) (inner ∷ after ∷ rest) x)
      (λ _ x. FlowsHere x false rest)
      (flow_close t (Branch given inner after) (inner ∷ after ∷ rest)
      (subst (λ at. Flows t (at ∷ inner ∷ after ∷ rest)) (sym alone.there)
      (flows_pending t (after ∷ inner ∷ head ∷ rest) (head ∷ inner ∷ after ∷ rest)
      (backwards after inner head rest) alone.flows))
      (subst (λ at. LastFlows t.marks t.writes
      (record { block = at; last = Branch given inner after })) (sym alone.there)
      (AtFixed head_now (record {
        on = given;
        holds = inner;
        fails = after;
        at = alone.at;
        last = refl;
        alone = alone.alone;
        reached = inl inner_now;
      }))))
      (λ _ u to_u closed.
      flow_then u (resume inner) (λ _. in_inner head after) (λ _ x. FlowsHere x true (after ∷ rest))
      (λ _ x. FlowsHere x false rest)
      (flow_resumed u inner true (after ∷ rest) closed.flows (to_u inner Live inner_now))
      (λ _ v to_v in_v.
      body_in head after v true false rest in_v
      (λ is. inr (to_v head Fixed (to_u head Fixed head_now)))
      (λ is broken. let both : true ≡ false = sym broken ∙ unbroken in cc)
      (to_v after Dead (to_u after Dead (to_t after Dead after_is)))))) where
        backwards : (one two three : ℕ) (rest : List ℕ)
            → AreAmong (one ∷ two ∷ three ∷ rest) (three ∷ two ∷ one ∷ rest)
        backwards one two three rest number (inl is) = inr (inr (inl is))
        backwards one two three rest number (inr (inl is)) = inr (inl is)
        backwards one two three rest number (inr (inr (inl is))) = inl is
        backwards one two three rest number (inr (inr (inr is))) = inr (inr (inr is))

  -- a loop that only `return` leaves
  endless_flows : MakesTrue cond → breaks ≡ false → (s : FlowState) (rest : List ℕ)
      → FlowsHere s true rest → FlowAt s (while_code cond body) (λ _ t. FlowsHere t false rest)
  endless_flows makes unbroken s rest stands =
      flow_then s block_made
      (λ head. block_made >>= λ inner. block_made >>= λ after. parts head inner after)
      (MadeBlock s Fixed (s.place.here ∷ rest)) (λ _ x. FlowsHere x false rest)
      (flow_block s Anywhere Fixed (s.place.here ∷ rest) stands.flows)
      (λ head t to_t made_head.
      flow_then t block_made (λ inner. block_made >>= λ after. parts head inner after)
      (MadeBlock t Live (head ∷ s.place.here ∷ rest)) (λ _ x. FlowsHere x false rest)
      (flow_block t Anywhere Live (head ∷ s.place.here ∷ rest) made_head.flows)
      (λ inner u to_u made_inner.
      flow_then u block_made (parts head inner)
      (MadeBlock u Dead (inner ∷ head ∷ s.place.here ∷ rest)) (λ _ x. FlowsHere x false rest)
      (flow_block u Anywhere Dead (inner ∷ head ∷ s.place.here ∷ rest) made_inner.flows)
      (λ after v to_v made_after.
      let there = made_after.there ∙ made_inner.there ∙ made_head.there in
      let head_now = to_v head Fixed (to_u head Fixed made_head.is) in
      flow_then v (jump head) (λ _. resume head >> in_head head inner after)
      (λ _ x. Closed v (Jump head) (after ∷ inner ∷ head ∷ rest) x) (λ _ x. FlowsHere x false rest)
      (flow_close v (Jump head) (after ∷ inner ∷ head ∷ rest)
      (subst (λ at. Flows v (at ∷ after ∷ inner ∷ head ∷ rest)) (sym there)
      (flows_pending v (after ∷ inner ∷ head ∷ s.place.here ∷ rest)
      (s.place.here ∷ after ∷ inner ∷ head ∷ rest)
      (fourth_first after inner head s.place.here rest) made_after.flows))
      (last_by v.marks v.writes v.place.here true (Jump head)
      (subst (λ at. IsMark v.marks at Live) (sym there)
      (to_v s.place.here Live (to_u s.place.here Live (to_t s.place.here Live stands.here))))
      (λ is. jump_live v.marks head (inr head_now))))
      (λ _ w to_w closed.
      flow_then w (resume head) (λ _. in_head head inner after)
      (λ _ x. Resumed w head (after ∷ inner ∷ head ∷ rest) x) (λ _ x. FlowsHere x false rest)
      (flow_resume w head (after ∷ inner ∷ head ∷ rest) closed.flows)
      (λ _ x to_x resumed.
      true_in makes unbroken head inner after x rest resumed.flows resumed.there
      (to_x head Fixed (to_w head Fixed head_now))
      (to_x inner Live (to_w inner Live (to_v inner Live made_inner.is)))
      (to_x after Dead (to_w after Dead made_after.is))
      (ap (written_in head)
      (resumed.writes ∙ closed.writes ∙ made_after.writes ∙ made_inner.writes ∙ made_head.writes)
      ∙ stands.flows.fresh head (omega (arith, made_head.number_is)))
      (subst (All (λ (one : Ended). one.block ≢ head)) (sym (resumed.lasts ∙ closed.lasts
      ∙ ap (λ lasts. lasts ++ record { block = v.place.here; last = Jump head } ∷ [])
      (made_after.lasts ∙ made_inner.lasts ∙ made_head.lasts)))
      (All-append (λ (one : Ended). one.block ≢ head) s.lasts _
      (all_later (LastFlows s.marks s.writes) (λ (one : Ended). one.block ≢ head) s.lasts
      (λ one flows same. omega (
        arith,
        same,
        made_head.number_is,
        stands.flows.counted,
        last_within s.marks s.writes one flows,
      )) stands.flows.lasts)
      (All-cons (λ (one : Ended). one.block ≢ head)
      (record { block = v.place.here; last = Jump head }) []
      (λ same. omega (
        arith,
        same,
        there,
        made_head.number_is,
        stands.flows.counted,
        mark_within s.marks s.place.here Live stands.here,
      ))
      (All-nil (λ (one : Ended). one.block ≢ head)))))))))) where
        parts : ℕ → ℕ → ℕ → Code (Unit {0})
        parts head inner after = jump head >> resume head >> in_head head inner after

  -- Where the condition is `true` and no `break` leaves the loop, its ways end.
  pub while_ways : (is_true : Bool) → CodeFlows cond → (is_true ≡ true → MakesTrue cond)
      → WaysFlow (is_true && not breaks) false (λ targets. while_code cond body)
  while_ways is_true of_cond makes s live rest targets stands flow =
      by is_true refl breaks refl live stands where
        Goal : Bool → Bool → Type 0
        Goal stops on = FlowAt s (while_code cond body) (λ _ t. FlowsHere t (passes stops on) rest)

        by : (so : Bool) → is_true ≡ so → (broken : Bool) → breaks ≡ broken → (on : Bool)
            → FlowsHere s on rest → Goal (so && not broken) on
        by false is broken at on stands = loop_flows of_cond s on rest stands
        by true is true at on stands = loop_flows of_cond s on rest stands
        by true is false at true stands = endless_flows (makes is) at s rest stands
        by true is false at false stands = loop_flows of_cond s false rest stands
