-- `if`.
use Rattle.std.proofs.Common.{ℕ, inl, inr, Bool, true, false, List, [], ◌∷◌, None}
use Rattle.std.proofs.Common.{subst, sym}
use Rattle.std.specs.Prelude.{◌&&◌, ◌||◌}
use Rattle.std.proofs.Math.Bool.{and_assoc, or_assoc}
use Rattle.sw_graph.specs.declared.instr.Last.TheVariants.{Branch, Jump}
use Rattle.sw_graph.specs.declared.instr.Operand.{Operand}
use Rattle.sw_lower_plans.specs.Plan.{Anywhere}
use Rattle.sw_lower_code.specs.Code.{Code, close, resume, ◌>>=◌, ◌>>◌}
use Rattle.sw_lower_rules.specs.Carriers.{IfCode}
use Rattle.sw_lower_rules.specs.Expressions.{block_made, jump}
use Rattle.sw_lower_rules.specs.Statements.{arms_code, else_code}
use Rattle.sw_lower_rules.specs.declared.targets.Targets.{Targets}
use Rattle.sw_lower_return_facts.specs.Flows.{CodeFlows, FlowAt, IsMark, FlowsHere, FlowState, WaysFlow}
use Rattle.sw_lower_return_facts.specs.Flows.{mark_of, TargetsFlow, passes}
use Rattle.sw_lower_return_facts.proofs.Flow.Going.{AreAmong, block_then, flow_on, flow_on_then}
use Rattle.sw_lower_return_facts.proofs.Flow.Going.{swapped}
use Rattle.sw_lower_return_facts.proofs.Flow.Quiet.{flows_done}
use Rattle.sw_lower_return_facts.proofs.Flow.Steps.{branch_live, jump_live, live_reached}
use Rattle.sw_lower_return_facts.proofs.Flow.Then.{flow_then}
use Rattle.sw_lower_return_facts.proofs.Statements.Passing.{or_left, or_right, passes_left, passes_right}
use Rattle.sw_lower_return_facts.proofs.Statements.Passing.{targets_part}

-- the third of three comes first
pub third_first : (one two three : ℕ) (rest : List ℕ)
    → AreAmong (one ∷ two ∷ three ∷ rest) (three ∷ one ∷ two ∷ rest)
third_first one two three rest number (inl is) = inr (inl is)
third_first one two three rest number (inr (inl is)) = inr (inr (inl is))
third_first one two three rest number (inr (inr (inl is))) = inl is
third_first one two three rest number (inr (inr (inr is))) = inr (inr (inr is))

-- The arms of an `if`, whatever stands in its `else`.
abbrev pub ArmsFlow : Bool → Bool → List IfCode → Type 0
ArmsFlow ends breaks arms =
    (last_ends last_breaks : Bool) (otherwise : Targets → Code (Unit {0}))
    → WaysFlow last_ends last_breaks otherwise
    → WaysFlow (ends && last_ends) (breaks || last_breaks)
    (λ targets. arms_code arms (otherwise targets) targets)

pub no_arms_flow : ArmsFlow true false []
unfolding arms_code
no_arms_flow last_ends last_breaks otherwise ways = ways

pub else_ways : WaysFlow false false (else_code None)
else_ways s live rest targets stands flow = flows_done tt s live rest stands

module _ (arm : IfCode) (ends breaks more_ends more_breaks : Bool)
    (more : Targets → Code (Unit {0}))
    (body : WaysFlow ends breaks arm.body.code) (others : WaysFlow more_ends more_breaks more)
    (targets : Targets) (live : Bool) (rest : List ℕ) where
  -- the block in which both meet
  abbrev meets : Bool
  meets = passes (ends && more_ends) live

  -- the other arms and the end, in the block that is theirs
  others_in : (merge : ℕ) (s : FlowState) → FlowsHere s live (merge ∷ rest)
      → IsMark s.marks merge (mark_of meets) → TargetsFlow s.marks live more_breaks targets
      → FlowAt s (more targets >> jump merge >> resume merge) (λ _ t. FlowsHere t meets rest)
  others_in merge s stands is flow =
      flow_then s (more targets) (λ _. jump merge >> resume merge)
      (λ _ t. FlowsHere t (passes more_ends live) (merge ∷ rest)) (λ _ t. FlowsHere t meets rest)
      (others s live (merge ∷ rest) targets stands flow)
      (λ _ t extend in_t.
      let now = extend merge (mark_of meets) is in
      flow_on t (passes more_ends live) meets (Jump merge) merge (merge ∷ rest) rest in_t
      (λ number one. one)
      (λ reached. jump_live t.marks merge (live_reached t.marks merge meets now
      (passes_right ends more_ends live reached))) now)

  -- the body, in the block that is its own
  body_in : (beyond merge : ℕ) (s : FlowState) → FlowsHere s live (merge ∷ beyond ∷ rest)
      → IsMark s.marks beyond (mark_of live) → IsMark s.marks merge (mark_of meets)
      → TargetsFlow s.marks live (breaks || more_breaks) targets
      → FlowAt s (arm.body.code targets >> jump merge >> resume beyond >> more targets >> jump merge
      >> resume merge) (λ _ t. FlowsHere t meets rest)
  body_in beyond merge s stands beyond_is is flow =
      flow_then s (arm.body.code targets)
      (λ _. jump merge >> resume beyond >> more targets >> jump merge >> resume merge)
      (λ _ t. FlowsHere t (passes ends live) (merge ∷ beyond ∷ rest))
      (λ _ t. FlowsHere t meets rest)
      (body s live (merge ∷ beyond ∷ rest) targets stands
      (targets_part s.marks s.marks live live (breaks || more_breaks) breaks targets
      (λ number mark is. is) (λ is. is) (or_left breaks more_breaks) flow))
      (λ _ t extend in_t.
      let now = extend merge (mark_of meets) is in
      flow_on_then t (passes ends live) live (Jump merge) beyond (merge ∷ beyond ∷ rest)
      (merge ∷ rest) (more targets >> jump merge >> resume merge)
      (λ _ u. FlowsHere u meets rest) in_t
      (swapped merge beyond rest)
      (λ reached. jump_live t.marks merge (live_reached t.marks merge meets now
      (passes_left ends more_ends live reached))) (extend beyond (mark_of live) beyond_is)
      (λ u later in_u.
      others_in merge u in_u (later merge (mark_of meets) now)
      (targets_part s.marks u.marks live live (breaks || more_breaks) more_breaks targets
      (λ number mark is. later number mark (extend number mark is)) (λ is. is)
      (or_right breaks more_breaks) flow)))

  pub arm_in : (s : FlowState) → CodeFlows arm.cond → FlowsHere s live rest
      → TargetsFlow s.marks live (breaks || more_breaks) targets
      → FlowAt s (arm.cond
      >>= λ given. block_made
      >>= λ inner. block_made
      >>= λ beyond. block_made
      >>= λ merge. close (Branch given inner beyond)
      >> resume inner
      >> arm.body.code targets
      >> jump merge
      >> resume beyond
      >> more targets
      >> jump merge
      >> resume merge) (λ _ t. FlowsHere t meets rest)
  arm_in s cond stands flow =
      flow_then s arm.cond with_value (λ _ t. FlowsHere t live rest) (λ _ t. FlowsHere t meets rest)
      (cond s live rest stands)
      (λ given t to_t in_t.
      block_then t live rest Anywhere (mark_of live)
      (λ inner. block_made >>= λ beyond. block_made >>= λ merge. parts given inner beyond merge)
      (λ _ x. FlowsHere x meets rest) in_t
      (λ inner u to_u inner_is in_u.
      block_then u live (inner ∷ rest) Anywhere (mark_of live)
      (λ beyond. block_made >>= λ merge. parts given inner beyond merge)
      (λ _ x. FlowsHere x meets rest) in_u (λ beyond v to_v beyond_is in_v.
      block_then v live (beyond ∷ inner ∷ rest) Anywhere (mark_of meets) (parts given inner beyond)
      (λ _ x. FlowsHere x meets rest) in_v
      (λ merge w to_w is in_w.
      let inner_now = to_w inner (mark_of live) (to_v inner (mark_of live) inner_is) in
      let beyond_now = to_w beyond (mark_of live) beyond_is in
      flow_on_then w live live (Branch given inner beyond) inner (merge ∷ beyond ∷ inner ∷ rest)
      (merge ∷ beyond ∷ rest) (in_inner beyond merge) (λ _ x. FlowsHere x meets rest) in_w
      (third_first merge beyond inner rest)
      (λ reached.
      branch_live w.marks given inner beyond (live_reached w.marks inner live inner_now reached)
      (live_reached w.marks beyond live beyond_now reached)) inner_now
      (λ x to_x in_x.
      body_in beyond merge x in_x (to_x beyond (mark_of live) beyond_now)
      (to_x merge (mark_of meets) is)
      (targets_part s.marks x.marks live live (breaks || more_breaks) (breaks || more_breaks)
      targets (λ number mark is. to_x number mark (to_w number mark (to_v number mark
      (to_u number mark (to_t number mark is))))) (λ is. is) (λ is. is) flow)))))) where
        in_inner : ℕ → ℕ → Code (Unit {0})
        in_inner beyond merge = arm.body.code targets >> jump merge >> resume beyond >> more targets
            >> jump merge
            >> resume merge

        parts : Operand → ℕ → ℕ → ℕ → Code (Unit {0})
        parts given inner beyond merge =
            close (Branch given inner beyond) >> resume inner >> in_inner beyond merge

        with_value : Operand → Code (Unit {0})
        with_value given = block_made
            >>= λ inner. block_made >>= λ beyond. block_made >>= λ merge.
            parts given inner beyond merge

pub more_arms_flow : (arm : IfCode) (arms : List IfCode) (ends breaks more_ends more_breaks : Bool)
    → CodeFlows arm.cond → WaysFlow ends breaks arm.body.code → ArmsFlow more_ends more_breaks arms
    → ArmsFlow (ends && more_ends) (breaks || more_breaks) (arm ∷ arms)
unfolding arms_code
more_arms_flow arm arms ends breaks more_ends more_breaks cond body more last_ends last_breaks
    otherwise ways s live rest targets stands flow =
    subst (λ all. FlowAt s (arms_code (arm ∷ arms) (otherwise targets) targets)
    (λ _ t. FlowsHere t (passes all live) rest)) (sym (and_assoc ends more_ends last_ends))
    (arm_in arm ends breaks (more_ends && last_ends) (more_breaks || last_breaks)
    (λ to. arms_code arms (otherwise to) to) body (more last_ends last_breaks otherwise ways)
    targets live rest s cond stands
    (subst (λ all. TargetsFlow s.marks live all targets) (or_assoc breaks more_breaks last_breaks)
    flow))
