-- The code of `&&` and `||` goes on.
use Rattle.std.proofs.Common.{ℕ, Bool, List, ◌∷◌}
use Rattle.sw_types.specs.declared.ty.Ty.TheVariants as types
use Rattle.sw_graph.specs.declared.function.RegKind.TheVariants.{Plain}
use Rattle.sw_graph.specs.declared.instr.Instr.TheVariants as instr
use Rattle.sw_graph.specs.declared.instr.Last.TheVariants.{Branch, Jump}
use Rattle.sw_graph.specs.declared.instr.Operand.{Operand}
use Rattle.sw_lower_plans.specs.Plan.{Anywhere}
use Rattle.sw_lower_code.specs.Code.{Code, close, done, emit, resume, ◌>>=◌, ◌>>◌}
use Rattle.sw_lower_rules.specs.Expressions.{block_made, both, copied, either, jump, right_in}
use Rattle.sw_lower_rules.specs.Uses.{operand}
use Rattle.sw_lower_return_facts.specs.Flows.{CodeFlows, FlowAt, IsMark, FlowsHere, FlowState, mark_of}
use Rattle.sw_lower_return_facts.proofs.Flow.Going.{block_then, flow_on_then, swapped}
use Rattle.sw_lower_return_facts.proofs.Flow.Quiet.{flows_done, flows_emit, flows_reg}
use Rattle.sw_lower_return_facts.proofs.Flow.Steps.{branch_live, jump_live, live_reached}
use Rattle.sw_lower_return_facts.proofs.Flow.Then.{flow_then, flows_then}

flows_copied : (at : ℕ) (given : Operand) → CodeFlows (copied at given)
flows_copied at given =
    flows_then _ _ (flows_reg (Plain types.Bool)) (λ r.
    flows_then _ _ (flows_emit _) (λ value. flows_done r))

-- the right value, in the block that is its own
flow_right : (s : FlowState) (live : Bool) (rest : List ℕ) (at r : ℕ) (right : Code Operand)
    (merge : ℕ) → CodeFlows right → FlowsHere s live (merge ∷ rest)
    → IsMark s.marks merge (mark_of live)
    → FlowAt s (right >>= λ other. emit (instr.Copy at r other)
    >> jump merge >> resume merge >> done (operand r at)) (λ _ t. FlowsHere t live rest)
flow_right s live rest at r right merge flows stands is =
    flow_then s right _ (λ _ t. FlowsHere t live (merge ∷ rest)) (λ _ t. FlowsHere t live rest)
    (flows s live (merge ∷ rest) stands)
    (λ other t to_t in_t.
    flow_then t (emit (instr.Copy at r other)) _ (λ _ u. FlowsHere u live (merge ∷ rest))
    (λ _ u. FlowsHere u live rest) (flows_emit (instr.Copy at r other) t live (merge ∷ rest) in_t)
    (λ _ u to_u in_u.
    let now = to_u merge (mark_of live) (to_t merge (mark_of live) is) in
    flow_on_then u live live (Jump merge) merge (merge ∷ rest) rest (done (operand r at))
    (λ _ v. FlowsHere v live rest) in_u (λ number one. one)
    (λ reached. jump_live u.marks merge (live_reached u.marks merge live now reached)) now
    (λ v to_v in_v. flows_done (operand r at) v live rest in_v)))

pub flows_and : (at : ℕ) (right : Code Operand) (left : Operand) → CodeFlows right
    → CodeFlows (both at right left)
flows_and at right left flows =
    flows_then _ _ (flows_copied at left) (λ r s live rest stands.
    block_then s live rest Anywhere (mark_of live) (λ own. block_made >>= λ merge.
    close (Branch left own merge) >> right_in at r right own merge) (λ _ t. FlowsHere t live rest)
    stands
    (λ own t to_t own_is in_t.
    block_then t live (own ∷ rest) Anywhere (mark_of live)
    (λ merge. close (Branch left own merge) >> right_in at r right own merge)
    (λ _ u. FlowsHere u live rest) in_t
    (λ merge u to_u merge_is in_u.
    let own_now = to_u own (mark_of live) own_is in
    flow_on_then u live live (Branch left own merge) own (merge ∷ own ∷ rest) (merge ∷ rest) _
    (λ _ v. FlowsHere v live rest) in_u (swapped merge own rest)
    (λ is. branch_live u.marks left own merge (live_reached u.marks own live own_now is)
    (live_reached u.marks merge live merge_is is)) own_now
    (λ v to_v in_v. flow_right v live rest at r right merge flows in_v
    (to_v merge (mark_of live) merge_is)))))

pub flows_or : (at : ℕ) (right : Code Operand) (left : Operand) → CodeFlows right
    → CodeFlows (either at right left)
flows_or at right left flows =
    flows_then _ _ (flows_copied at left) (λ r s live rest stands.
    block_then s live rest Anywhere (mark_of live) (λ own. block_made >>= λ merge.
    close (Branch left merge own) >> right_in at r right own merge) (λ _ t. FlowsHere t live rest)
    stands
    (λ own t to_t own_is in_t.
    block_then t live (own ∷ rest) Anywhere (mark_of live)
    (λ merge. close (Branch left merge own) >> right_in at r right own merge)
    (λ _ u. FlowsHere u live rest) in_t
    (λ merge u to_u merge_is in_u.
    let own_now = to_u own (mark_of live) own_is in
    flow_on_then u live live (Branch left merge own) own (merge ∷ own ∷ rest) (merge ∷ rest) _
    (λ _ v. FlowsHere v live rest) in_u (swapped merge own rest)
    (λ is. branch_live u.marks left merge own (live_reached u.marks merge live merge_is is)
    (live_reached u.marks own live own_now is)) own_now
    (λ v to_v in_v. flow_right v live rest at r right merge flows in_v
    (to_v merge (mark_of live) merge_is)))))
