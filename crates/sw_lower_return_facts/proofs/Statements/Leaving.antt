-- `return`, `break` and `continue`.
use Rattle.std.proofs.Common.{◌≡◌, ℕ, Bool, true, false, List, Option, Some, subst, sym, refl}
use Rattle.std.specs.Option.{unwrap_or}
use Rattle.sw_graph.specs.declared.instr.Last.{Last}
use Rattle.sw_graph.specs.declared.instr.Last.TheVariants.{Jump, Return}
use Rattle.sw_graph.specs.declared.instr.Operand.{Operand}
use Rattle.sw_lower_plans.specs.Plan.{Anywhere}
use Rattle.sw_lower_code.specs.Code.{Code, close, resume, ◌>>◌}
use Rattle.sw_lower_rules.specs.Expressions.{block_made, jump}
use Rattle.sw_lower_rules.specs.Statements.{in_new_block, leave, return_code}
use Rattle.sw_lower_rules.specs.Tables.{Tables}
use Rattle.sw_lower_return_facts.specs.Flows.{CodeFlows, FlowAt, IsLiveLast, FlowsHere, FlowState}
use Rattle.sw_lower_return_facts.specs.Flows.{WaysFlow}
use Rattle.sw_lower_return_facts.specs.Flows.{mark_of}
use Rattle.sw_lower_return_facts.proofs.Flow.Marks.{is_live_later}
use Rattle.sw_lower_return_facts.proofs.Flow.Quiet.{flow_known}
use Rattle.sw_lower_return_facts.proofs.Flow.Steps.{Closed, MadeBlock, flow_block, flow_close}
use Rattle.sw_lower_return_facts.proofs.Flow.Steps.{flow_resumed, jump_live, last_by, return_live}
use Rattle.sw_lower_return_facts.proofs.Flow.Then.{flow_then}

-- The block that goes on ends, and one goes on to which nothing leads.
pub flow_left : (s : FlowState) (live to_live : Bool) (rest : List ℕ) (last : Last)
    → FlowsHere s live rest → (live ≡ true → IsLiveLast s.marks last)
    → FlowAt s (close last >> in_new_block) (λ _ t. FlowsHere t to_live rest)
flow_left s live to_live rest last stands leads =
    flow_then s (close last) (λ _. in_new_block) (λ _ t. Closed s last rest t)
    (λ _ t. FlowsHere t to_live rest)
    (flow_close s last rest stands.flows
    (last_by s.marks s.writes s.place.here live last stands.here leads))
    (λ _ t extend closed.
    flow_then t block_made resume (MadeBlock t (mark_of to_live) rest)
    (λ _ u. FlowsHere u to_live rest) (flow_block t Anywhere (mark_of to_live) rest closed.flows)
    (λ number u more made. flow_resumed u number to_live rest made.flows made.is))

module _ (tables : Tables) where
  pub return_ways : (read : Code Operand) → CodeFlows read
      → WaysFlow true false (λ targets. return_code tables (Some read))
  return_ways read flows s live rest targets stands flow =
      flow_then s read (λ given. close (Return (Some given)) >> in_new_block)
      (λ _ t. FlowsHere t live rest) (λ _ t. FlowsHere t false rest) (flows s live rest stands)
      (λ given t extend in_t. flow_left t live false rest (Return (Some given)) in_t
      (λ is. return_live t.marks given))

  -- the jump of `break` and of `continue`
  flow_leave : (to : Option ℕ) (s : FlowState) (live : Bool) (rest : List ℕ) → FlowsHere s live rest
      → (live ≡ true → IsLiveLast s.marks (Jump (unwrap_or to 0)))
      → FlowAt s (leave tables to) (λ _ t. FlowsHere t live rest)
  flow_leave to s live rest stands leads =
      flow_then s _ (λ number. jump number >> in_new_block)
      (λ value t. (value ≡ unwrap_or to 0) × FlowsHere t live rest) (λ _ t. FlowsHere t live rest)
      (flow_known 0 to s live rest stands)
      (λ value t extend in_t.
      flow_left t live live rest (Jump value) in_t.1 (λ is.
      subst (λ n. IsLiveLast t.marks (Jump n)) (sym in_t.0)
      (is_live_later s.marks t.marks (Jump (unwrap_or to 0)) extend (leads is))))

  pub break_ways : WaysFlow false true (λ targets. leave tables targets.breaks)
  break_ways s live rest targets stands flow =
      flow_leave targets.breaks s live rest stands
      (λ is. jump_live s.marks (unwrap_or targets.breaks 0) (flow.breaks_to is refl))

  pub continue_ways : WaysFlow false false (λ targets. leave tables targets.continues)
  continue_ways s live rest targets stands flow =
      flow_leave targets.continues s live rest stands
      (λ is. jump_live s.marks (unwrap_or targets.continues 0) (flow.continues_to is))
