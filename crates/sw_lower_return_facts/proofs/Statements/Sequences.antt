-- Statements after each other, and blocks of them.
use Rattle.std.proofs.Common.{Bool, false, List, [], ◌∷◌, subst, sym}
use Rattle.std.specs.Prelude.{◌||◌}
use Rattle.sw_graph.specs.declared.instr.Operand.{Operand}
use Rattle.sw_lower_code.specs.Code.{Code, all}
use Rattle.sw_lower_rules.specs.Carriers.{StmtCode}
use Rattle.sw_lower_rules.specs.Statements.{block_layer, ignored}
use Rattle.sw_lower_rules.specs.Tables.{Tables}
use Rattle.sw_lower_rules.specs.declared.targets.Targets.{Targets}
use Rattle.sw_lower_return_facts.specs.Flows.{CodeFlows, FlowAt, FlowsHere, WaysFlow, passes}
use Rattle.sw_lower_return_facts.proofs.Flow.Quiet.{flows_done}
use Rattle.sw_lower_return_facts.proofs.Flow.Then.{flow_scope, flow_then, flows_then}
use Rattle.sw_lower_return_facts.proofs.Statements.Passing.{or_left, or_right, passes_both, passes_live}
use Rattle.sw_lower_return_facts.proofs.Statements.Passing.{targets_part}

-- Code that goes on, wherever `break` leads.
pub plain_ways : (code : Targets → Code (Unit {0}))
    → ((targets : Targets) → CodeFlows (code targets))
    → WaysFlow false false code
plain_ways code flows s live rest targets stands flow = flows targets s live rest stands

pub no_stmts_ways : WaysFlow false false (λ targets. all (λ (one : StmtCode). one.code targets) [])
unfolding all
no_stmts_ways = plain_ways (λ targets. all (λ (one : StmtCode). one.code targets) [])
    (λ targets. flows_done tt)

pub more_stmts_ways : (one : StmtCode) (more : List StmtCode)
    (ends breaks then_ends then_breaks : Bool)
    → WaysFlow ends breaks one.code
    → WaysFlow then_ends then_breaks
    (λ targets. all (λ (other : StmtCode). other.code targets) more)
    → WaysFlow (ends || then_ends) (breaks || then_breaks)
    (λ targets. all (λ (other : StmtCode). other.code targets) (one ∷ more))
unfolding all
more_stmts_ways one more ends breaks then_ends then_breaks first then s live rest targets stands
    flow =
    flow_then s (one.code targets) (λ _. all (λ (other : StmtCode). other.code targets) more)
    (λ _ t. FlowsHere t (passes ends live) rest)
    (λ _ t. FlowsHere t (passes (ends || then_ends) live) rest)
    (first s live rest targets stands
    (targets_part s.marks s.marks live live (breaks || then_breaks) breaks targets
    (λ number mark is. is) (λ is. is) (or_left breaks then_breaks) flow))
    (λ _ t extend in_t.
    subst (λ on. FlowAt t (all (λ (other : StmtCode). other.code targets) more)
    (λ _ u. FlowsHere u on rest)) (sym (passes_both ends then_ends live))
    (then t (passes ends live) rest targets in_t
    (targets_part s.marks t.marks live (passes ends live) (breaks || then_breaks) then_breaks
    targets extend (passes_live ends live) (or_right breaks then_breaks) flow)))

pub block_ways : (stmts : List StmtCode) (ends breaks : Bool)
    → WaysFlow ends breaks (λ targets. all (λ (one : StmtCode). one.code targets) stmts)
    → WaysFlow ends breaks (block_layer stmts).code
block_ways stmts ends breaks ways s live rest targets stands flow =
    flow_scope s (all (λ (one : StmtCode). one.code targets) stmts) (passes ends live) rest
    (ways s live rest targets stands flow)

pub ignored_ways : (tables : Tables) (read : Code Operand) → CodeFlows read
    → WaysFlow false false (λ targets. ignored tables read)
ignored_ways tables read flows =
    plain_ways (λ targets. ignored tables read)
    (λ targets. flows_then read _ flows (λ given. flows_done tt))
