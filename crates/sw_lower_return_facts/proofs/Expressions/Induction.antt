-- The code of each expression goes on, and what the statements of an initialiser give.
use Rattle.std.proofs.Common.{ℕ, Option}
use Rattle.std.specs.List.{AllByRecursion}
use Rattle.sw_tree.specs.declared.expr.Expr.{Expr}
use Rattle.sw_tree.specs.declared.stmt.Block.{Block}
use Rattle.sw_lower_rules.specs.Carriers.{Given}
use Rattle.sw_lower_rules.specs.Statements.{block_code, expr_code}
use Rattle.sw_lower_rules.specs.Tables.{Tables}
use Rattle.sw_lower_code_facts.specs.Kept.{ExprHas, Kept}
use Rattle.sw_lower_code_facts.specs.Steps.{KeptByVariables}
use Rattle.sw_lower_code_facts.proofs.Silent.{block_gives_have, expr_code_has}
use Rattle.sw_lower_return_facts.specs.Flows.{CodeFlows}
use Rattle.sw_lower_return_facts.proofs.Expressions.Logic.{flows_and, flows_or}
use Rattle.sw_lower_return_facts.proofs.Flow.Quiet.{flows_bind, flows_done, flows_emit, flows_front}
use Rattle.sw_lower_return_facts.proofs.Flow.Quiet.{flows_known, flows_number, flows_reg, flows_var}
use Rattle.sw_lower_return_facts.proofs.Flow.Then.{flows_then}

abbrev pub flowing : Kept
flowing = record {
  Has = λ code. CodeFlows code;
  done = flows_done;
  after = flows_then;
  known = flows_known;
  var = flows_var;
  number = flows_number;
  reg = flows_reg;
  emit = λ instr so. flows_emit instr;
}

abbrev pub variables_flow : KeptByVariables flowing
variables_flow = record { bind = flows_bind; front = λ instr so. flows_front instr }

-- what an initialiser gives a property
abbrev pub GivenFlows : Given → Type 0
GivenFlows given = CodeFlows given.read

module _ (tables : Tables) (owner : Option ℕ) where
  pub expr_flows : (expr : Expr) → ExprHas flowing (expr_code tables owner expr)
  expr_flows = expr_code_has flowing flows_emit flows_and flows_or tables owner

  pub block_gives : (block : Block)
      → AllByRecursion GivenFlows (block_code tables owner block).gives
  block_gives = block_gives_have flowing flows_emit flows_and flows_or tables owner
