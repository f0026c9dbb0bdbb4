-- The code of each expression goes on at its end alone.
use Rattle.std.proofs.Common.{ℕ, Option}
use Rattle.sw_tree.specs.declared.expr.Expr.{Expr}
use Rattle.sw_lower_rules.specs.Statements.{expr_code}
use Rattle.sw_lower_rules.specs.Tables.{Tables}
use Rattle.sw_lower_code_facts.specs.Kept.{Kept}
use Rattle.sw_lower_code_facts.proofs.Silent.{expr_code_has}
use Rattle.sw_lower_first_facts.specs.Flowing.{FlowsWithoutReturn}
use Rattle.sw_lower_first_facts.proofs.Flowing.Joining.{flows_done, flows_then}
use Rattle.sw_lower_first_facts.proofs.Flowing.Logic.{flows_both, flows_or}
use Rattle.sw_lower_first_facts.proofs.Flowing.Steps.{flows_emit, flows_known, flows_number}
use Rattle.sw_lower_first_facts.proofs.Flowing.Steps.{flows_reg, flows_var}

abbrev flowing : Kept
flowing = record {
  Has = λ code. FlowsWithoutReturn code;
  done = flows_done;
  after = flows_then;
  known = flows_known;
  var = flows_var;
  number = flows_number;
  reg = flows_reg;
  emit = λ instr so. flows_emit instr;
}

pub flows_expr : (tables : Tables) (owner : Option ℕ) (expr : Expr)
    → FlowsWithoutReturn (expr_code tables owner expr).read
flows_expr tables owner expr =
    (expr_code_has flowing flows_emit flows_both flows_or tables owner expr).read
