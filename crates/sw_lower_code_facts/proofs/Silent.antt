-- The code of each expression has what its steps have, and what each block gives to properties;
-- nothing is said of statements.
use Rattle.std.proofs.Common.{ℕ, List, Option}
use Rattle.sw_tree.specs.declared.expr.Expr.{Expr}
use Rattle.sw_tree.specs.declared.stmt.Block.{Block}
use Rattle.sw_graph.specs.declared.instr.Instr.{Instr}
use Rattle.sw_graph.specs.declared.instr.Operand.{Operand}
use Rattle.sw_lower_code.specs.Code.{Code, emit}
use Rattle.sw_lower_code.specs.Whole.{Body}
use Rattle.sw_lower_rules.specs.Expressions.{both, either}
use Rattle.sw_lower_rules.specs.Statements.{block_code, expr_code}
use Rattle.sw_lower_rules.specs.Tables.{Tables}
use Rattle.sw_lower_code_facts.specs.Kept.{ExprHas, GivesHave, Kept, KeptByForms}
use Rattle.sw_lower_code_facts.specs.Said.{Said}
use Rattle.sw_lower_code_facts.proofs.Calls.{kept_by_forms, none_required}
use Rattle.sw_lower_code_facts.proofs.Induction.{every_block_code, every_expr_code}

silent : (kept : Kept) (tables : Tables) → Said kept tables
silent kept tables = record {
  Says = λ code. Unit {0};
  declared = λ key read has. tt;
  assigned = λ op at place read of_place has. tt;
  unused = λ read has. tt;
  branches = λ arms otherwise targets have last. tt;
  loop = λ cond body of_cond of_body. tt;
  switch = λ subject arms otherwise targets has have last. tt;
  return_nothing = tt;
  return_value = λ read has. tt;
  left = λ to. tt;
  block = λ stmts targets have. tt;
  ended = λ code has. tt;
  ended_by = λ read has. tt;
}

module _ (kept : Kept) (emits : (instr : Instr) → kept.Has (emit instr))
    (conjoined : (at : ℕ) (right : Code Operand) (left : Operand) → kept.Has right
    → kept.Has (both at right left))
    (disjoined : (at : ℕ) (right : Code Operand) (left : Operand) → kept.Has right
    → kept.Has (either at right left)) (tables : Tables) (owner : Option ℕ) where
  forms : KeptByForms kept tables owner
  forms = kept_by_forms kept emits tables owner conjoined disjoined

  none : (bodies : List Body) → forms.Inside bodies
  unfolding forms
  none = none_required kept emits tables owner conjoined disjoined

  pub expr_code_has : (expr : Expr) → ExprHas kept (expr_code tables owner expr)
  expr_code_has expr =
      (every_expr_code kept tables owner forms (silent kept tables) expr
      (none (expr_code tables owner expr).inside)).has

  pub block_gives_have : (block : Block) → GivesHave kept (block_code tables owner block).gives
  block_gives_have block =
      (every_block_code kept tables owner forms (silent kept tables) block
      (none (block_code tables owner block).inside)).gives
