-- The code of each expression declares no variable, nor does that of a block outside of it.
use Rattle.std.proofs.Common.{ℕ, Option, sym, subst}
use Rattle.sw_tree.specs.declared.expr.Expr.{Expr}
use Rattle.sw_tree.specs.declared.stmt.Block.{Block}
use Rattle.sw_tree.proofs.FoldEquations as eq
use Rattle.sw_lower_code.specs.Code.{block_for}
use Rattle.sw_lower_rules.specs.Carriers.{BlockCode}
use Rattle.sw_lower_rules.specs.Statements.{block_code, code_steps, expr_code}
use Rattle.sw_lower_rules.specs.Tables.{Tables}
use Rattle.sw_lower_rules.specs.declared.targets.Targets.{Targets}
use Rattle.sw_lower_code_facts.specs.Kept.{Kept}
use Rattle.sw_lower_code_facts.specs.Steps.{KeptByBlocks}
use Rattle.sw_lower_code_facts.proofs.Logic.{has_both, has_either}
use Rattle.sw_lower_code_facts.proofs.Silent.{expr_code_has}
use Rattle.sw_lower_total_facts.specs.Binding.{BindsNothing, ExprBindsNothing}
use Rattle.sw_lower_total_facts.proofs.Binding.Codes.{nothing_block, nothing_close, nothing_done}
use Rattle.sw_lower_total_facts.proofs.Binding.Codes.{nothing_emit, nothing_known, nothing_number}
use Rattle.sw_lower_total_facts.proofs.Binding.Codes.{nothing_reg, nothing_resume, nothing_scope}
use Rattle.sw_lower_total_facts.proofs.Binding.Codes.{nothing_then, nothing_var}

abbrev pub nothing_bound : Kept
nothing_bound = record {
  Has = λ code. BindsNothing code;
  done = nothing_done;
  after = nothing_then;
  known = nothing_known;
  var = nothing_var;
  number = nothing_number;
  reg = nothing_reg;
  emit = λ instr so. nothing_emit instr;
}

abbrev blocks : KeptByBlocks nothing_bound
blocks = record {
  Fresh = λ block. Unit {0};
  after_block = λ entry next one.
      nothing_then (block_for entry) next (nothing_block entry) (λ block. one block tt);
  close = nothing_close;
  resume = λ block fresh. nothing_resume block;
}

module _ (tables : Tables) (owner : Option ℕ) where
  -- the code of an expression
  pub expr_binds_nothing : (expr : Expr) → ExprBindsNothing (expr_code tables owner expr)
  expr_binds_nothing expr =
      let has = expr_code_has nothing_bound nothing_emit (has_both nothing_bound blocks)
      (has_either nothing_bound blocks) tables owner expr in
      record { read = has.read; write = has.write }

  -- the code of a block, whose variables are seen in it alone
  pub block_binds_nothing : (block : Block) (targets : Targets)
      → BindsNothing ((block_code tables owner block).code targets)
  unfolding block_code
  block_binds_nothing block targets =
      subst (λ (code : BlockCode). BindsNothing (code.code targets))
      (sym (eq.fold_block-out (code_steps tables owner) block)) (nothing_scope _)
