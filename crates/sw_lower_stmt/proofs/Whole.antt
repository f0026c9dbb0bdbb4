-- The code of trees by that of their parts.
use Rattle.std.proofs.Common.{◌≡◌, ℕ, List, Option, ap, sym, ◌∙◌}
use Rattle.sw_tree.proofs.FoldEquations as eq
use Rattle.sw_tree.specs.declared.expr.Expr.{Expr}
use Rattle.sw_tree.specs.declared.stmt.Block.{Block, out-Block}
use Rattle.sw_tree.specs.declared.stmt.CaseArm.{CaseArm}
use Rattle.sw_tree.specs.declared.stmt.IfArm.{IfArm}
use Rattle.sw_tree.specs.declared.stmt.Stmt.{Stmt}
use Rattle.sw_tree.specs.declared.stmt.Stmt.TheVariants as stmts
use Rattle.sw_lower_plans.specs.Run.{Making}
use Rattle.sw_lower_code.specs.Code.{all, each, scope, ◌>>=◌, ◌>>◌}
use Rattle.sw_lower_rules.specs.Carriers.{StmtCode}
use Rattle.sw_lower_rules.specs.Statements.{block_code, code_steps, else_code, expr_code, stmt_code}
use Rattle.sw_lower_rules.specs.Tables.{Tables}
use Rattle.sw_lower_rules.specs.declared.targets.Targets.{Targets}
use Rattle.sw_lower_stmt.proofs.Arms.{arms_split}
use Rattle.sw_lower_stmt.proofs.Switches.{switch_is}
use Rattle.sw_lower_stmt.specs.Parts.{arm_opened, case_code, if_arm_code, if_codes, joined_all}
use Rattle.sw_lower_stmt.specs.Parts.{otherwise_code, stmt_codes, switch_arms, switch_opened}

module _ (tables : Tables) (owner : Option ℕ) (targets : Targets) where
  pub block_whole : (tree : Block) (trees : List Stmt) (s : Making) → trees ≡ (out-Block tree).stmts
      → ((block_code tables owner tree).code targets).run s
      ≡ (scope (all (λ (one : StmtCode). one.code targets) (stmt_codes tables owner trees))).run s
  unfolding block_code stmt_code
  block_whole tree trees s is =
      ap (λ code. (code.code targets).run s) (eq.fold_block-out (code_steps tables owner) tree)
      ∙ ap (λ ys. (scope (all (λ (one : StmtCode). one.code targets)
      (stmt_codes tables owner ys))).run s) (sym is)

  pub if_whole : (tree : Stmt) (arms given : List IfArm) (otherwise : Option Block) (s : Making)
      → tree ≡ stmts.If arms otherwise → given ≡ arms
      → ((stmt_code tables owner tree).code targets).run s
      ≡ (each (arm_opened targets) (if_codes tables owner given)
      >>= λ merges. else_code (otherwise_code tables owner otherwise) targets
      >> joined_all merges).run s
  unfolding block_code if_arm_code stmt_code
  if_whole tree arms given otherwise s is g =
      ap (λ t. ((stmt_code tables owner t).code targets).run s)
      (is ∙ ap (λ a. stmts.If a otherwise) (sym g))
      ∙ (ap (λ code. (code.code targets).run s)
      (eq.fold_stmt-If (code_steps tables owner) given otherwise)
      ∙ arms_split (if_codes tables owner given)
      (else_code (otherwise_code tables owner otherwise) targets) targets s)

  pub switch_whole : (tree : Stmt) (at : ℕ) (subject : Expr) (arms given : List CaseArm)
      (otherwise : Option Block) (s : Making) → tree ≡ stmts.Switch at subject arms otherwise
      → given ≡ arms
      → ((stmt_code tables owner tree).code targets).run s
      ≡ (switch_opened tables owner subject given otherwise
      >>= switch_arms tables owner given otherwise targets).run s
  unfolding block_code case_code expr_code stmt_code
  switch_whole tree at subject arms given otherwise s is g =
      ap (λ t. ((stmt_code tables owner t).code targets).run s)
      (is ∙ ap (λ a. stmts.Switch at subject a otherwise) (sym g))
      ∙ (ap (λ code. (code.code targets).run s)
      (eq.fold_stmt-Switch (code_steps tables owner) at subject given otherwise)
      ∙ switch_is tables owner subject given otherwise targets s)
