-- The work of some forms, by that of their parts.
use Rattle.std.proofs.Common.{◌≡◌, ◌∙◌, ap, ℕ, List, [], ◌∷◌, Option, Some, None, option_map, map}
use Rattle.sw_tree.proofs.FoldEquations as eq
use Rattle.sw_tree.specs.Folds.{fold_case_arm}
use Rattle.sw_tree.specs.declared.expr.Expr.{Expr}
use Rattle.sw_tree.specs.declared.expr.Expr.TheVariants as exprs
use Rattle.sw_tree.specs.declared.expr.Link.{roll-Link}
use Rattle.sw_tree.specs.declared.operator.AssignOp.{AssignOp}
use Rattle.sw_tree.specs.declared.operator.InfixOp.{InfixOp}
use Rattle.sw_tree.specs.declared.stmt.Block.{Block, roll-Block}
use Rattle.sw_tree.specs.declared.stmt.CaseArm.{CaseArm}
use Rattle.sw_tree.specs.declared.stmt.IfArm.{roll-IfArm}
use Rattle.sw_tree.specs.declared.stmt.Stmt.{Stmt}
use Rattle.sw_tree.specs.declared.stmt.Stmt.TheVariants as stmts
use Rattle.sw_tree_work.specs.Facts.{Facts}
use Rattle.sw_tree_work.specs.Forms.{ExprWork, IfWork, LinkWork, StmtWork, arms_work, assign, by_op}
use Rattle.sw_tree_work.specs.Forms.{else_work, in_order, ways, while_work}
use Rattle.sw_tree_work.specs.Trees.{block_work, cases_of, chain_work, expr_work, stmt_work}
use Rattle.sw_tree_work.specs.Trees.{work_steps}
use Rattle.sw_tree_work.specs.Work.{Again, Finish, Return, Switch, Work}
use Rattle.sw_tree_work.proofs.Order.{mapped_in_order}

module _ (facts : Facts) (owner : Option ℕ) where
  pub chain_of_two : (op : InfixOp) (at : ℕ) (left right : Expr) (rest : Work)
      → (expr_work facts owner (exprs.Chain left
      (roll-Link (record { op = op; at = at; operand = right }) ∷ []))).read rest
      ≡ (expr_work facts owner left).read (by_op op at (expr_work facts owner right).read rest)
  unfolding expr_work
  chain_of_two op at left right rest = ap (λ (one : ExprWork). one.read rest)
      (eq.fold_expr-Chain (work_steps facts owner) left
      (roll-Link (record { op = op; at = at; operand = right }) ∷ [])
      ∙ ap (λ (link : LinkWork). chain_work facts owner (expr_work facts owner left) (link ∷ []))
      (eq.fold_link-roll (work_steps facts owner) op at right))

  pub assignment : (at : ℕ) (op : AssignOp) (place assigned : Expr) (breaks rest : Work)
      → (stmt_work facts owner (stmts.Assign at op place assigned)).work breaks rest
      ≡ (expr_work facts owner assigned).read (assign op at (expr_work facts owner place) rest)
  unfolding expr_work stmt_work
  assignment at op place assigned breaks rest = ap (λ (one : StmtWork). one.work breaks rest)
      (eq.fold_stmt-Assign (work_steps facts owner) at op place assigned)

  pub block_in_order : (stmts : List Stmt) (breaks rest : Work)
      → (block_work facts owner (roll-Block (record { stmts = stmts }))).work breaks rest
      ≡ in_order (λ stmt. (stmt_work facts owner stmt).work breaks) stmts rest
  unfolding block_work stmt_work
  block_in_order stmts breaks rest = ap (λ (one : StmtWork). one.work breaks rest)
      (eq.fold_block-roll (work_steps facts owner) stmts)
      ∙ mapped_in_order (λ (one : StmtWork). one.work breaks) (stmt_work facts owner) stmts rest

  pub if_of_one : (at : ℕ) (cond : Expr) (body : Block) (otherwise : Option Block)
      (breaks rest : Work)
      → (stmt_work facts owner (stmts.If
      (roll-IfArm (record { at = at; cond = cond; body = body }) ∷ []) otherwise)).work breaks rest
      ≡ arms_work
      (record { cond = (expr_work facts owner cond).read; body = block_work facts owner body } ∷ [])
      (else_work (option_map (block_work facts owner) otherwise)) breaks rest
  unfolding expr_work stmt_work block_work
  if_of_one at cond body otherwise breaks rest = ap (λ (one : StmtWork). one.work breaks rest)
      (eq.fold_stmt-If (work_steps facts owner)
      (roll-IfArm (record { at = at; cond = cond; body = body }) ∷ []) otherwise)
      ∙ ap (λ (arm : IfWork). arms_work (arm ∷ [])
      (else_work (option_map (block_work facts owner) otherwise)) breaks rest)
      (eq.fold_if_arm-roll (work_steps facts owner) at cond body)

  pub while_is : (at : ℕ) (cond : Expr) (body : Block) (breaks rest : Work)
      → (stmt_work facts owner (stmts.While at cond body)).work breaks rest
      ≡ while_work (expr_work facts owner cond).read (block_work facts owner body) rest
  unfolding expr_work stmt_work block_work
  while_is at cond body breaks rest = ap (λ (one : StmtWork). one.work breaks rest)
      (eq.fold_stmt-While (work_steps facts owner) at cond body)

  pub break_is : (at : ℕ) (breaks rest : Work)
      → (stmt_work facts owner (stmts.Break at)).work breaks rest ≡ breaks
  unfolding stmt_work
  break_is at breaks rest = ap (λ (one : StmtWork). one.work breaks rest)
      (eq.fold_stmt-Break (work_steps facts owner) at)

  pub continue_is : (at : ℕ) (breaks rest : Work)
      → (stmt_work facts owner (stmts.Continue at)).work breaks rest ≡ Again
  unfolding stmt_work
  continue_is at breaks rest = ap (λ (one : StmtWork). one.work breaks rest)
      (eq.fold_stmt-Continue (work_steps facts owner) at)

  pub return_of_value : (at : ℕ) (given : Expr) (breaks rest : Work)
      → (stmt_work facts owner (stmts.Return at (Some given))).work breaks rest
      ≡ (expr_work facts owner given).read Return
  unfolding expr_work stmt_work
  return_of_value at given breaks rest = ap (λ (one : StmtWork). one.work breaks rest)
      (eq.fold_stmt-Return (work_steps facts owner) at (Some given))

  pub return_of_nothing : (at : ℕ) (breaks rest : Work)
      → (stmt_work facts owner (stmts.Return at None)).work breaks rest ≡ Finish
  unfolding stmt_work
  return_of_nothing at breaks rest = ap (λ (one : StmtWork). one.work breaks rest)
      (eq.fold_stmt-Return (work_steps facts owner) at None)

  pub switch_is : (at : ℕ) (subject : Expr) (arms : List CaseArm) (otherwise : Option Block)
      (breaks rest : Work)
      → (stmt_work facts owner (stmts.Switch at subject arms otherwise)).work breaks rest
      ≡ (expr_work facts owner subject).read
      (Switch (cases_of facts (expr_work facts owner subject))
      (ways (map (fold_case_arm (work_steps facts owner)) arms)
      (option_map (block_work facts owner) otherwise) rest))
  unfolding expr_work stmt_work block_work
  switch_is at subject arms otherwise breaks rest = ap (λ (one : StmtWork). one.work breaks rest)
      (eq.fold_stmt-Switch (work_steps facts owner) at subject arms otherwise)
