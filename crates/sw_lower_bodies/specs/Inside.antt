-- The bodies in the parts of a tree, in a member of the type with a number.
use Rattle.std.specs.Prelude.{ℕ, List, ◌∷◌, map, flat_map, Option}
use Rattle.std.specs.Option.{option_map}
use Rattle.sw_tree.specs.Folds.{fold_arg, fold_block, fold_case_arm, fold_if_arm, fold_link}
use Rattle.sw_tree.specs.Folds.{fold_stmt}
use Rattle.sw_tree.specs.declared.expr.Arg.{Arg}
use Rattle.sw_tree.specs.declared.expr.Closure.{Closure}
use Rattle.sw_tree.specs.declared.expr.Expr.{Expr}
use Rattle.sw_tree.specs.declared.expr.Link.{Link}
use Rattle.sw_tree.specs.declared.stmt.Block.{Block}
use Rattle.sw_tree.specs.declared.stmt.CaseArm.{CaseArm}
use Rattle.sw_tree.specs.declared.stmt.IfArm.{IfArm}
use Rattle.sw_tree.specs.declared.stmt.Stmt.{Stmt}
use Rattle.sw_lower_bodies.specs.Trees.{closure_code}
use Rattle.sw_lower_code.specs.Whole.{Body}
use Rattle.sw_lower_rules.specs.Carriers.{ArgCode, CaseCode, IfCode, LinkCode, StmtCode}
use Rattle.sw_lower_rules.specs.Expressions.{closure_body, fun_result, spawn_result, task_body}
use Rattle.sw_lower_rules.specs.Statements.{block_code, code_steps, expr_code, inside_of, stmt_code}
use Rattle.sw_lower_rules.specs.Tables.{Tables}

module _ (tables : Tables) (owner : Option ℕ) where
  unfoldable pub expr_inside : Expr → List Body
  expr_inside tree = (expr_code tables owner tree).inside

  unfoldable pub stmt_inside : Stmt → List Body
  stmt_inside tree = (stmt_code tables owner tree).inside

  unfoldable pub block_inside : Block → List Body
  block_inside tree = (block_code tables owner tree).inside

  abbrev pub args_inside : List Arg → List Body
  args_inside args =
      flat_map (λ (arg : ArgCode). arg.inside) (map (fold_arg (code_steps tables owner)) args)

  abbrev pub links_inside : List Link → List Body
  links_inside links =
      flat_map (λ (link : LinkCode). link.inside) (map (fold_link (code_steps tables owner)) links)

  abbrev pub stmts_inside : List Stmt → List Body
  stmts_inside stmts =
      flat_map (λ (one : StmtCode). one.inside) (map (fold_stmt (code_steps tables owner)) stmts)

  abbrev pub ifs_inside : List IfArm → List Body
  ifs_inside arms =
      flat_map (λ (arm : IfCode). arm.inside) (map (fold_if_arm (code_steps tables owner)) arms)

  abbrev pub cases_inside : List CaseArm → List Body
  cases_inside arms = flat_map (λ (arm : CaseCode). arm.body.inside)
      (map (fold_case_arm (code_steps tables owner)) arms)

  abbrev pub other_inside : Option Block → List Body
  other_inside other = inside_of (option_map (fold_block (code_steps tables owner)) other)

  -- a closure's body, and those in it
  abbrev pub fun_inside : Closure → List Body
  fun_inside closure =
      let code = closure_code tables owner closure in
      closure_body tables owner code (fun_result tables owner code.at) ∷ code.body.inside

  -- a task's body, and those in it
  abbrev pub task_inside : ℕ → Closure → List Body
  task_inside at closure =
      let code = closure_code tables owner closure in
      task_body tables owner code (spawn_result tables owner at) ∷ code.body.inside
