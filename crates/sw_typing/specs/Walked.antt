-- What a walk knows of the parts of a tree.
use Rattle.std.specs.Prelude.{Bool, false, List, Option, map, option_map}
use Rattle.sw_tree.specs.Folds.{fold_arg, fold_block, fold_case_arm, fold_closure, fold_expr}
use Rattle.sw_tree.specs.Folds.{fold_if_arm, fold_link, fold_stmt}
use Rattle.sw_tree.specs.declared.expr.Arg.{Arg}
use Rattle.sw_tree.specs.declared.expr.Closure.{Closure}
use Rattle.sw_tree.specs.declared.expr.Expr.{Expr}
use Rattle.sw_tree.specs.declared.expr.Link.{Link}
use Rattle.sw_tree.specs.declared.name.Name.{Name}
use Rattle.sw_tree.specs.declared.stmt.Block.{Block}
use Rattle.sw_tree.specs.declared.stmt.CaseArm.{CaseArm}
use Rattle.sw_tree.specs.declared.stmt.IfArm.{IfArm}
use Rattle.sw_tree.specs.declared.stmt.Stmt.{Stmt}
use Rattle.sw_types.specs.declared.shape.CaseShape.{CaseShape}
use Rattle.sw_typing_rules.specs.Calls.{Callee, Slot}
use Rattle.sw_typing_rules.specs.Expressions.{Closed, Judged, Passed, method_callee}
use Rattle.sw_typing_rules.specs.Judging.{do_all, do_arm, do_arms, do_case, do_cases, do_otherwise}
use Rattle.sw_typing_rules.specs.Judging.{link_all, pass, typing_steps}
use Rattle.sw_typing_rules.specs.Statements.{Armed, Left, State}
use Rattle.sw_typing_rules.specs.Words.{Setting}
use Rattle.sw_typing_rules.specs.Worlds.{World}
use Rattle.sw_typing_rules.specs.declared.scope.Inside.{Inside}

module _ (world : World) where
  abbrev pub expr_known : Expr → Setting → Bool → Judged
  expr_known = fold_expr (typing_steps world)

  abbrev pub args_passed : List Arg → Setting → List Slot → Passed
  args_passed args setting slots = pass setting slots (map (fold_arg (typing_steps world)) args)

  abbrev pub links_known : List Link → Setting → Judged → Judged
  links_known links setting left =
      link_all setting left (map (fold_link (typing_steps world)) links)

  unfoldable pub closure_known : Closure → Setting → Closed
  closure_known = fold_closure (typing_steps world)

  -- what a call of a member of an expression calls
  unfoldable pub called_member : Expr → Setting → Name → Callee
  called_member base setting name = method_callee world (expr_known base setting false) name

  abbrev pub stmt_left : Stmt → Inside → State → Left
  stmt_left = fold_stmt (typing_steps world)

  abbrev pub stmts_left : List Stmt → Inside → State → Left
  stmts_left stmts inside state = do_all inside state (map (fold_stmt (typing_steps world)) stmts)

  abbrev pub block_left : Block → Inside → State → Left
  block_left = fold_block (typing_steps world)

  abbrev pub otherwise_left : Option Block → Bool → Inside → State → Left
  otherwise_left block ends inside state =
      do_otherwise ends inside state (option_map (fold_block (typing_steps world)) block)

  abbrev pub if_arm_left : IfArm → Inside → State → Left
  if_arm_left arm inside state = do_arm inside state (fold_if_arm (typing_steps world) arm)

  abbrev pub if_arms_left : List IfArm → Inside → State → Left
  if_arms_left arms inside state =
      do_arms inside state (map (fold_if_arm (typing_steps world)) arms)

  abbrev pub case_arm_left : CaseArm → Option (List CaseShape) → Inside → State → Left
  case_arm_left arm cases inside state =
      do_case inside cases state (fold_case_arm (typing_steps world) arm)

  abbrev pub case_arms_left : List CaseArm → Option (List CaseShape) → Inside → State → Armed
  case_arms_left arms cases inside state =
      do_cases inside cases state (map (fold_case_arm (typing_steps world)) arms)
