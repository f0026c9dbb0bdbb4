-- Functions of whole trees, by one step for each type.
use Rattle.sw_tree.specs.declared.expr.Arg.{Arg}
use Rattle.sw_tree.specs.declared.expr.Closure.{Closure}
use Rattle.sw_tree.specs.declared.expr.Expr.{Expr}
use Rattle.sw_tree.specs.declared.expr.Expr.TheFolds as folds
use Rattle.sw_tree.specs.declared.expr.Expr.TheOpen as layer
use Rattle.sw_tree.specs.declared.expr.Link.{Link}
use Rattle.sw_tree.specs.declared.stmt.Block.{Block}
use Rattle.sw_tree.specs.declared.stmt.CaseArm.{CaseArm}
use Rattle.sw_tree.specs.declared.stmt.IfArm.{IfArm}
use Rattle.sw_tree.specs.declared.stmt.Stmt.{Stmt}

-- What a function gives at each type (E at expressions, S at statements, A at arguments, C at
-- closures, L at links, B at blocks, K at the arms of a `switch`, I at those of an `if`), and how
-- it makes that from one layer of a tree, in which each child stands as what the function gave
-- there.
pub record Steps : Type 1 where
  pub E : Type 0
  pub S : Type 0
  pub A : Type 0
  pub C : Type 0
  pub L : Type 0
  pub B : Type 0
  pub K : Type 0
  pub I : Type 0
  pub expr : layer.Expr-F E S A C L B K I → E
  pub stmt : layer.Stmt-F E S A C L B K I → S
  pub arg : layer.Arg-F E S A C L B K I → A
  pub closure : layer.Closure-F E S A C L B K I → C
  pub link : layer.Link-F E S A C L B K I → L
  pub block : layer.Block-F E S A C L B K I → B
  pub case_arm : layer.CaseArm-F E S A C L B K I → K
  pub if_arm : layer.IfArm-F E S A C L B K I → I

module _ (steps : Steps) where
  abbrev pub fold_expr : Expr → steps.E
  fold_expr =
      folds.fold-Expr steps.E steps.S steps.A steps.C steps.L steps.B steps.K steps.I
      steps.expr steps.stmt steps.arg steps.closure steps.link steps.block steps.case_arm
      steps.if_arm

  abbrev pub fold_stmt : Stmt → steps.S
  fold_stmt =
      folds.fold-Stmt steps.E steps.S steps.A steps.C steps.L steps.B steps.K steps.I
      steps.expr steps.stmt steps.arg steps.closure steps.link steps.block steps.case_arm
      steps.if_arm

  abbrev pub fold_arg : Arg → steps.A
  fold_arg =
      folds.fold-Arg steps.E steps.S steps.A steps.C steps.L steps.B steps.K steps.I
      steps.expr steps.stmt steps.arg steps.closure steps.link steps.block steps.case_arm
      steps.if_arm

  abbrev pub fold_closure : Closure → steps.C
  fold_closure =
      folds.fold-Closure steps.E steps.S steps.A steps.C steps.L steps.B steps.K steps.I
      steps.expr steps.stmt steps.arg steps.closure steps.link steps.block steps.case_arm
      steps.if_arm

  abbrev pub fold_link : Link → steps.L
  fold_link =
      folds.fold-Link steps.E steps.S steps.A steps.C steps.L steps.B steps.K steps.I
      steps.expr steps.stmt steps.arg steps.closure steps.link steps.block steps.case_arm
      steps.if_arm

  abbrev pub fold_block : Block → steps.B
  fold_block =
      folds.fold-Block steps.E steps.S steps.A steps.C steps.L steps.B steps.K steps.I
      steps.expr steps.stmt steps.arg steps.closure steps.link steps.block steps.case_arm
      steps.if_arm

  abbrev pub fold_case_arm : CaseArm → steps.K
  fold_case_arm =
      folds.fold-CaseArm steps.E steps.S steps.A steps.C steps.L steps.B steps.K steps.I
      steps.expr steps.stmt steps.arg steps.closure steps.link steps.block steps.case_arm
      steps.if_arm

  abbrev pub fold_if_arm : IfArm → steps.I
  fold_if_arm =
      folds.fold-IfArm steps.E steps.S steps.A steps.C steps.L steps.B steps.K steps.I
      steps.expr steps.stmt steps.arg steps.closure steps.link steps.block steps.case_arm
      steps.if_arm
