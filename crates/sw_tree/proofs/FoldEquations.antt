-- What a fold over trees gives at each form of node.
use Rattle.std.proofs.Common.{◌≡◌, ℕ, ℤ, Bool, List, map, Option, None, Some, option_map, sym, ap}
use Rattle.std.proofs.Common.{◌∙◌}
use Rattle.sw_tree.specs.Folds.{Steps, fold_expr, fold_stmt, fold_arg, fold_closure, fold_link}
use Rattle.sw_tree.specs.Folds.{fold_block, fold_case_arm, fold_if_arm}
use Rattle.sw_tree.specs.declared.expr.Arg.{Arg, roll-Arg, out-Arg}
use Rattle.sw_tree.specs.declared.expr.Closure.{Closure, roll-Closure, out-Closure}
use Rattle.sw_tree.specs.declared.expr.ClosureParam.{ClosureParam}
use Rattle.sw_tree.specs.declared.expr.Expr.{Expr}
use Rattle.sw_tree.specs.declared.expr.Expr.TheFolds as folds
use Rattle.sw_tree.specs.declared.expr.Expr.TheOpen as layer
use Rattle.sw_tree.specs.declared.expr.Expr.TheVariants as exprs
use Rattle.sw_tree.specs.declared.expr.Link.{Link, roll-Link, out-Link}
use Rattle.sw_tree.specs.declared.name.Name.{Name}
use Rattle.sw_tree.specs.declared.operator.AssignOp.{AssignOp}
use Rattle.sw_tree.specs.declared.operator.InfixOp.{InfixOp}
use Rattle.sw_tree.specs.declared.operator.PrefixOp.{PrefixOp}
use Rattle.sw_tree.specs.declared.stmt.Block.{Block, roll-Block, out-Block}
use Rattle.sw_tree.specs.declared.stmt.CaseArm.{CaseArm, roll-CaseArm, out-CaseArm}
use Rattle.sw_tree.specs.declared.stmt.IfArm.{IfArm, roll-IfArm, out-IfArm}
use Rattle.sw_tree.specs.declared.stmt.Pattern.{Pattern}
use Rattle.sw_tree.specs.declared.stmt.Stmt.{Stmt}
use Rattle.sw_tree.specs.declared.stmt.Stmt.TheVariants as stmts
use Rattle.sw_tree.specs.declared.type_tree.TypeTree.{TypeTree}

module _ (steps : Steps) where
  pub fold_expr-Int : (at : ℕ) (value : ℤ)
      → fold_expr steps (exprs.Int at value) ≡ steps.expr (layer.Int at value)
  fold_expr-Int at value = ap (fold_expr steps) (sym (exprs.rolls-Int at value))
      ∙ folds.fold-roll-Expr steps.E steps.S steps.A steps.C steps.L steps.B steps.K steps.I
      steps.expr steps.stmt steps.arg steps.closure steps.link steps.block steps.case_arm
      steps.if_arm (layer.Int at value)

  pub fold_expr-Bool : (at : ℕ) (value : Bool)
      → fold_expr steps (exprs.Bool at value) ≡ steps.expr (layer.Bool at value)
  fold_expr-Bool at value = ap (fold_expr steps) (sym (exprs.rolls-Bool at value))
      ∙ folds.fold-roll-Expr steps.E steps.S steps.A steps.C steps.L steps.B steps.K steps.I
      steps.expr steps.stmt steps.arg steps.closure steps.link steps.block steps.case_arm
      steps.if_arm (layer.Bool at value)

  pub fold_expr-Use : (name : Name)
      → fold_expr steps (exprs.Use name) ≡ steps.expr (layer.Use name)
  fold_expr-Use name = ap (fold_expr steps) (sym (exprs.rolls-Use name))
      ∙ folds.fold-roll-Expr steps.E steps.S steps.A steps.C steps.L steps.B steps.K steps.I
      steps.expr steps.stmt steps.arg steps.closure steps.link steps.block steps.case_arm
      steps.if_arm (layer.Use name)

  pub fold_expr-Me : (at : ℕ)
      → fold_expr steps (exprs.Me at) ≡ steps.expr (layer.Me at)
  fold_expr-Me at = ap (fold_expr steps) (sym (exprs.rolls-Me at))
      ∙ folds.fold-roll-Expr steps.E steps.S steps.A steps.C steps.L steps.B steps.K steps.I
      steps.expr steps.stmt steps.arg steps.closure steps.link steps.block steps.case_arm
      steps.if_arm (layer.Me at)

  pub fold_expr-Member : (base : Expr) (name : Name)
      → fold_expr steps (exprs.Member base name) ≡ steps.expr
      (layer.Member (fold_expr steps base) name)
  fold_expr-Member base name = ap (fold_expr steps) (sym (exprs.rolls-Member base name))
      ∙ folds.fold-roll-Expr steps.E steps.S steps.A steps.C steps.L steps.B steps.K steps.I
      steps.expr steps.stmt steps.arg steps.closure steps.link steps.block steps.case_arm
      steps.if_arm (layer.Member base name)

  pub fold_expr-Call : (name : Name) (args : List Arg)
      → fold_expr steps (exprs.Call name args) ≡ steps.expr
      (layer.Call name (map (fold_arg steps) args))
  fold_expr-Call name args = ap (fold_expr steps) (sym (exprs.rolls-Call name args))
      ∙ folds.fold-roll-Expr steps.E steps.S steps.A steps.C steps.L steps.B steps.K steps.I
      steps.expr steps.stmt steps.arg steps.closure steps.link steps.block steps.case_arm
      steps.if_arm (layer.Call name args)

  pub fold_expr-Method : (base : Expr) (name : Name) (args : List Arg)
      → fold_expr steps (exprs.Method base name args) ≡ steps.expr
      (layer.Method (fold_expr steps base) name (map (fold_arg steps) args))
  fold_expr-Method base name args = ap (fold_expr steps) (sym (exprs.rolls-Method base name args))
      ∙ folds.fold-roll-Expr steps.E steps.S steps.A steps.C steps.L steps.B steps.K steps.I
      steps.expr steps.stmt steps.arg steps.closure steps.link steps.block steps.case_arm
      steps.if_arm (layer.Method base name args)

  pub fold_expr-Chain : (first : Expr) (rest : List Link)
      → fold_expr steps (exprs.Chain first rest) ≡ steps.expr
      (layer.Chain (fold_expr steps first) (map (fold_link steps) rest))
  fold_expr-Chain first rest = ap (fold_expr steps) (sym (exprs.rolls-Chain first rest))
      ∙ folds.fold-roll-Expr steps.E steps.S steps.A steps.C steps.L steps.B steps.K steps.I
      steps.expr steps.stmt steps.arg steps.closure steps.link steps.block steps.case_arm
      steps.if_arm (layer.Chain first rest)

  pub fold_expr-Prefix : (op : PrefixOp) (at : ℕ) (inner : Expr)
      → fold_expr steps (exprs.Prefix op at inner) ≡ steps.expr
      (layer.Prefix op at (fold_expr steps inner))
  fold_expr-Prefix op at inner = ap (fold_expr steps) (sym (exprs.rolls-Prefix op at inner))
      ∙ folds.fold-roll-Expr steps.E steps.S steps.A steps.C steps.L steps.B steps.K steps.I
      steps.expr steps.stmt steps.arg steps.closure steps.link steps.block steps.case_arm
      steps.if_arm (layer.Prefix op at inner)

  pub fold_expr-Await : (at : ℕ) (inner : Expr)
      → fold_expr steps (exprs.Await at inner) ≡ steps.expr (layer.Await at (fold_expr steps inner))
  fold_expr-Await at inner = ap (fold_expr steps) (sym (exprs.rolls-Await at inner))
      ∙ folds.fold-roll-Expr steps.E steps.S steps.A steps.C steps.L steps.B steps.K steps.I
      steps.expr steps.stmt steps.arg steps.closure steps.link steps.block steps.case_arm
      steps.if_arm (layer.Await at inner)

  pub fold_expr-Fun : (closure : Closure)
      → fold_expr steps (exprs.Fun closure) ≡ steps.expr (layer.Fun (fold_closure steps closure))
  fold_expr-Fun closure = ap (fold_expr steps) (sym (exprs.rolls-Fun closure))
      ∙ folds.fold-roll-Expr steps.E steps.S steps.A steps.C steps.L steps.B steps.K steps.I
      steps.expr steps.stmt steps.arg steps.closure steps.link steps.block steps.case_arm
      steps.if_arm (layer.Fun closure)

  pub fold_expr-Spawn : (at : ℕ) (detached : Bool) (body : Closure)
      → fold_expr steps (exprs.Spawn at detached body) ≡ steps.expr
      (layer.Spawn at detached (fold_closure steps body))
  fold_expr-Spawn at detached body = ap (fold_expr steps) (sym (exprs.rolls-Spawn at detached body))
      ∙ folds.fold-roll-Expr steps.E steps.S steps.A steps.C steps.L steps.B steps.K steps.I
      steps.expr steps.stmt steps.arg steps.closure steps.link steps.block steps.case_arm
      steps.if_arm (layer.Spawn at detached body)

  pub fold_expr-Yield : (at : ℕ)
      → fold_expr steps (exprs.Yield at) ≡ steps.expr (layer.Yield at)
  fold_expr-Yield at = ap (fold_expr steps) (sym (exprs.rolls-Yield at))
      ∙ folds.fold-roll-Expr steps.E steps.S steps.A steps.C steps.L steps.B steps.K steps.I
      steps.expr steps.stmt steps.arg steps.closure steps.link steps.block steps.case_arm
      steps.if_arm (layer.Yield at)

  pub fold_stmt-Bind : (mutable : Bool) (name : Name) (ty : Option TypeTree) (value : Expr)
      → fold_stmt steps (stmts.Bind mutable name ty value) ≡ steps.stmt
      (layer.Bind mutable name ty (fold_expr steps value))
  fold_stmt-Bind mutable name ty value =
      ap (fold_stmt steps) (sym (stmts.rolls-Bind mutable name ty value))
      ∙ folds.fold-roll-Stmt steps.E steps.S steps.A steps.C steps.L steps.B steps.K steps.I
      steps.expr steps.stmt steps.arg steps.closure steps.link steps.block steps.case_arm
      steps.if_arm (layer.Bind mutable name ty value)

  pub fold_stmt-Assign : (at : ℕ) (op : AssignOp) (place value : Expr)
      → fold_stmt steps (stmts.Assign at op place value) ≡ steps.stmt
      (layer.Assign at op (fold_expr steps place) (fold_expr steps value))
  fold_stmt-Assign at op place value =
      ap (fold_stmt steps) (sym (stmts.rolls-Assign at op place value))
      ∙ folds.fold-roll-Stmt steps.E steps.S steps.A steps.C steps.L steps.B steps.K steps.I
      steps.expr steps.stmt steps.arg steps.closure steps.link steps.block steps.case_arm
      steps.if_arm (layer.Assign at op place value)

  pub fold_stmt-Discard : (at : ℕ) (value : Expr)
      → fold_stmt steps (stmts.Discard at value) ≡ steps.stmt
      (layer.Discard at (fold_expr steps value))
  fold_stmt-Discard at value = ap (fold_stmt steps) (sym (stmts.rolls-Discard at value))
      ∙ folds.fold-roll-Stmt steps.E steps.S steps.A steps.C steps.L steps.B steps.K steps.I
      steps.expr steps.stmt steps.arg steps.closure steps.link steps.block steps.case_arm
      steps.if_arm (layer.Discard at value)

  pub fold_stmt-If : (arms : List IfArm) (otherwise : Option Block)
      → fold_stmt steps (stmts.If arms otherwise) ≡ steps.stmt
      (layer.If (map (fold_if_arm steps) arms) (option_map (fold_block steps) otherwise))
  fold_stmt-If arms None = ap (fold_stmt steps) (sym (stmts.rolls-If arms None))
      ∙ folds.fold-roll-Stmt steps.E steps.S steps.A steps.C steps.L steps.B steps.K steps.I
      steps.expr steps.stmt steps.arg steps.closure steps.link steps.block steps.case_arm
      steps.if_arm (layer.If arms None)
  fold_stmt-If arms (Some block) = ap (fold_stmt steps) (sym (stmts.rolls-If arms (Some block)))
      ∙ folds.fold-roll-Stmt steps.E steps.S steps.A steps.C steps.L steps.B steps.K steps.I
      steps.expr steps.stmt steps.arg steps.closure steps.link steps.block steps.case_arm
      steps.if_arm (layer.If arms (Some block))

  pub fold_stmt-While : (at : ℕ) (cond : Expr) (body : Block)
      → fold_stmt steps (stmts.While at cond body) ≡ steps.stmt
      (layer.While at (fold_expr steps cond) (fold_block steps body))
  fold_stmt-While at cond body = ap (fold_stmt steps) (sym (stmts.rolls-While at cond body))
      ∙ folds.fold-roll-Stmt steps.E steps.S steps.A steps.C steps.L steps.B steps.K steps.I
      steps.expr steps.stmt steps.arg steps.closure steps.link steps.block steps.case_arm
      steps.if_arm (layer.While at cond body)

  pub fold_stmt-Switch : (at : ℕ) (subject : Expr) (arms : List CaseArm) (otherwise : Option Block)
      → fold_stmt steps (stmts.Switch at subject arms otherwise) ≡ steps.stmt
      (layer.Switch at (fold_expr steps subject) (map (fold_case_arm steps) arms)
      (option_map (fold_block steps) otherwise))
  fold_stmt-Switch at subject arms None =
      ap (fold_stmt steps) (sym (stmts.rolls-Switch at subject arms None))
      ∙ folds.fold-roll-Stmt steps.E steps.S steps.A steps.C steps.L steps.B steps.K steps.I
      steps.expr steps.stmt steps.arg steps.closure steps.link steps.block steps.case_arm
      steps.if_arm (layer.Switch at subject arms None)
  fold_stmt-Switch at subject arms (Some block) =
      ap (fold_stmt steps) (sym (stmts.rolls-Switch at subject arms (Some block)))
      ∙ folds.fold-roll-Stmt steps.E steps.S steps.A steps.C steps.L steps.B steps.K steps.I
      steps.expr steps.stmt steps.arg steps.closure steps.link steps.block steps.case_arm
      steps.if_arm (layer.Switch at subject arms (Some block))

  pub fold_stmt-Return : (at : ℕ) (value : Option Expr)
      → fold_stmt steps (stmts.Return at value) ≡ steps.stmt
      (layer.Return at (option_map (fold_expr steps) value))
  fold_stmt-Return at None = ap (fold_stmt steps) (sym (stmts.rolls-Return at None))
      ∙ folds.fold-roll-Stmt steps.E steps.S steps.A steps.C steps.L steps.B steps.K steps.I
      steps.expr steps.stmt steps.arg steps.closure steps.link steps.block steps.case_arm
      steps.if_arm (layer.Return at None)
  fold_stmt-Return at (Some expr) = ap (fold_stmt steps) (sym (stmts.rolls-Return at (Some expr)))
      ∙ folds.fold-roll-Stmt steps.E steps.S steps.A steps.C steps.L steps.B steps.K steps.I
      steps.expr steps.stmt steps.arg steps.closure steps.link steps.block steps.case_arm
      steps.if_arm (layer.Return at (Some expr))

  pub fold_stmt-Break : (at : ℕ)
      → fold_stmt steps (stmts.Break at) ≡ steps.stmt (layer.Break at)
  fold_stmt-Break at = ap (fold_stmt steps) (sym (stmts.rolls-Break at))
      ∙ folds.fold-roll-Stmt steps.E steps.S steps.A steps.C steps.L steps.B steps.K steps.I
      steps.expr steps.stmt steps.arg steps.closure steps.link steps.block steps.case_arm
      steps.if_arm (layer.Break at)

  pub fold_stmt-Continue : (at : ℕ)
      → fold_stmt steps (stmts.Continue at) ≡ steps.stmt (layer.Continue at)
  fold_stmt-Continue at = ap (fold_stmt steps) (sym (stmts.rolls-Continue at))
      ∙ folds.fold-roll-Stmt steps.E steps.S steps.A steps.C steps.L steps.B steps.K steps.I
      steps.expr steps.stmt steps.arg steps.closure steps.link steps.block steps.case_arm
      steps.if_arm (layer.Continue at)

  pub fold_stmt-Plain : (value : Expr)
      → fold_stmt steps (stmts.Plain value) ≡ steps.stmt (layer.Plain (fold_expr steps value))
  fold_stmt-Plain value = ap (fold_stmt steps) (sym (stmts.rolls-Plain value))
      ∙ folds.fold-roll-Stmt steps.E steps.S steps.A steps.C steps.L steps.B steps.K steps.I
      steps.expr steps.stmt steps.arg steps.closure steps.link steps.block steps.case_arm
      steps.if_arm (layer.Plain value)

  pub fold_arg-roll : (label : Option Name) (value : Expr)
      → fold_arg steps (roll-Arg (record { label = label; value = value })) ≡ steps.arg
      (record { label = label; value = fold_expr steps value })
  fold_arg-roll label value =
      folds.fold-roll-Arg steps.E steps.S steps.A steps.C steps.L steps.B steps.K steps.I steps.expr
      steps.stmt steps.arg steps.closure steps.link steps.block steps.case_arm steps.if_arm
      (record { label = label; value = value })

  pub fold_arg-out : (arg : Arg)
      → fold_arg steps arg ≡ steps.arg
      (record { label = (out-Arg arg).label; value = fold_expr steps (out-Arg arg).value })
  fold_arg-out arg = folds.fold_out-Arg steps.E steps.S steps.A steps.C steps.L steps.B steps.K
      steps.I steps.expr steps.stmt steps.arg steps.closure steps.link steps.block steps.case_arm
      steps.if_arm arg

  pub fold_closure-roll : (at : ℕ) (mark : Option Name) (captures : List Name)
      (params : List ClosureParam) (result : Option TypeTree) (body : Block)
      → fold_closure steps (roll-Closure
      (record {
        at = at;
        mark = mark;
        captures = captures;
        params = params;
        result = result;
        body = body;
      })) ≡ steps.closure
      (record {
        at = at;
        mark = mark;
        captures = captures;
        params = params;
        result = result;
        body = fold_block steps body;
      })
  fold_closure-roll at mark captures params result body =
      folds.fold-roll-Closure steps.E steps.S steps.A steps.C steps.L steps.B steps.K steps.I
      steps.expr steps.stmt steps.arg steps.closure steps.link steps.block steps.case_arm
      steps.if_arm (record {
        at = at;
        mark = mark;
        captures = captures;
        params = params;
        result = result;
        body = body;
      })

  pub fold_closure-out : (closure : Closure)
      → fold_closure steps closure ≡ steps.closure
      (record {
        at = (out-Closure closure).at;
        mark = (out-Closure closure).mark;
        captures = (out-Closure closure).captures;
        params = (out-Closure closure).params;
        result = (out-Closure closure).result;
        body = fold_block steps (out-Closure closure).body;
      })
  fold_closure-out closure =
      folds.fold_out-Closure steps.E steps.S steps.A steps.C steps.L steps.B steps.K steps.I
      steps.expr steps.stmt steps.arg steps.closure steps.link steps.block steps.case_arm
      steps.if_arm closure

  pub fold_link-roll : (op : InfixOp) (at : ℕ) (operand : Expr)
      → fold_link steps (roll-Link (record { op = op; at = at; operand = operand })) ≡ steps.link
      (record { op = op; at = at; operand = fold_expr steps operand })
  fold_link-roll op at operand =
      folds.fold-roll-Link steps.E steps.S steps.A steps.C steps.L steps.B steps.K steps.I
      steps.expr steps.stmt steps.arg steps.closure steps.link steps.block steps.case_arm
      steps.if_arm (record { op = op; at = at; operand = operand })

  pub fold_link-out : (link : Link)
      → fold_link steps link ≡ steps.link
      (record {
        op = (out-Link link).op;
        at = (out-Link link).at;
        operand = fold_expr steps (out-Link link).operand;
      })
  fold_link-out link = folds.fold_out-Link steps.E steps.S steps.A steps.C steps.L steps.B steps.K
      steps.I steps.expr steps.stmt steps.arg steps.closure steps.link steps.block steps.case_arm
      steps.if_arm link

  pub fold_block-roll : (stmts : List Stmt)
      → fold_block steps (roll-Block (record { stmts = stmts })) ≡ steps.block
      (record { stmts = map (fold_stmt steps) stmts })
  fold_block-roll stmts = folds.fold-roll-Block steps.E steps.S steps.A steps.C steps.L steps.B
      steps.K steps.I steps.expr steps.stmt steps.arg steps.closure steps.link steps.block
      steps.case_arm steps.if_arm (record { stmts = stmts })

  pub fold_block-out : (block : Block)
      → fold_block steps block ≡ steps.block
      (record { stmts = map (fold_stmt steps) (out-Block block).stmts })
  fold_block-out block = folds.fold_out-Block steps.E steps.S steps.A steps.C steps.L steps.B
      steps.K steps.I steps.expr steps.stmt steps.arg steps.closure steps.link steps.block
      steps.case_arm steps.if_arm block

  pub fold_case_arm-roll : (name : Name) (patterns : List Pattern) (body : Block)
      → fold_case_arm steps (roll-CaseArm
      (record { name = name; patterns = patterns; body = body })) ≡ steps.case_arm
      (record { name = name; patterns = patterns; body = fold_block steps body })
  fold_case_arm-roll name patterns body =
      folds.fold-roll-CaseArm steps.E steps.S steps.A steps.C steps.L steps.B steps.K steps.I
      steps.expr steps.stmt steps.arg steps.closure steps.link steps.block steps.case_arm
      steps.if_arm (record { name = name; patterns = patterns; body = body })

  pub fold_case_arm-out : (case_arm : CaseArm)
      → fold_case_arm steps case_arm ≡ steps.case_arm
      (record {
        name = (out-CaseArm case_arm).name;
        patterns = (out-CaseArm case_arm).patterns;
        body = fold_block steps (out-CaseArm case_arm).body;
      })
  fold_case_arm-out case_arm =
      folds.fold_out-CaseArm steps.E steps.S steps.A steps.C steps.L steps.B steps.K steps.I
      steps.expr steps.stmt steps.arg steps.closure steps.link steps.block steps.case_arm
      steps.if_arm case_arm

  pub fold_if_arm-roll : (at : ℕ) (cond : Expr) (body : Block)
      → fold_if_arm steps (roll-IfArm (record { at = at; cond = cond; body = body })) ≡ steps.if_arm
      (record { at = at; cond = fold_expr steps cond; body = fold_block steps body })
  fold_if_arm-roll at cond body =
      folds.fold-roll-IfArm steps.E steps.S steps.A steps.C steps.L steps.B steps.K steps.I
      steps.expr steps.stmt steps.arg steps.closure steps.link steps.block steps.case_arm
      steps.if_arm (record { at = at; cond = cond; body = body })

  pub fold_if_arm-out : (if_arm : IfArm)
      → fold_if_arm steps if_arm ≡ steps.if_arm
      (record {
        at = (out-IfArm if_arm).at;
        cond = fold_expr steps (out-IfArm if_arm).cond;
        body = fold_block steps (out-IfArm if_arm).body;
      })
  fold_if_arm-out if_arm = folds.fold_out-IfArm steps.E steps.S steps.A steps.C steps.L steps.B
      steps.K steps.I steps.expr steps.stmt steps.arg steps.closure steps.link steps.block
      steps.case_arm steps.if_arm if_arm
