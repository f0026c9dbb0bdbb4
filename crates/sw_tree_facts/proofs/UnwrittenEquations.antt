-- What no text writes in each form of node.
use Rattle.std.proofs.Common.{◌≡◌, ℕ, ℤ, Bool, List, [], ◌++◌, map, Option}
use Rattle.std.proofs.Common.{option_map, unwrap_or, ap, ◌∙◌}
use Rattle.sw_tree.proofs.FoldEquations as equations
use Rattle.sw_tree.specs.Folds.{fold_stmt, fold_arg, fold_closure, fold_link, fold_case_arm}
use Rattle.sw_tree.specs.Folds.{fold_if_arm}
use Rattle.sw_tree.specs.Keys.{Keys, joined}
use Rattle.sw_tree.specs.declared.expr.Arg.{Arg, roll-Arg}
use Rattle.sw_tree.specs.declared.expr.Closure.{Closure, roll-Closure, out-Closure}
use Rattle.sw_tree.specs.declared.expr.ClosureParam.{ClosureParam}
use Rattle.sw_tree.specs.declared.expr.Expr.{Expr}
use Rattle.sw_tree.specs.declared.expr.Expr.TheVariants as exprs
use Rattle.sw_tree.specs.declared.expr.Link.{Link, roll-Link}
use Rattle.sw_tree.specs.declared.name.Name.{Name}
use Rattle.sw_tree.specs.declared.operator.AssignOp.{AssignOp}
use Rattle.sw_tree.specs.declared.operator.InfixOp.{InfixOp}
use Rattle.sw_tree.specs.declared.operator.PrefixOp.{PrefixOp}
use Rattle.sw_tree.specs.declared.stmt.Block.{Block, roll-Block}
use Rattle.sw_tree.specs.declared.stmt.CaseArm.{CaseArm, roll-CaseArm}
use Rattle.sw_tree.specs.declared.stmt.IfArm.{IfArm, roll-IfArm}
use Rattle.sw_tree.specs.declared.stmt.Pattern.{Pattern}
use Rattle.sw_tree.specs.declared.stmt.Stmt.{Stmt}
use Rattle.sw_tree.specs.declared.stmt.Stmt.TheVariants as stmts
use Rattle.sw_tree.specs.declared.type_tree.TypeTree.{TypeTree}
use Rattle.sw_tree_facts.specs.Unwritten.{unwritten_steps, expr_unwritten, block_unwritten, bare}

unfoldable pub stmt_unwritten : Stmt → Keys
stmt_unwritten = fold_stmt unwritten_steps

unfoldable pub arg_unwritten : Arg → Keys
arg_unwritten = fold_arg unwritten_steps

-- in the closure, beside its own parameters
unfoldable pub closure_unwritten : Closure → Keys
closure_unwritten closure = (fold_closure unwritten_steps closure).inside

unfoldable pub link_unwritten : Link → Keys
link_unwritten = fold_link unwritten_steps

unfoldable pub case_arm_unwritten : CaseArm → Keys
case_arm_unwritten = fold_case_arm unwritten_steps

unfoldable pub if_arm_unwritten : IfArm → Keys
if_arm_unwritten = fold_if_arm unwritten_steps

pub expr_unwritten-Int : (at : ℕ) (value : ℤ) → expr_unwritten (exprs.Int at value) ≡ []
unfolding expr_unwritten
expr_unwritten-Int at value = equations.fold_expr-Int unwritten_steps at value

pub expr_unwritten-Bool : (at : ℕ) (value : Bool) → expr_unwritten (exprs.Bool at value) ≡ []
unfolding expr_unwritten
expr_unwritten-Bool at value = equations.fold_expr-Bool unwritten_steps at value

pub expr_unwritten-Use : (name : Name) → expr_unwritten (exprs.Use name) ≡ []
unfolding expr_unwritten
expr_unwritten-Use name = equations.fold_expr-Use unwritten_steps name

pub expr_unwritten-Me : (at : ℕ) → expr_unwritten (exprs.Me at) ≡ []
unfolding expr_unwritten
expr_unwritten-Me at = equations.fold_expr-Me unwritten_steps at

pub expr_unwritten-Member : (base : Expr) (name : Name)
    → expr_unwritten (exprs.Member base name) ≡ expr_unwritten base
unfolding expr_unwritten
expr_unwritten-Member base name = equations.fold_expr-Member unwritten_steps base name

pub expr_unwritten-Call : (name : Name) (args : List Arg)
    → expr_unwritten (exprs.Call name args) ≡ joined (map arg_unwritten args)
unfolding arg_unwritten expr_unwritten
expr_unwritten-Call name args = equations.fold_expr-Call unwritten_steps name args

pub expr_unwritten-Method : (base : Expr) (name : Name) (args : List Arg)
    → expr_unwritten (exprs.Method base name args)
    ≡ expr_unwritten base ++ joined (map arg_unwritten args)
unfolding arg_unwritten expr_unwritten
expr_unwritten-Method base name args = equations.fold_expr-Method unwritten_steps base name args

pub expr_unwritten-Chain : (first : Expr) (rest : List Link)
    → expr_unwritten (exprs.Chain first rest)
    ≡ expr_unwritten first ++ joined (map link_unwritten rest) ++ bare (map link_unwritten rest)
unfolding expr_unwritten link_unwritten
expr_unwritten-Chain first rest = equations.fold_expr-Chain unwritten_steps first rest

pub expr_unwritten-Prefix : (op : PrefixOp) (at : ℕ) (inner : Expr)
    → expr_unwritten (exprs.Prefix op at inner) ≡ expr_unwritten inner
unfolding expr_unwritten
expr_unwritten-Prefix op at inner = equations.fold_expr-Prefix unwritten_steps op at inner

pub expr_unwritten-Await : (at : ℕ) (inner : Expr)
    → expr_unwritten (exprs.Await at inner) ≡ expr_unwritten inner
unfolding expr_unwritten
expr_unwritten-Await at inner = equations.fold_expr-Await unwritten_steps at inner

pub expr_unwritten-Fun : (closure : Closure)
    → expr_unwritten (exprs.Fun closure) ≡ closure_unwritten closure
unfolding closure_unwritten expr_unwritten
expr_unwritten-Fun closure = equations.fold_expr-Fun unwritten_steps closure

pub closure_unwritten-roll : (at : ℕ) (mark : Option Name) (captures : List Name)
    (params : List ClosureParam) (result : Option TypeTree) (body : Block)
    → closure_unwritten (roll-Closure (record {
      at = at;
      mark = mark;
      captures = captures;
      params = params;
      result = result;
      body = body;
    })) ≡ block_unwritten body
unfolding block_unwritten closure_unwritten
closure_unwritten-roll at mark captures params result body =
    ap (λ body. body.inside)
    (equations.fold_closure-roll unwritten_steps at mark captures params result body)

-- a task's own parameters, and what no text writes in its body
pub expr_unwritten-Spawn : (at : ℕ) (detached : Bool) (body : Closure)
    → expr_unwritten (exprs.Spawn at detached body)
    ≡ map (λ param. param.name.at) (out-Closure body).params ++ closure_unwritten body
unfolding closure_unwritten expr_unwritten
expr_unwritten-Spawn at detached body =
    equations.fold_expr-Spawn unwritten_steps at detached body
    ∙ ap (λ it. it.params ++ (fold_closure unwritten_steps body).inside)
    (equations.fold_closure-out unwritten_steps body)

pub expr_unwritten-Yield : (at : ℕ) → expr_unwritten (exprs.Yield at) ≡ []
unfolding expr_unwritten
expr_unwritten-Yield at = equations.fold_expr-Yield unwritten_steps at

pub stmt_unwritten-Bind : (mutable : Bool) (name : Name) (ty : Option TypeTree) (value : Expr)
    → stmt_unwritten (stmts.Bind mutable name ty value) ≡ expr_unwritten value
unfolding expr_unwritten stmt_unwritten
stmt_unwritten-Bind mutable name ty value =
    equations.fold_stmt-Bind unwritten_steps mutable name ty value

pub stmt_unwritten-Assign : (at : ℕ) (op : AssignOp) (place value : Expr)
    → stmt_unwritten (stmts.Assign at op place value) ≡ expr_unwritten place ++ expr_unwritten value
unfolding expr_unwritten stmt_unwritten
stmt_unwritten-Assign at op place value =
    equations.fold_stmt-Assign unwritten_steps at op place value

pub stmt_unwritten-Discard : (at : ℕ) (value : Expr)
    → stmt_unwritten (stmts.Discard at value) ≡ expr_unwritten value
unfolding expr_unwritten stmt_unwritten
stmt_unwritten-Discard at value = equations.fold_stmt-Discard unwritten_steps at value

pub stmt_unwritten-If : (arms : List IfArm) (otherwise : Option Block)
    → stmt_unwritten (stmts.If arms otherwise)
    ≡ joined (map if_arm_unwritten arms) ++ unwrap_or (option_map block_unwritten otherwise) []
unfolding block_unwritten if_arm_unwritten stmt_unwritten
stmt_unwritten-If arms otherwise = equations.fold_stmt-If unwritten_steps arms otherwise

pub stmt_unwritten-While : (at : ℕ) (cond : Expr) (body : Block)
    → stmt_unwritten (stmts.While at cond body) ≡ expr_unwritten cond ++ block_unwritten body
unfolding block_unwritten expr_unwritten stmt_unwritten
stmt_unwritten-While at cond body = equations.fold_stmt-While unwritten_steps at cond body

pub stmt_unwritten-Switch : (at : ℕ) (subject : Expr) (arms : List CaseArm)
    (otherwise : Option Block)
    → stmt_unwritten (stmts.Switch at subject arms otherwise)
    ≡ expr_unwritten subject ++ joined (map case_arm_unwritten arms)
    ++ unwrap_or (option_map block_unwritten otherwise) []
unfolding block_unwritten case_arm_unwritten expr_unwritten stmt_unwritten
stmt_unwritten-Switch at subject arms otherwise =
    equations.fold_stmt-Switch unwritten_steps at subject arms otherwise

pub stmt_unwritten-Return : (at : ℕ) (value : Option Expr)
    → stmt_unwritten (stmts.Return at value) ≡ unwrap_or (option_map expr_unwritten value) []
unfolding expr_unwritten stmt_unwritten
stmt_unwritten-Return at value = equations.fold_stmt-Return unwritten_steps at value

pub stmt_unwritten-Break : (at : ℕ) → stmt_unwritten (stmts.Break at) ≡ []
unfolding stmt_unwritten
stmt_unwritten-Break at = equations.fold_stmt-Break unwritten_steps at

pub stmt_unwritten-Continue : (at : ℕ) → stmt_unwritten (stmts.Continue at) ≡ []
unfolding stmt_unwritten
stmt_unwritten-Continue at = equations.fold_stmt-Continue unwritten_steps at

pub stmt_unwritten-Plain : (value : Expr)
    → stmt_unwritten (stmts.Plain value) ≡ expr_unwritten value
unfolding expr_unwritten stmt_unwritten
stmt_unwritten-Plain value = equations.fold_stmt-Plain unwritten_steps value

pub arg_unwritten-roll : (label : Option Name) (value : Expr)
    → arg_unwritten (roll-Arg (record { label = label; value = value })) ≡ expr_unwritten value
unfolding arg_unwritten expr_unwritten
arg_unwritten-roll label value = equations.fold_arg-roll unwritten_steps label value

pub link_unwritten-roll : (op : InfixOp) (at : ℕ) (operand : Expr)
    → link_unwritten (roll-Link (record { op = op; at = at; operand = operand }))
    ≡ expr_unwritten operand
unfolding expr_unwritten link_unwritten
link_unwritten-roll op at operand = equations.fold_link-roll unwritten_steps op at operand

pub block_unwritten-roll : (stmts : List Stmt)
    → block_unwritten (roll-Block (record { stmts = stmts })) ≡ joined (map stmt_unwritten stmts)
unfolding block_unwritten stmt_unwritten
block_unwritten-roll stmts = equations.fold_block-roll unwritten_steps stmts

pub case_arm_unwritten-roll : (name : Name) (patterns : List Pattern) (body : Block)
    → case_arm_unwritten (roll-CaseArm (record { name = name; patterns = patterns; body = body }))
    ≡ block_unwritten body
unfolding block_unwritten case_arm_unwritten
case_arm_unwritten-roll name patterns body =
    equations.fold_case_arm-roll unwritten_steps name patterns body

pub if_arm_unwritten-roll : (at : ℕ) (cond : Expr) (body : Block)
    → if_arm_unwritten (roll-IfArm (record { at = at; cond = cond; body = body }))
    ≡ expr_unwritten cond ++ block_unwritten body
unfolding block_unwritten expr_unwritten if_arm_unwritten
if_arm_unwritten-roll at cond body = equations.fold_if_arm-roll unwritten_steps at cond body
