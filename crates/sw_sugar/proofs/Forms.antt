-- What a tree after `async let` is, by what its parts are.
use Rattle.std.proofs.Common.{◌≡◌, ◌∙◌, ℕ, ℤ, Bool, List, map, Option, option_map}
use Rattle.sw_tree.proofs.FoldEquations as eq
use Rattle.sw_tree.specs.declared.expr.Arg.{Arg, roll-Arg, out-Arg}
use Rattle.sw_tree.specs.declared.expr.Closure.{Closure, roll-Closure, out-Closure}
use Rattle.sw_tree.specs.declared.expr.Expr.{Expr}
use Rattle.sw_tree.specs.declared.expr.Expr.TheVariants as exprs
use Rattle.sw_tree.specs.declared.expr.Link.{Link, roll-Link, out-Link}
use Rattle.sw_tree.specs.declared.name.Name.{Name}
use Rattle.sw_tree.specs.declared.operator.AssignOp.{AssignOp}
use Rattle.sw_tree.specs.declared.operator.PrefixOp.{PrefixOp}
use Rattle.sw_tree.specs.declared.stmt.Block.{Block, roll-Block, out-Block}
use Rattle.sw_tree.specs.declared.stmt.CaseArm.{CaseArm, roll-CaseArm, out-CaseArm}
use Rattle.sw_tree.specs.declared.stmt.IfArm.{IfArm, roll-IfArm, out-IfArm}
use Rattle.sw_tree.specs.declared.stmt.Stmt.TheVariants as stmts
use Rattle.sw_tree.specs.declared.type_tree.TypeTree.{TypeTree}
use Rattle.sw_sugar.specs.Rewritten.{awaiting, rewriting, rewritten}
use Rattle.sw_sugar.specs.Rewritten.{rewritten_arg, rewritten_block, rewritten_case_arm}
use Rattle.sw_sugar.specs.Rewritten.{rewritten_closure, rewritten_expr, rewritten_if_arm}
use Rattle.sw_sugar.specs.Rewritten.{rewritten_link}

module _ (word : ℕ) where
  pub int_is : (at : ℕ) (value : ℤ)
      → rewritten_expr word (exprs.Int at value) ≡ exprs.Int at value
  unfolding rewritten_expr
  int_is at value = eq.fold_expr-Int (rewriting word) at value

  pub bool_is : (at : ℕ) (value : Bool)
      → rewritten_expr word (exprs.Bool at value) ≡ exprs.Bool at value
  unfolding rewritten_expr
  bool_is at value = eq.fold_expr-Bool (rewriting word) at value

  pub use_is : (name : Name)
      → rewritten_expr word (exprs.Use name) ≡ exprs.Use name
  unfolding rewritten_expr
  use_is name = eq.fold_expr-Use (rewriting word) name

  pub me_is : (at : ℕ)
      → rewritten_expr word (exprs.Me at) ≡ exprs.Me at
  unfolding rewritten_expr
  me_is at = eq.fold_expr-Me (rewriting word) at

  pub member_is : (base : Expr) (name : Name)
      → rewritten_expr word (exprs.Member base name) ≡ exprs.Member (rewritten_expr word base) name
  unfolding rewritten_expr
  member_is base name = eq.fold_expr-Member (rewriting word) base name

  pub call_is : (name : Name) (args : List Arg)
      → rewritten_expr word (exprs.Call name args) ≡ exprs.Call name (map (rewritten_arg word) args)
  unfolding rewritten_expr rewritten_arg
  call_is name args = eq.fold_expr-Call (rewriting word) name args

  pub method_is : (base : Expr) (name : Name) (args : List Arg)
      → rewritten_expr word (exprs.Method base name args) ≡ exprs.Method (rewritten_expr word base) name (map (rewritten_arg word) args)
  unfolding rewritten_expr rewritten_arg
  method_is base name args = eq.fold_expr-Method (rewriting word) base name args

  pub chain_is : (first : Expr) (rest : List Link)
      → rewritten_expr word (exprs.Chain first rest) ≡ exprs.Chain (rewritten_expr word first) (map (rewritten_link word) rest)
  unfolding rewritten_expr rewritten_link
  chain_is first rest = eq.fold_expr-Chain (rewriting word) first rest

  pub prefix_is : (op : PrefixOp) (at : ℕ) (inner : Expr)
      → rewritten_expr word (exprs.Prefix op at inner) ≡ exprs.Prefix op at (rewritten_expr word inner)
  unfolding rewritten_expr
  prefix_is op at inner = eq.fold_expr-Prefix (rewriting word) op at inner

  pub await_is : (at : ℕ) (inner : Expr)
      → rewritten_expr word (exprs.Await at inner) ≡ awaiting word at (rewritten_expr word inner)
  unfolding rewritten_expr
  await_is at inner = eq.fold_expr-Await (rewriting word) at inner

  pub fun_is : (closure : Closure)
      → rewritten_expr word (exprs.Fun closure) ≡ exprs.Fun (rewritten_closure word closure)
  unfolding rewritten_expr rewritten_closure
  fun_is closure = eq.fold_expr-Fun (rewriting word) closure

  pub spawn_is : (at : ℕ) (detached : Bool) (body : Closure)
      → rewritten_expr word (exprs.Spawn at detached body) ≡ exprs.Spawn at detached (rewritten_closure word body)
  unfolding rewritten_expr rewritten_closure
  spawn_is at detached body = eq.fold_expr-Spawn (rewriting word) at detached body

  pub yield_is : (at : ℕ)
      → rewritten_expr word (exprs.Yield at) ≡ exprs.Yield at
  unfolding rewritten_expr
  yield_is at = eq.fold_expr-Yield (rewriting word) at

  pub bind_is : (mutable : Bool) (name : Name) (ty : Option TypeTree) (value : Expr)
      → rewritten word (stmts.Bind mutable name ty value)
      ≡ stmts.Bind mutable name ty (rewritten_expr word value)
  unfolding rewritten rewritten_expr
  bind_is mutable name ty value = eq.fold_stmt-Bind (rewriting word) mutable name ty value
      ∙ stmts.rolls-Bind mutable name ty (rewritten_expr word value)

  pub assign_is : (at : ℕ) (op : AssignOp) (place value : Expr)
      → rewritten word (stmts.Assign at op place value)
      ≡ stmts.Assign at op (rewritten_expr word place) (rewritten_expr word value)
  unfolding rewritten rewritten_expr
  assign_is at op place value = eq.fold_stmt-Assign (rewriting word) at op place value
      ∙ stmts.rolls-Assign at op (rewritten_expr word place) (rewritten_expr word value)

  pub discard_is : (at : ℕ) (value : Expr)
      → rewritten word (stmts.Discard at value)
      ≡ stmts.Discard at (rewritten_expr word value)
  unfolding rewritten rewritten_expr
  discard_is at value = eq.fold_stmt-Discard (rewriting word) at value
      ∙ stmts.rolls-Discard at (rewritten_expr word value)

  pub if_is : (arms : List IfArm) (otherwise : Option Block)
      → rewritten word (stmts.If arms otherwise)
      ≡ stmts.If (map (rewritten_if_arm word) arms) (option_map (rewritten_block word) otherwise)
  unfolding rewritten rewritten_if_arm rewritten_block
  if_is arms otherwise = eq.fold_stmt-If (rewriting word) arms otherwise
      ∙ stmts.rolls-If (map (rewritten_if_arm word) arms) (option_map (rewritten_block word) otherwise)

  pub while_is : (at : ℕ) (cond : Expr) (body : Block)
      → rewritten word (stmts.While at cond body)
      ≡ stmts.While at (rewritten_expr word cond) (rewritten_block word body)
  unfolding rewritten rewritten_expr rewritten_block
  while_is at cond body = eq.fold_stmt-While (rewriting word) at cond body
      ∙ stmts.rolls-While at (rewritten_expr word cond) (rewritten_block word body)

  pub switch_is : (at : ℕ) (subject : Expr) (arms : List CaseArm) (otherwise : Option Block)
      → rewritten word (stmts.Switch at subject arms otherwise)
      ≡ stmts.Switch at (rewritten_expr word subject) (map (rewritten_case_arm word) arms)
      (option_map (rewritten_block word) otherwise)
  unfolding rewritten rewritten_expr rewritten_case_arm rewritten_block
  switch_is at subject arms otherwise =
      eq.fold_stmt-Switch (rewriting word) at subject arms otherwise
      ∙ stmts.rolls-Switch at (rewritten_expr word subject) (map (rewritten_case_arm word) arms) (option_map (rewritten_block word) otherwise)

  pub return_is : (at : ℕ) (value : Option Expr)
      → rewritten word (stmts.Return at value) ≡ stmts.Return at (option_map (rewritten_expr word) value)
  unfolding rewritten rewritten_expr
  return_is at value = eq.fold_stmt-Return (rewriting word) at value
      ∙ stmts.rolls-Return at (option_map (rewritten_expr word) value)

  pub break_is : (at : ℕ) → rewritten word (stmts.Break at) ≡ stmts.Break at
  unfolding rewritten
  break_is at = eq.fold_stmt-Break (rewriting word) at
      ∙ stmts.rolls-Break at

  pub continue_is : (at : ℕ) → rewritten word (stmts.Continue at) ≡ stmts.Continue at
  unfolding rewritten
  continue_is at = eq.fold_stmt-Continue (rewriting word) at
      ∙ stmts.rolls-Continue at

  pub plain_is : (value : Expr)
      → rewritten word (stmts.Plain value) ≡ stmts.Plain (rewritten_expr word value)
  unfolding rewritten rewritten_expr
  plain_is value = eq.fold_stmt-Plain (rewriting word) value
      ∙ stmts.rolls-Plain (rewritten_expr word value)

  pub arg_is : (arg : Arg)
      → rewritten_arg word arg
      ≡ roll-Arg (record {
        label = (out-Arg arg).label;
        value = rewritten_expr word (out-Arg arg).value;
      })
  unfolding rewritten_arg rewritten_expr
  arg_is arg = eq.fold_arg-out (rewriting word) arg

  pub closure_is : (closure : Closure)
      → rewritten_closure word closure
      ≡ roll-Closure (record {
        at = (out-Closure closure).at;
        mark = (out-Closure closure).mark;
        captures = (out-Closure closure).captures;
        params = (out-Closure closure).params;
        result = (out-Closure closure).result;
        body = rewritten_block word (out-Closure closure).body;
      })
  unfolding rewritten_closure rewritten_block
  closure_is closure = eq.fold_closure-out (rewriting word) closure

  pub link_is : (link : Link)
      → rewritten_link word link
      ≡ roll-Link (record {
        op = (out-Link link).op;
        at = (out-Link link).at;
        operand = rewritten_expr word (out-Link link).operand;
      })
  unfolding rewritten_link rewritten_expr
  link_is link = eq.fold_link-out (rewriting word) link

  pub block_is : (block : Block)
      → rewritten_block word block
      ≡ roll-Block (record { stmts = map (rewritten word) (out-Block block).stmts })
  unfolding rewritten_block rewritten
  block_is block = eq.fold_block-out (rewriting word) block

  pub case_arm_is : (arm : CaseArm)
      → rewritten_case_arm word arm
      ≡ roll-CaseArm (record {
        name = (out-CaseArm arm).name;
        patterns = (out-CaseArm arm).patterns;
        body = rewritten_block word (out-CaseArm arm).body;
      })
  unfolding rewritten_case_arm rewritten_block
  case_arm_is arm = eq.fold_case_arm-out (rewriting word) arm

  pub if_arm_is : (arm : IfArm)
      → rewritten_if_arm word arm
      ≡ roll-IfArm (record {
        at = (out-IfArm arm).at;
        cond = rewritten_expr word (out-IfArm arm).cond;
        body = rewritten_block word (out-IfArm arm).body;
      })
  unfolding rewritten_if_arm rewritten_expr rewritten_block
  if_arm_is arm = eq.fold_if_arm-out (rewriting word) arm

pub ruleset forms = (
  int_is,
  bool_is,
  use_is,
  me_is,
  member_is,
  call_is,
  method_is,
  chain_is,
  prefix_is,
  await_is,
  fun_is,
  spawn_is,
  yield_is,
  bind_is,
  assign_is,
  discard_is,
  if_is,
  while_is,
  switch_is,
  return_is,
  break_is,
  continue_is,
  plain_is,
  arg_is,
  closure_is,
  link_is,
  block_is,
  case_arm_is,
  if_arm_is,
)
