-- The parts of trees: what stands right in each form of a tree, and what stands in it at any depth.
-- What is asked of the forms of tasks and chains that stand in a tree.
use Rattle.std.specs.Prelude.{◌≡◌, ◌≢◌, ℕ, Bool, List, [], Contains, Option, Some}
use Rattle.sw_tree.specs.declared.decl.CaseTree.{CaseTree}
use Rattle.sw_tree.specs.declared.decl.Decl.{Decl}
use Rattle.sw_tree.specs.declared.decl.Decl.TheVariants as decls
use Rattle.sw_tree.specs.declared.decl.FuncTree.{FuncTree}
use Rattle.sw_tree.specs.declared.decl.InitTree.{InitTree}
use Rattle.sw_tree.specs.declared.decl.PropTree.{PropTree}
use Rattle.sw_tree.specs.declared.decl.Written.{Written}
use Rattle.sw_tree.specs.declared.expr.Arg.{Arg, roll-Arg}
use Rattle.sw_tree.specs.declared.expr.Closure.{Closure, roll-Closure, out-Closure}
use Rattle.sw_tree.specs.declared.expr.ClosureParam.{ClosureParam}
use Rattle.sw_tree.specs.declared.expr.Expr.{Expr}
use Rattle.sw_tree.specs.declared.expr.Expr.TheVariants as exprs
use Rattle.sw_tree.specs.declared.expr.Link.{Link, roll-Link}
use Rattle.sw_tree.specs.declared.name.Name.{Name}
use Rattle.sw_tree.specs.declared.operator.AssignOp.{AssignOp}
use Rattle.sw_tree.specs.declared.operator.InfixOp.{InfixOp}
use Rattle.sw_tree.specs.declared.operator.PrefixOp.{PrefixOp}
use Rattle.sw_tree.specs.declared.stmt.Block.{Block, roll-Block}
use Rattle.sw_tree.specs.declared.stmt.CaseArm.{CaseArm, roll-CaseArm}
use Rattle.sw_tree.specs.declared.stmt.IfArm.{IfArm, roll-IfArm}
use Rattle.sw_tree.specs.declared.stmt.Pattern.{Pattern}
use Rattle.sw_tree.specs.declared.stmt.Stmt.{Stmt}
use Rattle.sw_tree.specs.declared.stmt.Stmt.TheVariants as stmts
use Rattle.sw_tree.specs.declared.type_tree.TypeTree.{TypeTree}

-- a tree, or a part of one
pub data Tree : Type 0 where
  of_expr : Expr → Tree
  of_stmt : Stmt → Tree
  of_arg : Arg → Tree
  of_closure : Closure → Tree
  of_link : Link → Tree
  of_block : Block → Tree
  of_case_arm : CaseArm → Tree
  of_if_arm : IfArm → Tree
  of_prop : PropTree → Tree
  of_func : FuncTree → Tree
  of_init : InitTree → Tree
  of_decl : Decl → Tree
  of_decls : List Decl → Tree

-- The first tree stands right in the second.
pub data IsPart : Tree → Tree → Type 0 where
  member_base : (base : Expr) (name : Name)
      → IsPart (of_expr base) (of_expr (exprs.Member base name))
  call_arg : (name : Name) (args : List Arg) (one : Arg) → Contains args one
      → IsPart (of_arg one) (of_expr (exprs.Call name args))
  method_base : (base : Expr) (name : Name) (args : List Arg)
      → IsPart (of_expr base) (of_expr (exprs.Method base name args))
  method_arg : (base : Expr) (name : Name) (args : List Arg) (one : Arg) → Contains args one
      → IsPart (of_arg one) (of_expr (exprs.Method base name args))
  chain_first : (first : Expr) (rest : List Link)
      → IsPart (of_expr first) (of_expr (exprs.Chain first rest))
  chain_link : (first : Expr) (rest : List Link) (one : Link) → Contains rest one
      → IsPart (of_link one) (of_expr (exprs.Chain first rest))
  prefix_inner : (op : PrefixOp) (at : ℕ) (inner : Expr)
      → IsPart (of_expr inner) (of_expr (exprs.Prefix op at inner))
  await_inner : (at : ℕ) (inner : Expr)
      → IsPart (of_expr inner) (of_expr (exprs.Await at inner))
  fun_closure : (closure : Closure) → IsPart (of_closure closure) (of_expr (exprs.Fun closure))
  spawn_body : (at : ℕ) (detached : Bool) (body : Closure)
      → IsPart (of_closure body) (of_expr (exprs.Spawn at detached body))
  bind_value : (mutable : Bool) (name : Name) (ty : Option TypeTree) (value : Expr)
      → IsPart (of_expr value) (of_stmt (stmts.Bind mutable name ty value))
  assign_place : (at : ℕ) (op : AssignOp) (place value : Expr)
      → IsPart (of_expr place) (of_stmt (stmts.Assign at op place value))
  assign_value : (at : ℕ) (op : AssignOp) (place value : Expr)
      → IsPart (of_expr value) (of_stmt (stmts.Assign at op place value))
  discard_value : (at : ℕ) (value : Expr)
      → IsPart (of_expr value) (of_stmt (stmts.Discard at value))
  if_one : (arms : List IfArm) (otherwise : Option Block) (one : IfArm) → Contains arms one
      → IsPart (of_if_arm one) (of_stmt (stmts.If arms otherwise))
  if_otherwise : (arms : List IfArm) (otherwise : Block)
      → IsPart (of_block otherwise) (of_stmt (stmts.If arms (Some otherwise)))
  while_cond : (at : ℕ) (cond : Expr) (body : Block)
      → IsPart (of_expr cond) (of_stmt (stmts.While at cond body))
  while_body : (at : ℕ) (cond : Expr) (body : Block)
      → IsPart (of_block body) (of_stmt (stmts.While at cond body))
  switch_subject : (at : ℕ) (subject : Expr) (arms : List CaseArm) (otherwise : Option Block)
      → IsPart (of_expr subject) (of_stmt (stmts.Switch at subject arms otherwise))
  switch_one : (at : ℕ) (subject : Expr) (arms : List CaseArm) (otherwise : Option Block)
      (one : CaseArm) → Contains arms one
      → IsPart (of_case_arm one) (of_stmt (stmts.Switch at subject arms otherwise))
  switch_otherwise : (at : ℕ) (subject : Expr) (arms : List CaseArm) (otherwise : Block)
      → IsPart (of_block otherwise) (of_stmt (stmts.Switch at subject arms (Some otherwise)))
  return_value : (at : ℕ) (value : Expr)
      → IsPart (of_expr value) (of_stmt (stmts.Return at (Some value)))
  plain_value : (value : Expr) → IsPart (of_expr value) (of_stmt (stmts.Plain value))
  arg_value : (label : Option Name) (value : Expr)
      → IsPart (of_expr value) (of_arg (roll-Arg (record { label = label; value = value })))
  closure_body : (at : ℕ) (mark : Option Name) (captures : List Name) (params : List ClosureParam)
      (result : Option TypeTree) (body : Block)
      → IsPart (of_block body) (of_closure (roll-Closure (record {
        at = at;
        mark = mark;
        captures = captures;
        params = params;
        result = result;
        body = body;
      })))
  link_operand : (op : InfixOp) (at : ℕ) (operand : Expr)
      → IsPart (of_expr operand)
      (of_link (roll-Link (record { op = op; at = at; operand = operand })))
  block_stmt : (stmts : List Stmt) (one : Stmt) → Contains stmts one
      → IsPart (of_stmt one) (of_block (roll-Block (record { stmts = stmts })))
  case_arm_body : (name : Name) (patterns : List Pattern) (body : Block)
      → IsPart (of_block body)
      (of_case_arm (roll-CaseArm (record { name = name; patterns = patterns; body = body })))
  if_arm_cond : (at : ℕ) (cond : Expr) (body : Block)
      → IsPart (of_expr cond)
      (of_if_arm (roll-IfArm (record { at = at; cond = cond; body = body })))
  if_arm_body : (at : ℕ) (cond : Expr) (body : Block)
      → IsPart (of_block body)
      (of_if_arm (roll-IfArm (record { at = at; cond = cond; body = body })))
  prop_value : (prop : PropTree) (value : Expr) → prop.value ≡ Some value
      → IsPart (of_expr value) (of_prop prop)
  func_body : (func : FuncTree) → IsPart (of_block func.body) (of_func func)
  init_body : (init : InitTree) → IsPart (of_block init.body) (of_init init)
  entry_body : (word : Name) (written : Written) (at : ℕ) (is_async : Bool) (body : Block)
      → IsPart (of_block body) (of_decl (decls.Entry word written at is_async body))
  struct_field : (word : Name) (conforms : Bool) (fields : List PropTree) (funcs : List FuncTree)
      (one : PropTree) → Contains fields one
      → IsPart (of_prop one) (of_decl (decls.Struct word conforms fields funcs))
  struct_func : (word : Name) (conforms : Bool) (fields : List PropTree) (funcs : List FuncTree)
      (one : FuncTree) → Contains funcs one
      → IsPart (of_func one) (of_decl (decls.Struct word conforms fields funcs))
  enum_func : (word : Name) (conforms : Bool) (cases : List CaseTree) (funcs : List FuncTree)
      (one : FuncTree) → Contains funcs one
      → IsPart (of_func one) (of_decl (decls.Enum word conforms cases funcs))
  class_prop : (written : Written) (word : Name) (conforms : Bool) (props : List PropTree)
      (inits : List InitTree) (funcs : List FuncTree) (one : PropTree) → Contains props one
      → IsPart (of_prop one) (of_decl (decls.Class written word conforms props inits funcs))
  class_init : (written : Written) (word : Name) (conforms : Bool) (props : List PropTree)
      (inits : List InitTree) (funcs : List FuncTree) (one : InitTree) → Contains inits one
      → IsPart (of_init one) (of_decl (decls.Class written word conforms props inits funcs))
  class_func : (written : Written) (word : Name) (conforms : Bool) (props : List PropTree)
      (inits : List InitTree) (funcs : List FuncTree) (one : FuncTree) → Contains funcs one
      → IsPart (of_func one) (of_decl (decls.Class written word conforms props inits funcs))
  actor_prop : (word : Name) (props : List PropTree) (inits : List InitTree)
      (funcs : List FuncTree) (one : PropTree) → Contains props one
      → IsPart (of_prop one) (of_decl (decls.Actor word props inits funcs))
  actor_init : (word : Name) (props : List PropTree) (inits : List InitTree)
      (funcs : List FuncTree) (one : InitTree) → Contains inits one
      → IsPart (of_init one) (of_decl (decls.Actor word props inits funcs))
  actor_func : (word : Name) (props : List PropTree) (inits : List InitTree)
      (funcs : List FuncTree) (one : FuncTree) → Contains funcs one
      → IsPart (of_func one) (of_decl (decls.Actor word props inits funcs))
  decl_func : (func : FuncTree) → IsPart (of_func func) (of_decl (decls.Func func))
  decl_global : (prop : PropTree) → IsPart (of_prop prop) (of_decl (decls.Global prop))
  one_decl : (all : List Decl) (one : Decl) → Contains all one
      → IsPart (of_decl one) (of_decls all)

-- The first tree is the second, or stands in it at some depth.
pub data StandsIn : Tree → Tree → Type 0 where
  itself : (tree : Tree) → StandsIn tree tree
  inside : (inner part whole : Tree) → StandsIn inner part → IsPart part whole
      → StandsIn inner whole

-- No body of a task in the tree has a parameter.
abbrev pub TasksTakeNothing : Tree → Type 0
TasksTakeNothing whole = (at : ℕ) (detached : Bool) (body : Closure)
    → StandsIn (of_expr (exprs.Spawn at detached body)) whole → (out-Closure body).params ≡ []

-- Each chain in the tree has an operator.
abbrev pub ChainsHaveOperators : Tree → Type 0
ChainsHaveOperators whole = (first : Expr) (rest : List Link)
    → StandsIn (of_expr (exprs.Chain first rest)) whole → rest ≢ []
