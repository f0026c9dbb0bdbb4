-- The scopes of each form of node.
use Rattle.std.proofs.Common.{◌≡◌, ℕ, Bool, List, [], map, flat_map, Option, Some, option_map, ap}
use Rattle.sw_tree.specs.Folds.{fold_arg, fold_case_arm, fold_closure, fold_if_arm, fold_link}
use Rattle.sw_tree.specs.Folds.{fold_stmt}
use Rattle.sw_tree.specs.declared.expr.Arg.{Arg, roll-Arg}
use Rattle.sw_tree.specs.declared.expr.Closure.{Closure}
use Rattle.sw_tree.specs.declared.expr.ClosureParam.{ClosureParam}
use Rattle.sw_tree.specs.declared.expr.Expr.{Expr}
use Rattle.sw_tree.specs.declared.expr.Expr.TheVariants as exprs
use Rattle.sw_tree.specs.declared.expr.Link.{Link, roll-Link}
use Rattle.sw_tree.specs.declared.name.Name.{Name}
use Rattle.sw_tree.specs.declared.operator.AssignOp.{AssignOp}
use Rattle.sw_tree.specs.declared.operator.InfixOp.{InfixOp}
use Rattle.sw_tree.specs.declared.operator.PrefixOp.{PrefixOp}
use Rattle.sw_tree.specs.declared.stmt.Block.{Block, roll-Block}
use Rattle.sw_tree.specs.declared.stmt.CaseArm.{CaseArm, roll-CaseArm}
use Rattle.sw_tree.specs.declared.stmt.IfArm.{IfArm, roll-IfArm}
use Rattle.sw_tree.specs.declared.stmt.Pattern.{Pattern}
use Rattle.sw_tree.specs.declared.stmt.Stmt.{Stmt}
use Rattle.sw_tree.specs.declared.stmt.Stmt.TheVariants as stmts
use Rattle.sw_tree.specs.declared.type_tree.TypeTree.{TypeTree}
use Rattle.sw_tree.proofs.FoldEquations as eq
use Rattle.sw_typing_rules.specs.Judges.{closure_of}
use Rattle.sw_tree.specs.Scopes.{Scoped, Stated, block_scoped, both, declaring, each}
use Rattle.sw_tree.specs.Scopes.{expr_scoped, maybe, pattern_names, scope_steps}
use Rattle.sw_tree.specs.Scopes.{sequence, using}
use Rattle.sw_lower_total_facts.proofs.Mentions.Closures.{enclosing}

-- a statement, with the variables that it declares
abbrev pub stmt_stated : Stmt → Stated
stmt_stated = fold_stmt scope_steps

-- and alone
abbrev pub stmt_scoped : Stmt → Scoped
stmt_scoped stmt = (stmt_stated stmt).inside

abbrev pub arg_scoped : Arg → Scoped
arg_scoped = fold_arg scope_steps

abbrev pub link_scoped : Link → Scoped
link_scoped = fold_link scope_steps

abbrev pub closure_scoped : Closure → Scoped
closure_scoped = fold_closure scope_steps

abbrev pub if_arm_scoped : IfArm → Scoped
if_arm_scoped = fold_if_arm scope_steps

abbrev pub case_arm_scoped : CaseArm → Scoped
case_arm_scoped = fold_case_arm scope_steps

abbrev pub otherwise_scoped : Option Block → Scoped
otherwise_scoped otherwise = maybe (option_map block_scoped otherwise)

-- the names of patterns
abbrev pub patterns_names : List Pattern → List Name
patterns_names patterns = flat_map pattern_names patterns

-- statements after each other
abbrev pub all_scoped : List Stmt → Scoped
all_scoped list = sequence (map stmt_stated list)

pub scoped-Member : (base : Expr) (name : Name)
    → expr_scoped (exprs.Member base name) ≡ expr_scoped base
unfolding expr_scoped
scoped-Member base name = eq.fold_expr-Member scope_steps base name

pub scoped-Call : (name : Name) (args : List Arg)
    → expr_scoped (exprs.Call name args) ≡ both (using name) (each (map arg_scoped args))
unfolding expr_scoped
scoped-Call name args = eq.fold_expr-Call scope_steps name args

pub scoped-Method : (base : Expr) (name : Name) (args : List Arg)
    → expr_scoped (exprs.Method base name args)
    ≡ both (expr_scoped base) (each (map arg_scoped args))
unfolding expr_scoped
scoped-Method base name args = eq.fold_expr-Method scope_steps base name args

pub scoped-Chain : (first : Expr) (rest : List Link)
    → expr_scoped (exprs.Chain first rest)
    ≡ both (expr_scoped first) (each (map link_scoped rest))
unfolding expr_scoped
scoped-Chain first rest = eq.fold_expr-Chain scope_steps first rest

pub scoped-Prefix : (op : PrefixOp) (at : ℕ) (inner : Expr)
    → expr_scoped (exprs.Prefix op at inner) ≡ expr_scoped inner
unfolding expr_scoped
scoped-Prefix op at inner = eq.fold_expr-Prefix scope_steps op at inner

pub scoped-Await : (at : ℕ) (inner : Expr)
    → expr_scoped (exprs.Await at inner) ≡ expr_scoped inner
unfolding expr_scoped
scoped-Await at inner = eq.fold_expr-Await scope_steps at inner

pub scoped-Fun : (closure : Closure) → expr_scoped (exprs.Fun closure) ≡ closure_scoped closure
unfolding expr_scoped
scoped-Fun closure = eq.fold_expr-Fun scope_steps closure

pub scoped-Spawn : (at : ℕ) (detached : Bool) (body : Closure)
    → expr_scoped (exprs.Spawn at detached body) ≡ closure_scoped body
unfolding expr_scoped
scoped-Spawn at detached body = eq.fold_expr-Spawn scope_steps at detached body

pub scoped-closure : (at : ℕ) (mark : Option Name) (captures : List Name)
    (params : List ClosureParam) (result : Option TypeTree) (body : Block)
    → closure_scoped (closure_of at mark captures params result body)
    ≡ enclosing at captures params (block_scoped body)
unfolding block_scoped
scoped-closure at mark captures params result body =
    eq.fold_closure-roll scope_steps at mark captures params result body

pub scoped-arg : (label : Option Name) (value : Expr)
    → arg_scoped (roll-Arg (record { label = label; value = value })) ≡ expr_scoped value
unfolding expr_scoped
scoped-arg label value = eq.fold_arg-roll scope_steps label value

pub scoped-link : (op : InfixOp) (at : ℕ) (operand : Expr)
    → link_scoped (roll-Link (record { op = op; at = at; operand = operand }))
    ≡ expr_scoped operand
unfolding expr_scoped
scoped-link op at operand = eq.fold_link-roll scope_steps op at operand

-- a statement alone, by what it is with its variables
inside_of : (one other : Stated) → one ≡ other → one.inside ≡ other.inside
inside_of one other same = ap (λ (stated : Stated). stated.inside) same

pub scoped-Bind : (mutable : Bool) (name : Name) (ty : Option TypeTree) (value : Expr)
    → stmt_scoped (stmts.Bind mutable name ty value) ≡ expr_scoped value
unfolding expr_scoped
scoped-Bind mutable name ty value =
    inside_of _ _ (eq.fold_stmt-Bind scope_steps mutable name ty value)

pub scoped-Assign : (at : ℕ) (op : AssignOp) (place value : Expr)
    → stmt_scoped (stmts.Assign at op place value) ≡ both (expr_scoped place) (expr_scoped value)
unfolding expr_scoped
scoped-Assign at op place value =
    inside_of _ _ (eq.fold_stmt-Assign scope_steps at op place value)

pub scoped-Discard : (at : ℕ) (value : Expr)
    → stmt_scoped (stmts.Discard at value) ≡ expr_scoped value
unfolding expr_scoped
scoped-Discard at value = inside_of _ _ (eq.fold_stmt-Discard scope_steps at value)

pub scoped-If : (arms : List IfArm) (otherwise : Option Block)
    → stmt_scoped (stmts.If arms otherwise)
    ≡ both (each (map if_arm_scoped arms)) (otherwise_scoped otherwise)
unfolding block_scoped
scoped-If arms otherwise = inside_of _ _ (eq.fold_stmt-If scope_steps arms otherwise)

pub scoped-While : (at : ℕ) (cond : Expr) (body : Block)
    → stmt_scoped (stmts.While at cond body) ≡ both (expr_scoped cond) (block_scoped body)
unfolding expr_scoped block_scoped
scoped-While at cond body = inside_of _ _ (eq.fold_stmt-While scope_steps at cond body)

pub scoped-Switch : (at : ℕ) (subject : Expr) (arms : List CaseArm) (otherwise : Option Block)
    → stmt_scoped (stmts.Switch at subject arms otherwise)
    ≡ both (both (expr_scoped subject) (each (map case_arm_scoped arms)))
    (otherwise_scoped otherwise)
unfolding expr_scoped block_scoped
scoped-Switch at subject arms otherwise =
    inside_of _ _ (eq.fold_stmt-Switch scope_steps at subject arms otherwise)

pub scoped-Return : (at : ℕ) (value : Expr)
    → stmt_scoped (stmts.Return at (Some value)) ≡ expr_scoped value
unfolding expr_scoped
scoped-Return at value = inside_of _ _ (eq.fold_stmt-Return scope_steps at (Some value))

pub scoped-Plain : (value : Expr) → stmt_scoped (stmts.Plain value) ≡ expr_scoped value
unfolding expr_scoped
scoped-Plain value = inside_of _ _ (eq.fold_stmt-Plain scope_steps value)

pub scoped-block : (stmts : List Stmt)
    → block_scoped (roll-Block (record { stmts = stmts })) ≡ all_scoped stmts
unfolding block_scoped
scoped-block stmts = eq.fold_block-roll scope_steps stmts

pub scoped-if_arm : (at : ℕ) (cond : Expr) (body : Block)
    → if_arm_scoped (roll-IfArm (record { at = at; cond = cond; body = body }))
    ≡ both (expr_scoped cond) (block_scoped body)
unfolding expr_scoped block_scoped
scoped-if_arm at cond body = eq.fold_if_arm-roll scope_steps at cond body

pub scoped-case_arm : (name : Name) (patterns : List Pattern) (body : Block)
    → case_arm_scoped (roll-CaseArm (record { name = name; patterns = patterns; body = body }))
    ≡ declaring (patterns_names patterns) [] (block_scoped body)
unfolding block_scoped
scoped-case_arm name patterns body = eq.fold_case_arm-roll scope_steps name patterns body
