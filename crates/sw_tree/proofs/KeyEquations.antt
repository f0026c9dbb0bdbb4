-- The keys of each form of node and of declaration.
use Rattle.std.proofs.Common.{◌≡◌, ℕ, ℤ, Bool, List, [], ◌∷◌, ◌++◌, map, flat_map, Option}
use Rattle.std.proofs.Common.{option_map, unwrap_or, refl}
use Rattle.sw_tree.proofs.FoldEquations as equations
use Rattle.sw_tree.specs.Keys.{joined, key_steps, expr_keys, stmt_keys, arg_keys, closure_keys}
use Rattle.sw_tree.specs.Keys.{link_keys, block_keys, case_arm_keys, if_arm_keys, pattern_keys}
use Rattle.sw_tree.specs.Keys.{func_keys, prop_keys, init_keys, decl_keys}
use Rattle.sw_tree.specs.declared.expr.Arg.{Arg, roll-Arg}
use Rattle.sw_tree.specs.declared.expr.Closure.{Closure, roll-Closure}
use Rattle.sw_tree.specs.declared.expr.ClosureParam.{ClosureParam}
use Rattle.sw_tree.specs.declared.expr.Expr.{Expr}
use Rattle.sw_tree.specs.declared.expr.Expr.TheVariants as exprs
use Rattle.sw_tree.specs.declared.expr.Link.{Link, roll-Link}
use Rattle.sw_tree.specs.declared.name.Name.{Name}
use Rattle.sw_tree.specs.declared.operator.AssignOp.{AssignOp}
use Rattle.sw_tree.specs.declared.operator.InfixOp.{InfixOp}
use Rattle.sw_tree.specs.declared.operator.PrefixOp.{PrefixOp}
use Rattle.sw_tree.specs.declared.stmt.Block.{Block, roll-Block}
use Rattle.sw_tree.specs.declared.stmt.CaseArm.{CaseArm, roll-CaseArm}
use Rattle.sw_tree.specs.declared.stmt.IfArm.{IfArm, roll-IfArm}
use Rattle.sw_tree.specs.declared.stmt.Pattern.{Pattern}
use Rattle.sw_tree.specs.declared.stmt.Stmt.{Stmt}
use Rattle.sw_tree.specs.declared.stmt.Stmt.TheVariants as stmts
use Rattle.sw_tree.specs.declared.type_tree.TypeTree.{TypeTree}
use Rattle.sw_tree.specs.declared.decl.CaseTree.{CaseTree}
use Rattle.sw_tree.specs.declared.decl.Decl.TheVariants as decls
use Rattle.sw_tree.specs.declared.decl.FuncTree.{FuncTree}
use Rattle.sw_tree.specs.declared.decl.InitTree.{InitTree}
use Rattle.sw_tree.specs.declared.decl.PropTree.{PropTree}
use Rattle.sw_tree.specs.declared.decl.Written.{Written}

pub expr_keys-Int : (at : ℕ) (value : ℤ) → expr_keys (exprs.Int at value) ≡ at ∷ []
unfolding expr_keys
expr_keys-Int at value = equations.fold_expr-Int key_steps at value

pub expr_keys-Bool : (at : ℕ) (value : Bool) → expr_keys (exprs.Bool at value) ≡ at ∷ []
unfolding expr_keys
expr_keys-Bool at value = equations.fold_expr-Bool key_steps at value

pub expr_keys-Use : (name : Name) → expr_keys (exprs.Use name) ≡ name.at ∷ []
unfolding expr_keys
expr_keys-Use name = equations.fold_expr-Use key_steps name

pub expr_keys-Me : (at : ℕ) → expr_keys (exprs.Me at) ≡ at ∷ []
unfolding expr_keys
expr_keys-Me at = equations.fold_expr-Me key_steps at

pub expr_keys-Member : (base : Expr) (name : Name)
    → expr_keys (exprs.Member base name) ≡ name.at ∷ expr_keys base
unfolding expr_keys
expr_keys-Member base name = equations.fold_expr-Member key_steps base name

pub expr_keys-Call : (name : Name) (args : List Arg)
    → expr_keys (exprs.Call name args) ≡ name.at ∷ joined (map arg_keys args)
unfolding arg_keys expr_keys
expr_keys-Call name args = equations.fold_expr-Call key_steps name args

pub expr_keys-Method : (base : Expr) (name : Name) (args : List Arg)
    → expr_keys (exprs.Method base name args)
    ≡ name.at ∷ expr_keys base ++ joined (map arg_keys args)
unfolding arg_keys expr_keys
expr_keys-Method base name args = equations.fold_expr-Method key_steps base name args

pub expr_keys-Chain : (first : Expr) (rest : List Link)
    → expr_keys (exprs.Chain first rest) ≡ expr_keys first ++ joined (map link_keys rest)
unfolding expr_keys link_keys
expr_keys-Chain first rest = equations.fold_expr-Chain key_steps first rest

pub expr_keys-Prefix : (op : PrefixOp) (at : ℕ) (inner : Expr)
    → expr_keys (exprs.Prefix op at inner) ≡ at ∷ expr_keys inner
unfolding expr_keys
expr_keys-Prefix op at inner = equations.fold_expr-Prefix key_steps op at inner

pub expr_keys-Await : (at : ℕ) (inner : Expr)
    → expr_keys (exprs.Await at inner) ≡ at ∷ expr_keys inner
unfolding expr_keys
expr_keys-Await at inner = equations.fold_expr-Await key_steps at inner

pub expr_keys-Fun : (closure : Closure) → expr_keys (exprs.Fun closure) ≡ closure_keys closure
unfolding closure_keys expr_keys
expr_keys-Fun closure = equations.fold_expr-Fun key_steps closure

pub expr_keys-Spawn : (at : ℕ) (detached : Bool) (body : Closure)
    → expr_keys (exprs.Spawn at detached body) ≡ at ∷ closure_keys body
unfolding closure_keys expr_keys
expr_keys-Spawn at detached body = equations.fold_expr-Spawn key_steps at detached body

pub expr_keys-Yield : (at : ℕ) → expr_keys (exprs.Yield at) ≡ at ∷ []
unfolding expr_keys
expr_keys-Yield at = equations.fold_expr-Yield key_steps at

pub stmt_keys-Bind : (mutable : Bool) (name : Name) (ty : Option TypeTree) (value : Expr)
    → stmt_keys (stmts.Bind mutable name ty value) ≡ name.at ∷ expr_keys value
unfolding expr_keys stmt_keys
stmt_keys-Bind mutable name ty value = equations.fold_stmt-Bind key_steps mutable name ty value

pub stmt_keys-Assign : (at : ℕ) (op : AssignOp) (place value : Expr)
    → stmt_keys (stmts.Assign at op place value) ≡ at ∷ expr_keys place ++ expr_keys value
unfolding expr_keys stmt_keys
stmt_keys-Assign at op place value = equations.fold_stmt-Assign key_steps at op place value

pub stmt_keys-Discard : (at : ℕ) (value : Expr)
    → stmt_keys (stmts.Discard at value) ≡ at ∷ expr_keys value
unfolding expr_keys stmt_keys
stmt_keys-Discard at value = equations.fold_stmt-Discard key_steps at value

pub stmt_keys-If : (arms : List IfArm) (otherwise : Option Block)
    → stmt_keys (stmts.If arms otherwise)
    ≡ joined (map if_arm_keys arms) ++ unwrap_or (option_map block_keys otherwise) []
unfolding block_keys if_arm_keys stmt_keys
stmt_keys-If arms otherwise = equations.fold_stmt-If key_steps arms otherwise

pub stmt_keys-While : (at : ℕ) (cond : Expr) (body : Block)
    → stmt_keys (stmts.While at cond body) ≡ at ∷ expr_keys cond ++ block_keys body
unfolding block_keys expr_keys stmt_keys
stmt_keys-While at cond body = equations.fold_stmt-While key_steps at cond body

pub stmt_keys-Switch : (at : ℕ) (subject : Expr) (arms : List CaseArm) (otherwise : Option Block)
    → stmt_keys (stmts.Switch at subject arms otherwise)
    ≡ at ∷ expr_keys subject ++ joined (map case_arm_keys arms)
    ++ unwrap_or (option_map block_keys otherwise) []
unfolding block_keys case_arm_keys expr_keys stmt_keys
stmt_keys-Switch at subject arms otherwise =
    equations.fold_stmt-Switch key_steps at subject arms otherwise

pub stmt_keys-Return : (at : ℕ) (value : Option Expr)
    → stmt_keys (stmts.Return at value) ≡ at ∷ unwrap_or (option_map expr_keys value) []
unfolding expr_keys stmt_keys
stmt_keys-Return at value = equations.fold_stmt-Return key_steps at value

pub stmt_keys-Break : (at : ℕ) → stmt_keys (stmts.Break at) ≡ at ∷ []
unfolding stmt_keys
stmt_keys-Break at = equations.fold_stmt-Break key_steps at

pub stmt_keys-Continue : (at : ℕ) → stmt_keys (stmts.Continue at) ≡ at ∷ []
unfolding stmt_keys
stmt_keys-Continue at = equations.fold_stmt-Continue key_steps at

pub stmt_keys-Plain : (value : Expr) → stmt_keys (stmts.Plain value) ≡ expr_keys value
unfolding expr_keys stmt_keys
stmt_keys-Plain value = equations.fold_stmt-Plain key_steps value

pub arg_keys-roll : (label : Option Name) (value : Expr)
    → arg_keys (roll-Arg (record { label = label; value = value })) ≡ expr_keys value
unfolding arg_keys expr_keys
arg_keys-roll label value = equations.fold_arg-roll key_steps label value

pub closure_keys-roll : (at : ℕ) (mark : Option Name) (captures : List Name)
    (params : List ClosureParam) (result : Option TypeTree) (body : Block)
    → closure_keys (roll-Closure (record {
      at = at;
      mark = mark;
      captures = captures;
      params = params;
      result = result;
      body = body;
    }))
    ≡ at ∷ map (λ word. word.at) captures ++ map (λ param. param.name.at) params
    ++ block_keys body
unfolding block_keys closure_keys
closure_keys-roll at mark captures params result body =
    equations.fold_closure-roll key_steps at mark captures params result body

pub link_keys-roll : (op : InfixOp) (at : ℕ) (operand : Expr)
    → link_keys (roll-Link (record { op = op; at = at; operand = operand }))
    ≡ at ∷ expr_keys operand
unfolding expr_keys link_keys
link_keys-roll op at operand = equations.fold_link-roll key_steps op at operand

pub block_keys-roll : (stmts : List Stmt)
    → block_keys (roll-Block (record { stmts = stmts })) ≡ joined (map stmt_keys stmts)
unfolding block_keys stmt_keys
block_keys-roll stmts = equations.fold_block-roll key_steps stmts

pub case_arm_keys-roll : (name : Name) (patterns : List Pattern) (body : Block)
    → case_arm_keys (roll-CaseArm (record { name = name; patterns = patterns; body = body }))
    ≡ flat_map pattern_keys patterns ++ block_keys body
unfolding block_keys case_arm_keys
case_arm_keys-roll name patterns body = equations.fold_case_arm-roll key_steps name patterns body

pub if_arm_keys-roll : (at : ℕ) (cond : Expr) (body : Block)
    → if_arm_keys (roll-IfArm (record { at = at; cond = cond; body = body }))
    ≡ at ∷ expr_keys cond ++ block_keys body
unfolding block_keys expr_keys if_arm_keys
if_arm_keys-roll at cond body = equations.fold_if_arm-roll key_steps at cond body

pub func_keys-is : (func : FuncTree)
    → func_keys func
    ≡ func.word.at ∷ map (λ param. param.name.at) func.params ++ block_keys func.body
unfolding func_keys
func_keys-is func = refl

pub prop_keys-is : (prop : PropTree)
    → prop_keys prop ≡ prop.word.at ∷ unwrap_or (option_map expr_keys prop.value) []
unfolding prop_keys
prop_keys-is prop = refl

pub init_keys-is : (init : InitTree)
    → init_keys init ≡ init.at ∷ map (λ param. param.name.at) init.params ++ block_keys init.body
unfolding init_keys
init_keys-is init = refl

pub decl_keys-Entry : (word : Name) (written : Written) (at : ℕ) (is_async : Bool) (body : Block)
    → decl_keys (decls.Entry word written at is_async body) ≡ at ∷ block_keys body
unfolding decl_keys
decl_keys-Entry word written at is_async body = refl

pub decl_keys-Struct : (word : Name) (conforms : Bool) (fields : List PropTree)
    (funcs : List FuncTree)
    → decl_keys (decls.Struct word conforms fields funcs)
    ≡ word.at ∷ flat_map prop_keys fields ++ flat_map func_keys funcs
unfolding decl_keys
decl_keys-Struct word conforms fields funcs = refl

pub decl_keys-Enum : (word : Name) (conforms : Bool) (cases : List CaseTree) (funcs : List FuncTree)
    → decl_keys (decls.Enum word conforms cases funcs) ≡ word.at ∷ flat_map func_keys funcs
unfolding decl_keys
decl_keys-Enum word conforms cases funcs = refl

pub decl_keys-Class : (written : Written) (word : Name) (conforms : Bool) (props : List PropTree)
    (inits : List InitTree) (funcs : List FuncTree)
    → decl_keys (decls.Class written word conforms props inits funcs)
    ≡ word.at ∷ flat_map prop_keys props ++ flat_map init_keys inits ++ flat_map func_keys funcs
unfolding decl_keys
decl_keys-Class written word conforms props inits funcs = refl

pub decl_keys-Actor : (word : Name) (props : List PropTree) (inits : List InitTree)
    (funcs : List FuncTree)
    → decl_keys (decls.Actor word props inits funcs)
    ≡ word.at ∷ flat_map prop_keys props ++ flat_map init_keys inits ++ flat_map func_keys funcs
unfolding decl_keys
decl_keys-Actor word props inits funcs = refl

pub decl_keys-GlobalActor : (word made : Name)
    → decl_keys (decls.GlobalActor word made) ≡ word.at ∷ []
unfolding decl_keys
decl_keys-GlobalActor word made = refl

pub decl_keys-Func : (func : FuncTree) → decl_keys (decls.Func func) ≡ func_keys func
unfolding decl_keys
decl_keys-Func func = refl

pub decl_keys-Global : (prop : PropTree) → decl_keys (decls.Global prop) ≡ prop_keys prop
unfolding decl_keys
decl_keys-Global prop = refl
