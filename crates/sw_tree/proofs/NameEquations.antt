-- The names of each form of node and of declaration.
use Rattle.std.proofs.Common.{◌≡◌, ℕ, ℤ, Bool, List, [], ◌∷◌, ◌++◌, map, flat_map, Option}
use Rattle.std.proofs.Common.{option_map, option_to_list, unwrap_or, refl, sym, ap, ◌∙◌}
use Rattle.sw_tree.proofs.FoldEquations as equations
use Rattle.sw_tree.specs.NamesIn.{joined, NamesIn, type_layer, name_steps, expr_names, stmt_names}
use Rattle.sw_tree.specs.NamesIn.{arg_names, closure_names, link_names, block_names, case_arm_names}
use Rattle.sw_tree.specs.NamesIn.{if_arm_names, pattern_names, func_names, prop_names, init_names}
use Rattle.sw_tree.specs.NamesIn.{decl_names, type_names, closure_param_names, written_names}
use Rattle.sw_tree.specs.NamesIn.{param_names, case_names}
use Rattle.sw_tree.specs.declared.expr.Arg.{Arg, roll-Arg}
use Rattle.sw_tree.specs.declared.expr.Closure.{Closure, roll-Closure}
use Rattle.sw_tree.specs.declared.expr.ClosureParam.{ClosureParam}
use Rattle.sw_tree.specs.declared.expr.Expr.{Expr}
use Rattle.sw_tree.specs.declared.expr.Expr.TheVariants as exprs
use Rattle.sw_tree.specs.declared.expr.Link.{Link, roll-Link}
use Rattle.sw_tree.specs.declared.name.Name.{Name}
use Rattle.sw_tree.specs.declared.operator.AssignOp.{AssignOp}
use Rattle.sw_tree.specs.declared.operator.InfixOp.{InfixOp}
use Rattle.sw_tree.specs.declared.operator.PrefixOp.{PrefixOp}
use Rattle.sw_tree.specs.declared.stmt.Block.{Block, roll-Block}
use Rattle.sw_tree.specs.declared.stmt.CaseArm.{CaseArm, roll-CaseArm}
use Rattle.sw_tree.specs.declared.stmt.IfArm.{IfArm, roll-IfArm}
use Rattle.sw_tree.specs.declared.stmt.Pattern.{Pattern}
use Rattle.sw_tree.specs.declared.stmt.Stmt.{Stmt}
use Rattle.sw_tree.specs.declared.stmt.Stmt.TheVariants as stmts
use Rattle.sw_tree.specs.declared.type_tree.TypeTree.{TypeTree}
use Rattle.sw_tree.specs.declared.decl.CaseTree.{CaseTree}
use Rattle.sw_tree.specs.declared.decl.Decl.TheVariants as decls
use Rattle.sw_tree.specs.declared.decl.FuncTree.{FuncTree}
use Rattle.sw_tree.specs.declared.decl.InitTree.{InitTree}
use Rattle.sw_tree.specs.declared.decl.PropTree.{PropTree}
use Rattle.sw_tree.specs.declared.decl.Written.{Written}
use Rattle.sw_tree.specs.declared.type_tree.TypeTree.TheVariants as types
use Rattle.sw_tree.specs.declared.type_tree.TypeTree.TheFolds as type_folds
use Rattle.sw_tree.specs.declared.type_tree.TypeTree.TheOpen as written_layer

pub type_names-Named : (name : Name) → type_names (types.Named name) ≡ name ∷ []
unfolding type_names
type_names-Named name =
    ap type_names (sym (types.rolls-Named name))
    ∙ type_folds.fold-roll-TypeTree NamesIn type_layer (written_layer.Named name)

pub type_names-Unit : (at : ℕ) → type_names (types.Unit at) ≡ []
unfolding type_names
type_names-Unit at =
    ap type_names (sym (types.rolls-Unit at))
    ∙ type_folds.fold-roll-TypeTree NamesIn type_layer (written_layer.Unit at)

pub type_names-Arrow : (at : ℕ) (mark : Option Name) (params : List TypeTree) (result : TypeTree)
    → type_names (types.Arrow at mark params result)
    ≡ option_to_list mark ++ joined (map type_names params) ++ type_names result
unfolding type_names
type_names-Arrow at mark params result =
    ap type_names (sym (types.rolls-Arrow at mark params result))
    ∙ type_folds.fold-roll-TypeTree NamesIn type_layer (written_layer.Arrow at mark params result)

pub type_names-TaskOf : (at : ℕ) (inner : TypeTree)
    → type_names (types.TaskOf at inner) ≡ type_names inner
unfolding type_names
type_names-TaskOf at inner =
    ap type_names (sym (types.rolls-TaskOf at inner))
    ∙ type_folds.fold-roll-TypeTree NamesIn type_layer (written_layer.TaskOf at inner)

pub expr_names-Int : (at : ℕ) (value : ℤ) → expr_names (exprs.Int at value) ≡ []
unfolding expr_names
expr_names-Int at value = equations.fold_expr-Int name_steps at value

pub expr_names-Bool : (at : ℕ) (value : Bool) → expr_names (exprs.Bool at value) ≡ []
unfolding expr_names
expr_names-Bool at value = equations.fold_expr-Bool name_steps at value

pub expr_names-Use : (name : Name) → expr_names (exprs.Use name) ≡ name ∷ []
unfolding expr_names
expr_names-Use name = equations.fold_expr-Use name_steps name

pub expr_names-Me : (at : ℕ) → expr_names (exprs.Me at) ≡ []
unfolding expr_names
expr_names-Me at = equations.fold_expr-Me name_steps at

pub expr_names-Member : (base : Expr) (name : Name)
    → expr_names (exprs.Member base name) ≡ name ∷ expr_names base
unfolding expr_names
expr_names-Member base name = equations.fold_expr-Member name_steps base name

pub expr_names-Call : (name : Name) (args : List Arg)
    → expr_names (exprs.Call name args) ≡ name ∷ joined (map arg_names args)
unfolding arg_names expr_names
expr_names-Call name args = equations.fold_expr-Call name_steps name args

pub expr_names-Method : (base : Expr) (name : Name) (args : List Arg)
    → expr_names (exprs.Method base name args)
    ≡ name ∷ expr_names base ++ joined (map arg_names args)
unfolding arg_names expr_names
expr_names-Method base name args = equations.fold_expr-Method name_steps base name args

pub expr_names-Chain : (first : Expr) (rest : List Link)
    → expr_names (exprs.Chain first rest) ≡ expr_names first ++ joined (map link_names rest)
unfolding expr_names link_names
expr_names-Chain first rest = equations.fold_expr-Chain name_steps first rest

pub expr_names-Prefix : (op : PrefixOp) (at : ℕ) (inner : Expr)
    → expr_names (exprs.Prefix op at inner) ≡ expr_names inner
unfolding expr_names
expr_names-Prefix op at inner = equations.fold_expr-Prefix name_steps op at inner

pub expr_names-Await : (at : ℕ) (inner : Expr)
    → expr_names (exprs.Await at inner) ≡ expr_names inner
unfolding expr_names
expr_names-Await at inner = equations.fold_expr-Await name_steps at inner

pub expr_names-Fun : (closure : Closure) → expr_names (exprs.Fun closure) ≡ closure_names closure
unfolding closure_names expr_names
expr_names-Fun closure = equations.fold_expr-Fun name_steps closure

pub expr_names-Spawn : (at : ℕ) (detached : Bool) (body : Closure)
    → expr_names (exprs.Spawn at detached body) ≡ closure_names body
unfolding closure_names expr_names
expr_names-Spawn at detached body = equations.fold_expr-Spawn name_steps at detached body

pub expr_names-Yield : (at : ℕ) → expr_names (exprs.Yield at) ≡ []
unfolding expr_names
expr_names-Yield at = equations.fold_expr-Yield name_steps at

pub stmt_names-Bind : (mutable : Bool) (name : Name) (ty : Option TypeTree) (value : Expr)
    → stmt_names (stmts.Bind mutable name ty value)
    ≡ name ∷ unwrap_or (option_map type_names ty) [] ++ expr_names value
unfolding expr_names stmt_names type_names
stmt_names-Bind mutable name ty value = equations.fold_stmt-Bind name_steps mutable name ty value

pub stmt_names-Assign : (at : ℕ) (op : AssignOp) (place value : Expr)
    → stmt_names (stmts.Assign at op place value) ≡ expr_names place ++ expr_names value
unfolding expr_names stmt_names
stmt_names-Assign at op place value = equations.fold_stmt-Assign name_steps at op place value

pub stmt_names-Discard : (at : ℕ) (value : Expr)
    → stmt_names (stmts.Discard at value) ≡ expr_names value
unfolding expr_names stmt_names
stmt_names-Discard at value = equations.fold_stmt-Discard name_steps at value

pub stmt_names-If : (arms : List IfArm) (otherwise : Option Block)
    → stmt_names (stmts.If arms otherwise)
    ≡ joined (map if_arm_names arms) ++ unwrap_or (option_map block_names otherwise) []
unfolding block_names if_arm_names stmt_names
stmt_names-If arms otherwise = equations.fold_stmt-If name_steps arms otherwise

pub stmt_names-While : (at : ℕ) (cond : Expr) (body : Block)
    → stmt_names (stmts.While at cond body) ≡ expr_names cond ++ block_names body
unfolding block_names expr_names stmt_names
stmt_names-While at cond body = equations.fold_stmt-While name_steps at cond body

pub stmt_names-Switch : (at : ℕ) (subject : Expr) (arms : List CaseArm) (otherwise : Option Block)
    → stmt_names (stmts.Switch at subject arms otherwise)
    ≡ expr_names subject ++ joined (map case_arm_names arms)
    ++ unwrap_or (option_map block_names otherwise) []
unfolding block_names case_arm_names expr_names stmt_names
stmt_names-Switch at subject arms otherwise =
    equations.fold_stmt-Switch name_steps at subject arms otherwise

pub stmt_names-Return : (at : ℕ) (value : Option Expr)
    → stmt_names (stmts.Return at value) ≡ unwrap_or (option_map expr_names value) []
unfolding expr_names stmt_names
stmt_names-Return at value = equations.fold_stmt-Return name_steps at value

pub stmt_names-Break : (at : ℕ) → stmt_names (stmts.Break at) ≡ []
unfolding stmt_names
stmt_names-Break at = equations.fold_stmt-Break name_steps at

pub stmt_names-Continue : (at : ℕ) → stmt_names (stmts.Continue at) ≡ []
unfolding stmt_names
stmt_names-Continue at = equations.fold_stmt-Continue name_steps at

pub stmt_names-Plain : (value : Expr) → stmt_names (stmts.Plain value) ≡ expr_names value
unfolding expr_names stmt_names
stmt_names-Plain value = equations.fold_stmt-Plain name_steps value

pub arg_names-roll : (label : Option Name) (value : Expr)
    → arg_names (roll-Arg (record { label = label; value = value }))
    ≡ option_to_list label ++ expr_names value
unfolding arg_names expr_names
arg_names-roll label value = equations.fold_arg-roll name_steps label value

pub closure_names-roll : (at : ℕ) (mark : Option Name) (captures : List Name)
    (params : List ClosureParam) (result : Option TypeTree) (body : Block)
    → closure_names (roll-Closure (record {
      at = at;
      mark = mark;
      captures = captures;
      params = params;
      result = result;
      body = body;
    }))
    ≡ option_to_list mark ++ captures ++ flat_map closure_param_names params
    ++ unwrap_or (option_map type_names result) [] ++ block_names body
unfolding block_names closure_names type_names
closure_names-roll at mark captures params result body =
    equations.fold_closure-roll name_steps at mark captures params result body

pub link_names-roll : (op : InfixOp) (at : ℕ) (operand : Expr)
    → link_names (roll-Link (record { op = op; at = at; operand = operand })) ≡ expr_names operand
unfolding expr_names link_names
link_names-roll op at operand = equations.fold_link-roll name_steps op at operand

pub block_names-roll : (stmts : List Stmt)
    → block_names (roll-Block (record { stmts = stmts })) ≡ joined (map stmt_names stmts)
unfolding block_names stmt_names
block_names-roll stmts = equations.fold_block-roll name_steps stmts

pub case_arm_names-roll : (name : Name) (patterns : List Pattern) (body : Block)
    → case_arm_names (roll-CaseArm (record { name = name; patterns = patterns; body = body }))
    ≡ name ∷ flat_map pattern_names patterns ++ block_names body
unfolding block_names case_arm_names
case_arm_names-roll name patterns body = equations.fold_case_arm-roll name_steps name patterns body

pub if_arm_names-roll : (at : ℕ) (cond : Expr) (body : Block)
    → if_arm_names (roll-IfArm (record { at = at; cond = cond; body = body }))
    ≡ expr_names cond ++ block_names body
unfolding block_names expr_names if_arm_names
if_arm_names-roll at cond body = equations.fold_if_arm-roll name_steps at cond body

pub func_names-is : (func : FuncTree)
    → func_names func
    ≡ func.word ∷ written_names func.written ++ flat_map param_names func.params
    ++ unwrap_or (option_map type_names func.result) [] ++ block_names func.body
unfolding func_names
func_names-is func = refl

pub prop_names-is : (prop : PropTree)
    → prop_names prop
    ≡ prop.word ∷ written_names prop.written ++ unwrap_or (option_map type_names prop.ty) []
    ++ unwrap_or (option_map expr_names prop.value) []
unfolding prop_names
prop_names-is prop = refl

pub init_names-is : (init : InitTree)
    → init_names init ≡ flat_map param_names init.params ++ block_names init.body
unfolding init_names
init_names-is init = refl

pub decl_names-Entry : (word : Name) (written : Written) (at : ℕ) (is_async : Bool) (body : Block)
    → decl_names (decls.Entry word written at is_async body)
    ≡ word ∷ written_names written ++ block_names body
unfolding decl_names
decl_names-Entry word written at is_async body = refl

pub decl_names-Struct : (word : Name) (conforms : Bool) (fields : List PropTree)
    (funcs : List FuncTree)
    → decl_names (decls.Struct word conforms fields funcs)
    ≡ word ∷ flat_map prop_names fields ++ flat_map func_names funcs
unfolding decl_names
decl_names-Struct word conforms fields funcs = refl

pub decl_names-Enum : (word : Name) (conforms : Bool) (cases : List CaseTree)
    (funcs : List FuncTree)
    → decl_names (decls.Enum word conforms cases funcs)
    ≡ word ∷ flat_map case_names cases ++ flat_map func_names funcs
unfolding decl_names
decl_names-Enum word conforms cases funcs = refl

pub decl_names-Class : (written : Written) (word : Name) (conforms : Bool) (props : List PropTree)
    (inits : List InitTree) (funcs : List FuncTree)
    → decl_names (decls.Class written word conforms props inits funcs)
    ≡ word ∷ written_names written ++ flat_map prop_names props ++ flat_map init_names inits
    ++ flat_map func_names funcs
unfolding decl_names
decl_names-Class written word conforms props inits funcs = refl

pub decl_names-Actor : (word : Name) (props : List PropTree) (inits : List InitTree)
    (funcs : List FuncTree)
    → decl_names (decls.Actor word props inits funcs)
    ≡ word ∷ flat_map prop_names props ++ flat_map init_names inits ++ flat_map func_names funcs
unfolding decl_names
decl_names-Actor word props inits funcs = refl

pub decl_names-GlobalActor : (word made : Name)
    → decl_names (decls.GlobalActor word made) ≡ word ∷ made ∷ []
unfolding decl_names
decl_names-GlobalActor word made = refl

pub decl_names-Func : (func : FuncTree) → decl_names (decls.Func func) ≡ func_names func
unfolding decl_names
decl_names-Func func = refl

pub decl_names-Global : (prop : PropTree) → decl_names (decls.Global prop) ≡ prop_names prop
unfolding decl_names
decl_names-Global prop = refl
