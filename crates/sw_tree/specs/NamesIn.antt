-- The names that stand in a tree, whatever they mean there.
use Rattle.std.specs.Prelude.{List, [], ◌∷◌, ◌++◌, flat_map, Option, option_map, option_to_list}
use Rattle.std.specs.Prelude.{unwrap_or}
use Rattle.sw_tree.specs.Folds.{Steps, fold_expr, fold_stmt, fold_arg, fold_closure, fold_link}
use Rattle.sw_tree.specs.Folds.{fold_block, fold_case_arm, fold_if_arm}
use Rattle.sw_tree.specs.declared.decl.CaseTree.{CaseTree}
use Rattle.sw_tree.specs.declared.decl.Decl.{Decl}
use Rattle.sw_tree.specs.declared.decl.Decl.TheVariants.{Entry, Struct, Enum, Class, Actor}
use Rattle.sw_tree.specs.declared.decl.Decl.TheVariants.{GlobalActor, Func, Global}
use Rattle.sw_tree.specs.declared.decl.FuncTree.{FuncTree}
use Rattle.sw_tree.specs.declared.decl.InitTree.{InitTree}
use Rattle.sw_tree.specs.declared.decl.ParamTree.{ParamTree}
use Rattle.sw_tree.specs.declared.decl.PropTree.{PropTree}
use Rattle.sw_tree.specs.declared.decl.Written.{Written}
use Rattle.sw_tree.specs.declared.decl.Written.TheVariants.{Absent, At, Nonisolated, Concurrent}
use Rattle.sw_tree.specs.declared.decl.Written.TheVariants.{Nonsending}
use Rattle.sw_tree.specs.declared.expr.Arg.{Arg}
use Rattle.sw_tree.specs.declared.expr.Closure.{Closure}
use Rattle.sw_tree.specs.declared.expr.ClosureParam.{ClosureParam}
use Rattle.sw_tree.specs.declared.expr.Expr.{Expr}
use Rattle.sw_tree.specs.declared.expr.Expr.TheOpen as layer
use Rattle.sw_tree.specs.declared.expr.Link.{Link}
use Rattle.sw_tree.specs.declared.name.Name.{Name}
use Rattle.sw_tree.specs.declared.stmt.Block.{Block}
use Rattle.sw_tree.specs.declared.stmt.CaseArm.{CaseArm}
use Rattle.sw_tree.specs.declared.stmt.IfArm.{IfArm}
use Rattle.sw_tree.specs.declared.stmt.Pattern.{Pattern}
use Rattle.sw_tree.specs.declared.stmt.Pattern.TheVariants.{Skip, Let}
use Rattle.sw_tree.specs.declared.stmt.Stmt.{Stmt}
use Rattle.sw_tree.specs.declared.type_tree.TypeTree.{TypeTree, fold-TypeTree}
use Rattle.sw_tree.specs.declared.type_tree.TypeTree.TheOpen as written_layer

abbrev pub NamesIn : Type 0
NamesIn = List Name

abbrev pub joined : List NamesIn → NamesIn
joined names = flat_map (λ more. more) names

abbrev pub type_layer : written_layer.TypeTree-F NamesIn → NamesIn
type_layer (written_layer.Named name) = name ∷ []
type_layer (written_layer.Unit at) = []
type_layer (written_layer.Arrow at mark params result) =
    option_to_list mark ++ joined params ++ result
type_layer (written_layer.TaskOf at inner) = inner

-- the names in a written type
unfoldable pub type_names : TypeTree → NamesIn
type_names = fold-TypeTree NamesIn type_layer

-- the names in a type that may be written
abbrev pub option_type_names : Option TypeTree → NamesIn
option_type_names ty = unwrap_or (option_map type_names ty) []

abbrev pub pattern_names : Pattern → NamesIn
pattern_names (Skip at) = []
pattern_names (Let name) = name ∷ []

abbrev pub closure_param_names : ClosureParam → NamesIn
closure_param_names param = param.name ∷ type_names param.ty

abbrev pub expr_layer : layer.Expr-F NamesIn NamesIn NamesIn NamesIn NamesIn NamesIn NamesIn NamesIn
    → NamesIn
expr_layer (layer.Int at value) = []
expr_layer (layer.Bool at value) = []
expr_layer (layer.Use name) = name ∷ []
expr_layer (layer.Me at) = []
expr_layer (layer.Member base name) = name ∷ base
expr_layer (layer.Call name args) = name ∷ joined args
expr_layer (layer.Method base name args) = name ∷ base ++ joined args
expr_layer (layer.Chain first rest) = first ++ joined rest
expr_layer (layer.Prefix op at inner) = inner
expr_layer (layer.Await at inner) = inner
expr_layer (layer.Fun closure) = closure
expr_layer (layer.Spawn at detached body) = body
expr_layer (layer.Yield at) = []

abbrev pub stmt_layer : layer.Stmt-F NamesIn NamesIn NamesIn NamesIn NamesIn NamesIn NamesIn NamesIn
    → NamesIn
stmt_layer (layer.Bind mutable name ty value) = name ∷ option_type_names ty ++ value
stmt_layer (layer.Assign at op place value) = place ++ value
stmt_layer (layer.Discard at value) = value
stmt_layer (layer.If arms otherwise) = joined arms ++ unwrap_or otherwise []
stmt_layer (layer.While at cond body) = cond ++ body
stmt_layer (layer.Switch at subject arms otherwise) =
    subject ++ joined arms ++ unwrap_or otherwise []
stmt_layer (layer.Return at value) = unwrap_or value []
stmt_layer (layer.Break at) = []
stmt_layer (layer.Continue at) = []
stmt_layer (layer.Plain value) = value

abbrev pub closure_layer : layer.Closure-F NamesIn NamesIn NamesIn NamesIn NamesIn NamesIn NamesIn
    NamesIn → NamesIn
closure_layer closure =
    option_to_list closure.mark ++ closure.captures ++ flat_map closure_param_names closure.params
    ++ option_type_names closure.result ++ closure.body

abbrev pub name_steps : Steps
name_steps = record {
  E = NamesIn;
  S = NamesIn;
  A = NamesIn;
  C = NamesIn;
  L = NamesIn;
  B = NamesIn;
  K = NamesIn;
  I = NamesIn;
  expr = expr_layer;
  stmt = stmt_layer;
  arg = λ arg. option_to_list arg.label ++ arg.value;
  closure = closure_layer;
  link = λ link. link.operand;
  block = λ block. joined block.stmts;
  case_arm = λ arm. arm.name ∷ flat_map pattern_names arm.patterns ++ arm.body;
  if_arm = λ arm. arm.cond ++ arm.body;
}

-- the names in a part of a tree
unfoldable pub expr_names : Expr → NamesIn
expr_names = fold_expr name_steps

unfoldable pub stmt_names : Stmt → NamesIn
stmt_names = fold_stmt name_steps

unfoldable pub arg_names : Arg → NamesIn
arg_names = fold_arg name_steps

unfoldable pub closure_names : Closure → NamesIn
closure_names = fold_closure name_steps

unfoldable pub link_names : Link → NamesIn
link_names = fold_link name_steps

unfoldable pub block_names : Block → NamesIn
block_names = fold_block name_steps

unfoldable pub case_arm_names : CaseArm → NamesIn
case_arm_names = fold_case_arm name_steps

unfoldable pub if_arm_names : IfArm → NamesIn
if_arm_names = fold_if_arm name_steps

abbrev pub written_names : Written → NamesIn
written_names Absent = []
written_names (At name) = name ∷ []
written_names Nonisolated = []
written_names Concurrent = []
written_names Nonsending = []

abbrev pub param_names : ParamTree → NamesIn
param_names param = param.name ∷ option_to_list param.label ++ type_names param.ty

unfoldable pub func_names : FuncTree → NamesIn
func_names func =
    func.word ∷ written_names func.written ++ flat_map param_names func.params
    ++ option_type_names func.result ++ block_names func.body

unfoldable pub prop_names : PropTree → NamesIn
prop_names prop =
    prop.word ∷ written_names prop.written ++ option_type_names prop.ty
    ++ unwrap_or (option_map expr_names prop.value) []

unfoldable pub init_names : InitTree → NamesIn
init_names init = flat_map param_names init.params ++ block_names init.body

abbrev pub case_names : CaseTree → NamesIn
case_names case = case.word ∷ flat_map type_names case.types

unfoldable pub decl_names : Decl → NamesIn
decl_names (Entry word written at is_async body) = word ∷ written_names written ++ block_names body
decl_names (Struct word conforms fields funcs) =
    word ∷ flat_map prop_names fields ++ flat_map func_names funcs
decl_names (Enum word conforms cases funcs) =
    word ∷ flat_map case_names cases ++ flat_map func_names funcs
decl_names (Class written word conforms props inits funcs) =
    word ∷ written_names written ++ flat_map prop_names props ++ flat_map init_names inits
    ++ flat_map func_names funcs
decl_names (Actor word props inits funcs) =
    word ∷ flat_map prop_names props ++ flat_map init_names inits ++ flat_map func_names funcs
decl_names (GlobalActor word made) = word ∷ made ∷ []
decl_names (Func func) = func_names func
decl_names (Global prop) = prop_names prop

-- the names in a program's declarations
unfoldable pub names_in : List Decl → NamesIn
names_in decls = flat_map decl_names decls
