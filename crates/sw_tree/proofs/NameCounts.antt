-- How many names without a text stand in each form of node and of declaration.
use Rattle.std.proofs.Common.{◌≡◌, ℕ, ℤ, ◌+◌, ◌<◌, Bool, List, [], ◌∷◌, ◌++◌, map, flat_map, Option}
use Rattle.std.proofs.Common.{option_map, option_to_list, unwrap_or, nat_lt, if◌then◌else◌, ap}
use Rattle.std.proofs.Common.{arith}
use Rattle.std.proofs.lemmas.Grind.{common_steps}
use Rattle.std.proofs.lemmas.List.Elements.{All-from_recursion}
use Rattle.std.specs.List.{All, AllByRecursion}
use Rattle.sw_tree.proofs.Counting.{Weight, in_all, in_option, in_all-nil, in_all-cons}
use Rattle.sw_tree.proofs.Counting.{in_all-append, in_all-option_to_list}
use Rattle.sw_tree.proofs.Counting.{in_all-flat_map, in_all-joined, in_all-option}
use Rattle.sw_tree.proofs.NameEquations as names
use Rattle.sw_tree.specs.NamesIn.{joined, expr_names, stmt_names, arg_names, closure_names}
use Rattle.sw_tree.specs.NamesIn.{link_names, block_names, case_arm_names, if_arm_names}
use Rattle.sw_tree.specs.NamesIn.{pattern_names, func_names, prop_names, init_names, decl_names}
use Rattle.sw_tree.specs.NamesIn.{type_names, closure_param_names, written_names, param_names}
use Rattle.sw_tree.specs.NamesIn.{case_names, names_in}
use Rattle.sw_tree.specs.declared.expr.Arg.{Arg, roll-Arg}
use Rattle.sw_tree.specs.declared.expr.Closure.{Closure, roll-Closure}
use Rattle.sw_tree.specs.declared.expr.ClosureParam.{ClosureParam}
use Rattle.sw_tree.specs.declared.expr.Expr.{Expr}
use Rattle.sw_tree.specs.declared.expr.Expr.TheVariants as exprs
use Rattle.sw_tree.specs.declared.expr.Link.{Link, roll-Link}
use Rattle.sw_tree.specs.declared.name.Name.{Name}
use Rattle.sw_tree.specs.declared.operator.AssignOp.{AssignOp}
use Rattle.sw_tree.specs.declared.operator.InfixOp.{InfixOp}
use Rattle.sw_tree.specs.declared.operator.PrefixOp.{PrefixOp}
use Rattle.sw_tree.specs.declared.stmt.Block.{Block, roll-Block}
use Rattle.sw_tree.specs.declared.stmt.CaseArm.{CaseArm, roll-CaseArm}
use Rattle.sw_tree.specs.declared.stmt.IfArm.{IfArm, roll-IfArm}
use Rattle.sw_tree.specs.declared.stmt.Pattern.{Pattern}
use Rattle.sw_tree.specs.declared.stmt.Pattern.TheVariants as patterns
use Rattle.sw_tree.specs.declared.stmt.Stmt.{Stmt}
use Rattle.sw_tree.specs.declared.stmt.Stmt.TheVariants as stmts
use Rattle.sw_tree.specs.declared.type_tree.TypeTree.{TypeTree}
use Rattle.sw_tree.specs.declared.decl.CaseTree.{CaseTree}
use Rattle.sw_tree.specs.declared.decl.Decl.{Decl}
use Rattle.sw_tree.specs.declared.decl.Decl.TheVariants as decls
use Rattle.sw_tree.specs.declared.decl.FuncTree.{FuncTree}
use Rattle.sw_tree.specs.declared.decl.InitTree.{InitTree}
use Rattle.sw_tree.specs.declared.decl.ParamTree.{ParamTree}
use Rattle.sw_tree.specs.declared.decl.PropTree.{PropTree}
use Rattle.sw_tree.specs.declared.decl.Written.{Written}
use Rattle.sw_tree.specs.declared.decl.Written.TheVariants as writtens
use Rattle.sw_tree.specs.declared.type_tree.TypeTree.TheVariants as types

-- one at each number of texts that doesn't reach the name's id
unfoldable pub misses : Name → Weight
misses name k = if nat_lt name.id k then 0 else 1

abbrev pub unknown_expr : Expr → Weight
unknown_expr expr = in_all misses (expr_names expr)

abbrev pub unknown_stmt : Stmt → Weight
unknown_stmt stmt = in_all misses (stmt_names stmt)

abbrev pub unknown_arg : Arg → Weight
unknown_arg arg = in_all misses (arg_names arg)

abbrev pub unknown_closure : Closure → Weight
unknown_closure closure = in_all misses (closure_names closure)

abbrev pub unknown_link : Link → Weight
unknown_link link = in_all misses (link_names link)

abbrev pub unknown_block : Block → Weight
unknown_block block = in_all misses (block_names block)

abbrev pub unknown_case_arm : CaseArm → Weight
unknown_case_arm arm = in_all misses (case_arm_names arm)

abbrev pub unknown_if_arm : IfArm → Weight
unknown_if_arm arm = in_all misses (if_arm_names arm)

abbrev pub unknown_pattern : Pattern → Weight
unknown_pattern pattern = in_all misses (pattern_names pattern)

abbrev pub unknown_type : TypeTree → Weight
unknown_type ty = in_all misses (type_names ty)

abbrev pub unknown_closure_param : ClosureParam → Weight
unknown_closure_param param = in_all misses (closure_param_names param)

abbrev pub unknown_written : Written → Weight
unknown_written written = in_all misses (written_names written)

abbrev pub unknown_param : ParamTree → Weight
unknown_param param = in_all misses (param_names param)

abbrev pub unknown_case : CaseTree → Weight
unknown_case case = in_all misses (case_names case)

abbrev pub unknown_func : FuncTree → Weight
unknown_func func = in_all misses (func_names func)

abbrev pub unknown_prop : PropTree → Weight
unknown_prop prop = in_all misses (prop_names prop)

abbrev pub unknown_init : InitTree → Weight
unknown_init init = in_all misses (init_names init)

abbrev pub unknown_decl : Decl → Weight
unknown_decl decl = in_all misses (decl_names decl)

pub unknown_type-Named : (name : Name) (k : ℕ) → unknown_type (types.Named name) k ≡ misses name k
unknown_type-Named name k =
    let is = ap (λ all. in_all misses all k) (names.type_names-Named name) in
    omega (arith, is, in_all-cons misses name ([]) k, in_all-nil misses k)

pub unknown_type-Unit : (at : ℕ) (k : ℕ) → unknown_type (types.Unit at) k ≡ 0
unknown_type-Unit at k =
    let is = ap (λ all. in_all misses all k) (names.type_names-Unit at) in
    omega (arith, is, in_all-nil misses k)

pub unknown_type-Arrow : (at : ℕ) (mark : Option Name) (params : List TypeTree) (result : TypeTree)
    (k : ℕ)
    → unknown_type (types.Arrow at mark params result) k
    ≡ in_option misses mark k + in_all unknown_type params k + unknown_type result k
unknown_type-Arrow at mark params result k =
    let is = ap (λ all. in_all misses all k) (names.type_names-Arrow at mark params result) in
    omega (
      arith,
      is,
      in_all-append misses (option_to_list mark ++ joined (map type_names params))
          (type_names result) k,
      in_all-append misses (option_to_list mark) (joined (map type_names params)) k,
      in_all-option_to_list misses mark k,
      in_all-joined misses type_names params k,
    )

pub unknown_type-TaskOf : (at : ℕ) (inner : TypeTree) (k : ℕ)
    → unknown_type (types.TaskOf at inner) k ≡ unknown_type inner k
unknown_type-TaskOf at inner k =
    let is = ap (λ all. in_all misses all k) (names.type_names-TaskOf at inner) in
    omega (arith, is)

pub unknown_expr-Int : (at : ℕ) (value : ℤ) (k : ℕ) → unknown_expr (exprs.Int at value) k ≡ 0
unknown_expr-Int at value k =
    let is = ap (λ all. in_all misses all k) (names.expr_names-Int at value) in
    omega (arith, is, in_all-nil misses k)

pub unknown_expr-Bool : (at : ℕ) (value : Bool) (k : ℕ) → unknown_expr (exprs.Bool at value) k ≡ 0
unknown_expr-Bool at value k =
    let is = ap (λ all. in_all misses all k) (names.expr_names-Bool at value) in
    omega (arith, is, in_all-nil misses k)

pub unknown_expr-Use : (name : Name) (k : ℕ) → unknown_expr (exprs.Use name) k ≡ misses name k
unknown_expr-Use name k =
    let is = ap (λ all. in_all misses all k) (names.expr_names-Use name) in
    omega (arith, is, in_all-cons misses name ([]) k, in_all-nil misses k)

pub unknown_expr-Me : (at : ℕ) (k : ℕ) → unknown_expr (exprs.Me at) k ≡ 0
unknown_expr-Me at k =
    let is = ap (λ all. in_all misses all k) (names.expr_names-Me at) in
    omega (arith, is, in_all-nil misses k)

pub unknown_expr-Member : (base : Expr) (name : Name) (k : ℕ)
    → unknown_expr (exprs.Member base name) k ≡ misses name k + unknown_expr base k
unknown_expr-Member base name k =
    let is = ap (λ all. in_all misses all k) (names.expr_names-Member base name) in
    omega (arith, is, in_all-cons misses name (expr_names base) k)

pub unknown_expr-Call : (name : Name) (args : List Arg) (k : ℕ)
    → unknown_expr (exprs.Call name args) k ≡ misses name k + in_all unknown_arg args k
unknown_expr-Call name args k =
    let is = ap (λ all. in_all misses all k) (names.expr_names-Call name args) in
    omega (
      arith,
      is,
      in_all-cons misses name (joined (map arg_names args)) k,
      in_all-joined misses arg_names args k,
    )

pub unknown_expr-Method : (base : Expr) (name : Name) (args : List Arg) (k : ℕ)
    → unknown_expr (exprs.Method base name args) k
    ≡ misses name k + unknown_expr base k + in_all unknown_arg args k
unknown_expr-Method base name args k =
    let is = ap (λ all. in_all misses all k) (names.expr_names-Method base name args) in
    omega (
      arith,
      is,
      in_all-cons misses name (expr_names base ++ joined (map arg_names args)) k,
      in_all-append misses (expr_names base) (joined (map arg_names args)) k,
      in_all-joined misses arg_names args k,
    )

pub unknown_expr-Chain : (first : Expr) (rest : List Link) (k : ℕ)
    → unknown_expr (exprs.Chain first rest) k ≡ unknown_expr first k + in_all unknown_link rest k
unknown_expr-Chain first rest k =
    let is = ap (λ all. in_all misses all k) (names.expr_names-Chain first rest) in
    omega (
      arith,
      is,
      in_all-append misses (expr_names first) (joined (map link_names rest)) k,
      in_all-joined misses link_names rest k,
    )

pub unknown_expr-Prefix : (op : PrefixOp) (at : ℕ) (inner : Expr) (k : ℕ)
    → unknown_expr (exprs.Prefix op at inner) k ≡ unknown_expr inner k
unknown_expr-Prefix op at inner k =
    let is = ap (λ all. in_all misses all k) (names.expr_names-Prefix op at inner) in
    omega (arith, is)

pub unknown_expr-Await : (at : ℕ) (inner : Expr) (k : ℕ)
    → unknown_expr (exprs.Await at inner) k ≡ unknown_expr inner k
unknown_expr-Await at inner k =
    let is = ap (λ all. in_all misses all k) (names.expr_names-Await at inner) in
    omega (arith, is)

pub unknown_expr-Fun : (closure : Closure) (k : ℕ)
    → unknown_expr (exprs.Fun closure) k ≡ unknown_closure closure k
unknown_expr-Fun closure k =
    let is = ap (λ all. in_all misses all k) (names.expr_names-Fun closure) in
    omega (arith, is)

pub unknown_expr-Spawn : (at : ℕ) (detached : Bool) (body : Closure) (k : ℕ)
    → unknown_expr (exprs.Spawn at detached body) k ≡ unknown_closure body k
unknown_expr-Spawn at detached body k =
    let is = ap (λ all. in_all misses all k) (names.expr_names-Spawn at detached body) in
    omega (arith, is)

pub unknown_expr-Yield : (at : ℕ) (k : ℕ) → unknown_expr (exprs.Yield at) k ≡ 0
unknown_expr-Yield at k =
    let is = ap (λ all. in_all misses all k) (names.expr_names-Yield at) in
    omega (arith, is, in_all-nil misses k)

pub unknown_stmt-Bind : (mutable : Bool) (name : Name) (ty : Option TypeTree) (value : Expr) (k : ℕ)
    → unknown_stmt (stmts.Bind mutable name ty value) k
    ≡ misses name k + in_option unknown_type ty k + unknown_expr value k
unknown_stmt-Bind mutable name ty value k =
    let is = ap (λ all. in_all misses all k) (names.stmt_names-Bind mutable name ty value) in
    omega (
      arith,
      is,
      in_all-cons misses name (unwrap_or (option_map type_names ty) [] ++ expr_names value) k,
      in_all-append misses (unwrap_or (option_map type_names ty) []) (expr_names value) k,
      in_all-option misses type_names ty k,
    )

pub unknown_stmt-Assign : (at : ℕ) (op : AssignOp) (place value : Expr) (k : ℕ)
    → unknown_stmt (stmts.Assign at op place value) k ≡ unknown_expr place k + unknown_expr value k
unknown_stmt-Assign at op place value k =
    let is = ap (λ all. in_all misses all k) (names.stmt_names-Assign at op place value) in
    omega (arith, is, in_all-append misses (expr_names place) (expr_names value) k)

pub unknown_stmt-Discard : (at : ℕ) (value : Expr) (k : ℕ)
    → unknown_stmt (stmts.Discard at value) k ≡ unknown_expr value k
unknown_stmt-Discard at value k =
    let is = ap (λ all. in_all misses all k) (names.stmt_names-Discard at value) in
    omega (arith, is)

pub unknown_stmt-If : (arms : List IfArm) (otherwise : Option Block) (k : ℕ)
    → unknown_stmt (stmts.If arms otherwise) k
    ≡ in_all unknown_if_arm arms k + in_option unknown_block otherwise k
unknown_stmt-If arms otherwise k =
    let is = ap (λ all. in_all misses all k) (names.stmt_names-If arms otherwise) in
    omega (
      arith,
      is,
      in_all-append misses (joined (map if_arm_names arms))
          (unwrap_or (option_map block_names otherwise) []) k,
      in_all-joined misses if_arm_names arms k,
      in_all-option misses block_names otherwise k,
    )

pub unknown_stmt-While : (at : ℕ) (cond : Expr) (body : Block) (k : ℕ)
    → unknown_stmt (stmts.While at cond body) k ≡ unknown_expr cond k + unknown_block body k
unknown_stmt-While at cond body k =
    let is = ap (λ all. in_all misses all k) (names.stmt_names-While at cond body) in
    omega (arith, is, in_all-append misses (expr_names cond) (block_names body) k)

pub unknown_stmt-Switch : (at : ℕ) (subject : Expr) (arms : List CaseArm) (otherwise : Option Block)
    (k : ℕ)
    → unknown_stmt (stmts.Switch at subject arms otherwise) k
    ≡ unknown_expr subject k + in_all unknown_case_arm arms k
    + in_option unknown_block otherwise k
unknown_stmt-Switch at subject arms otherwise k =
    let is = ap (λ all. in_all misses all k) (names.stmt_names-Switch at subject arms otherwise) in
    omega (
      arith,
      is,
      in_all-append misses (expr_names subject ++ joined (map case_arm_names arms))
          (unwrap_or (option_map block_names otherwise) []) k,
      in_all-append misses (expr_names subject) (joined (map case_arm_names arms)) k,
      in_all-joined misses case_arm_names arms k,
      in_all-option misses block_names otherwise k,
    )

pub unknown_stmt-Return : (at : ℕ) (value : Option Expr) (k : ℕ)
    → unknown_stmt (stmts.Return at value) k ≡ in_option unknown_expr value k
unknown_stmt-Return at value k =
    let is = ap (λ all. in_all misses all k) (names.stmt_names-Return at value) in
    omega (arith, is, in_all-option misses expr_names value k)

pub unknown_stmt-Break : (at : ℕ) (k : ℕ) → unknown_stmt (stmts.Break at) k ≡ 0
unknown_stmt-Break at k =
    let is = ap (λ all. in_all misses all k) (names.stmt_names-Break at) in
    omega (arith, is, in_all-nil misses k)

pub unknown_stmt-Continue : (at : ℕ) (k : ℕ) → unknown_stmt (stmts.Continue at) k ≡ 0
unknown_stmt-Continue at k =
    let is = ap (λ all. in_all misses all k) (names.stmt_names-Continue at) in
    omega (arith, is, in_all-nil misses k)

pub unknown_stmt-Plain : (value : Expr) (k : ℕ)
    → unknown_stmt (stmts.Plain value) k ≡ unknown_expr value k
unknown_stmt-Plain value k =
    let is = ap (λ all. in_all misses all k) (names.stmt_names-Plain value) in
    omega (arith, is)

pub unknown_arg-roll : (label : Option Name) (value : Expr) (k : ℕ)
    → unknown_arg (roll-Arg (record { label = label; value = value })) k
    ≡ in_option misses label k + unknown_expr value k
unknown_arg-roll label value k =
    let is = ap (λ all. in_all misses all k) (names.arg_names-roll label value) in
    omega (
      arith,
      is,
      in_all-append misses (option_to_list label) (expr_names value) k,
      in_all-option_to_list misses label k,
    )

pub unknown_closure-roll : (at : ℕ) (mark : Option Name) (captures : List Name)
    (params : List ClosureParam) (result : Option TypeTree) (body : Block) (k : ℕ)
    → unknown_closure (roll-Closure (record {
      at = at;
      mark = mark;
      captures = captures;
      params = params;
      result = result;
      body = body;
    })) k
    ≡ in_option misses mark k + in_all misses captures k + in_all unknown_closure_param params k
    + in_option unknown_type result k + unknown_block body k
unknown_closure-roll at mark captures params result body k =
    let is = ap (λ all. in_all misses all k)
    (names.closure_names-roll at mark captures params result body) in
    omega (
      arith,
      is,
      in_all-append misses (option_to_list mark ++ captures ++ flat_map closure_param_names params
          ++ unwrap_or (option_map type_names result) []) (block_names body) k,
      in_all-append misses (option_to_list mark ++ captures ++ flat_map closure_param_names params)
          (unwrap_or (option_map type_names result) []) k,
      in_all-append misses (option_to_list mark ++ captures)
          (flat_map closure_param_names params) k,
      in_all-append misses (option_to_list mark) (captures) k,
      in_all-option_to_list misses mark k,
      in_all-flat_map misses closure_param_names params k,
      in_all-option misses type_names result k,
    )

pub unknown_link-roll : (op : InfixOp) (at : ℕ) (operand : Expr) (k : ℕ)
    → unknown_link (roll-Link (record { op = op; at = at; operand = operand })) k
    ≡ unknown_expr operand k
unknown_link-roll op at operand k =
    let is = ap (λ all. in_all misses all k) (names.link_names-roll op at operand) in
    omega (arith, is)

pub unknown_block-roll : (stmts : List Stmt) (k : ℕ)
    → unknown_block (roll-Block (record { stmts = stmts })) k ≡ in_all unknown_stmt stmts k
unknown_block-roll stmts k =
    let is = ap (λ all. in_all misses all k) (names.block_names-roll stmts) in
    omega (arith, is, in_all-joined misses stmt_names stmts k)

pub unknown_case_arm-roll : (name : Name) (patterns : List Pattern) (body : Block) (k : ℕ)
    → unknown_case_arm (roll-CaseArm (record { name = name; patterns = patterns; body = body })) k
    ≡ misses name k + in_all unknown_pattern patterns k + unknown_block body k
unknown_case_arm-roll name patterns body k =
    let is = ap (λ all. in_all misses all k) (names.case_arm_names-roll name patterns body) in
    omega (
      arith,
      is,
      in_all-cons misses name (flat_map pattern_names patterns ++ block_names body) k,
      in_all-append misses (flat_map pattern_names patterns) (block_names body) k,
      in_all-flat_map misses pattern_names patterns k,
    )

pub unknown_if_arm-roll : (at : ℕ) (cond : Expr) (body : Block) (k : ℕ)
    → unknown_if_arm (roll-IfArm (record { at = at; cond = cond; body = body })) k
    ≡ unknown_expr cond k + unknown_block body k
unknown_if_arm-roll at cond body k =
    let is = ap (λ all. in_all misses all k) (names.if_arm_names-roll at cond body) in
    omega (arith, is, in_all-append misses (expr_names cond) (block_names body) k)

pub unknown_func-is : (func : FuncTree) (k : ℕ)
    → unknown_func func k
    ≡ misses func.word k + unknown_written func.written k + in_all unknown_param func.params k
    + in_option unknown_type func.result k + unknown_block func.body k
unknown_func-is func k =
    let is = ap (λ all. in_all misses all k) (names.func_names-is func) in
    omega (
      arith,
      is,
      in_all-cons misses func.word (written_names func.written ++ flat_map param_names func.params
          ++ unwrap_or (option_map type_names func.result) [] ++ block_names func.body) k,
      in_all-append misses (written_names func.written ++ flat_map param_names func.params
          ++ unwrap_or (option_map type_names func.result) []) (block_names func.body) k,
      in_all-append misses (written_names func.written ++ flat_map param_names func.params)
          (unwrap_or (option_map type_names func.result) []) k,
      in_all-append misses (written_names func.written) (flat_map param_names func.params) k,
      in_all-flat_map misses param_names func.params k,
      in_all-option misses type_names func.result k,
    )

pub unknown_prop-is : (prop : PropTree) (k : ℕ)
    → unknown_prop prop k
    ≡ misses prop.word k + unknown_written prop.written k + in_option unknown_type prop.ty k
    + in_option unknown_expr prop.value k
unknown_prop-is prop k =
    let is = ap (λ all. in_all misses all k) (names.prop_names-is prop) in
    omega (
      arith,
      is,
      in_all-cons misses prop.word (written_names prop.written
          ++ unwrap_or (option_map type_names prop.ty) []
          ++ unwrap_or (option_map expr_names prop.value) []) k,
      in_all-append misses (written_names prop.written
          ++ unwrap_or (option_map type_names prop.ty) [])
          (unwrap_or (option_map expr_names prop.value) []) k,
      in_all-append misses (written_names prop.written)
          (unwrap_or (option_map type_names prop.ty) []) k,
      in_all-option misses type_names prop.ty k,
      in_all-option misses expr_names prop.value k,
    )

pub unknown_init-is : (init : InitTree) (k : ℕ)
    → unknown_init init k ≡ in_all unknown_param init.params k + unknown_block init.body k
unknown_init-is init k =
    let is = ap (λ all. in_all misses all k) (names.init_names-is init) in
    omega (
      arith,
      is,
      in_all-append misses (flat_map param_names init.params) (block_names init.body) k,
      in_all-flat_map misses param_names init.params k,
    )

pub unknown_decl-Entry : (word : Name) (written : Written) (at : ℕ) (is_async : Bool) (body : Block)
    (k : ℕ)
    → unknown_decl (decls.Entry word written at is_async body) k
    ≡ misses word k + unknown_written written k + unknown_block body k
unknown_decl-Entry word written at is_async body k =
    let is = ap (λ all. in_all misses all k)
    (names.decl_names-Entry word written at is_async body) in
    omega (
      arith,
      is,
      in_all-cons misses word (written_names written ++ block_names body) k,
      in_all-append misses (written_names written) (block_names body) k,
    )

pub unknown_decl-Struct : (word : Name) (conforms : Bool) (fields : List PropTree)
    (funcs : List FuncTree) (k : ℕ)
    → unknown_decl (decls.Struct word conforms fields funcs) k
    ≡ misses word k + in_all unknown_prop fields k + in_all unknown_func funcs k
unknown_decl-Struct word conforms fields funcs k =
    let is = ap (λ all. in_all misses all k) (names.decl_names-Struct word conforms fields funcs) in
    omega (
      arith,
      is,
      in_all-cons misses word (flat_map prop_names fields ++ flat_map func_names funcs) k,
      in_all-append misses (flat_map prop_names fields) (flat_map func_names funcs) k,
      in_all-flat_map misses prop_names fields k,
      in_all-flat_map misses func_names funcs k,
    )

pub unknown_decl-Enum : (word : Name) (conforms : Bool) (cases : List CaseTree)
    (funcs : List FuncTree) (k : ℕ)
    → unknown_decl (decls.Enum word conforms cases funcs) k
    ≡ misses word k + in_all unknown_case cases k + in_all unknown_func funcs k
unknown_decl-Enum word conforms cases funcs k =
    let is = ap (λ all. in_all misses all k) (names.decl_names-Enum word conforms cases funcs) in
    omega (
      arith,
      is,
      in_all-cons misses word (flat_map case_names cases ++ flat_map func_names funcs) k,
      in_all-append misses (flat_map case_names cases) (flat_map func_names funcs) k,
      in_all-flat_map misses case_names cases k,
      in_all-flat_map misses func_names funcs k,
    )

pub unknown_decl-Class : (written : Written) (word : Name) (conforms : Bool) (props : List PropTree)
    (inits : List InitTree) (funcs : List FuncTree) (k : ℕ)
    → unknown_decl (decls.Class written word conforms props inits funcs) k
    ≡ misses word k + unknown_written written k + in_all unknown_prop props k
    + in_all unknown_init inits k + in_all unknown_func funcs k
unknown_decl-Class written word conforms props inits funcs k =
    let is = ap (λ all. in_all misses all k)
    (names.decl_names-Class written word conforms props inits funcs) in
    omega (
      arith,
      is,
      in_all-cons misses word (written_names written ++ flat_map prop_names props
          ++ flat_map init_names inits ++ flat_map func_names funcs) k,
      in_all-append misses (written_names written ++ flat_map prop_names props
          ++ flat_map init_names inits) (flat_map func_names funcs) k,
      in_all-append misses (written_names written ++ flat_map prop_names props)
          (flat_map init_names inits) k,
      in_all-append misses (written_names written) (flat_map prop_names props) k,
      in_all-flat_map misses prop_names props k,
      in_all-flat_map misses init_names inits k,
      in_all-flat_map misses func_names funcs k,
    )

pub unknown_decl-Actor : (word : Name) (props : List PropTree) (inits : List InitTree)
    (funcs : List FuncTree) (k : ℕ)
    → unknown_decl (decls.Actor word props inits funcs) k
    ≡ misses word k + in_all unknown_prop props k + in_all unknown_init inits k
    + in_all unknown_func funcs k
unknown_decl-Actor word props inits funcs k =
    let is = ap (λ all. in_all misses all k) (names.decl_names-Actor word props inits funcs) in
    omega (
      arith,
      is,
      in_all-cons misses word (flat_map prop_names props ++ flat_map init_names inits
          ++ flat_map func_names funcs) k,
      in_all-append misses (flat_map prop_names props ++ flat_map init_names inits)
          (flat_map func_names funcs) k,
      in_all-append misses (flat_map prop_names props) (flat_map init_names inits) k,
      in_all-flat_map misses prop_names props k,
      in_all-flat_map misses init_names inits k,
      in_all-flat_map misses func_names funcs k,
    )

pub unknown_decl-GlobalActor : (word made : Name) (k : ℕ)
    → unknown_decl (decls.GlobalActor word made) k ≡ misses word k + misses made k
unknown_decl-GlobalActor word made k =
    let is = ap (λ all. in_all misses all k) (names.decl_names-GlobalActor word made) in
    omega (
      arith,
      is,
      in_all-cons misses word (made ∷ []) k,
      in_all-cons misses made ([]) k,
      in_all-nil misses k,
    )

pub unknown_decl-Func : (func : FuncTree) (k : ℕ)
    → unknown_decl (decls.Func func) k ≡ unknown_func func k
unknown_decl-Func func k =
    let is = ap (λ all. in_all misses all k) (names.decl_names-Func func) in
    omega (arith, is)

pub unknown_decl-Global : (prop : PropTree) (k : ℕ)
    → unknown_decl (decls.Global prop) k ≡ unknown_prop prop k
unknown_decl-Global prop k =
    let is = ap (λ all. in_all misses all k) (names.decl_names-Global prop) in
    omega (arith, is)

pub unknown_pattern-Skip : (at k : ℕ) → unknown_pattern (patterns.Skip at) k ≡ 0
unknown_pattern-Skip at k = in_all-nil misses k

pub unknown_pattern-Let : (name : Name) (k : ℕ)
    → unknown_pattern (patterns.Let name) k ≡ misses name k
unknown_pattern-Let name k = omega (arith, in_all-cons misses name [] k, in_all-nil misses k)

pub unknown_closure_param-is : (param : ClosureParam) (k : ℕ)
    → unknown_closure_param param k ≡ misses param.name k + unknown_type param.ty k
unknown_closure_param-is param k = in_all-cons misses param.name (type_names param.ty) k

pub unknown_param-is : (param : ParamTree) (k : ℕ)
    → unknown_param param k ≡ misses param.name k + in_option misses param.label k + unknown_type
    param.ty k
unknown_param-is param k =
    omega (
      arith,
      in_all-cons misses param.name (option_to_list param.label
          ++ type_names param.ty) k,
      in_all-append misses (option_to_list param.label) (type_names param.ty) k,
      in_all-option_to_list misses param.label k,
    )

pub unknown_case-is : (case : CaseTree) (k : ℕ)
    → unknown_case case k ≡ misses case.word k + in_all unknown_type case.types k
unknown_case-is case k =
    omega (
      arith,
      in_all-cons misses case.word (flat_map type_names case.types) k,
      in_all-flat_map misses type_names case.types k,
    )

pub unknown_written-At : (name : Name) (k : ℕ)
    → unknown_written (writtens.At name) k ≡ misses name k
unknown_written-At name k = omega (arith, in_all-cons misses name [] k, in_all-nil misses k)

-- of a whole program
pub unknown_decls : (decls : List Decl) (k : ℕ)
    → in_all misses (names_in decls) k ≡ in_all unknown_decl decls k
unfolding names_in
unknown_decls decls k = in_all-flat_map misses decl_names decls k

known_each : (texts : ℕ) (names : List Name) → in_all misses names texts ≡ 0
    → AllByRecursion (λ name. name.id < texts) names
unfolding in_all misses
known_each texts [] none = tt
known_each texts (name ∷ names) none =
    (grind (arith, common_steps), known_each texts names (omega arith))

-- where none is without a text, each has one
pub All-known : (texts : ℕ) (names : List Name) → in_all misses names texts ≡ 0
    → All (λ name. name.id < texts) names
All-known texts names none =
    All-from_recursion (λ name. name.id < texts) names (known_each texts names none)
