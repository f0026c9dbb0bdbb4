-- How often an offset stands among the keys of each form of node and of declaration.
use Rattle.std.proofs.Common.{◌≡◌, ℕ, ℤ, ◌+◌, Bool, List, [], ◌++◌, map, flat_map, Option}
use Rattle.std.proofs.Common.{option_map, unwrap_or, ap}
use Rattle.std.proofs.Common.{arith}
use Rattle.sw_tree.proofs.Counting.{Weight, hits, in_all, in_option, in_all-nil, in_all-cons}
use Rattle.sw_tree.proofs.Counting.{in_all-append, in_all-map}
use Rattle.sw_tree.proofs.Counting.{in_all-flat_map, in_all-joined, in_all-option}
use Rattle.sw_tree.proofs.KeyEquations as keys
use Rattle.sw_tree.specs.Keys.{joined, expr_keys, stmt_keys, arg_keys, closure_keys, link_keys}
use Rattle.sw_tree.specs.Keys.{block_keys, case_arm_keys, if_arm_keys, pattern_keys, func_keys}
use Rattle.sw_tree.specs.Keys.{prop_keys, init_keys, decl_keys, keys_of}
use Rattle.sw_tree.specs.declared.expr.Arg.{Arg, roll-Arg}
use Rattle.sw_tree.specs.declared.expr.Closure.{Closure, roll-Closure}
use Rattle.sw_tree.specs.declared.expr.ClosureParam.{ClosureParam}
use Rattle.sw_tree.specs.declared.expr.Expr.{Expr}
use Rattle.sw_tree.specs.declared.expr.Expr.TheVariants as exprs
use Rattle.sw_tree.specs.declared.expr.Link.{Link, roll-Link}
use Rattle.sw_tree.specs.declared.name.Name.{Name}
use Rattle.sw_tree.specs.declared.operator.AssignOp.{AssignOp}
use Rattle.sw_tree.specs.declared.operator.InfixOp.{InfixOp}
use Rattle.sw_tree.specs.declared.operator.PrefixOp.{PrefixOp}
use Rattle.sw_tree.specs.declared.stmt.Block.{Block, roll-Block}
use Rattle.sw_tree.specs.declared.stmt.CaseArm.{CaseArm, roll-CaseArm}
use Rattle.sw_tree.specs.declared.stmt.IfArm.{IfArm, roll-IfArm}
use Rattle.sw_tree.specs.declared.stmt.Pattern.{Pattern}
use Rattle.sw_tree.specs.declared.stmt.Pattern.TheVariants as patterns
use Rattle.sw_tree.specs.declared.stmt.Stmt.{Stmt}
use Rattle.sw_tree.specs.declared.stmt.Stmt.TheVariants as stmts
use Rattle.sw_tree.specs.declared.type_tree.TypeTree.{TypeTree}
use Rattle.sw_tree.specs.declared.decl.CaseTree.{CaseTree}
use Rattle.sw_tree.specs.declared.decl.Decl.{Decl}
use Rattle.sw_tree.specs.declared.decl.Decl.TheVariants as decls
use Rattle.sw_tree.specs.declared.decl.FuncTree.{FuncTree}
use Rattle.sw_tree.specs.declared.decl.InitTree.{InitTree}
use Rattle.sw_tree.specs.declared.decl.ParamTree.{ParamTree}
use Rattle.sw_tree.specs.declared.decl.PropTree.{PropTree}
use Rattle.sw_tree.specs.declared.decl.Written.{Written}

abbrev pub in_expr : Expr → Weight
in_expr expr = in_all hits (expr_keys expr)

abbrev pub in_stmt : Stmt → Weight
in_stmt stmt = in_all hits (stmt_keys stmt)

abbrev pub in_arg : Arg → Weight
in_arg arg = in_all hits (arg_keys arg)

abbrev pub in_closure : Closure → Weight
in_closure closure = in_all hits (closure_keys closure)

abbrev pub in_link : Link → Weight
in_link link = in_all hits (link_keys link)

abbrev pub in_block : Block → Weight
in_block block = in_all hits (block_keys block)

abbrev pub in_case_arm : CaseArm → Weight
in_case_arm arm = in_all hits (case_arm_keys arm)

abbrev pub in_if_arm : IfArm → Weight
in_if_arm arm = in_all hits (if_arm_keys arm)

abbrev pub in_pattern : Pattern → Weight
in_pattern pattern = in_all hits (pattern_keys pattern)

abbrev pub in_func : FuncTree → Weight
in_func func = in_all hits (func_keys func)

abbrev pub in_prop : PropTree → Weight
in_prop prop = in_all hits (prop_keys prop)

abbrev pub in_init : InitTree → Weight
in_init init = in_all hits (init_keys init)

abbrev pub in_decl : Decl → Weight
in_decl decl = in_all hits (decl_keys decl)

abbrev pub in_name : Name → Weight
in_name name = hits name.at

abbrev pub in_closure_param : ClosureParam → Weight
in_closure_param param = hits param.name.at

abbrev pub in_param : ParamTree → Weight
in_param param = hits param.name.at

pub in_expr-Int : (at : ℕ) (value : ℤ) (k : ℕ) → in_expr (exprs.Int at value) k ≡ hits at k
in_expr-Int at value k =
    let is = ap (λ all. in_all hits all k) (keys.expr_keys-Int at value) in
    omega (arith, is, in_all-cons hits at ([]) k, in_all-nil hits k)

pub in_expr-Bool : (at : ℕ) (value : Bool) (k : ℕ) → in_expr (exprs.Bool at value) k ≡ hits at k
in_expr-Bool at value k =
    let is = ap (λ all. in_all hits all k) (keys.expr_keys-Bool at value) in
    omega (arith, is, in_all-cons hits at ([]) k, in_all-nil hits k)

pub in_expr-Use : (name : Name) (k : ℕ) → in_expr (exprs.Use name) k ≡ hits name.at k
in_expr-Use name k =
    let is = ap (λ all. in_all hits all k) (keys.expr_keys-Use name) in
    omega (arith, is, in_all-cons hits name.at ([]) k, in_all-nil hits k)

pub in_expr-Me : (at : ℕ) (k : ℕ) → in_expr (exprs.Me at) k ≡ hits at k
in_expr-Me at k =
    let is = ap (λ all. in_all hits all k) (keys.expr_keys-Me at) in
    omega (arith, is, in_all-cons hits at ([]) k, in_all-nil hits k)

pub in_expr-Member : (base : Expr) (name : Name) (k : ℕ)
    → in_expr (exprs.Member base name) k ≡ hits name.at k + in_expr base k
in_expr-Member base name k =
    let is = ap (λ all. in_all hits all k) (keys.expr_keys-Member base name) in
    omega (arith, is, in_all-cons hits name.at (expr_keys base) k)

pub in_expr-Call : (name : Name) (args : List Arg) (k : ℕ)
    → in_expr (exprs.Call name args) k ≡ hits name.at k + in_all in_arg args k
in_expr-Call name args k =
    let is = ap (λ all. in_all hits all k) (keys.expr_keys-Call name args) in
    omega (
      arith,
      is,
      in_all-cons hits name.at (joined (map arg_keys args)) k,
      in_all-joined hits arg_keys args k,
    )

pub in_expr-Method : (base : Expr) (name : Name) (args : List Arg) (k : ℕ)
    → in_expr (exprs.Method base name args) k
    ≡ hits name.at k + in_expr base k + in_all in_arg args k
in_expr-Method base name args k =
    let is = ap (λ all. in_all hits all k) (keys.expr_keys-Method base name args) in
    omega (
      arith,
      is,
      in_all-cons hits name.at (expr_keys base ++ joined (map arg_keys args)) k,
      in_all-append hits (expr_keys base) (joined (map arg_keys args)) k,
      in_all-joined hits arg_keys args k,
    )

pub in_expr-Chain : (first : Expr) (rest : List Link) (k : ℕ)
    → in_expr (exprs.Chain first rest) k ≡ in_expr first k + in_all in_link rest k
in_expr-Chain first rest k =
    let is = ap (λ all. in_all hits all k) (keys.expr_keys-Chain first rest) in
    omega (
      arith,
      is,
      in_all-append hits (expr_keys first) (joined (map link_keys rest)) k,
      in_all-joined hits link_keys rest k,
    )

pub in_expr-Prefix : (op : PrefixOp) (at : ℕ) (inner : Expr) (k : ℕ)
    → in_expr (exprs.Prefix op at inner) k ≡ hits at k + in_expr inner k
in_expr-Prefix op at inner k =
    let is = ap (λ all. in_all hits all k) (keys.expr_keys-Prefix op at inner) in
    omega (arith, is, in_all-cons hits at (expr_keys inner) k)

pub in_expr-Await : (at : ℕ) (inner : Expr) (k : ℕ)
    → in_expr (exprs.Await at inner) k ≡ hits at k + in_expr inner k
in_expr-Await at inner k =
    let is = ap (λ all. in_all hits all k) (keys.expr_keys-Await at inner) in
    omega (arith, is, in_all-cons hits at (expr_keys inner) k)

pub in_expr-Fun : (closure : Closure) (k : ℕ) → in_expr (exprs.Fun closure) k ≡ in_closure closure k
in_expr-Fun closure k =
    let is = ap (λ all. in_all hits all k) (keys.expr_keys-Fun closure) in
    omega (arith, is)

pub in_expr-Spawn : (at : ℕ) (detached : Bool) (body : Closure) (k : ℕ)
    → in_expr (exprs.Spawn at detached body) k ≡ hits at k + in_closure body k
in_expr-Spawn at detached body k =
    let is = ap (λ all. in_all hits all k) (keys.expr_keys-Spawn at detached body) in
    omega (arith, is, in_all-cons hits at (closure_keys body) k)

pub in_expr-Yield : (at : ℕ) (k : ℕ) → in_expr (exprs.Yield at) k ≡ hits at k
in_expr-Yield at k =
    let is = ap (λ all. in_all hits all k) (keys.expr_keys-Yield at) in
    omega (arith, is, in_all-cons hits at ([]) k, in_all-nil hits k)

pub in_stmt-Bind : (mutable : Bool) (name : Name) (ty : Option TypeTree) (value : Expr) (k : ℕ)
    → in_stmt (stmts.Bind mutable name ty value) k ≡ hits name.at k + in_expr value k
in_stmt-Bind mutable name ty value k =
    let is = ap (λ all. in_all hits all k) (keys.stmt_keys-Bind mutable name ty value) in
    omega (arith, is, in_all-cons hits name.at (expr_keys value) k)

pub in_stmt-Assign : (at : ℕ) (op : AssignOp) (place value : Expr) (k : ℕ)
    → in_stmt (stmts.Assign at op place value) k ≡ hits at k + in_expr place k + in_expr value k
in_stmt-Assign at op place value k =
    let is = ap (λ all. in_all hits all k) (keys.stmt_keys-Assign at op place value) in
    omega (
      arith,
      is,
      in_all-cons hits at (expr_keys place ++ expr_keys value) k,
      in_all-append hits (expr_keys place) (expr_keys value) k,
    )

pub in_stmt-Discard : (at : ℕ) (value : Expr) (k : ℕ)
    → in_stmt (stmts.Discard at value) k ≡ hits at k + in_expr value k
in_stmt-Discard at value k =
    let is = ap (λ all. in_all hits all k) (keys.stmt_keys-Discard at value) in
    omega (arith, is, in_all-cons hits at (expr_keys value) k)

pub in_stmt-If : (arms : List IfArm) (otherwise : Option Block) (k : ℕ)
    → in_stmt (stmts.If arms otherwise) k ≡ in_all in_if_arm arms k + in_option in_block otherwise k
in_stmt-If arms otherwise k =
    let is = ap (λ all. in_all hits all k) (keys.stmt_keys-If arms otherwise) in
    omega (
      arith,
      is,
      in_all-append hits (joined (map if_arm_keys arms))
          (unwrap_or (option_map block_keys otherwise) []) k,
      in_all-joined hits if_arm_keys arms k,
      in_all-option hits block_keys otherwise k,
    )

pub in_stmt-While : (at : ℕ) (cond : Expr) (body : Block) (k : ℕ)
    → in_stmt (stmts.While at cond body) k ≡ hits at k + in_expr cond k + in_block body k
in_stmt-While at cond body k =
    let is = ap (λ all. in_all hits all k) (keys.stmt_keys-While at cond body) in
    omega (
      arith,
      is,
      in_all-cons hits at (expr_keys cond ++ block_keys body) k,
      in_all-append hits (expr_keys cond) (block_keys body) k,
    )

pub in_stmt-Switch : (at : ℕ) (subject : Expr) (arms : List CaseArm) (otherwise : Option Block)
    (k : ℕ)
    → in_stmt (stmts.Switch at subject arms otherwise) k
    ≡ hits at k + in_expr subject k + in_all in_case_arm arms k + in_option in_block otherwise k
in_stmt-Switch at subject arms otherwise k =
    let is = ap (λ all. in_all hits all k) (keys.stmt_keys-Switch at subject arms otherwise) in
    omega (
      arith,
      is,
      in_all-cons hits at (expr_keys subject ++ joined (map case_arm_keys arms)
          ++ unwrap_or (option_map block_keys otherwise) []) k,
      in_all-append hits (expr_keys subject ++ joined (map case_arm_keys arms))
          (unwrap_or (option_map block_keys otherwise) []) k,
      in_all-append hits (expr_keys subject) (joined (map case_arm_keys arms)) k,
      in_all-joined hits case_arm_keys arms k,
      in_all-option hits block_keys otherwise k,
    )

pub in_stmt-Return : (at : ℕ) (value : Option Expr) (k : ℕ)
    → in_stmt (stmts.Return at value) k ≡ hits at k + in_option in_expr value k
in_stmt-Return at value k =
    let is = ap (λ all. in_all hits all k) (keys.stmt_keys-Return at value) in
    omega (
      arith,
      is,
      in_all-cons hits at (unwrap_or (option_map expr_keys value) []) k,
      in_all-option hits expr_keys value k,
    )

pub in_stmt-Break : (at : ℕ) (k : ℕ) → in_stmt (stmts.Break at) k ≡ hits at k
in_stmt-Break at k =
    let is = ap (λ all. in_all hits all k) (keys.stmt_keys-Break at) in
    omega (arith, is, in_all-cons hits at ([]) k, in_all-nil hits k)

pub in_stmt-Continue : (at : ℕ) (k : ℕ) → in_stmt (stmts.Continue at) k ≡ hits at k
in_stmt-Continue at k =
    let is = ap (λ all. in_all hits all k) (keys.stmt_keys-Continue at) in
    omega (arith, is, in_all-cons hits at ([]) k, in_all-nil hits k)

pub in_stmt-Plain : (value : Expr) (k : ℕ) → in_stmt (stmts.Plain value) k ≡ in_expr value k
in_stmt-Plain value k =
    let is = ap (λ all. in_all hits all k) (keys.stmt_keys-Plain value) in
    omega (arith, is)

pub in_arg-roll : (label : Option Name) (value : Expr) (k : ℕ)
    → in_arg (roll-Arg (record { label = label; value = value })) k ≡ in_expr value k
in_arg-roll label value k =
    let is = ap (λ all. in_all hits all k) (keys.arg_keys-roll label value) in
    omega (arith, is)

pub in_closure-roll : (at : ℕ) (mark : Option Name) (captures : List Name)
    (params : List ClosureParam) (result : Option TypeTree) (body : Block) (k : ℕ)
    → in_closure (roll-Closure (record {
      at = at;
      mark = mark;
      captures = captures;
      params = params;
      result = result;
      body = body;
    })) k
    ≡ hits at k + in_all in_name captures k + in_all in_closure_param params k + in_block body k
in_closure-roll at mark captures params result body k =
    let is = ap (λ all. in_all hits all k)
    (keys.closure_keys-roll at mark captures params result body) in
    omega (
      arith,
      is,
      in_all-cons hits at (map (λ word. word.at) captures ++ map (λ param. param.name.at) params
          ++ block_keys body) k,
      in_all-append hits (map (λ word. word.at) captures ++ map (λ param. param.name.at) params)
          (block_keys body) k,
      in_all-append hits (map (λ word. word.at) captures) (map (λ param. param.name.at) params) k,
      in_all-map hits (λ word. word.at) captures k,
      in_all-map hits (λ param. param.name.at) params k,
    )

pub in_link-roll : (op : InfixOp) (at : ℕ) (operand : Expr) (k : ℕ)
    → in_link (roll-Link (record { op = op; at = at; operand = operand })) k
    ≡ hits at k + in_expr operand k
in_link-roll op at operand k =
    let is = ap (λ all. in_all hits all k) (keys.link_keys-roll op at operand) in
    omega (arith, is, in_all-cons hits at (expr_keys operand) k)

pub in_block-roll : (stmts : List Stmt) (k : ℕ)
    → in_block (roll-Block (record { stmts = stmts })) k ≡ in_all in_stmt stmts k
in_block-roll stmts k =
    let is = ap (λ all. in_all hits all k) (keys.block_keys-roll stmts) in
    omega (arith, is, in_all-joined hits stmt_keys stmts k)

pub in_case_arm-roll : (name : Name) (patterns : List Pattern) (body : Block) (k : ℕ)
    → in_case_arm (roll-CaseArm (record { name = name; patterns = patterns; body = body })) k
    ≡ in_all in_pattern patterns k + in_block body k
in_case_arm-roll name patterns body k =
    let is = ap (λ all. in_all hits all k) (keys.case_arm_keys-roll name patterns body) in
    omega (
      arith,
      is,
      in_all-append hits (flat_map pattern_keys patterns) (block_keys body) k,
      in_all-flat_map hits pattern_keys patterns k,
    )

pub in_if_arm-roll : (at : ℕ) (cond : Expr) (body : Block) (k : ℕ)
    → in_if_arm (roll-IfArm (record { at = at; cond = cond; body = body })) k
    ≡ hits at k + in_expr cond k + in_block body k
in_if_arm-roll at cond body k =
    let is = ap (λ all. in_all hits all k) (keys.if_arm_keys-roll at cond body) in
    omega (
      arith,
      is,
      in_all-cons hits at (expr_keys cond ++ block_keys body) k,
      in_all-append hits (expr_keys cond) (block_keys body) k,
    )

pub in_func-is : (func : FuncTree) (k : ℕ)
    → in_func func k ≡ hits func.word.at k + in_all in_param func.params k + in_block func.body k
in_func-is func k =
    let is = ap (λ all. in_all hits all k) (keys.func_keys-is func) in
    omega (
      arith,
      is,
      in_all-cons hits func.word.at (map (λ param. param.name.at) func.params
          ++ block_keys func.body) k,
      in_all-append hits (map (λ param. param.name.at) func.params) (block_keys func.body) k,
      in_all-map hits (λ param. param.name.at) func.params k,
    )

pub in_prop-is : (prop : PropTree) (k : ℕ)
    → in_prop prop k ≡ hits prop.word.at k + in_option in_expr prop.value k
in_prop-is prop k =
    let is = ap (λ all. in_all hits all k) (keys.prop_keys-is prop) in
    omega (
      arith,
      is,
      in_all-cons hits prop.word.at (unwrap_or (option_map expr_keys prop.value) []) k,
      in_all-option hits expr_keys prop.value k,
    )

pub in_init-is : (init : InitTree) (k : ℕ)
    → in_init init k ≡ hits init.at k + in_all in_param init.params k + in_block init.body k
in_init-is init k =
    let is = ap (λ all. in_all hits all k) (keys.init_keys-is init) in
    omega (
      arith,
      is,
      in_all-cons hits init.at (map (λ param. param.name.at) init.params ++ block_keys init.body) k,
      in_all-append hits (map (λ param. param.name.at) init.params) (block_keys init.body) k,
      in_all-map hits (λ param. param.name.at) init.params k,
    )

pub in_decl-Entry : (word : Name) (written : Written) (at : ℕ) (is_async : Bool) (body : Block)
    (k : ℕ)
    → in_decl (decls.Entry word written at is_async body) k ≡ hits at k + in_block body k
in_decl-Entry word written at is_async body k =
    let is = ap (λ all. in_all hits all k) (keys.decl_keys-Entry word written at is_async body) in
    omega (arith, is, in_all-cons hits at (block_keys body) k)

pub in_decl-Struct : (word : Name) (conforms : Bool) (fields : List PropTree)
    (funcs : List FuncTree) (k : ℕ)
    → in_decl (decls.Struct word conforms fields funcs) k
    ≡ hits word.at k + in_all in_prop fields k + in_all in_func funcs k
in_decl-Struct word conforms fields funcs k =
    let is = ap (λ all. in_all hits all k) (keys.decl_keys-Struct word conforms fields funcs) in
    omega (
      arith,
      is,
      in_all-cons hits word.at (flat_map prop_keys fields ++ flat_map func_keys funcs) k,
      in_all-append hits (flat_map prop_keys fields) (flat_map func_keys funcs) k,
      in_all-flat_map hits prop_keys fields k,
      in_all-flat_map hits func_keys funcs k,
    )

pub in_decl-Enum : (word : Name) (conforms : Bool) (cases : List CaseTree) (funcs : List FuncTree)
    (k : ℕ)
    → in_decl (decls.Enum word conforms cases funcs) k ≡ hits word.at k + in_all in_func funcs k
in_decl-Enum word conforms cases funcs k =
    let is = ap (λ all. in_all hits all k) (keys.decl_keys-Enum word conforms cases funcs) in
    omega (
      arith,
      is,
      in_all-cons hits word.at (flat_map func_keys funcs) k,
      in_all-flat_map hits func_keys funcs k,
    )

pub in_decl-Class : (written : Written) (word : Name) (conforms : Bool) (props : List PropTree)
    (inits : List InitTree) (funcs : List FuncTree) (k : ℕ)
    → in_decl (decls.Class written word conforms props inits funcs) k
    ≡ hits word.at k + in_all in_prop props k + in_all in_init inits k + in_all in_func funcs k
in_decl-Class written word conforms props inits funcs k =
    let is = ap (λ all. in_all hits all k)
    (keys.decl_keys-Class written word conforms props inits funcs) in
    omega (
      arith,
      is,
      in_all-cons hits word.at (flat_map prop_keys props ++ flat_map init_keys inits
          ++ flat_map func_keys funcs) k,
      in_all-append hits (flat_map prop_keys props ++ flat_map init_keys inits)
          (flat_map func_keys funcs) k,
      in_all-append hits (flat_map prop_keys props) (flat_map init_keys inits) k,
      in_all-flat_map hits prop_keys props k,
      in_all-flat_map hits init_keys inits k,
      in_all-flat_map hits func_keys funcs k,
    )

pub in_decl-Actor : (word : Name) (props : List PropTree) (inits : List InitTree)
    (funcs : List FuncTree) (k : ℕ)
    → in_decl (decls.Actor word props inits funcs) k
    ≡ hits word.at k + in_all in_prop props k + in_all in_init inits k + in_all in_func funcs k
in_decl-Actor word props inits funcs k =
    let is = ap (λ all. in_all hits all k) (keys.decl_keys-Actor word props inits funcs) in
    omega (
      arith,
      is,
      in_all-cons hits word.at (flat_map prop_keys props ++ flat_map init_keys inits
          ++ flat_map func_keys funcs) k,
      in_all-append hits (flat_map prop_keys props ++ flat_map init_keys inits)
          (flat_map func_keys funcs) k,
      in_all-append hits (flat_map prop_keys props) (flat_map init_keys inits) k,
      in_all-flat_map hits prop_keys props k,
      in_all-flat_map hits init_keys inits k,
      in_all-flat_map hits func_keys funcs k,
    )

pub in_decl-GlobalActor : (word made : Name) (k : ℕ)
    → in_decl (decls.GlobalActor word made) k ≡ hits word.at k
in_decl-GlobalActor word made k =
    let is = ap (λ all. in_all hits all k) (keys.decl_keys-GlobalActor word made) in
    omega (arith, is, in_all-cons hits word.at ([]) k, in_all-nil hits k)

pub in_decl-Func : (func : FuncTree) (k : ℕ) → in_decl (decls.Func func) k ≡ in_func func k
in_decl-Func func k =
    let is = ap (λ all. in_all hits all k) (keys.decl_keys-Func func) in
    omega (arith, is)

pub in_decl-Global : (prop : PropTree) (k : ℕ) → in_decl (decls.Global prop) k ≡ in_prop prop k
in_decl-Global prop k =
    let is = ap (λ all. in_all hits all k) (keys.decl_keys-Global prop) in
    omega (arith, is)

pub in_pattern-Skip : (at k : ℕ) → in_pattern (patterns.Skip at) k ≡ 0
in_pattern-Skip at k = in_all-nil hits k

pub in_pattern-Let : (name : Name) (k : ℕ) → in_pattern (patterns.Let name) k ≡ hits name.at k
in_pattern-Let name k = omega (arith, in_all-cons hits name.at [] k, in_all-nil hits k)

-- of a whole program
pub in_decls : (decls : List Decl) (k : ℕ) → in_all hits (keys_of decls) k ≡ in_all in_decl decls k
unfolding keys_of
in_decls decls k = in_all-flat_map hits decl_keys decls k
