-- The work of each expression, of each statement and of each block stands where its code is.
use Rattle.std.proofs.Common.{◌≡◌, ℕ, ℤ, inl, Bool, false, Option, Some, None, option_map}
use Rattle.std.proofs.Common.{List, [], ◌∷◌, ◌++◌, map, flat_map, Contains, refl, ap, sym, ◌∙◌, subst}
use Rattle.std.proofs.Common.{unwrap_or}
use Rattle.std.specs.List.{AllByRecursion}
use Rattle.std.specs.Prelude.{not}
use Rattle.sw_tree.specs.Folds.{Steps, fold_arg, fold_block, fold_case_arm, fold_expr}
use Rattle.sw_tree.specs.Folds.{fold_if_arm, fold_link, fold_stmt}
use Rattle.sw_tree.specs.Keys.{Keys, joined, pattern_keys}
use Rattle.sw_tree.specs.declared.expr.Arg.{Arg, roll-Arg}
use Rattle.sw_tree.specs.declared.expr.Closure.{Closure, out-Closure, out-roll-Closure}
use Rattle.sw_tree.specs.declared.expr.Closure.{roll-out-Closure}
use Rattle.sw_tree.specs.declared.expr.ClosureParam.{ClosureParam}
use Rattle.sw_tree.specs.declared.expr.Expr.{Expr}
use Rattle.sw_tree.specs.declared.expr.Expr.TheOpen as layer
use Rattle.sw_tree.specs.declared.expr.Expr.TheVariants as exprs
use Rattle.sw_tree.specs.declared.expr.Link.{Link, roll-Link}
use Rattle.sw_tree.specs.declared.name.Name.{Name}
use Rattle.sw_tree.specs.declared.operator.AssignOp.{AssignOp}
use Rattle.sw_tree.specs.declared.operator.InfixOp.{InfixOp}
use Rattle.sw_tree.specs.declared.operator.PrefixOp.{PrefixOp}
use Rattle.sw_tree.specs.declared.stmt.Block.{Block, roll-Block}
use Rattle.sw_tree.specs.declared.stmt.CaseArm.{CaseArm, roll-CaseArm}
use Rattle.sw_tree.specs.declared.stmt.IfArm.{IfArm, roll-IfArm}
use Rattle.sw_tree.specs.declared.stmt.Pattern.{Pattern}
use Rattle.sw_tree.specs.declared.stmt.Stmt.{Stmt}
use Rattle.sw_tree.specs.declared.stmt.Stmt.TheVariants as stmts
use Rattle.sw_tree.specs.declared.type_tree.TypeTree.{TypeTree}
use Rattle.sw_tree.proofs.FoldEquations as eq
use Rattle.sw_tree.proofs.TreeInduction.{Cases, Claims, every_block, every_expr}
use Rattle.sw_tree.proofs.TreeInduction.{Given as GivenTree}
use Rattle.sw_tree_facts.specs.Parts as parts
use Rattle.sw_tree_facts.specs.Parts.{IsPart, StandsIn, Tree, of_arg, of_block, of_case_arm, of_closure}
use Rattle.sw_tree_facts.specs.Parts.{of_expr, of_if_arm, of_link, of_stmt}
use Rattle.sw_types.specs.declared.ty.Ty.{Ty, out-Ty}
use Rattle.sw_types.specs.declared.ty.Ty.TheOpen as types
use Rattle.sw_types.specs.declared.ty.Ty.TheVariants as variants
use Rattle.sw_graph.specs.declared.function.Function.{Function}
use Rattle.sw_graph.specs.declared.instr.Operand.{Operand}
use Rattle.sw_typing_rules.specs.Verdicts.{is_unit, unit_layer}
use Rattle.sw_isolation_rules.specs.Noting.{task_result}
use Rattle.sw_lower_plans.specs.Plan.{Numbers, var_in}
use Rattle.sw_lower_code.specs.Code.{Code, all as all_code}
use Rattle.sw_lower_code.specs.Whole.{Body}
use Rattle.sw_lower_rules.specs.Carriers as carriers
use Rattle.sw_lower_rules.specs.Carriers.{ArgCode, BlockCode, CaseCode, ClosureCode, ExprCode, IfCode}
use Rattle.sw_lower_rules.specs.Carriers.{LinkCode, StmtCode}
use Rattle.sw_lower_rules.specs.Expressions.{closure_body, fun_result, spawn_result}
use Rattle.sw_lower_rules.specs.Statements as stmt_code
use Rattle.sw_lower_rules.specs.Statements.{block_code, code_steps, expr_code}
use Rattle.sw_lower_rules.specs.Tables as tables_of
use Rattle.sw_lower_rules.specs.Tables.{Tables, or_void, plain}
use Rattle.sw_tree_work.specs.Facts as facts
use Rattle.sw_tree_work.specs.Forms as forms
use Rattle.sw_tree_work.specs.Forms.{CaseWork, ClosureWork, ExprWork, IfWork, LinkWork, StmtWork, body_work}
use Rattle.sw_tree_work.specs.Forms.{gives_value, in_order}
use Rattle.sw_tree_work.specs.Trees.{block_work, expr_work, work_steps}
use Rattle.sw_tree_work.specs.Work.{Before}
use Rattle.sw_spots.specs.Making.{AreOnce, IsOne}
use Rattle.sw_spots.specs.Doing.{AreUnseen}
use Rattle.sw_spots.specs.Forms.{BlockStands, ExprStands, GivesStand, LinkStands, OnlyStands, StmtStands}
use Rattle.sw_spots.specs.Forms.{ValueStands, facts_of, program}
use Rattle.sw_spots.specs.Spots.{AnyFunction, HasIso, Program, taken_bounds}
use Rattle.sw_spots_expr.proofs.Calls.{ArgsStand}
use Rattle.sw_spots_expr.proofs.Chains.{reads_await, reads_prefix}
use Rattle.sw_spots_expr.proofs.Closures.{BodyThere, reads_fun, reads_spawn}
use Rattle.sw_spots_expr.proofs.Expressions.{bool_stands, call_stands, chain_stands, int_stands}
use Rattle.sw_spots_expr.proofs.Expressions.{member_stands, method_stands, self_stands, value_stands}
use Rattle.sw_spots_expr.proofs.Expressions.{word_stands, yield_stands}
use Rattle.sw_spots_stmt.proofs.Branching.{ArmStands, ElseStands, joins_if}
use Rattle.sw_spots_stmt.proofs.Declaring.{BindsOne, passes_bind}
use Rattle.sw_spots_stmt.proofs.Leaving.{joins_break, joins_continue, joins_return, joins_return_value}
use Rattle.sw_spots_stmt.proofs.Looping.{joins_loop}
use Rattle.sw_spots_stmt.proofs.Stating.{Joins, joins_assign, joins_unused, leaves_scope}
use Rattle.sw_spots_stmt.proofs.Stating.{passes_joined}
use Rattle.sw_spots_stmt.proofs.Switching.{CaseStands, DefaultStands, joins_switch}
use Rattle.sw_spots_body.proofs.Begun.{IsMade, begins_at, closure_bounds}
use Rattle.sw_spots_body.proofs.Ending.{ends_body}
use Rattle.sw_spots_tree.specs.Declared.{block_declared, declared_steps, expr_declared}
use Rattle.sw_spots_tree.specs.Needs.{Needs, params_of}
use Rattle.sw_spots_tree.proofs.Keys.{down, each_first, each_rest, once_apart, once_first, once_rest}
use Rattle.sw_spots_tree.proofs.Keys.{one_first, one_rest, unseen_held}
use Rattle.sw_spots_tree.proofs.Lists.{all_so, args_stand, arms_stand, binds_one, cases_stand, leaves_more}
use Rattle.sw_spots_tree.proofs.Lists.{links_stand, passes_more, patterns_apart, stmts_pass}

-- three things that are equal to three others
three : {A B C : Type 0} (P : A → B → C → Type 0) (a b : A) (c d : B) (e f : C) → a ≡ b → c ≡ d
    → e ≡ f → P b d f → P a c e
three P a b c d e f x y z is =
    subst (λ k. P k c e) (sym x) (subst (λ k. P b k e) (sym y) (subst (P b d) (sym z) is))

-- the result of a closure, and that of a task, as the code and as the work have it
unit_gives : false ≡ not (is_unit variants.Unit)
unit_gives = sym (ap (λ form. not (unit_layer form)) variants.outs-Unit)

layer_gives : (ty : types.Ty-F Ty)
    → gives_value (facts.result_layer ty) ≡ not (is_unit (tables_of.result_layer ty))
layer_gives (types.Func sendable params result) = refl
layer_gives types.Int = unit_gives
layer_gives types.Bool = unit_gives
layer_gives types.Unit = unit_gives
layer_gives (types.Named shape) = unit_gives
layer_gives (types.Task result) = unit_gives

fun_gives : (ty : Option Ty)
    → gives_value (facts.func_result ty) ≡ not (is_unit (tables_of.func_result ty))
fun_gives None = unit_gives
fun_gives (Some ty) = layer_gives (out-Ty ty)

task_gives : (ty : Option Ty) → gives_value ty ≡ not (is_unit (or_void ty))
task_gives None = unit_gives
task_gives (Some ty) = refl

module _ (tables : Tables) (numbers : Numbers) (functions : List Function) (owner : Option ℕ)
    (whole : Tree) (needs : Needs tables.isolation.captures_of whole) where
  abbrev p : Program
  p = program tables numbers functions

  abbrev keys : Steps
  keys = declared_steps

  abbrev codes : Steps
  codes = code_steps tables owner

  abbrev works : Steps
  works = work_steps (facts_of tables) owner

  -- the functions of all bodies inside are made
  abbrev In : List Body → Type 0
  In bodies = AllByRecursion (λ body. IsMade p numbers body) bodies

  abbrev Value : Code Operand → Before → Type 0
  Value read before = ValueStands tables numbers functions read before

  -- what is claimed of each type of tree, by its keys, its code and its work
  abbrev ExprRel : Keys → ExprCode → ExprWork → Type 0
  ExprRel own expr one = AreOnce own → In expr.inside → ExprStands tables numbers functions expr one

  abbrev StmtRel : Keys → StmtCode → StmtWork → Type 0
  StmtRel own stmt one = AreOnce own → In stmt.inside
      → StmtStands tables numbers functions (IsOne own) stmt one

  abbrev BlockRel : Keys → BlockCode → StmtWork → Type 0
  BlockRel own block one = AreOnce own → In block.inside
      → BlockStands tables numbers functions (IsOne own) block one

  abbrev ArgRel : Keys → ArgCode → Before → Type 0
  ArgRel own arg one = AreOnce own → In arg.inside → Value arg.read one

  abbrev LinkRel : Keys → LinkCode → LinkWork → Type 0
  LinkRel own link one = AreOnce own → In link.inside → LinkStands tables numbers functions link one

  abbrev CaseRel : Keys → CaseCode → CaseWork → Type 0
  CaseRel own arm one = AreOnce own → In arm.body.inside
      → CaseStands p numbers tables (IsOne own) arm one

  abbrev IfRel : Keys → IfCode → IfWork → Type 0
  IfRel own arm one = AreOnce own → In arm.inside → ArmStands p numbers (IsOne own) arm one

  abbrev BlockGoes : Block → Type 0
  BlockGoes x = StandsIn (of_block x) whole
      → BlockRel (fold_block keys x) (fold_block codes x) (fold_block works x)

  abbrev claims : Claims
  claims = record {
    expr = λ x. StandsIn (of_expr x) whole
        → ExprRel (fold_expr keys x) (fold_expr codes x) (fold_expr works x);
    stmt = λ x. StandsIn (of_stmt x) whole
        → StmtRel (fold_stmt keys x) (fold_stmt codes x) (fold_stmt works x);
    arg = λ x. StandsIn (of_arg x) whole
        → ArgRel (fold_arg keys x) (fold_arg codes x) (fold_arg works x);
    closure = λ x. BlockGoes (out-Closure x).body;
    link = λ x. StandsIn (of_link x) whole
        → LinkRel (fold_link keys x) (fold_link codes x) (fold_link works x);
    block = BlockGoes;
    case_arm = λ x. StandsIn (of_case_arm x) whole
        → CaseRel (fold_case_arm keys x) (fold_case_arm codes x) (fold_case_arm works x);
    if_arm = λ x. StandsIn (of_if_arm x) whole
        → IfRel (fold_if_arm keys x) (fold_if_arm codes x) (fold_if_arm works x);
  }

  -- lists of parts
  args_so : (args : List Arg) → AllByRecursion claims.arg args
      → ((one : Arg) → Contains args one → StandsIn (of_arg one) whole)
      → AreOnce (joined (map (fold_arg keys) args))
      → In (flat_map (λ (arg : ArgCode). arg.inside) (map (fold_arg codes) args))
      → ArgsStand tables numbers functions (map (fold_arg codes) args) (map (fold_arg works) args)
  args_so args goes stand once are =
      args_stand tables numbers functions (fold_arg codes) (fold_arg works) args
      (all_so whole (λ body. IsMade p numbers body) of_arg (fold_arg keys) (fold_arg codes)
      (λ (arg : ArgCode). arg.inside)
      (λ x. Value (fold_arg codes x).read (fold_arg works x)) args goes stand once are)

  -- the body of a closure, or of a task
  closure_block : (closure : Closure) → claims.closure closure → StandsIn (of_closure closure) whole
      → BlockRel (fold_block keys (out-Closure closure).body)
      (fold_block codes (out-Closure closure).body) (fold_block works (out-Closure closure).body)
  closure_block closure goes stands =
      let out = out-Closure closure in
      goes (down (of_block out.body) (of_closure closure) whole
      (subst (λ c. IsPart (of_block out.body) (of_closure c)) (roll-out-Closure closure)
      (parts.closure_body out.at out.mark out.captures out.params out.result out.body)) stands)

  -- Its function begins with its work.
  body_there : (closure : Closure) (params : List ClosureParam) (Is : Function → Type 0)
      (result : Ty) (given : Option Ty) → StandsIn (of_closure closure) whole
      → map (λ (param : ClosureParam). param.name.at) params ≡ params_of closure
      → gives_value given ≡ not (is_unit result)
      → ((key : ℕ) → IsOne (fold_block keys (out-Closure closure).body) key
      → IsOne (params_of closure) key → ⊥)
      → BlockStands tables numbers functions (IsOne (fold_block keys (out-Closure closure).body))
      (fold_block codes (out-Closure closure).body) (fold_block works (out-Closure closure).body)
      → IsMade p numbers (closure_body tables owner (record {
        at = (out-Closure closure).at;
        params = params;
        body = fold_block codes (out-Closure closure).body;
      }) result)
      → ((f : Function) → f.iso ≡ (facts_of tables).iso_at (out-Closure closure).at → Is f)
      → BodyThere tables numbers functions tables.isolation.captures_of (out-Closure closure).at
      (map (λ (param : ClosureParam). param.name.at) params) Is
      (body_work given (fold_block works (out-Closure closure).body))
  unfolding closure_body block_declared
  body_there closure params Is result given stands same gives apart block made is number named =
      let out = out-Closure closure in
      let captures = tables.isolation.captures_of out.at in
      let keys_of = map (λ (param : ClosureParam). param.name.at) params in
      let bounds = closure_bounds p numbers tables owner 0 captures params in
      begins_at p numbers (closure_body tables owner (record {
        at = out.at;
        params = params;
        body = fold_block codes out.body;
      }) result) (AreUnseen p numbers (IsOne (fold_block keys out.body)))
      (body_work given (fold_block works out.body)) captures keys_of Is number made
      (ends_body tables numbers functions (IsOne (fold_block keys out.body)) result given (fold_block codes out.body)
      (fold_block works out.body) gives block.work block.only)
      (λ s vars key one. ap (var_in key) (vars ∙ bounds
      ∙ ap (taken_bounds 0 captures) same)
      ∙ unseen_held 0 captures (params_of closure) key (needs.closures closure stands key one)
      (apart key one)) bounds is named

  -- expressions with bodies in them
  fun_rel : (closure : Closure) → claims.closure closure → StandsIn (of_closure closure) whole
      → ExprRel (keys.closure (record {
        at = (out-Closure closure).at;
        mark = (out-Closure closure).mark;
        captures = (out-Closure closure).captures;
        params = (out-Closure closure).params;
        result = (out-Closure closure).result;
        body = fold_block keys (out-Closure closure).body;
      })) (codes.expr (layer.Fun (codes.closure (record {
        at = (out-Closure closure).at;
        mark = (out-Closure closure).mark;
        captures = (out-Closure closure).captures;
        params = (out-Closure closure).params;
        result = (out-Closure closure).result;
        body = fold_block codes (out-Closure closure).body;
      })))) (works.expr (layer.Fun (works.closure (record {
        at = (out-Closure closure).at;
        mark = (out-Closure closure).mark;
        captures = (out-Closure closure).captures;
        params = (out-Closure closure).params;
        result = (out-Closure closure).result;
        body = fold_block works (out-Closure closure).body;
      }))))
  fun_rel closure goes stands once are =
      let out = out-Closure closure in
      let own = fold_block keys out.body in
      let block = closure_block closure goes stands (once_rest (params_of closure) own once) are.1 in
      value_stands tables numbers functions owner out.at _ _ _
      (reads_fun tables numbers functions owner (record {
        at = out.at;
        params = out.params;
        body = fold_block codes out.body;
      }) (params_of closure)
      (body_work (facts.func_result (tables.answers.type_at out.at)) (fold_block works out.body))
      (body_there closure out.params AnyFunction (fun_result tables owner out.at)
      (facts.func_result (tables.answers.type_at out.at)) stands refl
      (fun_gives (tables.answers.type_at out.at))
      (λ key one param. once_apart (params_of closure) own once key param one) block are.0
      (λ f same. tt)))

  spawn_rel : (at : ℕ) (detached : Bool) (closure : Closure) → claims.closure closure
      → StandsIn (of_expr (exprs.Spawn at detached closure)) whole
      → ExprRel (keys.expr (layer.Spawn at detached (keys.closure (record {
        at = (out-Closure closure).at;
        mark = (out-Closure closure).mark;
        captures = (out-Closure closure).captures;
        params = (out-Closure closure).params;
        result = (out-Closure closure).result;
        body = fold_block keys (out-Closure closure).body;
      })))) (codes.expr (layer.Spawn at detached (codes.closure (record {
        at = (out-Closure closure).at;
        mark = (out-Closure closure).mark;
        captures = (out-Closure closure).captures;
        params = (out-Closure closure).params;
        result = (out-Closure closure).result;
        body = fold_block codes (out-Closure closure).body;
      })))) (works.expr (layer.Spawn at detached (works.closure (record {
        at = (out-Closure closure).at;
        mark = (out-Closure closure).mark;
        captures = (out-Closure closure).captures;
        params = (out-Closure closure).params;
        result = (out-Closure closure).result;
        body = fold_block works (out-Closure closure).body;
      }))))
  spawn_rel at detached closure goes stands once are =
      let out = out-Closure closure in
      let here = down (of_closure closure) (of_expr (exprs.Spawn at detached closure)) whole
      (parts.spawn_body at detached closure) stands in
      let own = fold_block keys out.body in
      let block = closure_block closure goes here (once_rest (params_of closure) own once) are.1 in
      value_stands tables numbers functions owner at _ _ _
      (reads_spawn tables numbers functions owner at (record {
        at = out.at;
        params = out.params;
        body = fold_block codes out.body;
      }) ((facts_of tables).iso_at out.at)
      (body_work (task_result (tables.answers.type_at at)) (fold_block works out.body))
      (body_there closure [] (HasIso ((facts_of tables).iso_at out.at)) (spawn_result tables owner at)
      (task_result (tables.answers.type_at at)) here
      (ap (map (λ (param : ClosureParam). param.name.at)) (sym (needs.tasks at detached closure stands)))
      (task_gives (task_result (tables.answers.type_at at)))
      (λ key one param. once_apart (params_of closure) own once key param one) block are.0
      (λ f same. same)))

  -- expressions
  int_case : (at : ℕ) (value : ℤ) → claims.expr (exprs.Int at value)
  int_case at value stands =
      three ExprRel _ _ _ _ _ _ (eq.fold_expr-Int keys at value) (eq.fold_expr-Int codes at value)
      (eq.fold_expr-Int works at value) (λ once are. int_stands tables numbers functions owner at value)

  bool_case : (at : ℕ) (value : Bool) → claims.expr (exprs.Bool at value)
  bool_case at value stands =
      three ExprRel _ _ _ _ _ _ (eq.fold_expr-Bool keys at value) (eq.fold_expr-Bool codes at value)
      (eq.fold_expr-Bool works at value)
      (λ once are. bool_stands tables numbers functions owner at value)

  word_case : (name : Name) → claims.expr (exprs.Use name)
  word_case name stands =
      three ExprRel _ _ _ _ _ _ (eq.fold_expr-Use keys name) (eq.fold_expr-Use codes name)
      (eq.fold_expr-Use works name) (λ once are. word_stands tables numbers functions owner name.at)

  me_case : (at : ℕ) → claims.expr (exprs.Me at)
  me_case at stands =
      three ExprRel _ _ _ _ _ _ (eq.fold_expr-Me keys at) (eq.fold_expr-Me codes at)
      (eq.fold_expr-Me works at) (λ once are. self_stands tables numbers functions owner at)

  yield_case : (at : ℕ) → claims.expr (exprs.Yield at)
  yield_case at stands =
      three ExprRel _ _ _ _ _ _ (eq.fold_expr-Yield keys at) (eq.fold_expr-Yield codes at)
      (eq.fold_expr-Yield works at) (λ once are. yield_stands tables numbers functions owner at)

  member_case : (base : Expr) (name : Name) → claims.expr base
      → claims.expr (exprs.Member base name)
  member_case base name goes stands =
      three ExprRel _ _ _ _ _ _ (eq.fold_expr-Member keys base name)
      (eq.fold_expr-Member codes base name) (eq.fold_expr-Member works base name)
      (λ once are. member_stands tables numbers functions owner (fold_expr codes base)
      (fold_expr works base) name
      (goes (down _ _ whole (parts.member_base base name) stands) once are))

  call_case : (name : Name) (args : List Arg) → AllByRecursion claims.arg args
      → claims.expr (exprs.Call name args)
  call_case name args goes stands =
      three ExprRel _ _ _ _ _ _ (eq.fold_expr-Call keys name args)
      (eq.fold_expr-Call codes name args) (eq.fold_expr-Call works name args)
      (λ once are. value_stands tables numbers functions owner name.at _ _ _
      (call_stands tables numbers functions owner name.at (map (fold_arg codes) args)
      (map (fold_arg works) args) []
      (args_so args goes (λ one has. down (of_arg one) _ whole (parts.call_arg name args one has) stands)
      once are)))

  method_case : (base : Expr) (name : Name) (args : List Arg) → claims.expr base
      → AllByRecursion claims.arg args → claims.expr (exprs.Method base name args)
  method_case base name args of_base goes stands =
      let inside = (fold_expr codes base).inside in
      let others = flat_map (λ (arg : ArgCode). arg.inside) (map (fold_arg codes) args) in
      let own = fold_expr keys base in
      let more = joined (map (fold_arg keys) args) in
      three ExprRel _ _ _ _ _ _ (eq.fold_expr-Method keys base name args)
      (eq.fold_expr-Method codes base name args) (eq.fold_expr-Method works base name args)
      (λ once are. value_stands tables numbers functions owner name.at _ _ _
      (method_stands tables numbers functions owner name.at (fold_expr codes base) (fold_expr works base)
      (map (fold_arg codes) args) (map (fold_arg works) args)
      (of_base (down _ _ whole (parts.method_base base name args) stands)
      (once_first own more once) (each_first _ inside others are))
      (args_so args goes
      (λ one has. down (of_arg one) _ whole (parts.method_arg base name args one has) stands)
      (once_rest own more once) (each_rest _ inside others are))))

  chain_case : (first : Expr) (rest : List Link) → claims.expr first
      → AllByRecursion claims.link rest → claims.expr (exprs.Chain first rest)
  chain_case first rest of_first goes stands =
      let inside = (fold_expr codes first).inside in
      let others = flat_map (λ (link : LinkCode). link.inside) (map (fold_link codes) rest) in
      let own = fold_expr keys first in
      let more = joined (map (fold_link keys) rest) in
      three ExprRel _ _ _ _ _ _ (eq.fold_expr-Chain keys first rest)
      (eq.fold_expr-Chain codes first rest) (eq.fold_expr-Chain works first rest)
      (λ once are. chain_stands tables numbers functions owner (fold_expr codes first)
      (fold_expr works first) (map (fold_link codes) rest) (map (fold_link works) rest)
      (of_first (down _ _ whole (parts.chain_first first rest) stands) (once_first own more once)
      (each_first _ inside others are))
      (links_stand tables numbers functions (fold_link codes) (fold_link works) rest
      (all_so whole (λ body. IsMade p numbers body) of_link (fold_link keys) (fold_link codes)
      (λ (link : LinkCode). link.inside)
      (λ x. LinkStands tables numbers functions (fold_link codes x) (fold_link works x)) rest goes
      (λ one has. down (of_link one) _ whole (parts.chain_link first rest one has) stands)
      (once_rest own more once) (each_rest _ inside others are))))

  prefix_case : (op : PrefixOp) (at : ℕ) (inner : Expr) → claims.expr inner
      → claims.expr (exprs.Prefix op at inner)
  prefix_case op at inner goes stands =
      three ExprRel _ _ _ _ _ _ (eq.fold_expr-Prefix keys op at inner)
      (eq.fold_expr-Prefix codes op at inner) (eq.fold_expr-Prefix works op at inner)
      (λ once are. value_stands tables numbers functions owner at _ _ _
      (reads_prefix tables numbers functions op at (fold_expr codes inner).read
      (fold_expr works inner).read
      (goes (down _ _ whole (parts.prefix_inner op at inner) stands) once are).read))

  await_case : (at : ℕ) (inner : Expr) → claims.expr inner → claims.expr (exprs.Await at inner)
  await_case at inner goes stands =
      three ExprRel _ _ _ _ _ _ (eq.fold_expr-Await keys at inner)
      (eq.fold_expr-Await codes at inner) (eq.fold_expr-Await works at inner)
      (λ once are. value_stands tables numbers functions owner at _ _ _
      (reads_await tables numbers functions at (fold_expr codes inner).read
      (fold_expr works inner).read
      (goes (down _ _ whole (parts.await_inner at inner) stands) once are).read))

  fun_case : (closure : Closure) → claims.closure closure → claims.expr (exprs.Fun closure)
  fun_case closure goes stands =
      three ExprRel _ _ _ _ _ _
      (eq.fold_expr-Fun keys closure ∙ eq.fold_closure-out keys closure)
      (eq.fold_expr-Fun codes closure
      ∙ ap (λ c. codes.expr (layer.Fun c)) (eq.fold_closure-out codes closure))
      (eq.fold_expr-Fun works closure
      ∙ ap (λ c. works.expr (layer.Fun c)) (eq.fold_closure-out works closure))
      (fun_rel closure goes (down _ _ whole (parts.fun_closure closure) stands))

  spawn_case : (at : ℕ) (detached : Bool) (body : Closure) → claims.closure body
      → claims.expr (exprs.Spawn at detached body)
  spawn_case at detached body goes stands =
      three ExprRel _ _ _ _ _ _
      (eq.fold_expr-Spawn keys at detached body
      ∙ ap (λ c. keys.expr (layer.Spawn at detached c)) (eq.fold_closure-out keys body))
      (eq.fold_expr-Spawn codes at detached body
      ∙ ap (λ c. codes.expr (layer.Spawn at detached c)) (eq.fold_closure-out codes body))
      (eq.fold_expr-Spawn works at detached body
      ∙ ap (λ c. works.expr (layer.Spawn at detached c)) (eq.fold_closure-out works body))
      (spawn_rel at detached body goes stands)

  -- a statement after which the same variables are seen, which gives no property a value
  joined_so : (own : ℕ → Type 0) (stmt : StmtCode) (one : StmtWork)
      → Joins p numbers own stmt.code one.work
      → OnlyStands tables numbers functions stmt.only one.only
      → GivesStand tables numbers functions stmt.gives one.gives
      → StmtStands tables numbers functions own stmt one
  joined_so own stmt one is only gives = record {
    work = passes_joined p numbers own stmt.code one.work is;
    only = only;
    gives = gives;
  }

  bind_case : (mutable : Bool) (name : Name) (ty : Option TypeTree) (value : Expr)
      → claims.expr value → claims.stmt (stmts.Bind mutable name ty value)
  bind_case mutable name ty value goes stands =
      three StmtRel _ _ _ _ _ _ (eq.fold_stmt-Bind keys mutable name ty value)
      (eq.fold_stmt-Bind codes mutable name ty value) (eq.fold_stmt-Bind works mutable name ty value)
      (λ once are.
      let stmt = codes.stmt (layer.Bind mutable name ty (fold_expr codes value)) in
      let one = works.stmt (layer.Bind mutable name ty (fold_expr works value)) in
      record {
        work = passes_more p numbers (λ key. key ≡ name.at) (IsOne (name.at ∷ fold_expr keys value))
            stmt.code one.work (λ key same. inl same)
            (passes_bind p numbers tables name.at (fold_expr codes value).read
            (fold_expr works value).read
            (goes (down _ _ whole (parts.bind_value mutable name ty value) stands) once.1 are).read);
        only = tt;
        gives = tt;
      })

  gives_part : (part other : Option ℕ) (read : Code Operand) (before : Before) → part ≡ other
      → Value read before
      → GivesStand tables numbers functions (stmt_code.given_part part read)
      (forms.given_part other before)
  gives_part part other read before same is =
      subst (λ o. GivesStand tables numbers functions (stmt_code.given_part part read)
      (forms.given_part o before)) same (by part) where
        by : (part : Option ℕ) → GivesStand tables numbers functions
            (stmt_code.given_part part read) (forms.given_part part before)
        by None = tt
        by (Some name) = (refl, is, tt)

  assign_case : (at : ℕ) (op : AssignOp) (place value : Expr) → claims.expr place
      → claims.expr value → claims.stmt (stmts.Assign at op place value)
  assign_case at op place value of_place of_value stands =
      let inside = (fold_expr codes place).inside in
      let others = (fold_expr codes value).inside in
      three StmtRel _ _ _ _ _ _ (eq.fold_stmt-Assign keys at op place value)
      (eq.fold_stmt-Assign codes at op place value) (eq.fold_stmt-Assign works at op place value)
      (λ once are.
      let to = of_place (down _ _ whole (parts.assign_place at op place value) stands)
      (once_first (fold_expr keys place) (fold_expr keys value) once) (each_first _ inside others are)
      in
      let from = of_value (down _ _ whole (parts.assign_value at op place value) stands)
      (once_rest (fold_expr keys place) (fold_expr keys value) once) (each_rest _ inside others are) in
      joined_so _ (codes.stmt (layer.Assign at op (fold_expr codes place) (fold_expr codes value)))
      (works.stmt (layer.Assign at op (fold_expr works place) (fold_expr works value)))
      (joins_assign p numbers _ op at (fold_expr codes place) (fold_expr works place)
      (fold_expr codes value).read (fold_expr works value).read to.read to.write from.read) tt
      (gives_part (fold_expr codes place).own_part (fold_expr works place).own_part
      (fold_expr codes value).read (fold_expr works value).read to.own_part from.read))

  discard_case : (at : ℕ) (value : Expr) → claims.expr value
      → claims.stmt (stmts.Discard at value)
  discard_case at value goes stands =
      three StmtRel _ _ _ _ _ _ (eq.fold_stmt-Discard keys at value)
      (eq.fold_stmt-Discard codes at value) (eq.fold_stmt-Discard works at value)
      (λ once are. joined_so _ (codes.stmt (layer.Discard at (fold_expr codes value)))
      (works.stmt (layer.Discard at (fold_expr works value)))
      (joins_unused p numbers _ (fold_expr codes value).read (fold_expr works value).read
      (goes (down _ _ whole (parts.discard_value at value) stands) once are).read) tt tt)

  plain_case : (value : Expr) → claims.expr value → claims.stmt (stmts.Plain value)
  plain_case value goes stands =
      three StmtRel _ _ _ _ _ _ (eq.fold_stmt-Plain keys value)
      (eq.fold_stmt-Plain codes value) (eq.fold_stmt-Plain works value)
      (λ once are.
      let is = goes (down _ _ whole (parts.plain_value value) stands) once are in
      joined_so _ (codes.stmt (layer.Plain (fold_expr codes value)))
      (works.stmt (layer.Plain (fold_expr works value)))
      (joins_unused p numbers _ (fold_expr codes value).read (fold_expr works value).read is.read)
      is.read tt)

  return_case : (at : ℕ) (value : Option Expr) → GivenTree claims.expr value
      → claims.stmt (stmts.Return at value)
  return_case at None goes stands =
      three StmtRel _ _ _ _ _ _ (eq.fold_stmt-Return keys at None)
      (eq.fold_stmt-Return codes at None) (eq.fold_stmt-Return works at None)
      (λ once are. joined_so _ (codes.stmt (layer.Return at None)) (works.stmt (layer.Return at None))
      (joins_return p numbers tables _) tt tt)
  return_case at (Some value) goes stands =
      three StmtRel _ _ _ _ _ _ (eq.fold_stmt-Return keys at (Some value))
      (eq.fold_stmt-Return codes at (Some value)) (eq.fold_stmt-Return works at (Some value))
      (λ once are. joined_so _ (codes.stmt (layer.Return at (Some (fold_expr codes value))))
      (works.stmt (layer.Return at (Some (fold_expr works value))))
      (joins_return_value p numbers tables _ (fold_expr codes value).read (fold_expr works value).read
      (goes (down _ _ whole (parts.return_value at value) stands) once are).read) tt tt)

  break_case : (at : ℕ) → claims.stmt (stmts.Break at)
  break_case at stands =
      three StmtRel _ _ _ _ _ _ (eq.fold_stmt-Break keys at) (eq.fold_stmt-Break codes at)
      (eq.fold_stmt-Break works at)
      (λ once are. joined_so _ (codes.stmt (layer.Break at)) (works.stmt (layer.Break at))
      (joins_break p numbers tables _) tt tt)

  continue_case : (at : ℕ) → claims.stmt (stmts.Continue at)
  continue_case at stands =
      three StmtRel _ _ _ _ _ _ (eq.fold_stmt-Continue keys at) (eq.fold_stmt-Continue codes at)
      (eq.fold_stmt-Continue works at)
      (λ once are. joined_so _ (codes.stmt (layer.Continue at)) (works.stmt (layer.Continue at))
      (joins_continue p numbers tables _) tt tt)

  -- a block that may be left out
  given_else : (Declares : ℕ → Type 0) (otherwise : Option Block) → GivenTree claims.block otherwise
      → ((block : Block) → otherwise ≡ Some block → StandsIn (of_block block) whole)
      → AreOnce (unwrap_or (option_map (fold_block keys) otherwise) [])
      → In (stmt_code.inside_of (option_map (fold_block codes) otherwise))
      → ((key : ℕ) → IsOne (unwrap_or (option_map (fold_block keys) otherwise) []) key
      → Declares key)
      → ElseStands p numbers Declares (option_map (fold_block codes) otherwise)
      (option_map (fold_block works) otherwise)
  given_else Declares None goes stand once are within = tt
  given_else Declares (Some block) goes stand once are within =
      leaves_more p numbers (IsOne (fold_block keys block)) Declares (fold_block codes block).code
      (fold_block works block).work within
      (goes (stand block refl) once are).work

  default_stands : (Declares : ℕ → Type 0) (otherwise : Option BlockCode) (one : Option StmtWork)
      → ElseStands p numbers Declares otherwise one
      → DefaultStands p numbers tables Declares otherwise one
  default_stands Declares None None is = tt
  default_stands Declares (Some block) (Some one) is = is
  default_stands Declares None (Some one) is = absurd is
  default_stands Declares (Some block) None is = absurd is

  some_same : {one other : Block} → Some one ≡ Some other → one ≡ other
  some_same same = cc

  if_case : (arms : List IfArm) (otherwise : Option Block) → AllByRecursion claims.if_arm arms
      → GivenTree claims.block otherwise → claims.stmt (stmts.If arms otherwise)
  if_case [] otherwise goes last stands = absurd (needs.ifs otherwise stands)
  if_case (arm ∷ arms) otherwise goes last stands =
      let all = arm ∷ arms in
      let front = joined (map (fold_if_arm keys) all) in
      let back = unwrap_or (option_map (fold_block keys) otherwise) [] in
      let inside = flat_map (λ (one : IfCode). one.inside) (map (fold_if_arm codes) all) in
      let others = stmt_code.inside_of (option_map (fold_block codes) otherwise) in
      three StmtRel _ _ _ _ _ _ (eq.fold_stmt-If keys all otherwise)
      (eq.fold_stmt-If codes all otherwise) (eq.fold_stmt-If works all otherwise)
      (λ once are. joined_so _
      (codes.stmt (layer.If (map (fold_if_arm codes) all) (option_map (fold_block codes) otherwise)))
      (works.stmt (layer.If (map (fold_if_arm works) all) (option_map (fold_block works) otherwise)))
      (joins_if p numbers (IsOne (front ++ back)) (fold_if_arm codes arm) (map (fold_if_arm codes) arms)
      (fold_if_arm works arm) (map (fold_if_arm works) arms)
      (option_map (fold_block codes) otherwise) (option_map (fold_block works) otherwise)
      (arms_stand tables numbers functions (fold_if_arm keys) (fold_if_arm codes) (fold_if_arm works)
      (IsOne (front ++ back)) all (λ key one. one_first front back key one)
      (all_so whole (λ body. IsMade p numbers body) of_if_arm (fold_if_arm keys) (fold_if_arm codes)
      (λ (one : IfCode). one.inside)
      (λ x. ArmStands p numbers (IsOne (fold_if_arm keys x)) (fold_if_arm codes x) (fold_if_arm works x))
      all goes (λ one has. down (of_if_arm one) _ whole (parts.if_one all otherwise one has) stands)
      (once_first front back once) (each_first _ inside others are)))
      (given_else (IsOne (front ++ back)) otherwise last
      (λ block same. down (of_block block) (of_stmt (stmts.If all otherwise)) whole
      (subst (λ o. IsPart (of_block block) (of_stmt (stmts.If all o))) (sym same)
      (parts.if_otherwise all block)) stands)
      (once_rest front back once) (each_rest _ inside others are)
      (λ key one. one_rest front back key one))) tt tt)

  while_case : (at : ℕ) (cond : Expr) (body : Block) → claims.expr cond → claims.block body
      → claims.stmt (stmts.While at cond body)
  while_case at cond body of_cond of_body stands =
      let front = fold_expr keys cond in
      let back = fold_block keys body in
      let inside = (fold_expr codes cond).inside in
      let others = (fold_block codes body).inside in
      three StmtRel _ _ _ _ _ _ (eq.fold_stmt-While keys at cond body)
      (eq.fold_stmt-While codes at cond body) (eq.fold_stmt-While works at cond body)
      (λ once are. joined_so _
      (codes.stmt (layer.While at (fold_expr codes cond) (fold_block codes body)))
      (works.stmt (layer.While at (fold_expr works cond) (fold_block works body)))
      (joins_loop p numbers (IsOne (front ++ back)) (fold_expr codes cond).read
      (fold_block codes body) (fold_expr works cond).read (fold_block works body).work
      (of_cond (down _ _ whole (parts.while_cond at cond body) stands) (once_first front back once)
      (each_first _ inside others are)).read
      (leaves_more p numbers (IsOne back) (IsOne (front ++ back)) (fold_block codes body).code
      (fold_block works body).work (λ key one. one_rest front back key one)
      (of_body (down _ _ whole (parts.while_body at cond body) stands) (once_rest front back once)
      (each_rest _ inside others are)).work)) tt tt)

  switch_case : (at : ℕ) (subject : Expr) (arms : List CaseArm) (otherwise : Option Block)
      → claims.expr subject → AllByRecursion claims.case_arm arms
      → GivenTree claims.block otherwise → claims.stmt (stmts.Switch at subject arms otherwise)
  switch_case at subject arms otherwise of_subject goes last stands =
      let one_keys = fold_expr keys subject in
      let arm_keys = joined (map (fold_case_arm keys) arms) in
      let back = unwrap_or (option_map (fold_block keys) otherwise) [] in
      let all = one_keys ++ arm_keys ++ back in
      let inside = (fold_expr codes subject).inside in
      let arm_inside = flat_map (λ (arm : CaseCode). arm.body.inside) (map (fold_case_arm codes) arms) in
      let others = stmt_code.inside_of (option_map (fold_block codes) otherwise) in
      let node = of_stmt (stmts.Switch at subject arms otherwise) in
      three StmtRel _ _ _ _ _ _ (eq.fold_stmt-Switch keys at subject arms otherwise)
      (eq.fold_stmt-Switch codes at subject arms otherwise)
      (eq.fold_stmt-Switch works at subject arms otherwise)
      (λ once are.
      let front = once_first (one_keys ++ arm_keys) back once in
      let before = each_first (λ body. IsMade p numbers body) (inside ++ arm_inside) others are in
      let one = of_subject (down _ _ whole (parts.switch_subject at subject arms otherwise) stands)
      (once_first one_keys arm_keys front)
      (each_first (λ body. IsMade p numbers body) inside arm_inside before) in
      joined_so _
      (codes.stmt (layer.Switch at (fold_expr codes subject) (map (fold_case_arm codes) arms)
      (option_map (fold_block codes) otherwise)))
      (works.stmt (layer.Switch at (fold_expr works subject) (map (fold_case_arm works) arms)
      (option_map (fold_block works) otherwise)))
      (joins_switch p numbers tables (IsOne all) (fold_expr codes subject) (fold_expr works subject)
      (map (fold_case_arm codes) arms) (map (fold_case_arm works) arms)
      (option_map (fold_block codes) otherwise) (option_map (fold_block works) otherwise) one.key one.read
      (cases_stand tables numbers functions (fold_case_arm keys) (fold_case_arm codes)
      (fold_case_arm works) (IsOne all) arms
      (λ key has.
      one_first (one_keys ++ arm_keys) back key (one_rest one_keys arm_keys key has))
      (all_so whole (λ body. IsMade p numbers body) of_case_arm (fold_case_arm keys)
      (fold_case_arm codes) (λ (arm : CaseCode). arm.body.inside)
      (λ x. CaseStands p numbers tables (IsOne (fold_case_arm keys x)) (fold_case_arm codes x)
      (fold_case_arm works x)) arms goes
      (λ arm has. down (of_case_arm arm) node whole (parts.switch_one at subject arms otherwise arm has)
      stands) (once_rest one_keys arm_keys front)
      (each_rest (λ body. IsMade p numbers body) inside arm_inside before)))
      (default_stands (IsOne all) _ _
      (given_else (IsOne all) otherwise last
      (λ block same. down (of_block block) node whole
      (subst (λ o. IsPart (of_block block) (of_stmt (stmts.Switch at subject arms o))) (sym same)
      (parts.switch_otherwise at subject arms block)) stands)
      (once_rest (one_keys ++ arm_keys) back once)
      (each_rest (λ body. IsMade p numbers body) (inside ++ arm_inside) others are)
      (λ key has. one_rest (one_keys ++ arm_keys) back key has)))) tt tt)

  -- the other types of tree
  arg_case : (label : Option Name) (value : Expr) → claims.expr value
      → claims.arg (roll-Arg (record { label = label; value = value }))
  arg_case label value goes stands =
      three ArgRel _ _ _ _ _ _ (eq.fold_arg-roll keys label value)
      (eq.fold_arg-roll codes label value) (eq.fold_arg-roll works label value)
      (λ once are. (goes (down _ _ whole (parts.arg_value label value) stands) once are).read)

  link_case : (op : InfixOp) (at : ℕ) (operand : Expr) → claims.expr operand
      → claims.link (roll-Link (record { op = op; at = at; operand = operand }))
  link_case op at operand goes stands =
      three LinkRel _ _ _ _ _ _ (eq.fold_link-roll keys op at operand)
      (eq.fold_link-roll codes op at operand) (eq.fold_link-roll works op at operand)
      (λ once are. record {
        op = refl;
        at = refl;
        read = (goes (down _ _ whole (parts.link_operand op at operand) stands) once are).read;
      })

  if_arm_case : (at : ℕ) (cond : Expr) (body : Block) → claims.expr cond → claims.block body
      → claims.if_arm (roll-IfArm (record { at = at; cond = cond; body = body }))
  if_arm_case at cond body of_cond of_body stands =
      let front = fold_expr keys cond in
      let back = fold_block keys body in
      let inside = (fold_expr codes cond).inside in
      let others = (fold_block codes body).inside in
      three IfRel _ _ _ _ _ _ (eq.fold_if_arm-roll keys at cond body)
      (eq.fold_if_arm-roll codes at cond body) (eq.fold_if_arm-roll works at cond body)
      (λ once are. record {
        cond = (of_cond (down _ _ whole (parts.if_arm_cond at cond body) stands)
            (once_first front back once) (each_first _ inside others are)).read;
        body = leaves_more p numbers (IsOne back) (IsOne (front ++ back))
            (fold_block codes body).code (fold_block works body).work
            (λ key one. one_rest front back key one)
            (of_body (down _ _ whole (parts.if_arm_body at cond body) stands)
            (once_rest front back once) (each_rest _ inside others are)).work;
      })

  case_arm_case : (name : Name) (patterns : List Pattern) (body : Block) → claims.block body
      → claims.case_arm (roll-CaseArm (record { name = name; patterns = patterns; body = body }))
  case_arm_case name patterns body of_body stands =
      let front = flat_map pattern_keys patterns in
      let back = fold_block keys body in
      three CaseRel _ _ _ _ _ _ (eq.fold_case_arm-roll keys name patterns body)
      (eq.fold_case_arm-roll codes name patterns body) (eq.fold_case_arm-roll works name patterns body)
      (λ once are. record {
        name = refl;
        patterns = refl;
        apart = patterns_apart patterns (once_first front back once);
        within = λ key binds. one_first front back key (binds_one patterns key binds);
        body = leaves_more p numbers (IsOne back)
            (λ key. IsOne (front ++ back) key × (BindsOne patterns key → ⊥))
            (fold_block codes body).code (fold_block works body).work
            (λ key one. (
              one_rest front back key one,
              (λ binds. once_apart front back once key (binds_one patterns key binds) one),
            ))
            (of_body (down _ _ whole (parts.case_arm_body name patterns body) stands)
            (once_rest front back once) are).work;
      })

  -- what a block of statements gives
  gives_more : (xs ys : List carriers.Given) (ones others : List forms.Given)
      → GivesStand tables numbers functions xs ones → GivesStand tables numbers functions ys others
      → GivesStand tables numbers functions (xs ++ ys) (ones ++ others)
  gives_more [] ys [] others first second = second
  gives_more (x ∷ xs) ys (one ∷ ones) others first second =
      (first.0, first.1, gives_more xs ys ones others first.2 second)
  gives_more [] ys (one ∷ ones) others first second = absurd first
  gives_more (x ∷ xs) ys [] others first second = absurd first

  abbrev StmtIs : Stmt → Type 0
  StmtIs x = StmtStands tables numbers functions (IsOne (fold_stmt keys x)) (fold_stmt codes x)
      (fold_stmt works x)

  all_give : (xs : List Stmt) → AllByRecursion StmtIs xs → GivesStand tables numbers functions
      (flat_map (λ (one : StmtCode). one.gives) (map (fold_stmt codes) xs))
      (flat_map (λ (one : StmtWork). one.gives) (map (fold_stmt works) xs))
  all_give [] are = tt
  all_give (x ∷ xs) are = gives_more _ _ _ _ are.0.gives (all_give xs are.1)

  one_only : (xs : List Stmt) → AllByRecursion StmtIs xs → OnlyStands tables numbers functions
      (stmt_code.block_only (map (fold_stmt codes) xs)) (forms.only_of (map (fold_stmt works) xs))
  one_only [] are = tt
  one_only (x ∷ []) are = are.0.only
  one_only (x ∷ y ∷ xs) are = tt

  block_case : (all : List Stmt) → AllByRecursion claims.stmt all
      → claims.block (roll-Block (record { stmts = all }))
  block_case all goes stands =
      three BlockRel _ _ _ _ _ _ (eq.fold_block-roll keys all) (eq.fold_block-roll codes all)
      (eq.fold_block-roll works all)
      (λ once are.
      let so = all_so whole (λ body. IsMade p numbers body) of_stmt (fold_stmt keys) (fold_stmt codes)
      (λ (one : StmtCode). one.inside) StmtIs all goes
      (λ one has. down (of_stmt one) _ whole (parts.block_stmt all one has) stands) once are in
      record {
        work = leaves_scope p numbers (IsOne (joined (map (fold_stmt keys) all)))
            (λ targets. all_code (λ (one : StmtCode). one.code targets) (map (fold_stmt codes) all))
            (λ breaks. in_order (λ (one : StmtWork). one.work breaks) (map (fold_stmt works) all))
            (stmts_pass tables numbers functions (fold_stmt keys) (fold_stmt codes) (fold_stmt works) all
            once so);
        only = one_only all so;
        gives = all_give all so;
      })

  cases : Cases claims
  cases = record {
    int = int_case;
    bool = bool_case;
    use_of = word_case;
    me = me_case;
    member = member_case;
    call = call_case;
    method = method_case;
    chain = chain_case;
    prefix = prefix_case;
    await = await_case;
    fun = fun_case;
    spawn = spawn_case;
    yield = yield_case;
    bind = bind_case;
    assign = assign_case;
    discard = discard_case;
    if_of = if_case;
    while_of = while_case;
    switch = switch_case;
    return_of = return_case;
    break_of = break_case;
    continue_of = continue_case;
    plain = plain_case;
    arg = arg_case;
    closure = λ at mark captures params result body of_body.
        subst BlockGoes (sym (ap (λ c. c.body) (out-roll-Closure (record {
          at = at;
          mark = mark;
          captures = captures;
          params = params;
          result = result;
          body = body;
        })))) of_body;
    link = link_case;
    block = block_case;
    case_arm = case_arm_case;
    if_arm = if_arm_case;
  }

  -- So it is of each expression and of each block in the tree.
  pub every_expr_stands : (expr : Expr) → StandsIn (of_expr expr) whole → AreOnce (expr_declared expr)
      → In (expr_code tables owner expr).inside → ExprStands tables numbers functions
      (expr_code tables owner expr) (expr_work (facts_of tables) owner expr)
  unfolding expr_declared expr_code expr_work
  every_expr_stands expr = every_expr claims cases expr

  pub every_block_stands : (block : Block) → StandsIn (of_block block) whole
      → AreOnce (block_declared block) → In (block_code tables owner block).inside
      → BlockStands tables numbers functions (IsOne (block_declared block))
      (block_code tables owner block) (block_work (facts_of tables) owner block)
  unfolding block_declared block_code block_work
  every_block_stands block = every_block claims cases block
