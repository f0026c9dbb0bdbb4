-- Of the bodies in a tree as many have a key as the key stands in the tree, at most.
use Rattle.std.proofs.Common.{◌≡◌, ℕ, ◌+◌, ◌≤◌, Option, Some, None, List, [], ◌∷◌, ◌++◌, map}
use Rattle.std.proofs.Common.{flat_map, option_map, sym, subst, arith}
use Rattle.std.specs.List.{AllByRecursion}
use Rattle.sw_tree.specs.Folds.{Steps, fold_arg, fold_block, fold_case_arm, fold_closure, fold_expr}
use Rattle.sw_tree.specs.Folds.{fold_if_arm, fold_link, fold_stmt}
use Rattle.sw_tree.specs.declared.expr.Arg.{Arg, roll-Arg}
use Rattle.sw_tree.specs.declared.expr.Closure.{roll-Closure}
use Rattle.sw_tree.specs.declared.expr.Expr.{Expr}
use Rattle.sw_tree.specs.declared.expr.Expr.TheVariants as exprs
use Rattle.sw_tree.specs.declared.expr.Link.{Link, roll-Link}
use Rattle.sw_tree.specs.declared.stmt.Block.{Block, roll-Block}
use Rattle.sw_tree.specs.declared.stmt.CaseArm.{CaseArm, roll-CaseArm}
use Rattle.sw_tree.specs.declared.stmt.IfArm.{IfArm, roll-IfArm}
use Rattle.sw_tree.specs.declared.stmt.Stmt.{Stmt}
use Rattle.sw_tree.specs.declared.stmt.Stmt.TheVariants as stmts
use Rattle.sw_tree.proofs.Counting.{Weight, hits, in_all, in_all-append, in_all-cons, in_all-nil}
use Rattle.sw_tree.proofs.Counting.{in_option}
use Rattle.sw_tree.proofs.FoldEquations as eq
use Rattle.sw_tree.proofs.KeyCounts as keys
use Rattle.sw_tree.proofs.KeyCounts.{in_arg, in_block, in_case_arm, in_closure, in_expr, in_if_arm}
use Rattle.sw_tree.proofs.KeyCounts.{in_link, in_stmt}
use Rattle.sw_tree.proofs.TreeInduction.{Cases, Claims, Given as GivenOf, every_block, every_expr}
use Rattle.sw_types.specs.declared.ty.Ty.{Ty}
use Rattle.sw_lower_code.specs.Whole.{Body}
use Rattle.sw_lower_rules.specs.Carriers.{ArgCode, BlockCode, CaseCode, ClosureCode, ExprCode}
use Rattle.sw_lower_rules.specs.Carriers.{IfCode, LinkCode, StmtCode}
use Rattle.sw_lower_rules.specs.Expressions.{closure_body, fun_result, spawn_result}
use Rattle.sw_lower_rules.specs.Statements.{block_code, code_steps, expr_code, inside_of}
use Rattle.sw_lower_rules.specs.Tables.{Tables}

-- Bodies are weighed, each closure's by its own key at most.
module _ (tables : Tables) (owner : Option ℕ) (w : Body → Weight) (k : ℕ)
    (of_closure : (closure : ClosureCode) (result : Ty)
    → w (closure_body tables owner closure result) k ≤ hits closure.at k) where
  abbrev steps : Steps
  steps = code_steps tables owner

  -- the weight of bodies
  abbrev few : List Body → ℕ
  few bodies = in_all w bodies k

  none_few : (n : ℕ) → few [] ≤ n
  none_few n = omega (arith, in_all-nil w k)

  up : (xs : List Body) (a b : ℕ) → few xs ≤ a → a ≤ b → few xs ≤ b
  up xs a b here most = omega (arith, here, most)

  both_few : (xs ys : List Body) (a b n : ℕ) → few xs ≤ a → few ys ≤ b → a + b ≤ n
      → few (xs ++ ys) ≤ n
  both_few xs ys a b n one two most = omega (arith, in_all-append w xs ys k, one, two, most)

  headed : (body : Body) (xs : List Body) (a n : ℕ) → w body k ≤ a → few xs + a ≤ n
      → few (body ∷ xs) ≤ n
  headed body xs a n one most = omega (arith, in_all-cons w body xs k, one, most)

  -- what is made of each part, where each part has a count
  parts_few : {Y Z : Type 0} (part : Y → Z) (inside : Z → List Body) (own : Y → Weight)
      (ys : List Y) → AllByRecursion (λ y. few (inside (part y)) ≤ own y k) ys
      → few (flat_map inside (map part ys)) ≤ in_all own ys k
  parts_few part inside own [] all = none_few (in_all own [] k)
  parts_few part inside own (y ∷ ys) all =
      let (one, more) = all in
      both_few (inside (part y)) (flat_map inside (map part ys)) (own y k) (in_all own ys k)
      (in_all own (y ∷ ys) k) one (parts_few part inside own ys more)
      (omega (arith, in_all-cons own y ys k))

  abbrev claims : Claims
  claims = record {
    expr = λ x. few (fold_expr steps x).inside ≤ in_expr x k;
    stmt = λ x. few (fold_stmt steps x).inside ≤ in_stmt x k;
    arg = λ x. few (fold_arg steps x).inside ≤ in_arg x k;
    closure = λ x.
        few (fold_closure steps x).body.inside + hits (fold_closure steps x).at k
        ≤ in_closure x k;
    link = λ x. few (fold_link steps x).inside ≤ in_link x k;
    block = λ x. few (fold_block steps x).inside ≤ in_block x k;
    case_arm = λ x. few (fold_case_arm steps x).body.inside ≤ in_case_arm x k;
    if_arm = λ x. few (fold_if_arm steps x).inside ≤ in_if_arm x k;
  }

  few_args : (args : List Arg) → AllByRecursion claims.arg args
      → few (flat_map (λ (arg : ArgCode). arg.inside) (map (fold_arg steps) args))
      ≤ in_all in_arg args k
  few_args = parts_few (fold_arg steps) (λ (arg : ArgCode). arg.inside) in_arg

  few_links : (links : List Link) → AllByRecursion claims.link links
      → few (flat_map (λ (link : LinkCode). link.inside) (map (fold_link steps) links))
      ≤ in_all in_link links k
  few_links = parts_few (fold_link steps) (λ (link : LinkCode). link.inside) in_link

  few_stmts : (list : List Stmt) → AllByRecursion claims.stmt list
      → few (flat_map (λ (one : StmtCode). one.inside) (map (fold_stmt steps) list))
      ≤ in_all in_stmt list k
  few_stmts = parts_few (fold_stmt steps) (λ (one : StmtCode). one.inside) in_stmt

  few_ifs : (arms : List IfArm) → AllByRecursion claims.if_arm arms
      → few (flat_map (λ (arm : IfCode). arm.inside) (map (fold_if_arm steps) arms))
      ≤ in_all in_if_arm arms k
  few_ifs = parts_few (fold_if_arm steps) (λ (arm : IfCode). arm.inside) in_if_arm

  few_cases : (arms : List CaseArm) → AllByRecursion claims.case_arm arms
      → few (flat_map (λ (arm : CaseCode). arm.body.inside) (map (fold_case_arm steps) arms))
      ≤ in_all in_case_arm arms k
  few_cases = parts_few (fold_case_arm steps) (λ (arm : CaseCode). arm.body.inside) in_case_arm

  few_other : (other : Option Block) → GivenOf claims.block other
      → few (inside_of (option_map (fold_block steps) other)) ≤ in_option in_block other k
  unfolding in_option
  few_other None all = none_few 0
  few_other (Some block) all = all

  -- by what a step gives
  expr_by : (x : Expr) (code : ExprCode) → fold_expr steps x ≡ code
      → few code.inside ≤ in_expr x k → claims.expr x
  expr_by x code is here = subst (λ (c : ExprCode). few c.inside ≤ in_expr x k) (sym is) here

  stmt_by : (x : Stmt) (code : StmtCode) → fold_stmt steps x ≡ code
      → few code.inside ≤ in_stmt x k → claims.stmt x
  stmt_by x code is here = subst (λ (c : StmtCode). few c.inside ≤ in_stmt x k) (sym is) here

  returned : (at : ℕ) (value : Option Expr) → GivenOf claims.expr value
      → claims.stmt (stmts.Return at value)
  unfolding in_option
  returned at None all = stmt_by _ _ (eq.fold_stmt-Return steps at None) (none_few _)
  returned at (Some value) all =
      stmt_by _ _ (eq.fold_stmt-Return steps at (Some value))
      (up (fold_expr steps value).inside (in_expr value k)
      (in_stmt (stmts.Return at (Some value)) k) all
      (omega (arith, keys.in_stmt-Return at (Some value) k)))

  cases : Cases claims
  cases = record {
    int = λ at value. expr_by _ _ (eq.fold_expr-Int steps at value) (none_few _);
    bool = λ at value. expr_by _ _ (eq.fold_expr-Bool steps at value) (none_few _);
    use_of = λ name. expr_by _ _ (eq.fold_expr-Use steps name) (none_few _);
    me = λ at. expr_by _ _ (eq.fold_expr-Me steps at) (none_few _);
    member = λ base name all.
        expr_by _ _ (eq.fold_expr-Member steps base name)
        (up (fold_expr steps base).inside (in_expr base k) (in_expr (exprs.Member base name) k) all
        (omega (arith, keys.in_expr-Member base name k)));
    call = λ name args all.
        expr_by _ _ (eq.fold_expr-Call steps name args)
        (up (flat_map (λ (arg : ArgCode). arg.inside) (map (fold_arg steps) args))
        (in_all in_arg args k) (in_expr (exprs.Call name args) k) (few_args args all)
        (omega (arith, keys.in_expr-Call name args k)));
    method = λ base name args of_base all.
        expr_by _ _ (eq.fold_expr-Method steps base name args)
        (both_few (fold_expr steps base).inside
        (flat_map (λ (arg : ArgCode). arg.inside) (map (fold_arg steps) args)) (in_expr base k)
        (in_all in_arg args k) (in_expr (exprs.Method base name args) k) of_base
        (few_args args all) (omega (arith, keys.in_expr-Method base name args k)));
    chain = λ first rest of_first all.
        expr_by _ _ (eq.fold_expr-Chain steps first rest)
        (both_few (fold_expr steps first).inside
        (flat_map (λ (link : LinkCode). link.inside) (map (fold_link steps) rest))
        (in_expr first k) (in_all in_link rest k) (in_expr (exprs.Chain first rest) k) of_first
        (few_links rest all) (omega (arith, keys.in_expr-Chain first rest k)));
    prefix = λ op at inner all.
        expr_by _ _ (eq.fold_expr-Prefix steps op at inner)
        (up (fold_expr steps inner).inside (in_expr inner k) (in_expr (exprs.Prefix op at inner) k)
        all (omega (arith, keys.in_expr-Prefix op at inner k)));
    await = λ at inner all.
        expr_by _ _ (eq.fold_expr-Await steps at inner)
        (up (fold_expr steps inner).inside (in_expr inner k) (in_expr (exprs.Await at inner) k) all
        (omega (arith, keys.in_expr-Await at inner k)));
    fun = λ closure all.
        let code = fold_closure steps closure in
        expr_by _ _ (eq.fold_expr-Fun steps closure)
        (headed (closure_body tables owner code (fun_result tables owner code.at)) code.body.inside
        (hits code.at k) (in_expr (exprs.Fun closure) k)
        (of_closure code (fun_result tables owner code.at))
        (omega (arith, all, keys.in_expr-Fun closure k)));
    spawn = λ at detached body all.
        let code = fold_closure steps body in
        let task : ClosureCode = record code { params = [] } in
        expr_by _ _ (eq.fold_expr-Spawn steps at detached body)
        (headed (closure_body tables owner task (spawn_result tables owner at)) code.body.inside
        (hits code.at k) (in_expr (exprs.Spawn at detached body) k)
        (of_closure task (spawn_result tables owner at))
        (omega (arith, all, keys.in_expr-Spawn at detached body k)));
    yield = λ at. expr_by _ _ (eq.fold_expr-Yield steps at) (none_few _);
    bind = λ mutable name ty value all.
        stmt_by _ _ (eq.fold_stmt-Bind steps mutable name ty value)
        (up (fold_expr steps value).inside (in_expr value k)
        (in_stmt (stmts.Bind mutable name ty value) k) all
        (omega (arith, keys.in_stmt-Bind mutable name ty value k)));
    assign = λ at op place value of_place of_value.
        stmt_by _ _ (eq.fold_stmt-Assign steps at op place value)
        (both_few (fold_expr steps place).inside (fold_expr steps value).inside (in_expr place k)
        (in_expr value k) (in_stmt (stmts.Assign at op place value) k) of_place of_value
        (omega (arith, keys.in_stmt-Assign at op place value k)));
    discard = λ at value all.
        stmt_by _ _ (eq.fold_stmt-Discard steps at value)
        (up (fold_expr steps value).inside (in_expr value k) (in_stmt (stmts.Discard at value) k)
        all (omega (arith, keys.in_stmt-Discard at value k)));
    if_of = λ arms otherwise all last.
        stmt_by _ _ (eq.fold_stmt-If steps arms otherwise)
        (both_few (flat_map (λ (arm : IfCode). arm.inside) (map (fold_if_arm steps) arms))
        (inside_of (option_map (fold_block steps) otherwise)) (in_all in_if_arm arms k)
        (in_option in_block otherwise k) (in_stmt (stmts.If arms otherwise) k) (few_ifs arms all)
        (few_other otherwise last) (omega (arith, keys.in_stmt-If arms otherwise k)));
    while_of = λ at cond body of_cond of_body.
        stmt_by _ _ (eq.fold_stmt-While steps at cond body)
        (both_few (fold_expr steps cond).inside (fold_block steps body).inside (in_expr cond k)
        (in_block body k) (in_stmt (stmts.While at cond body) k) of_cond of_body
        (omega (arith, keys.in_stmt-While at cond body k)));
    switch = λ at subject arms otherwise of_subject all last.
        let under = flat_map (λ (arm : CaseCode). arm.body.inside)
        (map (fold_case_arm steps) arms) in
        let first = (fold_expr steps subject).inside in
        stmt_by _ _ (eq.fold_stmt-Switch steps at subject arms otherwise)
        (both_few (first ++ under) (inside_of (option_map (fold_block steps) otherwise))
        (in_expr subject k + in_all in_case_arm arms k) (in_option in_block otherwise k)
        (in_stmt (stmts.Switch at subject arms otherwise) k)
        (both_few first under (in_expr subject k) (in_all in_case_arm arms k)
        (in_expr subject k + in_all in_case_arm arms k) of_subject (few_cases arms all)
        (omega arith))
        (few_other otherwise last)
        (omega (arith, keys.in_stmt-Switch at subject arms otherwise k)));
    return_of = λ at value all. returned at value all;
    break_of = λ at. stmt_by _ _ (eq.fold_stmt-Break steps at) (none_few _);
    continue_of = λ at. stmt_by _ _ (eq.fold_stmt-Continue steps at) (none_few _);
    plain = λ value all.
        stmt_by _ _ (eq.fold_stmt-Plain steps value)
        (up (fold_expr steps value).inside (in_expr value k) (in_stmt (stmts.Plain value) k) all
        (omega (arith, keys.in_stmt-Plain value k)));
    arg = λ label value all.
        let x = roll-Arg (record { label = label; value = value }) in
        subst (λ (c : ArgCode). few c.inside ≤ in_arg x k)
        (sym (eq.fold_arg-roll steps label value))
        (up (fold_expr steps value).inside (in_expr value k) (in_arg x k) all
        (omega (arith, keys.in_arg-roll label value k)));
    closure = λ at mark captures params result body all.
        let x = roll-Closure (record {
          at = at;
          mark = mark;
          captures = captures;
          params = params;
          result = result;
          body = body;
        }) in
        let here : few (fold_block steps body).inside + hits at k ≤ in_closure x k = omega (
          arith,
          all,
          keys.in_closure-roll at mark captures params result body k,
        ) in
        subst (λ (c : ClosureCode). few c.body.inside + hits c.at k ≤ in_closure x k)
        (sym (eq.fold_closure-roll steps at mark captures params result body)) here;
    link = λ op at operand all.
        let x = roll-Link (record { op = op; at = at; operand = operand }) in
        subst (λ (c : LinkCode). few c.inside ≤ in_link x k)
        (sym (eq.fold_link-roll steps op at operand))
        (up (fold_expr steps operand).inside (in_expr operand k) (in_link x k) all
        (omega (arith, keys.in_link-roll op at operand k)));
    block = λ list all.
        let x = roll-Block (record { stmts = list }) in
        subst (λ (c : BlockCode). few c.inside ≤ in_block x k)
        (sym (eq.fold_block-roll steps list))
        (up (flat_map (λ (one : StmtCode). one.inside) (map (fold_stmt steps) list))
        (in_all in_stmt list k) (in_block x k) (few_stmts list all)
        (omega (arith, keys.in_block-roll list k)));
    case_arm = λ name patterns body all.
        let x = roll-CaseArm (record { name = name; patterns = patterns; body = body }) in
        subst (λ (c : CaseCode). few c.body.inside ≤ in_case_arm x k)
        (sym (eq.fold_case_arm-roll steps name patterns body))
        (up (fold_block steps body).inside (in_block body k) (in_case_arm x k) all
        (omega (arith, keys.in_case_arm-roll name patterns body k)));
    if_arm = λ at cond body of_cond of_body.
        let x = roll-IfArm (record { at = at; cond = cond; body = body }) in
        subst (λ (c : IfCode). few c.inside ≤ in_if_arm x k)
        (sym (eq.fold_if_arm-roll steps at cond body))
        (both_few (fold_expr steps cond).inside (fold_block steps body).inside (in_expr cond k)
        (in_block body k) (in_if_arm x k) of_cond of_body
        (omega (arith, keys.in_if_arm-roll at cond body k)));
  }

  -- The bodies in a block weigh no more than the key in it.
  pub block_few : (block : Block) → in_all w (block_code tables owner block).inside k
      ≤ in_block block k
  unfolding block_code
  block_few block = every_block claims cases block

  -- And so do those in an expression.
  pub expr_few : (expr : Expr) → in_all w (expr_code tables owner expr).inside k ≤ in_expr expr k
  unfolding expr_code
  expr_few expr = every_expr claims cases expr
