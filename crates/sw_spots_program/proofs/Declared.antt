-- What a tree declares is what its scopes declare, and each is a key of the tree.
use Rattle.std.proofs.Common.{◌≡◌, ℕ, ◌+◌, ◌≤◌, Option, Some, None, List, []}
use Rattle.std.proofs.Common.{◌∷◌, ◌++◌, map, flat_map, option_map, unwrap_or, ap, arith}
use Rattle.std.specs.List.{AllByRecursion}
use Rattle.sw_tree.specs.Folds.{fold_arg, fold_block, fold_case_arm, fold_closure, fold_expr}
use Rattle.sw_tree.specs.Folds.{fold_if_arm, fold_link, fold_stmt}
use Rattle.sw_tree.specs.Keys.{Keys, block_keys, expr_keys, joined, pattern_keys}
use Rattle.sw_tree.specs.declared.expr.Arg.{Arg}
use Rattle.sw_tree.specs.declared.expr.ClosureParam.{ClosureParam}
use Rattle.sw_tree.specs.declared.expr.Expr.{Expr}
use Rattle.sw_tree.specs.declared.expr.Link.{Link}
use Rattle.sw_tree.specs.declared.stmt.Block.{Block, roll-Block}
use Rattle.sw_tree.specs.declared.stmt.Stmt.{Stmt}
use Rattle.sw_tree.specs.declared.stmt.Stmt.TheVariants as stmts
use Rattle.sw_tree.proofs.Counting.{count, hits, in_all-append, in_all-cons, in_all-nil}
use Rattle.sw_tree.proofs.FoldEquations as eq
use Rattle.sw_tree.proofs.KeyCounts as keys
use Rattle.sw_tree.proofs.ScopeCounts.{ats, declared_few, params_are, patterns_are}
use Rattle.sw_tree.proofs.TreeInduction.{Cases, Claims, Given, every_block}
use Rattle.sw_tree.specs.Scopes.{Scoped, Stated, block_scoped, both, each, maybe, pattern_names}
use Rattle.sw_tree.specs.Scopes.{scope_steps, sequence}
use Rattle.sw_spots_tree.specs.Declared.{block_declared, declared_steps, expr_declared}

module _ (c : ℕ) where
  abbrev n : Keys → ℕ
  n list = count list c

  abbrev d : Scoped → ℕ
  d scoped = count scoped.declared c

  -- a statement, with what it declares for those after it
  abbrev s : Stated → ℕ
  s stated = n (ats stated.names) + d stated.inside

  abbrev app : (xs ys : Keys) → n (xs ++ ys) ≡ n xs + n ys
  app xs ys = in_all-append hits xs ys c

  abbrev con : (at : ℕ) (xs : Keys) → n (at ∷ xs) ≡ hits at c + n xs
  con at xs = in_all-cons hits at xs c

  abbrev nil : n [] ≡ 0
  nil = in_all-nil hits c

  abbrev two : (one other : Scoped) → d (both one other) ≡ d one + d other
  two one other = app one.declared other.declared

  -- what is in a list
  parts : {Y : Type 0} (keys_of : Y → Keys) (scoped_of : Y → Scoped) (ys : List Y)
      → AllByRecursion (λ y. n (keys_of y) ≤ d (scoped_of y)) ys
      → n (joined (map keys_of ys)) ≤ d (each (map scoped_of ys))
  parts keys_of scoped_of [] all = omega (arith, nil)
  parts keys_of scoped_of (y ∷ ys) all =
      omega (
        arith,
        all.0,
        parts keys_of scoped_of ys all.1,
        app (keys_of y) (joined (map keys_of ys)),
        two (scoped_of y) (each (map scoped_of ys)),
      )

  abbrev claims : Claims
  claims = record {
    expr = λ x. n (fold_expr declared_steps x) ≤ d (fold_expr scope_steps x);
    stmt = λ x. n (fold_stmt declared_steps x) ≤ s (fold_stmt scope_steps x);
    arg = λ x. n (fold_arg declared_steps x) ≤ d (fold_arg scope_steps x);
    closure = λ x. n (fold_closure declared_steps x) ≤ d (fold_closure scope_steps x);
    link = λ x. n (fold_link declared_steps x) ≤ d (fold_link scope_steps x);
    block = λ x. n (fold_block declared_steps x) ≤ d (fold_block scope_steps x);
    case_arm = λ x. n (fold_case_arm declared_steps x) ≤ d (fold_case_arm scope_steps x);
    if_arm = λ x. n (fold_if_arm declared_steps x) ≤ d (fold_if_arm scope_steps x);
  }

  abbrev args_of : List Arg → Scoped
  args_of args = each (map (fold_arg scope_steps) args)

  abbrev links_of : List Link → Scoped
  links_of links = each (map (fold_link scope_steps) links)

  abbrev other_of : Option Block → Scoped
  other_of otherwise = maybe (option_map (fold_block scope_steps) otherwise)

  abbrev other_keys : Option Block → Keys
  other_keys otherwise = unwrap_or (option_map (fold_block declared_steps) otherwise) []

  other_few : (otherwise : Option Block) → Given claims.block otherwise
      → n (other_keys otherwise) ≤ d (other_of otherwise)
  other_few None all = omega (arith, nil)
  other_few (Some block) all = all

  returned_few : (value : Option Expr) → Given claims.expr value
      → n (unwrap_or (option_map (fold_expr declared_steps) value) [])
      ≤ d (maybe (option_map (fold_expr scope_steps) value))
  returned_few None all = omega (arith, nil)
  returned_few (Some value) all = all

  stmts_few : (list : List Stmt) → AllByRecursion claims.stmt list
      → n (joined (map (fold_stmt declared_steps) list))
      ≤ d (sequence (map (fold_stmt scope_steps) list))
  stmts_few [] all = omega (arith, nil)
  stmts_few (stmt ∷ list) all =
      let one = fold_stmt scope_steps stmt in
      let more = sequence (map (fold_stmt scope_steps) list) in
      omega (
        arith,
        all.0,
        stmts_few list all.1,
        app (fold_stmt declared_steps stmt) (joined (map (fold_stmt declared_steps) list)),
        app one.inside.declared (ats one.names ++ more.declared),
        app (ats one.names) more.declared,
      )

  abbrev by : (one other : Scoped) → one ≡ other → d one ≡ d other
  by one other is = ap (λ (scoped : Scoped). count scoped.declared c) is

  abbrev by_stmt : (one other : Stated) → one ≡ other → s one ≡ s other
  by_stmt one other is = ap (λ (stated : Stated). s stated) is

  abbrev by_keys : (one other : Keys) → one ≡ other → n one ≡ n other
  by_keys one other is = ap (λ list. count list c) is

  cases : Cases claims
  cases = record {
    int = λ at value. omega (arith, by_keys _ _ (eq.fold_expr-Int declared_steps at value), nil);
    bool = λ at value. omega (arith, by_keys _ _ (eq.fold_expr-Bool declared_steps at value), nil);
    use_of = λ name. omega (arith, by_keys _ _ (eq.fold_expr-Use declared_steps name), nil);
    me = λ at. omega (arith, by_keys _ _ (eq.fold_expr-Me declared_steps at), nil);
    member = λ base name all.
        omega (
          arith,
          by _ _ (eq.fold_expr-Member scope_steps base name),
          by_keys _ _ (eq.fold_expr-Member declared_steps base name),
          all,
        );
    call = λ name args all.
        omega (
          arith,
          by _ _ (eq.fold_expr-Call scope_steps name args),
          by_keys _ _ (eq.fold_expr-Call declared_steps name args),
          nil,
          app [] (args_of args).declared,
          parts (fold_arg declared_steps) (fold_arg scope_steps) args all,
        );
    method = λ base name args of_base all.
        omega (
          arith,
          by _ _ (eq.fold_expr-Method scope_steps base name args),
          by_keys _ _ (eq.fold_expr-Method declared_steps base name args),
          two (fold_expr scope_steps base) (args_of args),
          app (fold_expr declared_steps base) (joined (map (fold_arg declared_steps) args)),
          of_base,
          parts (fold_arg declared_steps) (fold_arg scope_steps) args all,
        );
    chain = λ first rest of_first all.
        omega (
          arith,
          by _ _ (eq.fold_expr-Chain scope_steps first rest),
          by_keys _ _ (eq.fold_expr-Chain declared_steps first rest),
          two (fold_expr scope_steps first) (links_of rest),
          app (fold_expr declared_steps first) (joined (map (fold_link declared_steps) rest)),
          of_first,
          parts (fold_link declared_steps) (fold_link scope_steps) rest all,
        );
    prefix = λ op at inner all.
        omega (
          arith,
          by _ _ (eq.fold_expr-Prefix scope_steps op at inner),
          by_keys _ _ (eq.fold_expr-Prefix declared_steps op at inner),
          all,
        );
    await = λ at inner all.
        omega (
          arith,
          by _ _ (eq.fold_expr-Await scope_steps at inner),
          by_keys _ _ (eq.fold_expr-Await declared_steps at inner),
          all,
        );
    fun = λ closure all.
        omega (
          arith,
          by _ _ (eq.fold_expr-Fun scope_steps closure),
          by_keys _ _ (eq.fold_expr-Fun declared_steps closure),
          all,
        );
    spawn = λ at detached body all.
        omega (
          arith,
          by _ _ (eq.fold_expr-Spawn scope_steps at detached body),
          by_keys _ _ (eq.fold_expr-Spawn declared_steps at detached body),
          all,
        );
    yield = λ at. omega (arith, by_keys _ _ (eq.fold_expr-Yield declared_steps at), nil);
    bind = λ mutable name ty value all.
        omega (
          arith,
          by_stmt _ _ (eq.fold_stmt-Bind scope_steps mutable name ty value),
          by_keys _ _ (eq.fold_stmt-Bind declared_steps mutable name ty value),
          con name.at [],
          con name.at (fold_expr declared_steps value),
          nil,
          all,
        );
    assign = λ at op place value of_place of_value.
        omega (
          arith,
          by_stmt _ _ (eq.fold_stmt-Assign scope_steps at op place value),
          by_keys _ _ (eq.fold_stmt-Assign declared_steps at op place value),
          nil,
          two (fold_expr scope_steps place) (fold_expr scope_steps value),
          app (fold_expr declared_steps place) (fold_expr declared_steps value),
          of_place,
          of_value,
        );
    discard = λ at value all.
        omega (
          arith,
          by_stmt _ _ (eq.fold_stmt-Discard scope_steps at value),
          by_keys _ _ (eq.fold_stmt-Discard declared_steps at value),
          nil,
          all,
        );
    if_of = λ arms otherwise all last.
        omega (
          arith,
          by_stmt _ _ (eq.fold_stmt-If scope_steps arms otherwise),
          by_keys _ _ (eq.fold_stmt-If declared_steps arms otherwise),
          nil,
          two (each (map (fold_if_arm scope_steps) arms)) (other_of otherwise),
          app (joined (map (fold_if_arm declared_steps) arms)) (other_keys otherwise),
          parts (fold_if_arm declared_steps) (fold_if_arm scope_steps) arms all,
          other_few otherwise last,
        );
    while_of = λ at cond body of_cond of_body.
        omega (
          arith,
          by_stmt _ _ (eq.fold_stmt-While scope_steps at cond body),
          by_keys _ _ (eq.fold_stmt-While declared_steps at cond body),
          nil,
          two (fold_expr scope_steps cond) (fold_block scope_steps body),
          app (fold_expr declared_steps cond) (fold_block declared_steps body),
          of_cond,
          of_body,
        );
    switch = λ at subject arms otherwise of_subject all last.
        let arms_scoped = each (map (fold_case_arm scope_steps) arms) in
        let before = fold_expr scope_steps subject in
        let first = fold_expr declared_steps subject in
        let arm_keys = joined (map (fold_case_arm declared_steps) arms) in
        omega (
          arith,
          by_stmt _ _ (eq.fold_stmt-Switch scope_steps at subject arms otherwise),
          by_keys _ _ (eq.fold_stmt-Switch declared_steps at subject arms otherwise),
          nil,
          two (both before arms_scoped) (other_of otherwise),
          two before arms_scoped,
          app (first ++ arm_keys) (other_keys otherwise),
          app first arm_keys,
          of_subject,
          parts (fold_case_arm declared_steps) (fold_case_arm scope_steps) arms all,
          other_few otherwise last,
        );
    return_of = λ at value given.
        omega (
          arith,
          by_stmt _ _ (eq.fold_stmt-Return scope_steps at value),
          by_keys _ _ (eq.fold_stmt-Return declared_steps at value),
          nil,
          returned_few value given,
        );
    break_of = λ at. omega (arith, by_keys _ _ (eq.fold_stmt-Break declared_steps at), nil);
    continue_of = λ at. omega (arith, by_keys _ _ (eq.fold_stmt-Continue declared_steps at), nil);
    plain = λ value all.
        omega (
          arith,
          by_stmt _ _ (eq.fold_stmt-Plain scope_steps value),
          by_keys _ _ (eq.fold_stmt-Plain declared_steps value),
          nil,
          all,
        );
    arg = λ label value all.
        omega (
          arith,
          by _ _ (eq.fold_arg-roll scope_steps label value),
          by_keys _ _ (eq.fold_arg-roll declared_steps label value),
          all,
        );
    closure = λ at mark captures params result body all.
        let names = map (λ (param : ClosureParam). param.name.at) params in
        omega (
          arith,
          by _ _ (eq.fold_closure-roll scope_steps at mark captures params result body),
          by_keys _ _ (eq.fold_closure-roll declared_steps at mark captures params result body),
          ap (λ list. count list c) (params_are params),
          app (ats (map (λ (param : ClosureParam). param.name) params))
              (fold_block scope_steps body).declared,
          app names (fold_block declared_steps body),
          all,
        );
    link = λ op at operand all.
        omega (
          arith,
          by _ _ (eq.fold_link-roll scope_steps op at operand),
          by_keys _ _ (eq.fold_link-roll declared_steps op at operand),
          all,
        );
    block = λ list all.
        omega (
          arith,
          by _ _ (eq.fold_block-roll scope_steps list),
          by_keys _ _ (eq.fold_block-roll declared_steps list),
          stmts_few list all,
        );
    case_arm = λ name patterns body all.
        omega (
          arith,
          by _ _ (eq.fold_case_arm-roll scope_steps name patterns body),
          by_keys _ _ (eq.fold_case_arm-roll declared_steps name patterns body),
          ap (λ list. count list c) (patterns_are patterns),
          app (ats (flat_map pattern_names patterns)) (fold_block scope_steps body).declared,
          app (flat_map pattern_keys patterns) (fold_block declared_steps body),
          all,
        );
    if_arm = λ at cond body of_cond of_body.
        omega (
          arith,
          by _ _ (eq.fold_if_arm-roll scope_steps at cond body),
          by_keys _ _ (eq.fold_if_arm-roll declared_steps at cond body),
          two (fold_expr scope_steps cond) (fold_block scope_steps body),
          app (fold_expr declared_steps cond) (fold_block declared_steps body),
          of_cond,
          of_body,
        );
  }

  -- What a block declares is declared in its scopes.
  pub block_scopes : (block : Block) → n (block_declared block) ≤ d (block_scoped block)
  unfolding block_declared block_scoped
  block_scopes block = every_block claims cases block

  pub block_few : (block : Block) → n (block_declared block) ≤ n (block_keys block)
  block_few block = omega (arith, block_scopes block, declared_few c block)

  -- An expression declares what a statement of it alone does.
  pub expr_few : (expr : Expr) → n (expr_declared expr) ≤ n (expr_keys expr)
  unfolding expr_declared block_declared
  expr_few expr =
      let list = stmts.Plain expr ∷ [] in
      let alone = roll-Block (record { stmts = list }) in
      omega (
        arith,
        block_few alone,
        by_keys _ _ (eq.fold_block-roll declared_steps list),
        app (fold_stmt declared_steps (stmts.Plain expr)) [],
        nil,
        by_keys _ _ (eq.fold_stmt-Plain declared_steps expr),
        keys.in_block-roll list c,
        in_all-cons keys.in_stmt (stmts.Plain expr) [] c,
        in_all-nil keys.in_stmt c,
        keys.in_stmt-Plain expr c,
      )
