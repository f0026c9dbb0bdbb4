-- Each variable that is declared in a tree is one of the tree's keys.
use Rattle.std.proofs.Common.{◌≡◌, ℕ, ◌+◌, ◌≤◌, Option, Some, None, List, [], ◌∷◌, ◌++◌, map}
use Rattle.std.proofs.Common.{flat_map, option_map, ap, refl, arith}
use Rattle.std.specs.List.{AllByRecursion}
use Rattle.sw_tree.specs.Folds.{fold_arg, fold_block, fold_case_arm, fold_closure, fold_expr}
use Rattle.sw_tree.specs.Folds.{fold_if_arm, fold_link, fold_stmt}
use Rattle.sw_tree.specs.Keys.{Keys, block_keys, pattern_keys}
use Rattle.sw_tree.specs.declared.expr.Arg.{Arg}
use Rattle.sw_tree.specs.declared.expr.ClosureParam.{ClosureParam}
use Rattle.sw_tree.specs.declared.expr.Expr.{Expr}
use Rattle.sw_tree.specs.declared.expr.Link.{Link}
use Rattle.sw_tree.specs.declared.name.Name.{Name}
use Rattle.sw_tree.specs.declared.stmt.Block.{Block}
use Rattle.sw_tree.specs.declared.stmt.Pattern.{Pattern}
use Rattle.sw_tree.specs.declared.stmt.Pattern.TheVariants.{Let, Skip}
use Rattle.sw_tree.specs.declared.stmt.Stmt.{Stmt}
use Rattle.sw_tree.proofs.Counting.{Weight, count, hits, in_all, in_all-append, in_all-cons}
use Rattle.sw_tree.proofs.Counting.{in_all-nil, in_option}
use Rattle.sw_tree.proofs.FoldEquations as eq
use Rattle.sw_tree.proofs.KeyCounts as keys
use Rattle.sw_tree.proofs.KeyCounts.{in_arg, in_block, in_case_arm, in_closure, in_expr, in_if_arm}
use Rattle.sw_tree.proofs.KeyCounts.{in_link, in_stmt}
use Rattle.sw_tree.proofs.KeyEquations as key
use Rattle.sw_tree.proofs.TreeInduction.{Cases, Claims, Given, every_block}
use Rattle.sw_tree.specs.Scopes.{Scoped, Stated, block_scoped, both, each, maybe}
use Rattle.sw_tree.specs.Scopes.{pattern_names, scope_steps, sequence}

-- the keys of names
abbrev pub ats : List Name → Keys
ats names = map (λ (name : Name). name.at) names

-- The variables of patterns are keys of them.
pub patterns_are : (patterns : List Pattern)
    → ats (flat_map pattern_names patterns) ≡ flat_map pattern_keys patterns
patterns_are [] = refl
patterns_are (Skip at ∷ patterns) = patterns_are patterns
patterns_are (Let name ∷ patterns) = ap (λ more. name.at ∷ more) (patterns_are patterns)

-- The variables of a closure's parameters have their keys.
pub params_are : (params : List ClosureParam)
    → ats (map (λ (param : ClosureParam). param.name) params)
    ≡ map (λ (param : ClosureParam). param.name.at) params
params_are [] = refl
params_are (param ∷ params) = ap (λ more. param.name.at ∷ more) (params_are params)

module _ (c : ℕ) where
  abbrev n : Keys → ℕ
  n list = count list c

  abbrev d : Scoped → ℕ
  d scoped = count scoped.declared c

  -- a statement, with what it declares for those after it
  abbrev s : Stated → ℕ
  s stated = n (ats stated.names) + d stated.inside

  abbrev app : (xs ys : Keys) → n (xs ++ ys) ≡ n xs + n ys
  app xs ys = in_all-append hits xs ys c

  abbrev con : (at : ℕ) (xs : Keys) → n (at ∷ xs) ≡ hits at c + n xs
  con at xs = in_all-cons hits at xs c

  abbrev nil : n [] ≡ 0
  nil = in_all-nil hits c

  abbrev two : (one other : Scoped) → d (both one other) ≡ d one + d other
  two one other = app one.declared other.declared

  -- what is in a list
  parts : {Y : Type 0} (scoped_of : Y → Scoped) (own : Y → Weight) (ys : List Y)
      → AllByRecursion (λ y. d (scoped_of y) ≤ own y c) ys
      → d (each (map scoped_of ys)) ≤ in_all own ys c
  parts scoped_of own [] all = omega (arith, nil)
  parts scoped_of own (y ∷ ys) all =
      omega (
        arith,
        in_all-cons own y ys c,
        all.0,
        parts scoped_of own ys all.1,
        two (scoped_of y) (each (map scoped_of ys)),
      )

  abbrev claims : Claims
  claims = record {
    expr = λ x. d (fold_expr scope_steps x) ≤ in_expr x c;
    stmt = λ x. s (fold_stmt scope_steps x) ≤ in_stmt x c;
    arg = λ x. d (fold_arg scope_steps x) ≤ in_arg x c;
    closure = λ x. d (fold_closure scope_steps x) ≤ in_closure x c;
    link = λ x. d (fold_link scope_steps x) ≤ in_link x c;
    block = λ x. d (fold_block scope_steps x) ≤ in_block x c;
    case_arm = λ x. d (fold_case_arm scope_steps x) ≤ in_case_arm x c;
    if_arm = λ x. d (fold_if_arm scope_steps x) ≤ in_if_arm x c;
  }

  abbrev args_of : List Arg → Scoped
  args_of args = each (map (fold_arg scope_steps) args)

  abbrev links_of : List Link → Scoped
  links_of links = each (map (fold_link scope_steps) links)

  abbrev other_of : Option Block → Scoped
  other_of otherwise = maybe (option_map (fold_block scope_steps) otherwise)

  other_few : (otherwise : Option Block) → Given claims.block otherwise
      → d (other_of otherwise) ≤ in_option in_block otherwise c
  unfolding in_option
  other_few None all = omega (arith, nil)
  other_few (Some block) all = all

  returned_few : (value : Option Expr) → Given claims.expr value
      → d (maybe (option_map (fold_expr scope_steps) value)) ≤ in_option in_expr value c
  unfolding in_option
  returned_few None all = omega (arith, nil)
  returned_few (Some value) all = all

  stmts_few : (list : List Stmt) → AllByRecursion claims.stmt list
      → d (sequence (map (fold_stmt scope_steps) list)) ≤ in_all in_stmt list c
  stmts_few [] all = omega (arith, nil)
  stmts_few (stmt ∷ list) all =
      let one = fold_stmt scope_steps stmt in
      let more = sequence (map (fold_stmt scope_steps) list) in
      omega (
        arith,
        in_all-cons in_stmt stmt list c,
        all.0,
        stmts_few list all.1,
        app one.inside.declared (ats one.names ++ more.declared),
        app (ats one.names) more.declared,
      )

  abbrev by : (one other : Scoped) → one ≡ other → d one ≡ d other
  by one other is = ap (λ (scoped : Scoped). count scoped.declared c) is

  abbrev by_stmt : (one other : Stated) → one ≡ other → s one ≡ s other
  by_stmt one other is = ap (λ (stated : Stated). s stated) is

  cases : Cases claims
  cases = record {
    int = λ at value. omega (arith, by _ _ (eq.fold_expr-Int scope_steps at value), nil);
    bool = λ at value. omega (arith, by _ _ (eq.fold_expr-Bool scope_steps at value), nil);
    use_of = λ name. omega (arith, by _ _ (eq.fold_expr-Use scope_steps name), nil);
    me = λ at. omega (arith, by _ _ (eq.fold_expr-Me scope_steps at), nil);
    member = λ base name all.
        omega (
          arith,
          by _ _ (eq.fold_expr-Member scope_steps base name),
          keys.in_expr-Member base name c,
          all,
        );
    call = λ name args all.
        omega (
          arith,
          by _ _ (eq.fold_expr-Call scope_steps name args),
          keys.in_expr-Call name args c,
          nil,
          app [] (args_of args).declared,
          parts (fold_arg scope_steps) in_arg args all,
        );
    method = λ base name args of_base all.
        omega (
          arith,
          by _ _ (eq.fold_expr-Method scope_steps base name args),
          keys.in_expr-Method base name args c,
          two (fold_expr scope_steps base) (args_of args),
          of_base,
          parts (fold_arg scope_steps) in_arg args all,
        );
    chain = λ first rest of_first all.
        omega (
          arith,
          by _ _ (eq.fold_expr-Chain scope_steps first rest),
          keys.in_expr-Chain first rest c,
          two (fold_expr scope_steps first) (links_of rest),
          of_first,
          parts (fold_link scope_steps) in_link rest all,
        );
    prefix = λ op at inner all.
        omega (
          arith,
          by _ _ (eq.fold_expr-Prefix scope_steps op at inner),
          keys.in_expr-Prefix op at inner c,
          all,
        );
    await = λ at inner all.
        omega (
          arith,
          by _ _ (eq.fold_expr-Await scope_steps at inner),
          keys.in_expr-Await at inner c,
          all,
        );
    fun = λ closure all.
        omega (
          arith,
          by _ _ (eq.fold_expr-Fun scope_steps closure),
          keys.in_expr-Fun closure c,
          all,
        );
    spawn = λ at detached body all.
        omega (
          arith,
          by _ _ (eq.fold_expr-Spawn scope_steps at detached body),
          keys.in_expr-Spawn at detached body c,
          all,
        );
    yield = λ at. omega (arith, by _ _ (eq.fold_expr-Yield scope_steps at), nil);
    bind = λ mutable name ty value all.
        omega (
          arith,
          by_stmt _ _ (eq.fold_stmt-Bind scope_steps mutable name ty value),
          keys.in_stmt-Bind mutable name ty value c,
          con name.at [],
          nil,
          all,
        );
    assign = λ at op place value of_place of_value.
        omega (
          arith,
          by_stmt _ _ (eq.fold_stmt-Assign scope_steps at op place value),
          keys.in_stmt-Assign at op place value c,
          nil,
          two (fold_expr scope_steps place) (fold_expr scope_steps value),
          of_place,
          of_value,
        );
    discard = λ at value all.
        omega (
          arith,
          by_stmt _ _ (eq.fold_stmt-Discard scope_steps at value),
          keys.in_stmt-Discard at value c,
          nil,
          all,
        );
    if_of = λ arms otherwise all last.
        omega (
          arith,
          by_stmt _ _ (eq.fold_stmt-If scope_steps arms otherwise),
          keys.in_stmt-If arms otherwise c,
          nil,
          two (each (map (fold_if_arm scope_steps) arms)) (other_of otherwise),
          parts (fold_if_arm scope_steps) in_if_arm arms all,
          other_few otherwise last,
        );
    while_of = λ at cond body of_cond of_body.
        omega (
          arith,
          by_stmt _ _ (eq.fold_stmt-While scope_steps at cond body),
          keys.in_stmt-While at cond body c,
          nil,
          two (fold_expr scope_steps cond) (fold_block scope_steps body),
          of_cond,
          of_body,
        );
    switch = λ at subject arms otherwise of_subject all last.
        let arms_scoped = each (map (fold_case_arm scope_steps) arms) in
        let before = fold_expr scope_steps subject in
        omega (
          arith,
          by_stmt _ _ (eq.fold_stmt-Switch scope_steps at subject arms otherwise),
          keys.in_stmt-Switch at subject arms otherwise c,
          nil,
          two (both before arms_scoped) (other_of otherwise),
          two before arms_scoped,
          of_subject,
          parts (fold_case_arm scope_steps) in_case_arm arms all,
          other_few otherwise last,
        );
    return_of = λ at value given.
        omega (
          arith,
          by_stmt _ _ (eq.fold_stmt-Return scope_steps at value),
          keys.in_stmt-Return at value c,
          nil,
          returned_few value given,
        );
    break_of = λ at. omega (arith, by_stmt _ _ (eq.fold_stmt-Break scope_steps at), nil);
    continue_of = λ at. omega (arith, by_stmt _ _ (eq.fold_stmt-Continue scope_steps at), nil);
    plain = λ value all.
        omega (
          arith,
          by_stmt _ _ (eq.fold_stmt-Plain scope_steps value),
          keys.in_stmt-Plain value c,
          nil,
          all,
        );
    arg = λ label value all.
        omega (
          arith,
          by _ _ (eq.fold_arg-roll scope_steps label value),
          keys.in_arg-roll label value c,
          all,
        );
    closure = λ at mark captures params result body all.
        let words = map (λ (word : Name). word.at) captures in
        let names = map (λ (param : ClosureParam). param.name.at) params in
        omega (
          arith,
          by _ _ (eq.fold_closure-roll scope_steps at mark captures params result body),
          ap (λ list. count list c)
              (key.closure_keys-roll at mark captures params result body),
          ap (λ list. count list c) (params_are params),
          app (ats (map (λ (param : ClosureParam). param.name) params))
              (fold_block scope_steps body).declared,
          in_all-cons hits at (words ++ names ++ block_keys body) c,
          in_all-append hits (words ++ names) (block_keys body) c,
          in_all-append hits words names c,
          all,
        );
    link = λ op at operand all.
        omega (
          arith,
          by _ _ (eq.fold_link-roll scope_steps op at operand),
          keys.in_link-roll op at operand c,
          all,
        );
    block = λ list all.
        omega (
          arith,
          by _ _ (eq.fold_block-roll scope_steps list),
          keys.in_block-roll list c,
          stmts_few list all,
        );
    case_arm = λ name patterns body all.
        omega (
          arith,
          by _ _ (eq.fold_case_arm-roll scope_steps name patterns body),
          ap (λ list. count list c) (key.case_arm_keys-roll name patterns body),
          ap (λ list. count list c) (patterns_are patterns),
          app (ats (flat_map pattern_names patterns)) (fold_block scope_steps body).declared,
          app (flat_map pattern_keys patterns) (block_keys body),
          all,
        );
    if_arm = λ at cond body of_cond of_body.
        omega (
          arith,
          by _ _ (eq.fold_if_arm-roll scope_steps at cond body),
          keys.in_if_arm-roll at cond body c,
          two (fold_expr scope_steps cond) (fold_block scope_steps body),
          of_cond,
          of_body,
        );
  }

  pub declared_few : (block : Block)
      → count (block_scoped block).declared c ≤ count (block_keys block) c
  unfolding block_scoped
  declared_few block = every_block claims cases block
