-- What holds of each closure's body holds of all bodies inside a tree.
use Rattle.std.proofs.Common.{◌≡◌, ℕ, Option, Some, None, List, [], ◌∷◌, ◌++◌, map, flat_map, sym}
use Rattle.std.proofs.Common.{subst, option_map}
use Rattle.std.specs.List.{AllByRecursion}
use Rattle.sw_tree.proofs.FoldEquations as eq
use Rattle.sw_tree.proofs.TreeInduction.{Cases, Claims, Given as GivenOf, every_block, every_expr}
use Rattle.sw_tree.specs.Folds.{Steps, fold_arg, fold_block, fold_case_arm, fold_closure, fold_expr}
use Rattle.sw_tree.specs.Folds.{fold_if_arm, fold_link, fold_stmt}
use Rattle.sw_tree.specs.declared.expr.Arg.{Arg}
use Rattle.sw_tree.specs.declared.expr.Expr.{Expr}
use Rattle.sw_tree.specs.declared.expr.Link.{Link}
use Rattle.sw_tree.specs.declared.stmt.Block.{Block}
use Rattle.sw_tree.specs.declared.stmt.CaseArm.{CaseArm}
use Rattle.sw_tree.specs.declared.stmt.IfArm.{IfArm}
use Rattle.sw_tree.specs.declared.stmt.Stmt.{Stmt}
use Rattle.sw_tree.specs.declared.stmt.Stmt.TheVariants as stmts
use Rattle.sw_types.specs.declared.ty.Ty.{Ty}
use Rattle.sw_lower_code.specs.Whole.{Body}
use Rattle.sw_lower_rules.specs.Carriers.{ArgCode, BlockCode, CaseCode, ClosureCode, ExprCode}
use Rattle.sw_lower_rules.specs.Carriers.{IfCode, LinkCode, StmtCode}
use Rattle.sw_lower_rules.specs.Expressions.{closure_body, fun_result, spawn_result}
use Rattle.sw_lower_rules.specs.Statements.{block_code, code_steps, expr_code, inside_of}
use Rattle.sw_lower_rules.specs.Tables.{Tables}

module _ {X : Type 0} (P : X → Type 0) where
  -- what holds of each body of two lists
  pub all_both : (xs ys : List X) → AllByRecursion P xs → AllByRecursion P ys
      → AllByRecursion P (xs ++ ys)
  all_both [] ys one two = two
  all_both (x ∷ xs) ys one two = (one.0, all_both xs ys one.1 two)

  -- of each item, what is made of the part that it is made of
  all_parts : {Y Z : Type 0} (part : Y → Z) (inside : Z → List X) (ys : List Y)
      → AllByRecursion (λ y. AllByRecursion P (inside (part y))) ys
      → AllByRecursion P (flat_map inside (map part ys))
  all_parts part inside [] all = tt
  all_parts part inside (y ∷ ys) all =
      all_both (inside (part y)) (flat_map inside (map part ys)) all.0
      (all_parts part inside ys all.1)

module _ (tables : Tables) (owner : Option ℕ) (P : Body → Type 0)
    (of_closure : (closure : ClosureCode) (result : Ty)
    → P (closure_body tables owner closure result)) where
  abbrev steps : Steps
  steps = code_steps tables owner

  abbrev All : List Body → Type 0
  All bodies = AllByRecursion P bodies

  abbrev claims : Claims
  claims = record {
    expr = λ x. All (fold_expr steps x).inside;
    stmt = λ x. All (fold_stmt steps x).inside;
    arg = λ x. All (fold_arg steps x).inside;
    closure = λ x. All (fold_closure steps x).body.inside;
    link = λ x. All (fold_link steps x).inside;
    block = λ x. All (fold_block steps x).inside;
    case_arm = λ x. All (fold_case_arm steps x).body.inside;
    if_arm = λ x. All (fold_if_arm steps x).inside;
  }

  all_args : (args : List Arg) → AllByRecursion claims.arg args
      → All (flat_map (λ (arg : ArgCode). arg.inside) (map (fold_arg steps) args))
  all_args = all_parts P (fold_arg steps) (λ (arg : ArgCode). arg.inside)

  all_links : (links : List Link) → AllByRecursion claims.link links
      → All (flat_map (λ (link : LinkCode). link.inside) (map (fold_link steps) links))
  all_links = all_parts P (fold_link steps) (λ (link : LinkCode). link.inside)

  all_stmts : (stmts : List Stmt) → AllByRecursion claims.stmt stmts
      → All (flat_map (λ (one : StmtCode). one.inside) (map (fold_stmt steps) stmts))
  all_stmts = all_parts P (fold_stmt steps) (λ (one : StmtCode). one.inside)

  all_ifs : (arms : List IfArm) → AllByRecursion claims.if_arm arms
      → All (flat_map (λ (arm : IfCode). arm.inside) (map (fold_if_arm steps) arms))
  all_ifs = all_parts P (fold_if_arm steps) (λ (arm : IfCode). arm.inside)

  all_cases : (arms : List CaseArm) → AllByRecursion claims.case_arm arms
      → All (flat_map (λ (arm : CaseCode). arm.body.inside) (map (fold_case_arm steps) arms))
  all_cases = all_parts P (fold_case_arm steps) (λ (arm : CaseCode). arm.body.inside)

  all_other : (other : Option Block) → GivenOf claims.block other
      → All (inside_of (option_map (fold_block steps) other))
  all_other None all = tt
  all_other (Some block) all = all

  -- by what a step gives
  expr_by : (x : Expr) (code : ExprCode) → fold_expr steps x ≡ code → All code.inside
      → claims.expr x
  expr_by x code is all = subst (λ (c : ExprCode). All c.inside) (sym is) all

  stmt_by : (x : Stmt) (code : StmtCode) → fold_stmt steps x ≡ code → All code.inside
      → claims.stmt x
  stmt_by x code is all = subst (λ (c : StmtCode). All c.inside) (sym is) all

  returned : (at : ℕ) (value : Option Expr) → GivenOf claims.expr value
      → claims.stmt (stmts.Return at value)
  returned at None all = stmt_by _ _ (eq.fold_stmt-Return steps at None) tt
  returned at (Some value) all = stmt_by _ _ (eq.fold_stmt-Return steps at (Some value)) all

  cases : Cases claims
  cases = record {
    int = λ at value. expr_by _ _ (eq.fold_expr-Int steps at value) tt;
    bool = λ at value. expr_by _ _ (eq.fold_expr-Bool steps at value) tt;
    use_of = λ name. expr_by _ _ (eq.fold_expr-Use steps name) tt;
    me = λ at. expr_by _ _ (eq.fold_expr-Me steps at) tt;
    member = λ base name all. expr_by _ _ (eq.fold_expr-Member steps base name) all;
    call = λ name args all. expr_by _ _ (eq.fold_expr-Call steps name args) (all_args args all);
    method = λ base name args of_base all.
        expr_by _ _ (eq.fold_expr-Method steps base name args)
        (all_both P (fold_expr steps base).inside _ of_base (all_args args all));
    chain = λ first rest of_first all.
        expr_by _ _ (eq.fold_expr-Chain steps first rest)
        (all_both P (fold_expr steps first).inside _ of_first (all_links rest all));
    prefix = λ op at inner all. expr_by _ _ (eq.fold_expr-Prefix steps op at inner) all;
    await = λ at inner all. expr_by _ _ (eq.fold_expr-Await steps at inner) all;
    fun = λ closure all.
        expr_by _ _ (eq.fold_expr-Fun steps closure) (
          of_closure (fold_closure steps closure)
              (fun_result tables owner (fold_closure steps closure).at),
          all,
        );
    spawn = λ at detached body all.
        expr_by _ _ (eq.fold_expr-Spawn steps at detached body) (
          of_closure (record (fold_closure steps body) { params = [] })
              (spawn_result tables owner at),
          all,
        );
    yield = λ at. expr_by _ _ (eq.fold_expr-Yield steps at) tt;
    bind = λ mutable name ty value all.
        stmt_by _ _ (eq.fold_stmt-Bind steps mutable name ty value) all;
    assign = λ at op place value of_place of_value.
        stmt_by _ _ (eq.fold_stmt-Assign steps at op place value)
        (all_both P (fold_expr steps place).inside _ of_place of_value);
    discard = λ at value all. stmt_by _ _ (eq.fold_stmt-Discard steps at value) all;
    if_of = λ arms otherwise all last.
        stmt_by _ _ (eq.fold_stmt-If steps arms otherwise)
        (all_both P _ _ (all_ifs arms all) (all_other otherwise last));
    while_of = λ at cond body of_cond of_body.
        stmt_by _ _ (eq.fold_stmt-While steps at cond body)
        (all_both P (fold_expr steps cond).inside _ of_cond of_body);
    switch = λ at subject arms otherwise of_subject all last.
        stmt_by _ _ (eq.fold_stmt-Switch steps at subject arms otherwise)
        (all_both P _ _
        (all_both P (fold_expr steps subject).inside _ of_subject (all_cases arms all))
        (all_other otherwise last));
    return_of = λ at value all. returned at value all;
    break_of = λ at. stmt_by _ _ (eq.fold_stmt-Break steps at) tt;
    continue_of = λ at. stmt_by _ _ (eq.fold_stmt-Continue steps at) tt;
    plain = λ value all. stmt_by _ _ (eq.fold_stmt-Plain steps value) all;
    arg = λ label value all.
        subst (λ (c : ArgCode). All c.inside) (sym (eq.fold_arg-roll steps label value)) all;
    closure = λ at mark captures params result body all.
        subst (λ (c : ClosureCode). All c.body.inside)
        (sym (eq.fold_closure-roll steps at mark captures params result body)) all;
    link = λ op at operand all.
        subst (λ (c : LinkCode). All c.inside) (sym (eq.fold_link-roll steps op at operand)) all;
    block = λ stmts all.
        subst (λ (c : BlockCode). All c.inside) (sym (eq.fold_block-roll steps stmts))
        (all_stmts stmts all);
    case_arm = λ name patterns body all.
        subst (λ (c : CaseCode). All c.body.inside)
        (sym (eq.fold_case_arm-roll steps name patterns body)) all;
    if_arm = λ at cond body of_cond of_body.
        subst (λ (c : IfCode). All c.inside) (sym (eq.fold_if_arm-roll steps at cond body))
        (all_both P (fold_expr steps cond).inside _ of_cond of_body);
  }

  -- What holds of each closure's body holds of all bodies in a block.
  pub all_in_block : (block : Block) → AllByRecursion P (block_code tables owner block).inside
  unfolding block_code
  all_in_block block = every_block claims cases block

  -- And it holds of all bodies in an expression.
  pub all_in_expr : (expr : Expr) → AllByRecursion P (expr_code tables owner expr).inside
  unfolding expr_code
  all_in_expr expr = every_expr claims cases expr
