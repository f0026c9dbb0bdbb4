-- No `if` without arms is spelled: one would weigh something, and tokens weigh nothing.
use Rattle.std.proofs.Common.{◌≡◌, ℕ, suc, ◌+◌, ◌≤◌, List, [], ◌∷◌, ◌++◌, map, length, true, codes}
use Rattle.std.proofs.Common.{Option, Some, None, option_map, refl, arith}
use Rattle.std.proofs.lemmas.List.Sums.{sum_by-cons}
use Rattle.std.specs.List.{sum, sum_by}
use Rattle.sw_tree.specs.Folds.{fold_arg, fold_block, fold_case_arm, fold_closure, fold_expr}
use Rattle.sw_tree.specs.Folds.{fold_if_arm, fold_link, fold_stmt}
use Rattle.sw_tree.specs.Names.{value_id}
use Rattle.sw_tree.specs.declared.decl.Decl.{Decl}
use Rattle.sw_tree.specs.declared.expr.Arg.{roll-Arg}
use Rattle.sw_tree.specs.declared.expr.Expr.{Expr}
use Rattle.sw_tree.specs.declared.expr.Expr.TheVariants as exprs
use Rattle.sw_tree.specs.declared.operator.AssignOp.TheVariants as assigns
use Rattle.sw_tree.specs.declared.stmt.Block.{Block, roll-Block}
use Rattle.sw_tree.specs.declared.stmt.Pattern.TheVariants as patterns
use Rattle.sw_tree.specs.declared.stmt.Stmt.TheVariants as statements
use Rattle.sw_tree.specs.declared.type_tree.TypeTree.{TypeTree}
use Rattle.sw_token.specs.Spelling.{Spelled}
use Rattle.sw_tree.proofs.Counting.{in_all, in_all-append, in_option}
use Rattle.sw_tree.proofs.FoldEquations as eq
use Rattle.sw_sugar.specs.AsyncLet.{task_body}
use Rattle.sw_sugar.specs.Calls.{or_literal_form}
use Rattle.sw_sugar.specs.Optionals.{begun, block_of, declared, name_at, or_literal_stmts, or_switch}
use Rattle.sw_sugar.specs.Optionals.{some_arm, some_tree, taken, use_at}
use Rattle.sw_sugar.specs.Tasks.{of_task}
use Rattle.sw_sugar.specs.declared.words.OrLiteral.{OrLiteral}
use Rattle.sw_tree_facts.specs.Parts.{StandsIn, of_decls, of_stmt}
use Rattle.sw_grammar.specs.Enums.{Marked, enum_of}
use Rattle.sw_grammar.specs.Exprs.{closure_at}
use Rattle.sw_grammar.specs.Program.{Spells}
use Rattle.sw_grammar.specs.Tokens.{optional_text}
use Rattle.sw_grammar_facts.proofs.Owning.{none, tally_of}
use Rattle.sw_grammar_facts.proofs.ProgramRules.{owned}
use Rattle.sw_grammar_facts.proofs.Questions.{besides}
use Rattle.sw_grammar_facts.proofs.Spread.{spread_none}
use Rattle.sw_grammar_facts.proofs.TaskWeights.{Carried, carried}
use Rattle.sw_grammar_facts.proofs.Weighing.{Weighing}
use Rattle.sw_arm_facts.proofs.Armless.{armless_steps, decl_armless, func_armless, init_armless}
use Rattle.sw_arm_facts.proofs.Armless.{prop_armless, some_count, value_armless}
use Rattle.sw_arm_facts.proofs.Inner.{has_arm}

-- weights that are numbers
in_sum : {X : Type 0} (size : X → ℕ) (xs : List X) (k : ℕ)
    → in_all (λ x k. size x) xs k ≡ sum (map size xs)
unfolding in_all
in_sum size [] k = refl
in_sum size (x ∷ xs) k =
    omega (arith, in_sum size xs k, sum_by-cons (λ (n : ℕ). n) (size x) (map size xs))

in_sum_by : {X : Type 0} (size : X → ℕ) (xs : List X) (k : ℕ)
    → in_all (λ x k. size x) xs k ≡ sum_by size xs
unfolding in_all
in_sum_by size [] k = refl
in_sum_by size (x ∷ xs) k = omega (arith, in_sum_by size xs k, sum_by-cons size x xs)

in_some_count : {X : Type 0} (size : X → ℕ) (x : Option X) (k : ℕ)
    → in_option (λ x k. size x) x k ≡ some_count (option_map size x)
unfolding in_option
in_some_count size None k = refl
in_some_count size (Some x) k = refl

in_value : (value : Option Expr) (k : ℕ)
    → in_option (λ x k. (fold_expr armless_steps x)) value k ≡ value_armless value
unfolding in_option
in_value None k = refl
in_value (Some value) k = refl

-- the sums of lists of one
sum_one : (n : ℕ) → sum (n ∷ []) ≡ n
sum_one n = omega (arith, sum_by-cons (λ (n : ℕ). n) n [])

optional_counts : (some of at : ℕ) (value : Expr)
    → fold_expr armless_steps (some_tree some of at value)
    ≤ fold_expr armless_steps value
optional_counts some of at value =
    let arg = roll-Arg (record { label = None; value = value }) in
    omega (
      arith,
      eq.fold_expr-Method armless_steps (use_at (suc at) of) (name_at at some) (arg ∷ []),
      eq.fold_expr-Use armless_steps (name_at (suc at) of),
      eq.fold_arg-roll armless_steps None value,
      sum_one (fold_arg armless_steps arg),
    )

-- the statements that stand for `let x: T = e ?? d`
or_counts : (form : OrLiteral) (ty : TypeTree) (value literal : Expr)
    → sum (map (fold_stmt armless_steps) (or_literal_stmts form ty value literal))
    ≤ fold_expr armless_steps value + fold_expr armless_steps literal
or_counts form ty value literal =
    let whole = name_at (suc form.op_at) form.word.whole in
    let part = name_at (suc form.let_at) form.word.part in
    let last = name_at (suc (suc form.let_at)) form.word.whole in
    let pattern = patterns.Let (name_at form.colon_at form.word.part) in
    let body = block_of (taken form ∷ []) in
    let arm = some_arm form.some form.colon_at (name_at form.colon_at form.word.part) body in
    omega (
      arith,
      sum_three (fold_stmt armless_steps (begun form ty literal))
          (fold_stmt armless_steps (or_switch form value)) (fold_stmt armless_steps (declared form ty)),
      eq.fold_stmt-Bind armless_steps true (name_at form.op_at form.word.whole) (Some ty) literal,
      eq.fold_stmt-Switch armless_steps form.eq_at value (arm ∷ []) (Some (block_of [])),
      sum_one (fold_case_arm armless_steps arm),
      eq.fold_case_arm-roll armless_steps (name_at form.colon_at form.some) (pattern ∷ []) body,
      eq.fold_block-roll armless_steps (taken form ∷ []),
      sum_one (fold_stmt armless_steps (taken form)),
      eq.fold_block-roll armless_steps [],
      eq.fold_stmt-Assign armless_steps form.let_at assigns.Set (exprs.Use whole) (exprs.Use part),
      eq.fold_expr-Use armless_steps whole,
      eq.fold_expr-Use armless_steps part,
      eq.fold_stmt-Bind armless_steps form.mutable form.word.name (Some ty) (exprs.Use last),
      eq.fold_expr-Use armless_steps last,
    )
  where
    sum_three : (a b c : ℕ) → sum (a ∷ b ∷ c ∷ []) ≡ a + b + c
    sum_three a b c =
        omega (
          arith,
          sum_by-cons (λ (n : ℕ). n) a (b ∷ c ∷ []),
          sum_by-cons (λ (n : ℕ). n) b (c ∷ []),
          sum_one c,
        )

-- what an `await` awaits has as many
task_carried : (at : ℕ)
    → Carried at (λ made tree. fold_expr armless_steps made ≡ (fold_expr armless_steps tree))
task_carried at = record {
  same = λ tree. refl;
  task = λ name.
      omega (
        arith,
        eq.fold_expr-Member armless_steps (use_at at name.id) (name_at name.at value_id),
        eq.fold_expr-Use armless_steps (name_at at name.id),
        eq.fold_expr-Use armless_steps name,
      );
  member = λ made tree name is.
      omega (
        arith,
        is,
        eq.fold_expr-Member armless_steps made name,
        eq.fold_expr-Member armless_steps tree name,
      );
  method = λ made tree name args is.
      omega (
        arith,
        is,
        eq.fold_expr-Method armless_steps made name args,
        eq.fold_expr-Method armless_steps tree name args,
      );
  chain = λ made tree rest is.
      omega (
        arith,
        is,
        eq.fold_expr-Chain armless_steps made rest,
        eq.fold_expr-Chain armless_steps tree rest,
      );
  prefix = λ op at made tree is.
      omega (
        arith,
        is,
        eq.fold_expr-Prefix armless_steps op at made,
        eq.fold_expr-Prefix armless_steps op at tree,
      );
}

task_count : (tasks : List ℕ) (at : ℕ) (tree : Expr)
    → fold_expr armless_steps (of_task tasks at tree) ≡ fold_expr armless_steps tree
task_count tasks at tree =
    carried tasks at
    (λ made tree. fold_expr armless_steps made ≡ (fold_expr armless_steps tree))
    (task_carried at) tree

-- the body of a task that awaits a value
task_body_count : (eq_at await_at : ℕ) (value : Expr)
    → fold_closure armless_steps (task_body eq_at await_at value)
    ≡ fold_expr armless_steps value
task_body_count eq_at await_at value =
    let stmt = statements.Plain (exprs.Await await_at value) in
    omega (
      arith,
      eq.fold_closure-roll armless_steps eq_at None [] [] None (block_of (stmt ∷ [])),
      eq.fold_block-roll armless_steps (stmt ∷ []),
      sum_one (fold_stmt armless_steps stmt),
      eq.fold_stmt-Plain armless_steps (exprs.Await await_at value),
      eq.fold_expr-Await armless_steps await_at value,
    )

bare_ifs : (id_of : List ℕ → ℕ) → Weighing id_of
bare_ifs id_of = record {
  tally = tally_of (besides (λ token. none));
  place = λ at. none;
  entry = λ at. none;
  node = λ name. none;
  label = λ name. none;
  type = λ ty. none;
  expr = λ x k. fold_expr armless_steps x;
  arg = λ x k. fold_arg armless_steps x;
  closure_param = λ param. none;
  task_param = λ param. none;
  closure = λ x k. fold_closure armless_steps x;
  inside = λ it k. sum (map (fold_stmt armless_steps) it.body);
  link = λ x k. fold_link armless_steps x;
  block = λ x k. fold_block armless_steps x;
  stmt = λ x k. fold_stmt armless_steps x;
  stmts = λ all k. sum (map (fold_stmt armless_steps) all);
  for_block = λ name body k. fold_block armless_steps body;
  pattern = λ pattern. none;
  case_arm = λ x k. fold_case_arm armless_steps x;
  if_arm = λ x k. fold_if_arm armless_steps x;
  written = λ mark. none;
  param = λ param. none;
  func = λ func k. func_armless func;
  prop = λ prop k. prop_armless prop;
  init = λ init k. init_armless init;
  case = λ given. none;
  decl = λ decl k. decl_armless decl;
  of_place = λ token _ k. omega arith;
  of_span = λ token _ _ k. omega (arith, spread_none (length token.text) token.at k);
  of_entry = λ token _ k. omega arith;
  of_word = λ token _ _ _ k. omega arith;
  of_mark = λ token _ _ k. omega arith;
  of_node = λ name k. omega arith;
  of_optional_type = λ name text k. omega arith;
  type-Named = λ name k. omega arith;
  type-Unit = λ at k. omega arith;
  type-Arrow = λ at mark params result k. omega arith;
  type-TaskOf = λ at inner k. omega arith;
  expr-Int = λ at value k. omega (arith, eq.fold_expr-Int armless_steps at value);
  expr-Bool = λ at value k. omega (arith, eq.fold_expr-Bool armless_steps at value);
  expr-Use = λ name k. omega (arith, eq.fold_expr-Use armless_steps name);
  expr-Me = λ at k. omega (arith, eq.fold_expr-Me armless_steps at);
  expr-Member = λ base name k.
      omega (arith, eq.fold_expr-Member armless_steps base name);
  expr-Call = λ name args k.
      omega (
        arith,
        eq.fold_expr-Call armless_steps name args,
        in_sum (fold_arg armless_steps) args k,
      );
  expr-Method = λ base name args k.
      omega (
        arith,
        eq.fold_expr-Method armless_steps base name args,
        in_sum (fold_arg armless_steps) args k,
      );
  expr-Chain = λ first next rest k.
      omega (
        arith,
        eq.fold_expr-Chain armless_steps first (next ∷ rest),
        in_sum (fold_link armless_steps) (next ∷ rest) k,
      );
  expr-Prefix = λ op at inner k.
      omega (arith, eq.fold_expr-Prefix armless_steps op at inner);
  expr-Await = λ at inner k. omega (arith, eq.fold_expr-Await armless_steps at inner);
  expr-Fun = λ body k. omega (arith, eq.fold_expr-Fun armless_steps body);
  expr-Spawn = λ at detached opened body k.
      omega (
        arith,
        eq.fold_expr-Spawn armless_steps at detached (closure_at opened body),
      );
  expr-Yield = λ at k. omega (arith, eq.fold_expr-Yield armless_steps at);
  expr-None = λ at text _ k.
      let word = name_at at (id_of (codes "none")) in
      let of = id_of (optional_text text) in
      omega (
        arith,
        eq.fold_expr-Member armless_steps (use_at (suc at) of) word,
        eq.fold_expr-Use armless_steps (name_at (suc at) of),
      );
  expr-Some = λ at text value _ k.
      let some = id_of (codes "some") in
      omega (arith, optional_counts some (id_of (optional_text text)) at value);
  expr-Optional = λ at k.
      omega (arith, eq.fold_expr-Use armless_steps (name_at at (id_of (codes "Optional"))));
  expr-Task = λ tasks at tree k. omega (arith, task_count tasks at tree);
  arg-roll = λ name value k. omega (arith, eq.fold_arg-roll armless_steps name value);
  closure_param-is = λ given k. omega arith;
  inside-is = λ it _ k. omega arith;
  closure-opened = λ at it _ k.
      let body = roll-Block (record { stmts = it.body }) in
      omega (
        arith,
        eq.fold_closure-roll armless_steps at it.mark it.captures it.params it.result body,
        eq.fold_block-roll armless_steps it.body,
      );
  closure-Task = λ eq_at await_at tasks value _ k.
      omega (
        arith,
        task_body_count eq_at await_at (of_task tasks (suc await_at) value),
        task_count tasks (suc await_at) value,
      );
  link-roll = λ op at operand k. omega (arith, eq.fold_link-roll armless_steps op at operand);
  block-roll = λ body k. omega (arith, eq.fold_block-roll armless_steps body);
  stmts-nil = λ k. omega arith;
  stmts-one = λ one k. omega (arith, sum_by-cons (λ (n : ℕ). n) (fold_stmt armless_steps one) []);
  stmts-append = λ xs ys _ k.
      omega (
        arith,
        in_sum (fold_stmt armless_steps) (xs ++ ys) k,
        in_sum (fold_stmt armless_steps) xs k,
        in_sum (fold_stmt armless_steps) ys k,
        in_all-append (λ x k. fold_stmt armless_steps x) xs ys k,
      );
  stmt-Bind = λ mutable name ty value k.
      omega (arith, eq.fold_stmt-Bind armless_steps mutable name ty value);
  stmts-Or = λ binding _ _ _ _ colon_at ty eq_at value or k.
      omega (
        arith,
        or_counts (or_literal_form id_of binding.word.text binding.mutable binding.word.name
            binding.let_at colon_at eq_at or.op_at) ty value or.other,
      );
  stmt-Assign = λ at op first value _ k.
      omega (arith, eq.fold_stmt-Assign armless_steps at op first value);
  stmt-Discard = λ at value k. omega (arith, eq.fold_stmt-Discard armless_steps at value);
  stmt-If = λ arm arms otherwise k.
      omega (
        arith,
        eq.fold_stmt-If armless_steps (arm ∷ arms) otherwise,
        in_sum (fold_if_arm armless_steps) (arm ∷ arms) k,
        in_some_count (fold_block armless_steps) otherwise k,
      );
  stmt-While = λ at cond body k. omega (arith, eq.fold_stmt-While armless_steps at cond body);
  stmt-Switch = λ at subject arms otherwise k.
      omega (
        arith,
        eq.fold_stmt-Switch armless_steps at subject arms otherwise,
        in_sum (fold_case_arm armless_steps) arms k,
        in_some_count (fold_block armless_steps) otherwise k,
      );
  stmt-Return = λ at value k.
      omega (
        arith,
        eq.fold_stmt-Return armless_steps at value,
        in_some_count (fold_expr armless_steps) value k,
      );
  stmt-Break = λ at k. omega (arith, eq.fold_stmt-Break armless_steps at);
  stmt-Continue = λ at k. omega (arith, eq.fold_stmt-Continue armless_steps at);
  stmt-Plain = λ value k. omega (arith, eq.fold_stmt-Plain armless_steps value);
  pattern-Skip = λ at k. omega arith;
  pattern-Let = λ name k. omega arith;
  for_block-is = λ name body _ k. omega arith;
  arm-Some = λ at name body k.
      let some = name_at at (id_of (codes "some")) in
      omega (arith, eq.fold_case_arm-roll armless_steps some (patterns.Let name ∷ []) body);
  case_arm-roll = λ name given body _ k.
      omega (arith, eq.fold_case_arm-roll armless_steps name given body);
  if_arm-roll = λ at cond body k.
      omega (arith, eq.fold_if_arm-roll armless_steps at cond body);
  written-Absent = λ k. omega arith;
  written-At = λ name k. omega arith;
  written-Nonisolated = λ k. omega arith;
  written-Concurrent = λ k. omega arith;
  written-Nonsending = λ k. omega arith;
  param-is = λ given k. omega arith;
  func-is = λ given _ k. omega arith;
  prop-is = λ given k. omega (arith, in_value given.value k);
  init-is = λ given _ k. omega arith;
  case-is = λ given k. omega arith;
  decl-Entry = λ word mark at is_async body k. omega arith;
  decl-Struct = λ word conforms fields funcs _ k.
      omega (arith, in_sum_by prop_armless fields k, in_sum_by func_armless funcs k);
  decl-Enum = λ word conforms given funcs _ k.
      omega (arith, in_sum_by func_armless funcs k);
  decl-Class = λ mark word conforms props inits funcs _ k.
      omega (
        arith,
        in_sum_by prop_armless props k,
        in_sum_by init_armless inits k,
        in_sum_by func_armless funcs k,
      );
  decl-Actor = λ word props inits funcs _ k.
      omega (
        arith,
        in_sum_by prop_armless props k,
        in_sum_by init_armless inits k,
        in_sum_by func_armless funcs k,
      );
  decl-GlobalActor = λ word made k. omega arith;
  decl-Func = λ given k. omega arith;
  decl-Global = λ given _ k. omega arith;
}

light : (tokens : List Spelled) (k : ℕ) → in_all (λ token. none) tokens k ≡ 0
unfolding in_all
light [] k = refl
light (token ∷ tokens) k = omega (arith, light tokens k)

-- the enum of an optional has no statements
enum_bare : (id_of : List ℕ → ℕ) (one : Marked) → decl_armless (enum_of id_of one) ≤ 0
enum_bare id_of one = omega arith

none_bare : (id_of : List ℕ → ℕ) (decls : List Decl) (tokens : List Spelled)
    → Spells id_of decls tokens → sum_by decl_armless decls ≡ 0
unfolding bare_ifs
none_bare id_of decls tokens spells =
    let less : in_all (λ (decl : Decl) k. decl_armless decl) decls 0
    ≤ in_all (λ token. none) tokens 0 =
    owned (bare_ifs id_of) (λ token. none) (λ token k. omega arith) (λ one k. enum_bare id_of one)
    decls tokens refl spells 0 in
    omega (arith, less, in_sum_by decl_armless decls 0, light tokens 0)

pub ifs_have_arms : (id_of : List ℕ → ℕ) (decls : List Decl) (tokens : List Spelled)
    → Spells id_of decls tokens → (otherwise : Option Block)
    → StandsIn (of_stmt (statements.If [] otherwise)) (of_decls decls) → ⊥
ifs_have_arms id_of decls tokens spells =
    has_arm (of_decls decls) (none_bare id_of decls tokens spells)
