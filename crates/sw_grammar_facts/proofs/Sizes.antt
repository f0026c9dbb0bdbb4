-- The size of a program, of which each token of its text gives a part of sixteen at most.
use Rattle.std.proofs.Common.{◌≡◌, ℕ, zero, suc, ◌+◌, ◌*◌, ◌≤◌, IsTrue, List, [], ◌∷◌, map, length}
use Rattle.std.proofs.Common.{◌++◌, true, codes, Option, Some, None, option_map, refl, ap, arith}
use Rattle.std.proofs.lemmas.List.Sums.{sum_by-cons}
use Rattle.std.specs.List.{sum, sum_by}
use Rattle.sw_token.specs.Spelling.{Spelled}
use Rattle.sw_tree.specs.Folds.{fold_arg, fold_block, fold_case_arm, fold_closure, fold_expr}
use Rattle.sw_tree.specs.Folds.{fold_if_arm, fold_link, fold_stmt}
use Rattle.sw_tree.specs.Names.{value_id}
use Rattle.sw_tree.specs.Place.{is_place}
use Rattle.sw_tree.specs.declared.decl.Decl.{Decl}
use Rattle.sw_tree.specs.declared.expr.Arg.{roll-Arg}
use Rattle.sw_tree.specs.declared.expr.Expr.{Expr}
use Rattle.sw_tree.specs.declared.expr.Expr.TheVariants as exprs
use Rattle.sw_tree.specs.declared.operator.AssignOp.TheVariants as assigns
use Rattle.sw_tree.specs.declared.stmt.Block.{roll-Block}
use Rattle.sw_tree.specs.declared.stmt.Pattern.TheVariants as patterns
use Rattle.sw_tree.specs.declared.stmt.Stmt.TheVariants as statements
use Rattle.sw_tree.specs.declared.type_tree.TypeTree.{TypeTree}
use Rattle.sw_tree.proofs.Counting.{Weight, in_all, in_all-append, in_option}
use Rattle.sw_tree.proofs.FoldEquations as eq
use Rattle.sw_tree_facts.specs.Sizes.{ExprSize, block_size, decl_size, expr_size, func_size}
use Rattle.sw_tree_facts.specs.Sizes.{init_size, prop_size, read_alone, size_of, size_steps}
use Rattle.sw_tree_facts.specs.Sizes.{some_read, some_size, value_size}
use Rattle.sw_tree_facts.proofs.PlaceSizes.{places_have_no_size}
use Rattle.sw_sugar.specs.AsyncLet.{task_body}
use Rattle.sw_sugar.specs.Calls.{or_literal_form}
use Rattle.sw_sugar.specs.Optionals.{begun, block_of, declared, name_at, or_literal_stmts, or_switch}
use Rattle.sw_sugar.specs.Optionals.{some_arm, some_tree, taken, use_at}
use Rattle.sw_sugar.specs.Tasks.{of_task}
use Rattle.sw_sugar.specs.declared.words.OrLiteral.{OrLiteral}
use Rattle.sw_grammar.specs.Enums.{Marked, enum_of}
use Rattle.sw_grammar.specs.Exprs.{closure_at}
use Rattle.sw_grammar.specs.Program.{Spells}
use Rattle.sw_grammar.specs.Tokens.{optional_text}
use Rattle.sw_grammar_facts.proofs.Owning.{none, tally_of}
use Rattle.sw_grammar_facts.proofs.ProgramRules.{owned}
use Rattle.sw_grammar_facts.proofs.Questions.{besides, besides_is}
use Rattle.sw_grammar_facts.proofs.Spread.{spread}
use Rattle.sw_grammar_facts.proofs.TaskWeights.{Carried, carried}
use Rattle.sw_grammar_facts.proofs.Weighing.{Weighing}

abbrev single : Weight
single k = 1

-- Each place in a quoted token may be a key.
abbrev of_token : Spelled → Weight
of_token token k = 16

spread_single : (n at k : ℕ) → spread (λ at. single) n at k ≡ n
unfolding spread
spread_single zero at k = refl
spread_single (suc n) at k = omega (arith, spread_single n (suc at) k)

-- weights that are numbers
in_sum : {X : Type 0} (size : X → ℕ) (xs : List X) (k : ℕ)
    → in_all (λ x k. size x) xs k ≡ sum (map size xs)
unfolding in_all
in_sum size [] k = refl
in_sum size (x ∷ xs) k =
    omega (arith, in_sum size xs k, sum_by-cons (λ (n : ℕ). n) (size x) (map size xs))

in_sum_by : {X : Type 0} (size : X → ℕ) (xs : List X) (k : ℕ)
    → in_all (λ x k. size x) xs k ≡ sum_by size xs
unfolding in_all
in_sum_by size [] k = refl
in_sum_by size (x ∷ xs) k = omega (arith, in_sum_by size xs k, sum_by-cons size x xs)

in_length : {X : Type 0} (xs : List X) (k : ℕ) → in_all (λ x. single) xs k ≡ length xs
unfolding in_all
in_length [] k = refl
in_length (x ∷ xs) k = omega (arith, in_length xs k)

in_some_size : {X : Type 0} (size : X → ℕ) (x : Option X) (k : ℕ)
    → in_option (λ x k. size x) x k ≡ some_size (option_map size x)
unfolding in_option
in_some_size size None k = refl
in_some_size size (Some x) k = refl

in_some_read : {X : Type 0} (size : X → ExprSize) (x : Option X) (k : ℕ)
    → in_option (λ x k. (size x).read) x k ≡ some_read (option_map size x)
unfolding in_option
in_some_read size None k = refl
in_some_read size (Some x) k = refl

in_value : (value : Option Expr) (k : ℕ)
    → in_option (λ x k. (fold_expr size_steps x).read) value k ≡ value_size value
unfolding in_option expr_size
in_value None k = refl
in_value (Some value) k = refl

read_is : {a b : ExprSize} → a ≡ b → a.read ≡ b.read
read_is same = ap (λ (size : ExprSize). size.read) same

place_size : (x : Expr) → IsTrue (is_place x) → fold_expr size_steps x ≡ read_alone 0
unfolding expr_size
place_size x is = places_have_no_size x is

-- the sums of lists of one
sum_one : (n : ℕ) → sum (n ∷ []) ≡ n
sum_one n = omega (arith, sum_by-cons (λ (n : ℕ). n) n [])

some_sizes : (some of at : ℕ) (value : Expr)
    → (fold_expr size_steps (some_tree some of at value)).read
    ≤ 2 + (fold_expr size_steps value).read
some_sizes some of at value =
    let arg = roll-Arg (record { label = None; value = value }) in
    omega (
      arith,
      read_is (eq.fold_expr-Method size_steps (use_at (suc at) of) (name_at at some) (arg ∷ [])),
      read_is (eq.fold_expr-Use size_steps (name_at (suc at) of)),
      eq.fold_arg-roll size_steps None value,
      sum_one (fold_arg size_steps arg),
    )

-- a `switch` with an arm and its pattern
or_sizes : (form : OrLiteral) (ty : TypeTree) (value literal : Expr)
    → sum (map (fold_stmt size_steps) (or_literal_stmts form ty value literal))
    ≤ 3 + (fold_expr size_steps value).read + (fold_expr size_steps literal).read
or_sizes form ty value literal =
    let whole = name_at (suc form.op_at) form.word.whole in
    let part = name_at (suc form.let_at) form.word.part in
    let last = name_at (suc (suc form.let_at)) form.word.whole in
    let pattern = patterns.Let (name_at form.colon_at form.word.part) in
    let body = block_of (taken form ∷ []) in
    let arm = some_arm form.some form.colon_at (name_at form.colon_at form.word.part) body in
    omega (
      arith,
      sum_three (fold_stmt size_steps (begun form ty literal))
          (fold_stmt size_steps (or_switch form value)) (fold_stmt size_steps (declared form ty)),
      eq.fold_stmt-Bind size_steps true (name_at form.op_at form.word.whole) (Some ty) literal,
      eq.fold_stmt-Switch size_steps form.eq_at value (arm ∷ []) (Some (block_of [])),
      sum_one (fold_case_arm size_steps arm),
      eq.fold_case_arm-roll size_steps (name_at form.colon_at form.some) (pattern ∷ []) body,
      eq.fold_block-roll size_steps (taken form ∷ []),
      sum_one (fold_stmt size_steps (taken form)),
      eq.fold_block-roll size_steps [],
      eq.fold_stmt-Assign size_steps form.let_at assigns.Set (exprs.Use whole) (exprs.Use part),
      read_is (eq.fold_expr-Use size_steps whole),
      ap (λ (size : ExprSize). size.write) (eq.fold_expr-Use size_steps whole),
      read_is (eq.fold_expr-Use size_steps part),
      eq.fold_stmt-Bind size_steps form.mutable form.word.name (Some ty) (exprs.Use last),
      read_is (eq.fold_expr-Use size_steps last),
    )
  where
    sum_three : (a b c : ℕ) → sum (a ∷ b ∷ c ∷ []) ≡ a + b + c
    sum_three a b c =
        omega (
          arith,
          sum_by-cons (λ (n : ℕ). n) a (b ∷ c ∷ []),
          sum_by-cons (λ (n : ℕ). n) b (c ∷ []),
          sum_one c,
        )

-- what an `await` awaits is no larger
task_carried : (at : ℕ)
    → Carried at (λ made tree. (fold_expr size_steps made).read ≡ (fold_expr size_steps tree).read)
task_carried at = record {
  same = λ tree. refl;
  task = λ name.
      omega (
        arith,
        read_is (eq.fold_expr-Member size_steps (use_at at name.id) (name_at name.at value_id)),
        read_is (eq.fold_expr-Use size_steps (name_at at name.id)),
        read_is (eq.fold_expr-Use size_steps name),
      );
  member = λ made tree name is.
      omega (
        arith,
        is,
        read_is (eq.fold_expr-Member size_steps made name),
        read_is (eq.fold_expr-Member size_steps tree name),
      );
  method = λ made tree name args is.
      omega (
        arith,
        is,
        read_is (eq.fold_expr-Method size_steps made name args),
        read_is (eq.fold_expr-Method size_steps tree name args),
      );
  chain = λ made tree rest is.
      omega (
        arith,
        is,
        read_is (eq.fold_expr-Chain size_steps made rest),
        read_is (eq.fold_expr-Chain size_steps tree rest),
      );
  prefix = λ op at made tree is.
      omega (
        arith,
        is,
        read_is (eq.fold_expr-Prefix size_steps op at made),
        read_is (eq.fold_expr-Prefix size_steps op at tree),
      );
}

task_size : (tasks : List ℕ) (at : ℕ) (tree : Expr)
    → (fold_expr size_steps (of_task tasks at tree)).read ≡ (fold_expr size_steps tree).read
task_size tasks at tree =
    carried tasks at
    (λ made tree. (fold_expr size_steps made).read ≡ (fold_expr size_steps tree).read)
    (task_carried at) tree

-- the body of a task that awaits a value
task_body_size : (eq_at await_at : ℕ) (value : Expr)
    → fold_closure size_steps (task_body eq_at await_at value)
    ≡ 1 + (fold_expr size_steps value).read
task_body_size eq_at await_at value =
    let stmt = statements.Plain (exprs.Await await_at value) in
    omega (
      arith,
      eq.fold_closure-roll size_steps eq_at None [] [] None (block_of (stmt ∷ [])),
      eq.fold_block-roll size_steps (stmt ∷ []),
      sum_one (fold_stmt size_steps stmt),
      eq.fold_stmt-Plain size_steps (exprs.Await await_at value),
      read_is (eq.fold_expr-Await size_steps await_at value),
    )

sizes : (id_of : List ℕ → ℕ) → Weighing id_of
unfolding block_size
sizes id_of = record {
  tally = tally_of (besides of_token);
  place = λ at. single;
  entry = λ at. single;
  node = λ name. single;
  label = λ name. single;
  type = λ ty. none;
  expr = λ x k. (fold_expr size_steps x).read;
  arg = λ x k. fold_arg size_steps x;
  closure_param = λ param. none;
  task_param = λ param. none;
  closure = λ x k. fold_closure size_steps x;
  inside = λ it k. sum (map (fold_stmt size_steps) it.body);
  link = λ x k. fold_link size_steps x;
  block = λ x k. fold_block size_steps x;
  stmt = λ x k. fold_stmt size_steps x;
  stmts = λ all k. sum (map (fold_stmt size_steps) all);
  for_block = λ name body k. 1 + fold_block size_steps body;
  pattern = λ pattern. single;
  case_arm = λ x k. fold_case_arm size_steps x;
  if_arm = λ x k. fold_if_arm size_steps x;
  written = λ mark. none;
  param = λ param. none;
  func = λ func k. func_size func;
  prop = λ prop k. prop_size prop;
  init = λ init k. init_size init;
  case = λ given. single;
  decl = λ decl k. decl_size decl;
  of_place = λ token other k. omega (arith, besides_is of_token token other k);
  of_span = λ token other short k.
      omega (
        arith,
        besides_is of_token token other k,
        short,
        spread_single (length token.text) token.at k,
      );
  of_entry = λ token other k. omega (arith, besides_is of_token token other k);
  of_word = λ token other _ _ k. omega (arith, besides_is of_token token other k);
  of_mark = λ token other _ k. omega (arith, besides_is of_token token other k);
  of_node = λ name k. omega arith;
  of_optional_type = λ name text k. omega arith;
  type-Named = λ name k. omega arith;
  type-Unit = λ at k. omega arith;
  type-Arrow = λ at mark params result k. omega arith;
  type-TaskOf = λ at inner k. omega arith;
  expr-Int = λ at value k. omega (arith, read_is (eq.fold_expr-Int size_steps at value));
  expr-Bool = λ at value k. omega (arith, read_is (eq.fold_expr-Bool size_steps at value));
  expr-Use = λ name k. omega (arith, read_is (eq.fold_expr-Use size_steps name));
  expr-Me = λ at k. omega (arith, read_is (eq.fold_expr-Me size_steps at));
  expr-Member = λ base name k.
      omega (arith, read_is (eq.fold_expr-Member size_steps base name));
  expr-Call = λ name args k.
      omega (
        arith,
        read_is (eq.fold_expr-Call size_steps name args),
        in_sum (fold_arg size_steps) args k,
      );
  expr-Method = λ base name args k.
      omega (
        arith,
        read_is (eq.fold_expr-Method size_steps base name args),
        in_sum (fold_arg size_steps) args k,
      );
  expr-Chain = λ first next rest k.
      omega (
        arith,
        read_is (eq.fold_expr-Chain size_steps first (next ∷ rest)),
        in_sum (fold_link size_steps) (next ∷ rest) k,
      );
  expr-Prefix = λ op at inner k.
      omega (arith, read_is (eq.fold_expr-Prefix size_steps op at inner));
  expr-Await = λ at inner k. omega (arith, read_is (eq.fold_expr-Await size_steps at inner));
  expr-Fun = λ body k. omega (arith, read_is (eq.fold_expr-Fun size_steps body));
  expr-Spawn = λ at detached opened body k.
      omega (
        arith,
        read_is (eq.fold_expr-Spawn size_steps at detached (closure_at opened body)),
      );
  expr-Yield = λ at k. omega (arith, read_is (eq.fold_expr-Yield size_steps at));
  expr-None = λ at text _ k.
      let word = name_at at (id_of (codes "none")) in
      let of = id_of (optional_text text) in
      omega (
        arith,
        read_is (eq.fold_expr-Member size_steps (use_at (suc at) of) word),
        read_is (eq.fold_expr-Use size_steps (name_at (suc at) of)),
      );
  expr-Some = λ at text value _ k. some_sizes (id_of (codes "some")) (id_of (optional_text text))
      at value;
  expr-Optional = λ at k.
      omega (arith, read_is (eq.fold_expr-Use size_steps (name_at at (id_of (codes "Optional")))));
  expr-Task = λ tasks at tree k. omega (arith, task_size tasks at tree);
  arg-roll = λ name value k. omega (arith, eq.fold_arg-roll size_steps name value);
  closure_param-is = λ given k. omega arith;
  inside-is = λ it _ k. omega arith;
  closure-opened = λ at it _ k.
      let body = roll-Block (record { stmts = it.body }) in
      omega (
        arith,
        eq.fold_closure-roll size_steps at it.mark it.captures it.params it.result body,
        eq.fold_block-roll size_steps it.body,
      );
  closure-Task = λ eq_at await_at tasks value _ k.
      omega (
        arith,
        task_body_size eq_at await_at (of_task tasks (suc await_at) value),
        task_size tasks (suc await_at) value,
      );
  link-roll = λ op at operand k. omega (arith, eq.fold_link-roll size_steps op at operand);
  block-roll = λ body k. omega (arith, eq.fold_block-roll size_steps body);
  stmts-nil = λ k. omega arith;
  stmts-one = λ one k. omega (arith, sum_by-cons (λ (n : ℕ). n) (fold_stmt size_steps one) []);
  stmts-append = λ xs ys _ k.
      omega (
        arith,
        in_sum (fold_stmt size_steps) (xs ++ ys) k,
        in_sum (fold_stmt size_steps) xs k,
        in_sum (fold_stmt size_steps) ys k,
        in_all-append (λ x k. fold_stmt size_steps x) xs ys k,
      );
  stmt-Bind = λ mutable name ty value k.
      omega (arith, eq.fold_stmt-Bind size_steps mutable name ty value);
  stmts-Or = λ binding _ _ _ _ colon_at ty eq_at value or k.
      omega (
        arith,
        or_sizes (or_literal_form id_of binding.word.text binding.mutable binding.word.name
            binding.let_at colon_at eq_at or.op_at) ty value or.other,
        spread_single 3 binding.let_at k,
      );
  stmt-Assign = λ at op first value is k.
      omega (
        arith,
        eq.fold_stmt-Assign size_steps at op first value,
        ap (λ (size : ExprSize). size.write) (place_size first is),
      );
  stmt-Discard = λ at value k. omega (arith, eq.fold_stmt-Discard size_steps at value);
  stmt-If = λ arm arms otherwise k.
      omega (
        arith,
        eq.fold_stmt-If size_steps (arm ∷ arms) otherwise,
        in_sum (fold_if_arm size_steps) (arm ∷ arms) k,
        in_some_size (fold_block size_steps) otherwise k,
      );
  stmt-While = λ at cond body k. omega (arith, eq.fold_stmt-While size_steps at cond body);
  stmt-Switch = λ at subject arms otherwise k.
      omega (
        arith,
        eq.fold_stmt-Switch size_steps at subject arms otherwise,
        in_sum (fold_case_arm size_steps) arms k,
        in_some_size (fold_block size_steps) otherwise k,
      );
  stmt-Return = λ at value k.
      omega (
        arith,
        eq.fold_stmt-Return size_steps at value,
        in_some_read (fold_expr size_steps) value k,
      );
  stmt-Break = λ at k. omega (arith, eq.fold_stmt-Break size_steps at);
  stmt-Continue = λ at k. omega (arith, eq.fold_stmt-Continue size_steps at);
  stmt-Plain = λ value k. omega (arith, eq.fold_stmt-Plain size_steps value);
  pattern-Skip = λ at k. omega arith;
  pattern-Let = λ name k. omega arith;
  for_block-is = λ name body _ k. omega arith;
  arm-Some = λ at name body k.
      let some = name_at at (id_of (codes "some")) in
      omega (arith, eq.fold_case_arm-roll size_steps some (patterns.Let name ∷ []) body);
  case_arm-roll = λ name given body _ k.
      omega (arith, eq.fold_case_arm-roll size_steps name given body, in_length given k);
  if_arm-roll = λ at cond body k.
      omega (arith, eq.fold_if_arm-roll size_steps at cond body);
  written-Absent = λ k. omega arith;
  written-At = λ name k. omega arith;
  written-Nonisolated = λ k. omega arith;
  written-Concurrent = λ k. omega arith;
  written-Nonsending = λ k. omega arith;
  param-is = λ given k. omega arith;
  func-is = λ given _ k. omega arith;
  prop-is = λ given k. omega (arith, in_value given.value k);
  init-is = λ given _ k. omega arith;
  case-is = λ given k. omega arith;
  decl-Entry = λ word mark at is_async body k. omega arith;
  decl-Struct = λ word conforms fields funcs _ k.
      omega (arith, in_sum_by prop_size fields k, in_sum_by func_size funcs k);
  decl-Enum = λ word conforms given funcs _ k.
      omega (arith, in_length given k, in_sum_by func_size funcs k);
  decl-Class = λ mark word conforms props inits funcs _ k.
      omega (
        arith,
        in_sum_by prop_size props k,
        in_sum_by init_size inits k,
        in_sum_by func_size funcs k,
      );
  decl-Actor = λ word props inits funcs _ k.
      omega (
        arith,
        in_sum_by prop_size props k,
        in_sum_by init_size inits k,
        in_sum_by func_size funcs k,
      );
  decl-GlobalActor = λ word made k. omega arith;
  decl-Func = λ given k. omega arith;
  decl-Global = λ given _ k. omega arith;
}

all_of_tokens : (tokens : List Spelled) (k : ℕ) → in_all of_token tokens k ≡ 16 * length tokens
unfolding in_all
all_of_tokens [] k = refl
all_of_tokens (token ∷ tokens) k = omega (arith, all_of_tokens tokens k)

-- the enum of an optional, with two cases
enum_small : (id_of : List ℕ → ℕ) (one : Marked) → decl_size (enum_of id_of one) ≤ 16
enum_small id_of one = omega arith

-- Each token gives sixteen at most to the size of the declarations.
pub spelled_are_small : (id_of : List ℕ → ℕ) (decls : List Decl) (tokens : List Spelled)
    → Spells id_of decls tokens → size_of decls ≤ 16 * length tokens
unfolding size_of sizes
spelled_are_small id_of decls tokens spells =
    let less : in_all (λ (decl : Decl) k. decl_size decl) decls 0 ≤ in_all of_token tokens 0
    = owned (sizes id_of) of_token (λ token k. omega arith) (λ one k. enum_small id_of one)
    decls tokens refl spells 0 in
    omega (arith, less, in_sum_by decl_size decls 0, all_of_tokens tokens 0)
