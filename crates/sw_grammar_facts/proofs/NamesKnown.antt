-- Each name of a program is that of a text, so it has one where each id is that of a text.
use Rattle.std.proofs.Common.{◌≡◌, ℕ, suc, ◌+◌, ◌*◌, ◌≤◌, ◌<◌, Bool, true, false, List, [], ◌∷◌}
use Rattle.std.proofs.Common.{Option, None, Some, codes, length, drop, refl, nat_eq, nat_lt, ap, arith}
use Rattle.std.proofs.Common.{if◌then◌else◌, zero, ◌⊎◌, inl, inr}
use Rattle.std.proofs.lemmas.Bool.Decides.{nat_tests}
use Rattle.std.proofs.lemmas.Grind.{common_steps}
use Rattle.sw_token.specs.Spelling.{Spelled}
use Rattle.sw_tree.proofs.Counting.{Weight, in_all, in_option, in_all-append, in_all-cons, in_all-nil}
use Rattle.sw_tree.proofs.NameCounts as counts
use Rattle.sw_tree.proofs.NameCounts.{misses, All-known}
use Rattle.sw_tree.specs.Contents.{AreNamed}
use Rattle.sw_tree.specs.Names.{id_in, value_id}
use Rattle.sw_tree.specs.NamesIn.{names_in}
use Rattle.sw_tree.specs.declared.decl.CaseTree.{CaseTree}
use Rattle.sw_tree.specs.declared.decl.Decl.{Decl}
use Rattle.sw_tree.specs.declared.expr.Arg.{roll-Arg}
use Rattle.sw_tree.specs.declared.expr.Expr.{Expr}
use Rattle.sw_tree.specs.declared.expr.Expr.TheVariants as exprs
use Rattle.sw_tree.specs.declared.name.Name.{Name}
use Rattle.sw_tree.specs.declared.operator.AssignOp.TheVariants as assigns
use Rattle.sw_tree.specs.declared.stmt.Block.{Block, roll-Block}
use Rattle.sw_tree.specs.declared.stmt.Pattern.TheVariants as patterns
use Rattle.sw_tree.specs.declared.stmt.Stmt.TheVariants as statements
use Rattle.sw_tree.specs.declared.type_tree.TypeTree.{TypeTree}
use Rattle.sw_tree.specs.declared.type_tree.TypeTree.TheVariants as types
use Rattle.sw_sugar.specs.AsyncLet.{task_body}
use Rattle.sw_sugar.specs.Calls.{or_literal_form, part_text, whole_text}
use Rattle.sw_sugar.specs.Optionals.{block_of, name_at, or_literal_stmts, some_arm, some_tree}
use Rattle.sw_sugar.specs.Optionals.{taken, use_at}
use Rattle.sw_sugar.specs.Tasks.{of_task}
use Rattle.sw_sugar.specs.declared.words.OrLiteral.{OrLiteral}
use Rattle.sw_grammar.specs.Around.{index_in}
use Rattle.sw_grammar.specs.Enums.{Marked, enum_of}
use Rattle.sw_grammar.specs.Exprs.{closure_at}
use Rattle.sw_grammar.specs.Nests.{ClosureInside}
use Rattle.sw_grammar.specs.Program.{Spells}
use Rattle.sw_grammar.specs.Stmts.{Binding, Or}
use Rattle.sw_grammar.specs.Tokens.{name_of, optional_text}
use Rattle.sw_grammar_facts.proofs.Owning.{none, tally_of}
use Rattle.sw_grammar_facts.proofs.ProgramRules.{owned}
use Rattle.sw_grammar_facts.proofs.Questions.{besides, besides_is}
use Rattle.sw_grammar_facts.proofs.Spread.{spread}
use Rattle.sw_grammar_facts.proofs.TaskWeights.{Summed, summed_task}
use Rattle.sw_grammar_facts.proofs.Weighing.{Weighing}

-- The names in the forms that name more than their tokens do.

some_names : (some of at : ℕ) (value : Expr) (k : ℕ)
    → counts.unknown_expr (some_tree some of at value) k
    ≡ misses (name_at at some) k + misses (name_at (suc at) of) k + counts.unknown_expr value k
unfolding in_all in_option
some_names some of at value k =
    let arg = roll-Arg (record { label = None; value = value }) in
    omega (
      arith,
      counts.unknown_expr-Method (use_at (suc at) of) (name_at at some) (arg ∷ []) k,
      counts.unknown_expr-Use (name_at (suc at) of) k,
      counts.unknown_arg-roll None value k,
    )

arm_names : (some at : ℕ) (name : Name) (body : Block) (k : ℕ)
    → counts.unknown_case_arm (some_arm some at name body) k
    ≡ misses (name_at at some) k + misses name k + counts.unknown_block body k
unfolding in_all
arm_names some at name body k =
    omega (
      arith,
      counts.unknown_case_arm-roll (name_at at some) (patterns.Let name ∷ []) body k,
      counts.unknown_pattern-Let name k,
    )

or_form_names : (form : OrLiteral) (ty : TypeTree) (value literal : Expr) (k : ℕ)
    → in_all counts.unknown_stmt (or_literal_stmts form ty value literal) k
    ≡ misses (name_at form.op_at form.word.whole) k
    + misses (name_at (suc form.op_at) form.word.whole) k
    + misses (name_at (suc (suc form.let_at)) form.word.whole) k
    + misses (name_at form.colon_at form.word.part) k
    + misses (name_at (suc form.let_at) form.word.part) k
    + misses (name_at form.colon_at form.some) k + misses form.word.name k
    + (counts.unknown_type ty k + counts.unknown_type ty k)
    + counts.unknown_expr value k + counts.unknown_expr literal k
unfolding in_all in_option
or_form_names form ty value literal k =
    let whole = name_at (suc form.op_at) form.word.whole in
    let part = name_at (suc form.let_at) form.word.part in
    let last = name_at (suc (suc form.let_at)) form.word.whole in
    let part_word = name_at form.colon_at form.word.part in
    let arm = some_arm form.some form.colon_at part_word (block_of (taken form ∷ [])) in
    omega (
      arith,
      counts.unknown_stmt-Bind true (name_at form.op_at form.word.whole) (Some ty) literal k,
      counts.unknown_stmt-Switch form.eq_at value (arm ∷ []) (Some (block_of [])) k,
      arm_names form.some form.colon_at part_word (block_of (taken form ∷ [])) k,
      counts.unknown_block-roll (taken form ∷ []) k,
      counts.unknown_block-roll [] k,
      counts.unknown_stmt-Assign form.let_at assigns.Set (exprs.Use whole) (exprs.Use part) k,
      counts.unknown_expr-Use whole k,
      counts.unknown_expr-Use part k,
      counts.unknown_stmt-Bind form.mutable form.word.name (Some ty) (exprs.Use last) k,
      counts.unknown_expr-Use last k,
    )

-- the names in the body of a task that awaits a value
task_body_names : (eq_at await_at : ℕ) (value : Expr) (k : ℕ)
    → counts.unknown_closure (task_body eq_at await_at value) k ≡ counts.unknown_expr value k
unfolding in_all in_option
task_body_names eq_at await_at value k =
    let stmt = statements.Plain (exprs.Await await_at value) in
    omega (
      arith,
      counts.unknown_closure-roll eq_at None [] [] None (block_of (stmt ∷ [])) k,
      counts.unknown_block-roll (stmt ∷ []) k,
      counts.unknown_stmt-Plain (exprs.Await await_at value) k,
      counts.unknown_expr-Await await_at value k,
    )

-- Ids that are below a number. A weight counts what isn't, and elsewhere than at that number it
-- says nothing.
abbrev one_unless : Bool → ℕ
one_unless b = if b then 0 else 1

module _ (id_of : List ℕ → ℕ) (n : ℕ) (within : (text : List ℕ) → id_of text < n)
    (above : value_id < n) where
  unfoldable off : Weight
  off k = one_unless (nat_eq k n)

  abbrev sixteen : Spelled → Weight
  sixteen token k = 16 * off k

  made : (at : ℕ) (text : List ℕ) (k : ℕ) → misses (name_at at (id_of text)) k ≤ off k
  unfolding misses off
  made at text k = let less = within text in grind (arith, common_steps)

  made_value : (at k : ℕ) → misses (name_at at value_id) k ≤ off k
  unfolding misses off
  made_value at k = grind (arith, common_steps, above)

  off_some : (k : ℕ) → (off k ≡ 0) ⊎ (off k ≡ 1)
  unfolding off
  off_some k = by (nat_eq k n) where
    by : (b : Bool) → (one_unless b ≡ 0) ⊎ (one_unless b ≡ 1)
    by true = inl refl
    by false = inr refl

  spread_off : (m at k : ℕ) → m ≤ 16 → spread (λ at. off) m at k ≤ 16 * off k
  unfolding spread
  spread_off m at k short = by (off_some k) where
    spread_zero : (m at : ℕ) → off k ≡ 0 → spread (λ at. off) m at k ≡ 0
    spread_zero zero at is = refl
    spread_zero (suc m) at is = omega (arith, is, spread_zero m (suc at) is)

    spread_one : (m at : ℕ) → off k ≡ 1 → spread (λ at. off) m at k ≡ m
    spread_one zero at is = refl
    spread_one (suc m) at is = omega (arith, is, spread_one m (suc at) is)

    by : (off k ≡ 0) ⊎ (off k ≡ 1) → spread (λ at. off) m at k ≤ 16 * off k
    by (inl is) = omega (arith, is, spread_zero m at is)
    by (inr is) = omega (arith, is, spread_one m at is)

  abbrev node : Name → Weight
  node name k = misses name k + off k

  -- a type may stand twice
  abbrev label : Name → Weight
  label name k = 2 * misses name k + 2 * off k

  abbrev type : TypeTree → Weight
  type ty k = counts.unknown_type ty k + counts.unknown_type ty k

  abbrev inside : ClosureInside → Weight
  inside it k =
      in_option misses it.mark k + in_all misses it.captures k
      + in_all counts.unknown_closure_param it.params k
      + in_option counts.unknown_type it.result k + in_all counts.unknown_stmt it.body k

  mark_label : (mark : Option Name) (k : ℕ)
      → in_option misses mark k + in_option misses mark k ≤ in_option label mark k
  unfolding in_option
  mark_label None k = omega arith
  mark_label (Some name) k = omega arith

  all_nodes : (names : List Name) (k : ℕ) → in_all misses names k ≤ in_all node names k
  unfolding in_all
  all_nodes [] k = omega arith
  all_nodes (name ∷ names) k = omega (arith, all_nodes names k)

  all_types : (given : List TypeTree) (k : ℕ)
      → in_all type given k ≡ in_all counts.unknown_type given k + in_all counts.unknown_type given k
  unfolding in_all
  all_types [] k = refl
  all_types (ty ∷ given) k = omega (arith, all_types given k)

  some_type : (ty : Option TypeTree) (k : ℕ)
      → in_option counts.unknown_type ty k ≤ in_option type ty k
  unfolding in_option
  some_type None k = omega arith
  some_type (Some ty) k = omega arith

  or_names : (binding : Binding) (colon_at : ℕ) (ty : TypeTree) (eq_at : ℕ) (value : Expr)
      (or : Or) (k : ℕ)
      → in_all counts.unknown_stmt (or_literal_stmts (or_literal_form id_of binding.word.text
      binding.mutable binding.word.name binding.let_at colon_at eq_at or.op_at) ty value or.other) k
      ≤ spread (λ at. off) 3 binding.let_at k + node binding.word.name k + off k + type ty k + off k
      + counts.unknown_expr value k + spread (λ at. off) 2 or.op_at k
      + counts.unknown_expr or.other k
  unfolding spread
  or_names binding colon_at ty eq_at value or k =
      let form = or_literal_form id_of binding.word.text binding.mutable binding.word.name
      binding.let_at colon_at eq_at or.op_at in
      let part = part_text binding.word.text in
      let whole = whole_text binding.word.text in
      omega (
        arith,
        or_form_names form ty value or.other k,
        made or.op_at whole k,
        made (suc or.op_at) whole k,
        made (suc (suc binding.let_at)) whole k,
        made colon_at part k,
        made (suc binding.let_at) part k,
        made colon_at (codes "some") k,
      )

  unfoldable names_summed : Summed counts.unknown_expr
  names_summed = record {
    name = misses;
    operator = λ at. none;
    arg = counts.unknown_arg;
    link = counts.unknown_link;
    expr-Use = counts.unknown_expr-Use;
    expr-Member = counts.unknown_expr-Member;
    expr-Method = counts.unknown_expr-Method;
    expr-Chain = counts.unknown_expr-Chain;
    expr-Prefix = λ op at inner k. omega (arith, counts.unknown_expr-Prefix op at inner k);
  }

  -- what an `await` awaits has the name `value` more at most
  task_names : (tasks : List ℕ) (at : ℕ) (tree : Expr) (k : ℕ)
      → counts.unknown_expr (of_task tasks at tree) k ≤ off k + counts.unknown_expr tree k
  unfolding names_summed misses
  task_names tasks at tree k =
      summed_task counts.unknown_expr names_summed off tasks at
      (λ it j. omega (arith, made_value it.at j)) tree k

  names : Weighing id_of
  names = record {
    tally = tally_of (besides sixteen);
    place = λ at. off;
    entry = λ at. none;
    node = node;
    label = label;
    type = type;
    expr = counts.unknown_expr;
    arg = counts.unknown_arg;
    closure_param = counts.unknown_closure_param;
    task_param = λ param. none;
    closure = counts.unknown_closure;
    inside = inside;
    link = counts.unknown_link;
    block = counts.unknown_block;
    stmt = counts.unknown_stmt;
    stmts = in_all counts.unknown_stmt;
    for_block = λ name body k. misses name k + counts.unknown_block body k;
    pattern = counts.unknown_pattern;
    case_arm = counts.unknown_case_arm;
    if_arm = counts.unknown_if_arm;
    written = counts.unknown_written;
    param = counts.unknown_param;
    func = counts.unknown_func;
    prop = counts.unknown_prop;
    init = counts.unknown_init;
    case = counts.unknown_case;
    decl = counts.unknown_decl;
    of_place = λ token other k. omega (arith, besides_is sixteen token other k);
    of_span = λ token other short k.
        omega (
          arith,
          besides_is sixteen token other k,
          spread_off (length token.text) token.at k short,
        );
    of_entry = λ token _ k. omega arith;
    of_word = λ token other _ _ k.
        omega (arith, besides_is sixteen token other k, made token.at token.text k);
    of_mark = λ token other _ k.
        omega (arith, besides_is sixteen token other k, made token.at (drop 1 token.text) k);
    of_node = λ name k. omega arith;
    of_optional_type = λ name text k.
        let optional = name_at name.at (id_of (optional_text text)) in
        omega (
          arith,
          counts.unknown_type-Named optional k,
          made name.at (optional_text text) k,
        );
    type-Named = λ name k. omega (arith, counts.unknown_type-Named name k);
    type-Unit = λ at k. omega (arith, counts.unknown_type-Unit at k);
    type-Arrow = λ at mark params result k.
        omega (
          arith,
          counts.unknown_type-Arrow at mark params result k,
          mark_label mark k,
          all_types params k,
        );
    type-TaskOf = λ at inner k. omega (arith, counts.unknown_type-TaskOf at inner k);
    expr-Int = λ at value k. omega (arith, counts.unknown_expr-Int at value k);
    expr-Bool = λ at value k. omega (arith, counts.unknown_expr-Bool at value k);
    expr-Use = λ name k. omega (arith, counts.unknown_expr-Use name k);
    expr-Me = λ at k. omega (arith, counts.unknown_expr-Me at k);
    expr-Member = λ base name k. omega (arith, counts.unknown_expr-Member base name k);
    expr-Call = λ name args k. omega (arith, counts.unknown_expr-Call name args k);
    expr-Method = λ base name args k. omega (arith, counts.unknown_expr-Method base name args k);
    expr-Chain = λ first next rest k.
        omega (arith, counts.unknown_expr-Chain first (next ∷ rest) k);
    expr-Prefix = λ op at inner k. omega (arith, counts.unknown_expr-Prefix op at inner k);
    expr-Await = λ at inner k. omega (arith, counts.unknown_expr-Await at inner k);
    expr-Fun = λ body k. omega (arith, counts.unknown_expr-Fun body k);
    expr-Spawn = λ at detached opened body k.
        omega (arith, counts.unknown_expr-Spawn at detached (closure_at opened body) k);
    expr-Yield = λ at k. omega (arith, counts.unknown_expr-Yield at k);
    expr-None = λ at text _ k.
        let word = name_at at (id_of (codes "none")) in
        let of = name_at (suc at) (id_of (optional_text text)) in
        omega (
          arith,
          counts.unknown_expr-Member (exprs.Use of) word k,
          counts.unknown_expr-Use of k,
          made at (codes "none") k,
          made (suc at) (optional_text text) k,
        );
    expr-Some = λ at text value _ k.
        omega (
          arith,
          some_names (id_of (codes "some")) (id_of (optional_text text)) at value k,
          made at (codes "some") k,
          made (suc at) (optional_text text) k,
        );
    expr-Optional = λ at k.
        omega (
          arith,
          counts.unknown_expr-Use (name_at at (id_of (codes "Optional"))) k,
          made at (codes "Optional") k,
        );
    expr-Task = task_names;
    arg-roll = λ name value k.
        omega (arith, counts.unknown_arg-roll name value k, mark_label name k);
    closure_param-is = λ given k. omega (arith, counts.unknown_closure_param-is given k);
    inside-is = λ it _ k.
        omega (
          arith,
          mark_label it.mark k,
          all_nodes it.captures k,
          some_type it.result k,
        );
    closure-opened = λ at it _ k.
        let body = roll-Block (record { stmts = it.body }) in
        omega (
          arith,
          counts.unknown_closure-roll at it.mark it.captures it.params it.result body k,
          counts.unknown_block-roll it.body k,
        );
    closure-Task = λ eq_at await_at tasks value _ k.
        omega (
          arith,
          task_body_names eq_at await_at (of_task tasks (suc await_at) value) k,
          task_names tasks (suc await_at) value k,
        );
    link-roll = λ op at operand k. omega (arith, counts.unknown_link-roll op at operand k);
    block-roll = λ body k. omega (arith, counts.unknown_block-roll body k);
    stmts-nil = λ k. omega (arith, in_all-nil counts.unknown_stmt k);
    stmts-one = λ one k.
        omega (
          arith,
          in_all-cons counts.unknown_stmt one [] k,
          in_all-nil counts.unknown_stmt k,
        );
    stmts-append = λ xs ys _ k. omega (arith, in_all-append counts.unknown_stmt xs ys k);
    stmts-Or = λ binding _ _ _ _ colon_at ty eq_at value or k.
        or_names binding colon_at ty eq_at value or k;
    stmt-Bind = λ mutable name ty value k.
        omega (arith, counts.unknown_stmt-Bind mutable name ty value k, some_type ty k);
    stmt-Assign = λ at op first value _ k.
        omega (arith, counts.unknown_stmt-Assign at op first value k);
    stmt-Discard = λ at value k. omega (arith, counts.unknown_stmt-Discard at value k);
    stmt-If = λ arm arms otherwise k. omega (arith, counts.unknown_stmt-If (arm ∷ arms) otherwise k);
    stmt-While = λ at cond body k. omega (arith, counts.unknown_stmt-While at cond body k);
    stmt-Switch = λ at subject arms otherwise k.
        omega (arith, counts.unknown_stmt-Switch at subject arms otherwise k);
    stmt-Return = λ at value k. omega (arith, counts.unknown_stmt-Return at value k);
    stmt-Break = λ at k. omega (arith, counts.unknown_stmt-Break at k);
    stmt-Continue = λ at k. omega (arith, counts.unknown_stmt-Continue at k);
    stmt-Plain = λ value k. omega (arith, counts.unknown_stmt-Plain value k);
    pattern-Skip = λ at k. omega (arith, counts.unknown_pattern-Skip at k);
    pattern-Let = λ name k. omega (arith, counts.unknown_pattern-Let name k);
    for_block-is = λ name body _ k. omega arith;
    arm-Some = λ at name body k.
        omega (
          arith,
          arm_names (id_of (codes "some")) at name body k,
          made at (codes "some") k,
        );
    case_arm-roll = λ name given body _ k.
        omega (arith, counts.unknown_case_arm-roll name given body k);
    if_arm-roll = λ at cond body k. omega (arith, counts.unknown_if_arm-roll at cond body k);
    written-Absent = λ k. omega (arith, in_all-nil misses k);
    written-At = λ name k. omega (arith, counts.unknown_written-At name k);
    written-Nonisolated = λ k. omega (arith, in_all-nil misses k);
    written-Concurrent = λ k. omega (arith, in_all-nil misses k);
    written-Nonsending = λ k. omega (arith, in_all-nil misses k);
    param-is = λ given k.
        omega (arith, counts.unknown_param-is given k, mark_label given.label k);
    func-is = λ given _ k.
        omega (arith, counts.unknown_func-is given k, some_type given.result k);
    prop-is = λ given k.
        omega (arith, counts.unknown_prop-is given k, some_type given.ty k);
    init-is = λ given _ k. omega (arith, counts.unknown_init-is given k);
    case-is = λ given k.
        omega (arith, counts.unknown_case-is given k, all_types given.types k);
    decl-Entry = λ word mark at is_async body k.
        omega (arith, counts.unknown_decl-Entry word mark at is_async body k);
    decl-Struct = λ word conforms fields funcs _ k.
        omega (arith, counts.unknown_decl-Struct word conforms fields funcs k);
    decl-Enum = λ word conforms given funcs _ k.
        omega (arith, counts.unknown_decl-Enum word conforms given funcs k);
    decl-Class = λ mark word conforms props inits funcs _ k.
        omega (arith, counts.unknown_decl-Class mark word conforms props inits funcs k);
    decl-Actor = λ word props inits funcs _ k.
        omega (arith, counts.unknown_decl-Actor word props inits funcs k);
    decl-GlobalActor = λ word made k. omega (arith, counts.unknown_decl-GlobalActor word made k);
    decl-Func = λ given k. omega (arith, counts.unknown_decl-Func given k);
    decl-Global = λ given _ k. omega (arith, counts.unknown_decl-Global given k);
  }

  -- the enum of an optional has no name without a text
  enum_names : (one : Marked) (k : ℕ) → counts.unknown_decl (enum_of id_of one) k ≤ 16 * off k
  unfolding in_all
  enum_names one k =
      let optional = name_at one.mark.at (id_of (optional_text one.word.text)) in
      let none_case : CaseTree =
      record { word = name_at one.mark.at (id_of (codes "none")); types = [] } in
      let some_case : CaseTree = record {
        word = name_at one.mark.at (id_of (codes "some"));
        types = types.Named (name_of id_of one.word) ∷ [];
      } in
      omega (
        arith,
        counts.unknown_decl-Enum optional false (none_case ∷ some_case ∷ []) [] k,
        counts.unknown_case-is none_case k,
        counts.unknown_case-is some_case k,
        counts.unknown_type-Named (name_of id_of one.word) k,
        made one.mark.at (optional_text one.word.text) k,
        made one.mark.at (codes "none") k,
        made one.mark.at (codes "some") k,
        made one.word.at one.word.text k,
      )

  nothing_off : (tokens : List Spelled) → in_all sixteen tokens n ≡ 0
  unfolding in_all off
  nothing_off [] = refl
  nothing_off (token ∷ tokens) =
      let same : nat_eq n n ≡ true = grind (arith, nat_tests) in
      omega (arith, nothing_off tokens, ap one_unless same)

  names_known : (decls : List Decl) (tokens : List Spelled) → Spells id_of decls tokens
      → in_all misses (names_in decls) n ≡ 0
  unfolding names
  names_known decls tokens given =
      omega (
        arith,
        counts.unknown_decls decls n,
        owned names sixteen (λ token k. omega arith) (λ one k. enum_names one k) decls tokens refl
            given n,
        nothing_off tokens,
      )

index_within : (texts : List (List ℕ)) → 0 < length texts → (text : List ℕ)
    → index_in texts text < length texts
index_within texts some text = by (nat_lt (id_in texts text) (length texts)) refl where
  by : (b : Bool) → nat_lt (id_in texts text) (length texts) ≡ b
      → (if b then id_in texts text else 0) < length texts
  by true is = grind (arith, nat_tests)
  by false is = some

pub spelled_are_named : (texts : List (List ℕ)) (decls : List Decl) (tokens : List Spelled)
    → value_id < length texts → Spells (index_in texts) decls tokens → AreNamed texts decls
spelled_are_named texts decls tokens above given =
    All-known (length texts) (names_in decls)
    (names_known (index_in texts) (length texts) (index_within texts (omega (arith, above))) above
    decls tokens given)
