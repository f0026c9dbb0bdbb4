-- What the trees of texts have beside what their types say: a task's body takes nothing, a chain
-- has an operator, and a global variable has a first value. What breaks this weighs something, and
-- tokens weigh nothing.
use Rattle.std.proofs.Common.{◌≡◌, ℕ, ◌+◌, ◌≤◌, List, [], ◌∷◌, ◌++◌, map, flat_map, Option, None}
use Rattle.std.proofs.Common.{Some, option_map, unwrap_or, IsSome, length, codes, suc, true, ap, refl, sym, ◌∙◌}
use Rattle.std.proofs.Common.{arith}
use Rattle.std.proofs.lemmas.List.Elements.{All-contains, All-from_recursion}
use Rattle.std.specs.List.{AllByRecursion}
use Rattle.sw_token.specs.Spelling.{Spelled}
use Rattle.sw_tree.proofs.Counting.{Weight, hits, hits_same, in_all, in_all-nil, in_all-cons}
use Rattle.sw_tree.proofs.Counting.{in_all-append, in_all-map, in_all-flat_map, in_all-joined}
use Rattle.sw_tree.proofs.Counting.{in_all-option, in_option}
use Rattle.sw_tree.specs.Keys.{Keys, joined}
use Rattle.sw_tree.specs.Names.{value_id}
use Rattle.sw_tree.specs.declared.decl.Decl.{Decl}
use Rattle.sw_tree.specs.declared.decl.Decl.TheVariants.{Entry, Struct, Enum, Class, Actor}
use Rattle.sw_tree.specs.declared.decl.Decl.TheVariants.{GlobalActor, Func, Global}
use Rattle.sw_tree.specs.declared.expr.Arg.{roll-Arg}
use Rattle.sw_tree.specs.declared.expr.Expr.{Expr}
use Rattle.sw_tree.specs.declared.expr.Expr.TheVariants as exprs
use Rattle.sw_tree.specs.declared.operator.AssignOp.TheVariants as assigns
use Rattle.sw_tree.specs.declared.stmt.Block.{roll-Block}
use Rattle.sw_tree.specs.declared.stmt.Pattern.TheVariants as patterns
use Rattle.sw_tree.specs.declared.stmt.Stmt.TheVariants as statements
use Rattle.sw_tree.specs.declared.type_tree.TypeTree.{TypeTree}
use Rattle.sw_tree_facts.specs.Unwritten.{AreWritten, expr_unwritten, block_unwritten}
use Rattle.sw_tree_facts.specs.Unwritten.{func_unwritten, init_unwritten, prop_unwritten}
use Rattle.sw_tree_facts.specs.Unwritten.{bare, decl_unwritten}
use Rattle.sw_tree_facts.specs.Values.{AreValued}
use Rattle.sw_sugar.specs.AsyncLet.{task_body}
use Rattle.sw_sugar.specs.Calls.{or_literal_form}
use Rattle.sw_sugar.specs.Optionals.{block_of, name_at, or_literal_stmts, some_arm, some_tree}
use Rattle.sw_sugar.specs.Optionals.{taken, use_at}
use Rattle.sw_sugar.specs.Tasks.{of_task}
use Rattle.sw_sugar.specs.declared.words.OrLiteral.{OrLiteral}
use Rattle.sw_grammar.specs.Enums.{Marked, enum_of}
use Rattle.sw_grammar.specs.Exprs.{closure_at}
use Rattle.sw_grammar.specs.Program.{Spells}
use Rattle.sw_grammar.specs.Tokens.{optional_text}
use Rattle.sw_grammar_facts.proofs.Owning.{none, tally_of}
use Rattle.sw_grammar_facts.proofs.Questions.{besides}
use Rattle.sw_grammar_facts.proofs.ProgramRules.{owned}
use Rattle.sw_tree_facts.proofs.UnwrittenEquations as unwritten
use Rattle.sw_tree_facts.proofs.UnwrittenEquations.{stmt_unwritten, arg_unwritten}
use Rattle.sw_tree_facts.proofs.UnwrittenEquations.{closure_unwritten, link_unwritten}
use Rattle.sw_tree_facts.proofs.UnwrittenEquations.{case_arm_unwritten, if_arm_unwritten}
use Rattle.sw_grammar_facts.proofs.Spread.{spread_none}
use Rattle.sw_grammar_facts.proofs.TaskWeights.{Carried, carried}
use Rattle.sw_grammar_facts.proofs.Weighing.{Weighing}

-- one where the value is missing
abbrev missing : Option Expr → ℕ
missing None = 1
missing (Some value) = 0

missing_none : (value : Option Expr) → IsSome value → missing value ≡ 0
missing_none None is = absurd (cc)
missing_none (Some value) is = refl

is_there : (value : Option Expr) → missing value ≡ 0 → IsSome value
is_there None is = absurd (omega (arith, is))
is_there (Some value) is = refl

abbrev unvalued : Decl → ℕ
unvalued (Entry word mark at is_async body) = 0
unvalued (Struct word conforms fields funcs) = 0
unvalued (Enum word conforms given funcs) = 0
unvalued (Class mark word conforms props inits funcs) = 0
unvalued (Actor word props inits funcs) = 0
unvalued (GlobalActor word made) = 0
unvalued (Func func) = 0
unvalued (Global prop) = missing prop.value

abbrev in_decl : Decl → Weight
in_decl given k = in_all hits (decl_unwritten given) k + unvalued given

same : {xs ys : Keys} → xs ≡ ys → (k : ℕ) → in_all hits xs k ≡ in_all hits ys k
same equal k = ap (λ all. in_all hits all k) equal

some_unwritten : (some of at : ℕ) (value : Expr) (k : ℕ)
    → in_all hits (expr_unwritten (some_tree some of at value)) k
    ≤ in_all hits (expr_unwritten value) k
unfolding in_all
some_unwritten some of at value k =
    let arg = roll-Arg (record { label = None; value = value }) in
    omega (
      arith,
      same (unwritten.expr_unwritten-Method (use_at (suc at) of) (name_at at some) (arg ∷ [])) k,
      in_all-append hits (expr_unwritten (use_at (suc at) of)) (joined (map arg_unwritten (arg ∷ [])))
          k,
      in_all-joined hits arg_unwritten (arg ∷ []) k,
      same (unwritten.expr_unwritten-Use (name_at (suc at) of)) k,
      same (unwritten.arg_unwritten-roll None value) k,
    )

or_unwritten : (form : OrLiteral) (ty : TypeTree) (value literal : Expr) (k : ℕ)
    → in_all (λ one. in_all hits (stmt_unwritten one)) (or_literal_stmts form ty value literal) k
    ≤ in_all hits (expr_unwritten value) k + in_all hits (expr_unwritten literal) k
unfolding in_all in_option
or_unwritten form ty value literal k =
    let whole = name_at (suc form.op_at) form.word.whole in
    let part = name_at (suc form.let_at) form.word.part in
    let last = name_at (suc (suc form.let_at)) form.word.whole in
    let part_word = name_at form.colon_at form.word.part in
    let body = block_of (taken form ∷ []) in
    let arm = some_arm form.some form.colon_at part_word body in
    let none_block = Some (block_of []) in
    let arms = joined (map case_arm_unwritten (arm ∷ [])) in
    omega (
      arith,
      same (unwritten.stmt_unwritten-Bind true (name_at form.op_at form.word.whole) (Some ty)
          literal) k,
      same (unwritten.stmt_unwritten-Switch form.eq_at value (arm ∷ []) none_block) k,
      in_all-append hits (expr_unwritten value ++ arms)
          (unwrap_or (option_map block_unwritten none_block) []) k,
      in_all-append hits (expr_unwritten value) arms k,
      in_all-joined hits case_arm_unwritten (arm ∷ []) k,
      in_all-option hits block_unwritten none_block k,
      same (unwritten.block_unwritten-roll []) k,
      in_all-nil hits k,
      same (unwritten.case_arm_unwritten-roll (name_at form.colon_at form.some)
          (patterns.Let part_word ∷ []) body) k,
      same (unwritten.block_unwritten-roll (taken form ∷ [])) k,
      in_all-joined hits stmt_unwritten (taken form ∷ []) k,
      same (unwritten.stmt_unwritten-Assign form.let_at assigns.Set (exprs.Use whole)
          (exprs.Use part)) k,
      in_all-append hits (expr_unwritten (exprs.Use whole)) (expr_unwritten (exprs.Use part)) k,
      same (unwritten.expr_unwritten-Use whole) k,
      same (unwritten.expr_unwritten-Use part) k,
      same (unwritten.stmt_unwritten-Bind form.mutable form.word.name (Some ty)
          (exprs.Use last)) k,
      same (unwritten.expr_unwritten-Use last) k,
    )

-- what an `await` awaits is as a text can write it where its expression is
task_carried : (at : ℕ) → Carried at (λ made tree. expr_unwritten made ≡ expr_unwritten tree)
task_carried at = record {
  same = λ tree. refl;
  task = λ name.
      unwritten.expr_unwritten-Member (use_at at name.id) (name_at name.at value_id)
      ∙ unwritten.expr_unwritten-Use (name_at at name.id)
      ∙ sym (unwritten.expr_unwritten-Use name);
  member = λ made tree name is.
      unwritten.expr_unwritten-Member made name ∙ is
      ∙ sym (unwritten.expr_unwritten-Member tree name);
  method = λ made tree name args is.
      unwritten.expr_unwritten-Method made name args
      ∙ ap (λ (keys : Keys). keys ++ joined (map arg_unwritten args)) is
      ∙ sym (unwritten.expr_unwritten-Method tree name args);
  chain = λ made tree rest is.
      unwritten.expr_unwritten-Chain made rest
      ∙ ap (λ (keys : Keys). keys ++ joined (map link_unwritten rest)
      ++ bare (map link_unwritten rest)) is
      ∙ sym (unwritten.expr_unwritten-Chain tree rest);
  prefix = λ op at made tree is.
      unwritten.expr_unwritten-Prefix op at made ∙ is
      ∙ sym (unwritten.expr_unwritten-Prefix op at tree);
}

task_unwritten : (tasks : List ℕ) (at : ℕ) (tree : Expr)
    → expr_unwritten (of_task tasks at tree) ≡ expr_unwritten tree
task_unwritten tasks at tree =
    carried tasks at (λ made tree. expr_unwritten made ≡ expr_unwritten tree) (task_carried at) tree

-- the body of a task that awaits a value
task_body_unwritten : (eq_at await_at : ℕ) (value : Expr) (k : ℕ)
    → in_all hits (closure_unwritten (task_body eq_at await_at value)) k
    ≡ in_all hits (expr_unwritten value) k
unfolding in_all
task_body_unwritten eq_at await_at value k =
    let stmt = statements.Plain (exprs.Await await_at value) in
    omega (
      arith,
      same (unwritten.closure_unwritten-roll eq_at None [] [] None (block_of (stmt ∷ []))) k,
      same (unwritten.block_unwritten-roll (stmt ∷ [])) k,
      in_all-joined hits stmt_unwritten (stmt ∷ []) k,
      same (unwritten.stmt_unwritten-Plain (exprs.Await await_at value)) k,
      same (unwritten.expr_unwritten-Await await_at value) k,
    )

module _ (id_of : List ℕ → ℕ) where
  text_forms : Weighing id_of
  text_forms = record {
    tally = tally_of (besides (λ token. none));
    place = λ at. none;
    entry = λ at. none;
    node = λ name. none;
    label = λ name. none;
    type = λ ty. none;
    expr = λ expr. in_all hits (expr_unwritten expr);
    arg = λ arg. in_all hits (arg_unwritten arg);
    closure_param = λ param. none;
    task_param = λ param. hits param.name.at;
    closure = λ closure. in_all hits (closure_unwritten closure);
    inside = λ it k. in_all (λ one. in_all hits (stmt_unwritten one)) it.body k;
    link = λ link. in_all hits (link_unwritten link);
    block = λ block. in_all hits (block_unwritten block);
    stmt = λ stmt. in_all hits (stmt_unwritten stmt);
    stmts = in_all (λ one. in_all hits (stmt_unwritten one));
    for_block = λ name body. in_all hits (block_unwritten body);
    pattern = λ pattern. none;
    case_arm = λ arm. in_all hits (case_arm_unwritten arm);
    if_arm = λ arm. in_all hits (if_arm_unwritten arm);
    written = λ mark. none;
    param = λ param. none;
    func = λ func. in_all hits (func_unwritten func);
    prop = λ prop. in_all hits (prop_unwritten prop);
    init = λ init. in_all hits (init_unwritten init);
    case = λ given. none;
    decl = in_decl;
    of_place = λ token _ k. omega arith;
    of_span = λ token _ _ k. omega (arith, spread_none (length token.text) token.at k);
    of_entry = λ token _ k. omega arith;
    of_word = λ token _ _ _ k. omega arith;
    of_mark = λ token _ _ k. omega arith;
    of_node = λ name k. omega arith;
    of_optional_type = λ name text k. omega arith;
    type-Named = λ name k. omega arith;
    type-Unit = λ at k. omega arith;
    type-Arrow = λ at mark params result k. omega arith;
    type-TaskOf = λ at inner k. omega arith;
    expr-Int = λ at value k.
        omega (arith, same (unwritten.expr_unwritten-Int at value) k, in_all-nil hits k);
    expr-Bool = λ at value k.
        omega (arith, same (unwritten.expr_unwritten-Bool at value) k, in_all-nil hits k);
    expr-Use = λ name k.
        omega (arith, same (unwritten.expr_unwritten-Use name) k, in_all-nil hits k);
    expr-Me = λ at k. omega (arith, same (unwritten.expr_unwritten-Me at) k, in_all-nil hits k);
    expr-Member = λ base name k. omega (arith, same (unwritten.expr_unwritten-Member base name) k);
    expr-Call = λ name args k.
        omega (
          arith,
          same (unwritten.expr_unwritten-Call name args) k,
          in_all-joined hits arg_unwritten args k,
        );
    expr-Method = λ base name args k.
        omega (
          arith,
          same (unwritten.expr_unwritten-Method base name args) k,
          in_all-append hits (expr_unwritten base) (joined (map arg_unwritten args)) k,
          in_all-joined hits arg_unwritten args k,
        );
    expr-Chain = λ first next rest k.
        omega (
          arith,
          same (unwritten.expr_unwritten-Chain first (next ∷ rest)) k,
          in_all-append hits
              (expr_unwritten first ++ joined (map link_unwritten (next ∷ rest))) [] k,
          in_all-append hits (expr_unwritten first) (joined (map link_unwritten (next ∷ rest))) k,
          in_all-joined hits link_unwritten (next ∷ rest) k,
          in_all-nil hits k,
        );
    expr-Prefix = λ op at inner k.
        omega (arith, same (unwritten.expr_unwritten-Prefix op at inner) k);
    expr-Await = λ at inner k.
        omega (arith, same (unwritten.expr_unwritten-Await at inner) k);
    expr-Fun = λ body k. omega (arith, same (unwritten.expr_unwritten-Fun body) k);
    expr-Spawn = λ at detached opened body k.
        omega (
          arith,
          same (unwritten.expr_unwritten-Spawn at detached (closure_at opened body)) k,
          in_all-append hits (map (λ param. param.name.at) body.params)
              (closure_unwritten (closure_at opened body)) k,
          in_all-map hits (λ param. param.name.at) body.params k,
        );
    expr-Yield = λ at k.
        omega (arith, same (unwritten.expr_unwritten-Yield at) k, in_all-nil hits k);
    expr-None = λ at text _ k.
        let of = name_at (suc at) (id_of (optional_text text)) in
        omega (
          arith,
          same (unwritten.expr_unwritten-Member (exprs.Use of)
              (name_at at (id_of (codes "none")))) k,
          same (unwritten.expr_unwritten-Use of) k,
          in_all-nil hits k,
        );
    expr-Some = λ at text value _ k.
        omega (
          arith,
          some_unwritten (id_of (codes "some")) (id_of (optional_text text)) at value k,
        );
    expr-Optional = λ at k.
        omega (
          arith,
          same (unwritten.expr_unwritten-Use (name_at at (id_of (codes "Optional")))) k,
          in_all-nil hits k,
        );
    expr-Task = λ tasks at tree k. omega (arith, same (task_unwritten tasks at tree) k);
    arg-roll = λ name value k. omega (arith, same (unwritten.arg_unwritten-roll name value) k);
    closure_param-is = λ given k. omega arith;
    inside-is = λ it _ k. omega arith;
    closure-opened = λ at it _ k.
        let body = roll-Block (record { stmts = it.body }) in
        omega (
          arith,
          same (unwritten.closure_unwritten-roll at it.mark it.captures it.params it.result body) k,
          same (unwritten.block_unwritten-roll it.body) k,
          in_all-joined hits stmt_unwritten it.body k,
        );
    closure-Task = λ eq_at await_at tasks value _ k.
        omega (
          arith,
          task_body_unwritten eq_at await_at (of_task tasks (suc await_at) value) k,
          same (task_unwritten tasks (suc await_at) value) k,
        );
    link-roll = λ op at operand k.
        omega (arith, same (unwritten.link_unwritten-roll op at operand) k);
    block-roll = λ body k.
        omega (
          arith,
          same (unwritten.block_unwritten-roll body) k,
          in_all-joined hits stmt_unwritten body k,
        );
    stmts-nil = λ k. omega (arith, in_all-nil (λ one. in_all hits (stmt_unwritten one)) k);
    stmts-one = λ one k.
        omega (
          arith,
          in_all-cons (λ one. in_all hits (stmt_unwritten one)) one [] k,
          in_all-nil (λ one. in_all hits (stmt_unwritten one)) k,
        );
    stmts-append = λ xs ys _ k.
        omega (arith, in_all-append (λ one. in_all hits (stmt_unwritten one)) xs ys k);
    stmts-Or = λ binding _ _ _ _ colon_at ty eq_at value or k.
        omega (
          arith,
          or_unwritten (or_literal_form id_of binding.word.text binding.mutable binding.word.name
              binding.let_at colon_at eq_at or.op_at) ty value or.other k,
        );
    stmt-Bind = λ mutable name ty value k.
        omega (arith, same (unwritten.stmt_unwritten-Bind mutable name ty value) k);
    stmt-Assign = λ at op first value _ k.
        omega (
          arith,
          same (unwritten.stmt_unwritten-Assign at op first value) k,
          in_all-append hits (expr_unwritten first) (expr_unwritten value) k,
        );
    stmt-Discard = λ at value k. omega (arith, same (unwritten.stmt_unwritten-Discard at value) k);
    stmt-If = λ arm arms otherwise k.
        omega (
          arith,
          same (unwritten.stmt_unwritten-If (arm ∷ arms) otherwise) k,
          in_all-append hits (joined (map if_arm_unwritten (arm ∷ arms)))
              (unwrap_or (option_map block_unwritten otherwise) []) k,
          in_all-joined hits if_arm_unwritten (arm ∷ arms) k,
          in_all-option hits block_unwritten otherwise k,
        );
    stmt-While = λ at cond body k.
        omega (
          arith,
          same (unwritten.stmt_unwritten-While at cond body) k,
          in_all-append hits (expr_unwritten cond) (block_unwritten body) k,
        );
    stmt-Switch = λ at subject arms otherwise k.
        omega (
          arith,
          same (unwritten.stmt_unwritten-Switch at subject arms otherwise) k,
          in_all-append hits (expr_unwritten subject ++ joined (map case_arm_unwritten arms))
              (unwrap_or (option_map block_unwritten otherwise) []) k,
          in_all-append hits (expr_unwritten subject) (joined (map case_arm_unwritten arms)) k,
          in_all-joined hits case_arm_unwritten arms k,
          in_all-option hits block_unwritten otherwise k,
        );
    stmt-Return = λ at value k.
        omega (
          arith,
          same (unwritten.stmt_unwritten-Return at value) k,
          in_all-option hits expr_unwritten value k,
        );
    stmt-Break = λ at k.
        omega (arith, same (unwritten.stmt_unwritten-Break at) k, in_all-nil hits k);
    stmt-Continue = λ at k.
        omega (arith, same (unwritten.stmt_unwritten-Continue at) k, in_all-nil hits k);
    stmt-Plain = λ value k. omega (arith, same (unwritten.stmt_unwritten-Plain value) k);
    pattern-Skip = λ at k. omega arith;
    pattern-Let = λ name k. omega arith;
    for_block-is = λ name body _ k. omega arith;
    arm-Some = λ at name body k.
        omega (
          arith,
          same (unwritten.case_arm_unwritten-roll (name_at at (id_of (codes "some")))
              (patterns.Let name ∷ []) body) k,
        );
    case_arm-roll = λ name given body _ k.
        omega (arith, same (unwritten.case_arm_unwritten-roll name given body) k);
    if_arm-roll = λ at cond body k.
        omega (
          arith,
          same (unwritten.if_arm_unwritten-roll at cond body) k,
          in_all-append hits (expr_unwritten cond) (block_unwritten body) k,
        );
    written-Absent = λ k. omega arith;
    written-At = λ name k. omega arith;
    written-Nonisolated = λ k. omega arith;
    written-Concurrent = λ k. omega arith;
    written-Nonsending = λ k. omega arith;
    param-is = λ given k. omega arith;
    func-is = λ given _ k. omega arith;
    prop-is = λ given k. omega (arith, in_all-option hits expr_unwritten given.value k);
    init-is = λ given _ k. omega arith;
    case-is = λ given k. omega arith;
    decl-Entry = λ word mark at is_async body k. omega arith;
    decl-Struct = λ word conforms fields funcs _ k.
        omega (
          arith,
          in_all-append hits (flat_map prop_unwritten fields) (flat_map func_unwritten funcs) k,
          in_all-flat_map hits prop_unwritten fields k,
          in_all-flat_map hits func_unwritten funcs k,
        );
    decl-Enum = λ word conforms given funcs _ k.
        omega (arith, in_all-flat_map hits func_unwritten funcs k);
    decl-Class = λ mark word conforms props inits funcs _ k.
        omega (
          arith,
          in_all-append hits (flat_map prop_unwritten props ++ flat_map init_unwritten inits)
              (flat_map func_unwritten funcs) k,
          in_all-append hits (flat_map prop_unwritten props) (flat_map init_unwritten inits) k,
          in_all-flat_map hits prop_unwritten props k,
          in_all-flat_map hits init_unwritten inits k,
          in_all-flat_map hits func_unwritten funcs k,
        );
    decl-Actor = λ word props inits funcs _ k.
        omega (
          arith,
          in_all-append hits (flat_map prop_unwritten props ++ flat_map init_unwritten inits)
              (flat_map func_unwritten funcs) k,
          in_all-append hits (flat_map prop_unwritten props) (flat_map init_unwritten inits) k,
          in_all-flat_map hits prop_unwritten props k,
          in_all-flat_map hits init_unwritten inits k,
          in_all-flat_map hits func_unwritten funcs k,
        );
    decl-GlobalActor = λ word made k. omega (arith, in_all-nil hits k);
    decl-Func = λ given k. omega arith;
    decl-Global = λ given is k. omega (arith, missing_none given.value is);
  }

-- a list that each number is counted in zero times is empty
nothing : (keys : Keys) → ((k : ℕ) → in_all hits keys k ≤ 0) → keys ≡ []
nothing [] counted = refl
nothing (key ∷ keys) counted =
    absurd (omega (arith, counted key, in_all-cons hits key keys key, hits_same key))

unwritten_weighs : (decls : List Decl) (k : ℕ)
    → in_all hits (flat_map decl_unwritten decls) k ≤ in_all in_decl decls k
unfolding in_all
unwritten_weighs [] k = omega arith
unwritten_weighs (given ∷ decls) k =
    omega (
      arith,
      in_all-append hits (decl_unwritten given) (flat_map decl_unwritten decls) k,
      unwritten_weighs decls k,
    )

valued_each : (decls : List Decl) → in_all in_decl decls 0 ≤ 0
    → AllByRecursion (λ given. unvalued given ≡ 0) decls
unfolding in_all
valued_each [] less = tt
valued_each (given ∷ decls) less =
    (omega (arith, less), valued_each decls (omega (arith, less)))

light : (tokens : List Spelled) (k : ℕ) → in_all (λ token. none) tokens k ≡ 0
unfolding in_all
light [] k = refl
light (token ∷ tokens) k = omega (arith, light tokens k)

enum_weightless : (id_of : List ℕ → ℕ) (one : Marked) (k : ℕ) → in_decl (enum_of id_of one) k ≤ 0
enum_weightless id_of one k = omega (arith, in_all-nil hits k)

-- declarations of texts weigh nothing
weightless : (id_of : List ℕ → ℕ) (decls : List Decl) (tokens : List Spelled)
    → Spells id_of decls tokens → (k : ℕ) → in_all in_decl decls k ≤ 0
unfolding text_forms
weightless id_of decls tokens given k =
    omega (
      arith,
      owned (text_forms id_of) (λ token. none) (λ token j. omega arith) (enum_weightless id_of) decls
          tokens refl given k,
      light tokens k,
    )

pub globals_are_valued : (id_of : List ℕ → ℕ) (decls : List Decl) (tokens : List Spelled)
    → Spells id_of decls tokens → AreValued decls
globals_are_valued id_of decls tokens given prop is =
    let each = valued_each decls (weightless id_of decls tokens given 0) in
    is_there prop.value (All-contains (λ given. unvalued given ≡ 0) decls (Global prop)
    (All-from_recursion (λ given. unvalued given ≡ 0) decls each) is)

pub are_written : (id_of : List ℕ → ℕ) (decls : List Decl) (tokens : List Spelled)
    → Spells id_of decls tokens → AreWritten decls
are_written id_of decls tokens given =
    nothing (flat_map decl_unwritten decls)
    (λ k. omega (arith, unwritten_weighs decls k, weightless id_of decls tokens given k))
