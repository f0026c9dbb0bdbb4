-- The keys of a program's nodes are counted in its tokens, so they differ.
use Rattle.std.proofs.Common.{ℕ, suc, ◌+◌, ◌≤◌, max, true, false, None, Some, List, [], ◌∷◌, length, nat_eq, codes}
use Rattle.std.proofs.Common.{refl, arith}
use Rattle.std.proofs.lemmas.Grind.{common_steps}
use Rattle.std.proofs.lemmas.List.Elements.{recursion_from_All}
use Rattle.std.specs.List.{IsDistinct, AllByRecursion}
use Rattle.sw_token.specs.Spelling.{Spelled, StandApart, IsSpelling}
use Rattle.sw_token.proofs.Steps.{some_token}
use Rattle.sw_grammar_forms.proofs.Rising.{HasTokenText, StandApart-earlier}
use Rattle.sw_tree.proofs.Counting.{Weight, hits, in_all, in_all-append, in_all-cons, in_all-nil}
use Rattle.sw_tree.proofs.Counting.{in_option, InOrder, covers_once, IsDistinct-covers}
use Rattle.sw_tree.proofs.Counting as counting
use Rattle.sw_tree.proofs.KeyCounts as counts
use Rattle.sw_tree.specs.Contents.{AreKeyed}
use Rattle.sw_tree.specs.Keys.{keys_of}
use Rattle.sw_tree.specs.declared.decl.CaseTree.{CaseTree}
use Rattle.sw_tree.specs.declared.decl.Decl.{Decl}
use Rattle.sw_tree.specs.declared.decl.Decl.TheVariants as decls
use Rattle.sw_tree.specs.declared.expr.Arg.{roll-Arg}
use Rattle.sw_tree.specs.declared.expr.Expr.{Expr}
use Rattle.sw_tree.specs.declared.expr.Expr.TheVariants as exprs
use Rattle.sw_tree.specs.declared.name.Name.{Name}
use Rattle.sw_tree.specs.declared.operator.AssignOp.TheVariants as assigns
use Rattle.sw_tree.specs.declared.stmt.Block.{Block, roll-Block}
use Rattle.sw_tree.specs.declared.stmt.Pattern.TheVariants as patterns
use Rattle.sw_tree.specs.declared.stmt.Stmt.TheVariants as statements
use Rattle.sw_tree.specs.declared.type_tree.TypeTree.{TypeTree}
use Rattle.sw_sugar.specs.AsyncLet.{task_body}
use Rattle.sw_sugar.specs.Calls.{or_literal_form}
use Rattle.sw_sugar.specs.Optionals.{block_of, name_at, or_literal_stmts, some_arm, some_tree}
use Rattle.sw_sugar.specs.Optionals.{taken, use_at}
use Rattle.sw_sugar.specs.Tasks.{of_task}
use Rattle.sw_sugar.specs.declared.words.OrLiteral.{OrLiteral}
use Rattle.sw_grammar.specs.Enums.{Marked, enum_of}
use Rattle.sw_grammar.specs.Exprs.{closure_at}
use Rattle.sw_grammar.specs.Nests.{ClosureInside}
use Rattle.sw_grammar.specs.Program.{Spells}
use Rattle.sw_grammar.specs.Tokens.{optional_text}
use Rattle.sw_grammar_facts.proofs.Owning.{none, tally_of}
use Rattle.sw_grammar_facts.proofs.Questions.{besides, besides_is}
use Rattle.sw_grammar_facts.proofs.Spread.{spread, spread_within}
use Rattle.sw_grammar_facts.proofs.TaskWeights.{Summed, summed_task}
use Rattle.sw_grammar_facts.proofs.Weighing.{Weighing}
use Rattle.sw_grammar_facts.proofs.ProgramRules.{owned}

-- A token has the offsets of its text; an empty text, which no token has, counts as one byte.
abbrev start : Spelled → ℕ
start token = token.at

abbrev end_of : Spelled → ℕ
end_of token = token.at + max 1 (length token.text)

abbrev pub span : Spelled → Weight
span = counting.here start end_of

pub hits_start : (token : Spelled) (k : ℕ) → hits token.at k ≤ span token k
unfolding hits counting.here
hits_start token k = grind (arith, common_steps)

pub spread_span : (token : Spelled) (k : ℕ)
    → spread hits (length token.text) token.at k ≤ span token k
unfolding counting.here
spread_span token k =
    spread_within (length token.text) token.at (end_of token) k (omega arith)

-- the keys after the `{` of a closure
abbrev inside_keys : ClosureInside → Weight
inside_keys it k =
    in_all counts.in_name it.captures k
    + in_all counts.in_closure_param it.params k + in_all counts.in_stmt it.body k

some_keys : (some of at : ℕ) (value : Expr) (k : ℕ)
    → counts.in_expr (some_tree some of at value) k
    ≤ hits at k + hits (suc at) k + counts.in_expr value k
unfolding in_all
some_keys some of at value k =
    let arg = roll-Arg (record { label = None; value = value }) in
    omega (
      arith,
      counts.in_expr-Method (use_at (suc at) of) (name_at at some) (arg ∷ []) k,
      counts.in_expr-Use (name_at (suc at) of) k,
      counts.in_arg-roll None value k,
    )

arm_keys : (some at : ℕ) (name : Name) (body : Block) (k : ℕ)
    → counts.in_case_arm (some_arm some at name body) k
    ≤ hits at k + (hits name.at k + counts.in_block body k)
unfolding in_all
arm_keys some at name body k =
    omega (
      arith,
      counts.in_case_arm-roll (name_at at some) (patterns.Let name ∷ []) body k,
      counts.in_pattern-Let name k,
    )

-- the keys of `let x: T = e ?? d`
pub or_keys : (form : OrLiteral) (ty : TypeTree) (value literal : Expr) (k : ℕ)
    → in_all counts.in_stmt (or_literal_stmts form ty value literal) k
    ≤ spread hits 3 form.let_at k + hits form.word.name.at k + hits form.colon_at k
    + hits form.eq_at k + counts.in_expr value k + spread hits 2 form.op_at k
    + counts.in_expr literal k
unfolding in_all in_option spread
or_keys form ty value literal k =
    let whole = name_at (suc form.op_at) form.word.whole in
    let part = name_at (suc form.let_at) form.word.part in
    let last = name_at (suc (suc form.let_at)) form.word.whole in
    let part_word = name_at form.colon_at form.word.part in
    let arm = some_arm form.some form.colon_at part_word (block_of (taken form ∷ [])) in
    omega (
      arith,
      counts.in_stmt-Bind true (name_at form.op_at form.word.whole) (Some ty) literal k,
      counts.in_stmt-Switch form.eq_at value (arm ∷ []) (Some (block_of [])) k,
      counts.in_case_arm-roll (name_at form.colon_at form.some) (patterns.Let part_word ∷ [])
          (block_of (taken form ∷ [])) k,
      counts.in_pattern-Let part_word k,
      counts.in_block-roll (taken form ∷ []) k,
      counts.in_block-roll [] k,
      counts.in_stmt-Assign form.let_at assigns.Set (exprs.Use whole) (exprs.Use part) k,
      counts.in_expr-Use whole k,
      counts.in_expr-Use part k,
      counts.in_stmt-Bind form.mutable form.word.name (Some ty) (exprs.Use last) k,
      counts.in_expr-Use last k,
    )

unfoldable keys_summed : Summed counts.in_expr
keys_summed = record {
  name = λ it. hits it.at;
  operator = hits;
  arg = counts.in_arg;
  link = counts.in_link;
  expr-Use = counts.in_expr-Use;
  expr-Member = counts.in_expr-Member;
  expr-Method = counts.in_expr-Method;
  expr-Chain = counts.in_expr-Chain;
  expr-Prefix = counts.in_expr-Prefix;
}

-- what an `await` awaits has the key of a use of a word more at most
pub task_keys : (tasks : List ℕ) (at : ℕ) (tree : Expr) (k : ℕ)
    → counts.in_expr (of_task tasks at tree) k ≤ hits at k + counts.in_expr tree k
unfolding keys_summed
task_keys tasks at tree k =
    summed_task counts.in_expr keys_summed (hits at) tasks at (λ it j. omega arith) tree k

-- the keys in the body of a task that awaits a value
pub task_body_keys : (eq_at await_at : ℕ) (value : Expr) (k : ℕ)
    → counts.in_closure (task_body eq_at await_at value) k
    ≤ hits eq_at k + hits await_at k + counts.in_expr value k
unfolding in_all in_option
task_body_keys eq_at await_at value k =
    let stmt = statements.Plain (exprs.Await await_at value) in
    omega (
      arith,
      counts.in_closure-roll eq_at None [] [] None (block_of (stmt ∷ [])) k,
      counts.in_block-roll (stmt ∷ []) k,
      counts.in_stmt-Plain (exprs.Await await_at value) k,
      counts.in_expr-Await await_at value k,
    )

module _ (id_of : List ℕ → ℕ) where
  keys : Weighing id_of
  keys = record {
    tally = tally_of (besides span);
    place = hits;
    entry = hits;
    node = λ name. hits name.at;
    label = λ name. none;
    type = λ ty. none;
    expr = counts.in_expr;
    arg = counts.in_arg;
    closure_param = counts.in_closure_param;
    task_param = λ param. none;
    closure = counts.in_closure;
    inside = inside_keys;
    link = counts.in_link;
    block = counts.in_block;
    stmt = counts.in_stmt;
    stmts = in_all counts.in_stmt;
    for_block = λ name body k. hits name.at k + counts.in_block body k;
    pattern = counts.in_pattern;
    case_arm = counts.in_case_arm;
    if_arm = counts.in_if_arm;
    written = λ mark. none;
    param = counts.in_param;
    func = counts.in_func;
    prop = counts.in_prop;
    init = counts.in_init;
    case = λ given. none;
    decl = counts.in_decl;
    of_place = λ token other k. omega (arith, besides_is span token other k, hits_start token k);
    of_span = λ token other _ k.
        omega (arith, besides_is span token other k, spread_span token k);
    of_entry = λ token other k. omega (arith, besides_is span token other k, hits_start token k);
    of_word = λ token other _ _ k.
        omega (arith, besides_is span token other k, hits_start token k);
    of_mark = λ token other _ k. omega arith;
    of_node = λ name k. omega arith;
    of_optional_type = λ name text k. omega arith;
    type-Named = λ name k. omega arith;
    type-Unit = λ at k. omega arith;
    type-Arrow = λ at mark params result k. omega arith;
    type-TaskOf = λ at inner k. omega arith;
    expr-Int = λ at value k. omega (arith, counts.in_expr-Int at value k);
    expr-Bool = λ at value k. omega (arith, counts.in_expr-Bool at value k);
    expr-Use = λ name k. omega (arith, counts.in_expr-Use name k);
    expr-Me = λ at k. omega (arith, counts.in_expr-Me at k);
    expr-Member = λ base name k. omega (arith, counts.in_expr-Member base name k);
    expr-Call = λ name args k. omega (arith, counts.in_expr-Call name args k);
    expr-Method = λ base name args k. omega (arith, counts.in_expr-Method base name args k);
    expr-Chain = λ first next rest k.
        omega (arith, counts.in_expr-Chain first (next ∷ rest) k);
    expr-Prefix = λ op at inner k. omega (arith, counts.in_expr-Prefix op at inner k);
    expr-Await = λ at inner k. omega (arith, counts.in_expr-Await at inner k);
    expr-Fun = λ body k. omega (arith, counts.in_expr-Fun body k);
    expr-Spawn = λ at detached opened body k.
        omega (arith, counts.in_expr-Spawn at detached (closure_at opened body) k);
    expr-Yield = λ at k. omega (arith, counts.in_expr-Yield at k);
    expr-None = λ at text _ k.
        let word = name_at at (id_of (codes "none")) in
        let of = id_of (optional_text text) in
        omega (
          arith,
          counts.in_expr-Member (use_at (suc at) of) word k,
          counts.in_expr-Use (name_at (suc at) of) k,
        );
    expr-Some = λ at text value _ k. some_keys (id_of (codes "some")) (id_of (optional_text text))
        at value k;
    expr-Optional = λ at k. omega (arith, counts.in_expr-Use (name_at at (id_of (codes "Optional"))) k);
    expr-Task = task_keys;
    arg-roll = λ name value k. omega (arith, counts.in_arg-roll name value k);
    closure_param-is = λ given k. omega arith;
    inside-is = λ it _ k. omega arith;
    closure-opened = λ at it _ k.
        let body = roll-Block (record { stmts = it.body }) in
        omega (
          arith,
          counts.in_closure-roll at it.mark it.captures it.params it.result body k,
          counts.in_block-roll it.body k,
        );
    closure-Task = λ eq_at await_at tasks value _ k.
        omega (
          arith,
          task_body_keys eq_at await_at (of_task tasks (suc await_at) value) k,
          task_keys tasks (suc await_at) value k,
        );
    link-roll = λ op at operand k. omega (arith, counts.in_link-roll op at operand k);
    block-roll = λ body k. omega (arith, counts.in_block-roll body k);
    stmts-nil = λ k. omega (arith, in_all-nil counts.in_stmt k);
    stmts-one = λ one k.
        omega (arith, in_all-cons counts.in_stmt one [] k, in_all-nil counts.in_stmt k);
    stmts-append = λ xs ys _ k. omega (arith, in_all-append counts.in_stmt xs ys k);
    stmt-Bind = λ mutable name ty value k.
        omega (arith, counts.in_stmt-Bind mutable name ty value k);
    stmts-Or = λ binding _ _ _ _ colon_at ty eq_at value or k.
        omega (
          arith,
          or_keys (or_literal_form id_of binding.word.text binding.mutable binding.word.name
              binding.let_at colon_at eq_at or.op_at) ty value or.other k,
        );
    stmt-Assign = λ at op first value _ k. omega (arith, counts.in_stmt-Assign at op first value k);
    stmt-Discard = λ at value k. omega (arith, counts.in_stmt-Discard at value k);
    stmt-If = λ arm arms otherwise k. omega (arith, counts.in_stmt-If (arm ∷ arms) otherwise k);
    stmt-While = λ at cond body k. omega (arith, counts.in_stmt-While at cond body k);
    stmt-Switch = λ at subject arms otherwise k.
        omega (arith, counts.in_stmt-Switch at subject arms otherwise k);
    stmt-Return = λ at value k. omega (arith, counts.in_stmt-Return at value k);
    stmt-Break = λ at k. omega (arith, counts.in_stmt-Break at k);
    stmt-Continue = λ at k. omega (arith, counts.in_stmt-Continue at k);
    stmt-Plain = λ value k. omega (arith, counts.in_stmt-Plain value k);
    pattern-Skip = λ at k. omega (arith, counts.in_pattern-Skip at k);
    pattern-Let = λ name k. omega (arith, counts.in_pattern-Let name k);
    for_block-is = λ name body _ k. omega arith;
    arm-Some = λ at name body k. arm_keys (id_of (codes "some")) at name body k;
    case_arm-roll = λ name given body _ k.
        omega (arith, counts.in_case_arm-roll name given body k);
    if_arm-roll = λ at cond body k. omega (arith, counts.in_if_arm-roll at cond body k);
    written-Absent = λ k. omega arith;
    written-At = λ name k. omega arith;
    written-Nonisolated = λ k. omega arith;
    written-Concurrent = λ k. omega arith;
    written-Nonsending = λ k. omega arith;
    param-is = λ given k. omega arith;
    func-is = λ given _ k. omega (arith, counts.in_func-is given k);
    prop-is = λ given k. omega (arith, counts.in_prop-is given k);
    init-is = λ given _ k. omega (arith, counts.in_init-is given k);
    case-is = λ given k. omega arith;
    decl-Entry = λ word mark at is_async body k.
        omega (arith, counts.in_decl-Entry word mark at is_async body k);
    decl-Struct = λ word conforms fields funcs _ k.
        omega (arith, counts.in_decl-Struct word conforms fields funcs k);
    decl-Enum = λ word conforms given funcs _ k.
        omega (arith, counts.in_decl-Enum word conforms given funcs k);
    decl-Class = λ mark word conforms props inits funcs _ k.
        omega (arith, counts.in_decl-Class mark word conforms props inits funcs k);
    decl-Actor = λ word props inits funcs _ k.
        omega (arith, counts.in_decl-Actor word props inits funcs k);
    decl-GlobalActor = λ word made k. omega (arith, counts.in_decl-GlobalActor word made k);
    decl-Func = λ given k. omega (arith, counts.in_decl-Func given k);
    decl-Global = λ given _ k. omega (arith, counts.in_decl-Global given k);
  }

in_order : (from : ℕ) (tokens : List Spelled) → AllByRecursion HasTokenText tokens
    → StandApart from tokens → InOrder start end_of from tokens
in_order from [] texts apart = tt
in_order from (token ∷ tokens) texts apart = (
  apart.0,
  omega arith,
  in_order (end_of token) tokens texts.1
      (StandApart-earlier (end_of token) _ tokens
      (omega (arith, some_token true token.text [] texts.0)) apart.1),
)

spans_in_order : (tokens : List Spelled) → IsSpelling tokens → InOrder start end_of 0 tokens
spans_in_order tokens is =
    in_order 0 tokens (recursion_from_All HasTokenText tokens is.texts) is.apart

-- each offset is counted in the tokens of a spelling once at most
pub counted_once : (tokens : List Spelled) → IsSpelling tokens → (k : ℕ) → in_all span tokens k ≤ 1
unfolding counting.covers
counted_once tokens is = covers_once start end_of 0 tokens (spans_in_order tokens is)

-- offsets that are counted in the tokens of a spelling differ
pub IsDistinct-counted : (ats : List ℕ) (tokens : List Spelled) → IsSpelling tokens
    → ((k : ℕ) → in_all hits ats k ≤ in_all span tokens k) → IsDistinct nat_eq ats
unfolding counting.covers
IsDistinct-counted ats tokens is counted =
    IsDistinct-covers start end_of 0 tokens (spans_in_order tokens is) ats counted

-- the enum of an optional has the place of its `?` for a key
enum_count : (word : Name) (given : List CaseTree) (k : ℕ)
    → counts.in_decl (decls.Enum word false given []) k ≤ hits word.at k
enum_count word given k =
    omega (arith, counts.in_decl-Enum word false given [] k, in_all-nil counts.in_func k)

pub enum_keys : (id_of : List ℕ → ℕ) (one : Marked) (k : ℕ)
    → counts.in_decl (enum_of id_of one) k ≤ span one.mark k
enum_keys id_of one k =
    let is : counts.in_decl (enum_of id_of one) k ≤ hits one.mark.at k = enum_count _ _ k in
    omega (arith, hits_start one.mark k)

pub spelled_are_keyed : (id_of : List ℕ → ℕ) (decls : List Decl) (tokens : List Spelled)
    → Spells id_of decls tokens → AreKeyed decls
unfolding keys
spelled_are_keyed id_of decls tokens given =
    IsDistinct-counted (keys_of decls) tokens given.spelling
    (λ k. omega (
      arith,
      counts.in_decls decls k,
      owned (keys id_of) span (λ token j. omega arith) (enum_keys id_of) decls tokens refl given k,
    ))
