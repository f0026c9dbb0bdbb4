-- The weight of scopes, with the keys of all nodes: a program has none that isn't where its tokens
-- are, so its scopes have no fault.
use Rattle.std.proofs.Common.{◌≡◌, ℕ, suc, ◌≤◌, IsTrue, List, [], ◌∷◌, map, flat_map, None}
use Rattle.std.proofs.Common.{option_map, codes, length, refl, ap, arith}
use Rattle.std.proofs.lemmas.List.Elements.{Contains-get_or, recursion_from_All}
use Rattle.sw_list.proofs.Members.{none_in}
use Rattle.sw_token.specs.Spelling.{Spelled}
use Rattle.sw_grammar_forms.proofs.Rising.{HasTokenText, end_of}
use Rattle.sw_tree.proofs.Counting.{hits, in_all, in_all-cons, in_all-flat_map, in_all-nil}
use Rattle.sw_tree.proofs.FoldEquations as eq
use Rattle.sw_tree.proofs.KeyCounts as counts
use Rattle.sw_tree.specs.Folds.{fold_block, fold_expr, fold_link}
use Rattle.sw_tree.specs.Names.{id_in}
use Rattle.sw_tree.specs.Scopes.{AreScoped, Stated, block_scoped, both, decl_pairs, each}
use Rattle.sw_tree.specs.Scopes.{expr_scoped, func_pairs, init_pairs, maybe, nothing, pattern_names}
use Rattle.sw_tree.specs.Scopes.{prop_pairs, scope_steps, sequence, type_pairs, using}
use Rattle.sw_tree.specs.declared.decl.Decl.{Decl}
use Rattle.sw_tree.specs.declared.decl.ParamTree.{ParamTree}
use Rattle.sw_tree.specs.declared.expr.Arg.{roll-Arg}
use Rattle.sw_tree.specs.declared.expr.Expr.TheVariants as exprs
use Rattle.sw_tree.specs.declared.name.Name.{Name}
use Rattle.sw_tree.specs.declared.stmt.Pattern.{Pattern}
use Rattle.sw_tree.specs.declared.stmt.Pattern.TheVariants as patterns
use Rattle.sw_tree.specs.declared.stmt.Stmt.TheVariants as statements
use Rattle.sw_sugar.specs.Optionals.{name_at}
use Rattle.sw_sugar.specs.Tasks.{of_task}
use Rattle.sw_grammar.specs.Around.{index_in}
use Rattle.sw_grammar.specs.Enums.{Marked, enum_of}
use Rattle.sw_grammar.specs.Exprs.{closure_at}
use Rattle.sw_grammar.specs.Program.{Spells}
use Rattle.sw_grammar.specs.Tokens.{name_of, optional_text}
use Rattle.sw_grammar_facts.specs.Interned.{AreInterned}
use Rattle.sw_grammar_facts.proofs.KeysDiffer.{enum_keys, hits_start, spread_span, task_keys}
use Rattle.sw_grammar_facts.proofs.Owning.{none}
use Rattle.sw_grammar_facts.proofs.ProgramRules.{owned}
use Rattle.sw_grammar_facts.proofs.Questions.{besides_is}
use Rattle.sw_grammar_facts.proofs.Scopes.Weights.{names_hit, pairs_fault, weighs_pairs}
use Rattle.sw_grammar_facts.proofs.Scopes.Weights as scopes
use Rattle.sw_grammar_facts.proofs.Scopes.Ids.{is_known, is_whole, known_of, optional_is}
use Rattle.sw_grammar_facts.proofs.Scopes.Ids.{unmarked_is}
use Rattle.sw_grammar_facts.proofs.Weighing.{Weighing}
use Rattle.sw_grammar_facts.proofs.WordTexts.{word_unmarked}
use Rattle.sw_grammar_facts.proofs.Scopes.Parts.{in_all-sum, in_option-sum, paid_late, spread_two}
use Rattle.sw_grammar_facts.proofs.Scopes.Parts.{tally, two}
use Rattle.sw_grammar_facts.proofs.Scopes.Members.{all_less, body_less, lighter, no_pairs}
use Rattle.sw_grammar_facts.proofs.Scopes.Members.{type_less, value_pairs}
use Rattle.sw_grammar_facts.proofs.Scopes.Declaring.{append_weighs, closure_weighs, declared_weigh}
use Rattle.sw_grammar_facts.proofs.Scopes.Declaring.{inside_weighs, patterns_hit, task_body_weighs}
use Rattle.sw_grammar_facts.proofs.Scopes.Nodes.{arg, arg_scope, arm_scope, block, block_scope}
use Rattle.sw_grammar_facts.proofs.Scopes.Nodes.{case_arm, closure, closure_param, decl, expr}
use Rattle.sw_grammar_facts.proofs.Scopes.Nodes.{expr_scope, for_block, func, if_arm, if_arm_scope}
use Rattle.sw_grammar_facts.proofs.Scopes.Nodes.{init, inside, link, link_scope, node, param}
use Rattle.sw_grammar_facts.proofs.Scopes.Nodes.{pattern, place, prop, same_scope, stmt, stmts}
use Rattle.sw_grammar_facts.proofs.Scopes.Formed.{arg_weighs, args_weigh, if_parts, method_weighs}
use Rattle.sw_grammar_facts.proofs.Scopes.Formed.{plain_weighs, switch_parts, switch_scoped}
use Rattle.sw_grammar_facts.proofs.Scopes.Formed.{task_scope, use_weighs, wrong_none}
use Rattle.sw_grammar_facts.proofs.Scopes.OrScopes.{or_weighs}

module _ (texts : List (List ℕ)) (int : id_in texts (codes "Int") ≡ 0) where
  scopes_told : Weighing (index_in texts)
  unfolding expr_scoped block_scoped
  scopes_told = record {
    tally = tally texts;
    place = place;
    entry = hits;
    node = node texts;
    label = λ name. none;
    type = λ ty. none;
    expr = expr texts;
    arg = arg texts;
    closure_param = closure_param;
    task_param = λ param. none;
    closure = closure texts;
    inside = inside texts;
    link = link texts;
    block = block texts;
    stmt = stmt texts;
    stmts = stmts texts;
    for_block = for_block texts;
    pattern = pattern texts;
    case_arm = case_arm texts;
    if_arm = if_arm texts;
    written = λ mark. none;
    param = param;
    func = func;
    prop = prop;
    init = init;
    case = λ given. none;
    decl = decl;
    of_place = λ token other k. omega (arith, besides_is two token other k, hits_start token k);
    of_span = λ token other _ k.
        omega (
          arith,
          besides_is two token other k,
          spread_two (length token.text) token.at k,
          spread_span token k,
        );
    of_entry = λ token other k. omega (arith, besides_is two token other k, hits_start token k);
    of_word = λ token other text is k.
        omega (
          arith,
          besides_is two token other k,
          hits_start token k,
          wrong_none texts (name_of (index_in texts) token)
              (unmarked_is texts int token.text (word_unmarked token text is)) k,
        );
    of_mark = λ token other _ k. omega arith;
    of_node = λ name k. omega arith;
    of_optional_type = λ name text k. omega arith;
    type-Named = λ name k. omega arith;
    type-Unit = λ at k. omega arith;
    type-Arrow = λ at mark params result k. omega arith;
    type-TaskOf = λ at inner k. omega arith;
    expr-Int = λ at value k.
        omega (
          arith,
          counts.in_expr-Int at value k,
          same_scope texts (eq.fold_expr-Int scope_steps at value) k,
          scopes.weigh_nothing (is_whole texts) k,
        );
    expr-Bool = λ at value k.
        omega (
          arith,
          counts.in_expr-Bool at value k,
          same_scope texts (eq.fold_expr-Bool scope_steps at value) k,
          scopes.weigh_nothing (is_whole texts) k,
        );
    expr-Use = λ name k. omega (arith, counts.in_expr-Use name k, use_weighs texts name k);
    expr-Me = λ at k.
        omega (
          arith,
          counts.in_expr-Me at k,
          same_scope texts (eq.fold_expr-Me scope_steps at) k,
          scopes.weigh_nothing (is_whole texts) k,
        );
    expr-Member = λ base name k.
        omega (
          arith,
          counts.in_expr-Member base name k,
          same_scope texts (eq.fold_expr-Member scope_steps base name) k,
        );
    expr-Call = λ name args k.
        omega (
          arith,
          counts.in_expr-Call name args k,
          same_scope texts (eq.fold_expr-Call scope_steps name args) k,
          args_weigh texts (using name) args k,
          scopes.weigh_using (is_whole texts) name k,
          in_all-sum counts.in_arg (arg_scope texts) args k,
        );
    expr-Method = λ base name args k. omega (arith, method_weighs texts base name args k);
    expr-Chain = λ first next rest k.
        let links = next ∷ rest in
        omega (
          arith,
          counts.in_expr-Chain first links k,
          same_scope texts (eq.fold_expr-Chain scope_steps first links) k,
          scopes.weigh_both (is_whole texts) (fold_expr scope_steps first)
              (each (map (fold_link scope_steps) links)) k,
          scopes.weigh_each (is_whole texts) (fold_link scope_steps) links k,
          in_all-sum counts.in_link (link_scope texts) links k,
        );
    expr-Prefix = λ op at inner k.
        omega (
          arith,
          counts.in_expr-Prefix op at inner k,
          same_scope texts (eq.fold_expr-Prefix scope_steps op at inner) k,
        );
    expr-Await = λ at inner k.
        omega (
          arith,
          counts.in_expr-Await at inner k,
          same_scope texts (eq.fold_expr-Await scope_steps at inner) k,
        );
    expr-Fun = λ body k.
        omega (
          arith,
          counts.in_expr-Fun body k,
          same_scope texts (eq.fold_expr-Fun scope_steps body) k,
        );
    expr-Spawn = λ at detached opened body k.
        omega (
          arith,
          counts.in_expr-Spawn at detached (closure_at opened body) k,
          same_scope texts (eq.fold_expr-Spawn scope_steps at detached (closure_at opened body)) k,
        );
    expr-Yield = λ at k.
        omega (
          arith,
          counts.in_expr-Yield at k,
          same_scope texts (eq.fold_expr-Yield scope_steps at) k,
          scopes.weigh_nothing (is_whole texts) k,
        );
    expr-None = λ at text unmarked k.
        let word = name_at at (index_in texts (codes "none")) in
        let of = name_at (suc at) (index_in texts (optional_text text)) in
        omega (
          arith,
          counts.in_expr-Member (exprs.Use of) word k,
          counts.in_expr-Use of k,
          same_scope texts (eq.fold_expr-Member scope_steps (exprs.Use of) word) k,
          use_weighs texts of k,
          wrong_none texts of (optional_is texts int text unmarked) k,
        );
    expr-Some = λ at text value unmarked k.
        let word = name_at at (index_in texts (codes "some")) in
        let of = name_at (suc at) (index_in texts (optional_text text)) in
        let one = roll-Arg (record { label = None; value = value }) in
        omega (
          arith,
          method_weighs texts (exprs.Use of) word (one ∷ []) k,
          counts.in_expr-Use of k,
          use_weighs texts of k,
          wrong_none texts of (optional_is texts int text unmarked) k,
          in_all-cons (arg texts) one [] k,
          in_all-nil (arg texts) k,
          arg_weighs texts None value k,
        );
    expr-Optional = λ at k.
        let name = name_at at (index_in texts (codes "Optional")) in
        omega (
          arith,
          counts.in_expr-Use name k,
          use_weighs texts name k,
          wrong_none texts name (unmarked_is texts int (codes "Optional") refl) k,
        );
    expr-Task = λ tasks at tree k.
        omega (
          arith,
          task_keys tasks at tree k,
          same_scope texts (task_scope tasks at tree) k,
        );
    arg-roll = λ label value k. omega (arith, arg_weighs texts label value k);
    closure_param-is = λ given k. omega arith;
    inside-is = λ it turn k. omega (arith, inside_weighs texts it turn k);
    closure-opened = closure_weighs texts;
    closure-Task = λ eq_at await_at tasks value after k.
        omega (
          arith,
          task_body_weighs texts eq_at await_at (of_task tasks (suc await_at) value) value
              (task_scope tasks (suc await_at) value) after k,
          task_keys tasks (suc await_at) value k,
        );
    link-roll = λ op at operand k.
        omega (
          arith,
          counts.in_link-roll op at operand k,
          same_scope texts (eq.fold_link-roll scope_steps op at operand) k,
        );
    block-roll = λ body k.
        omega (
          arith,
          counts.in_block-roll body k,
          same_scope texts (eq.fold_block-roll scope_steps body) k,
        );
    stmts-nil = λ k. omega (arith, in_all-nil counts.in_stmt k, scopes.weigh_nothing (is_whole texts) k);
    stmts-one = λ one k.
        omega (arith, in_all-cons counts.in_stmt one [] k, in_all-nil counts.in_stmt k);
    stmts-append = append_weighs texts;
    stmt-Bind = λ mutable name ty value k.
        omega (
          arith,
          counts.in_stmt-Bind mutable name ty value k,
          same_scope texts (ap (λ (one : Stated). sequence (one ∷ []))
              (eq.fold_stmt-Bind scope_steps mutable name ty value)) k,
          scopes.weigh_stated (is_whole texts) (record {
            names = name ∷ [];
            inside = fold_expr scope_steps value;
          }) k,
          in_all-cons (λ (one : Name). hits one.at) name [] k,
          in_all-nil (λ (one : Name). hits one.at) k,
        );
    stmts-Or = λ binding word_token colon typed known colon_at ty eq_at value or k.
        omega (
          arith,
          or_weighs texts binding word_token colon typed known colon_at ty eq_at value or k,
        );
    stmt-Assign = λ at op first value _ k.
        omega (
          arith,
          counts.in_stmt-Assign at op first value k,
          plain_weighs texts (statements.Assign at op first value)
              (both (fold_expr scope_steps first) (fold_expr scope_steps value))
              (eq.fold_stmt-Assign scope_steps at op first value) k,
          scopes.weigh_both (is_whole texts) (fold_expr scope_steps first) (fold_expr scope_steps value) k,
        );
    stmt-Discard = λ at value k.
        omega (
          arith,
          counts.in_stmt-Discard at value k,
          plain_weighs texts (statements.Discard at value) (fold_expr scope_steps value)
              (eq.fold_stmt-Discard scope_steps at value) k,
        );
    stmt-If = λ arm arms otherwise k.
        let all = arm ∷ arms in
        omega (
          arith,
          counts.in_stmt-If all otherwise k,
          plain_weighs texts (statements.If all otherwise) _ (eq.fold_stmt-If scope_steps all otherwise) k,
          if_parts texts all otherwise k,
          in_all-sum counts.in_if_arm (if_arm_scope texts) all k,
          in_option-sum counts.in_block (block_scope texts) otherwise k,
        );
    stmt-While = λ at cond body k.
        omega (
          arith,
          counts.in_stmt-While at cond body k,
          plain_weighs texts (statements.While at cond body)
              (both (fold_expr scope_steps cond) (fold_block scope_steps body))
              (eq.fold_stmt-While scope_steps at cond body) k,
          scopes.weigh_both (is_whole texts) (fold_expr scope_steps cond) (fold_block scope_steps body) k,
        );
    stmt-Switch = λ at subject arms otherwise k.
        omega (
          arith,
          counts.in_stmt-Switch at subject arms otherwise k,
          plain_weighs texts (statements.Switch at subject arms otherwise)
              (switch_scoped subject arms otherwise)
              (eq.fold_stmt-Switch scope_steps at subject arms otherwise) k,
          switch_parts texts subject arms otherwise k,
          in_all-sum counts.in_case_arm (arm_scope texts) arms k,
          in_option-sum counts.in_block (block_scope texts) otherwise k,
        );
    stmt-Return = λ at value k.
        omega (
          arith,
          counts.in_stmt-Return at value k,
          plain_weighs texts (statements.Return at value)
              (maybe (option_map (fold_expr scope_steps) value))
              (eq.fold_stmt-Return scope_steps at value) k,
          scopes.weigh_maybe (is_whole texts) (fold_expr scope_steps) value k,
          in_option-sum counts.in_expr (expr_scope texts) value k,
        );
    stmt-Break = λ at k.
        omega (
          arith,
          counts.in_stmt-Break at k,
          plain_weighs texts (statements.Break at) nothing (eq.fold_stmt-Break scope_steps at) k,
          scopes.weigh_nothing (is_whole texts) k,
        );
    stmt-Continue = λ at k.
        omega (
          arith,
          counts.in_stmt-Continue at k,
          plain_weighs texts (statements.Continue at) nothing (eq.fold_stmt-Continue scope_steps at) k,
          scopes.weigh_nothing (is_whole texts) k,
        );
    stmt-Plain = λ value k.
        omega (
          arith,
          counts.in_stmt-Plain value k,
          plain_weighs texts (statements.Plain value) (fold_expr scope_steps value)
              (eq.fold_stmt-Plain scope_steps value) k,
        );
    pattern-Skip = λ at k.
        omega (arith, counts.in_pattern-Skip at k, in_all-nil (λ (one : Name). hits one.at) k);
    pattern-Let = λ name k.
        omega (
          arith,
          counts.in_pattern-Let name k,
          in_all-cons (λ (one : Name). hits one.at) name [] k,
          in_all-nil (λ (one : Name). hits one.at) k,
        );
    for_block-is = λ name body turn k.
        omega (
          arith,
          in_all-cons (λ (one : Name). hits one.at) name [] k,
          in_all-nil (λ (one : Name). hits one.at) k,
          declared_weigh texts (name ∷ []) (node texts name) body (λ j. omega (
            arith,
            in_all-cons (λ (one : Name). hits one.at) name [] j,
            in_all-nil (λ (one : Name). hits one.at) j,
          )) turn k,
        );
    arm-Some = λ at name body k.
        let some = name_at at (index_in texts (codes "some")) in
        let given = patterns.Let name ∷ [] in
        omega (
          arith,
          counts.in_case_arm-roll some given body k,
          in_all-cons counts.in_pattern (patterns.Let name) [] k,
          in_all-nil counts.in_pattern k,
          counts.in_pattern-Let name k,
          same_scope texts (eq.fold_case_arm-roll scope_steps some given body) k,
        );
    case_arm-roll = λ name given body turn k.
        omega (
          arith,
          counts.in_case_arm-roll name given body k,
          same_scope texts (eq.fold_case_arm-roll scope_steps name given body) k,
          declared_weigh texts (flat_map pattern_names given) (in_all (pattern texts) given) body
              (λ j. omega (arith, patterns_hit texts given j)) turn k,
          in_all-flat_map (λ (one : Name). hits one.at) pattern_names given k,
          in_all-sum counts.in_pattern (λ (one : Pattern). names_hit (is_whole texts) (pattern_names one)) given k,
        );
    if_arm-roll = λ at cond body k.
        omega (
          arith,
          counts.in_if_arm-roll at cond body k,
          same_scope texts (eq.fold_if_arm-roll scope_steps at cond body) k,
          scopes.weigh_both (is_whole texts) (fold_expr scope_steps cond) (fold_block scope_steps body) k,
        );
    written-Absent = λ k. omega arith;
    written-At = λ name k. omega arith;
    written-Nonisolated = λ k. omega arith;
    written-Concurrent = λ k. omega arith;
    written-Nonsending = λ k. omega arith;
    param-is = λ given k. omega arith;
    func-is = λ given turn k.
        omega (
          arith,
          counts.in_func-is given k,
          no_pairs (func_pairs given) (body_less texts given.params given.body turn),
          in_all-sum counts.in_param (λ (one : ParamTree). hits one.name.at) given.params k,
        );
    prop-is = λ given k.
        omega (
          arith,
          counts.in_prop-is given k,
          value_pairs texts given.value k,
          in_option-sum counts.in_expr (expr_scope texts) given.value k,
        );
    init-is = λ given turn k.
        omega (
          arith,
          counts.in_init-is given k,
          no_pairs (init_pairs given) (body_less texts given.params given.body turn),
          in_all-sum counts.in_param (λ (one : ParamTree). hits one.name.at) given.params k,
        );
    case-is = λ given k. omega arith;
    decl-Entry = λ word mark at is_async body k.
        omega (
          arith,
          counts.in_decl-Entry word mark at is_async body k,
          weighs_pairs (is_whole texts) (fold_block scope_steps body) k,
        );
    decl-Struct = λ word conforms fields funcs turn k.
        omega (
          arith,
          counts.in_decl-Struct word conforms fields funcs k,
          no_pairs (type_pairs word fields [] funcs) (type_less texts word fields [] funcs
              (lighter texts (λ j. omega (arith, in_all-nil init j)) turn)),
          in_all-sum counts.in_prop (λ x (k : ℕ). pairs_fault (prop_pairs x)) fields k,
          in_all-sum counts.in_func (λ x (k : ℕ). pairs_fault (func_pairs x)) funcs k,
        );
    decl-Enum = λ word conforms given funcs turn k.
        omega (
          arith,
          counts.in_decl-Enum word conforms given funcs k,
          no_pairs (type_pairs word [] [] funcs) (type_less texts word [] [] funcs
              (lighter texts (λ j. omega (arith, in_all-nil init j, in_all-nil prop j)) turn)),
          in_all-sum counts.in_func (λ x (k : ℕ). pairs_fault (func_pairs x)) funcs k,
        );
    decl-Class = λ mark word conforms props inits funcs turn k.
        omega (
          arith,
          counts.in_decl-Class mark word conforms props inits funcs k,
          no_pairs (type_pairs word props inits funcs) (type_less texts word props inits funcs turn),
          in_all-sum counts.in_prop (λ x (k : ℕ). pairs_fault (prop_pairs x)) props k,
          in_all-sum counts.in_init (λ x (k : ℕ). pairs_fault (init_pairs x)) inits k,
          in_all-sum counts.in_func (λ x (k : ℕ). pairs_fault (func_pairs x)) funcs k,
        );
    decl-Actor = λ word props inits funcs turn k.
        omega (
          arith,
          counts.in_decl-Actor word props inits funcs k,
          no_pairs (type_pairs word props inits funcs) (type_less texts word props inits funcs turn),
          in_all-sum counts.in_prop (λ x (k : ℕ). pairs_fault (prop_pairs x)) props k,
          in_all-sum counts.in_init (λ x (k : ℕ). pairs_fault (init_pairs x)) inits k,
          in_all-sum counts.in_func (λ x (k : ℕ). pairs_fault (func_pairs x)) funcs k,
        );
    decl-GlobalActor = λ word made k.
        omega (
          arith,
          counts.in_decl-GlobalActor word made k,
          no_pairs [] (λ pair has.
              absurd (none_in pair has)),
        );
    decl-Func = λ given k. omega (arith, counts.in_decl-Func given k);
    decl-Global = λ given _ k. omega (arith, counts.in_decl-Global given k);
  }

  -- the enum of an optional has no function, and so no pair
  enum_told : (one : Marked) (k : ℕ) → decl (enum_of (index_in texts) one) k ≤ two one.mark k
  enum_told one k =
      omega (
        arith,
        enum_keys (index_in texts) one k,
        no_pairs (decl_pairs (enum_of (index_in texts) one)) (λ pair has. absurd (none_in pair has)),
      )

  pub told : (decls : List Decl) (tokens : List Spelled) → IsTrue (is_known texts tokens)
      → Spells (index_in texts) decls tokens → AreScoped decls
  unfolding scopes_told
  told decls tokens known given j d below =
      let k = end_of 0 tokens in
      let less = owned scopes_told two (λ token i. omega arith) enum_told decls tokens known given k in
      let late = paid_late 0 tokens k (recursion_from_All HasTokenText tokens given.spelling.texts)
      given.spelling.apart (omega arith) in
      all_less decls k (omega (arith, less, late)) _ (Contains-get_or (flat_map decl_pairs decls) j d
      below)

-- The declarations of a spelling tell scopes, where each name of the tokens has a text.
pub spelled_are_scoped : (texts : List (List ℕ)) (decls : List Decl) (tokens : List Spelled)
    → AreInterned texts tokens → id_in texts (codes "Int") ≡ 0
    → Spells (index_in texts) decls tokens → AreScoped decls
spelled_are_scoped texts decls tokens interned int given =
    told texts int decls tokens (known_of texts tokens interned) given
