-- What blocks weigh, with the `async let`s in them, and what stands in closures and tasks.
use Rattle.std.proofs.Common.{ℕ, suc, ◌+◌, ◌≤◌, Bool, true, false, not, IsTrue, List, [], ◌∷◌, ◌++◌}
use Rattle.std.proofs.Common.{None, codes, refl, subst, arith}
use Rattle.std.proofs.lemmas.List.{flat_map_more}
use Rattle.sw_grammar_forms.specs.Form.Form.{more_items, some_items}
use Rattle.sw_grammar_forms.specs.Relations.{Relation, may_start, spelled}
use Rattle.sw_grammar_forms.specs.Sets.{word}
use Rattle.sw_grammar_forms.specs.Terminals.{items}
use Rattle.sw_tree.proofs.Counting.{in_all, in_option, in_all-append}
use Rattle.sw_tree.specs.declared.expr.Expr.TheVariants as exprs
use Rattle.sw_tree.specs.declared.stmt.Stmt.{Stmt}
use Rattle.sw_tree.specs.declared.stmt.Stmt.TheVariants as stmts
use Rattle.sw_sugar.specs.AsyncLet.{task_body}
use Rattle.sw_sugar.specs.Tasks.{of_task}
use Rattle.sw_grammar.specs.Around.{Around, after_tasks, returning, task_ids, without_break}
use Rattle.sw_grammar.specs.Closures.{inside_of}
use Rattle.sw_grammar.specs.Nests.{Nest, El, ClosureInside, shape_of}
use Rattle.sw_grammar.specs.Nests.Nest.{in_patterns}
use Rattle.sw_grammar.specs.Tokens.{an_equals}
use Rattle.sw_grammar.specs.Types.{wanted_of}
use Rattle.sw_grammar.specs.Stmts.{joined, block_of, case_arm, begun, Body, Cases, stmt, statements}
use Rattle.sw_grammar.specs.Stmts.{async_let, async_part, async_parts, closure_inside, task_inside}
use Rattle.sw_grammar.specs.Stmts.{pattern, patterns_inside, patterns_if, arm_body, case_part}
use Rattle.sw_grammar.specs.Stmts.{default_part, switch_inside, later_arms, if_let_inside}
use Rattle.sw_grammar_facts.proofs.ClosureRules.{own_header, own_task_header}
use Rattle.sw_grammar_facts.proofs.ExprRules.{own_expr}
use Rattle.sw_grammar_facts.proofs.Items.{own_items_after, own_items_by, own_some_items_by}
use Rattle.sw_grammar_facts.proofs.Items.{own_turns_on}
use Rattle.sw_grammar_facts.proofs.NestWeights.{weight, tasked, cased, if_let_weight}
use Rattle.sw_grammar_facts.proofs.Owning.{none, Owns, OwnsAt, Part, InTurn, in_turn, own_anywhere}
use Rattle.sw_grammar_facts.proofs.Owning.{own_at, own_at_only, own_at_then, own_at_with, own_done}
use Rattle.sw_grammar_facts.proofs.Owning.{own_either, own_from, own_later, own_only, own_part}
use Rattle.sw_grammar_facts.proofs.Owning.{own_passing, own_past, own_past_at, own_then, own_turns}
use Rattle.sw_grammar_facts.proofs.Owning.{part_of_less, part_rises}
use Rattle.sw_grammar_facts.proofs.Spread.{spread}
use Rattle.sw_grammar_facts.proofs.StmtRules.{own_block, own_if_stmt, own_stmt}
use Rattle.sw_grammar_facts.proofs.TypeRules.{Keeps, own_some_of, own_quote, own_name, own_new_name}
use Rattle.sw_grammar_facts.proofs.TypeRules.{own_new_word, own_opened, own_whole}
use Rattle.sw_grammar_facts.proofs.Unmarked.{fits, wants_word}
use Rattle.sw_grammar_facts.proofs.ValueRules.{own_equals}
use Rattle.sw_grammar_facts.proofs.Wanted.{own_part_knowing, want_header, want_task_header}
use Rattle.sw_grammar_facts.proofs.Weighing.{Weighing}

-- Statements one after another.
module _ (around : Around) (w : Weighing around.id_of) (table : (n : Nest) → Relation (El n))
    (nests : (n : Nest) → IsTrue (fits n) → Owns w.tally none (table n) (weight w n))
    (fit : IsTrue (wants_word around.here.wanted)) where
  -- what the statements of the text stand for so far, and what the next one does
  joined_more : (parts : List (List Stmt)) (part : List Stmt)
      → InTurn w.tally (w.stmts (joined parts)) (w.stmts part) → (k : ℕ)
      → w.stmts (joined (parts ++ part ∷ [])) k ≤ w.stmts (joined parts) k + w.stmts part k
  joined_more parts part turn k =
      subst (λ all. w.stmts all k ≤ w.stmts (joined parts) k + w.stmts part k)
      (flat_map_more (λ (one : List Stmt). one) [] parts part)
      (w.stmts-append (joined parts) part turn k)

  own_stmts : Keeps w table (items (stmt around)) none (λ read. w.stmts (joined read.0))
  own_stmts =
      own_items_by _ El shape_of table (stmt around) w.stmts (own_stmt around w table nests fit)
      (λ parts. w.stmts (joined parts)) w.stmts-nil joined_more

  own_stmts_after : (ended : Bool) → Keeps w table (more_items ([], ended) (stmt around)) none
      (λ read. w.stmts (joined read.0))
  own_stmts_after ended =
      own_items_after _ El shape_of table (stmt around) w.stmts (own_stmt around w table nests fit)
      (λ parts. w.stmts (joined parts)) w.stmts-nil joined_more ended

  own_some_stmts : Keeps w table (some_items (stmt around)) none
      (λ read. w.stmts (joined read.0))
  own_some_stmts =
      own_some_items_by _ El shape_of table (stmt around) w.stmts (own_stmt around w table nests fit)
      (λ parts. w.stmts (joined parts)) w.stmts-nil joined_more

  own_pattern : Keeps w table (pattern around) none w.pattern
  unfolding pattern
  own_pattern =
      own_either _ (own_then _ _ (own_quote w table (codes "_") refl) (λ at. own_done _ (λ k.
      omega (arith, w.pattern-Skip at k))))
      (own_past _ (λ _. own_then _ _ (own_new_name around w table) (λ name.
      own_done _ (λ k. omega (arith, w.pattern-Let name k)))))

  pub own_patterns_inside : Keeps w table (patterns_inside around) none (in_all w.pattern)
  unfolding patterns_inside
  own_patterns_inside = own_some_of around w table (pattern around) w.pattern own_pattern (codes ")")

  own_patterns_if : Keeps w table (patterns_if around) none (in_all w.pattern)
  unfolding patterns_if in_all
  own_patterns_if =
      own_either _ (own_then _ _ (own_opened w table nests (codes "(") refl (in_patterns around.here) fit)
      (λ given. own_done _ (λ k. omega arith))) (own_done _ (λ k. omega arith))

-- An `async let`, and the statements after it.
module _ (around : Around) (w : Weighing around.id_of) (table : (n : Nest) → Relation (El n))
    (nests : (n : Nest) → IsTrue (fits n) → Owns w.tally none (table n) (weight w n))
    (fit : IsTrue (wants_word around.here.wanted)) where
  own_async_let : Keeps w table (async_let around) none (λ task. w.stmt task.stmt)
  unfolding async_let spread in_all in_option
  own_async_let =
      own_then _ _ (own_whole w table (codes "async") refl refl) (λ at. own_past _ (λ _.
      own_then _ _ (own_new_word around w table) (λ found.
      own_later _ an_equals w.place w.expr (λ token. refl) (own_equals w)
      (own_expr around w table nests fit true) (λ eq_at given after. own_done _ (λ k.
      let tasks = task_ids around in
      let awaited = of_task tasks (suc (suc at)) given in
      let body : ClosureInside = record {
        mark = None;
        captures = [];
        params = [];
        result = None;
        body = stmts.Plain (exprs.Await (suc at) awaited) ∷ [];
      } in
      omega (
        arith,
        w.stmt-Bind false found.name None
            (exprs.Spawn at true (task_body eq_at (suc at) awaited)) k,
        w.expr-Spawn at true eq_at body k,
        w.closure-Task eq_at (suc at) tasks given after k,
      ))))))

  own_async_part : Keeps w table (async_part around) none (λ (body : Body). w.stmts body.stmts)
  unfolding async_part
  own_async_part =
      own_anywhere _ (λ from. own_part _ _ own_async_let (λ task middle before.
      own_past_at _ (λ ended next less.
      own_part _ _ (own_stmts_after (after_tasks around (around.here.tasks ++ task.text ∷ [])) w table
      nests fit ended) (λ more to after.
      own_at _ to (own_done _ (λ k. omega (
        arith,
        w.stmts-append (task.stmt ∷ []) (joined more.0)
            (in_turn _ (part_of_less _ (w.stmts-one task.stmt) before) less after) k,
        w.stmts-one task.stmt k,
      )))))))

-- The blocks.
module _ (around : Around) (w : Weighing around.id_of) (table : (n : Nest) → Relation (El n))
    (nests : (n : Nest) → IsTrue (fits n) → Owns w.tally none (table n) (weight w n))
    (fit : IsTrue (wants_word around.here.wanted)) where
  own_async_parts : {from middle : ℕ} (first : Body)
      → Part w.tally from middle (w.stmts first.stmts)
      → OwnsAt w.tally middle (w.stmts first.stmts)
      (spelled El shape_of table (async_parts around first)) (λ (body : Body). w.stmts body.stmts)
  unfolding async_parts
  own_async_parts first part =
      own_turns_on _ (λ from middle body before. own_at_only _ true (λ _.
      own_part _ (λ (next : Body). w.stmts next.stmts)
      (own_passing _ (may_start (not body.ended))
      (own_async_part (after_tasks around body.tasks) w table nests fit)) (λ next to after.
      own_at _ to (own_done _ (λ k.
      w.stmts-append body.stmts next.stmts (in_turn _ before (omega arith) after) k))))) first part

  pub own_statements : Keeps w table (statements around) none w.stmts
  unfolding statements
  own_statements =
      own_anywhere _ (λ from. own_part _ _ (own_stmts around w table nests fit)
      (λ read middle before. own_at_then _ (λ (body : Body). w.stmts body.stmts)
      (own_at_with _ (λ k. omega arith) (own_async_parts (begun around read) before)) (λ body.
      own_past _ (λ _. own_done _ (λ k. omega arith)))))

  own_arm_body : Keeps w table (arm_body around) none (λ (body : Body). w.stmts body.stmts)
  unfolding arm_body
  own_arm_body =
      own_anywhere _ (λ from. own_part _ (λ (body : Body). w.stmts body.stmts)
      (own_either _ (own_then _ _ (own_some_stmts around w table nests fit) (λ read.
      own_done _ (λ k. omega arith))) (own_async_part around w table nests fit))
      (λ first middle before.
      own_at_with _ (λ k. omega arith) (own_async_parts first before)))

  own_case_part : (cases : Cases)
      → Keeps w table (case_part around cases) (in_all w.case_arm cases.0)
      (λ read. in_all w.case_arm read.0)
  unfolding case_part in_all
  own_case_part cases =
      own_past _ (λ _. own_past _ (λ _.
      own_then _ _ (own_name around w table word (codes "print") refl) (λ name.
      own_anywhere _ (λ from. own_part _ _ (own_patterns_if around w table nests fit) (λ pats middle before.
      own_past_at _ (λ _ next less. own_part _ _ own_arm_body (λ body to after.
      own_at _ to (own_done _ (λ k. omega (
        arith,
        in_all-append w.case_arm cases.0 (case_arm name pats body.stmts ∷ []) k,
        w.case_arm-roll name pats (block_of body.stmts)
            (in_turn _ before less (part_of_less _ (w.block-roll body.stmts) after)) k,
        w.block-roll body.stmts k,
      ))))))))))

  own_default_part : Keeps w table (default_part around) none (in_option w.block)
  unfolding default_part in_option
  own_default_part =
      own_past _ (λ _. own_past _ (λ _. own_then _ _ own_arm_body (λ body. own_done _ (λ k.
      omega (arith, w.block-roll body.stmts k)))))

  pub own_switch_inside : Keeps w table (switch_inside around) none (cased w)
  unfolding switch_inside in_all in_option
  own_switch_inside =
      own_from _ none (λ (read : Cases). in_all w.case_arm read.0) (λ k. omega arith)
      (own_turns _ {w = λ (read : Cases). in_all w.case_arm read.0} (λ read.
      own_only _ true (λ _. own_passing _ (may_start (not read.1)) (own_case_part read)))
      ([], false)) (λ read.
      own_then _ (in_option w.block) (own_either _
      (own_passing _ (may_start (not read.1)) own_default_part)
      (own_done _ (λ k. omega arith))) (λ otherwise. own_past _ (λ _.
      own_done _ (λ k. omega arith))))

-- What stands after the `let` of an `if`, and in closures and tasks.
module _ (around : Around) (w : Weighing around.id_of) (table : (n : Nest) → Relation (El n))
    (nests : (n : Nest) → IsTrue (fits n) → Owns w.tally none (table n) (weight w n))
    (fit : IsTrue (wants_word around.here.wanted)) where
  own_later_arms : Keeps w table (later_arms around) none w.block
  unfolding later_arms
  own_later_arms =
      own_either _ (own_past _ (λ _. own_either _
      (own_then _ _ (own_if_stmt (without_break around) w table nests fit) (λ rest.
      own_done _ (λ k. omega (arith, w.block-roll (rest ∷ []) k, w.stmts-one rest k))))
      (own_block (without_break around) w table nests fit)))
      (own_done _ (λ k. omega (arith, w.block-roll [] k, w.stmts-nil k)))

  pub own_if_let_inside : Keeps w table (if_let_inside around) none (if_let_weight w)
  unfolding if_let_inside
  own_if_let_inside =
      own_anywhere _ (λ from.
      own_part _ _ (own_new_name around w table) (λ name middle before.
      own_past_at _ (λ _ past less.
      own_part _ _ (own_expr around w table nests fit false) (λ subject next read.
      own_part _ _ (own_block (without_break around) w table nests fit)
      (λ chosen to after.
      own_at _ to (own_then _ _ own_later_arms (λ otherwise. own_done _ (λ k. omega (
        arith,
        w.for_block-is name chosen (in_turn _ (part_of_less _ (λ j. omega arith) before)
            (let rises = part_rises _ read in omega arith) after) k,
      )))))))))

  pub own_closure_inside : Keeps w table (closure_inside around) none w.inside
  unfolding closure_inside
  own_closure_inside =
      own_anywhere _ (λ from. own_part_knowing w.tally _ (want_header around table)
      (own_header around w table nests) (λ head wants middle before.
      own_part _ _
      (own_statements (returning around (wanted_of head.result)) w table nests wants)
      (λ body to after.
      own_at _ to (own_done _ (λ k. omega (
        arith,
        w.inside-is (inside_of head body) (in_turn _ (part_of_less _ (λ j. omega arith) before)
            (omega arith) after) k,
      ))))))

  pub own_task_inside : Keeps w table (task_inside around) none (tasked w)
  unfolding task_inside
  own_task_inside =
      own_anywhere _ (λ from. own_part_knowing w.tally _ (want_task_header around table)
      (own_task_header around w table nests) (λ head wants middle before.
      own_part _ _
      (own_statements (returning around (wanted_of head.result)) w table nests wants)
      (λ body to after.
      own_at _ to (own_done _ (λ k. omega (
        arith,
        w.inside-is (inside_of head body) (in_turn _ (part_of_less _ (λ j. omega arith) before)
            (omega arith) after) k,
      ))))))
