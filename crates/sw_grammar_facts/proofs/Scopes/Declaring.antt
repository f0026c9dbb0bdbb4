-- What closures, blocks and patterns weigh, whose variables are declared by tokens before those
-- of all that they are declared for.
use Rattle.std.proofs.Common.{◌≡◌, ℕ, ◌+◌, ◌≤◌, ◌⊎◌, inl, inr, Bool, true, false, not, List, []}
use Rattle.std.proofs.Common.{◌∷◌, ◌++◌, ◌<◌, flat_map, None, Contains, refl, ap, subst, ◌∙◌, arith}
use Rattle.std.proofs.lemmas.List.{map-append}
use Rattle.sw_list.proofs.Members.{first_or_later, none_in}
use Rattle.sw_tree.proofs.Counting.{Weight, hits, in_all, in_all-append, in_all-cons}
use Rattle.sw_tree.proofs.Counting.{in_all-flat_map, in_all-map}
use Rattle.sw_tree.proofs.FoldEquations as eq
use Rattle.sw_tree.proofs.KeyCounts as counts
use Rattle.sw_tree.specs.Folds.{fold_block, fold_expr, fold_stmt}
use Rattle.sw_tree.specs.Scopes.{closing, declaring, pattern_names, scope_steps, sequence}
use Rattle.sw_tree.specs.declared.expr.ClosureParam.{ClosureParam}
use Rattle.sw_tree.specs.declared.expr.Expr.{Expr}
use Rattle.sw_tree.specs.declared.expr.Expr.TheVariants as exprs
use Rattle.sw_tree.specs.declared.name.Name.{Name}
use Rattle.sw_tree.specs.declared.stmt.Block.{Block, roll-Block}
use Rattle.sw_tree.specs.declared.stmt.Pattern.{Pattern}
use Rattle.sw_tree.specs.declared.stmt.Stmt.{Stmt}
use Rattle.sw_tree.specs.declared.stmt.Stmt.TheVariants as statements
use Rattle.sw_sugar.specs.AsyncLet.{task_body}
use Rattle.sw_grammar.specs.Exprs.{closure_at}
use Rattle.sw_grammar.specs.Nests.{ClosureInside}
use Rattle.sw_grammar_facts.proofs.Owning.{InTurn, PaidAfter, none}
use Rattle.sw_grammar_facts.proofs.Scopes.Weights.{Lies, names_hit, one_unless, weigh}
use Rattle.sw_grammar_facts.proofs.Scopes.Weights as scopes
use Rattle.sw_grammar_facts.proofs.Scopes.Sequences.{weigh_append}
use Rattle.sw_grammar_facts.proofs.Scopes.Ids.{is_whole}
use Rattle.sw_grammar_facts.proofs.Scopes.Parts.{in_all-sum, lies_of, names_before, part_none}
use Rattle.sw_grammar_facts.proofs.Scopes.Parts.{tally}
use Rattle.sw_grammar_facts.proofs.Scopes.Formed.{plain_weighs}
use Rattle.sw_grammar_facts.proofs.Scopes.Nodes.{block, block_scope, closure, closure_param, inner}
use Rattle.sw_grammar_facts.proofs.Scopes.Nodes.{expr, expr_scope, inside, node, of_scope, params_names, pattern}
use Rattle.sw_grammar_facts.proofs.Scopes.Nodes.{place, same_scope, stated_of, stmts, wrong}

module _ (texts : List (List ℕ)) where
  -- Laws of what declares variables.

  pub inside_weighs : (it : ClosureInside)
      → InTurn (tally texts) (in_all closure_param it.params) (stmts texts it.body) → (k : ℕ)
      → inside texts it k
      ≤ in_all (node texts) it.captures k + in_all closure_param it.params k + stmts texts it.body k
  inside_weighs it turn k =
      let body = sequence (stated_of it.body) in
      let early = names_before texts (params_names it.params) (λ j. params_hit it.params j) turn.before in
      let lies = lies_of texts body (λ j. omega arith) turn.after in
      omega (
        arith,
        scopes.weigh_declaring (is_whole texts) (params_names it.params) it.captures body turn.next turn.to
            (λ name has. let one = early name has in omega (arith, turn.less)) lies k,
        in_all-sum (λ (name : Name). place name.at) (wrong texts) it.captures k,
        in_all-sum counts.in_name counts.in_name it.captures k,
        in_all-sum counts.in_closure_param (λ (p : ClosureParam). hits p.name.at) it.params k,
        names_of_params it.params k,
      )
    where
      names_of_params : (params : List ClosureParam) (k : ℕ)
          → names_hit (is_whole texts) (params_names params) k
          ≡ in_all (λ (p : ClosureParam). hits p.name.at) params k
      names_of_params params k =
          in_all-map (λ (name : Name). hits name.at) (λ (p : ClosureParam). p.name) params k

      params_hit : (params : List ClosureParam) (k : ℕ)
          → names_hit (is_whole texts) (params_names params) k ≤ in_all closure_param params k
      params_hit params k =
          omega (
            arith,
            names_of_params params k,
            in_all-sum counts.in_closure_param (λ (p : ClosureParam). hits p.name.at) params k,
          )

  pub fine_captures : (names : List Name) (k : ℕ) → in_all (wrong texts) names k ≡ 0
      → (name : Name) → Contains names name → is_whole texts name.id ≡ false
  fine_captures [] k is name has = absurd (none_in name has)
  fine_captures (other ∷ names) k is name has =
      let sums = in_all-cons (wrong texts) other names k in
      by (first_or_later other names name has) (fine_captures names k (omega (arith, is, sums)))
      (omega (arith, is, sums))
    where
      fine : (b : Bool) → one_unless (not b) ≡ 0 → b ≡ false
      fine true none = absurd (cc)
      fine false none = refl

      by : (other ≡ name) ⊎ Contains names name
          → ((name : Name) → Contains names name → is_whole texts name.id ≡ false)
          → one_unless (not (is_whole texts other.id)) ≡ 0 → is_whole texts name.id ≡ false
      by (inl here) later none =
          subst (λ (it : Name). is_whole texts it.id ≡ false) here (fine (is_whole texts other.id) none)
      by (inr there) later none = later name there

  -- a closure, all of whose scopes lies after it
  closed_weighs : (at from to : ℕ) (it : ClosureInside) → at < from
      → ((name : Name) → Contains it.captures name → is_whole texts name.id ≡ false)
      → Lies (is_whole texts) from to (inner it) → (k : ℕ)
      → closure texts (closure_at at it) k ≤ place at k + inside texts it k
  closed_weighs at from to it later fine lies k =
      let body = roll-Block (record { stmts = it.body }) in
      let names = params_names it.params in
      omega (
        arith,
        counts.in_closure-roll at it.mark it.captures it.params it.result body k,
        counts.in_block-roll it.body k,
        same_scope texts (eq.fold_closure-roll scope_steps at it.mark it.captures it.params it.result body
            ∙ ap (λ scoped. closing at it.captures (declaring names it.captures scoped))
            (eq.fold_block-roll scope_steps it.body)) k,
        scopes.weigh_closing (is_whole texts) at it.captures (inner it) from to later fine lies k,
      )

  pub closure_weighs : (at : ℕ) (it : ClosureInside) → PaidAfter (tally texts) at (inside texts it) → (k : ℕ)
      → closure texts (closure_at at it) k ≤ place at k + inside texts it k
  closure_weighs at it after k =
      let quiet = part_none texts after.part after.to (inr (omega arith)) in
      closed_weighs at after.from after.to it after.later
      (fine_captures it.captures after.to (omega (arith, quiet)))
      (lies_of texts (inner it) (λ j. omega arith) after.part) k

  -- what stands in the task of an `async let`
  abbrev awaiting : ℕ → Expr → ClosureInside
  awaiting await_at value = record {
    mark = None;
    captures = [];
    params = [];
    result = None;
    body = statements.Plain (exprs.Await await_at value) ∷ [];
  }

  -- The scope of a task's body is that of its value, which later tokens pay.
  pub task_body_weighs : (eq_at await_at : ℕ) (made value : Expr)
      → fold_expr scope_steps made ≡ fold_expr scope_steps value
      → PaidAfter (tally texts) eq_at (expr texts value) → (k : ℕ)
      → closure texts (task_body eq_at await_at made) k
      ≤ place eq_at k + hits await_at k + counts.in_expr made k + expr_scope texts value k
  unfolding in_all
  task_body_weighs eq_at await_at made value same after k =
      let it = awaiting await_at made in
      let stmt = statements.Plain (exprs.Await await_at made) in
      let body = sequence (stated_of it.body) in
      let less : (j : ℕ) → of_scope texts body j ≤ expr_scope texts value j =
      λ j. omega (
        arith,
        plain_weighs texts stmt (fold_expr scope_steps (exprs.Await await_at made))
            (eq.fold_stmt-Plain scope_steps (exprs.Await await_at made)) j,
        same_scope texts (eq.fold_expr-Await scope_steps await_at made ∙ same) j,
      ) in
      let lies = lies_of texts body (λ j. let one = less j in omega arith) after.part in
      let declared : (j : ℕ) → of_scope texts (inner it) j ≤ of_scope texts body j =
      λ j. let one = scopes.weigh_declaring (is_whole texts) [] [] body after.from after.to
      (λ name has. absurd (none_in name has)) lies j in omega arith in
      let within = lies_of texts (inner it) (λ j.
      let one = declared j in
      let two = less j in
      omega arith) after.part in
      let one = declared k in
      let two = less k in
      omega (
        arith,
        closed_weighs eq_at after.from after.to it after.later
            (λ name has. absurd (none_in name has)) within k,
        counts.in_stmt-Plain (exprs.Await await_at made) k,
        counts.in_expr-Await await_at made k,
      )

  pub append_weighs : (xs ys : List Stmt) → InTurn (tally texts) (stmts texts xs) (stmts texts ys) → (k : ℕ)
      → stmts texts (xs ++ ys) k ≤ stmts texts xs k + stmts texts ys k
  append_weighs xs ys turn k =
      let first = lies_of texts (sequence (stated_of xs)) (λ j. omega arith) turn.before in
      let second = lies_of texts (sequence (stated_of ys)) (λ j. omega arith) turn.after in
      omega (
        arith,
        in_all-append counts.in_stmt xs ys k,
        same_scope texts (ap sequence (map-append (fold_stmt scope_steps) xs ys)) k,
        weigh_append (is_whole texts) (stated_of ys) (stated_of xs) turn.from turn.middle turn.next turn.to
            first turn.less second k,
      )

  -- variables for a (block texts) that later tokens pay
  pub declared_weigh : (names : List Name) (given : Weight) (body : Block)
      → ((k : ℕ) → names_hit (is_whole texts) names k ≤ given k) → InTurn (tally texts) given (block texts body) → (k : ℕ)
      → of_scope texts (declaring names [] (fold_block scope_steps body)) k
      ≤ names_hit (is_whole texts) names k + block_scope texts body k
  declared_weigh names given body less turn k =
      let early = names_before texts names less turn.before in
      let lies = lies_of texts (fold_block scope_steps body) (λ j. omega arith) turn.after in
      scopes.weigh_declaring (is_whole texts) names [] (fold_block scope_steps body) turn.next turn.to
      (λ name has. let one = early name has in omega (arith, turn.less)) lies k

  pub patterns_hit : (given : List Pattern) (k : ℕ)
      → names_hit (is_whole texts) (flat_map pattern_names given) k ≤ in_all (pattern texts) given k
  patterns_hit given k =
      omega (
        arith,
        in_all-flat_map (λ (name : Name). hits name.at) pattern_names given k,
        in_all-sum counts.in_pattern (λ (one : Pattern). names_hit (is_whole texts) (pattern_names one)) given k,
      )
