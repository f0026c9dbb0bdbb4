-- What is noted of a tree: each key is noted as often as it stands in the tree, at most.
use Rattle.std.proofs.Common.{◌≡◌, ℕ, ◌≤◌, List, ◌++◌, map, arith, false, true}
use Rattle.sw_tree.specs.declared.expr.Expr.{Expr}
use Rattle.sw_tree.specs.declared.name.Name.{Name}
use Rattle.sw_tree.specs.declared.stmt.Block.{Block}
use Rattle.sw_tree.proofs.KeyCounts.{in_block, in_expr}
use Rattle.sw_typing_rules.specs.Worlds.{World}
use Rattle.sw_isolation_rules.specs.Answers.{Answers}
use Rattle.sw_isolation_rules.specs.Captures.{closed, list_mentions}
use Rattle.sw_isolation_rules.specs.Noting.{Notes, block_notes, body_note, closure_iso, inner_notes}
use Rattle.sw_isolation_rules.specs.Noting.{see, task_iso, task_races, used_at, with_list}
use Rattle.sw_isolation_rules.specs.declared.note.Note.TheVariants.{Mentioned}
use Rattle.sw_isolation_rules.specs.declared.uses.Context.{Context}
use Rattle.sw_isolation_facts.specs.NotedByKeys.{NotedByKeys}
use Rattle.sw_isolation_facts.proofs.NotedTrees.{block_goes, expr_goes}
use Rattle.sw_lower_placed_facts.proofs.Settling.Counts.{few, few_body, few_closed, few_join, few_use}
use Rattle.sw_lower_placed_facts.proofs.Settling.Counts.{none_await, none_mentions, none_nothing}
use Rattle.sw_lower_placed_facts.proofs.Settling.Counts.{none_store, none_task, none_var}

module _ (world : World) (answers : Answers) (c : ℕ) where
  abbrev pub NotesFew : Notes → ℕ → Type 0
  NotesFew notes n = (context : Context) (listed : List ℕ) → few c (notes context listed) ≤ n

  -- inside a closure
  inner_few : (at : ℕ) (captures : List Name) (body : Notes) (n : ℕ) (context : Context)
      (listed : List ℕ)
      → few c (body context (with_list world answers context listed captures)) ≤ n
      → few c (closed world context at (with_list world answers context listed captures)
      (inner_notes world answers captures body context listed)) ≤ n
  inner_few at captures body n context listed are =
      let within = with_list world answers context listed captures in
      let words = map Mentioned (list_mentions world answers context.owner captures) in
      omega (
        arith,
        few_closed c world at context within
            (inner_notes world answers captures body context listed),
        few_join c words (body context within),
        none_mentions c (list_mentions world answers context.owner captures),
        are,
      )

  noted : NotedByKeys world answers
  noted = record {
    Fits = λ context keys. Unit {0};
    Has = λ notes keys. few c notes ≤ keys c;
    Stored = λ notes. few c notes ≡ 0;
    fewer = λ context some all within fits. tt;
    awaited = λ context keys fits. tt;
    more = λ notes some all within are. omega (arith, are, within c);
    nothing = λ keys. omega (arith, none_nothing c);
    join = λ one other some more all within first second.
        omega (arith, few_join c one other, first, second, within c);
    mentions = λ these. omega (arith, none_mentions c these);
    used = λ context base at. few_use c context at (used_at world answers context base at);
    stored_nothing = none_nothing c;
    stored = λ context base at place inside are.
        none_store c context place (used_at world answers context base at) inside are;
    of_stored = λ notes are. omega (arith, are);
    variable = λ mutable at. omega (arith, none_var c world answers mutable at);
    awaits = λ context at. omega (arith, none_await c context at true);
    fun = λ at mark captures body keys go context listed fits.
        let isolation = closure_iso answers at context.iso in
        let within = record context { iso = isolation; is_async = false; awaited = false } in
        let listed_too = with_list world answers within listed captures in
        omega (
          arith,
          few_body c (closed world within at listed_too
              (inner_notes world answers captures body within listed))
              (body_note at isolation false),
          inner_few at captures body (keys c) within listed (go within listed_too tt),
        );
    task = λ place detached at mark captures body keys go context listed fits.
        let isolation = task_iso world mark detached context.iso in
        let within = record context { iso = isolation; is_async = true; awaited = false } in
        let listed_too = with_list world answers within listed captures in
        let inner = closed world within at listed_too
        (inner_notes world answers captures body within listed) in
        omega (
          arith,
          few_body c (task_races world answers place ++ inner) (body_note at isolation true),
          few_join c (task_races world answers place) inner,
          none_task c world answers place,
          inner_few at captures body (keys c) within listed (go within listed_too tt),
        );
  }

  pub expr_few : (e : Expr) → NotesFew (see world answers e).notes (in_expr e c)
  unfolding noted
  expr_few e context listed = (expr_goes world answers noted e).notes context listed tt

  pub block_few : (x : Block) → NotesFew (block_notes world answers x) (in_block x c)
  unfolding noted
  block_few x context listed = block_goes world answers noted x context listed tt
