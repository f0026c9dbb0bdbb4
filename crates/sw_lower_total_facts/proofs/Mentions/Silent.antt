-- Uses and assignments to places mention nothing.
use Rattle.std.proofs.Common.{ℕ, Bool, true, false, not, List, [], Option, Some, None, sym, subst}
use Rattle.std.specs.Prelude.{◌&&◌, if◌then◌else◌}
use Rattle.sw_tree.specs.Folds.{Steps, fold_expr}
use Rattle.sw_tree.specs.declared.expr.Expr.{Expr}
use Rattle.sw_tree.proofs.FoldEquations as eq
use Rattle.sw_tree.proofs.TreeInduction.{Cases, Claims, every_expr}
use Rattle.sw_types.specs.declared.ty.Ty.{Ty}
use Rattle.sw_typing_rules.specs.Worlds.{World}
use Rattle.sw_isolation_rules.specs.Answers.{Answers}
use Rattle.sw_isolation_rules.specs.Kinds.{accessor, is_outside, is_strong, kind_of, needs_await}
use Rattle.sw_isolation_rules.specs.Noting.{Seen, await_notes, call_notes, note_steps, race_if}
use Rattle.sw_isolation_rules.specs.Noting.{read_notes, refused_if, result_races, store_notes}
use Rattle.sw_isolation_rules.specs.Noting.{task_races, task_result, use_notes, var_notes}
use Rattle.sw_isolation_rules.specs.Noting.{write_notes}
use Rattle.sw_isolation_rules.specs.declared.note.Note.{Note}
use Rattle.sw_isolation_rules.specs.declared.uses.Callee.{Callee}
use Rattle.sw_isolation_rules.specs.declared.uses.Context.{Context}
use Rattle.sw_isolation_rules.specs.declared.uses.Storage.{Storage}
use Rattle.sw_isolation_rules.specs.declared.uses.Used.{Used}
use Rattle.sw_isolation_rules.specs.declared.uses.Used.TheVariants.{Called, Stored, Field, Waited}
use Rattle.sw_isolation_rules.specs.declared.uses.Used.TheVariants.{Nothing}
use Rattle.sw_lower_total_facts.proofs.Mentions.Notes.{Silent, in_join}

silent_if : (is : Bool) (one other : List Note) → Silent one → Silent other
    → Silent (if is then one else other)
silent_if true one other first second = first
silent_if false one other first second = second

refused_silent : (fails : Bool) (at code : ℕ) → Silent (refused_if fails at code)
refused_silent true at code = (tt, tt)
refused_silent false at code = tt

race_silent : (fails : Bool) (at code : ℕ) → Silent (race_if fails at code)
race_silent true at code = (tt, tt)
race_silent false at code = tt

pub await_silent : (context : Context) (at : ℕ) (is_async : Bool)
    → Silent (await_notes context at is_async)
await_silent context at is_async =
    silent_if context.is_async _ _ (refused_silent (not context.awaited) at 502)
    (silent_if is_async _ _ (refused_silent true at 503) (refused_silent true at 501))

call_silent : (context : Context) (at : ℕ) (callee : Callee) (sends : Bool)
    → Silent (call_notes context at callee sends)
call_silent context at callee sends =
    let kind = kind_of callee context.iso in (
      tt,
      in_join (λ variable. ⊥)
          (if needs_await kind callee.is_async then await_notes context at callee.is_async else [])
          _
          (silent_if (needs_await kind callee.is_async) _ []
          (await_silent context at callee.is_async) tt)
          (race_silent (is_strong kind && not sends) at 604),
    )

read_silent : (context : Context) (at : ℕ) (storage : Storage)
    → Silent (read_notes context at storage)
read_silent context at storage =
    silent_if (is_outside context storage) _ []
    (silent_if storage.mutable _ _ (call_silent context at (accessor storage) storage.may_cross)
    (race_silent (not storage.may_cross) at 606)) tt

write_silent : (context : Context) (at : ℕ) (storage : Storage)
    → Silent (write_notes context at storage)
write_silent context at storage = refused_silent (is_outside context storage) at 504

pub use_silent : (context : Context) (at : ℕ) (used : Used) → Silent (use_notes context at used)
use_silent context at (Called callee sends) = call_silent context at callee sends
use_silent context at (Stored storage) = read_silent context at storage
use_silent context at Field = tt
use_silent context at Waited = await_silent context at true
use_silent context at Nothing = tt

store_silent : (context : Context) (at : ℕ) (used : Used) (inside : List Note) → Silent inside
    → Silent (store_notes context at used inside)
store_silent context at (Called callee sends) inside silent = tt
store_silent context at (Stored storage) inside silent = write_silent context at storage
store_silent context at Field inside silent = silent
store_silent context at Waited inside silent = tt
store_silent context at Nothing inside silent = tt

module _ (world : World) (answers : Answers) where
  pub var_silent : (mutable : Bool) (at : ℕ) → Silent (var_notes mutable at)
  var_silent true at = (tt, tt)
  var_silent false at = tt

  pub races_silent : (at : ℕ) → Silent (task_races world answers at)
  unfolding task_races
  races_silent at = by (task_result (answers.type_at at)) where
    by : (found : Option Ty) → Silent (result_races world at found)
    by None = tt
    by (Some ty) = race_silent _ at 605

  abbrev steps : Steps
  steps = note_steps world answers

  -- An assignment to a place mentions nothing beside what is mentioned before it.
  abbrev StoresNothing : Seen → Type 0
  StoresNothing seen = (context : Context) (at : ℕ) → Silent (seen.stores context at)

  abbrev claims : Claims
  claims = record {
    expr = λ x. StoresNothing (fold_expr steps x);
    stmt = λ x. Unit {0};
    arg = λ x. Unit {0};
    closure = λ x. Unit {0};
    link = λ x. Unit {0};
    block = λ x. Unit {0};
    case_arm = λ x. Unit {0};
    if_arm = λ x. Unit {0};
  }

  cases : Cases claims
  cases = record {
    int = λ at value. subst StoresNothing (sym (eq.fold_expr-Int steps at value)) (λ c k. tt);
    bool = λ at value. subst StoresNothing (sym (eq.fold_expr-Bool steps at value)) (λ c k. tt);
    use_of = λ name. subst StoresNothing (sym (eq.fold_expr-Use steps name))
        (λ c k. store_silent c k _ [] tt);
    me = λ at. subst StoresNothing (sym (eq.fold_expr-Me steps at)) (λ c k. tt);
    member = λ base name of_base.
        subst StoresNothing (sym (eq.fold_expr-Member steps base name))
        (λ c k. store_silent c k _ ((fold_expr steps base).stores c k) (of_base c k));
    call = λ name args all.
        subst StoresNothing (sym (eq.fold_expr-Call steps name args)) (λ c k. tt);
    method = λ base name args of_base all.
        subst StoresNothing (sym (eq.fold_expr-Method steps base name args)) (λ c k. tt);
    chain = λ first rest of_first all.
        subst StoresNothing (sym (eq.fold_expr-Chain steps first rest)) (λ c k. tt);
    prefix = λ op at inner of_inner.
        subst StoresNothing (sym (eq.fold_expr-Prefix steps op at inner)) (λ c k. tt);
    await = λ at inner of_inner.
        subst StoresNothing (sym (eq.fold_expr-Await steps at inner)) (λ c k. tt);
    fun = λ closure inside.
        subst StoresNothing (sym (eq.fold_expr-Fun steps closure)) (λ c k. tt);
    spawn = λ at detached body inside.
        subst StoresNothing (sym (eq.fold_expr-Spawn steps at detached body)) (λ c k. tt);
    yield = λ at. subst StoresNothing (sym (eq.fold_expr-Yield steps at)) (λ c k. tt);
    bind = λ mutable name ty value of_value. tt;
    assign = λ at op place value of_place of_value. tt;
    discard = λ at value of_value. tt;
    if_of = λ arms otherwise all last. tt;
    while_of = λ at cond body of_cond of_body. tt;
    switch = λ at subject arms otherwise of_subject all last. tt;
    return_of = λ at value given. tt;
    break_of = λ at. tt;
    continue_of = λ at. tt;
    plain = λ value of_value. tt;
    arg = λ label value of_value. tt;
    closure = λ at mark captures params result body of_body. tt;
    link = λ op at operand of_operand. tt;
    block = λ stmts all. tt;
    case_arm = λ name patterns body of_body. tt;
    if_arm = λ at cond body of_cond of_body. tt;
  }

  pub stores_silent : (expr : Expr) (context : Context) (at : ℕ)
      → Silent ((fold_expr (note_steps world answers) expr).stores context at)
  stores_silent expr = every_expr claims cases expr
