-- What is so of each note of a use and of a store is so of each note of a tree, where it is so of
-- the bodies that the tree's closures and tasks have.
use Rattle.std.proofs.Common.{ℕ, Bool, true, false, List, map, Option, Some, None}
use Rattle.std.proofs.Common.{not}
use Rattle.sw_tree.specs.declared.name.Name.{Name}
use Rattle.sw_tree.proofs.Counting.{Weight, hits}
use Rattle.sw_types.specs.Sendable.{is_sendable}
use Rattle.sw_types.specs.declared.isolation.CallKind.{CallKind}
use Rattle.sw_types.specs.declared.ty.Ty.{Ty}
use Rattle.sw_typing_rules.specs.Worlds.{World}
use Rattle.sw_isolation_rules.specs.Answers.{Answers}
use Rattle.sw_isolation_rules.specs.Captures.{closed, list_mentions}
use Rattle.sw_isolation_rules.specs.Noting.{Notes, body_note, closure_iso, in_await, in_closure}
use Rattle.sw_isolation_rules.specs.Noting.{inner_notes, result_races, task_iso, task_races, task_result}
use Rattle.sw_isolation_rules.specs.Noting.{used_at, var_notes, with_list}
use Rattle.sw_isolation_rules.specs.declared.note.Note.{Note}
use Rattle.sw_isolation_rules.specs.declared.note.Note.TheVariants.{Kind, Mentioned, Var}
use Rattle.sw_isolation_rules.specs.declared.uses.Context.{Context}
use Rattle.sw_isolation_rules.proofs.Each.{Each, each_join}
use Rattle.sw_isolation_rules.proofs.NotedUses.{EachLeaf, of_await, of_closed, of_mentions}
use Rattle.sw_isolation_rules.proofs.NotedUses.{of_race_605, of_store, of_use}
use Rattle.sw_isolation_facts.specs.NotedByKeys.{IsWithin, NotedByKeys, together}

-- What is so of each note, where the context fits the keys of the tree.
pub record EachFits (world : World) (answers : Answers) (P : Note → Type 0)
    (Fits : Context → Weight → Type 0) : Type 0 where
  pub leaf : EachLeaf P
  pub kinds : (at : ℕ) (kind : CallKind) → P (Kind (record { at = at; kind = kind }))
  pub vars : (key : ℕ) → P (Var key)
  pub fewer : (context : Context) (some all : Weight) → IsWithin some all → Fits context all
      → Fits context some
  pub awaited : (context : Context) (keys : Weight) → Fits context keys
      → Fits (in_await context) keys
  pub closures : (context : Context) (at : ℕ) (keys : Weight)
      → Fits context (together (hits at) keys)
      → P (body_note at (closure_iso answers at context.iso) false)
      × Fits (in_closure context (closure_iso answers at context.iso) false) keys
  pub tasks : (context : Context) (at : ℕ) (mark : Option Name) (detached : Bool) (keys : Weight)
      → Fits context (together (hits at) keys)
      → P (body_note at (task_iso world mark detached context.iso) true)
      × Fits (in_closure context (task_iso world mark detached context.iso) true) keys

module _ {world : World} {answers : Answers} {P : Note → Type 0}
    {Fits : Context → Weight → Type 0} (so : EachFits world answers P Fits) where
  pub of_var : (mutable : Bool) (at : ℕ) → Each P (var_notes mutable at)
  of_var true at = (so.vars at, tt)
  of_var false at = tt

  of_result : (at : ℕ) (result : Option Ty) → Each P (result_races world at result)
  of_result at None = tt
  of_result at (Some ty) = of_race_605 P so.leaf (not (is_sendable world.shapes ty)) at

  pub of_task : (at : ℕ) → Each P (task_races world answers at)
  unfolding task_races
  of_task at = of_result at (task_result (answers.type_at at))

  -- inside a closure
  pub of_inner : (at : ℕ) (captures : List Name) (body : Notes) (context : Context) (listed : List ℕ)
      → Each P (body context (with_list world answers context listed captures))
      → Each P (closed world context at (with_list world answers context listed captures)
      (inner_notes world answers captures body context listed))
  of_inner at captures body context listed are =
      of_closed P so.leaf at world context (with_list world answers context listed captures)
      (inner_notes world answers captures body context listed)
      (each_join P (map Mentioned (list_mentions world answers context.owner captures)) _
      (of_mentions P so.leaf (list_mentions world answers context.owner captures)) are)

  unfoldable pub each_noted : NotedByKeys world answers
  each_noted = record {
    Fits = Fits;
    Has = λ notes keys. Each P notes;
    Stored = λ notes. Each P notes;
    fewer = so.fewer;
    awaited = so.awaited;
    more = λ notes some all within are. are;
    nothing = λ keys. tt;
    join = λ one other some more all within first second. each_join P one other first second;
    mentions = of_mentions P so.leaf;
    used = λ context base at.
        of_use P so.leaf context at (used_at world answers context base at) (so.kinds at);
    stored_nothing = tt;
    stored = λ context base at place inside are.
        of_store P so.leaf context place (used_at world answers context base at) inside are;
    of_stored = λ notes are. are;
    variable = of_var;
    awaits = λ context at. of_await P so.leaf context at true;
    fun = λ at mark captures body keys go context listed fits.
        let one = so.closures context at keys fits in
        (one.0, of_inner at captures body _ listed (go _ _ one.1));
    task = λ place detached at mark captures body keys go context listed fits.
        let one = so.tasks context at mark detached keys fits in (
          one.0,
          each_join P (task_races world answers place) _ (of_task place)
              (of_inner at captures body _ listed (go _ _ one.1)),
        );
  }
