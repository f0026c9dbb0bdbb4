-- What is noted of a tree: where its context is isolated to `self`, bodies of its own keys, and
-- else no body that is isolated to `self`.
use Rattle.std.proofs.Common.{◌≡◌, ℕ, ◌≤◌, true, List, arith}
use Rattle.sw_tree.specs.Keys.{Keys, block_keys, expr_keys}
use Rattle.sw_tree.specs.declared.expr.Expr.{Expr}
use Rattle.sw_tree.specs.declared.stmt.Block.{Block}
use Rattle.sw_tree.proofs.Counting.{Weight, count, hits_same}
use Rattle.sw_typing_rules.specs.Worlds.{World}
use Rattle.sw_isolation_rules.specs.Answers.{Answers}
use Rattle.sw_isolation_rules.specs.Kinds.{is_own}
use Rattle.sw_isolation_rules.specs.Noting.{Notes, block_notes, see}
use Rattle.sw_isolation_rules.specs.declared.uses.Context.{Context}
use Rattle.sw_isolation_facts.proofs.EachNoted.{EachFits, each_noted}
use Rattle.sw_isolation_facts.proofs.NotedTrees.{block_goes, expr_goes}
use Rattle.sw_lower_total_facts.proofs.Closures.Isolated.{closure_own, task_own}
use Rattle.sw_lower_call_facts.specs.Owning.{NoteOwn}
use Rattle.sw_lower_call_facts.proofs.BodyNotes.Noted.{AllOwn, leaf_own}

module _ (world : World) (answers : Answers) (Good : ℕ → Type 0) where
  -- Where a context is isolated to `self`, the keys that are counted are good.
  abbrev AreGood : Context → Weight → Type 0
  AreGood context keys = (key : ℕ) → is_own context.iso ≡ true → 1 ≤ keys key → Good key

  abbrev pub NotesOwn : Notes → Keys → Type 0
  NotesOwn notes keys = (context : Context) (listed : List ℕ) → AreGood context (count keys)
      → AllOwn Good (notes context listed)

  owning : EachFits world answers (NoteOwn Good) AreGood
  owning = record {
    leaf = leaf_own Good;
    kinds = λ at kind. tt;
    vars = λ at. tt;
    fewer = λ context some all within good key own one.
        good key own (omega (arith, within key, one));
    awaited = λ context keys good. good;
    closures = λ context at keys good. (
      λ own. good at (closure_own world answers at context.iso own) (omega (arith, hits_same at)),
      λ key own one.
          good key (closure_own world answers at context.iso own) (omega (arith, one)),
    );
    tasks = λ context at mark detached keys good. (
      λ own.
          good at (task_own world answers mark detached context.iso own)
          (omega (arith, hits_same at)),
      λ key own one.
          good key (task_own world answers mark detached context.iso own) (omega (arith, one)),
    );
  }

  pub expr_own : (e : Expr) → NotesOwn (see world answers e).notes (expr_keys e)
  unfolding each_noted
  expr_own e = (expr_goes world answers (each_noted owning) e).notes

  pub block_own : (x : Block) → NotesOwn (block_notes world answers x) (block_keys x)
  unfolding each_noted
  block_own x = block_goes world answers (each_noted owning) x
