-- What is noted of a tree: where its context is isolated to `self`, what a closure or a task in it
-- holds that is isolated to it begins with `self`.
use Rattle.std.proofs.Common.{ℕ, ◌<◌, Bool, true, false, List, [], ◌∷◌, ◌++◌, map, refl, arith}
use Rattle.sw_tree.specs.Keys.{Keys, block_keys}
use Rattle.sw_tree.specs.declared.name.Name.{Name}
use Rattle.sw_tree.specs.declared.stmt.Block.{Block}
use Rattle.sw_tree.proofs.Counting.{Weight, count, hits}
use Rattle.sw_typing_rules.specs.Worlds.{World}
use Rattle.sw_isolation_rules.specs.Answers.{Answers}
use Rattle.sw_isolation_rules.specs.Captures.{closed, list_mentions}
use Rattle.sw_isolation_rules.specs.Noting.{Notes, block_notes, body_note, inner_notes, store_notes}
use Rattle.sw_isolation_rules.specs.Noting.{task_races, use_notes, used_at, var_notes, with_list}
use Rattle.sw_isolation_rules.specs.declared.note.Mention.{Mention}
use Rattle.sw_isolation_rules.specs.declared.note.Note.{Note}
use Rattle.sw_isolation_rules.specs.declared.note.Note.TheVariants.{Mentioned, Var}
use Rattle.sw_isolation_rules.specs.declared.uses.Context.{Context}
use Rattle.sw_isolation_rules.specs.declared.uses.Used.{Used}
use Rattle.sw_isolation_rules.specs.declared.uses.Used.TheVariants.{Called, Stored, Field, Waited}
use Rattle.sw_isolation_rules.specs.declared.uses.Used.TheVariants.{Nothing}
use Rattle.sw_isolation_rules.proofs.NotedUses as uses
use Rattle.sw_isolation_facts.specs.NotedByKeys.{NotedByKeys, together}
use Rattle.sw_isolation_facts.proofs.NotedTrees.{block_goes}
use Rattle.sw_lower_total_facts.proofs.Closures.Isolated.{closure_own, task_own}
use Rattle.sw_lower_total_facts.proofs.Standing.Covering.{bare_task}
use Rattle.sw_lower_total_facts.proofs.Standing.Noting.{AreBare, bare_await, bare_mentions, bare_nothing}
use Rattle.sw_lower_total_facts.proofs.Standing.Noting.{bare_store, lacks_use, lacks_var}
use Rattle.sw_lower_call_facts.specs.Owning.{NoteOwn}
use Rattle.sw_lower_call_facts.proofs.BodyNotes.Noted as noted
use Rattle.sw_lower_call_facts.proofs.BodyNotes.Noted.{leaf_own}
use Rattle.sw_lower_call_facts.proofs.Holding.Noted.{Fits, Holding, Never, NoBody, bare, both}
use Rattle.sw_lower_call_facts.proofs.Holding.Noted.{closing, leaf, up}

module _ (world : World) (answers : Answers) (c me : ℕ) (earlier : me < c) where
  abbrev Has : List Note → ℕ → Type 0
  Has notes n = Holding c me notes n

  abbrev IsFit : Context → Type 0
  IsFit context = Fits c me world context

  nothing : (n : ℕ) → Has [] n
  nothing n = leaf c me [] n (λ is. refl) tt

  of_mentions : (mentions : List Mention) → Has (map Mentioned mentions) 0
  of_mentions mentions =
      bare c me (map Mentioned mentions) 0 (bare_mentions mentions)
      (uses.of_mentions (NoteOwn Never) (leaf_own Never) mentions)

  of_use : (context : Context) (at : ℕ) (used : Used)
      → Has (use_notes context at used) (hits at c)
  of_use context at used =
      leaf c me (use_notes context at used) (hits at c)
      (λ is. (lacks_use context at used c is).held)
      (uses.of_use (NoteOwn Never) (leaf_own Never) context at used (λ kind. tt))

  of_store : (context : Context) (at : ℕ) (used : Used) (inside : List Note) → Has inside 0
      → Has (store_notes context at used inside) 0
  of_store context at (Called callee sends) inside are = nothing 0
  of_store context at (Stored storage) inside are =
      bare c me _ 0 (bare_store context at (Stored storage) [] bare_nothing)
      (uses.of_store (NoteOwn Never) (leaf_own Never) context at (Stored storage) [] tt)
  of_store context at Field inside are = are
  of_store context at Waited inside are = nothing 0
  of_store context at Nothing inside are = nothing 0

  of_var : (mutable : Bool) (at : ℕ) → Has (var_notes mutable at) (hits at c)
  of_var true at =
      leaf c me (Var at ∷ []) (hits at c) (λ is. (lacks_var at c is).held) (tt, tt)
  of_var false at = nothing (hits at c)

  -- what is noted of the body of a closure or a task, and what is noted inside it
  within : (at : ℕ) (captures : List Name) (body : Notes) (keys : Weight) (context : Context)
      (listed : List ℕ) (is_async : Bool) (races : List Note) → AreBare races → NoBody races
      → IsFit context
      → Has (body context (with_list world answers context listed captures)) (keys c)
      → Has (body_note at context.iso is_async
      ∷ (races ++ closed world context at (with_list world answers context listed captures)
      (inner_notes world answers captures body context listed))) (together (hits at) keys c)
  within at captures body keys context listed is_async races none all fits holds =
      let words = map Mentioned (list_mentions world answers context.owner captures) in
      let inner = inner_notes world answers captures body context listed in
      closing c me world answers earlier context at is_async
      (with_list world answers context listed captures) races inner (keys c)
      (together (hits at) keys c) none all fits
      (both c me words _ 0 (keys c) (keys c)
      (of_mentions (list_mentions world answers context.owner captures)) holds (omega arith))
      (omega arith)

  holding : NotedByKeys world answers
  holding = record {
    Fits = λ context keys. IsFit context;
    Has = λ notes keys. Has notes (keys c);
    Stored = λ notes. Has notes 0;
    fewer = λ context some all within fits. fits;
    awaited = λ context keys fits. fits;
    more = λ notes some all within holds. up c me notes (some c) (all c) holds (within c);
    nothing = λ keys. nothing (keys c);
    join = λ one other some more all within first second.
        both c me one other (some c) (more c) (all c) first second (within c);
    mentions = of_mentions;
    used = λ context base at. of_use context at (used_at world answers context base at);
    stored_nothing = nothing 0;
    stored = λ context base at place inside holds.
        of_store context place (used_at world answers context base at) inside holds;
    of_stored = λ notes holds. holds;
    variable = of_var;
    awaits = λ context at.
        bare c me _ _ (bare_await context at true)
        (uses.of_await (NoteOwn Never) (leaf_own Never) context at true);
    fun = λ at mark captures body keys go context listed fits.
        within at captures body keys _ listed false [] bare_nothing tt
        (λ own. fits (closure_own world answers at context.iso own))
        (go _ _ (λ own. fits (closure_own world answers at context.iso own)));
    task = λ place detached at mark captures body keys go context listed fits.
        within at captures body keys _ listed true (task_races world answers place)
        (bare_task world answers place) (noted.of_task Never world answers place)
        (λ own. fits (task_own world answers mark detached context.iso own))
        (go _ _ (λ own. fits (task_own world answers mark detached context.iso own)));
  }

  abbrev pub NotesHold : Notes → Keys → Type 0
  NotesHold notes keys = (context : Context) (listed : List ℕ) → IsFit context
      → Has (notes context listed) (count keys c)

  pub block_holds : (x : Block) → NotesHold (block_notes world answers x) (block_keys x)
  unfolding holding
  block_holds x = block_goes world answers holding x
