-- An `async let` and the statements after it, from what each of its parts gave.
use Rattle.std.proofs.Common.{◌≡◌, ℕ, Bool, List, [], ◌∷◌, ◌++◌, codes, refl, sym, ◌∙◌}
use Rattle.std.specs.Prelude.{Ok, Err}
use Rattle.sw_token.specs.Spelling.{Spelled}
use Rattle.sw_grammar_forms.specs.Form.Form.{more_items}
use Rattle.sw_grammar_forms.specs.Reader.{Answer, Reader, and_then, skipping}
use Rattle.sw_grammar_forms.proofs.ItemLoops.{Refuses}
use Rattle.sw_grammar_forms.proofs.ReaderLaws.{bind_step, bind_stop}
use Rattle.sw_grammar.specs.Around.{Around, after_tasks}
use Rattle.sw_grammar.specs.Reading.{read}
use Rattle.sw_grammar.specs.Stmts.{Body, Task, async_let, async_part, joined, stmt}
use Rattle.sw_parse_expr.specs.Blocks.{Items, items_after, items_behind}
use Rattle.sw_parse_expr.proofs.StmtTurns.{State}

-- a `;` that may end what is before, and the statements after it
pub behind_read : (around : Around) (depth : ℕ) (ts us : List Spelled) (ended : Bool)
    → skipping (codes ";") ts ≡ Ok (ended, us)
    → items_after around depth ended us ≡ items_behind around depth ts
behind_read around depth ts us ended e =
    sym (bind_step (skipping (codes ";") ts) (λ read. items_after around depth read.0 read.1)
    (ended, us) (items_after around depth ended us) e refl)

module _ (around : Around) (depth : ℕ) where
  -- the words that stand for tasks behind one more
  abbrev pub behind : Task → List (List ℕ)
  behind task = around.here.tasks ++ task.text ∷ []

  abbrev part_with : Task → Items → Body
  part_with task more =
      record { stmts = task.stmt ∷ more.0; ended = more.1; tasks = behind task }

  -- the part, by the statements in one list as the code keeps them
  abbrev Parted : Task → Answer Items → Answer Body
  Parted task answer =
      and_then {X = Items × List Spelled} {Y = Body × List Spelled} answer
      (λ more. Ok (part_with task more.0, more.1))

  module _ (task : Task) (rest : Bool → Reader State) where
    abbrev Listed : Answer State → Answer Items
    Listed answer =
        and_then {X = State × List Spelled} {Y = Items × List Spelled} answer
        (λ read. Ok ((joined read.0.0, read.0.1), read.1))

    abbrev Made : Answer State → Answer Body
    Made answer =
        and_then {X = State × List Spelled} {Y = Body × List Spelled} answer
        (λ read. Ok (part_with task (joined read.0.0, read.0.1), read.1))

    made_is : (answer : Answer State) → Made answer ≡ Parted task (Listed answer)
    made_is (Ok read) = refl
    made_is (Err fault) = refl

    abbrev After : Answer Bool → Answer Body
    After marked =
        and_then {X = Bool × List Spelled} {Y = Body × List Spelled} marked
        (λ ended. Made (rest ended.0 ended.1))

    regrouped : (marked : Answer Bool)
        → After marked
        ≡ Parted task (and_then {X = Bool × List Spelled} {Y = Items × List Spelled} marked
        (λ ended. Listed (rest ended.0 ended.1)))
    regrouped (Ok ended) = made_is (rest ended.0 ended.1)
    regrouped (Err fault) = refl

  -- the statements after it
  abbrev statements : Task → Bool → Reader State
  statements task ended =
      read around depth (more_items ([], ended) (stmt (after_tasks around (behind task))))

  -- what is read after it
  abbrev pub after : Task → Reader Items
  after task = items_behind (after_tasks around (behind task)) depth

  module _ (ts us : List Spelled) (task : Task)
      (let_read : read around depth (async_let around) ts ≡ Ok (task, us)) where
    parted : read around depth (async_part around) ts ≡ Parted task (after task us)
    unfolding async_part
    parted =
        bind_step (read around depth (async_let around) ts) _ (task, us)
        (After task (statements task) (skipping (codes ";") us)) let_read refl
        ∙ regrouped task (statements task) (skipping (codes ";") us)

    pub part_read : (ws : List Spelled) (more : Items) → after task us ≡ Ok (more, ws)
        → read around depth (async_part around) ts ≡ Ok (part_with task more, ws)
    part_read ws more e = parted ∙ bind_step (after task us) _ (more, ws) _ e refl

    pub stops_in_part : Refuses (after task us) (read around depth (async_part around) ts)
    stops_in_part fault e = parted ∙ bind_stop (after task us) _ fault e

  pub stops_at_let : (ts : List Spelled)
      → Refuses (read around depth (async_let around) ts) (read around depth (async_part around) ts)
  unfolding async_part
  stops_at_let ts fault e = bind_stop (read around depth (async_let around) ts) _ fault e
