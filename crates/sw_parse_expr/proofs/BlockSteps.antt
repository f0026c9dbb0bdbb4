-- The statements and `async let`s of a block, from what each of its parts gave.
use Rattle.std.proofs.Common.{◌≡◌, ℕ, true, List, [], codes, refl, sym, ◌∙◌}
use Rattle.std.specs.Prelude.{Ok, Err}
use Rattle.sw_token.specs.Spelling.{Spelled}
use Rattle.sw_grammar_forms.specs.Form.Form.{more_items}
use Rattle.sw_grammar_forms.specs.Quotes.{quote}
use Rattle.sw_grammar_forms.specs.Reader.{Answer, Reader, and_then, next}
use Rattle.sw_grammar_forms.proofs.ItemLoops.{Refuses}
use Rattle.sw_grammar_forms.proofs.ReaderLaws.{bind_step, bind_stop}
use Rattle.sw_tree.specs.declared.stmt.Stmt.{Stmt}
use Rattle.sw_grammar.specs.Around.{Around}
use Rattle.sw_grammar.specs.Reading.{read}
use Rattle.sw_grammar.specs.Stmts.{Body, begun, joined, statements, stmt}
use Rattle.sw_parse_expr.specs.Blocks.{Items, beginning, block_items, items_after, items_of}
use Rattle.sw_parse_expr.proofs.PartLoops.{Rest}
use Rattle.sw_parse_expr.proofs.StmtTurns.{State}

module _ (around : Around) (depth : ℕ) (ts : List Spelled) where
  -- what follows the statements at the beginning, by these in one list
  abbrev Listed : Answer State → Answer Body
  Listed answer =
      and_then {X = Items × List Spelled} {Y = Body × List Spelled}
      (and_then {X = State × List Spelled} {Y = Items × List Spelled} answer
      (λ read. Ok ((joined read.0.0, read.0.1), read.1)))
      (λ first. Rest around depth (beginning around first.0) first.1)

  abbrev Followed : Answer State → Answer Body
  Followed answer =
      and_then {X = State × List Spelled} {Y = Body × List Spelled} answer
      (λ first. Rest around depth (begun around first.0) first.1)

  listed_is : (answer : Answer State) → Listed answer ≡ Followed answer
  listed_is (Ok first) = refl
  listed_is (Err fault) = refl

  block_is : Listed (read around depth (more_items ([], true) (stmt around)) ts)
      ≡ block_items around depth ts
  block_is = listed_is (read around depth (more_items ([], true) (stmt around)) ts)

  pub block_read : (us : List Spelled) (first : Items)
      → items_after around depth true ts ≡ Ok (first, us)
      → block_items around depth ts ≡ Rest around depth (beginning around first) us
  block_read us first e =
      sym block_is
      ∙ bind_step (items_after around depth true ts) _ (first, us)
      (Rest around depth (beginning around first) us) e refl

  pub stops_at_first : Refuses (items_after around depth true ts) (block_items around depth ts)
  stops_at_first fault e =
      sym block_is ∙ bind_stop (items_after around depth true ts) _ fault e

  -- Up to the `}`.

  abbrev Itemized : Answer Body → Answer Items
  Itemized answer =
      and_then {X = Body × List Spelled} {Y = Items × List Spelled} answer
      (λ read. Ok (items_of read.0, read.1))

  abbrev close : Items → Reader (List Stmt)
  close all us =
      and_then {X = ℕ × List Spelled} {Y = List Stmt × List Spelled} (next (quote (codes "}")) us)
      (λ end. Ok (all.0, end.1))

  -- the end behind what is read of a block
  abbrev Closed : Answer Body → Answer (List Stmt)
  Closed answer =
      and_then {X = Body × List Spelled} {Y = List Stmt × List Spelled} answer
      (λ all. close (items_of all.0) all.1)

  closed_is : (answer : Answer Body)
      → Closed answer
      ≡ and_then {X = Items × List Spelled} {Y = List Stmt × List Spelled} (Itemized answer)
      (λ all. close all.0 all.1)
  closed_is (Ok all) = refl
  closed_is (Err fault) = refl

  inside_is : (answer : Answer State)
      → and_then {X = State × List Spelled} {Y = List Stmt × List Spelled} answer
      (λ first. Closed (Rest around depth (begun around first.0) first.1))
      ≡ Closed (Followed answer)
  inside_is (Ok first) = refl
  inside_is (Err fault) = refl

  statements_are : read around depth (statements around) ts
      ≡ and_then {X = Items × List Spelled} {Y = List Stmt × List Spelled}
      (Itemized (block_items around depth ts)) (λ all. close all.0 all.1)
  unfolding statements
  statements_are =
      inside_is (read around depth (more_items ([], true) (stmt around)) ts)
      ∙ closed_is (block_items around depth ts)

  pub stops_inside : Refuses (Itemized (block_items around depth ts))
      (read around depth (statements around) ts)
  stops_inside fault e =
      statements_are ∙ bind_stop (Itemized (block_items around depth ts)) _ fault e

  pub stops_at_end : (us : List Spelled) (all : Items)
      → Itemized (block_items around depth ts) ≡ Ok (all, us)
      → Refuses (next (quote (codes "}")) us) (read around depth (statements around) ts)
  stops_at_end us all e fault e' =
      statements_are
      ∙ bind_step (Itemized (block_items around depth ts)) _ (all, us) _ e
      (bind_stop (next (quote (codes "}")) us) _ fault e')

  pub all_inside : (us vs : List Spelled) (all : Items) (at : ℕ)
      → Itemized (block_items around depth ts) ≡ Ok (all, us)
      → next (quote (codes "}")) us ≡ Ok (at, vs)
      → read around depth (statements around) ts ≡ Ok (all.0, vs)
  all_inside us vs all at e e' =
      statements_are
      ∙ bind_step (Itemized (block_items around depth ts)) _ (all, us) _ e
      (bind_step (next (quote (codes "}")) us) _ (at, vs) _ e' refl)
