-- The `async let`s of a block with the statements after each, one by one as the code's loop reads
-- them.
use Rattle.std.proofs.Common.{◌≡◌, ℕ, ◌<◌, true, false, not, List, []}
use Rattle.std.proofs.Common.{◌∷◌, ◌++◌, length, codes, refl, ◌∙◌, ap}
use Rattle.std.specs.Prelude.{Ok, Err}
use Rattle.sw_token.specs.Spelling.{Spelled}
use Rattle.sw_grammar_forms.specs.Form.{empty, seq, solid, started}
use Rattle.sw_grammar_forms.specs.Form.Form.{done, line_start}
use Rattle.sw_grammar_forms.specs.Quotes.{quote}
use Rattle.sw_grammar_forms.specs.Reader.{Answer, Reader, and_then, check, next, take_if}
use Rattle.sw_grammar_forms.specs.Reader.Fault.{unexpected}
use Rattle.sw_grammar_forms.specs.Relations.{head, may_start}
use Rattle.sw_grammar_forms.specs.Sets.{starts, quoted}
use Rattle.sw_grammar_forms.specs.Terminals.{◌>>=◌}
use Rattle.sw_grammar_forms.proofs.FormLaws.{loop_goes_on}
use Rattle.sw_grammar_forms.proofs.ItemLoops.{Refuses}
use Rattle.sw_grammar_forms.proofs.ReaderLaws.{bind_step, bind_stop}
use Rattle.sw_grammar.specs.Around.{Around, after_tasks}
use Rattle.sw_grammar.specs.Grammar.{body, good}
use Rattle.sw_grammar.specs.Nests.{El, Form, shape_of}
use Rattle.sw_grammar.specs.Reading.{read}
use Rattle.sw_grammar.specs.Stmts.{Body, async_let, async_part, async_parts, items_ext}
use Rattle.sw_parse_expr.specs.Blocks.{beginning}
use Rattle.sw_parse_expr.proofs.TurnLoops as loops

-- a value that is made of what is read
pub made_stops : {A B C : Type 0} {first : Answer A} {second : Answer B} (f : B → C)
    → Refuses first second
    → Refuses first (and_then {X = B × List Spelled} {Y = C × List Spelled} second
    (λ read. Ok (f read.0, read.1)))
made_stops {second = second} f stops fault e = bind_stop second _ fault (stops fault e)

module _ (around : Around) (depth : ℕ) where
  -- the answer of all parts from some on
  abbrev pub Rest : Body → Reader Body
  Rest so_far = read around depth (async_parts around so_far)

  abbrev with_part : Body → Body → Body
  with_part so_far part = record part { stmts = so_far.stmts ++ part.stmts }

  abbrev turn : Body → Form (seq (started (solid (quoted (codes "async")) items_ext 0)) empty) Body
  turn so_far =
      line_start (not so_far.ended) (async_part (after_tasks around so_far.tasks))
      >>= λ part. done (with_part so_far part)

  abbrev one : Body → Reader Body
  one so_far = read around depth (async_part (after_tasks around so_far.tasks))

  turned : (ts us vs : List Spelled) (so_far part : Body) (value : Unit {0})
      → check (may_start (not so_far.ended)) ts ≡ Ok (value, us)
      → one so_far us ≡ Ok (part, vs)
      → read around depth (turn so_far) ts ≡ Ok (with_part so_far part, vs)
  turned ts us vs so_far part value a b =
      bind_step (read around depth (line_start (not so_far.ended)
      (async_part (after_tasks around so_far.tasks))) ts) _ (part, vs) _
      (bind_step (check (may_start (not so_far.ended)) ts) _ (value, us) _ a b) refl

  pub one_turn : (start : Answer Body) (ts us vs : List Spelled) (so_far part : Body)
      (value : Unit {0}) → starts (quoted (codes "async")) (head ts) ≡ true
      → Rest so_far ts ≡ start → check (may_start (not so_far.ended)) ts ≡ Ok (value, us)
      → one so_far us ≡ Ok (part, vs) → Rest (with_part so_far part) vs ≡ start
  unfolding async_parts
  one_turn start ts us vs so_far part value goes same a b =
      loops.one_turn El shape_of (body around.id_of) good depth (λ _. true) turn refl start ts vs
      so_far (with_part so_far part) goes same (turned ts us vs so_far part value a b)

  pub stops_at_start : (start : Answer Body) (ts : List Spelled) (so_far : Body)
      → starts (quoted (codes "async")) (head ts) ≡ true → Rest so_far ts ≡ start
      → Refuses (check (may_start (not so_far.ended)) ts) start
  unfolding async_parts
  stops_at_start start ts so_far goes same fault e =
      loops.stops_at_turn El shape_of (body around.id_of) good depth (λ _. true) turn refl start ts
      so_far goes same fault
      (bind_stop (read around depth (line_start (not so_far.ended)
      (async_part (after_tasks around so_far.tasks))) ts) _ fault
      (bind_stop (check (may_start (not so_far.ended)) ts) _ fault e))

  pub stops_in_part : (start : Answer Body) (ts us : List Spelled) (so_far : Body)
      (value : Unit {0}) → starts (quoted (codes "async")) (head ts) ≡ true
      → Rest so_far ts ≡ start → check (may_start (not so_far.ended)) ts ≡ Ok (value, us)
      → Refuses (one so_far us) start
  unfolding async_parts
  stops_in_part start ts us so_far value goes same a fault e =
      loops.stops_at_turn El shape_of (body around.id_of) good depth (λ _. true) turn refl start ts
      so_far goes same fault
      (bind_stop (read around depth (line_start (not so_far.ended)
      (async_part (after_tasks around so_far.tasks))) ts) _ fault
      (bind_step (check (may_start (not so_far.ended)) ts) _ (value, us) _ a e))

  pub shorter : (ts us vs : List Spelled) (so_far part : Body) (value : Unit {0})
      → check (may_start (not so_far.ended)) ts ≡ Ok (value, us)
      → one so_far us ≡ Ok (part, vs) → length vs < length ts
  shorter ts us vs so_far part value a b =
      loops.shorter El shape_of (body around.id_of) good depth (λ _. true) turn refl ts vs so_far
      (with_part so_far part) (turned ts us vs so_far part value a b)

  pub all_read : (start : Answer Body) (ts : List Spelled) (so_far : Body)
      → starts (quoted (codes "async")) (head ts) ≡ false → Rest so_far ts ≡ start
      → start ≡ Ok (so_far, ts)
  unfolding async_parts
  all_read start ts so_far ends same =
      loops.all_read El shape_of (body around.id_of) good depth (λ _. true) turn refl start ts so_far
      ends same

  -- Parts that begin with one.

  abbrev nothing : Body
  nothing = beginning around ([], true)

  pub begins_with_part : (ts : List Spelled) → starts (quoted (codes "async")) (head ts) ≡ true
      → Rest nothing ts
      ≡ and_then (read around depth (async_part around) ts) (λ part. Rest part.0 part.1)
  unfolding async_parts
  begins_with_part ts goes =
      loop_goes_on El shape_of (body around.id_of) good depth (λ _. true) turn refl nothing ts goes
      ∙ by (read around depth (async_part around) ts)
    where
      by : (answer : Answer Body)
          → and_then {X = Body × List Spelled} {Y = Body × List Spelled}
          (and_then {X = Body × List Spelled} {Y = Body × List Spelled} answer
          (λ part. Ok (with_part nothing part.0, part.1))) (λ part. Rest part.0 part.1)
          ≡ and_then {X = Body × List Spelled} {Y = Body × List Spelled} answer
          (λ part. Rest part.0 part.1)
      by (Ok part) = refl
      by (Err fault) = refl

  pub no_part : (ts : List Spelled) → starts (quoted (codes "async")) (head ts) ≡ false
      → read around depth (async_part around) ts ≡ Err (unexpected (length ts))
  unfolding async_part async_let
  no_part [] is = refl
  no_part (token ∷ ts) is =
      let fault = unexpected (length (token ∷ ts)) in
      bind_stop (read around depth (async_let around) (token ∷ ts)) _ fault
      (bind_stop (next (quote (codes "async")) (token ∷ ts)) _ fault
      (ap (λ b. take_if b token.at ts) is))
