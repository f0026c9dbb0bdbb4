-- A `return` with a value on its line.
use Rattle.std.proofs.Common.{◌≡◌, ℕ, Bool, true, false, not, cond, List, codes, refl, sym, ◌∙◌, ap}
use Rattle.std.specs.Prelude.{Option, Some, None, Ok}
use Rattle.sw_token.specs.Spelling.{Spelled}
use Rattle.sw_grammar_forms.specs.Sets.{Set, starts, not_first}
use Rattle.sw_grammar_forms.specs.Quotes.{quote}
use Rattle.sw_grammar_forms.specs.Relations.{head, is_first_on_line, stays}
use Rattle.sw_grammar_forms.specs.Reader.{Reader, refused, pure, and_then, then_read, next, checked}
use Rattle.sw_grammar_forms.specs.Reader.{choose}
use Rattle.sw_grammar_forms.specs.Form.{Terminal}
use Rattle.sw_grammar_forms.proofs.CursorSteps.{first_line}
use Rattle.sw_grammar_forms.proofs.ItemLoops.{Refuses}
use Rattle.sw_grammar_forms.proofs.ReaderLaws.{bind_step, bind_stop}
use Rattle.sw_tree.specs.declared.stmt.Stmt.TheVariants as variants
use Rattle.sw_grammar.specs.Around.{Around}
use Rattle.sw_grammar.specs.Tokens.{value_first}
use Rattle.sw_grammar.specs.Values.{Given, value_in}
use Rattle.sw_grammar.specs.Stmts.{return_stmt}
use Rattle.sw_grammar.specs.Reading.{read}

stays_or_first : (token : Option Spelled) → stays token ≡ not (is_first_on_line token)
stays_or_first None = refl
stays_or_first (Some token) = refl

on_line_stays : (set : Set) (token : Option Spelled) → starts (not_first set) token ≡ true
    → stays token ≡ true
on_line_stays set token h = by_line (is_first_on_line token) refl
  where
    by_line : (b : Bool) → is_first_on_line token ≡ b → stays token ≡ true
    by_line false is = stays_or_first token ∙ ap not is
    by_line true is =
        absurd (let clash : true ≡ false = sym h ∙ first_line set token is in cc)

chosen : {A : Type 0} (set : Set) (this other : Reader A) (ts : List Spelled)
    → starts set (head ts) ≡ true → choose set this other ts ≡ this ts
chosen set this other ts h = ap (λ b. cond b (this ts) (other ts)) h

-- a reader of what begins on the line
on_line : {A : Type 0} (set : Set) (reader : Reader A) (ts : List Spelled)
    → starts (not_first set) (head ts) ≡ true → checked stays reader ts ≡ reader ts
on_line set reader ts h =
    ap (λ b. and_then (cond b (Ok (tt, ts)) (refused ts)) (λ read. reader read.1))
    (on_line_stays set (head ts) h)

module _ {A B : Type 0} (set : Set) (t : Terminal ℕ) (reader : Reader A) (with_value : ℕ → A → B)
    (without : ℕ → B) where
  abbrev given : ℕ → Reader B
  given at = then_read (checked stays reader) (λ x. pure (with_value at x))

  -- a token, and a value on its line where it comes
  abbrev Line : Reader B
  Line = then_read (next t) (λ at. choose (not_first set) (given at) (pure (without at)))

  module _ (ts us : List Spelled) (at : ℕ) (word : next t ts ≡ Ok (at, us))
      (goes : starts (not_first set) (head us) ≡ true) where
    line_read : (x : A) (vs : List Spelled) → reader us ≡ Ok (x, vs)
        → Line ts ≡ Ok (with_value at x, vs)
    line_read x vs e =
        bind_step (next t ts) _ (at, us) _ word
        (chosen (not_first set) (given at) (pure (without at)) us goes
        ∙ bind_step (checked stays reader us) _ (x, vs) _ (on_line set reader us goes ∙ e) refl)

    line_stops : Refuses (reader us) (Line ts)
    line_stops fault e =
        bind_step (next t ts) _ (at, us) _ word
        (chosen (not_first set) (given at) (pure (without at)) us goes
        ∙ bind_stop (checked stays reader us) _ fault (on_line set reader us goes ∙ e))

module _ (around : Around) (depth : ℕ) (wanted : Option (List ℕ))
    (is : wanted ≡ around.here.wanted) (ts us : List Spelled) (at : ℕ)
    (word : next (quote (codes "return")) ts ≡ Ok (at, us))
    (goes : starts (not_first value_first) (head us) ≡ true) where
  abbrev value : Option (List ℕ) → Reader Given
  value word = read around depth (value_in around word)

  same : value around.here.wanted us ≡ value wanted us
  same = ap (λ word. value word us) (sym is)

  pub return_read : (x : Given) (vs : List Spelled) → value wanted us ≡ Ok (x, vs)
      → read around depth (return_stmt around) ts ≡ Ok (variants.Return at (Some x.value), vs)
  unfolding return_stmt
  return_read x vs e =
      line_read value_first (quote (codes "return")) (value around.here.wanted)
      (λ a y. variants.Return a (Some y.value)) (λ a. variants.Return a None) ts us at word goes x
      vs (same ∙ e)

  pub return_stops : Refuses (value wanted us) (read around depth (return_stmt around) ts)
  unfolding return_stmt
  return_stops fault e =
      line_stops value_first (quote (codes "return")) (value around.here.wanted)
      (λ a y. variants.Return a (Some y.value)) (λ a. variants.Return a None) ts us at word goes
      fault (same ∙ e)
