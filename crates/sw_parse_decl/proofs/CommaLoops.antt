-- Lists that commas part, turn by turn as a loop of the code reads them.
use Rattle.std.proofs.Common.{◌≡◌, ℕ, ◌<◌, true, false, List, [], ◌∷◌, ◌++◌, length, codes}
use Rattle.std.proofs.Common.{refl, sym, ◌∙◌}
use Rattle.std.specs.Prelude.{Ok}
use Rattle.sw_token.specs.Spelling.{Spelled}
use Rattle.sw_grammar_forms.specs.Sets.{starts, quoted}
use Rattle.sw_grammar_forms.specs.Form.{Shape, one, empty, seq, star}
use Rattle.sw_grammar_forms.specs.Form.Form.{done}
use Rattle.sw_grammar_forms.specs.Terminals.{◌>>=◌, expect}
use Rattle.sw_grammar_forms.specs.Quotes.{quote}
use Rattle.sw_grammar_forms.specs.Relations.{head}
use Rattle.sw_grammar_forms.specs.Reader.{Reader, then_read, next}
use Rattle.sw_grammar_forms.proofs.ReaderLaws.{bind_step}
use Rattle.sw_grammar_forms.proofs.FormLaws.{loop_stops, loop_goes_on, turn_takes}
use Rattle.sw_grammar.specs.Around.{Around}
use Rattle.sw_grammar.specs.Nests.{El, shape_of, Form}
use Rattle.sw_grammar.specs.Grammar.{body, good}
use Rattle.sw_grammar.specs.Types.{more_of}
use Rattle.sw_grammar.specs.Reading.{read}

-- what one turn of such a list takes
abbrev pub part : Shape → Shape
part s = seq (one (quote (codes ","))) (seq s empty)

module _ (around : Around) (depth : ℕ) {s : Shape} {A : Type 0} (item : Form s A)
    (ok : (star (part s)).ok ≡ true) where
  -- the answer of a list, of which some items are read
  abbrev pub More : List A → Reader (List A)
  More xs = read around depth (more_of around xs item)

  abbrev comma_item : List A → Form (part s) (List A)
  comma_item xs = expect (codes ",") >>= λ _. (item >>= λ x. done (xs ++ x ∷ []))

  abbrev turn : List A → Reader (List A)
  turn xs = read around depth (comma_item xs)

  abbrev goes : List Spelled → Type 0
  goes ts = starts (quoted (codes ",")) (head ts) ≡ true

  next_turn : (xs : List A) (ts : List Spelled) → goes ts → More xs ts ≡ then_read (turn xs) More ts
  next_turn xs ts some =
      loop_goes_on El shape_of (body around.id_of) good depth (λ _. true) comma_item ok xs ts some

  turned : (xs : List A) (ts us vs : List Spelled) (at : ℕ) (x : A)
      → next (quote (codes ",")) ts ≡ Ok (at, us) → read around depth item us ≡ Ok (x, vs)
      → turn xs ts ≡ Ok (xs ++ x ∷ [], vs)
  turned xs ts us vs at x a b =
      bind_step (next (quote (codes ",")) ts) _ (at, us) _ a
      (bind_step (read around depth item us) _ (x, vs) _ b refl)

  pub one_more : (init : List A) (start ts us vs : List Spelled) (xs : List A) (at : ℕ) (x : A)
      → goes ts → More xs ts ≡ More init start → next (quote (codes ",")) ts ≡ Ok (at, us)
      → read around depth item us ≡ Ok (x, vs)
      → More (xs ++ x ∷ []) vs ≡ More init start
  one_more init start ts us vs xs at x some same a b =
      sym (next_turn xs ts some
      ∙ bind_step (turn xs ts) _ (xs ++ x ∷ [], vs) _ (turned xs ts us vs at x a b) refl) ∙ same

  pub part_shrinks : (ts us vs : List Spelled) (xs : List A) (at : ℕ) (x : A)
      → next (quote (codes ",")) ts ≡ Ok (at, us) → read around depth item us ≡ Ok (x, vs)
      → length vs < length ts
  part_shrinks ts us vs xs at x a b =
      turn_takes El shape_of (body around.id_of) good depth comma_item ok xs (xs ++ x ∷ []) ts vs
      (turned xs ts us vs at x a b)

  pub all_parts : (init : List A) (start ts : List Spelled) (xs : List A)
      → starts (quoted (codes ",")) (head ts) ≡ false
      → More xs ts ≡ More init start → More init start ≡ Ok (xs, ts)
  all_parts init start ts xs ends same =
      sym same
      ∙ loop_stops El shape_of (body around.id_of) good depth (λ _. true) comma_item ok xs ts ends
