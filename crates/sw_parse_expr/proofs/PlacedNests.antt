-- Values made of what stands in a nest and of where it was opened.
use Rattle.std.proofs.Common.{◌≡◌, ℕ, ◌-◌, List, refl, sym, ◌∙◌, ap, subst}
use Rattle.std.specs.Prelude.{Result, Ok, Err}
use Rattle.sw_token.specs.Spelling.{Spelled}
use Rattle.sw_grammar_forms.specs.Form.{Terminal}
use Rattle.sw_grammar_forms.specs.Form.Form.{nest}
use Rattle.sw_grammar_forms.specs.Outcome.{Gives}
use Rattle.sw_grammar_forms.specs.Reader.{Answer, and_then, then_read, pure, opening}
use Rattle.sw_grammar_forms.specs.declared.stop.Stop.{Stop}
use Rattle.sw_grammar_forms.proofs.NestReads.{nest_reads}
use Rattle.sw_grammar_forms.proofs.ReaderLaws.{bind_step}
use Rattle.sw_grammar.specs.Around.{Around}
use Rattle.sw_grammar.specs.Nests.{Nest, El, shape_of}
use Rattle.sw_grammar.specs.Grammar.{body}
use Rattle.sw_grammar.specs.Reading.{read}
use Rattle.sw_parse_parts.specs.Nested.{made}

module _ (around : Around) (n : Nest) (depth : ℕ) (t : Terminal ℕ) (ts us : List Spelled)
    (at : ℕ) (opened : opening depth t ts ≡ Ok (at, us)) where
  -- the reader of a nest that is open is that of its inside
  pub nest_opened : read around depth (nest t n) ts
      ≡ then_read (read around (depth - 1) (body around.id_of n))
      (λ x. pure {A = ℕ × El n} (at, x)) us
  nest_opened =
      nest_reads El shape_of (body around.id_of) depth t n ts
      ∙ bind_step (opening depth t ts) _ (at, us) _ opened refl

  pub placed : {A : Type 0} (f : ℕ → El n → A) (result : Result A Stop) (left : List Spelled)
      → Gives (made (f at) (read around (depth - 1) (body around.id_of n)) us) result left
      → Gives (then_read (read around depth (nest t n)) (λ x. pure (f x.0 x.1)) ts) result left
  placed {A = A} f result left gives = subst (λ a. Gives a result left) (sym same) gives
    where
      by : (answer : Answer (El n))
          → and_then {X = (ℕ × El n) × List Spelled} {Y = A × List Spelled}
          (and_then {X = El n × List Spelled} {Y = (ℕ × El n) × List Spelled} answer
          (λ x. Ok ((at, x.0), x.1))) (λ x. Ok (f x.0.0 x.0.1, x.1))
          ≡ and_then {X = El n × List Spelled} {Y = A × List Spelled} answer
          (λ x. Ok (f at x.0, x.1))
      by (Ok x) = refl
      by (Err fault) = refl

      same : then_read (read around depth (nest t n)) (λ x. pure (f x.0 x.1)) ts
          ≡ made (f at) (read around (depth - 1) (body around.id_of n)) us
      same = ap (λ answer. and_then {X = (ℕ × El n) × List Spelled} {Y = A × List Spelled} answer
          (λ x. Ok (f x.0.0 x.0.1, x.1))) nest_opened
          ∙ by (read around (depth - 1) (body around.id_of n) us)
