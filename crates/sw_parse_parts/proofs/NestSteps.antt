-- A nest: what its reader answers is what the reader of its inside answers, one nest further in.
use Rattle.std.proofs.Common.{◌≡◌, ℕ, zero, suc, ◌-◌, ◌<◌, List, refl, sym, ◌∙◌, ap, subst, arith}
use Rattle.std.specs.Prelude.{Result, Ok, Err}
use Rattle.sw_token.specs.Spelling.{Spelled}
use Rattle.sw_grammar_forms.specs.Form.{Terminal}
use Rattle.sw_grammar_forms.specs.Form.Form.{nest}
use Rattle.sw_grammar_forms.specs.Outcome.{Gives}
use Rattle.sw_grammar_forms.specs.Reader.{Answer, and_then, then_read, pure, opening}
use Rattle.sw_grammar_forms.specs.Spells.{read_inside}
use Rattle.sw_grammar_forms.specs.declared.stop.Stop.{Stop}
use Rattle.sw_grammar_forms.proofs.ReaderLaws.{bind_step}
use Rattle.sw_grammar.specs.Around.{Around}
use Rattle.sw_grammar.specs.Nests.{Nest, El, shape_of}
use Rattle.sw_grammar.specs.Grammar.{body}
use Rattle.sw_grammar.specs.Reading.{read}
use Rattle.sw_parse_parts.specs.Nested.{made, nested}

module _ (around : Around) where
  one_in : (depth : ℕ) (n : Nest) → 0 < depth
      → read_inside El shape_of (body around.id_of) depth n
      ≡ read around (depth - 1) (body around.id_of n)
  one_in zero n some = absurd (omega arith)
  one_in (suc depth) n some =
      let same : depth ≡ suc depth - 1 = omega arith in
      ap (λ d. read around d (body around.id_of n)) same

  -- a value made of what stands in a nest that is open
  pub in_nest : {A : Type 0} (n : Nest) (f : El n → A) (depth : ℕ) (t : Terminal ℕ) (ts us : List
      Spelled) (at : ℕ) (result : Result A Stop) (left : List Spelled)
      → opening depth t ts ≡ Ok (at, us) → 0 < depth
      → Gives (made f (read around (depth - 1) (body around.id_of n)) us) result left
      → Gives (made f (nested around depth t n) ts) result left
  in_nest {A = A} n f depth t ts us at result left opened some gives =
      subst (λ a. Gives a result left) (sym same) gives
    where
      opens : read around depth (nest t n) ts
          ≡ then_read (read around (depth - 1) (body around.id_of n))
          (λ x. pure {A = ℕ × El n} (at, x)) us
      opens = bind_step (opening depth t ts) _ (at, us) _ opened
          (ap (λ reader. then_read reader (λ x. pure {A = ℕ × El n} (at, x)) us)
          (one_in depth n some))

      by : (answer : Answer (El n))
          → and_then {X = El n × List Spelled} {Y = A × List Spelled}
          (and_then {X = (ℕ × El n) × List Spelled} {Y = El n × List Spelled}
          (and_then {X = El n × List Spelled} {Y = (ℕ × El n) × List Spelled} answer
          (λ x. Ok ((at, x.0), x.1))) (λ x. Ok (x.0.1, x.1))) (λ x. Ok (f x.0, x.1))
          ≡ and_then {X = El n × List Spelled} {Y = A × List Spelled} answer
          (λ x. Ok (f x.0, x.1))
      by (Ok x) = refl
      by (Err fault) = refl

      same : made f (nested around depth t n) ts
          ≡ made f (read around (depth - 1) (body around.id_of n)) us
      same = ap (λ answer. and_then {X = El n × List Spelled} {Y = A × List Spelled}
          (and_then {X = (ℕ × El n) × List Spelled} {Y = El n × List Spelled} answer
          (λ x. Ok (x.0.1, x.1))) (λ x. Ok (f x.0, x.1))) opens
          ∙ by (read around (depth - 1) (body around.id_of n) us)

  -- what stands in a nest that is open
  pub in_nest_itself : (n : Nest) (depth : ℕ) (t : Terminal ℕ) (ts us : List Spelled) (at : ℕ)
      (result : Result (El n) Stop) (left : List Spelled)
      → opening depth t ts ≡ Ok (at, us) → 0 < depth
      → Gives (read around (depth - 1) (body around.id_of n) us) result left
      → Gives (nested around depth t n ts) result left
  in_nest_itself n depth t ts us at result left opened some gives =
      subst (λ a. Gives a result left) (plain (nested around depth t n ts))
      (in_nest n (λ x. x) depth t ts us at result left opened some
      (subst (λ a. Gives a result left)
      (sym (plain (read around (depth - 1) (body around.id_of n) us))) gives))
    where
      plain : (answer : Answer (El n)) → and_then {X = El n × List Spelled} {Y = El n × List
          Spelled}
          answer (λ x. Ok (x.0, x.1)) ≡ answer
      plain (Ok x) = refl
      plain (Err fault) = refl
