-- Readers of what stands in nests, and of values made of what is read.
use Rattle.std.specs.Prelude.{ℕ}
use Rattle.sw_grammar_forms.specs.Form.{Terminal}
use Rattle.sw_grammar_forms.specs.Form.Form.{nest}
use Rattle.sw_grammar_forms.specs.Reader.{Reader, then_read, pure}
use Rattle.sw_grammar.specs.Around.{Around}
use Rattle.sw_grammar.specs.Nests.{Nest, El}
use Rattle.sw_grammar.specs.Reading.{read}

-- the same reader, with a value made of the one that it reads
abbrev pub made : {A B : Type 0} → (A → B) → Reader A → Reader B
made f reader = then_read reader (λ a. pure (f a))

-- what stands in a nest, with the token that opens it
abbrev pub nested : Around → ℕ → {A : Type 0} → Terminal A → (n : Nest) → Reader (El n)
nested around depth t n = made (λ x. x.1) (read around depth (nest t n))
