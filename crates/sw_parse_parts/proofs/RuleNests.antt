-- A nest, as the code opens it, where what stands in it is read by a rule that is that of the nest.
use Rattle.std.proofs.Common.{◌≡◌, ℕ, ◌-◌, List, sym, subst}
use Rattle.std.specs.Prelude.{Ok}
use Rattle.sw_token.specs.Spelling.{Spelled}
use Rattle.sw_grammar_forms.specs.Form.{Terminal}
use Rattle.sw_grammar_forms.specs.Form.Form.{nest}
use Rattle.sw_grammar_forms.specs.Reader.{opening}
use Rattle.sw_grammar_forms.proofs.ItemLoops.{Refuses}
use Rattle.sw_grammar_forms.proofs.NestReads.{nest_read, nest_stops}
use Rattle.sw_grammar.specs.Around.{Around}
use Rattle.sw_grammar.specs.Nests.{Nest, El, Form, shape_of}
use Rattle.sw_grammar.specs.Grammar.{body}
use Rattle.sw_grammar.specs.Reading.{read}

module _ (around : Around) (n : Nest) {rule : Form (shape_of n) (El n)}
    (same : rule ≡ body around.id_of n) (depth : ℕ) {A : Type 0} (t : Terminal A) where
  pub rule_read : (ts us vs : List Spelled) (a : A) (x : El n) → opening depth t ts ≡ Ok (a, us)
      → read around (depth - 1) rule us ≡ Ok (x, vs)
      → read around depth (nest t n) ts ≡ Ok ((a, x), vs)
  rule_read ts us vs a x opened inner =
      nest_read El shape_of (body around.id_of) depth t n ts us vs a x opened
      (subst (λ form. read around (depth - 1) form us ≡ Ok (x, vs)) same inner)

  pub rule_stops : (ts us : List Spelled) (a : A) → opening depth t ts ≡ Ok (a, us)
      → Refuses (read around (depth - 1) rule us) (read around depth (nest t n) ts)
  rule_stops ts us a opened =
      subst (λ form. Refuses (read around (depth - 1) form us) (read around depth (nest t n) ts))
      (sym same) (nest_stops El shape_of (body around.id_of) depth t n ts us a opened)
