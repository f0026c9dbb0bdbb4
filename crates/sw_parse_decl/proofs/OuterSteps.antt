-- What stands in a nest that knows nothing of what stands around it, as the code reads it.
use Rattle.std.proofs.Common.{◌≡◌, ℕ, ◌-◌, ◌<◌, List, sym, subst}
use Rattle.std.specs.Prelude.{Result, Ok}
use Rattle.sw_token.specs.Spelling.{Spelled}
use Rattle.sw_grammar_forms.specs.Form.{Terminal}
use Rattle.sw_grammar_forms.specs.Outcome.{Gives}
use Rattle.sw_grammar_forms.specs.Reader.{opening}
use Rattle.sw_grammar_forms.specs.declared.stop.Stop.{Stop}
use Rattle.sw_grammar.specs.Around.{Around, index_in, outermost}
use Rattle.sw_grammar.specs.Nests.{Nest, El, shape_of, Form}
use Rattle.sw_grammar.specs.Grammar.{body}
use Rattle.sw_grammar.specs.Reading.{read}
use Rattle.sw_parse_parts.specs.Around.{Surroundings, known, nothing_around}
use Rattle.sw_parse_parts.specs.Nested.{made, nested}
use Rattle.sw_parse_parts.proofs.NestSteps.{in_nest, in_nest_itself}

module _ (around outer : Surroundings) (is : outer ≡ nothing_around around.texts) (n : Nest)
    (inside : (a : Around) → Form (shape_of n) (El n))
    (same : body (index_in around.texts) n ≡ inside (outermost (index_in around.texts)))
    (depth : ℕ) (t : Terminal ℕ) (ts us : List Spelled) (at : ℕ)
    (opened : opening depth t ts ≡ Ok (at, us)) (some : 0 < depth) where
  -- a value made of it
  pub in_outer : {A : Type 0} (f : El n → A) (result : Result A Stop) (left : List Spelled)
      → Gives (made f (read (known outer) (depth - 1) (inside (known outer))) us) result left
      → Gives (made f (nested (known around) depth t n) ts) result left
  in_outer f result left gives =
      in_nest (known around) n f depth t ts us at result left opened some
      (subst (λ form. Gives (made f (read (known around) (depth - 1) form) us) result left)
      (sym same)
      (subst (λ o. Gives (made f (read (known o) (depth - 1) (inside (known o))) us) result left)
      is gives))

  -- and itself
  pub in_outer_itself : (result : Result (El n) Stop) (left : List Spelled)
      → Gives (read (known outer) (depth - 1) (inside (known outer)) us) result left
      → Gives (nested (known around) depth t n ts) result left
  in_outer_itself result left gives =
      in_nest_itself (known around) n depth t ts us at result left opened some
      (subst (λ form. Gives (read (known around) (depth - 1) form us) result left) (sym same)
      (subst (λ o. Gives (read (known o) (depth - 1) (inside (known o)) us) result left) is gives))
