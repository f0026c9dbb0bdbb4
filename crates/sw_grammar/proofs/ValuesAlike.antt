-- Which tokens a value has where it may be an optional doesn't depend on the indices of names.
use Rattle.std.proofs.Common.{◌≡◌, ℕ, true, Option, Some, None, List, codes, refl, subst}
use Rattle.sw_grammar_forms.specs.Form.{Shape}
use Rattle.sw_grammar_forms.specs.Form.Form.{terminal}
use Rattle.sw_grammar_forms.specs.Reader.{Reader}
use Rattle.sw_grammar_forms.specs.Terminals.{expect}
use Rattle.sw_grammar_forms.proofs.Alike.{Alike, Any, same_done, same_then, same_either}
use Rattle.sw_grammar_forms.proofs.Alike.{same_rule}
use Rattle.sw_grammar.specs.Around.{Around, Here, around_in}
use Rattle.sw_grammar.specs.Nests.{Nest, El, Form}
use Rattle.sw_grammar.specs.Nests.Nest.{in_round}
use Rattle.sw_grammar.specs.Tokens.{plain_word, name_in}
use Rattle.sw_grammar.specs.Values.{Given, after_optional, optional_value, value_in}
use Rattle.sw_grammar.proofs.TypesAlike.{NestAlike, OfBody, SameForm, same_quote, same_name}
use Rattle.sw_grammar.proofs.TypesAlike.{same_opened}
use Rattle.sw_grammar.proofs.ExprsAlike.{same_members, same_after_word, same_after_any}
use Rattle.sw_grammar.proofs.ExprsAlike.{same_after_task, same_more_operands, same_other_expr}
use Rattle.sw_grammar.proofs.ExprsAlike.{same_expr}

-- both are expressions as any other, or none is
abbrev pub GivenAlike : Given → Given → Type 0
GivenAlike a b = a.is_plain ≡ b.is_plain

module _ (f g : List ℕ → ℕ) (here : Here) (depth : ℕ) (F G : (n : Nest) → Reader (El n))
    (nests : (n : Nest) → OfBody n → Alike (NestAlike n) (F n) (G n)) where
  abbrev one : Around
  one = around_in f here

  abbrev two : Around
  two = around_in g here

  abbrev Alike-form : {s : Shape} {A : Type 0} → (A → A → Type 0) → Form s A → Form s A → Type 0
  Alike-form P p q = SameForm depth F G P p q

  text_alike : (text : List ℕ) → Alike-form Any (expect text) (expect text)
  text_alike text = same_quote f g here depth F G text

  word_alike : Alike-form Any (terminal (name_in one plain_word (codes "print")))
      (terminal (name_in two plain_word (codes "print")))
  word_alike = same_name f g here depth F G plain_word (codes "print")

  same_after_optional : (wanted : List ℕ) (at other : ℕ)
      → Alike-form GivenAlike (after_optional one wanted at) (after_optional two wanted other)
  unfolding after_optional
  same_after_optional wanted at other =
      same_rule (same_either
      (same_then (same_opened f g here depth F G nests (codes "(") (in_round here) tt)
      (λ _ _ _. same_done refl))
      (same_then (same_members f g here depth F G nests) (λ _ _ _.
      same_then (same_more_operands f g here depth F G nests true _ _)
      (λ _ _ _. same_done refl))))

  same_optional_value : (wanted : List ℕ)
      → Alike-form GivenAlike (optional_value one wanted) (optional_value two wanted)
  unfolding optional_value
  same_optional_value wanted =
      same_rule (same_either (same_then (text_alike (codes "nil")) (λ _ _ _. same_done refl))
      (same_either (same_then (text_alike (codes "Optional")) (λ at other _.
      same_after_optional wanted at other))
      (same_either (same_then word_alike (λ name other _.
      same_then (same_after_word f g here depth F G nests name other) (λ a b _.
      same_then (same_more_operands f g here depth F G nests true a b)
      (λ _ _ _. same_done refl))))
      (same_either (same_then (text_alike (codes "Task")) (λ at other _.
      same_then (same_after_task f g here depth F G nests true at other) (λ a b _.
      same_then (same_after_any f g here depth F G nests a b) (λ c d _.
      same_then (same_more_operands f g here depth F G nests true c d)
      (λ _ _ _. same_done refl)))))
      (same_then (same_other_expr f g here depth F G nests) (λ _ _ _. same_done refl))))))

  same_wanted : (wanted : Option (List ℕ))
      → Alike-form GivenAlike (value_in one wanted) (value_in two wanted)
  unfolding value_in
  same_wanted None =
      same_rule (same_then (same_expr f g here depth F G nests true) (λ _ _ _. same_done refl))
  same_wanted (Some wanted) = same_rule (same_optional_value wanted)

  pub same_value_in : (v w : Option (List ℕ)) → v ≡ w
      → Alike-form GivenAlike (value_in one v) (value_in two w)
  same_value_in v w same =
      subst (λ x. Alike-form GivenAlike (value_in one v) (value_in two x)) same (same_wanted v)
