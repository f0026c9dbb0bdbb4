-- Which tokens a closure has before its statements doesn't depend on the indices of names.
use Rattle.std.proofs.Common.{ℕ, List, codes, refl}
use Rattle.sw_grammar_forms.specs.Sets.{Set, quoted, word}
use Rattle.sw_grammar_forms.specs.Form.{Shape}
use Rattle.sw_grammar_forms.specs.Form.Form.{done, terminal, nest}
use Rattle.sw_grammar_forms.specs.Quotes.{quote}
use Rattle.sw_grammar_forms.specs.Reader.{Reader}
use Rattle.sw_grammar_forms.specs.Terminals.{◌>>=◌, expect}
use Rattle.sw_grammar_forms.proofs.Alike.{Alike, Any, same_done, same_then, same_either, same_rule}
use Rattle.sw_grammar.specs.Around.{Around, Here, around_in}
use Rattle.sw_grammar.specs.Nests.{Nest, El, Form}
use Rattle.sw_grammar.specs.Nests.Nest.{in_captures, in_closure_params, in_empty}
use Rattle.sw_grammar.specs.Tokens.{name_in, at_in, at_word}
use Rattle.sw_grammar.specs.Closures.{Header, Signature}
use Rattle.sw_grammar.specs.Closures.{captured, captured_words, captures, captures_if}
use Rattle.sw_grammar.specs.Closures.{closure_param, closure_params, result_if, signature}
use Rattle.sw_grammar.specs.Closures.{signature_if, header, task_signature, task_signature_if}
use Rattle.sw_grammar.specs.Closures.{task_header}
use Rattle.sw_grammar.proofs.TypesAlike.{NestAlike, OfBody, SameForm, same_quote, same_name}
use Rattle.sw_grammar.proofs.TypesAlike.{same_at, same_new_name, same_some_of, same_list_of, same_opened}
use Rattle.sw_grammar.proofs.TypesAlike.{ResultsAlike, same_skip, same_type, same_written_type}

-- the same word is wanted of a `return`
abbrev SignaturesAlike : Signature → Signature → Type 0
SignaturesAlike a b = ResultsAlike a.1 b.1

abbrev pub HeadersAlike : Header → Header → Type 0
HeadersAlike a b = ResultsAlike a.result b.result

module _ (f g : List ℕ → ℕ) (here : Here) (depth : ℕ) (F G : (n : Nest) → Reader (El n)) where
  abbrev one : Around
  one = around_in f here

  abbrev two : Around
  two = around_in g here

  abbrev Alike-form : {s : Shape} {A : Type 0} → (A → A → Type 0) → Form s A → Form s A → Type 0
  Alike-form P p q = SameForm depth F G P p q

  text_alike : (text : List ℕ) → Alike-form Any (expect text) (expect text)
  text_alike text = same_quote f g here depth F G text

  word_alike : Alike-form Any (terminal (name_in one word (codes "print")))
      (terminal (name_in two word (codes "print")))
  word_alike = same_name f g here depth F G word (codes "print")

  mark_alike : (set : Set) → Alike-form Any (terminal (at_in one set (codes "@Sendable")))
      (terminal (at_in two set (codes "@Sendable")))
  mark_alike set = same_at f g here depth F G set (codes "@Sendable")

  same_captured : Alike-form Any (captured one) (captured two)
  unfolding captured
  same_captured = same_rule (same_then word_alike (λ _ _ _. same_done tt))

  pub same_captured_words : Alike-form Any (captured_words one) (captured_words two)
  unfolding captured_words
  same_captured_words =
      same_rule (same_some_of f g here depth F G (captured one) (captured two) same_captured (codes "]"))

  module _ (nests : (n : Nest) → OfBody n → Alike (NestAlike n) (F n) (G n)) where
    opened_alike : (text : List ℕ) (n : Nest) → OfBody n
        → Alike-form (λ a b. NestAlike n a.1 b.1) (nest (quote text) n) (nest (quote text) n)
    opened_alike text n of_body = same_opened f g here depth F G nests text n of_body

    same_captures : Alike-form Any (captures one) (captures two)
    unfolding captures
    same_captures =
        same_rule (same_then (opened_alike (codes "[") in_captures tt) (λ _ _ _. same_done tt))

    same_captures_if : Alike-form Any (captures_if one) (captures_if two)
    unfolding captures_if
    same_captures_if = same_rule (same_either same_captures (same_done tt))

    same_closure_param : Alike-form Any (closure_param one) (closure_param two)
    unfolding closure_param
    same_closure_param =
        same_rule (same_then (same_new_name f g here depth F G) (λ _ _ _.
        same_then (text_alike (codes ":")) (λ _ _ _. same_then (same_type f g here depth F G nests) (λ _ _ _. same_done tt))))

    pub same_closure_params : Alike-form Any (closure_params one) (closure_params two)
    unfolding closure_params
    same_closure_params =
        same_rule (same_list_of f g here depth F G (closure_param one) (closure_param two)
        same_closure_param (codes ")"))

    same_result_if : Alike-form ResultsAlike (result_if one) (result_if two)
    unfolding result_if
    same_result_if =
        same_rule (same_either (same_then (text_alike (codes "->")) (λ _ _ _.
        same_then (same_written_type f g here depth F G nests) (λ _ _ is. same_done is)))
        (same_done refl))

    same_signature : Alike-form SignaturesAlike (signature one) (signature two)
    unfolding signature
    same_signature =
        same_rule (same_then (opened_alike (codes "(") (in_closure_params here) tt) (λ _ _ _.
        same_then same_result_if (λ _ _ is. same_done is)))

    same_signature_if : Alike-form SignaturesAlike (signature_if one) (signature_if two)
    unfolding signature_if
    same_signature_if = same_rule (same_either same_signature (same_done refl))

    -- `in` after a header
    same_in : {a b : Header} → HeadersAlike a b → Alike-form HeadersAlike
        (expect (codes "in") >>= λ _. done a) (expect (codes "in") >>= λ _. done b)
    same_in is = same_then (text_alike (codes "in")) (λ _ _ _. same_done is)

    pub same_header : Alike-form HeadersAlike (header one) (header two)
    unfolding header
    same_header =
        same_rule (same_either (same_then (mark_alike (quoted (codes "@Sendable"))) (λ _ _ _.
        same_then same_captures_if (λ _ _ _. same_then same_signature_if (λ _ _ is. same_in is))))
        (same_either (same_then same_captures (λ _ _ _. same_then same_signature_if
        (λ _ _ is. same_in is)))
        (same_either (same_then same_signature (λ _ _ is. same_in is)) (same_done refl))))

    same_task_signature : Alike-form SignaturesAlike (task_signature one) (task_signature two)
    unfolding task_signature
    same_task_signature =
        same_rule (same_then (opened_alike (codes "(") in_empty tt) (λ _ _ _.
        same_then (same_skip f g here depth F G (codes "async")) (λ _ _ _.
        same_then same_result_if (λ _ _ is. same_done is))))

    same_task_signature_if :
        Alike-form SignaturesAlike (task_signature_if one) (task_signature_if two)
    unfolding task_signature_if
    same_task_signature_if = same_rule (same_either same_task_signature (same_done refl))

    pub same_task_header : Alike-form HeadersAlike (task_header one) (task_header two)
    unfolding task_header
    same_task_header =
        same_rule (same_either (same_then (mark_alike at_word) (λ _ _ _.
        same_then same_captures_if (λ _ _ _. same_then same_task_signature_if
        (λ _ _ is. same_in is))))
        (same_either (same_then same_captures (λ _ _ _. same_then same_task_signature_if
        (λ _ _ is. same_in is)))
        (same_either (same_then same_task_signature (λ _ _ is. same_in is)) (same_done refl))))
