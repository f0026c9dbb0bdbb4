-- Attributes of some words, taken as attributes of any.
use Rattle.std.proofs.Common.{◌≡◌, ℕ, true, List, [], ◌∷◌, codes, sym, ◌∙◌, ap, subst}
use Rattle.std.specs.Prelude.{Result}
use Rattle.sw_token.specs.Spelling.{Spelled}
use Rattle.sw_grammar_forms.specs.Outcome.{Gives}
use Rattle.sw_grammar_forms.specs.Reader.{next, take_if}
use Rattle.sw_grammar_forms.specs.Relations.{head}
use Rattle.sw_grammar_forms.specs.Sets.{Set, starts, within}
use Rattle.sw_grammar_forms.specs.declared.stop.Stop.{Stop}
use Rattle.sw_grammar_forms.proofs.SetLemmas.{has-within}
use Rattle.sw_tree.specs.declared.name.Name.{Name}
use Rattle.sw_grammar.specs.Around.{Around}
use Rattle.sw_grammar.specs.Tokens.{at_in, at_name, at_word}

at_word_too : (set : Set) (ts : List Spelled) → within set at_word ≡ true
    → starts set (head ts) ≡ true → starts at_word (head ts) ≡ true
at_word_too set [] part h = absurd (cc)
at_word_too set (token ∷ ts) part h = has-within set at_word token part h

module _ (around : Around) where
  same_next : (set other : Set) (text sample : List ℕ) (ts : List Spelled)
      → starts set (head ts) ≡ true → starts other (head ts) ≡ true
      → next (at_in around other sample) ts ≡ next (at_in around set text) ts
  same_next set other text sample [] h k = absurd (cc)
  same_next set other text sample (token ∷ ts) h k =
      ap (λ b. take_if b (at_name around.id_of token) ts) (k ∙ sym h)

  -- what takes any attribute takes this one
  pub mark_gives : (set : Set) (text : List ℕ) (ts : List Spelled) (result : Result Name Stop)
      (left : List Spelled) → within set at_word ≡ true → starts set (head ts) ≡ true
      → Gives (next (at_in around at_word (codes "@Sendable")) ts) result left
      → Gives (next (at_in around set text) ts) result left
  mark_gives set text ts result left part is gives =
      subst (λ answer. Gives answer result left)
      (same_next set at_word text (codes "@Sendable") ts is
      (at_word_too set ts part is)) gives
