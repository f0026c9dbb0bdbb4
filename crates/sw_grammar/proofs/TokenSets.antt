-- Which tokens the sets of the grammar have.
use Rattle.std.proofs.Common.{◌≡◌, ℕ, true, not, ◌&&◌, List, [], ◌∷◌, refl, ◌∙◌, ap, bytes_eq}
use Rattle.std.proofs.Common.{codes}
use Rattle.std.specs.Prelude.{Some}
use Rattle.std.specs.List.{list_any}
use Rattle.sw_token.specs.declared.Fixity.TheVariants as fixities
use Rattle.sw_token.specs.Kinds.{kind_of}
use Rattle.sw_token.specs.Spelling.{Spelled}
use Rattle.sw_grammar_forms.specs.Outcome.{stands}
use Rattle.sw_grammar_forms.specs.Sets.{has, is_quoted_operator, is_name, is_at, quoted, one_of, word}
use Rattle.sw_grammar_forms.specs.Sets.{attribute}
use Rattle.sw_grammar_forms.proofs.SetLaws.{has-quoted, has-word}
use Rattle.sw_grammar_forms.proofs.KindSets.{has-standing, has-attribute, has-one_of, starts-without}
use Rattle.sw_grammar.specs.Tokens.{infix_op, prefix_op, value_word, plain_word, at_word}
use Rattle.sw_grammar.specs.Tokens.{plain_at_word}

pub has-infix_op : (text : List ℕ) (token : Spelled) → is_quoted_operator text ≡ true
    → has (infix_op text) token
    ≡ (stands fixities.Infix (Some token) && bytes_eq token.text text)
has-infix_op text token is = has-standing fixities.Infix text token is

pub has-prefix_op : (text : List ℕ) (token : Spelled) → is_quoted_operator text ≡ true
    → has (prefix_op text) token
    ≡ (stands fixities.Prefix (Some token) && bytes_eq token.text text)
has-prefix_op text token is = has-standing fixities.Prefix text token is

pub has-value_word : (token : Spelled) → has value_word token
    ≡ (is_name (kind_of token.text) && not (bytes_eq token.text (codes "Task")))
has-value_word token =
    starts-without value_word word (quoted (codes "Task")) (Some token) refl refl refl
    ∙ (ap (λ b. b && not (has (quoted (codes "Task")) token)) (has-word token)
    ∙ ap (λ b. is_name (kind_of token.text) && not b) (has-quoted (codes "Task") token refl))

abbrev other_starts : List (List ℕ)
other_starts = codes "Task" ∷ codes "Optional" ∷ []

pub has-plain_word : (token : Spelled) → has plain_word token
    ≡ (is_name (kind_of token.text)
    && not (list_any (λ text. bytes_eq token.text text) other_starts))
has-plain_word token =
    starts-without plain_word word (one_of other_starts) (Some token) refl refl refl
    ∙ (ap (λ b. b && not (has (one_of other_starts) token)) (has-word token)
    ∙ ap (λ b. is_name (kind_of token.text) && not b) (has-one_of other_starts token refl))

pub has-at_word : (token : Spelled) → has at_word token
    ≡ (is_at (kind_of token.text) && not (bytes_eq token.text (codes "@concurrent")))
has-at_word token =
    starts-without at_word attribute (quoted (codes "@concurrent")) (Some token) refl refl refl
    ∙ (ap (λ b. b && not (has (quoted (codes "@concurrent")) token)) (has-attribute token)
    ∙ ap (λ b. is_at (kind_of token.text) && not b) (has-quoted (codes "@concurrent") token refl))

abbrev marks : List (List ℕ)
marks = codes "@main" ∷ codes "@globalActor" ∷ codes "@concurrent" ∷ []

pub has-plain_at_word : (token : Spelled) → has plain_at_word token
    ≡ (is_at (kind_of token.text) && not (list_any (λ text. bytes_eq token.text text) marks))
has-plain_at_word token =
    starts-without plain_at_word attribute (one_of marks) (Some token) refl refl refl
    ∙ (ap (λ b. b && not (has (one_of marks) token)) (has-attribute token)
    ∙ ap (λ b. is_at (kind_of token.text) && not b) (has-one_of marks token refl))
