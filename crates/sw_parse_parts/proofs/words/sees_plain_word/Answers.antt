use Rattle.std.proofs.Common.{sym, ◌∙◌, ap, not, ◌&&◌, codes}
use Rattle.sw_grammar_forms.specs.Relations.{head}
use Rattle.sw_grammar_forms.specs.Sets.{starts, quoted}
use Rattle.sw_parse_parts.proofs.WordSets.{starts-plain_word}
use Rattle.sw_parse_parts.proofs.words.sees_plain_word.Goals as goal

pub returns-then-sees_value_word : goal.returns-then-sees_value_word
returns-then-sees_value_word c = ap not c.sees.ensures
    ∙ (ap (λ b. b && not (starts (quoted (codes "Optional")) (head c.args.tokens.now)))
    (sym c.if-sees_value_word.true ∙ c.sees_value_word.ensures) ∙ sym (starts-plain_word _))

pub returns-else-sees_value_word : goal.returns-else-sees_value_word
returns-else-sees_value_word c = c.if-sees_value_word.false
    ∙ (ap (λ b. b && not (starts (quoted (codes "Optional")) (head c.args.tokens.now)))
    (sym c.if-sees_value_word.false ∙ c.sees_value_word.ensures) ∙ sym (starts-plain_word _))
