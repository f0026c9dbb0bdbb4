use Rattle.std.proofs.Common.{sym, ◌∙◌, ap, not, ◌&&◌, codes}
use Rattle.sw_grammar_forms.specs.Relations.{head}
use Rattle.sw_grammar_forms.specs.Sets.{starts, quoted}
use Rattle.sw_parse_parts.proofs.WordSets.{starts-value_word}
use Rattle.sw_parse_parts.proofs.words.sees_value_word.Goals as goal

pub returns-then-sees_word : goal.returns-then-sees_word
returns-then-sees_word c = ap not c.sees.ensures
    ∙ (ap (λ b. b && not (starts (quoted (codes "Task")) (head c.args.tokens.now)))
    (sym c.if-sees_word.true ∙ c.sees_word.ensures) ∙ sym (starts-value_word _))

pub returns-else-sees_word : goal.returns-else-sees_word
returns-else-sees_word c = c.if-sees_word.false
    ∙ (ap (λ b. b && not (starts (quoted (codes "Task")) (head c.args.tokens.now)))
    (sym c.if-sees_word.false ∙ c.sees_word.ensures) ∙ sym (starts-value_word _))
