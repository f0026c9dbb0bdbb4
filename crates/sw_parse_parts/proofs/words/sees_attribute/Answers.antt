use Rattle.std.proofs.Common.{sym, ◌∙◌, ap, not, ◌&&◌, codes}
use Rattle.sw_grammar_forms.specs.Relations.{head}
use Rattle.sw_grammar_forms.specs.Sets.{starts, quoted}
use Rattle.sw_parse_parts.proofs.WordSets.{starts-at_word}
use Rattle.sw_parse_parts.proofs.words.sees_attribute.Goals as goal

pub returns-then-sees_attribute : goal.returns-then-sees_attribute
returns-then-sees_attribute c = ap not c.sees.ensures
    ∙ (ap (λ b. b && not (starts (quoted (codes "@concurrent")) (head c.args.tokens.now)))
    (sym c.if-sees_attribute.true ∙ c.sees_attribute.ensures) ∙ sym (starts-at_word _))

pub returns-else-sees_attribute : goal.returns-else-sees_attribute
returns-else-sees_attribute c = c.if-sees_attribute.false
    ∙ (ap (λ b. b && not (starts (quoted (codes "@concurrent")) (head c.args.tokens.now)))
    (sym c.if-sees_attribute.false ∙ c.sees_attribute.ensures) ∙ sym (starts-at_word _))
