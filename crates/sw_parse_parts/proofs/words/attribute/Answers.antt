use Rattle.std.proofs.Common.{sym, ◌∙◌}
use Rattle.sw_parse_parts.proofs.WordSets.{at_word-attribute}
use Rattle.sw_parse_parts.proofs.words.attribute.Goals as goal

pub take_attribute-requires : goal.take_attribute-requires
take_attribute-requires c =
    at_word-attribute _ (sym c.sees_attribute.ensures ∙ c.if-not-sees_attribute.false)
