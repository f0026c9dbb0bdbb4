use Rattle.std.proofs.Common.{sym, ◌∙◌}
use Rattle.sw_parse_parts.proofs.WordSets.{sendable-attribute}
use Rattle.sw_parse_parts.proofs.words.sendable.Goals as goal

pub take_attribute-requires : goal.take_attribute-requires
take_attribute-requires c =
    sendable-attribute _ (sym c.sees.ensures ∙ c.if-not-sees.false)
