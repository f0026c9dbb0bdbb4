use Rattle.std.proofs.Common.{codes, refl, sym, ◌∙◌}
use Rattle.sw_grammar.specs.Tokens.{plain_at_word}
use Rattle.sw_parse_parts.specs.Around.{known}
use Rattle.sw_parse_decl.proofs.MarkSteps.{mark_gives}
use Rattle.sw_parse_decl.proofs.decls.plain_mark.Goals as goal

pub returns : goal.returns
returns c =
    mark_gives (known c.args.around.now) (plain_at_word) (codes "@Sendable") c.args.tokens.now _ _
    refl
    (sym c.sees_plain_mark.ensures ∙ c.if-not-sees_plain_mark.false) c.attribute.ensures
