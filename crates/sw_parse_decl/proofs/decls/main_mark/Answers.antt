use Rattle.std.proofs.Common.{codes, refl, sym, ◌∙◌}
use Rattle.sw_grammar_forms.specs.Sets.{quoted}
use Rattle.sw_parse_parts.specs.Around.{known}
use Rattle.sw_parse_decl.proofs.MarkSteps.{mark_gives}
use Rattle.sw_parse_decl.proofs.decls.main_mark.Goals as goal

pub returns : goal.returns
returns c =
    mark_gives (known c.args.around.now) (quoted (codes "@main")) (codes "@main") c.args.tokens.now
    _ _ refl
    (sym c.sees.ensures ∙ c.if-not-sees.false) c.attribute.ensures
