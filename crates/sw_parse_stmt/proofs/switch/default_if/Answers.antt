use Rattle.std.proofs.Common.{sym, ◌∙◌, subst}
use Rattle.sw_grammar_forms.specs.Outcome.{Gives}
use Rattle.sw_parse_parts.specs.Around.{known}
use Rattle.sw_parse_stmt.proofs.ArmSteps.{default_read}
use Rattle.sw_parse_stmt.proofs.switch.default_if.Goals as goal

pub returns : goal.returns
returns g c =
    subst (λ answer. Gives answer c.default_part.result c.default_part.new.tokens)
    (default_read (known c.args.around.now) c.args.depth c.args.tokens.now _ c.args.ended _
    (sym c.sees.ensures ∙ c.if-not-sees.false) c.in_ok-start.ensures) c.default_part.ensures
