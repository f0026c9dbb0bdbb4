use Rattle.std.proofs.Common.{true, ap, subst}
use Rattle.sw_grammar_forms.specs.Fronts.{front}
use Rattle.sw_grammar_forms.specs.Outcome.{Gives}
use Rattle.sw_grammar.specs.Exprs as exprs
use Rattle.sw_grammar.specs.Reading.{read}
use Rattle.sw_grammar.specs.Tokens.{expr_ext}
use Rattle.sw_parse_parts.specs.Around.{known}
use Rattle.sw_parse_body.proofs.phrases.expr.Goals as goal

pub returns : goal.returns
returns c =
    subst (λ around. Gives (front expr_ext (read around c.args.depth (exprs.expr around true)) c.args.tokens.now)
    c.expr_in.result c.expr_in.new.tokens) (ap known c.new-around.ensures) c.expr_in.ensures
