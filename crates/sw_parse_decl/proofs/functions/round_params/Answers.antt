use Rattle.std.proofs.Common.{codes, refl}
use Rattle.sw_grammar_forms.specs.Quotes.{quote}
use Rattle.sw_grammar.specs.Decls.{params_inside}
use Rattle.sw_grammar.specs.Nests.Nest.{in_params}
use Rattle.sw_parse_decl.proofs.OuterSteps.{in_outer_itself}
use Rattle.sw_parse_decl.proofs.functions.round_params.Goals as goal

pub returns : goal.returns
returns c =
    in_outer_itself c.args.around.now c.outermost.result c.outermost.ensures in_params params_inside
    refl c.args.depth (quote (codes "(")) _ _ _ c.in_ok-open.ensures.opened
    c.in_ok-open.ensures.room _ _ c.params_inside.ensures
