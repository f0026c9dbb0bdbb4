use Rattle.std.proofs.Common.{codes, refl}
use Rattle.sw_grammar_forms.specs.Quotes.{quote}
use Rattle.sw_grammar.specs.Decls.{isolation_inside}
use Rattle.sw_grammar.specs.Nests.Nest.{in_isolation}
use Rattle.sw_parse_decl.proofs.OuterSteps.{in_outer_itself}
use Rattle.sw_parse_decl.proofs.isolations.round_isolation.Goals as goal

pub returns : goal.returns
returns c =
    in_outer_itself c.args.around.now c.outermost.result c.outermost.ensures in_isolation isolation_inside
    refl c.args.depth (quote (codes "(")) _ _ _ c.in_ok-open.ensures.opened
    c.in_ok-open.ensures.room _ _ c.isolation_inside.ensures
