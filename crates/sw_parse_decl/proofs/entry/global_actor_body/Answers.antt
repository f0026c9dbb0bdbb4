use Rattle.std.proofs.Common.{codes, refl}
use Rattle.sw_grammar_forms.specs.Quotes.{quote}
use Rattle.sw_grammar.specs.Decls.{global_actor_inside}
use Rattle.sw_grammar.specs.Nests.Nest.{in_global_actor}
use Rattle.sw_parse_decl.proofs.OuterSteps.{in_outer_itself}
use Rattle.sw_parse_decl.proofs.entry.global_actor_body.Goals as goal

pub returns : goal.returns
returns c =
    in_outer_itself c.args.around.now c.outermost.result c.outermost.ensures in_global_actor global_actor_inside
    refl c.args.depth (quote (codes "{")) _ _ _ c.in_ok-open.ensures.opened
    c.in_ok-open.ensures.room _ _ c.global_actor_inside.ensures
