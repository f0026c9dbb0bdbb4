use Rattle.std.proofs.Common.{codes, refl}
use Rattle.sw_grammar_forms.specs.Quotes.{quote}
use Rattle.sw_grammar.specs.Decls.{class_inside}
use Rattle.sw_grammar.specs.Nests.Nest.{in_class}
use Rattle.sw_parse_decl.specs.Members.{collected}
use Rattle.sw_parse_decl.proofs.OuterSteps.{in_outer}
use Rattle.sw_parse_decl.proofs.types.class_body.Goals as goal

pub returns : goal.returns
returns g c =
    in_outer c.args.around.now c.outermost.result c.outermost.ensures in_class class_inside
    refl c.args.depth (quote (codes "{")) _ _ _ c.in_ok-open.ensures.opened
    c.in_ok-open.ensures.room collected _ _ c.class_inside.ensures
