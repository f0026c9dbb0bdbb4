use Rattle.std.proofs.Common.{codes, refl}
use Rattle.sw_grammar_forms.specs.Quotes.{quote}
use Rattle.sw_grammar.specs.Decls.{enum_inside}
use Rattle.sw_grammar.specs.Nests.Nest.{in_enum}
use Rattle.sw_parse_decl.specs.Members.{collected}
use Rattle.sw_parse_decl.proofs.OuterSteps.{in_outer}
use Rattle.sw_parse_decl.proofs.types.enum_body.Goals as goal

pub returns : goal.returns
returns g c =
    in_outer c.args.around.now c.outermost.result c.outermost.ensures in_enum enum_inside
    refl c.args.depth (quote (codes "{")) _ _ _ c.in_ok-open.ensures.opened
    c.in_ok-open.ensures.room collected _ _ c.enum_inside.ensures
