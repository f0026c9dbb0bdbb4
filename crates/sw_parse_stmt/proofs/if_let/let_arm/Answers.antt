use Rattle.std.proofs.Common.{codes}
use Rattle.std.proofs.lemmas.Result.{err_from_is_err_and}
use Rattle.sw_grammar_forms.specs.Quotes.{quote}
use Rattle.sw_grammar_forms.proofs.ItemLoops.{refuses}
use Rattle.sw_grammar_forms.proofs.NestReads.{nest_read, nest_stops}
use Rattle.sw_grammar.specs.Grammar.{body}
use Rattle.sw_grammar.specs.Nests.{El, shape_of}
use Rattle.sw_grammar.specs.Nests.Nest.{in_if_let}
use Rattle.sw_parse_parts.specs.Around.{known}
use Rattle.sw_parse_stmt.proofs.if_let.let_arm.Goals as goal

pub returns-in_err-inside : goal.returns-in_err-inside
returns-in_err-inside g c =
    let stop = err_from_is_err_and c.from_residual-in_err-inside.result
    c.from_residual-in_err-inside.ensures.1 in
    rw (stop.1, stop.2) (refuses _ _ _ _ _
    (nest_stops El shape_of (body (known c.args.around.now).id_of) c.args.depth
    (quote (codes "let")) (in_if_let (known c.args.around.now).here) _ _ _
    c.in_ok-at.ensures.opened) c.in_err-inside.ensures)

pub returns : goal.returns
returns g c =
    nest_read El shape_of (body (known c.args.around.now).id_of) c.args.depth
    (quote (codes "let")) (in_if_let (known c.args.around.now).here) _ _ _ _ _
    c.in_ok-at.ensures.opened c.in_ok-inside.ensures
