use Rattle.std.proofs.Common.{◌∙◌, ap, subst}
use Rattle.sw_grammar_forms.specs.Outcome.{Gives}
use Rattle.sw_grammar.specs.Around.{returning}
use Rattle.sw_grammar.specs.Reading.{read}
use Rattle.sw_grammar.specs.Stmts.{block}
use Rattle.sw_parse_parts.specs.Around.{known, with_here}
use Rattle.sw_parse_decl.proofs.functions.func_body.Goals as goal

pub returns : goal.returns
returns g c =
    subst (λ around. Gives (read (known around) c.args.depth (block (known around))
    c.args.tokens.now) c.block.result c.block.new.tokens)
    (c.returning.ensures ∙ ap (λ wanted. with_here c.args.around.now
    (returning (known c.args.around.now) wanted).here) c.wanted_of.ensures)
    c.block.ensures
