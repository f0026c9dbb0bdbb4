use Rattle.std.proofs.Common.{subst}
use Rattle.sw_grammar_forms.specs.Outcome.{Gives}
use Rattle.sw_grammar.specs.Reading.{read}
use Rattle.sw_grammar.specs.Stmts.{async_let}
use Rattle.sw_parse_parts.specs.Around.{known}
use Rattle.sw_parse_expr.proofs.blocks.next_let.Goals as goal

pub returns : goal.returns
returns g c =
    subst (λ here. Gives (read (known here) c.args.depth (async_let (known here)) c.args.tokens.now)
    c.async_let.result c.async_let.new.tokens) c.after-here.ensures c.async_let.ensures
