use Rattle.std.proofs.Common.{sym, subst}
use Rattle.std.specs.Prelude.{Ok}
use Rattle.std.proofs.lemmas.Result.{err_from_is_err_and}
use Rattle.sw_grammar_forms.specs.Outcome.{Gives}
use Rattle.sw_grammar_forms.specs.Reader.{and_then}
use Rattle.sw_grammar_forms.proofs.ItemLoops.{refuses}
use Rattle.sw_parse_parts.specs.Around.{known}
use Rattle.sw_parse_expr.specs.Blocks.{items_of}
use Rattle.sw_parse_expr.proofs.BlockSteps.{block_read, stops_at_first}
use Rattle.sw_parse_expr.proofs.PartLoops.{made_stops}
use Rattle.sw_parse_expr.proofs.blocks.block_items.Goals as goal

pub returns-in_err-first : goal.returns-in_err-first
returns-in_err-first g c =
    let stop = err_from_is_err_and c.from_residual.result c.from_residual.ensures.1 in
    rw (stop.1, stop.2) (refuses _ _ _ _ _
    (made_stops items_of (stops_at_first (known c.args.around.now) c.args.depth c.args.tokens.now))
    c.in_err-first.ensures)

pub returns : goal.returns
returns g c =
    subst (λ answer. Gives (and_then answer (λ read. Ok (items_of read.0, read.1)))
    c.async_parts.result c.async_parts.new.tokens)
    (sym (block_read (known c.args.around.now) c.args.depth c.args.tokens.now _ _
    c.in_ok-first.ensures))
    c.async_parts.ensures
