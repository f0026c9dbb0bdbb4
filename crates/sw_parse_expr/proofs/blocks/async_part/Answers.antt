use Rattle.std.proofs.Common.{◌≡◌, subst}
use Rattle.std.proofs.lemmas.Result.{err_from_is_err_and}
use Rattle.std.specs.Prelude.{Ok, Err}
use Rattle.sw_grammar_forms.specs.Outcome.{Gives}
use Rattle.sw_grammar_forms.proofs.ItemLoops.{refuses}
use Rattle.sw_grammar.specs.Around.{after_tasks}
use Rattle.sw_parse_parts.specs.Around.{known}
use Rattle.sw_parse_expr.specs.Blocks.{items_behind}
use Rattle.sw_parse_expr.proofs.PartSteps.{part_read, stops_at_let, stops_in_part}
use Rattle.sw_parse_expr.proofs.blocks.async_part.Goals as goal

pub returns-in_err-task-clause-part : goal.returns-in_err-task-clause-part
returns-in_err-task-clause-part g c =
    let stop = err_from_is_err_and c.from_residual.result c.from_residual.ensures.1 in
    rw (stop.1, stop.2) (refuses _ _ _ c.begun_part.new.tokens _
    (stops_at_let (after_tasks (known c.args.around.now) c.args.tasks.now.words) c.args.depth
    c.args.tokens.now) c.in_err-task.ensures.part)

pub returns-in_err-more-clause-part : goal.returns-in_err-more-clause-part
returns-in_err-more-clause-part g c =
    let around = known c.args.around.now in
    let stop = err_from_is_err_and c.from_residual-in_err-more.result
    c.from_residual-in_err-more.ensures.1 in
    rw (stop.1, stop.2) (refuses _ _ _ c.items_behind.new.tokens _
    (stops_in_part (after_tasks around c.args.tasks.now.words) c.args.depth c.args.tokens.now
    c.begun_part.new.tokens c.in_ok-task.task c.in_ok-task.ensures.part)
    (subst (λ behind. Gives (items_behind (after_tasks around behind) c.args.depth
    c.begun_part.new.tokens) (Err c.in_err-more.field-0.0) c.items_behind.new.tokens)
    c.in_ok-task.ensures.words c.in_err-more.ensures))

pub returns-clause-part : goal.returns-clause-part
returns-clause-part g c =
    let around = known c.args.around.now in
    rw (c.in_ok-stmts.ensures, c.stmt.ensures, c.in_ok-task.ensures.words)
    (part_read (after_tasks around c.args.tasks.now.words) c.args.depth c.args.tokens.now
    c.begun_part.new.tokens c.in_ok-task.task c.in_ok-task.ensures.part
    c.items_behind.new.tokens (c.in_ok-more.more, c.in_ok-more.ended)
    (subst (λ behind. items_behind (after_tasks around behind) c.args.depth
    c.begun_part.new.tokens
    ≡ Ok ((c.in_ok-more.more, c.in_ok-more.ended), c.items_behind.new.tokens))
    c.in_ok-task.ensures.words c.in_ok-more.ensures))
