use Rattle.std.proofs.Common.{subst}
use Rattle.sw_grammar_forms.specs.Outcome.{Gives}
use Rattle.sw_grammar.specs.Around.{after_tasks}
use Rattle.sw_parse_parts.specs.Around.{known}
use Rattle.sw_parse_expr.specs.Blocks.{items_after}
use Rattle.sw_parse_expr.proofs.PartSteps.{behind_read}
use Rattle.sw_parse_expr.proofs.blocks.items_behind.Goals as goal

pub returns : goal.returns
returns g c =
    subst (λ answer. Gives answer c.items.result c.items.new.tokens)
    (behind_read (after_tasks (known c.args.around.now) c.args.tasks.now.words) c.args.depth
    c.args.tokens.now c.skip-ended.new.self c.skip-ended.result c.skip-ended.ensures)
    (subst (λ here. Gives (items_after (known here) c.args.depth c.skip-ended.result
    c.skip-ended.new.self) c.items.result c.items.new.tokens) c.after-here.ensures c.items.ensures)
