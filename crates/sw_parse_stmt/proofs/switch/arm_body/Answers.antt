use Rattle.std.proofs.Common.{sym, ◌∙◌, subst, ap}
use Rattle.std.specs.Prelude.{Ok}
use Rattle.sw_grammar_forms.specs.Outcome.{Gives}
use Rattle.sw_grammar_forms.specs.Reader.{and_then}
use Rattle.sw_parse_parts.specs.Around.{known}
use Rattle.sw_parse_expr.specs.Blocks.{items_of}
use Rattle.sw_parse_stmt.proofs.ArmSteps.{arm_read, arm_refused}
use Rattle.sw_parse_stmt.proofs.switch.arm_body.Goals as goal

pub returns-then-not-sees_item : goal.returns-then-not-sees_item
returns-then-not-sees_item g c =
    rw c.stop.ensures (ap (λ answer. and_then answer (λ read. Ok (items_of read.0, read.1)))
    (arm_refused (known c.args.around.now) c.args.depth c.args.tokens.now
    (sym c.sees_item.ensures ∙ c.if-not-sees_item.true)))

pub returns : goal.returns
returns g c =
    subst (λ answer. Gives (and_then answer (λ read. Ok (items_of read.0, read.1)))
    c.block_items.result c.block_items.new.tokens)
    (sym (arm_read (known c.args.around.now) c.args.depth c.args.tokens.now
    (sym c.sees_item.ensures ∙ c.if-not-sees_item.false)))
    c.block_items.ensures
