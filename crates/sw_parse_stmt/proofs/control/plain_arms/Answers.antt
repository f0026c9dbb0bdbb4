use Rattle.std.proofs.Common.{sym, ◌∙◌}
use Rattle.sw_parse_parts.specs.Around.{known}
use Rattle.sw_parse_stmt.proofs.ArmLoops.{one_turn, shorter, no_arm, after_last}
use Rattle.sw_parse_stmt.proofs.control.plain_arms.Goals.{
  then-loop-tokens-test+else-sees_expr,
  else-loop-tokens-test,
}
use Rattle.sw_parse_stmt.proofs.control.plain_arms.Goals as goal

pub loop-tokens-smaller : goal.loop-tokens-smaller
loop-tokens-smaller g c =
    shorter (known c.args.around.now) c.args.depth _ _ _ _ c.in_ok-arms.ensures

pub loop-tokens-preserved : goal.loop-tokens-preserved
loop-tokens-preserved g c =
    one_turn (known c.args.around.now) c.args.depth _ _ _ c.loop-tokens.arms _
    (sym c.has_next.ensures ∙ c.loop-tokens-test.true) (sym c.sees_expr.ensures ∙ c.if-sees_expr.true)
    c.loop-tokens.invariant c.in_ok-arms.ensures

pub returns : goal.returns
returns g c = elim c.loop-tokens-test.branch [
  | then-loop-tokens-test+else-sees_expr w ↦ no_arm (known c.args.around.now) c.args.depth _ _
      c.loop-tokens.arms (sym w.sees_expr.ensures ∙ w.if-sees_expr.false) c.loop-tokens.invariant
  | else-loop-tokens-test w ↦ after_last (known c.args.around.now) c.args.depth _ _
      c.loop-tokens.arms (sym c.has_next.ensures ∙ w.loop-tokens-test.false)
      c.loop-tokens.invariant
]
