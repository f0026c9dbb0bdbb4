use Rattle.sw_region_flow.proofs.Tests.{free_none, free_some, is_true, not_true}
use Rattle.sw_region_flow.proofs.testing.not_free.Goals as goal

pub returns-then-is_free : goal.returns-then-is_free
returns-then-is_free c = free_none c.args.x c.args.at c.args.code c.args.state.now
    (is_true _ _ c.if-is_free.true c.is_free.ensures)

pub returns-else-is_free : goal.returns-else-is_free
returns-else-is_free c = free_some c.args.x c.args.at c.args.code c.args.state.now
    c.requires.element (not_true _ _ c.if-is_free.false c.is_free.ensures) c.requires.not_given
