use Rattle.std.proofs.Common.{rules}
use Rattle.sw_typing_steps.proofs.DoubtLemmas.{after_last, last_not_after}
use Rattle.sw_typing_steps.proofs.switches.last_after.Goals as goal

pub returns-then-at-place : goal.returns-then-at-place
returns-then-at-place c =
    after_last c.args.at c.args.places.now c.in-Some.place.now (search rules) c.if-at-place.true

pub returns-else-at-place : goal.returns-else-at-place
returns-else-at-place c =
    last_not_after c.args.at c.args.places.now c.in-Some.place.now (search rules) c.if-at-place.false
