use Rattle.std.proofs.Common.{rules}
use Rattle.sw_typing_rules.specs.Calls.{slots_of}
use Rattle.sw_typing_rules.specs.Worlds.{world_of}
use Rattle.sw_typing_words.specs.Callees.{as_callee}
use Rattle.sw_typing_words.proofs.SlotLemmas.{types_here}
use Rattle.sw_typing_words.proofs.arguments.types_fit.Goals as goal

pub returns-then-not-type_fits : goal.returns-then-not-type_fits
returns-then-not-type_fits c =
    let slots = slots_of (as_callee (world_of c.args.world.now) c.args.callee.now) in
    let here = types_here slots c.args.given.now c.loop-index.index c.index-given-index.result
    c.loop-index-test.true c.index-given-index.is in
    search (rules, here)

pub loop-index-preserved : goal.loop-index-preserved
loop-index-preserved c =
    let slots = slots_of (as_callee (world_of c.args.world.now) c.args.callee.now) in
    let here = types_here slots c.args.given.now c.loop-index.index c.index-given-index.result
    c.loop-index-test.true c.index-given-index.is in
    search (rules, here)
