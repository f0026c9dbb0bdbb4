use Rattle.std.proofs.Common.{◌≡◌, drop}
use Rattle.sw_typing_rules.specs.Calls.{types_fit, slots_of}
use Rattle.sw_typing_rules.specs.Worlds.{world_of}
use Rattle.sw_typing_words.specs.Callees.{as_callee}
use Rattle.sw_typing_words.proofs.arguments.types_fit.Given as goal

abbrev pub invariant-loop-index : goal.invariant-loop-index
invariant-loop-index l = let slots = slots_of (as_callee (world_of l.world) l.callee) in
    types_fit slots l.given ≡ types_fit (drop l.index slots) (drop l.index l.given)
