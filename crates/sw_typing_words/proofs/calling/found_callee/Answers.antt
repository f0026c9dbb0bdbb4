use Rattle.std.proofs.Common.{rules}
use Rattle.sw_typing_rules.specs.Worlds.{world_of}
use Rattle.sw_typing_words.proofs.calling.found_callee.Goals as goal

pub returns-in-Property : goal.returns-in-Property
returns-in-Property c =
    let made = c.part_callee.ensures (world_of c.args.world.now) in
    let part = c.part_at-part.ensures in
    search (rules, made, part)
