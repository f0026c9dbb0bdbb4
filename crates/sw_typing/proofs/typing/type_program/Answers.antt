use Rattle.std.proofs.Common.{rules, None}
use Rattle.sw_typing_rules.specs.Worlds.{world_of}
use Rattle.sw_typing.proofs.FirstIll.{is_first_ill}
use Rattle.sw_typing.proofs.typing.type_program.Goals as goal

pub returns-in_ok-of-in-None-clause-none : goal.returns-in_ok-of-in-None-clause-none
returns-in_ok-of-in-None-clause-none c =
    is_first_ill (world_of c.args.world.now) c.args.program.now.decls None (search rules)
