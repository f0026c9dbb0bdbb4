use Rattle.sw_typing_rules.proofs.OneWorld.{declared_once, declared_world, one_world, some_world}
use Rattle.sw_typing_rules.proofs.laws.programs_have_one_world.Goals as goal

pub returns-clause-some : goal.returns-clause-some
returns-clause-some c = some_world

pub returns-clause-one : goal.returns-clause-one
returns-clause-one c = one_world

pub returns-clause-declared : goal.returns-clause-declared
returns-clause-declared c = declared_world

pub returns-clause-declared_once : goal.returns-clause-declared_once
returns-clause-declared_once c = declared_once
