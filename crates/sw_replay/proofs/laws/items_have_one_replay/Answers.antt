use Rattle.sw_replay.proofs.ReplayLemmas.{some_replay, one_replay, unraced}
use Rattle.sw_replay.proofs.laws.items_have_one_replay.Goals as goal

pub returns-clause-some : goal.returns-clause-some
returns-clause-some c = some_replay

pub returns-clause-one : goal.returns-clause-one
returns-clause-one c = one_replay

pub returns-clause-unraced : goal.returns-clause-unraced
returns-clause-unraced c = unraced
