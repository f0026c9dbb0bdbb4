use Rattle.std.proofs.Common.{◌≡◌, Some, cond, subst}
use Rattle.indexmap.specs.IndexMap.{get}
use Rattle.sw_race.proofs.UsesLemmas.{same_test}
use Rattle.sw_race.proofs.uses.insert.Goals as goal

pub returns-clause-ok : goal.returns-clause-ok
returns-clause-ok c = λ p.
    subst (λ test. get test c.insert.new.self p
    ≡ cond (test c.args.place p) (Some c.args.uses) (get test c.args.table.now p)) same_test
    (c.in_ok-insert.ensures.updates.0 p)
