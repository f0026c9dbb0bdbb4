use Rattle.std.proofs.Common.{◌≡◌, None, cond, subst}
use Rattle.indexmap.specs.IndexMap.{get}
use Rattle.sw_race.proofs.UsesLemmas.{same_test}
use Rattle.sw_race.proofs.uses.remove.Goals as goal

pub returns : goal.returns
returns c = λ p.
    subst (λ test. get test c.swap_remove.new.self p
    ≡ cond (test c.args.place p) None (get test c.args.table.now p)) same_test
    (c.swap_remove.ensures.updates.0 p)
