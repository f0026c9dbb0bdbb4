use Rattle.std.proofs.Common.{ap, ◌∙◌}
use Rattle.std.specs.Prelude.{unwrap_or}
use Rattle.indexmap.specs.IndexMap.{get}
use Rattle.sw_race.specs.Uses.{unused}
use Rattle.sw_race.specs.With.{is_same_place}
use Rattle.sw_race.proofs.UsesLemmas.{put_at}
use Rattle.sw_race.proofs.uses.put.Goals as goal

pub returns-clause-ok : goal.returns-clause-ok
returns-clause-ok c = λ p.
    ap (λ o. unwrap_or o unused) (c.in_ok-insert.ensures.ok p)
    ∙ put_at (is_same_place c.args.place p) c.args.uses (get is_same_place c.args.table.now p)
