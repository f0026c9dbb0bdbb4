use Rattle.std.proofs.Common.{ap, ◌∙◌}
use Rattle.std.specs.Prelude.{unwrap_or}
use Rattle.indexmap.specs.IndexMap.{get}
use Rattle.sw_race.specs.Uses.{unused}
use Rattle.sw_race.specs.With.{is_same_place}
use Rattle.sw_race.proofs.UsesLemmas.{cleared_at}
use Rattle.sw_race.proofs.uses.clear.Goals as goal

pub returns : goal.returns
returns c = λ p.
    ap (λ o. unwrap_or o unused) (c.remove.ensures p)
    ∙ cleared_at (is_same_place c.args.place p) (get is_same_place c.args.table.now p)
