use Rattle.sw_race.proofs.IndexLemmas.{put_last}
use Rattle.sw_race.proofs.index.RaceIndex.add.Goals as goal

pub returns-in-Ok-clause-ok : goal.returns-in-Ok-clause-ok
returns-in-Ok-clause-ok c =
    put_last c.args.self.now c.grow.new.self c.replace.new.self
    c.self.inside.targets c.len-number.result c.args.next
    c.self.view_is c.len-number.ensures c.in_ok-grow.ensures.ok c.in-Ok.ensures.ok
