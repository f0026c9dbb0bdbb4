use Rattle.std.proofs.Common.{map}
use Rattle.sw_value.specs.contracts.race.PlacePartialEq.TheImpl as derived
use Rattle.sw_race.proofs.UsesLemmas.{same_test}
use Rattle.sw_hb.specs.Entries.{noted}
use Rattle.sw_hb.proofs.TableLemmas.{written_at}
use Rattle.sw_hb.proofs.table.note.Goals as goal

pub returns-in-Some : goal.returns-in-Some
returns-in-Some c =
    let list = c.note.new.entries in
    written_at derived.ghosts.eq same_test c.args.table.now (c.get_mut.follows.lender list)
    c.args.made.access.place c.in-Some.entries.now list (map (noted c.args.made))
    c.in-Some.ensures.value (c.get_mut.follows.holds list).3 c.note.ensures
