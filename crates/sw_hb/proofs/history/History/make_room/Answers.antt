use Rattle.std.proofs.Common.{refl}
use Rattle.sw_hb.proofs.HistoryLemmas.{with_table}
use Rattle.sw_hb.proofs.history.History.make_room.Goals as goal

pub returns-clause-kept : goal.returns-clause-kept
returns-clause-kept c = λ events is.
    let made = c.in_ok-make_entry.ensures.kept events is in
    with_table c.make_entry.new.self _ c.make_room.ensures.same refl refl events made made.table_is
