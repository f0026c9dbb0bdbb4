use Rattle.std.proofs.Common.{refl}
use Rattle.sw_hb.specs.Table.{entries_at}
use Rattle.sw_hb.proofs.HistoryLemmas.{entry_kept, entry_room}
use Rattle.sw_hb.proofs.history.History.make_entry.Goals as goal

pub returns-in-Some-clause-kept : goal.returns-in-Some-clause-kept
returns-in-Some-clause-kept c =
    entry_kept c.args.self.now _ refl refl refl c.make_entry.result c.in-Some.access.place
    c.in-Some.access.job c.make_entry.ensures.ok c.make_entry.ensures.err

pub returns-in-Some-clause-room : goal.returns-in-Some-clause-room
returns-in-Some-clause-room c =
    entry_room c.make_entry.result (entries_at c.args.self.now.table)
    (entries_at c.make_entry.new.table) c.args.access c.in-Some.access c.in-Some.is
    c.make_entry.ensures.ok
