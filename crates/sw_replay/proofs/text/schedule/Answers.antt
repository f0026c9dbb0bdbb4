use Rattle.sw_replay.proofs.ScheduleLaws.{IsItems-scheduled, IsFirstFault-scheduled}
use Rattle.sw_replay.proofs.text.schedule.Goals as goal

pub returns-clause-items : goal.returns-clause-items
returns-clause-items c = IsItems-scheduled c.args.bytes.now c.items_of.result c.items_of.ensures

pub returns-clause-fault : goal.returns-clause-fault
returns-clause-fault c =
    IsFirstFault-scheduled c.args.bytes.now c.items_of.result c.items_of.ensures
