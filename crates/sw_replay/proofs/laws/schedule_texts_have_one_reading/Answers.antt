use Rattle.sw_replay.specs.Reading.{items_or_fault}
use Rattle.sw_replay.proofs.ScheduleLaws as laws
use Rattle.sw_replay.proofs.laws.schedule_texts_have_one_reading.Goals as goal

pub returns-clause-some_reading : goal.returns-clause-some_reading
returns-clause-some_reading c = λ bytes. (items_or_fault bytes, laws.items_or_fault-HasItems bytes)

pub returns-clause-one_list : goal.returns-clause-one_list
returns-clause-one_list c = laws.one_list

pub returns-clause-one_fault : goal.returns-clause-one_fault
returns-clause-one_fault c = laws.one_fault

pub returns-clause-never_both : goal.returns-clause-never_both
returns-clause-never_both c = laws.never_both

pub returns-clause-inside : goal.returns-clause-inside
returns-clause-inside c = laws.IsFirstFault-inside
