use Rattle.sw_view_facts.proofs.EntryLemmas as entry
use Rattle.sw_view_facts.proofs.jobs.frames_hold_what_is_lent.Goals as goal

pub returns : goal.returns
returns c = record { own = entry.holds_own; together = entry.holds_together }
