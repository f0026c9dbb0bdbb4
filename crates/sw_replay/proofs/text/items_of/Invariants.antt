use Rattle.std.proofs.Common.{◌≡◌, ◌-◌, ◌≤◌, length}
use Rattle.sw_scan.proofs.Turns.{IsAt}
use Rattle.sw_scan.proofs.Agreement.{IsAny}
use Rattle.sw_replay.specs.declared.items.TheConstants.{MAX_ITEMS}
use Rattle.sw_replay.specs.Items.{schedule_form, written_out}
use Rattle.sw_replay.specs.Reading.{step, runs_or_fault}
use Rattle.sw_replay.proofs.text.items_of.Given as goal

abbrev pub invariant-loop-runs : goal.invariant-loop-runs
invariant-loop-runs l = record {
  here : IsAt schedule_form IsAny step l.bytes (runs_or_fault l.bytes) l.runs l.at l.count;
  counted : l.count ≡ length (written_out l.runs);
  few : l.count ≤ MAX_ITEMS;
}

abbrev pub decreases-loop-runs : goal.decreases-loop-runs
decreases-loop-runs l = length l.bytes - l.at
