use Rattle.std.proofs.Common.{◌≡◌, ◌<◌, ◌^◌, drop}
use Rattle.sw_scan.specs.Decimal.{number_of}
use Rattle.sw_replay.proofs.Numbers.{number_from}
use Rattle.sw_replay.proofs.runs.number_of.Given as goal

abbrev pub invariant-loop-digit : goal.invariant-loop-digit
invariant-loop-digit l =
    (number_from l.number (drop l.digit-index l.digits) ≡ number_of l.digits) × (l.number < 2 ^ 32)
