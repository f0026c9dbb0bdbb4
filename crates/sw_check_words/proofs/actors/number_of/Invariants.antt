use Rattle.std.proofs.Common.{◌≡◌, ◌<◌, ◌^◌, take}
use Rattle.sw_scan.specs.Decimal.{number_of}
use Rattle.sw_check_words.proofs.actors.number_of.Given as goal

-- the number of the digits so far
abbrev pub invariant-loop-digit : goal.invariant-loop-digit
invariant-loop-digit l =
    (l.number ≡ number_of (take l.digit-index l.digits)) × (l.number < 10 ^ l.digit-index)
