use Rattle.std.proofs.Common.{◌≡◌, take}
use Rattle.sw_dictation.specs.Numerals.{numeral}
use Rattle.sw_dictation.proofs.choice.spoken.Given as goal

abbrev pub invariant-loop-i : goal.invariant-loop-i
invariant-loop-i l = take l.i l.bytes ≡ numeral l.number
