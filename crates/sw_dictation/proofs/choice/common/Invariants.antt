use Rattle.std.proofs.Common.{◌≡◌, ◌+◌, drop}
use Rattle.sw_dictation.specs.Numbers.{common_len}
use Rattle.sw_dictation.proofs.choice.common.Given as goal

abbrev pub invariant-loop-i : goal.invariant-loop-i
invariant-loop-i l =
    l.i + common_len (drop l.i l.bytes) (drop l.i l.text) ≡ common_len l.bytes l.text
