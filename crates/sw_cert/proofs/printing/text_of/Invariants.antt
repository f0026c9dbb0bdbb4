use Rattle.std.proofs.Common.{◌≡◌, ◌++◌, drop}
use Rattle.sw_dictation.specs.Lines.{line_text}
use Rattle.sw_cert.proofs.printing.text_of.Given as goal

abbrev pub invariant-loop-i : goal.invariant-loop-i
invariant-loop-i l = l.text.items ++ line_text (drop l.i l.numbers) ≡ line_text l.numbers
