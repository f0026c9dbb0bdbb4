use Rattle.std.proofs.Common.{◌≡◌, ◌++◌, drop}
use Rattle.sw_typing_steps.specs.Closures.{captures_rows}
use Rattle.sw_typing_steps.proofs.closures.note_captures.Given as goal

-- what is noted so far, and of the words that are left
abbrev pub invariant-loop-word : goal.invariant-loop-word
invariant-loop-word l = l.rows ++ captures_rows l.vars (drop l.word-index l.words)
    ≡ l.fn.rows ++ captures_rows l.vars l.words
