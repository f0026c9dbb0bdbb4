use Rattle.std.proofs.Common.{◌≡◌, ◌++◌, drop}
use Rattle.sw_typing_steps.specs.Closures.{captured_vars}
use Rattle.sw_typing_steps.proofs.closures.captured_vars.Given as goal

-- the variables so far, and those of the words that are left
abbrev pub invariant-loop-word : goal.invariant-loop-word
invariant-loop-word l = l.made ++ captured_vars l.vars (drop l.word-index l.words)
    ≡ captured_vars l.vars l.words
