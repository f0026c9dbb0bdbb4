use Rattle.std.proofs.Common.{◌≡◌, drop}
use Rattle.sw_typing_rules.specs.Statements.{are_captured}
use Rattle.sw_typing_steps.proofs.closures.are_captured.Given as goal

-- what the words that are left say
abbrev pub invariant-loop-word : goal.invariant-loop-word
invariant-loop-word l =
    are_captured l.vars (drop l.word-index l.words) ≡ are_captured l.vars l.words
