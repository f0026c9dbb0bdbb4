use Rattle.std.proofs.Common.{◌-◌, length}
use Rattle.std.specs.Str.{IsUtf8}
use Rattle.sw_scan.proofs.Turns.{IsAt}
use Rattle.sw_token.specs.Tokens.{lexis}
use Rattle.sw_token.specs.Reading.{step, tokens_or_fault}
use Rattle.sw_token.proofs.tokens_of.Given as goal

abbrev pub invariant-loop-tokens : goal.invariant-loop-tokens
invariant-loop-tokens l =
    IsAt lexis IsUtf8 step l.text (tokens_or_fault l.text) l.tokens.items l.at l.before

abbrev pub decreases-loop-tokens : goal.decreases-loop-tokens
decreases-loop-tokens l = length l.text - l.at
