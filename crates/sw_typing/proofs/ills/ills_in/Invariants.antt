use Rattle.std.proofs.Common.{◌≡◌, ◌++◌, drop}
use Rattle.sw_typing_rules.specs.Verdicts.{ills_in}
use Rattle.sw_typing.proofs.ills.ills_in.Given as goal

-- the ill nodes so far, and those of the rows that are left
abbrev pub invariant-loop-row : goal.invariant-loop-row
invariant-loop-row l = l.ills ++ ills_in (drop l.row-index l.rows) ≡ ills_in l.rows
