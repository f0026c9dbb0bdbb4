use Rattle.std.proofs.Common.{◌≡◌, drop}
use Rattle.sw_typing_rules.specs.Statements.{case_named}
use Rattle.sw_typing_steps.proofs.switches.payload_named.Given as goal

-- the case is among those that are left
abbrev pub invariant-loop-one : goal.invariant-loop-one
invariant-loop-one l = case_named (drop l.one-index l.cases) l.id ≡ case_named l.cases l.id
