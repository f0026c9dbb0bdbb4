use Rattle.std.proofs.Common.{◌≡◌, drop}
use Rattle.sw_lower_plans.specs.Plan.{var_in}
use Rattle.sw_lower_draft.proofs.lookups.var_in.Given as goal

-- the variables so far have another key
abbrev pub invariant-loop-bound : goal.invariant-loop-bound
invariant-loop-bound l = var_in l.key (drop l.bound-index l.vars) ≡ var_in l.key l.vars
