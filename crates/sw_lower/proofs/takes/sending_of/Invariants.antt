use Rattle.std.proofs.Common.{◌≡◌, ◌++◌, drop, map}
use Rattle.sw_lower_code.specs.declared.taken.Taken.{Taken}
use Rattle.sw_lower.proofs.takes.sending_of.Given as goal

-- what was found so far, with what is left to find, is the whole
abbrev pub invariant-loop-taken : goal.invariant-loop-taken
invariant-loop-taken l =
    l.sending ++ map (λ (taken : Taken). taken.sending) (drop l.taken-index l.takes)
    ≡ map (λ (taken : Taken). taken.sending) l.takes
