use Rattle.std.proofs.Common.{◌≡◌, ◌++◌, drop}
use Rattle.sw_decl_words.specs.Members.{cases_from}
use Rattle.sw_decl_words.proofs.members.add_cases.Given as goal

-- the members so far, and the cases that are left
abbrev pub invariant-loop-number : goal.invariant-loop-number
invariant-loop-number l =
    l.members ++ cases_from l.shape l.number (drop l.number l.cases)
    ≡ l.fn.members ++ cases_from l.shape 0 l.cases
