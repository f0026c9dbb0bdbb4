use Rattle.std.proofs.Common.{◌≡◌, get_or, take}
use Rattle.sw_types.specs.Parts.{largest_case}
use Rattle.sw_types.proofs.tables.largest_case.Given as goal

abbrev pub invariant-loop-case : goal.invariant-loop-case
invariant-loop-case l = l.most ≡ largest_case (λ k. get_or l.named k 0) (take l.case-index l.cases)
