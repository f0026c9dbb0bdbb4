use Rattle.std.proofs.Common.{◌≡◌, ◌++◌, Some, drop, map}
use Rattle.sw_lower_draft.specs.Drafts.{number_by}
use Rattle.sw_lower_rules.specs.Bodies.{starts_in}
use Rattle.sw_lower.proofs.numbers.starts_of.Given as goal

-- what was found so far, with what is left to find, is the whole
abbrev pub invariant-loop-global : goal.invariant-loop-global
invariant-loop-global l =
    map Some l.starts ++ starts_in (number_by l.numbers) (drop l.global-index l.globals)
    ≡ starts_in (number_by l.numbers) l.globals
