-- What is left to do from here is what there was to do.
use Rattle.std.proofs.Common.{◌≡◌, drop}
use Rattle.sw_lower_draft.specs.Drafts.{making_of}
use Rattle.sw_lower_known.specs.Knowledge.{tables_by}
use Rattle.sw_lower_rules.specs.Statements.{patterns_code}
use Rattle.sw_lower_stmt.proofs.variables.patterns.Given as goal

abbrev pub invariant-loop-number : goal.invariant-loop-number
invariant-loop-number l =
    (patterns_code (tables_by l.known) l.subject l.number (drop l.number l.trees)).run
    (making_of l.draft)
    ≡ (patterns_code (tables_by l.known) l.subject 0 l.trees).run (making_of l.fn.draft)
