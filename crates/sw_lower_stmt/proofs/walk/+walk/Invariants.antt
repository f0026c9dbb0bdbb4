-- What is left to do from here is what there was to do.
use Rattle.std.proofs.Common.{◌≡◌, drop}
use Rattle.std.specs.Iterator.Adapters.{zip_first, zip_second}
use Rattle.std.specs.Slice.Iter.{iter_rest}
use Rattle.sw_lower_draft.specs.Drafts.{making_of}
use Rattle.sw_lower_code.specs.Code.{all, each}
use Rattle.sw_lower_known.specs.Knowledge.{tables_by}
use Rattle.sw_lower_rules.specs.Carriers.{StmtCode}
use Rattle.sw_lower_rules.specs.Statements.{arm_code}
use Rattle.sw_lower_uses.specs.Gathering.{each_after}
use Rattle.sw_lower_stmt.specs.Parts.{arm_opened, if_codes, numbered, stmt_codes}
use Rattle.sw_lower_stmt.proofs.walk.+walk.Given as goal

abbrev pub invariant-stmts-loop-tree : goal.invariant-stmts-loop-tree
invariant-stmts-loop-tree l =
    (all (λ (one : StmtCode). one.code l.targets)
    (stmt_codes (tables_by l.known) l.owner (drop l.tree-index l.trees))).run (making_of l.draft)
    ≡ (all (λ (one : StmtCode). one.code l.targets)
    (stmt_codes (tables_by l.known) l.owner l.trees)).run (making_of l.fn.draft)

abbrev pub invariant-if_arms-loop-tree : goal.invariant-if_arms-loop-tree
invariant-if_arms-loop-tree l =
    each_after (arm_opened l.targets)
    (if_codes (tables_by l.known) l.owner (drop l.tree-index l.trees)) l.merges
    (making_of l.draft)
    ≡ (each (arm_opened l.targets)
    (if_codes (tables_by l.known) l.owner l.trees)).run (making_of l.fn.draft)

abbrev pub invariant-case_arms-loop-tree : goal.invariant-case_arms-loop-tree
invariant-case_arms-loop-tree l =
    (all (arm_code (tables_by l.known) l.opened.subject l.targets l.opened.merge)
    (numbered (tables_by l.known) l.owner (iter_rest (zip_first l.tree-iterator))
    (iter_rest (zip_second l.tree-iterator)))).run (making_of l.draft)
    ≡ (all (arm_code (tables_by l.known) l.opened.subject l.targets l.opened.merge)
    (numbered (tables_by l.known) l.owner l.trees l.opened.numbers)).run (making_of l.fn.draft)
