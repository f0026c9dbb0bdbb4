-- What is left to give from here is what there was to give.
use Rattle.std.proofs.Common.{◌≡◌, drop}
use Rattle.sw_lower_draft.specs.Drafts.{making_of}
use Rattle.sw_lower_known.specs.Knowledge.{tables_by}
use Rattle.sw_lower_rules.specs.Bodies.{give_value}
use Rattle.sw_lower_uses.specs.Gathering.{each_after}
use Rattle.sw_lower_stmt.specs.Giving.{values_given}
use Rattle.sw_lower_stmt.specs.Parts.{gives_of}
use Rattle.sw_lower_stmt.proofs.givens.give_values.Given as goal

abbrev pub invariant-loop-one : goal.invariant-loop-one
invariant-loop-one l =
    each_after give_value (gives_of (tables_by l.known) l.owner (drop l.one-index l.one-items))
    (values_given l.values) (making_of l.draft)
    ≡ each_after give_value (gives_of (tables_by l.known) l.owner l.one-items)
    (values_given l.fn.values) (making_of l.fn.draft)
