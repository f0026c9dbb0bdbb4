use Rattle.std.proofs.Common.{◌≡◌, drop}
use Rattle.sw_lower_draft.specs.Drafts.{making_of}
use Rattle.sw_lower_known.specs.Knowledge.{tables_by}
use Rattle.sw_lower_stmt.specs.Giving.{values_given}
use Rattle.sw_lower_rules.specs.Bodies.{first_values, give_value}
use Rattle.sw_lower_uses.specs.Gathering.{each_after}
use Rattle.sw_lower.proofs.codes.give_firsts.Given as goal

-- what is left to give goes on where the whole would
abbrev pub invariant-loop-prop : goal.invariant-loop-prop
invariant-loop-prop l =
    each_after give_value
    (first_values (tables_by l.known) l.number (drop l.prop-index l.props))
    (values_given l.values) (making_of l.draft)
    ≡ each_after give_value (first_values (tables_by l.known) l.number l.props)
    (values_given l.fn.values) (making_of l.fn.draft)
