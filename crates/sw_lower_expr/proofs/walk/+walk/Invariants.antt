-- What the other arguments give, after what was given, is the whole, and so with operators.
use Rattle.std.proofs.Common.{◌≡◌, drop}
use Rattle.sw_lower_draft.specs.Drafts.{making_of}
use Rattle.sw_lower_known.specs.Knowledge.{tables_by}
use Rattle.sw_lower_rules.specs.Expressions.{args_read, links_read}
use Rattle.sw_lower_uses.specs.Gathering.{each_after}
use Rattle.sw_lower_expr.specs.Walked.{arg_codes, arg_value, link_codes, links_run}
use Rattle.sw_lower_expr.proofs.walk.+walk.Given as goal

abbrev pub invariant-arguments-loop-arg : goal.invariant-arguments-loop-arg
invariant-arguments-loop-arg l =
    (args_read (arg_codes (tables_by l.known) l.owner l.args)).run (making_of l.fn.draft)
    ≡ each_after (arg_value (tables_by l.known) l.owner) (drop l.arg-index l.args) l.operands
    (making_of l.draft)

abbrev pub invariant-links-loop-link : goal.invariant-links-loop-link
invariant-links-loop-link l =
    (links_read (link_codes (tables_by l.known) l.owner l.links) l.fn.left).run
    (making_of l.fn.draft)
    ≡ links_run (tables_by l.known) l.owner (drop l.link-index l.links) l.value
    (making_of l.draft)
