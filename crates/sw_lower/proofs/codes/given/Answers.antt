use Rattle.std.proofs.Common.{ap, sym, ◌∙◌}
use Rattle.std.specs.Option.{option_copied}
use Rattle.std.proofs.lemmas.Result.{err_from_is_err_and}
use Rattle.sw_lower_draft.specs.Drafts.{making_of}
use Rattle.sw_lower_bodies.specs.Trees.{gives_by}
use Rattle.sw_lower_known.specs.Knowledge.{tables_by}
use Rattle.sw_lower_stmt.specs.Giving.{values_given}
use Rattle.sw_lower_rules.specs.Bodies.{first_values, give_value}
use Rattle.sw_lower_uses.specs.Gathering.{each_after}
use Rattle.sw_lower.proofs.Givens.{both_given, first_fails}
use Rattle.sw_lower.proofs.codes.given.Goals as goal

pub returns-in_err-give_firsts : goal.returns-in_err-give_firsts
returns-in_err-give_firsts c =
    let first = first_values (tables_by c.args.known.now) c.args.number c.args.props.now in
    let second = gives_by (tables_by c.args.known.now) c.args.number (option_copied c.args.block) in
    let p = err_from_is_err_and c.from_residual.result c.from_residual.ensures.1 in
    rw (p.1, p.2) (λ other. first_fails first second (making_of c.args.draft.now) _
    (sym (ap (λ values.
    each_after give_value first (values_given values) (making_of c.args.draft.now))
    c.new-values.ensures) ∙ c.in_err-give_firsts.ensures other))

pub returns-in_err-give_written : goal.returns-in_err-give_written
returns-in_err-give_written c =
    let first = first_values (tables_by c.args.known.now) c.args.number c.args.props.now in
    let second = gives_by (tables_by c.args.known.now) c.args.number (option_copied c.args.block) in
    let p = err_from_is_err_and c.from_residual-in_err-give_written.result
    c.from_residual-in_err-give_written.ensures.1 in
    rw (p.1, p.2) (λ other. both_given first second (making_of c.args.draft.now)
    (values_given c.give_firsts.new.values) (making_of c.give_firsts.new.draft) _
    (sym (ap (λ values.
    each_after give_value first (values_given values) (making_of c.args.draft.now))
    c.new-values.ensures) ∙ c.in_ok-give_firsts.ensures)
    (c.in_err-give_written.ensures other))

pub returns : goal.returns
returns c =
    let first = first_values (tables_by c.args.known.now) c.args.number c.args.props.now in
    let second = gives_by (tables_by c.args.known.now) c.args.number (option_copied c.args.block) in
    both_given first second (making_of c.args.draft.now)
    (values_given c.give_firsts.new.values) (making_of c.give_firsts.new.draft) _
    (sym (ap (λ values.
    each_after give_value first (values_given values) (making_of c.args.draft.now))
    c.new-values.ensures) ∙ c.in_ok-give_firsts.ensures)
    c.in_ok-give_written.ensures
