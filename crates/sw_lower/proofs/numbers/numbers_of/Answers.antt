use Rattle.std.proofs.Common.{ap, arith, map, sym, ◌∙◌}
use Rattle.std.proofs.lemmas.List.{at_drop_all, length-map}
use Rattle.std.proofs.lemmas.Result.{err_from_is_err_and}
use Rattle.sw_lower_draft.specs.Drafts.{number_by}
use Rattle.sw_lower_rules.specs.Tables.{number_from}
use Rattle.sw_decl_words.specs.Words.{or_else}
use Rattle.sw_lower.specs.Ordered.{tree_name}
use Rattle.sw_lower.proofs.Lacking.{still_fails}
use Rattle.sw_lower.proofs.Numbered.{all_found, below_next, found_next, name_at, noted_next}
use Rattle.sw_lower.proofs.Numbered.{noted_twice}
use Rattle.sw_lower.proofs.Programs.{or_else-none}
use Rattle.sw_lower.proofs.numbers.numbers_of.Goals as goal

pub loop-number-preserved : goal.loop-number-preserved
loop-number-preserved c = record {
  noted = λ name.
      noted_next c.args.bodies.now c.loop-number.number c.index-bodies-number.result
      (number_by c.loop-number.table) (number_by c.note_name.new.table) name _
      c.loop-number-test.true c.index-bodies-number.is c.in_ok-note_name.ensures.noted
      (c.loop-number.invariant.noted name);
  found = found_next (map tree_name c.args.bodies.now) c.loop-number.number
      (tree_name c.index-bodies-number.result) (number_by c.loop-number.table)
      (number_by c.note_name.new.table)
      (name_at c.args.bodies.now c.loop-number.number c.index-bodies-number.result
      c.loop-number-test.true c.index-bodies-number.is) c.in_ok-note_name.ensures.first
      c.in_ok-note_name.ensures.noted c.loop-number.invariant.found;
  below = below_next c.loop-number.number (tree_name c.index-bodies-number.result)
      (number_by c.loop-number.table) (number_by c.note_name.new.table)
      c.in_ok-note_name.ensures.noted c.loop-number.invariant.below;
}

pub returns-in_err-note_name-clause-fault : goal.returns-in_err-note_name-clause-fault
returns-in_err-note_name-clause-fault c =
    let p = err_from_is_err_and c.from_residual.result c.from_residual.ensures.1 in
    let name = tree_name c.index-bodies-number.result in
    rw (p.1, p.2)
    (still_fails (noted_twice (map tree_name c.args.bodies.now) c.loop-number.number name
    (number_by c.loop-number.table) _
    (name_at c.args.bodies.now c.loop-number.number c.index-bodies-number.result
    c.loop-number-test.true c.index-bodies-number.is) c.loop-number.invariant.below
    (c.loop-number.invariant.noted name)) _ c.in_err-note_name.ensures.fault)

pub returns-clause-numbers : goal.returns-clause-numbers
returns-clause-numbers c = λ name.
    sym (or_else-none (number_by c.loop-number.table name))
    ∙ sym (ap (or_else (number_by c.loop-number.table name))
    (at_drop_all (λ trees. number_from c.loop-number.number (map tree_name trees) name)
    c.args.bodies.now c.loop-number.number c.loop-number-test.false))
    ∙ c.loop-number.invariant.noted name

pub returns-clause-places : goal.returns-clause-places
returns-clause-places c =
    all_found (map tree_name c.args.bodies.now) c.loop-number.number
    (number_by c.loop-number.table)
    (omega (arith, length-map c.args.bodies.now tree_name, c.loop-number-test.false))
    (returns-clause-numbers c) c.loop-number.invariant.found
