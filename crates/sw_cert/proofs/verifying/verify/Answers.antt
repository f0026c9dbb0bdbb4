use Rattle.std.proofs.Common.{map, sym, subst, arith}
use Rattle.std.proofs.lemmas.Result.{err_from_is_err_and}
use Rattle.std.specs.List.{AllByRecursion}
use Rattle.sw_cert.specs.Certificate.{IsCertificate}
use Rattle.sw_cert.specs.Flows.{AreFlows, AreSized, extent_for}
use Rattle.sw_cert.specs.Tables.{IsLineIn, AreTabled}
use Rattle.sw_cert.specs.Tests.{IfNotRead, IsFirstBelow}
use Rattle.sw_cert.proofs.Covering.{first_few}
use Rattle.sw_cert.proofs.Judging.{lines_in, lines_on, entry_answer, last_answer, read_result}
use Rattle.sw_cert.proofs.Judging.{fit_extents}
use Rattle.sw_cert.proofs.verifying.verify.Goals as goal

pub form_of-requires : goal.form_of-requires
form_of-requires c = subst AreSized (sym c.as_slice-flows.ensures) c.in_ok-flows.ensures.sized

pub returns-in_err-lines-clause-verified : goal.returns-in_err-lines-clause-verified
returns-in_err-lines-clause-verified c =
    let fault = err_from_is_err_and c.from_residual-in_err-lines.result
    c.from_residual-in_err-lines.ensures.1 in
    read_result c.args.graph.now c.as_slice-flows.result.now
    (subst (AreFlows c.args.graph.now) (sym c.as_slice-flows.ensures) c.in_ok-flows.ensures.flows)
    (subst AreSized (sym c.as_slice-flows.ensures) c.in_ok-flows.ensures.sized)
    c.in_ok-form.form.extents c.in_ok-form.ensures.extents c.args.bytes.now
    c.from_residual-in_err-lines.result fault.0 fault.1
    (subst (IfNotRead c.in_ok-form.form.extents c.args.bytes.now) (sym fault.2)
    c.in_err-lines.ensures.bad)

pub returns-in_err-lines-clause-fit : goal.returns-in_err-lines-clause-fit
returns-in_err-lines-clause-fit c = λ not.
    fit_extents c.args.graph.now c.as_slice-flows.result.now
    (subst (AreFlows c.args.graph.now) (sym c.as_slice-flows.ensures) c.in_ok-flows.ensures.flows)
    (subst AreSized (sym c.as_slice-flows.ensures) c.in_ok-flows.ensures.sized)
    c.in_ok-form.form.extents c.in_ok-form.ensures.extents c.in_ok-form.ensures.form.fit

pub tables_of-requires-clause-sized : goal.tables_of-requires-clause-sized
tables_of-requires-clause-sized c =
    subst AreSized (sym c.as_slice-flows.ensures) c.in_ok-flows.ensures.sized

pub tables_of-requires-clause-lines : goal.tables_of-requires-clause-lines
tables_of-requires-clause-lines c =
    subst (AllByRecursion (IsLineIn (map extent_for c.as_slice-flows.result.now)))
    (sym c.as_slice-lines.ensures)
    (lines_in c.as_slice-flows.result.now c.in_ok-form.form.extents c.args.bytes.now
    c.in_ok-lines.lines c.in_ok-form.ensures.extents c.in_ok-lines.ensures.lines)

pub overflow_cast-result : goal.overflow_cast-result
overflow_cast-result c = omega (
  arith,
  first_few c.as_slice-flows.result.now c.in_ok-form.form.extents c.args.bytes.now
      c.as_slice-lines.result.now c.as_slice-tables.result.now
      (subst (IsCertificate c.in_ok-form.form.extents c.args.bytes.now)
      (sym c.as_slice-lines.ensures) c.in_ok-lines.ensures.lines)
      (subst (AreTabled c.as_slice-flows.result.now c.as_slice-lines.result.now)
      (sym c.as_slice-tables.ensures) c.in_ok-tables.ensures) c.requires c.in-Some.function
      c.in-Some.ensures,
)

pub returns-in-Some-clause-verified : goal.returns-in-Some-clause-verified
returns-in-Some-clause-verified c = λ not.
    entry_answer c.args.graph.now c.as_slice-flows.result.now
    (subst (AreFlows c.args.graph.now) (sym c.as_slice-flows.ensures) c.in_ok-flows.ensures.flows)
    (subst AreSized (sym c.as_slice-flows.ensures) c.in_ok-flows.ensures.sized) c.args.bytes.now
    c.as_slice-lines.result.now c.as_slice-tables.result.now
    (subst (λ es. IsCertificate es c.args.bytes.now c.as_slice-lines.result.now)
    c.in_ok-form.ensures.extents
    (subst (IsCertificate c.in_ok-form.form.extents c.args.bytes.now)
    (sym c.as_slice-lines.ensures) c.in_ok-lines.ensures.lines))
    (subst (AreTabled c.as_slice-flows.result.now c.as_slice-lines.result.now)
    (sym c.as_slice-tables.ensures) c.in_ok-tables.ensures) c.in-Some.function
    c.in-Some.ensures

pub returns-in-Some-clause-fit : goal.returns-in-Some-clause-fit
returns-in-Some-clause-fit c = λ not.
    fit_extents c.args.graph.now c.as_slice-flows.result.now
    (subst (AreFlows c.args.graph.now) (sym c.as_slice-flows.ensures) c.in_ok-flows.ensures.flows)
    (subst AreSized (sym c.as_slice-flows.ensures) c.in_ok-flows.ensures.sized)
    c.in_ok-form.form.extents c.in_ok-form.ensures.extents c.in_ok-form.ensures.form.fit

pub test_lines-requires-clause-sized : goal.test_lines-requires-clause-sized
test_lines-requires-clause-sized c =
    subst AreSized (sym c.as_slice-flows.ensures) c.in_ok-flows.ensures.sized

pub test_lines-requires-clause-lines : goal.test_lines-requires-clause-lines
test_lines-requires-clause-lines c =
    lines_on c.as_slice-flows.result.now c.as_slice-lines.result.now
    (subst (AllByRecursion (IsLineIn (map extent_for c.as_slice-flows.result.now)))
    (sym c.as_slice-lines.ensures)
    (lines_in c.as_slice-flows.result.now c.in_ok-form.form.extents c.args.bytes.now
    c.in_ok-lines.lines c.in_ok-form.ensures.extents c.in_ok-lines.ensures.lines))

pub returns-clause-verified : goal.returns-clause-verified
returns-clause-verified c =
    last_answer c.args.graph.now c.as_slice-flows.result.now
    (subst (AreFlows c.args.graph.now) (sym c.as_slice-flows.ensures) c.in_ok-flows.ensures.flows)
    (subst AreSized (sym c.as_slice-flows.ensures) c.in_ok-flows.ensures.sized) c.args.bytes.now
    c.as_slice-lines.result.now c.as_slice-tables.result.now
    (subst (λ es. IsCertificate es c.args.bytes.now c.as_slice-lines.result.now)
    c.in_ok-form.ensures.extents
    (subst (IsCertificate c.in_ok-form.form.extents c.args.bytes.now)
    (sym c.as_slice-lines.ensures) c.in_ok-lines.ensures.lines))
    (subst (AreTabled c.as_slice-flows.result.now c.as_slice-lines.result.now)
    (sym c.as_slice-tables.ensures) c.in_ok-tables.ensures)
    (subst (IsFirstBelow c.as_slice-flows.result.now c.as_slice-tables.result.now)
    c.in_default.is c.first_not_entered.ensures) c.test_lines.result c.test_lines.ensures.holds
    c.test_lines.ensures.fault

pub returns-clause-fit : goal.returns-clause-fit
returns-clause-fit c = λ not.
    fit_extents c.args.graph.now c.as_slice-flows.result.now
    (subst (AreFlows c.args.graph.now) (sym c.as_slice-flows.ensures) c.in_ok-flows.ensures.flows)
    (subst AreSized (sym c.as_slice-flows.ensures) c.in_ok-flows.ensures.sized)
    c.in_ok-form.form.extents c.in_ok-form.ensures.extents c.in_ok-form.ensures.form.fit
