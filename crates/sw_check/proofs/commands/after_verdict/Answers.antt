use Rattle.std.proofs.Common.{Ok, Err, ap, subst}
use Rattle.std.proofs.lemmas.Result.{err_from_is_err_and}
use Rattle.sw_check_parts.specs.declared.stop.Stop.TheVariants.{Memory}
use Rattle.sw_check_parts.proofs.Doing.{does_on, does_stop, does_alone}
use Rattle.sw_check.specs.Programs.{seen_graph}
use Rattle.sw_check.specs.Reply.{Certifies, EndsWithReply, Orders, Owns, Runs, Traces}
use Rattle.sw_check.specs.Reply.{Verifies, accepted}
use Rattle.sw_check.proofs.commands.after_verdict.Goals as goal

pub returns-in_err-lines-in-Check : goal.returns-in_err-lines-in-Check
returns-in_err-lines-in-Check g c =
    let p = err_from_is_err_and c.from_residual.result c.from_residual.ensures.1 in
    rw (p.1, p.2, c.in-Check.is) (does_alone (EndsWithReply accepted) (Err Memory) tt)

pub returns-in_ok-lines-in-Check : goal.returns-in_ok-lines-in-Check
returns-in_ok-lines-in-Check g c =
    rw c.in-Check.is
    (does_alone (EndsWithReply accepted) (Ok c.in_ok-lines-in-Check.field-0)
    (ap Ok c.in_ok-lines-in-Check.ensures))

pub returns-in_err-certify-in-Certify : goal.returns-in_err-certify-in-Certify
returns-in_err-certify-in-Certify g c =
    let p = err_from_is_err_and c.from_residual-in_err-certify-in-Certify.result
    c.from_residual-in_err-certify-in-Certify.ensures.1 in
    rw (p.1, p.2, c.in-Certify.is)
    (does_alone (Certifies c.args.made.now.graph) (Err Memory) tt)

pub returns-in_ok-certify-in-Certify : goal.returns-in_ok-certify-in-Certify
returns-in_ok-certify-in-Certify g c =
    rw c.in-Certify.is
    (does_alone (Certifies c.args.made.now.graph) (Ok c.in_ok-certify-in-Certify.field-0)
    c.in_ok-certify-in-Certify.ensures)

pub returns-in_err-bytes-in-Verify : goal.returns-in_err-bytes-in-Verify
returns-in_err-bytes-in-Verify g c =
    let p = err_from_is_err_and c.from_residual-in_err-bytes-in-Verify.result
    c.from_residual-in_err-bytes-in-Verify.ensures.1 in
    rw (p.1, p.2, c.in-Verify.is)
    (does_stop _ c.in_err-bytes-in-Verify.field-0.0 c.in_err-bytes-in-Verify.ensures.done)

pub returns-in_err-verified-in-Verify : goal.returns-in_err-verified-in-Verify
returns-in_err-verified-in-Verify g c =
    let p = err_from_is_err_and c.from_residual-in_err-verified-in-Verify.result
    c.from_residual-in_err-verified-in-Verify.ensures.1 in
    let Answers = Verifies c.args.made.now.graph c.in_ok-bytes-in-Verify.bytes in
    rw (p.1, p.2, c.in-Verify.is)
    (does_on c.in_ok-bytes-in-Verify.ensures.done (does_alone Answers (Err Memory) tt))

pub returns-in_ok-verified-in-Verify : goal.returns-in_ok-verified-in-Verify
returns-in_ok-verified-in-Verify g c =
    let outcome = c.in_ok-verified-in-Verify.field-0 in
    let Answers = Verifies c.args.made.now.graph c.in_ok-bytes-in-Verify.bytes in
    rw c.in-Verify.is
    (does_on c.in_ok-bytes-in-Verify.ensures.done
    (does_alone Answers (Ok outcome)
    (subst (λ bytes. Verifies c.args.made.now.graph bytes (Ok outcome))
    c.as_slice.ensures c.in_ok-verified-in-Verify.ensures)))

pub returns-in_err-items-in-Run : goal.returns-in_err-items-in-Run
returns-in_err-items-in-Run g c =
    let p = err_from_is_err_and c.from_residual-in_err-items-in-Run.result
    c.from_residual-in_err-items-in-Run.ensures.1 in
    rw (p.1, p.2, c.in-Run.is)
    (does_stop _ c.in_err-items-in-Run.field-0.0 c.in_err-items-in-Run.ensures)

pub returns-in_err-run-in-Run : goal.returns-in_err-run-in-Run
returns-in_err-run-in-Run g c =
    let p = err_from_is_err_and c.from_residual-in_err-run-in-Run.result
    c.from_residual-in_err-run-in-Run.ensures.1 in
    let Answers = Runs c.args.text.now c.args.made.now.graph c.in_ok-items-in-Run.items in
    rw (p.1, p.2, c.in-Run.is)
    (does_on c.in_ok-items-in-Run.ensures (does_alone Answers (Err Memory) tt))

pub returns-in_ok-run-in-Run : goal.returns-in_ok-run-in-Run
returns-in_ok-run-in-Run g c =
    let Answers = Runs c.args.text.now c.args.made.now.graph c.in_ok-items-in-Run.items in
    rw c.in-Run.is
    (does_on c.in_ok-items-in-Run.ensures
    (does_alone Answers (Ok c.in_ok-run-in-Run.field-0) c.in_ok-run-in-Run.ensures))

pub returns-in_err-items-in-Trace : goal.returns-in_err-items-in-Trace
returns-in_err-items-in-Trace g c =
    let p = err_from_is_err_and c.from_residual-in_err-items-in-Trace.result
    c.from_residual-in_err-items-in-Trace.ensures.1 in
    rw (p.1, p.2, c.in-Trace.is)
    (does_stop _ c.in_err-items-in-Trace.field-0.0 c.in_err-items-in-Trace.ensures)

pub returns-in_err-trace-in-Trace : goal.returns-in_err-trace-in-Trace
returns-in_err-trace-in-Trace g c =
    let p = err_from_is_err_and c.from_residual-in_err-trace-in-Trace.result
    c.from_residual-in_err-trace-in-Trace.ensures.1 in
    let Answers = Traces c.args.text.now c.args.made.now.graph c.in_ok-items-in-Trace.items in
    rw (p.1, p.2, c.in-Trace.is)
    (does_on c.in_ok-items-in-Trace.ensures (does_alone Answers (Err Memory) tt))

pub returns-in_ok-trace-in-Trace : goal.returns-in_ok-trace-in-Trace
returns-in_ok-trace-in-Trace g c =
    let Answers = Traces c.args.text.now c.args.made.now.graph c.in_ok-items-in-Trace.items in
    rw c.in-Trace.is
    (does_on c.in_ok-items-in-Trace.ensures
    (does_alone Answers (Ok c.in_ok-trace-in-Trace.field-0) c.in_ok-trace-in-Trace.ensures))

pub returns-in_err-items-in-Owners : goal.returns-in_err-items-in-Owners
returns-in_err-items-in-Owners g c =
    let p = err_from_is_err_and c.from_residual-in_err-items-in-Owners.result
    c.from_residual-in_err-items-in-Owners.ensures.1 in
    rw (p.1, p.2, c.in-Owners.is)
    (does_stop _ c.in_err-items-in-Owners.field-0.0 c.in_err-items-in-Owners.ensures)

pub returns-in_err-owners-in-Owners : goal.returns-in_err-owners-in-Owners
returns-in_err-owners-in-Owners g c =
    let p = err_from_is_err_and c.from_residual-in_err-owners-in-Owners.result
    c.from_residual-in_err-owners-in-Owners.ensures.1 in
    let Answers = Owns c.args.text.now (seen_graph c.args.made.now) c.in_ok-items-in-Owners.items in
    rw (p.1, p.2, c.in-Owners.is)
    (does_on c.in_ok-items-in-Owners.ensures (does_alone Answers (Err Memory) tt))

pub returns-in_ok-owners-in-Owners : goal.returns-in_ok-owners-in-Owners
returns-in_ok-owners-in-Owners g c =
    let Answers = Owns c.args.text.now (seen_graph c.args.made.now) c.in_ok-items-in-Owners.items in
    rw c.in-Owners.is
    (does_on c.in_ok-items-in-Owners.ensures
    (does_alone Answers (Ok c.in_ok-owners-in-Owners.field-0) c.in_ok-owners-in-Owners.ensures))

pub returns-in_err-items-in-Order : goal.returns-in_err-items-in-Order
returns-in_err-items-in-Order g c =
    let p = err_from_is_err_and c.from_residual-in_err-items-in-Order.result
    c.from_residual-in_err-items-in-Order.ensures.1 in
    rw (p.1, p.2, c.in-Order.is)
    (does_stop _ c.in_err-items-in-Order.field-0.0 c.in_err-items-in-Order.ensures)

pub returns-in_err-order-in-Order : goal.returns-in_err-order-in-Order
returns-in_err-order-in-Order g c =
    let p = err_from_is_err_and c.from_residual-in_err-order-in-Order.result
    c.from_residual-in_err-order-in-Order.ensures.1 in
    let Answers = Orders c.args.text.now c.args.made.now.graph c.in_ok-items-in-Order.items in
    rw (p.1, p.2, c.in-Order.is)
    (does_on c.in_ok-items-in-Order.ensures (does_alone Answers (Err Memory) tt))

pub returns-in_ok-order-in-Order : goal.returns-in_ok-order-in-Order
returns-in_ok-order-in-Order g c =
    let Answers = Orders c.args.text.now c.args.made.now.graph c.in_ok-items-in-Order.items in
    rw c.in-Order.is
    (does_on c.in_ok-items-in-Order.ensures
    (does_alone Answers (Ok c.in_ok-order-in-Order.field-0) c.in_ok-order-in-Order.ensures))
