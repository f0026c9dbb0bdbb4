use Rattle.std.proofs.Common.{List, ℕ, subst}
use Rattle.std.proofs.lemmas.Result.{err_from_is_err_and}
use Rattle.sw_cert.proofs.Naming.{Names}
use Rattle.sw_cert.specs.Begun.{IsStuck}
use Rattle.sw_cert.specs.Slips.{IfBad}
use Rattle.sw_cert.proofs.classes.read_class.Goals as goal

pub returns-in_err-class-clause-bad : goal.returns-in_err-class-clause-bad
returns-in_err-class-clause-bad c =
    let slip = err_from_is_err_and c.from_residual.result c.from_residual.ensures.1 in
    rw (slip.1, slip.2)
    (subst (λ (l : List ℕ). IfBad (IsStuck (Names l) c.args.text.now c.args.at) c.in_err-class.field-0.0)
    c.as_slice.ensures c.in_err-class.ensures.bad)
