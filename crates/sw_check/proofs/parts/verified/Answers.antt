use Rattle.sw_check.proofs.PartLemmas.{verified_answered, verified_refused}
use Rattle.sw_check.proofs.parts.verified.Goals as goal

pub returns-in-Ok : goal.returns-in-Ok
returns-in-Ok c =
    verified_answered c.args.graph.now c.args.bytes.now tt _ (c.in-Ok.ensures.verified (λ e. cc))
    c.lines.ensures

pub returns-in-Err : goal.returns-in-Err
returns-in-Err c =
    verified_refused c.args.graph.now c.args.bytes.now c.in-Err.fault _ c.bad_certificate.ensures
    (λ not. c.in-Err.ensures.verified (λ e. not (cc (e))))
