use Rattle.std.proofs.Common.{length, subst}
use Rattle.sw_cert.specs.Flows.{IsMostOf}
use Rattle.sw_cert.proofs.Forming.{form_fits}
use Rattle.sw_cert.proofs.flows.form_of.Goals as goal

pub returns-clause-form : goal.returns-clause-form
returns-clause-form c = form_fits c.args.flows.now c.in_ok-extents.extents c.in_ok-scale.scale
    c.most_of-count.result c.requires c.in_ok-extents.ensures.value c.in_ok-extents.ensures.small
    (subst (λ es. IsMostOf es (length es) c.most_of-count.result) c.as_slice.ensures
    c.most_of-count.ensures) c.most_of-count.type_inv c.in_ok-scale.ensures.length
    c.in_ok-scale.ensures.scale
