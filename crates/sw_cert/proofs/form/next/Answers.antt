use Rattle.sw_dictation.specs.Numbers.{IsOffered, IsSaid}
use Rattle.std.proofs.Common.{subst}
use Rattle.sw_cert.proofs.Slices.{rest_is, next_said}
use Rattle.sw_cert.proofs.form.next.Goals as goal

pub returns-in-Ok-clause-said : goal.returns-in-Ok-clause-said
returns-in-Ok-clause-said c =
    next_said (IsOffered c.args.ending.now c.args.going.now) c.args.text.now c.args.at
    c.in-Ok.number c.in-Ok.len c.requires
    (subst (λ l. IsSaid (IsOffered c.args.ending.now c.args.going.now) l c.in-Ok.number
    c.in-Ok.len) (rest_is c.args.text.now c.args.at) c.in-Ok.ensures.ok)
