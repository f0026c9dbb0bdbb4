use Rattle.std.proofs.Common.{refl, subst}
use Rattle.sw_dictation.specs.Numbers.{BeginsWith}
use Rattle.sw_cert.specs.Begun.{IsJust}
use Rattle.sw_cert.proofs.Slices.{rest_is, next_begins}
use Rattle.sw_cert.proofs.form.number_at.Goals as goal

pub returns : goal.returns
returns c =
    next_begins (IsJust c.in_ok-number.number c.in_ok-number.closer) c.args.text.now c.args.at
    c.in_ok-number.number c.in_ok-number.closer c.in_ok-number.len c.requires (refl, refl)
    (subst (BeginsWith c.in_ok-number.number c.in_ok-number.closer)
    (rest_is c.args.text.now c.args.at) c.in_ok-number.ensures.0) c.in_ok-number.ensures.1
