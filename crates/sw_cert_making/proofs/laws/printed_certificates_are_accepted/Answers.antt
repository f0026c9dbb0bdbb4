use Rattle.sw_cert_making.proofs.Accepted.{is_accepted}
use Rattle.sw_cert_making.proofs.laws.printed_certificates_are_accepted.Goals as goal

pub returns : goal.returns
returns c = λ graph text none made. is_accepted graph text made none
