use Rattle.sw_cert.proofs.Oneway.{ok_exactly}
use Rattle.sw_cert.proofs.laws.accepted_certificates_are_ok.Goals as goal

pub returns : goal.returns
returns c graph bytes = ok_exactly graph bytes
