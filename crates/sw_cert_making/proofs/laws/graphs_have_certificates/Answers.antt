use Rattle.sw_cert_making.proofs.OneCertificate.{one_certificate}
use Rattle.sw_cert_making.proofs.Whole.{some_certificate}
use Rattle.sw_cert_making.proofs.laws.graphs_have_certificates.Goals as goal

pub returns : goal.returns
returns c = record { some = some_certificate; one = one_certificate }
