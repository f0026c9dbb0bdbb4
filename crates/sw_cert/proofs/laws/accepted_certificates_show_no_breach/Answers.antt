use Rattle.sw_region_flow.proofs.Certifying.{certified_passes}
use Rattle.sw_cert.specs.Reading.{states_of}
use Rattle.sw_cert.proofs.laws.accepted_certificates_show_no_breach.Goals as goal

pub returns : goal.returns
returns c graph bytes accepted = certified_passes graph (λ number body is.
    (states_of accepted.annotations number, accepted.certified number body is))
