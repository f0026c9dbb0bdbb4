use Rattle.sw_cert.proofs.Oneway.{one_verified}
use Rattle.sw_cert.proofs.SomeVerified.{some_verified}
use Rattle.sw_cert.proofs.laws.texts_are_verified_in_one_way.Goals as goal

pub returns : goal.returns
returns c = record { some = some_verified; one = one_verified }
