use Rattle.std.proofs.Common.{refl}
use Rattle.sw_breach.specs.Codes.{text_of, texts}
use Rattle.sw_see_breaches.specs.Remedies.{remedies, remedy_of}
use Rattle.sw_see_breaches.proofs.RowLemmas.{same_codes}
use Rattle.sw_see_breaches.proofs.laws.codes_have_remedies.Goals as goal

pub returns : goal.returns
unfolding text_of texts remedies remedy_of
returns c code is = same_codes texts remedies code refl is
