use Rattle.sw_secure_late_facts.proofs.Coloured.{keep_numbers, take_own}
use Rattle.sw_secure_late_facts.proofs.laws.late_owners_keep_their_numbers.Goals as goal

pub returns : goal.returns
returns c = record { keep = keep_numbers; take = take_own }
