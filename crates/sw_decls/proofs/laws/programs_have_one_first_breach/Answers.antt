use Rattle.sw_decls.proofs.BreachCodes.{first_is_coded}
use Rattle.sw_decls.proofs.OneFirst.{one_first_breach}
use Rattle.sw_decls.proofs.SomeFirst.{some_first_breach}
use Rattle.sw_decls.proofs.laws.programs_have_one_first_breach.Goals as goal

pub returns : goal.returns
returns c = record { some = some_first_breach; one = one_first_breach; codes = first_is_coded }
