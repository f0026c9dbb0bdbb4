use Rattle.sw_region_facts.proofs.Annotated.{numbers_of_registers}
use Rattle.sw_region_facts.proofs.laws.registers_have_own_numbers.Goals as goal

pub returns : goal.returns
returns c = numbers_of_registers
