use Rattle.sw_lower_size_facts.proofs.Bodies.{bodies_are_short, program_short}
use Rattle.sw_lower_size_facts.proofs.laws.bodies_are_short.Goals as goal

pub returns-clause-few : goal.returns-clause-few
returns-clause-few c tables decls = (program_short tables decls).few

pub returns-clause-short : goal.returns-clause-short
returns-clause-short c = bodies_are_short
