use Rattle.sw_isolation_table.proofs.Answering.{answers_are_said}
use Rattle.sw_isolation_table.proofs.laws.answers_are_those_of_the_program.Goals as goal

pub returns : goal.returns
returns c = answers_are_said
