use Rattle.sw_parse_decl.proofs.ProgramFaults.{decided, one_program, one_fault, never_both}
use Rattle.sw_parse_decl.proofs.laws.tokens_have_one_answer.Goals as goal

pub returns : goal.returns
returns c = record {
  decided = decided;
  one_program = one_program;
  one_fault = one_fault;
  never_both = never_both;
}
