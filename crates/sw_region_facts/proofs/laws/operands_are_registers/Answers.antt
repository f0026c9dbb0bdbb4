use Rattle.sw_region_facts.proofs.Passed.{tracked_operand, arguments, argument_in, places_differ}
use Rattle.sw_region_facts.proofs.laws.operands_are_registers.Goals as goal

pub returns : goal.returns
returns c = record {
  tracked = tracked_operand;
  argument = arguments;
  passed = argument_in;
  places = places_differ;
}
