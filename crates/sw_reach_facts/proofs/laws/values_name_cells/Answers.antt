use Rattle.sw_reach_facts.proofs.NamedLemmas as named
use Rattle.sw_reach_facts.proofs.laws.values_name_cells.Goals as goal

pub returns : goal.returns
returns c = record {
  registers = named.registers_named;
  globals = named.globals_named;
  contents = named.contents_named;
  results = named.results_named;
}
