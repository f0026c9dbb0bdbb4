use Rattle.sw_grammar_facts.proofs.CaseWords.{cases_are_apart}
use Rattle.sw_grammar_facts.proofs.KeysDiffer.{spelled_are_keyed}
use Rattle.sw_grammar_facts.proofs.NamesKnown.{spelled_are_named}
use Rattle.sw_grammar_facts.proofs.Scopes.Told.{spelled_are_scoped}
use Rattle.sw_grammar_facts.proofs.TextForms.{globals_are_valued, are_written}
use Rattle.sw_grammar_facts.proofs.spelled_declarations_are_programs.Goals as goal

pub returns : goal.returns
returns c = record {
  keyed = spelled_are_keyed;
  apart = cases_are_apart;
  scoped = spelled_are_scoped;
  valued = globals_are_valued;
  written = are_written;
  named = spelled_are_named;
}
