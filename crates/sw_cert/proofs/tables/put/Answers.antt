use Rattle.std.proofs.Common.{refl}
use Rattle.sw_cert.proofs.Putting.{entry_some, entry_line, function_within, block_within, tabled}
use Rattle.sw_cert.proofs.tables.put.Goals as goal

pub state_for-requires-clause-some : goal.state_for-requires-clause-some
state_for-requires-clause-some c = entry_some c.args.flows.now c.requires.sized c.args.line.now
    c.requires.line c.index-flows-line.result _ refl

pub state_for-requires-clause-line : goal.state_for-requires-clause-line
state_for-requires-clause-line c = entry_line c.args.flows.now c.requires.sized c.args.line.now
    c.requires.line c.index-flows-line.result _ _ refl refl

pub at_mut-table-requires : goal.at_mut-table-requires
at_mut-table-requires c = function_within c.args.flows.now c.requires.sized c.args.line.now
    c.requires.line c.index-flows-line.result _ c.requires.tables

pub set-requires : goal.set-requires
set-requires c = block_within c.args.flows.now c.requires.sized c.args.line.now c.requires.line
    c.index-flows-line.result c.args.tables.now c.at_mut-table.result.now c.requires.places
    c.at_mut-table.ensures.value

pub returns-clause-tabled : goal.returns-clause-tabled
returns-clause-tabled c = tabled c.args.flows.now c.requires.sized c.args.line.now c.requires.line
    c.index-flows-line.result c.args.tables.now c.at_mut-table.result.now c.set.new.self
    _ _ c.in_ok-state.state refl refl c.in_ok-state.ensures.size c.in_ok-state.ensures.shows
    c.at_mut-table.ensures.value c.set.ensures
