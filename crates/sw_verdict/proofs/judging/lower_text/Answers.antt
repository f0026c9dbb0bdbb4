use Rattle.sw_verdict.proofs.Meant.{meant_apart, meant_graph, meant_named}
use Rattle.sw_verdict.proofs.judging.lower_text.Goals as goal

pub graph_with_names-requires-clause-apart : goal.graph_with_names-requires-clause-apart
graph_with_names-requires-clause-apart c =
    meant_apart c.args.text.now c.in_ok-spelled.field-0.spelled c.in_ok-spelled.ensures.meant.spelled

pub graph_with_names-requires-clause-named : goal.graph_with_names-requires-clause-named
graph_with_names-requires-clause-named c =
    meant_named c.args.text.now c.in_ok-spelled.field-0.spelled c.in_ok-spelled.ensures.meant.spelled

pub returns-clause-made : goal.returns-clause-made
returns-clause-made c =
    meant_graph c.args.default c.args.text.now c.in_ok-spelled.field-0 c.in_ok-made.made
    c.in_ok-spelled.ensures.meant c.in_ok-spelled.ensures.decided c.in_ok-made.ensures.graph
    c.in_ok-made.ensures.actors
