use Rattle.std.proofs.Common.{ap, arith, length}
use Rattle.sw_decl_words.proofs.WithinLemmas.{shapes_few}
use Rattle.sw_decl_words.specs.Evident.{meanings_of}
use Rattle.sw_verdict.proofs.Meant.{meant_apart, meant_graph, meant_named}
use Rattle.sw_verdict.proofs.Races.{found_shared}
use Rattle.sw_verdict.proofs.judging.shared_of.Goals as goal

pub race_forms-requires : goal.race_forms-requires
race_forms-requires c =
    let decls = c.in_ok-spelled.field-0.spelled.program.decls in
    let meant = c.in_ok-spelled.ensures.meant in
    let few = shapes_few (meanings_of decls) decls in
    let same = ap length meant.analysed.declared.shapes in
    omega (arith, few, same, meant.spelled.few)

pub graph_with_names-requires-clause-apart : goal.graph_with_names-requires-clause-apart
graph_with_names-requires-clause-apart c =
    meant_apart c.args.text.now c.in_ok-spelled.field-0.spelled c.in_ok-spelled.ensures.meant.spelled

pub graph_with_names-requires-clause-named : goal.graph_with_names-requires-clause-named
graph_with_names-requires-clause-named c =
    meant_named c.args.text.now c.in_ok-spelled.field-0.spelled c.in_ok-spelled.ensures.meant.spelled

pub returns-clause-found : goal.returns-clause-found
returns-clause-found c =
    let text = c.args.text.now in
    let meaning = c.in_ok-spelled.field-0 in
    let meant = c.in_ok-spelled.ensures.meant in
    record {
      made = meant_graph c.args.default text meaning c.in_ok-made.made meant
          c.in_ok-spelled.ensures.decided c.in_ok-made.ensures.graph c.in_ok-made.ensures.actors;
      shared = found_shared c.args.default text meaning.spelled meaning.found c.in_ok-shared.shared
          meant.spelled meant.analysed
          (c.in_ok-shared.ensures meaning.spelled.program.decls meant.analysed.isolated);
    }
