use Rattle.std.proofs.Common.{map, arith, ap, subst, sym, ◌∙◌}
use Rattle.sw_tree.specs.Contents.{AreKeyed}
use Rattle.sw_graph.specs.WellFormed.{IsWellFormed}
use Rattle.sw_lower_known.specs.Knowledge.{isolation_of}
use Rattle.sw_lower_rules.specs.Bodies.{global_kind}
use Rattle.sw_lower_graph.proofs.graph.graph_of.Goals as goal

pub new-requires : goal.new-requires
new-requires c =
    let lowering = c.args.lowering in
    let well = c.lowerings_are_well_formed.ensures c.args.program.now.decls c.requires.declared.0
    c.args.declared c.args.typed.now (isolation_of c.args.isolated.now) lowering
    (subst AreKeyed c.decls-decls.ensures.value c.decls-decls.ensures.keyed) c.requires.apart
    c.requires.sound c.requires.declared.1 c.requires.typed c.requires.well c.requires.lowering in
    record {
      numbered = λ k d below. omega (arith, (well.limits k d below).points);
    }

pub new-requires-2 : goal.new-requires-2
new-requires-2 c =
    let lowering = c.args.lowering in
    let shapes = c.args.declared.shapes in
    let well = c.lowerings_are_well_formed.ensures c.args.program.now.decls c.requires.declared.0
    c.args.declared c.args.typed.now (isolation_of c.args.isolated.now) lowering
    (subst AreKeyed c.decls-decls.ensures.value c.decls-decls.ensures.keyed) c.requires.apart
    c.requires.sound c.requires.declared.1 c.requires.typed c.requires.well c.requires.lowering in
    subst (λ globals. IsWellFormed shapes globals c.in_ok-functions.functions lowering.entry
    lowering.starts) (sym (c.in_ok-globals.ensures ∙ ap (map global_kind) c.as_slice.ensures))
    (subst (λ functions. IsWellFormed shapes (map global_kind c.args.declared.globals) functions
    lowering.entry lowering.starts) (sym c.in_ok-functions.ensures.functions) well)
