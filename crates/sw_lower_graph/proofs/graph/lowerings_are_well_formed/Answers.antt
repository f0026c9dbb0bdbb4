use Rattle.std.proofs.Common.{map, subst, sym}
use Rattle.sw_graph.specs.WellFormed.{IsWellFormed}
use Rattle.sw_typing_rules.specs.Worlds.{world_of}
use Rattle.sw_lower_rules.specs.Bodies.{AreOrdered, global_kind, tables_of}
use Rattle.sw_lower_graph.proofs.graph.lowerings_are_well_formed.Goals as goal

pub returns : goal.returns
returns c = λ decls rule declared typed isolation lowering keyed apart sound. λ is_declared is_typed
    well is.
    let world = world_of declared in
    subst (λ functions. IsWellFormed world.shapes (map global_kind world.globals) functions
    lowering.entry lowering.starts) (sym is.has.are_those)
    (c.programs_have_well_formed_graphs.ensures decls rule world isolation is.has.ordered
    lowering.entry lowering.starts keyed apart sound
    (c.programs_have_one_world.ensures.declared decls rule declared is_declared) well
    (subst (λ answers. AreOrdered (tables_of world answers isolation decls) decls is.has.ordered)
    (c.answers_are_those_of_the_program.ensures world decls typed is_typed) is.has.are_ordered)
    is.has.numbered is.has.made is.entry is.starts)
