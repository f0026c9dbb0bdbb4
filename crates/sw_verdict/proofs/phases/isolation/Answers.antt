use Rattle.std.proofs.Common.{None, subst}
use Rattle.sw_isolation_table.proofs.Answering.{answers_are_said}
use Rattle.sw_isolation_table.specs.Known.{answers_of}
use Rattle.sw_isolation.specs.Refused.{IsIsolationFault}
use Rattle.sw_isolation.specs.declared.isolating.IsoFault.TheVariants.{Breach}
use Rattle.sw_isolation_rules.specs.Programs.{IsFirstRefusal}
use Rattle.sw_typing_rules.specs.Worlds.{world_of}
use Rattle.sw_verdict.specs.Phases.{FirstRefusal}
use Rattle.sw_verdict.proofs.Finding.{found_in, none_in_world, world_of_text}
use Rattle.sw_verdict.proofs.phases.isolation.Goals as goal

pub returns-in-Ok-clause-found : goal.returns-in-Ok-clause-found
returns-in-Ok-clause-found c rule text declared program =
    let decls = c.args.program.now.decls in
    let world = world_of c.args.declared.now in
    none_in_world FirstRefusal rule text decls world
    (world_of_text rule text decls c.args.declared.now declared program)
    (subst (λ answers. IsFirstRefusal world answers decls None)
    (answers_are_said world decls c.args.typed.now c.requires.typed) c.in-Ok.ensures.none)

pub returns-in-Err-Breach-clause-found : goal.returns-in-Err-Breach-clause-found
returns-in-Err-Breach-clause-found c rule text declared program =
    let decls = c.args.program.now.decls in
    let world = world_of c.args.declared.now in
    found_in FirstRefusal rule text decls world c.in-Err-Breach.code c.in-Err-Breach.at _
    (world_of_text rule text decls c.args.declared.now declared program)
    (subst (λ answers. IsIsolationFault world answers decls
    (Breach c.in-Err-Breach.code c.in-Err-Breach.at))
    (answers_are_said world decls c.args.typed.now c.requires.typed)
    (subst (IsIsolationFault world (answers_of c.args.typed.now) decls) c.in-Err-Breach.field-0-is
    c.in-Err-Breach.ensures.refused))
    c.refused.ensures
