use Rattle.std.proofs.Common.{subst}
use Rattle.sw_typing.specs.Ill.{IsIllProgram}
use Rattle.sw_typing_rules.specs.Programs.{IsFirstIll}
use Rattle.sw_typing_rules.specs.Worlds.{world_of}
use Rattle.sw_verdict.proofs.Finding.{found_in, none_in_world, world_of_text}
use Rattle.sw_verdict.proofs.phases.types.Goals as goal

pub returns-in-Ok-clause-found : goal.returns-in-Ok-clause-found
returns-in-Ok-clause-found c rule text declared program =
    let decls = c.args.program.now.decls in
    none_in_world IsFirstIll rule text decls (world_of c.args.declared.now)
    (world_of_text rule text decls c.args.declared.now declared program) c.in-Ok.ensures.none

pub returns-in-Err-Breach-clause-found : goal.returns-in-Err-Breach-clause-found
returns-in-Err-Breach-clause-found c rule text declared program =
    let decls = c.args.program.now.decls in
    let world = world_of c.args.declared.now in
    found_in IsFirstIll rule text decls world c.in-Err-Breach.code c.in-Err-Breach.at _
    (world_of_text rule text decls c.args.declared.now declared program)
    (subst (IsIllProgram world decls) c.in-Err-Breach.field-0-is c.in-Err-Breach.ensures.ill)
    c.refused.ensures
