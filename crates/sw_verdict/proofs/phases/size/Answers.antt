use Rattle.std.proofs.Common.{None, subst}
use Rattle.sw_isolation_table.specs.Known.{answers_of}
use Rattle.sw_lower.specs.Lowered.{IsFaultOf}
use Rattle.sw_lower.specs.declared.fault.LowerFault.TheVariants.{Breach}
use Rattle.sw_lower_known.specs.Knowledge.{isolation_of}
use Rattle.sw_lower_rules.specs.Bodies.{IsFirstTooLarge, Lacks, tables_of}
use Rattle.sw_lower_total_facts.proofs.Lowering.{lacks_nothing}
use Rattle.sw_typing_rules.specs.Worlds.{world_of}
use Rattle.sw_verdict.specs.Phases.{FirstTooLarge}
use Rattle.sw_verdict.proofs.Finding.{found_in, none_in_world, world_of_text}
use Rattle.sw_verdict.proofs.Programs.{program_welltyped}
use Rattle.sw_verdict.proofs.Tables.{tables_are_said}
use Rattle.sw_verdict.proofs.phases.size.Goals as goal

pub returns-in-Ok-clause-found : goal.returns-in-Ok-clause-found
returns-in-Ok-clause-found c rule text declared program =
    let decls = c.args.program.now.decls in
    let world = world_of c.args.declared.now in
    none_in_world FirstTooLarge rule text decls world
    (world_of_text rule text decls c.args.declared.now declared program)
    (subst (λ tables. IsFirstTooLarge tables decls None)
    (tables_are_said world decls c.args.typed.now c.args.isolated.now c.requires.typed
    c.requires.isolated) c.in-Ok.ensures.none)

pub returns-in-Err-Breach-clause-found : goal.returns-in-Err-Breach-clause-found
returns-in-Err-Breach-clause-found c rule text declared program =
    let decls = c.args.program.now.decls in
    let world = world_of c.args.declared.now in
    let tables = tables_of world (answers_of c.args.typed.now)
    (isolation_of c.args.isolated.now) decls in
    found_in FirstTooLarge rule text decls world c.in-Err-Breach.code c.in-Err-Breach.at _
    (world_of_text rule text decls c.args.declared.now declared program)
    (subst (λ tables. IsFaultOf tables decls (Breach c.in-Err-Breach.code c.in-Err-Breach.at))
    (tables_are_said world decls c.args.typed.now c.args.isolated.now c.requires.typed
    c.requires.isolated)
    (subst (IsFaultOf tables decls) c.in-Err-Breach.field-0-is c.in-Err-Breach.ensures.first))
    c.refused.ensures

pub unreachable-requires : goal.unreachable-requires
unreachable-requires c =
    let decls = c.args.program.now.decls in
    let world = world_of c.args.declared.now in
    let tables = tables_of world (answers_of c.args.typed.now)
    (isolation_of c.args.isolated.now) decls in
    let (text, program) = c.requires.spelled in
    let (rule, declared) = c.requires.declared in
    let has_world = world_of_text rule text decls c.args.declared.now declared program in
    lacks_nothing decls rule world
    (program_welltyped text program.tokens decls rule world program.are_tokens program.is_program
    c.requires.sound has_world.is_world c.requires.well)
    (subst (λ tables. Lacks tables decls)
    (tables_are_said world decls c.args.typed.now c.args.isolated.now c.requires.typed
    c.requires.isolated)
    (subst (IsFaultOf tables decls) c.in-Err-Missing.field-0-is c.in-Err-Missing.ensures.first))
