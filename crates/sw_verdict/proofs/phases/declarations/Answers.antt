use Rattle.std.proofs.Common.{subst}
use Rattle.sw_decls.specs.Declaring.{IsDeclarationFault}
use Rattle.sw_verdict.specs.Phases.{keeps_all}
use Rattle.sw_verdict.proofs.Finding.{found_first}
use Rattle.sw_verdict.proofs.phases.declarations.Goals as goal

pub returns-in-Ok-clause-found : goal.returns-in-Ok-clause-found
returns-in-Ok-clause-found c text program = record {
  decls = c.args.program.now.decls;
  program = program;
  finds = keeps_all c.in-Ok.ensures.none;
}

pub returns-in-Err-Breach-clause-found : goal.returns-in-Err-Breach-clause-found
returns-in-Err-Breach-clause-found c text program =
    found_first text c.args.program.now.decls c.in-Err-Breach.code c.in-Err-Breach.at _ program
    (subst (IsDeclarationFault c.args.program.now.decls) c.in-Err-Breach.field-0-is
    c.in-Err-Breach.ensures.refused)
    c.refused.ensures
