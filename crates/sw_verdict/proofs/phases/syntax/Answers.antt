use Rattle.sw_verdict.specs.Phases.{spells_program}
use Rattle.sw_verdict.proofs.Finding.{found_syntax_fault}
use Rattle.sw_verdict.proofs.phases.syntax.Goals as goal

pub returns-in-Ok-clause-found : goal.returns-in-Ok-clause-found
returns-in-Ok-clause-found c =
    spells_program c.in-Ok.program.decls (record {
      tokens = c.args.tokens.now;
      are_tokens = c.requires;
      is_program = c.in-Ok.ensures.decls;
    })

pub returns-in-Err-clause-found : goal.returns-in-Err-clause-found
returns-in-Err-clause-found c =
    found_syntax_fault c.args.source.now c.args.tokens.now c.in-Err.fault _ c.requires
    c.in-Err.ensures.fault c.syntax_refusal.ensures
