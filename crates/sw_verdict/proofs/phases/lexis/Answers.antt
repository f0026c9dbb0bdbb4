use Rattle.sw_verdict.specs.Phases.{has_tokens}
use Rattle.sw_verdict.proofs.Finding.{found_fault}
use Rattle.sw_verdict.proofs.phases.lexis.Goals as goal

pub returns-in-Ok-clause-found : goal.returns-in-Ok-clause-found
returns-in-Ok-clause-found c = has_tokens c.in-Ok.tokens.items c.in-Ok.ensures.found

pub returns-in-Err-clause-found : goal.returns-in-Err-clause-found
returns-in-Err-clause-found c =
    found_fault c.args.source.now c.in-Err.fault _ c.in-Err.ensures.fault c.lexical_refusal.ensures
