use Rattle.std.proofs.Common.{[], ◌∷◌, Err, ap}
use Rattle.sw_verdict.specs.Phases.{phases_to_size}
use Rattle.sw_verdict.proofs.Coded.{have_codes}
use Rattle.sw_check.specs.Programs.{seen_graph}
use Rattle.sw_check.specs.Reply.{passes}
use Rattle.sw_check.proofs.PartLemmas.{judged_refused}
use Rattle.sw_check.proofs.parts.lowered.Goals as goal

pub returns-in-Ok : goal.returns-in-Ok
returns-in-Ok c =
    passes (seen_graph c.in-Ok.made) c.in-Ok.ensures.made.verdict c.in-Ok.ensures.made.actors

pub refusal-requires-clause-codes : goal.refusal-requires-clause-codes
refusal-requires-clause-codes c =
    let judges = c.in-Err-Breached.ensures.breached c.in-Err-Breached.breach
    (ap Err c.in-Err-Breached.field-0-is) in
    have_codes c.args.default phases_to_size c.args.text.now (c.in-Err-Breached.breach ∷ []) judges.1

pub returns-in_ok-refusal-in-Err-Breached : goal.returns-in_ok-refusal-in-Err-Breached
returns-in_ok-refusal-in-Err-Breached c =
    judged_refused c.args.default phases_to_size c.args.text.now (c.in-Err-Breached.breach ∷ []) _
    c.in_ok-refusal-in-Err-Breached.ensures
    (c.in-Err-Breached.ensures.breached c.in-Err-Breached.breach
    (ap Err c.in-Err-Breached.field-0-is))
