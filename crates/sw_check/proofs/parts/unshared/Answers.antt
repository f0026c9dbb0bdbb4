use Rattle.std.proofs.Common.{[], ◌∷◌, List, Err, ap, subst, sym, ◌∙◌}
use Rattle.std.specs.List.{AllByRecursion}
use Rattle.sw_breach.specs.Codes.{IsCode}
use Rattle.sw_breach.specs.declared.Breach.{Breach}
use Rattle.sw_verdict.specs.Phases.{Sharing, phases_to_sharing, phases_to_size}
use Rattle.sw_verdict.proofs.Coded.{have_codes}
use Rattle.sw_verdict.proofs.Verdicts.{refused_before}
use Rattle.sw_check.specs.Reply.{refusal}
use Rattle.sw_check.proofs.PartLemmas.{judged_refused}
use Rattle.sw_check.proofs.SharingLemmas.{is_shared, is_unshared}
use Rattle.sw_check.proofs.parts.unshared.Goals as goal

pub returns-then-is_empty : goal.returns-then-is_empty
returns-then-is_empty c =
    is_unshared c.args.default c.args.text.now c.in-Ok.field-0 c.in-Ok.ensures.judged
    (c.is_empty.ensures.0 c.if-is_empty.true)

pub refusal-requires-clause-codes : goal.refusal-requires-clause-codes
refusal-requires-clause-codes c =
    let judged = c.in-Ok.field-0 in
    let verdict = is_shared c.args.default c.args.text.now judged c.in-Ok.ensures.judged
    (λ none. let yes = c.is_empty.ensures.1 none in let no = c.if-is_empty.false in cc) in
    subst (λ (list : List Breach). AllByRecursion (λ breach. IsCode breach.code) list)
    (sym c.as_slice.ensures)
    (have_codes c.args.default phases_to_sharing c.args.text.now judged.races verdict.1)

pub returns-in_ok-refusal-in-Ok : goal.returns-in_ok-refusal-in-Ok
returns-in_ok-refusal-in-Ok c =
    let judged = c.in-Ok.field-0 in
    let verdict = is_shared c.args.default c.args.text.now judged c.in-Ok.ensures.judged
    (λ none. let yes = c.is_empty.ensures.1 none in let no = c.if-is_empty.false in cc) in
    judged_refused c.args.default phases_to_sharing c.args.text.now judged.races _
    (c.in_ok-refusal-in-Ok.ensures ∙ ap (refusal c.args.text.now) c.as_slice.ensures) verdict

pub refusal-requires-in-Err-Breached-clause-codes
    : goal.refusal-requires-in-Err-Breached-clause-codes
refusal-requires-in-Err-Breached-clause-codes c =
    let judges = c.in-Err-Breached.ensures.breached c.in-Err-Breached.breach
    (ap Err c.in-Err-Breached.field-0-is) in
    have_codes c.args.default phases_to_size c.args.text.now (c.in-Err-Breached.breach ∷ [])
    judges.1

pub returns-in_ok-refusal-in-Err-Breached : goal.returns-in_ok-refusal-in-Err-Breached
returns-in_ok-refusal-in-Err-Breached c =
    let list = c.in-Err-Breached.breach ∷ [] in
    let judges = c.in-Err-Breached.ensures.breached c.in-Err-Breached.breach
    (ap Err c.in-Err-Breached.field-0-is) in
    judged_refused c.args.default phases_to_sharing c.args.text.now list _
    c.in_ok-refusal-in-Err-Breached.ensures
    (judges.0, refused_before c.args.default Sharing c.args.text.now list judges.0 judges.1)
