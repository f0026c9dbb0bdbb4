use Rattle.std.proofs.Common.{ap, arith, length, map, sym, ◌∙◌}
use Rattle.sw_lower_draft.specs.Drafts.{making_of, number_by}
use Rattle.sw_lower_bodies.specs.Trees.{body_by}
use Rattle.sw_lower_code.proofs.Takes.{takes_few}
use Rattle.sw_lower_code.specs.Whole.{code_of}
use Rattle.sw_lower_code.specs.declared.taken.Taken.{Taken}
use Rattle.sw_lower_known.specs.Knowledge.{tables_by}
use Rattle.sw_lower.proofs.Finishing.{finishes}
use Rattle.sw_lower.proofs.making.made.Goals as goal

pub returns-in-Ok : goal.returns-in-Ok
returns-in-Ok c = λ other.
    let body = body_by (tables_by c.args.known.now) c.args.tree in
    finishes (number_by c.args.numbers.now) body (making_of c.in_ok-draft.draft)
    (making_of c.make.new.draft) c.in_ok-draft.ensures c.in-Ok.ensures c.finish.result _ _ _ _
    (ap length (c.as_slice-list.ensures ∙ c.in_ok-takes.ensures))
    (c.in_ok-sending.ensures
    ∙ ap (λ takes. map (λ (taken : Taken). taken.sending) takes)
    (c.as_slice-list.ensures ∙ c.in_ok-takes.ensures))
    (c.sends.ensures (tables_by c.args.known.now)) c.in_ok-gives.ensures c.finish.ensures

pub overflow_cast-count : goal.overflow_cast-count
overflow_cast-count c =
    let body = body_by (tables_by c.args.known.now) c.args.tree in
    let few = takes_few (number_by c.args.numbers.now) body (making_of c.make.new.draft)
    (ap (code_of body).run (sym c.in_ok-draft.ensures) ∙ c.in-Ok.ensures) in
    omega (arith, few, ap length (c.as_slice-list.ensures ∙ c.in_ok-takes.ensures))
