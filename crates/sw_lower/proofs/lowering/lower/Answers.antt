use Rattle.std.proofs.Common.{subst}
use Rattle.std.proofs.lemmas.Result.{err_from_is_err_and}
use Rattle.sw_isolation_table.specs.Known.{answers_of}
use Rattle.sw_lower_known.specs.Knowledge.{isolation_of}
use Rattle.sw_lower_rules.specs.Bodies.{Lacks, tables_of}
use Rattle.sw_typing_rules.specs.Worlds.{world_of}
use Rattle.sw_lower.specs.Lowered.{FailsFor, IsMadeOf}
use Rattle.sw_lower.proofs.Lacking.{fails_of}
use Rattle.sw_lower.proofs.lowering.lower.Goals as goal

pub returns-clause-first : goal.returns-clause-first
returns-clause-first c =
    let world = world_of c.args.world.now in
    let answers = answers_of c.args.typed.now in
    let isolation = isolation_of c.args.isolated.now in
    c.decided.ensures.first _ _
    (subst (λ decls. IsMadeOf (tables_of world answers isolation decls) decls c.in_ok-made.made)
    c.decls-decls.ensures.value
    (subst (λ tables. IsMadeOf tables c.decls-decls.result.now c.in_ok-made.made)
    c.in_ok-known.ensures c.in_ok-made.ensures.made))

pub returns-in_err-made-clause-first : goal.returns-in_err-made-clause-first
returns-in_err-made-clause-first c =
    let world = world_of c.args.world.now in
    let answers = answers_of c.args.typed.now in
    let isolation = isolation_of c.args.isolated.now in
    let p = err_from_is_err_and c.from_residual-in_err-made.result
    c.from_residual-in_err-made.ensures.1 in
    let decls = c.args.program.now.decls in
    rw (p.1, p.2) (fails_of (tables_of world answers isolation decls) decls _
    (subst (λ decls. FailsFor (Lacks (tables_of world answers isolation decls) decls)
    c.in_err-made.field-0.0) c.decls-decls.ensures.value
    (subst (λ tables. FailsFor (Lacks tables c.decls-decls.result.now) c.in_err-made.field-0.0)
    c.in_ok-known.ensures c.in_err-made.ensures.fault)))
