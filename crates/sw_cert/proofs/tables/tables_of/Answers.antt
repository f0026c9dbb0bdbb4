use Rattle.std.proofs.Common.{subst, sym, ap, ◌∙◌, ◌∷◌, [], take, ◌++◌}
use Rattle.std.proofs.lemmas.List.{take_more}
use Rattle.sw_cert.specs.Tables.{AreTabled}
use Rattle.sw_cert.proofs.Tabling.{none_tabled, one_tabled}
use Rattle.sw_cert.proofs.tables.tables_of.Goals as goal

pub loop-line-init : goal.loop-line-init
loop-line-init c =
    (none_tabled c.args.flows.now c.in_ok-tables.tables c.in_ok-tables.ensures, tt)

pub loop-line-preserved : goal.loop-line-preserved
loop-line-preserved c =
    let next = take_more c.args.lines.now c.loop-line.line-index c.line-item.result
    c.loop-line-test.true in (
      subst (λ ls. AreTabled c.args.flows.now ls c.put.new.tables)
          (sym (next ∙ ap (λ l. take c.loop-line.line-index c.args.lines.now ++ l ∷ [])
          (sym c.line-item.is)))
          (one_tabled c.args.flows.now (take c.loop-line.line-index c.args.lines.now)
          c.line-item.result c.loop-line.tables c.put.new.tables c.loop-line.invariant.0
          c.in_ok-put.ensures.tabled),
      c.in_ok-put.ensures.last,
    )
