use Rattle.std.proofs.Common.{◌+◌, ◌-◌, ◌*◌, min, ap, ◌∙◌, arith}
use Rattle.std.proofs.lemmas.Result.{IfOk-weaker, IfErr-weaker}
use Rattle.sw_cert.specs.Form.{pair_count}
use Rattle.sw_cert.proofs.Beginning.{bad_weaker}
use Rattle.sw_cert.proofs.Between.{last_said, last_stuck, inner_said, inner_stuck}
use Rattle.sw_cert.proofs.pairs.read_site.Goals as goal

pub returns-then-pending-eq1-clause-site : goal.returns-then-pending-eq1-clause-site
returns-then-pending-eq1-clause-site c =
    let may = c.requires.element.2 in
    IfOk-weaker c.next.result _ _
    (λ said. last_said c.args.extent.now c.args.pending.to c.args.pending.left
    c.requires.some (omega (arith, may.rises, may.room)) c.args.element
    ((c.args.element - 1) * c.len-width.result)
    (ap (λ w. (c.args.element - 1) * w) c.len-width.ensures) c.requires.element.0
    c.requires.element.1 may c.as_slice.result.now c.as_slice.ensures
    c.saturating_sub-from.result c.min-end.result c.saturating_sub-from.ensures
    (c.min-end.ensures ∙ ap (λ p. min (p - c.args.pending.left
    - (c.args.element - 1) * c.len-width.result + 1) c.len-width.result) c.pair_count.ensures
    ∙ ap (λ w. min (pair_count c.args.extent.now - c.args.pending.left
    - (c.args.element - 1) * c.len-width.result + 1) w) c.len-width.ensures) c.args.text.now
    c.args.at c.if-pending-eq1.true said.0 said.1) c.next.ensures.said

pub returns-then-pending-eq1-clause-bad : goal.returns-then-pending-eq1-clause-bad
returns-then-pending-eq1-clause-bad c =
    let may = c.requires.element.2 in
    IfErr-weaker c.next.result _ _
    (λ slip. bad_weaker _ _ slip (last_stuck c.args.extent.now c.args.pending.to c.args.pending.left
    c.requires.some (omega (arith, may.rises, may.room)) c.args.element
    ((c.args.element - 1) * c.len-width.result)
    (ap (λ w. (c.args.element - 1) * w) c.len-width.ensures) c.requires.element.0
    c.requires.element.1 may c.as_slice.result.now c.as_slice.ensures
    c.saturating_sub-from.result c.min-end.result c.saturating_sub-from.ensures
    (c.min-end.ensures ∙ ap (λ p. min (p - c.args.pending.left
    - (c.args.element - 1) * c.len-width.result + 1) c.len-width.result) c.pair_count.ensures
    ∙ ap (λ w. min (pair_count c.args.extent.now - c.args.pending.left
    - (c.args.element - 1) * c.len-width.result + 1) w) c.len-width.ensures) c.args.text.now
    c.args.at c.if-pending-eq1.true)) c.next.ensures.bad

pub returns-else-pending-eq1-clause-site : goal.returns-else-pending-eq1-clause-site
returns-else-pending-eq1-clause-site c =
    let may = c.requires.element.2 in
    IfOk-weaker c.next-else-pending-eq1.result _ _
    (λ said. inner_said c.args.extent.now c.args.pending.to c.args.pending.left
    c.requires.some (omega (arith, may.rises, may.room)) c.args.element
    ((c.args.element - 1) * c.len-width.result)
    (ap (λ w. (c.args.element - 1) * w) c.len-width.ensures) c.requires.element.0
    c.requires.element.1 may c.as_slice.result.now c.as_slice.ensures
    c.saturating_sub-from.result c.min-end.result c.saturating_sub-from.ensures
    (c.min-end.ensures ∙ ap (λ p. min (p - c.args.pending.left
    - (c.args.element - 1) * c.len-width.result + 1) c.len-width.result) c.pair_count.ensures
    ∙ ap (λ w. min (pair_count c.args.extent.now - c.args.pending.left
    - (c.args.element - 1) * c.len-width.result + 1) w) c.len-width.ensures) c.args.text.now
    c.args.at c.if-pending-eq1.false said.0 said.1) c.next-else-pending-eq1.ensures.said

pub returns-else-pending-eq1-clause-bad : goal.returns-else-pending-eq1-clause-bad
returns-else-pending-eq1-clause-bad c =
    let may = c.requires.element.2 in
    IfErr-weaker c.next-else-pending-eq1.result _ _
    (λ slip. bad_weaker _ _ slip (inner_stuck c.args.extent.now c.args.pending.to c.args.pending.left
    c.requires.some (omega (arith, may.rises, may.room)) c.args.element
    ((c.args.element - 1) * c.len-width.result)
    (ap (λ w. (c.args.element - 1) * w) c.len-width.ensures) c.requires.element.0
    c.requires.element.1 may c.as_slice.result.now c.as_slice.ensures
    c.saturating_sub-from.result c.min-end.result c.saturating_sub-from.ensures
    (c.min-end.ensures ∙ ap (λ p. min (p - c.args.pending.left
    - (c.args.element - 1) * c.len-width.result + 1) c.len-width.result) c.pair_count.ensures
    ∙ ap (λ w. min (pair_count c.args.extent.now - c.args.pending.left
    - (c.args.element - 1) * c.len-width.result + 1) w) c.len-width.ensures) c.args.text.now
    c.args.at c.if-pending-eq1.false)) c.next-else-pending-eq1.ensures.bad
