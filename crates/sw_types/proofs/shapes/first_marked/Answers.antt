use Rattle.std.proofs.Common.{◌+◌, sym, subst, ◌∙◌}
use Rattle.std.proofs.lemmas.Bool.{ltb-true, ltb-false}
use Rattle.sw_types.specs.Cycles.{place_of}
use Rattle.sw_types.proofs.Firsts.{IsFirstBelow, first_taken, first_kept, first_passed}
use Rattle.sw_types.proofs.shapes.first_marked.Goals.{then-marks-number+then-stands_before}
use Rattle.sw_types.proofs.shapes.first_marked.Goals.{else-marks-number}
use Rattle.sw_types.proofs.shapes.first_marked.Goals.{else-marks-number-via-then-marks-number+else-stands_before}
use Rattle.sw_types.proofs.shapes.first_marked.Goals.{else-marks-number-via-else-marks-number}
use Rattle.sw_types.proofs.shapes.first_marked.Goals as goal

pub loop-number-preserved : goal.loop-number-preserved
loop-number-preserved c =
    let marks = c.args.marks.now in
    let place = place_of c.args.shapes.now in
    let n = c.loop-number.number in
    let next = IsFirstBelow c.args.marks.now (place_of c.args.shapes.now)
    (c.loop-number.number + 1) in
    elim c.if-marks-number.branch [
      | then-marks-number+then-stands_before w ↦ subst next (sym w.first-is)
          (first_taken marks place n c.loop-number.first c.loop-number.invariant
          w.if-marks-number.true
          (ltb-true _ _ (sym w.stands_before.ensures ∙ w.if-stands_before.true)))
      | else-marks-number w ↦ elim w.else-marks-number.branch [
        | else-marks-number-via-then-marks-number+else-stands_before v ↦
            subst next (sym w.first-is) (first_kept marks place n c.loop-number.first
            c.loop-number.invariant
            (ltb-false _ _ (sym v.stands_before.ensures ∙ v.if-stands_before.false)))
        | else-marks-number-via-else-marks-number v ↦
            subst next (sym w.first-is) (first_passed marks place n c.loop-number.first
            c.loop-number.invariant v.if-marks-number.false)
      ]
    ]
