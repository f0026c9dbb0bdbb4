use Rattle.std.proofs.Common.{◌≡◌, Some, get_or, slice_get, sym, ap, ◌∙◌, arith}
use Rattle.std.proofs.lemmas.Option.{slice_get-get_or}
use Rattle.sw_types.proofs.Moving.{moves_in_table, moves_in_marks, moved_to}
use Rattle.sw_types.proofs.ordering.Walk.move_from.Goals as goal

pub set-requires : goal.set-requires
set-requires c =
    let now = c.loop-place.self in
    let row = c.as_slice.ensures ∙ c.loop-place.invariant.opened in
    let at : slice_get c.args.self.now.opened c.loop-place.place
    ≡ Some (get_or c.as_slice.result.now c.loop-place.place 0) =
    slice_get-get_or c.args.self.now.opened c.loop-place.place 0 (omega (arith, c.loop-place-test.true))
    ∙ ap (λ l. Some (get_or l c.loop-place.place 0)) (sym row) in
    moves_in_table c.args.first c.loop-place.place c.args.returns c.args.self.now now
    c.loop-place.invariant c.loop-place.auto.place c.requires.placed c.requires.sized _ at

pub set-requires-in-loop-place : goal.set-requires-in-loop-place
set-requires-in-loop-place c =
    let now = c.loop-place.self in
    let row = c.as_slice.ensures ∙ c.loop-place.invariant.opened in
    let at : slice_get c.args.self.now.opened c.loop-place.place
    ≡ Some (get_or c.as_slice.result.now c.loop-place.place 0) =
    slice_get-get_or c.args.self.now.opened c.loop-place.place 0 (omega (arith, c.loop-place-test.true))
    ∙ ap (λ l. Some (get_or l c.loop-place.place 0)) (sym row) in
    moves_in_marks c.args.first c.loop-place.place c.args.returns c.args.self.now now
    c.loop-place.invariant c.loop-place.auto.place c.requires.placed c.requires.sized _ at

pub loop-place-preserved : goal.loop-place-preserved
loop-place-preserved c =
    let now = c.loop-place.self in
    let row = c.as_slice.ensures ∙ c.loop-place.invariant.opened in
    let at : slice_get c.args.self.now.opened c.loop-place.place
    ≡ Some (get_or c.as_slice.result.now c.loop-place.place 0) =
    slice_get-get_or c.args.self.now.opened c.loop-place.place 0 (omega (arith, c.loop-place-test.true))
    ∙ ap (λ l. Some (get_or l c.loop-place.place 0)) (sym row) in
    moved_to c.args.first c.loop-place.place c.args.returns c.args.self.now now
    c.loop-place.invariant c.loop-place.auto.place c.requires.placed c.requires.sized _ at
    c.set.new.self c.set-in-loop-place.new.self c.push.new.self c.set.ensures
    c.set-in-loop-place.ensures c.in_ok-push.ensures.ok
