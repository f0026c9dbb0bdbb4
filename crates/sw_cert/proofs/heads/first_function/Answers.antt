use Rattle.std.proofs.Common.{◌≡◌, ◌+◌, ◌≤◌, ◌<◌, ℕ, List, length, get_or, Some, sym, subst, ◌∙◌}
use Rattle.std.proofs.Common.{arith}
use Rattle.std.specs.List.{slice_get}
use Rattle.std.proofs.lemmas.Option.{slice_get-get_or}
use Rattle.sw_cert.specs.declared.line.Extent.{Extent}
use Rattle.sw_cert.proofs.Heading.{functions_from, functions_past, functions_none}
use Rattle.sw_cert.proofs.heads.first_function.Goals.{else-function-extents-via-then-function-extents+else-extents-function, else-function-extents-via-else-function-extents}
use Rattle.sw_cert.proofs.heads.first_function.Goals as goal

one_at : (extents : List Extent) (k : ℕ) (one other : Extent) → k < length extents
    → slice_get extents k ≡ Some other → get_or extents k one ≡ other
one_at extents k one other lt at =
    let h : Some (get_or extents k one) ≡ Some other =
    sym (slice_get-get_or extents k one lt) ∙ at in cc h

pub returns-then-extents-function : goal.returns-then-extents-function
returns-then-extents-function c =
    functions_past c.args.extents.now c.args.spot (c.args.spot.function + 1) (omega arith)
    (λ n lt after. omega (arith, after))
    (λ extent at. subst (λ (x : Extent). x.blocks ≤ c.args.spot.block)
    (one_at c.args.extents.now c.args.spot.function c.index-extents-function.result extent
    c.if-function-extents.true at) c.if-extents-function.true)

pub returns : goal.returns
returns c = elim c.else-function-extents.branch [
  | else-function-extents-via-then-function-extents+else-extents-function w ↦
      functions_from c.args.extents.now c.args.spot
      (get_or c.args.extents.now c.args.spot.function w.index-extents-function.result)
      (slice_get-get_or c.args.extents.now c.args.spot.function w.index-extents-function.result
      w.if-function-extents.true) w.if-extents-function.false
  | else-function-extents-via-else-function-extents w ↦
      functions_none c.args.extents.now c.args.spot w.if-function-extents.false
]
