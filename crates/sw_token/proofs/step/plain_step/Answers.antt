use Rattle.std.proofs.Common.{◌≡◌, ◌<◌, Some, sym, ap, ◌∙◌, arith}
use Rattle.std.specs.Prelude.{slice_get}
use Rattle.sw_token.proofs.Utf8Lemmas.{boundary_after_first}
use Rattle.sw_token.proofs.step.plain_step.Goals as goal

pub range_from-requires : goal.range_from-requires
range_from-requires c =
    let first : slice_get c.args.text.now 0 ≡ Some c.in-Some.byte =
    ap (λ bytes. slice_get bytes 0) (sym c.as_bytes-bytes.ensures.value)
    ∙ (sym c.first.ensures.value ∙ sym c.in-Some.ensures) in
    let low : c.in-Some.byte < 128 = omega (arith, c.if-byte-eq64.true) in
    λ some. boundary_after_first c.args.text.now c.in-Some.byte c.utf8.text first low
