use Rattle.std.proofs.Common.{◌+◌, ◌<◌, ◌^◌, slice_index, w64, arith}
use Rattle.std.proofs.lemmas.Nat.Bits.{bit_at-trailing_zeros}
use Rattle.sw_partition.proofs.Bits.{first_bit_at, clear_row}
use Rattle.sw_partition.proofs.words.first_bit.Goals as goal

pub overflow_add-result : goal.overflow_add-result
overflow_add-result c =
    let some : 0 < slice_index c.args.words.now (c.args.from + c.loop-i.i) =
    omega (arith, c.if-word-ne0.true) in
    let fits : slice_index c.args.words.now (c.args.from + c.loop-i.i) < 2 ^ 64 =
    omega (arith, c.type_inv.words (c.args.from + c.loop-i.i)) in
    let zeros = bit_at-trailing_zeros w64 _ some fits in
    omega (arith, zeros.0, c.requires.fits)

pub returns-then-word-ne0 : goal.returns-then-word-ne0
returns-then-word-ne0 c =
    first_bit_at c.args.words.now c.args.from c.args.count c.loop-i.i c.loop-i-test.true
    c.loop-i.invariant (omega (arith, c.if-word-ne0.true))
    (omega (arith, c.type_inv.words (c.args.from + c.loop-i.i)))

pub returns : goal.returns
returns c = clear_row _ _ _ (λ j lt. c.loop-i.invariant j (omega arith))
