use Rattle.std.proofs.Common.{refl, arith}
use Rattle.sw_partition.proofs.Including.{word_covered, words_cover}
use Rattle.sw_partition.proofs.words.covers.Goals as goal

pub returns-then-words-i : goal.returns-then-words-i
returns-then-words-i c = (
  λ holds. absurd (cc holds),
  λ covered. absurd (c.if-words-i.true
      (word_covered c.args.words.now c.args.other.now c.loop-i.i
      (omega (arith, c.type_inv.other c.loop-i.i)) covered)),
)

pub returns : goal.returns
returns c = (
  λ _. words_cover c.args.words.now c.args.other.now c.requires
      (λ k lt. c.loop-i.invariant k (omega (arith, lt, c.loop-i-test.false))),
  λ _. refl,
)
