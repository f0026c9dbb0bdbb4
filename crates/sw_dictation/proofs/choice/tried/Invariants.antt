use Rattle.sw_dictation.proofs.Among.{IsMost}
use Rattle.sw_dictation.proofs.choice.tried.Given as goal

abbrev pub invariant-loop-number : goal.invariant-loop-number
invariant-loop-number l = IsMost l.numbers l.closer l.bytes l.number-index l.most
