use Rattle.sw_cert.specs.Shown.{ArePairsBelow}
use Rattle.sw_cert.proofs.printing.pairs_of.Given as goal

abbrev pub invariant-loop-element : goal.invariant-loop-element
invariant-loop-element l = ArePairsBelow l.state l.element l.pairs
