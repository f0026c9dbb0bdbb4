use Rattle.sw_cert.proofs.Gathered.{AreFirstClasses}
use Rattle.sw_cert.proofs.printing.classes_of.Given as goal

abbrev pub invariant-loop-element : goal.invariant-loop-element
invariant-loop-element l = AreFirstClasses l.state l.element l.classes
