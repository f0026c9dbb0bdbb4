use Rattle.std.proofs.Common.{take}
use Rattle.sw_cert.specs.Begun.{AreRoots}
use Rattle.sw_cert.proofs.classes.roots_of.Given as goal

abbrev pub invariant-loop-element : goal.invariant-loop-element
invariant-loop-element l = AreRoots (take l.element l.classes) l.roots
