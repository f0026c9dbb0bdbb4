use Rattle.std.proofs.Common.{◌≡◌, ◌++◌, take}
use Rattle.sw_cert.proofs.printing.add_classes.Given as goal

abbrev pub invariant-loop-class : goal.invariant-loop-class
invariant-loop-class l = l.numbers.items ≡ l.fn.numbers.items ++ take l.class-index l.classes
