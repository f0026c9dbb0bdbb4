use Rattle.sw_cert.specs.Begun.{AreClassesRead}
use Rattle.sw_cert.proofs.classes.read_classes.Given as goal

abbrev pub invariant-loop : goal.invariant-loop
invariant-loop l =
    AreClassesRead l.form.extents l.fn.spot l.text l.fn.head l.counter l.classes l.end
