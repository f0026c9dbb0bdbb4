use Rattle.std.proofs.Common.{◌≡◌, length}
use Rattle.sw_cert.specs.Begun.{IsScale}
use Rattle.sw_cert.proofs.form.scale.Given as goal

abbrev pub invariant-loop-n : goal.invariant-loop-n
invariant-loop-n l = record {
  length_is : length l.scale ≡ l.n;
  scale : IsScale l.scale;
}
