-- Places at which a text isn't read.
use Rattle.std.specs.Prelude.{ℕ}
use Rattle.sw_cert.specs.declared.slip.Slip.{Slip}
use Rattle.sw_cert.specs.declared.slip.Slip.TheVariants.{Bad, Memory}

-- so it is of the place, if there was memory
abbrev pub IfBad : (ℕ → Type 0) → Slip → Type 0
IfBad P (Bad at) = P at
IfBad P Memory = Unit {0}
