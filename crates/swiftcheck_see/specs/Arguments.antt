-- The status of a call whose arguments can't be read.
use Rattle.std.specs.Prelude.{ℕ}
use Rattle.std.specs.declared.io.ErrorKind.{ErrorKind}
use Rattle.std.specs.declared.io.ErrorKind.TheVariants.{OutOfMemory}

-- 6 where memory ran out, as of every call, and 14 for every other cause
abbrev pub arguments_status : ErrorKind → ℕ
arguments_status OutOfMemory = 6
arguments_status kind = 14
