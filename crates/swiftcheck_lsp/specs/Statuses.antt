-- The status with which the program ends.
use Rattle.std.specs.Prelude.{ℕ, Result, Ok, Err}
use Rattle.std.specs.declared.io.ErrorKind.{ErrorKind}
use Rattle.std.specs.declared.io.ErrorKind.TheVariants.{OutOfMemory}
use Rattle.sw_lsp.specs.declared.ending.Ending.{Ending}
use Rattle.sw_lsp.specs.declared.ending.Ending.TheVariants as ending
use Rattle.sw_lsp.specs.declared.ending.Stop.{Stop}
use Rattle.sw_lsp.specs.declared.ending.Stop.TheVariants as stop

-- after a session; 0 exactly if the client ended it as it should
abbrev pub status_of : Result Ending Stop → ℕ
status_of (Ok ending.Done) = 0
status_of (Ok ending.Dropped) = 1
status_of (Ok ending.Closed) = 1
status_of (Ok ending.CutOff) = 2
status_of (Ok ending.TooLong) = 4
status_of (Err stop.NotRead) = 3
status_of (Err stop.NotWritten) = 5
status_of (Err stop.Memory) = 6
status_of (Err stop.TooManyTurns) = 7

-- where the arguments can't be read
abbrev pub arguments_status : ErrorKind → ℕ
arguments_status OutOfMemory = 6
arguments_status kind = 14
