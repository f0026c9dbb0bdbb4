-- The exit statuses of the program.
use Rattle.std.specs.Prelude.{◌≡◌, ◌⊎◌, ℕ, Bool, true, false, List, [], ◌∷◌}
use Rattle.sw_check_parts.specs.declared.exit.Exit.{Exit}
use Rattle.sw_check_parts.specs.declared.exit.Exit.TheVariants.{Done, Breached, Usage, NotRead, TooLong}
use Rattle.sw_check_parts.specs.declared.exit.Exit.TheVariants.{NotWritten, Memory, Trapped, BadSchedule}
use Rattle.sw_check_parts.specs.declared.exit.Exit.TheVariants.{Raced, BadCertificate, LongCertificate}
use Rattle.sw_check_parts.specs.declared.exit.Exit.TheVariants.{ManyJobs, Unordered}

abbrev pub status_of : Exit → ℕ
status_of Done = 0
status_of Breached = 1
status_of Usage = 2
status_of NotRead = 3
status_of TooLong = 4
status_of NotWritten = 5
status_of Memory = 6
status_of Trapped = 7
status_of BadSchedule = 8
status_of Raced = 9
status_of BadCertificate = 10
status_of LongCertificate = 11
status_of ManyJobs = 12
status_of Unordered = 13

-- the exits that say how the outside or memory failed, and no reply to the words
abbrev pub is_failure : Exit → Bool
is_failure NotRead = true
is_failure NotWritten = true
is_failure Memory = true
is_failure exit = false

-- the exits after which nothing was written
abbrev pub is_silent : Exit → Bool
is_silent NotRead = true
is_silent TooLong = true
is_silent Memory = true
is_silent exit = false

-- the exit is one of these
abbrev pub IsOneOf : List Exit → Exit → Type 0
IsOneOf [] exit = ⊥
IsOneOf (first ∷ others) exit = (exit ≡ first) ⊎ IsOneOf others exit
