-- The lines about a replay, and about a certificate.
use Rattle.std.specs.Prelude.{ℕ, ◌==◌, Bool, List, [], ◌++◌, length, count_by, codes}
use Rattle.std.specs.Prelude.{if◌then◌else◌}
use Rattle.std.specs.Fmt.{decimal}
use Rattle.sw_text.specs.Position.{shown_position}
use Rattle.sw_breach.specs.Lines.{line_feed}
use Rattle.sw_cert.specs.declared.verdict.CertFault.{CertFault}
use Rattle.sw_cert.specs.declared.verdict.CertFault.TheVariants as cert_faults
use Rattle.sw_value.specs.declared.race.Access.{Access}
use Rattle.sw_value.specs.declared.race.Race.{Race}
use Rattle.sw_value.specs.declared.state.TrapKind.{TrapKind}
use Rattle.sw_value.specs.declared.state.TrapKind.TheVariants.{Overflow, ZeroDivisor, Frames, Jobs}
use Rattle.sw_replay.specs.declared.text.SchedFault.{SchedFault}
use Rattle.sw_replay.specs.declared.text.SchedFault.TheVariants.{BadItem, TooBig, TooMany, Memory}
use Rattle.sw_replay.specs.Items.{position_of}

-- `done D of J jobs`: how many jobs have ended, of how many there are
unfoldable pub summary : ℕ → ℕ → List ℕ
summary ended jobs = codes "done "
    ++ (decimal ended ++ (codes " of " ++ (decimal jobs ++ (codes " jobs" ++ line_feed))))

-- how many lines the bytes are: each line ends in a line feed
abbrev pub line_count : List ℕ → ℕ
line_count bytes = count_by (λ byte. byte == 10) bytes

-- `demo N: B bytes, P lines, done D of J jobs`: for which number the program was generated, how
-- long its text is, and how many lines it printed
unfoldable pub demo_line : ℕ → List ℕ → List ℕ → ℕ → ℕ → List ℕ
demo_line actors text lines ended jobs = codes "demo "
    ++ (decimal actors ++ (codes ": " ++ (decimal (length text) ++ (codes " bytes, "
    ++ (decimal (line_count lines) ++ (codes " lines, " ++ summary ended jobs))))))

-- what halted the machine
abbrev pub trap_text : TrapKind → List ℕ
trap_text Overflow = codes "overflow"
trap_text ZeroDivisor = codes "division by zero"
trap_text Frames = codes "too many frames"
trap_text Jobs = codes "too many jobs"

-- `LINE:COLUMN: trap: TEXT`
unfoldable pub trap_line : List ℕ → TrapKind → ℕ → List ℕ
trap_line text kind at = shown_position text at
    ++ (codes ": trap: " ++ (trap_text kind ++ line_feed))

-- what a job is about to do: `job J writes`, or `job J reads`
unfoldable pub deed : ℕ → Bool → List ℕ
deed job writes = codes "job "
    ++ (decimal job ++ (if writes then codes " writes" else codes " reads"))

-- `LINE:COLUMN: WORD: job J writes`
unfoldable pub access_line : List ℕ → List ℕ → Access → List ℕ
access_line text word access = shown_position text access.at
    ++ (codes ": " ++ (word ++ (codes ": " ++ (deed access.job access.writes ++ line_feed))))

-- the lines of two accesses
unfoldable pub access_lines : List ℕ → List ℕ → Access → Access → List ℕ
access_lines text word first second = access_line text word first ++ access_line text word second

-- those of a race, the lower job's first
abbrev pub race_lines : List ℕ → Race → List ℕ
race_lines text race = access_lines text (codes "race") race.first race.second

-- those of accesses that nothing orders, the earlier first
abbrev pub unordered_lines : List ℕ → Access → Access → List ℕ
unordered_lines text first second = access_lines text (codes "unordered") first second

-- `ordered: A accesses`: how many accesses there are
unfoldable pub ordered_line : ℕ → List ℕ
ordered_line accesses =
    codes "ordered: " ++ (decimal accesses ++ (codes " accesses" ++ line_feed))

-- what is wrong with a schedule's text
abbrev pub schedule_text : SchedFault → List ℕ
schedule_text (BadItem at) = codes "not a number"
schedule_text (TooBig at) = codes "number too big"
schedule_text (TooMany at) = codes "too many items"
schedule_text Memory = codes "out of memory"

-- `LINE:COLUMN: schedule: TEXT`
unfoldable pub schedule_line : List ℕ → SchedFault → List ℕ
schedule_line text fault = shown_position text (position_of fault)
    ++ (codes ": schedule: " ++ (schedule_text fault ++ line_feed))

-- `LINE:COLUMN: certificate: TEXT`
unfoldable pub certificate_at : List ℕ → ℕ → List ℕ → List ℕ
certificate_at bytes at text = shown_position bytes at ++ (codes ": " ++ (text ++ line_feed))

-- what is wrong with a certificate, and where; for a function whose entry it doesn't have, which one
unfoldable pub certificate_line : List ℕ → CertFault → List ℕ
certificate_line bytes (cert_faults.BadForm at) =
    certificate_at bytes at (codes "certificate: not in form")
certificate_line bytes (cert_faults.Entry function) =
    codes "certificate: entry of function " ++ (decimal function ++ line_feed)
certificate_line bytes (cert_faults.Fails at) =
    certificate_at bytes at (codes "certificate: test fails")
certificate_line bytes (cert_faults.Open at) =
    certificate_at bytes at (codes "certificate: not closed")
-- want of memory is no answer about a certificate, and has no line
certificate_line bytes cert_faults.Memory = []
