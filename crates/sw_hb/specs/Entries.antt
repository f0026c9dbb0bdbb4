-- The latest accesses of jobs to one location: what is looked up there, and how they change.
use Rattle.std.specs.Prelude.{◌==◌, ℕ, nat_lt, Bool, true, false, if◌then◌else◌, Option, Some, None}
use Rattle.std.specs.Prelude.{List, [], ◌∷◌, ◌++◌, fold}
use Rattle.std.specs.List.{list_any}
use Rattle.sw_value.specs.declared.race.Access.{Access}
use Rattle.sw_hb.specs.declared.entries.Made.{Made}
use Rattle.sw_hb.specs.declared.entries.Latest.{Latest}

-- the later of an access that reads and one that writes
abbrev pub newer : Option Made → Option Made → Option Made
newer None write = write
newer (Some read) None = Some read
newer (Some read) (Some write) = if nat_lt write.rank read.rank then Some read else Some write

-- the latest access of a job that conflicts with one that writes, or reads
abbrev pub conflicting : Latest → Bool → Option Made
conflicting latest true = newer latest.read latest.write
conflicting latest false = latest.write

-- the access that was made, if a count doesn't reach it
abbrev pub if_unheard : ℕ → Option Made → Option Access
if_unheard count None = None
if_unheard count (Some made) = if nat_lt count made.rank then Some made.access else None

-- the latest access of another job that conflicts with this one, if a count of that job doesn't
-- reach it
unfoldable pub unheard_rival : ℕ → Access → Latest → Option Access
unheard_rival count access latest =
    if latest.job == access.job then None
    else if_unheard count (conflicting latest access.writes)

-- the access of the lesser job; of one job the first
abbrev pub of_lesser_job : Option Access → Option Access → Option Access
of_lesser_job first None = first
of_lesser_job None (Some next) = Some next
of_lesser_job (Some first) (Some next) =
    if nat_lt next.job first.job then Some next else Some first

-- of the latest rivals that a clock doesn't count that of the least job
abbrev pub first_unheard : (ℕ → ℕ) → Access → List Latest → Option Access
first_unheard clock access entries =
    fold (λ first latest. of_lesser_job first (unheard_rival (clock latest.job) access latest))
    None entries

-- whether an entry is of a job
abbrev pub is_of : ℕ → Latest → Bool
is_of job latest = latest.job == job

-- the entry of a job that made no access
abbrev pub unused : ℕ → Latest
unused job = record { job = job; read = None; write = None }

-- the entries, with one of the job
abbrev pub with_entry : ℕ → List Latest → List Latest
with_entry job entries =
    if list_any (is_of job) entries then entries else entries ++ unused job ∷ []

-- an entry with what was made as the latest access of its kind
abbrev pub with_made : Made → Latest → Latest
with_made made latest =
    if made.access.writes then record { job = latest.job; read = latest.read; write = Some made }
    else record { job = latest.job; read = Some made; write = latest.write }

-- an entry after an access that was made: it changes if it is of that job
unfoldable pub noted : Made → Latest → Latest
noted made latest = if latest.job == made.access.job then with_made made latest else latest
