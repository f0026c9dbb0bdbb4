-- Vector clocks: of each channel, how many events of each job are known there.
use Rattle.std.specs.Prelude.{ℕ, suc, max, ◌==◌, if◌then◌else◌, List, count_by, fold, take}
use Rattle.std.specs.Set.{is_member}
use Rattle.sw_value.specs.Transition.{Transition}
use Rattle.sw_before.specs.Channels.{Channel, is_same_channel, told_by, heard_by}

-- how many of the events are of a job, and how many of those up to position p
abbrev pub count_of : ℕ → List Transition → ℕ
count_of job events = count_by (λ t. t.job == job) events

abbrev pub rank_of : ℕ → List Transition → ℕ → ℕ
rank_of job events p = count_of job (take (suc p) events)

-- a count for each channel and job
abbrev pub Clocks : Type 0
Clocks = Channel → ℕ → ℕ

-- what an event hears: of each job the greatest count of the channels that it hears
unfoldable pub heard : Clocks → Transition → ℕ → ℕ
heard clocks t job = fold (λ count channel. max count (clocks channel job)) 0 (heard_by t)

-- what it tells: what it hears, and itself
unfoldable pub ticked : Clocks → Transition → ℕ → ℕ
ticked clocks t job = if t.job == job then suc (heard clocks t job) else heard clocks t job

-- each channel that it tells takes that in
unfoldable pub after_event : Clocks → Transition → Clocks
after_event clocks t channel job =
    if is_member is_same_channel (told_by t) channel then max (clocks channel job)
    (ticked clocks t job)
    else clocks channel job

-- the clocks after a list of events
unfoldable pub clocks_of : List Transition → Clocks
clocks_of events = fold after_event (λ channel job. 0) events
