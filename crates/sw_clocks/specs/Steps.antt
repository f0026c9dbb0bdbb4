-- The steps in which clocks take an event in.
use Rattle.std.specs.Prelude.{ℕ, suc, max, ◌==◌, ◌&&◌, if◌then◌else◌}
use Rattle.sw_before.specs.Channels.{Channel, OfJob, is_same_channel}
use Rattle.sw_before.specs.Clocks.{Clocks}

-- a channel takes the greater counts of its own and of another one's
abbrev pub joined : Channel → Channel → Clocks → Clocks
joined from to clocks channel job =
    if is_same_channel to channel then max (clocks channel job) (clocks from job)
    else clocks channel job

-- a job hears a channel, and tells one
abbrev pub hearing : ℕ → Clocks → Channel → Clocks
hearing job clocks from = joined from (OfJob job) clocks

abbrev pub telling : ℕ → Clocks → Channel → Clocks
telling job clocks to = joined (OfJob job) to clocks

-- a job counts one more event of its own
abbrev pub counting : ℕ → Clocks → Clocks
counting own clocks channel job =
    if is_same_channel (OfJob own) channel && (own == job) then suc (clocks channel job)
    else clocks channel job
