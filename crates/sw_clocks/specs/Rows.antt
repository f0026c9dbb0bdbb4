-- Clocks as they are kept: rows of counts, one for each channel, and what they count.
use Rattle.std.specs.Prelude.{◌≡◌, ◌⊎◌, ℕ, ◌+◌, ◌*◌, ◌^◌, ◌<◌, ◌≤◌, max, nat_lt, Option, Some}
use Rattle.std.specs.Prelude.{None, IfSome, IsSome, List, length, slice_index, position}
use Rattle.std.specs.Prelude.{option_map, option_and_then, if◌then◌else◌}
use Rattle.std.specs.Option.{option_map_or}
use Rattle.sw_before.specs.Channels.{Channel, OfJob, OfEnd, OfExecutor, channel_of}
use Rattle.sw_before.specs.Clocks.{Clocks}
use Rattle.sw_clocks.specs.declared.links.TheConstants.{MOST_JOBS}
use Rattle.sw_clocks.specs.declared.links.Links.{Links}
use Rattle.sw_clocks.specs.declared.channel.Actor.{Actor}
use Rattle.sw_clocks.specs.Channel.{is_same_actor, actor_of}

-- the rows of counts, one after the other, and the actors that have rows
pub record Rows : Type 0 where
  pub counts : List ℕ
  pub actors : List Actor

-- The rows of jobs and of their ends are the first ones, and then come those of actors.
abbrev pub job_row : ℕ → Option ℕ
job_row job = if nat_lt job MOST_JOBS then Some (job * 2) else None

abbrev pub end_row : ℕ → Option ℕ
end_row job = if nat_lt job MOST_JOBS then Some (job * 2 + 1) else None

abbrev pub actor_row : List Actor → Actor → Option ℕ
actor_row actors actor =
    option_map (λ k. 2 * MOST_JOBS + k) (position (is_same_actor actor) actors)

-- the row of a channel, if it has one
abbrev pub row_of : List Actor → Channel → Option ℕ
row_of actors (OfJob j) = job_row j
row_of actors (OfEnd j) = end_row j
row_of actors (OfExecutor x) = option_and_then (actor_row actors) (actor_of x)

-- the count of a job in a row; 0 of a job that there can't be
abbrev pub count_at : List ℕ → ℕ → ℕ → ℕ
count_at counts row job =
    if nat_lt job MOST_JOBS then slice_index counts (row * MOST_JOBS + job) else 0

-- the counts of each channel; they are 0 if it has no row
unfoldable pub clocks_in : Rows → Clocks
clocks_in rows channel job =
    option_map_or (λ row. count_at rows.counts row job) (row_of rows.actors channel) 0

abbrev pub HasRow : List Actor → Channel → Type 0
HasRow actors channel = IsSome (row_of actors channel)

-- the actor or global actor that an event leaves, if it leaves one, has a row
abbrev pub HasRoom : Rows → Links → Type 0
HasRoom rows links = IfSome (option_and_then channel_of links.leaves) (HasRow rows.actors)

-- on each channel one more event of the job can be counted
abbrev pub CountsFew : Clocks → ℕ → Type 0
CountsFew clocks job = (channel : Channel) → clocks channel job + 1 < 2 ^ 32

-- There is a row for each job, for its end and for each of the actors. No row counts events of jobs
-- past the first ones.
pub record AreRows (jobs : ℕ) (counts : List ℕ) (actors : List Actor) : Type 0 where
  pub rows : length counts ≡ (2 * MOST_JOBS + length actors) * MOST_JOBS
  pub few : jobs ≤ MOST_JOBS
  pub quiet : (row job : ℕ) → jobs ≤ job → count_at counts row job ≡ 0

-- of the first counts a row takes the greater ones of its own and of another row's
pub record IsJoined (from to jobs : ℕ) (old new : List ℕ) : Type 0 where
  pub same_length : length new ≡ length old
  pub taken : (job : ℕ) → job < jobs → slice_index new (to * MOST_JOBS + job)
      ≡ max (slice_index old (to * MOST_JOBS + job)) (slice_index old (from * MOST_JOBS + job))
  pub kept : (k : ℕ) → (k < to * MOST_JOBS) ⊎ (to * MOST_JOBS + jobs ≤ k)
      → slice_index new k ≡ slice_index old k
