-- What carries an event to those that it happens before: jobs, their ends, and executors.
use Rattle.std.specs.Prelude.{◌≡◌, ◌==◌, ◌⊎◌, ℕ, Bool, false, Option, Some, None, List, []}
use Rattle.std.specs.Prelude.{◌∷◌, ◌++◌, Contains, slice_get, option_map, option_and_then}
use Rattle.std.specs.Prelude.{option_to_list, if◌then◌else◌}
use Rattle.sw_value.specs.declared.executor.Executor.{Executor}
use Rattle.sw_value.specs.declared.executor.Executor.TheVariants.{Generic}
use Rattle.sw_value.specs.Executor.{is_same}
use Rattle.sw_value.specs.Transition.{Transition}
use Rattle.sw_before.specs.Before.{Before}

pub data Channel : Type 0 where
  OfJob : (job : ℕ) → Channel
  OfEnd : (job : ℕ) → Channel
  OfExecutor : (executor : Executor) → Channel

abbrev pub is_same_channel : Channel → Channel → Bool
is_same_channel (OfJob i) (OfJob j) = i == j
is_same_channel (OfEnd i) (OfEnd j) = i == j
is_same_channel (OfExecutor x) (OfExecutor y) = is_same x y
is_same_channel _ _ = false

-- the channel of an actor or a global actor; the generic executor has none, since it orders nothing
abbrev pub channel_of : Executor → Option Channel
channel_of Generic = None
channel_of executor = Some (OfExecutor executor)

-- An event tells its job and the job that it makes, the end of its job if it ends it, and the actor
-- or global actor that it leaves.
abbrev pub told_by : Transition → List Channel
told_by t =
    OfJob t.job ∷ option_to_list (option_map OfJob t.makes)
    ++ (if t.ends then OfEnd t.job ∷ [] else [])
    ++ option_to_list (option_and_then channel_of t.leaves)

-- It hears its job, the end of the job that it waited for, and the actor or global actor that it
-- enters.
abbrev pub heard_by : Transition → List Channel
heard_by t =
    OfJob t.job ∷ option_to_list (option_map OfEnd t.follows)
    ++ option_to_list (option_and_then channel_of t.enters)

-- an event is known on a channel if it, or one that it happens before, told the channel
pub record IsKnown (events : List Transition) (channel : Channel) (p : ℕ) : Type 0 where
  pub teller : ℕ
  pub event : Transition
  pub is_event : slice_get events teller ≡ Some event
  pub told : Contains (told_by event) channel
  pub reaches : (p ≡ teller) ⊎ Before events p teller
