-- Actors, and the channels of happens-before that jobs, their ends and actors stand for.
use Rattle.std.specs.Prelude.{◌==◌, Bool, false, Option, Some, None}
use Rattle.sw_value.specs.declared.executor.Executor.{Executor}
use Rattle.sw_value.specs.declared.executor.Executor.TheVariants as executor
use Rattle.sw_before.specs.Channels as before
use Rattle.sw_clocks.specs.declared.channel.Actor.{Actor}
use Rattle.sw_clocks.specs.declared.channel.Actor.TheVariants.{ActorOf, Global}
use Rattle.sw_clocks.specs.declared.channel.Channel.{Channel}
use Rattle.sw_clocks.specs.declared.channel.Channel.TheVariants.{OfJob, OfEnd, OfActor}

-- whether two actors are one
abbrev pub is_same_actor : Actor → Actor → Bool
is_same_actor (ActorOf c) (ActorOf d) = c == d
is_same_actor (Global g) (Global h) = g == h
is_same_actor _ _ = false

-- the actor that an executor is; the generic one is none
abbrev pub actor_of : Executor → Option Actor
actor_of executor.Generic = None
actor_of (executor.ActorOf c) = Some (ActorOf c)
actor_of (executor.Global g) = Some (Global g)

abbrev pub executor_of : Actor → Executor
executor_of (ActorOf c) = executor.ActorOf c
executor_of (Global g) = executor.Global g

abbrev pub meant : Channel → before.Channel
meant (OfJob j) = before.OfJob j
meant (OfEnd j) = before.OfEnd j
meant (OfActor a) = before.OfExecutor (executor_of a)
