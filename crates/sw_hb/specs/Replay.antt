-- What comes of a list of items whose accesses are to be ordered.
use Rattle.std.specs.Prelude.{◌≡◌, ℕ, Some, None, List}
use Rattle.sw_graph.specs.declared.graph.Graph.{Graph}
use Rattle.sw_value.specs.declared.race.Access.{Access}
use Rattle.sw_value.specs.declared.state.TrapKind.{TrapKind}
use Rattle.sw_value.specs.Reach.{reach}
use Rattle.sw_before.specs.Events.{events_of}
use Rattle.sw_before.specs.Unordered.{IsFirstUnordered, AreOrdered}
use Rattle.sw_replay.specs.Output.{lines_of}
use Rattle.sw_hb.specs.declared.ordering.OrderReplay.{OrderReplay}
use Rattle.sw_hb.specs.declared.ordering.OrderReplay.TheVariants as replay
use Rattle.sw_hb.specs.Clocked.{HasManyJobs}
use Rattle.sw_hb.specs.Events.{accesses_in}

-- The first of four outcomes that holds: an item would make one job too many, so that there are too
-- many after all items; two accesses are unordered, of which the first two are named; the machine
-- is halted; or neither.
pub data IsOrderReplay (graph : Graph) (items : List ℕ) : OrderReplay → Type 0 where
  many : HasManyJobs (reach graph items) → IsOrderReplay graph items replay.ManyJobs
  unordered : ¬ HasManyJobs (reach graph items) → (first second : Access)
      → IsFirstUnordered (events_of graph items) first second
      → IsOrderReplay graph items (replay.Unordered (lines_of graph items) first second)
  trapped : ¬ HasManyJobs (reach graph items) → AreOrdered (events_of graph items)
      → (kind : TrapKind) (at : ℕ) → (reach graph items).halted ≡ Some (kind, at)
      → IsOrderReplay graph items (replay.Trapped (lines_of graph items) kind at)
  ordered : ¬ HasManyJobs (reach graph items) → AreOrdered (events_of graph items)
      → (reach graph items).halted ≡ None
      → IsOrderReplay graph items
      (replay.Ordered (lines_of graph items) (accesses_in (events_of graph items)))
