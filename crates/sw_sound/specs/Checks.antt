-- What a checked graph keeps.
use Rattle.std.specs.Prelude.{◌≢◌, List, []}
use Rattle.sw_breach.specs.declared.Breach.{Breach}
use Rattle.sw_graph.specs.declared.graph.Graph.{Graph}
use Rattle.sw_graph.specs.Clean.{IsClean}
use Rattle.sw_graph.specs.Supplied.{IsSupplied}
use Rattle.sw_region_flow.specs.Breaches.{AreBreaches}
use Rattle.sw_region_flow.specs.Passing.{IsPassed}

-- The graph is clean and supplied, and no test on regions fails in it.
pub record IsChecked (graph : Graph) : Type 0 where
  pub clean : IsClean graph
  pub supplied : IsSupplied graph
  pub passed : IsPassed graph

-- these are the region breaches of the graph, and there are some
pub record HasBreaches (graph : Graph) (breaches : List Breach) : Type 0 where
  pub some : breaches ≢ []
  pub are : AreBreaches graph breaches
