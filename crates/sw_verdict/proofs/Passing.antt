-- In the graph of an accepted text each test of the regions passes.
use Rattle.std.proofs.Common.{ℕ, List, [], ◌∷◌, ◌++◌, inr, subst}
use Rattle.sw_graph.specs.declared.graph.Graph.{Graph}
use Rattle.sw_decls.specs.declared.signature.AsyncDefault.{AsyncDefault}
use Rattle.sw_region_flow.proofs.OneSites.{no_member}
use Rattle.sw_region_flow.proofs.Passing.{graph_passes, no_breaches}
use Rattle.sw_region_flow.specs.Passing.{IsPassed}
use Rattle.sw_region_flow.specs.Breaches.{AreBreaches}
use Rattle.sw_verdict.specs.Phases.{Finds, IsGraphOf, Phase, Races, RacesFinds, Sharing}
use Rattle.sw_verdict.specs.Phases.{phases_to_sharing, phases_to_size}
use Rattle.sw_verdict.specs.Verdict.{Accepts, Breaches, later, none}
use Rattle.sw_verdict.proofs.LoweredTexts.{sharing_to_size}
use Rattle.sw_verdict.proofs.OneLowered.{one_graph_of}
use Rattle.sw_verdict.proofs.Races.{raceless}
use Rattle.sw_verdict.proofs.Verdicts.{last_decides}

-- where all these phases find none, so does the last
pub last_finds : (rule : AsyncDefault) (last : Phase) (text : List ℕ)
    → Breaches rule (phases_to_size ++ last ∷ []) text [] → Finds rule last text []
last_finds rule last text (later _ _ _ _ _ (later _ _ _ _ _ (later _ _ _ _ _ (later _ _ _ _ _
    (later _ _ _ _ _ (later _ _ _ _ _ (later _ _ _ _ _ (later _ _ _ _ found (none _))))))))) = found

raceless_passes : (rule : AsyncDefault) (text : List ℕ) (graph : Graph) → RacesFinds rule text []
    → IsGraphOf rule text graph
    → IsPassed graph
raceless_passes rule text graph found is_graph =
    subst IsPassed (one_graph_of rule text found.graph graph found.of_text is_graph)
    (graph_passes found.graph (no_breaches found.graph (λ breach breaks.
    let kept = found.are_all.complete breach (inr breaks) in no_member kept.0 kept.1)))

pub accepted_passes : (rule : AsyncDefault) (text : List ℕ) (graph : Graph) → Accepts rule text
    → IsGraphOf rule text graph
    → IsPassed graph
accepted_passes rule text graph accepts =
    raceless_passes rule text graph (last_finds rule Races text accepts)

-- A text that shares nothing, and whose graph has no region breach, is accepted.
pub certified_accepts : (rule : AsyncDefault) (text : List ℕ) (graph : Graph)
    → Breaches rule phases_to_sharing text [] → IsGraphOf rule text graph → AreBreaches graph []
    → Accepts rule text
certified_accepts rule text graph passes of_text whole =
    last_decides rule Races text [] (sharing_to_size rule text passes)
    (raceless rule text graph (last_finds rule Sharing text passes) of_text whole)
