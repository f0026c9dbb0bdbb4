-- No state that the machine of an accepted text reaches is racing, and no two conflicting accesses on
-- the way are unordered.
use Rattle.std.proofs.Common.{ℕ, List}
use Rattle.sw_graph.specs.declared.graph.Graph.{Graph}
use Rattle.sw_decls.specs.declared.signature.AsyncDefault.{AsyncDefault}
use Rattle.sw_value.specs.Racing.{Racing}
use Rattle.sw_value.specs.Reach.{reach}
use Rattle.sw_before.specs.Events.{events_of}
use Rattle.sw_before.specs.Unordered.{AreOrdered}
use Rattle.sw_sound_facts.proofs.Theorem.{never_races}
use Rattle.sw_order_facts.proofs.Passed.{passed_ordered}
use Rattle.sw_verdict.specs.Phases.{IsGraphOf}
use Rattle.sw_verdict.specs.Verdict.{Accepts}
use Rattle.sw_verdict.proofs.LoweredTexts.{accepted_to_size}
use Rattle.sw_verdict.proofs.Passing.{accepted_passes}
use Rattle.sw_text_facts.proofs.Graphs.{accepted_clean}
use Rattle.sw_text_facts.proofs.Supplied.{text_supplied}

pub accepted_never_races : (rule : AsyncDefault) (text : List ℕ) (graph : Graph)
    → Accepts rule text → IsGraphOf rule text graph → (items : List ℕ)
    → Racing graph (reach graph items) → ⊥
accepted_never_races rule text graph accepts of =
    never_races graph (accepted_clean rule text graph accepts of)
    (text_supplied rule text graph (accepted_to_size rule text accepts) of)
    (accepted_passes rule text graph accepts of)

pub accepted_ordered : (rule : AsyncDefault) (text : List ℕ) (graph : Graph)
    → Accepts rule text → IsGraphOf rule text graph → (items : List ℕ)
    → AreOrdered (events_of graph items)
accepted_ordered rule text graph accepts of =
    passed_ordered graph (accepted_clean rule text graph accepts of)
    (text_supplied rule text graph (accepted_to_size rule text accepts) of)
    (accepted_passes rule text graph accepts of)
