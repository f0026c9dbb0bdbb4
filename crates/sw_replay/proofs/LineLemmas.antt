-- One item more of those that were taken, and what comes of them.
use Rattle.std.proofs.Common.{◌≡◌, ℕ, ◌<◌, ◌≤◌, List, [], ◌∷◌, ◌++◌, length}
use Rattle.std.proofs.Common.{refl, sym, ap, ◌∙◌, arith, append-nil}
use Rattle.std.specs.List.{fold}
use Rattle.std.proofs.lemmas.List.{append_assoc}
use Rattle.sw_graph.specs.declared.graph.Graph.{Graph}
use Rattle.sw_value.specs.declared.state.State.{State}
use Rattle.sw_value.specs.Start.{start_of}
use Rattle.sw_value.specs.Reach.{step_of, reach}
use Rattle.sw_value.proofs.ReachLemmas.{reach_push}
use Rattle.sw_value.proofs.StaysInBounds as bounds
use Rattle.sw_step.specs.Event.{event_of}
use Rattle.sw_replay.specs.Output.{IsPlayed, line_of, lines_from, lines_of, output_by, output_of}

lines_from_push : (graph : Graph) (state : State) (items : List ℕ) (item : ℕ)
    → lines_from graph state (items ++ item ∷ []) ≡ lines_from graph state items
    ++ line_of (event_of graph (fold (step_of graph) state items) item)
lines_from_push graph state [] item = append-nil (line_of (event_of graph state item))
lines_from_push graph state (i ∷ items) item =
    ap (λ rest. line_of (event_of graph state i) ++ rest)
    (lines_from_push graph (step_of graph state i) items item)
    ∙ sym (append_assoc (line_of (event_of graph state i)) _ _)

-- one item more
pub played_push : (graph : Graph) (items : List ℕ) (item : ℕ) (state after : State)
    (lines more : List ℕ) → IsPlayed graph items state lines → after ≡ step_of graph state item
    → more ≡ lines ++ line_of (event_of graph state item)
    → IsPlayed graph (items ++ item ∷ []) after more
unfolding lines_of reach
played_push graph items item state after lines more is steps prints = record {
  state_is =
      steps ∙ (ap (λ s. step_of graph s item) is.state_is ∙ sym (reach_push graph items item));
  lines_are =
      prints
      ∙ (rw (is.lines_are, is.state_is) (sym (lines_from_push graph (start_of graph) items item)));
}

-- no item at all
pub played_none : (graph : Graph) (state : State) (lines : List ℕ) → state ≡ start_of graph
    → lines ≡ [] → IsPlayed graph [] state lines
unfolding lines_of reach
played_none graph state lines starts none = record { state_is = starts; lines_are = none }

-- a played list has one cell for each item at most
pub played_cells : (graph : Graph) (items : List ℕ) (state : State) (lines : List ℕ)
    → IsPlayed graph items state lines → length state.cells ≤ length items
played_cells graph items state lines is = rw is.state_is (bounds.few_cells graph items)

pub few_jobs : (graph : Graph) (items : List ℕ) → length (reach graph items).jobs < 4294967296
few_jobs graph items = let few = bounds.few_jobs graph items in omega (arith, few)

-- what comes of items that were taken
pub output_is : (graph : Graph) (items : List ℕ) (state : State) (lines : List ℕ)
    → IsPlayed graph items state lines → output_by state lines ≡ output_of graph items
output_is graph items state lines is = rw (is.state_is, is.lines_are) refl
