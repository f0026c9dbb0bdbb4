-- The lines of events.
use Rattle.std.proofs.Common.{◌≡◌, ℕ, zero, ◌+◌, suc, List, [], ◌∷◌, length, option_map, slice_get}
use Rattle.std.proofs.Common.{Some, refl, sym, ap, ◌∙◌, arith}
use Rattle.std.proofs.lemmas.List.{length-map}
use Rattle.sw_graph.specs.declared.graph.Graph.{Graph}
use Rattle.sw_before.specs.Events.{events_of}
use Rattle.sw_see_events.specs.Happenings.{happenings, noted, noted_of}
use Rattle.sw_see_events.specs.declared.happening.Happening.{Happening}
use Rattle.sw_see_events.proofs.HappeningLemmas.{noted_events}
use Rattle.sw_see_steps.specs.Steps.{lines_from, step_line, step_lines}

length_from : (text : List ℕ) (names : List (List ℕ)) (n : ℕ) (events : List Happening)
    → length (lines_from text names n events) ≡ length events
length_from text names n [] = refl
length_from text names n (event ∷ events) = ap suc (length_from text names (n + 1) events)

-- as many lines as events
pub one_each : (graph : Graph) (items text : List ℕ) (names : List (List ℕ))
    → length (step_lines text names (happenings graph items)) ≡ length (events_of graph items)
unfolding step_lines
one_each graph items text names =
    length_from text names 1 (happenings graph items)
    ∙ (sym (length-map (happenings graph items) noted) ∙ (ap length (noted_events graph items)
    ∙ length-map (events_of graph items) noted_of))

at_from : (text : List ℕ) (names : List (List ℕ)) (n : ℕ) (events : List Happening) (k : ℕ)
    → slice_get (lines_from text names n events) k
    ≡ option_map (step_line text names (k + n)) (slice_get events k)
at_from text names n [] k = refl
at_from text names n (event ∷ events) zero =
    ap (λ m. Some (step_line text names m event)) (omega arith)
at_from text names n (event ∷ events) (suc k) =
    at_from text names (n + 1) events k
    ∙ ap (λ m. option_map (step_line text names m) (slice_get events k)) (omega arith)

-- the k-th line is that of the k-th event
pub in_order : (text : List ℕ) (names : List (List ℕ)) (events : List Happening) (k : ℕ)
    → slice_get (step_lines text names events) k
    ≡ option_map (step_line text names (k + 1)) (slice_get events k)
unfolding step_lines
in_order text names events k = at_from text names 1 events k
