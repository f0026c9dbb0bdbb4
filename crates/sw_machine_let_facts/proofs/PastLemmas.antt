-- Where no frame is of a function that gives a first value, none is later, and no global `let`
-- changes.
use Rattle.std.proofs.Common.{◌≡◌, ℕ, ◌-◌, inl, inr, List, ◌∷◌, [], ◌++◌, length, ap, sym, ◌∙◌}
use Rattle.std.proofs.Common.{subst, refl}
use Rattle.std.specs.List.{Contains}
use Rattle.sw_graph.specs.declared.graph.Graph.{Graph}
use Rattle.sw_graph.specs.Placed.{IsPlaced}
use Rattle.sw_value.specs.declared.race.Place.TheVariants.{Global}
use Rattle.sw_value.specs.declared.state.State.{State}
use Rattle.sw_value.specs.Job.{top_frame}
use Rattle.sw_value.specs.Reach.{step_of, reach}
use Rattle.sw_value.specs.Start.{start_of}
use Rattle.sw_value.proofs.ReachLemmas.{reach_keeps, reach_push}
use Rattle.sw_machine_access_facts.specs.Location.{IsLocation, content_of}
use Rattle.sw_machine_let_facts.specs.Lets.{IsPastFirsts}
use Rattle.sw_machine_let_facts.proofs.FunctionLemmas.{CellsOf, NamesOf, step_jobs, step_cells}
use Rattle.sw_machine_let_facts.proofs.GlobalLemmas.{store_first}
use Rattle.sw_machine_let_facts.proofs.RunLemmas.{further}
use Rattle.sw_machine_let_facts.proofs.StepLemmas.{step_keeps}

-- a function that gives no first value
abbrev Later : Graph → ℕ → Type 0
Later graph f = Contains graph.starts f → ⊥

names_later : (graph : Graph) → IsPlaced graph → NamesOf (Later graph) graph
names_later graph placed = λ n body is p i here f named first.
    placed.unnamed n body is p i here f first named

-- no closure is of a function that gives a first value
closures_later : (graph : Graph) → IsPlaced graph → (items : List ℕ)
    → CellsOf (Later graph) (reach graph items)
unfolding start_of
closures_later graph placed items =
    reach_keeps (CellsOf (Later graph)) graph (λ k h at. cc)
    (λ state item cells. step_cells (Later graph) graph (names_later graph placed) state cells item)
    items

past_step : (graph : Graph) → IsPlaced graph → (items : List ℕ) (item : ℕ)
    → IsPastFirsts graph (reach graph items)
    → IsPastFirsts graph (reach graph (items ++ item ∷ []))
past_step graph placed items item past =
    subst (IsPastFirsts graph) (sym (reach_push graph items item))
    (step_jobs (Later graph) graph (names_later graph placed) (reach graph items)
    (closures_later graph placed items) past item)

pub past_on : (graph : Graph) → IsPlaced graph → (items more : List ℕ)
    → IsPastFirsts graph (reach graph items) → IsPastFirsts graph (reach graph (items ++ more))
past_on graph placed items more past =
    further (λ l. IsPastFirsts graph (reach graph l)) (past_step graph placed) items more past

-- a step where all first values are given
let_same : (graph : Graph) → IsPlaced graph → (state : State) (j g : ℕ)
    → IsPastFirsts graph state → (IsLocation graph state (Global g) → ⊥)
    → content_of (step_of graph state j) (Global g) ≡ content_of state (Global g)
unfolding top_frame
let_same graph placed state j g past let_is = elim (step_keeps graph state j (Global g) tt) [
  | inl same ↦ same
  | inr stores ↦
      let first = store_first graph placed state j g let_is stores in
      absurd (past j first.job first.is (length first.job.frames - 1) first.frame first.top
      first.first)
]

pub global_kept_on : (graph : Graph) → IsPlaced graph → (items more : List ℕ) (g : ℕ)
    → IsPastFirsts graph (reach graph items)
    → (IsLocation graph (reach graph items) (Global g) → ⊥)
    → content_of (reach graph (items ++ more)) (Global g)
    ≡ content_of (reach graph items) (Global g)
global_kept_on graph placed items more g past let_is =
    (further (λ l. (content_of (reach graph l) (Global g)
    ≡ content_of (reach graph items) (Global g)) × IsPastFirsts graph (reach graph l))
    (λ before item (same, here). (
      ap (λ s. content_of s (Global g)) (reach_push graph before item)
          ∙ let_same graph placed (reach graph before) item g here let_is ∙ same,
      past_step graph placed before item here,
    )) items more (refl, past)).0
