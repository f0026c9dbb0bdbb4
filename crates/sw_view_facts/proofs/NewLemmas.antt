-- What the reference to a new cell reaches, and that registers name the cells that were there.
use Rattle.std.specs.Option.{option_and_then}
use Rattle.std.specs.List.{slice_get, slice_index_or}
use Rattle.std.proofs.Common.{◌≡◌, ◌<◌, ℕ, Option, Some, None, List, [], ◌∷◌, ◌++◌, length, refl}
use Rattle.std.proofs.Common.{sym, ap, ◌∙◌, arith, length-append}
use Rattle.std.proofs.Math.Seq.{get_or-append_seam}
use Rattle.sw_graph.specs.declared.graph.Graph.{Graph}
use Rattle.sw_value.specs.declared.cell.HeapCell.{HeapCell}
use Rattle.sw_value.specs.declared.job.Job.{Job}
use Rattle.sw_value.specs.declared.state.State.{State}
use Rattle.sw_value.specs.declared.value.Value.TheVariants as value
use Rattle.sw_value.specs.declared.cell.HeapCell.TheVariants.{Object, Actor, BoxOf, Closure, TaskOf}
use Rattle.sw_value.specs.declared.value.Value.{Value}
use Rattle.sw_value.proofs.ListLemmas.{slice_get_end}
use Rattle.sw_machine_kind_facts.specs.Kinded.{Kinded}
use Rattle.sw_owner_facts.specs.Colours.{Colour}
use Rattle.sw_reach_facts.specs.Named.{NamesCells}
use Rattle.sw_reach_facts.specs.Reached.{colours_of, shown, shown_below}
use Rattle.sw_reach_facts.proofs.CellLemmas.{colours_of_cell, shows_own}
use Rattle.sw_reach_facts.proofs.NamedLemmas.{registers_named}
use Rattle.sw_view_facts.specs.Memory.{RegistersName}

index_end : (xs : List (Option Colour)) (n : ℕ) (colour : Option Colour) → length xs ≡ n
    → slice_index_or (xs ++ colour ∷ []) n None ≡ colour
index_end xs n colour is = ap (λ k. slice_index_or (xs ++ colour ∷ []) k None) (sym is)
    ∙ get_or-append_seam xs colour [] None

-- the reference to a new cell with a colour reaches that colour
pub new_shows : (cells : List HeapCell) (colours : List (Option Colour)) (cell : HeapCell)
    (own : Colour) → length colours ≡ length cells
    → colours_of (cells ++ cell ∷ []) (colours ++ Some own ∷ []) (value.Cell (length cells))
    ≡ own ∷ []
new_shows cells colours cell own count =
    colours_of_cell (cells ++ cell ∷ []) (colours ++ Some own ∷ []) (value.Cell (length cells))
    (length cells) (value.outs-Cell (length cells)) inside
    ∙ shows_own (cells ++ cell ∷ []) (colours ++ Some own ∷ []) (length cells) own inside
    (index_end colours (length cells) (Some own) count)
  where
    inside : length cells < length (cells ++ cell ∷ [])
    inside = let e = length-append cells (cell ∷ []) in omega (arith, e)

-- and to one without a colour nothing, unless it is a closure
pub bare_shows : (cells : List HeapCell) (colours : List (Option Colour)) (cell : HeapCell)
    → length colours ≡ length cells
    → ((f : ℕ) (captures : List Value) → cell ≡ Closure f captures → ⊥)
    → colours_of (cells ++ cell ∷ []) (colours ++ None ∷ []) (value.Cell (length cells)) ≡ []
bare_shows cells colours cell count bare =
    colours_of_cell (cells ++ cell ∷ []) (colours ++ None ∷ []) (value.Cell (length cells))
    (length cells) (value.outs-Cell (length cells)) inside
    ∙ ap (λ o. shown below o (slice_get (cells ++ cell ∷ []) (length cells)))
    (index_end colours (length cells) None count)
    ∙ ap (shown below None) (slice_get_end cells cell) ∙ by cell bare
  where
    inside : length cells < length (cells ++ cell ∷ [])
    inside = let e = length-append cells (cell ∷ []) in omega (arith, e)

    below : ℕ → List Colour
    below = shown_below (cells ++ cell ∷ []) (colours ++ None ∷ []) (length cells)

    by : (c : HeapCell) → ((f : ℕ) (captures : List Value) → c ≡ Closure f captures → ⊥)
        → shown below None (Some c) ≡ []
    by (Object k vs) bare = refl
    by (Actor k vs) bare = refl
    by (BoxOf v) bare = refl
    by (Closure f vs) bare = absurd (bare f vs refl)
    by (TaskOf j) bare = refl

-- the registers of a kinded state refer to cells that are there
pub registers_name : (graph : Graph) (state : State) → Kinded graph state → RegistersName state
registers_name graph state kinded p h r v there has = by (slice_get state.jobs p.job) refl there
  where
    by : (o : Option Job) → slice_get state.jobs p.job ≡ o
        → option_and_then (λ (job : Job). slice_get job.frames p.depth) o ≡ Some h
        → NamesCells state.cells v
    by None is there = cc
    by (Some job) is there =
        registers_named graph state kinded p.job p.depth job h r v is there has
