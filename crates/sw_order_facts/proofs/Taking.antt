-- Whose a place is after a step: whose it was, or a taker's. For each act of a secure state.
use Rattle.std.proofs.Common.{◌≡◌, ◌⊎◌, ◌<◌, inl, inr, ℕ, Some}
use Rattle.std.proofs.Common.{None, List, length, refl, sym, subst, ap, ◌∙◌}
use Rattle.std.specs.List.{slice_get, slice_index_or}
use Rattle.std.proofs.lemmas.Option.{slice_get_within}
use Rattle.sw_list.proofs.ListLemmas.{some_injective}
use Rattle.sw_graph.specs.declared.graph.Graph.{Graph}
use Rattle.sw_value.specs.declared.cell.HeapCell.{HeapCell}
use Rattle.sw_value.specs.declared.effect.Act.{Act}
use Rattle.sw_value.specs.declared.effect.Act.TheVariants.{Execute}
use Rattle.sw_value.specs.declared.effect.Effect.{Effect}
use Rattle.sw_value.specs.declared.race.Place.{Place}
use Rattle.sw_value.specs.declared.race.Place.TheVariants.{Prop, Global, BoxOf}
use Rattle.sw_value.specs.declared.state.State.{State}
use Rattle.sw_value.specs.Act.{act_of}
use Rattle.sw_value.specs.Reach.{after_effect, step_of}
use Rattle.sw_value.proofs.ReachLemmas.{after_acts, step_by_act}
use Rattle.sw_owner_facts.specs.Colours.{Actor, Colour, OfActor, OfJob}
use Rattle.sw_view_facts.specs.Views.{Colours}
use Rattle.sw_secure_facts.specs.Memory.{keeper}
use Rattle.sw_secure_race_facts.specs.Places.{cell_in}
use Rattle.sw_machine_name_facts.specs.Given.{LiesIn, made_cell}
use Rattle.sw_order_facts.specs.Taking.{AllTake, IsTakers, begins, stays, taken}
use Rattle.sw_machine_name_facts.proofs.Cells.{new_cell}
use Rattle.sw_order_facts.proofs.Cells.{added_made, cell_was}

lies_in : (place : Place) (c : ℕ) → cell_in place ≡ Some c → LiesIn place c
lies_in (Prop c i) k is = some_injective is
lies_in (BoxOf c) k is = some_injective is
lies_in (Global g) k is = (let no : ⊥ = cc in no)

-- ---- a dispatch and a wake change no colours
pub cells_stay : (graph : Graph) (state : State) (colours : Colours) (j : ℕ) (act : Act)
    → (step_of graph state j).cells ≡ state.cells → AllTake graph state colours j act colours
cells_stay graph state colours j act cells place colour (inl has) = stays (inl has)
cells_stay graph state colours j act cells (Prop c i) colour (inr (actor, (bare, found), is)) =
    stays (inr (
      actor,
      (bare, (found.0, ap (λ (l : List HeapCell). slice_get l c) (sym cells) ∙ found.1, found.2)),
      is,
    ))
cells_stay graph state colours j act cells (BoxOf c) colour (inr (actor, kept, is)) = absurd kept
cells_stay graph state colours j act cells (Global g) colour (inr (actor, kept, is)) =
    stays (inr (actor, kept, is))

-- ---- an effect
-- a cell's colour after it: what it was, or a taker's
abbrev pub CellTakes : State → Colours → ℕ → Effect → ℕ → Colour → Type 0
CellTakes state colours j e c colour = (slice_index_or colours.cells c None ≡ Some colour)
    ⊎ (((n : ℕ) × (slice_index_or colours.cells c None ≡ Some (OfJob j n))
    × IsTakers state j (Execute e) colour)
    ⊎ ((made_cell (Execute e) ≡ Some c) × IsTakers state j (Execute e) colour))

module _ (graph : Graph) (state : State) (colours after : Colours) (j : ℕ) (e : Effect)
    (acts : act_of graph state j ≡ Some (Execute e))
    (next_cell : (c : ℕ) → made_cell (Execute e) ≡ Some c → c ≡ length state.cells) where
  stepped : step_of graph state j ≡ after_effect j e state
  stepped = step_by_act graph state j ∙ ap (λ o. after_acts j o state) acts

  -- each cell's colour is a taker's, and what keeps the cell that is made is one
  pub all_take : ((c : ℕ) (colour : Colour) → slice_index_or after.cells c None ≡ Some colour
      → CellTakes state colours j e c colour)
      → ((c : ℕ) → slice_index_or after.cells c None ≡ None → c < length state.cells
      → slice_index_or colours.cells c None ≡ None)
      → ((c : ℕ) (cell : HeapCell) (actor : Actor) → made_cell (Execute e) ≡ Some c
      → new_cell (Execute e) ≡ Some cell → keeper graph c cell ≡ Some actor
      → IsTakers state j (Execute e) (OfActor actor))
      → AllTake graph state colours j (Execute e) after
  all_take coloured bare news place colour (inl has) =
      elim (coloured has.number colour has.is) [
        | inl was ↦ stays (inl (record { number = has.number; inside = has.inside; is = was }))
        | inr more ↦ elim more [
          | inl own ↦ taken own.0
              (inl (record { number = has.number; inside = has.inside; is = own.1 })) own.2
          | inr made ↦ begins has.number made.0 (lies_in place has.number has.inside) made.1
        ]
      ]
  all_take coloured bare news (Prop c i) colour (inr (actor, (none, (cell, at, keeps)), is)) =
      elim (cell_was graph state j e c cell
      (ap (λ (s : State). slice_get s.cells c) (sym stepped) ∙ at)) [
        | inl (old, there, same) ↦ stays (inr (
          actor,
          (bare c none (slice_get_within state.cells c old there), (old, there, sym same ∙ keeps)),
          is,
        ))
        | inr (end, added) ↦
            let made = added_made e cell added in
            let here : made_cell (Execute e) ≡ Some c =
            made.1 ∙ ap Some (next_cell made.0 made.1 ∙ sym end) in
            begins c here refl
            (subst (IsTakers state j (Execute e)) (sym is) (news c cell actor here added keeps))
      ]
  all_take coloured bare news (BoxOf c) colour (inr (actor, kept, is)) = absurd kept
  all_take coloured bare news (Global g) colour (inr (actor, kept, is)) =
      stays (inr (actor, kept, is))
