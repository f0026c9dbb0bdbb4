-- An initialiser makes what it initialises: only its return is left, and what it held is handed
-- over.
use Rattle.std.proofs.Common.{◌≡◌, ◌+◌, ℕ, true, false, IsTrue, Option, Some, None, List, [], ◌∷◌}
use Rattle.std.proofs.Common.{◌++◌, length, map, Contains, refl, sym, ap, ◌∙◌}
use Rattle.std.proofs.lemmas.List.{length-map}
use Rattle.std.specs.List.{slice_get}
use Rattle.sw_graph.specs.declared.function.Function.{Function}
use Rattle.sw_graph.specs.declared.graph.Graph.{Graph}
use Rattle.sw_graph.specs.declared.instr.Instr.{Instr}
use Rattle.sw_graph.specs.declared.instr.Last.{Last}
use Rattle.sw_graph.specs.declared.instr.Last.TheVariants.{Jump, Branch, Switch, Return}
use Rattle.sw_graph.specs.Bodies.{has_self}
use Rattle.sw_graph.specs.Mentions.{set_by}
use Rattle.sw_graph.specs.Placed.{IsLastOf, IsReturn, MakerPlaced}
use Rattle.sw_graph.specs.Points.{Middle, End, point_in}
use Rattle.sw_graph.specs.Ways.{is_number, point_sets}
use Rattle.sw_value.specs.declared.cell.HeapCell.{HeapCell}
use Rattle.sw_value.specs.declared.effect.Effect.TheVariants.{New}
use Rattle.sw_value.specs.declared.frame.Frame.{Frame}
use Rattle.sw_value.specs.declared.job.Job.{Job}
use Rattle.sw_value.specs.declared.state.State.{State}
use Rattle.sw_value.specs.Effect.{point_effect}
use Rattle.sw_value.specs.Reach.{step_of}
use Rattle.sw_value.proofs.ListLemmas.{slice_get_end}
use Rattle.sw_partition.specs.Regions.{Regions}
use Rattle.sw_machine_kind_facts.specs.Standing.{PlaceOfPoint}
use Rattle.sw_machine_kind_facts.proofs.PlaceLemmas.{instr_at_place, next_place, point_at_place}
use Rattle.sw_owner_facts.specs.Colours.{Colour, OfJob}
use Rattle.sw_owner_facts.specs.View.{IsUnheld, Frame as Spot}
use Rattle.sw_owner_facts.specs.Within.{BeginsClosing}
use Rattle.sw_owner_facts.proofs.WithinLemmas.{closed}
use Rattle.sw_reach_facts.specs.Coloured.{may_have_colour}
use Rattle.sw_view_facts.specs.Memory.{coloured_more}
use Rattle.sw_view_facts.specs.Renaming.{united}
use Rattle.sw_view_facts.specs.Standing.{StandsAt}
use Rattle.sw_view_facts.specs.Views.{Colours, annotated, closes_at, is_return, isolation_in}
use Rattle.sw_view_facts.specs.Views.{makes_itself, view_at}
use Rattle.sw_view_facts.proofs.EffectLemmas.{others_kept}
use Rattle.sw_view_facts.proofs.RenameLemmas.{hands_over}
use Rattle.sw_view_facts.proofs.ShapeLemmas.{isolation_kept, shape_shut, shut_after}
use Rattle.sw_view_facts.proofs.StepLemmas.{effect_closes}
use Rattle.sw_store_facts.specs.Sound.{HasSoundView}
use Rattle.sw_store_facts.proofs.Standing as standing
use Rattle.sw_store_facts.proofs.Stepping.{executes, goes_next, row}
use Rattle.sw_secure_facts.specs.Secure.{IsSecure}
use Rattle.sw_secure_facts.proofs.Heres.{have_heres}
use Rattle.sw_secure_cell_facts.proofs.Made.{change, keeps, turned}
use Rattle.sw_secure_cell_facts.proofs.Whole.{heres_now}

-- what ends a block as a return is one
returns : (last : Last) → IsReturn last → is_return (Some (End last)) ≡ true
returns (Return value) is = refl
returns (Jump to) is = absurd is
returns (Branch condition holds fails) is = absurd is
returns (Switch subject to) is = absurd is

module _ (graph : Graph) (states : ℕ → List (Option Regions)) (state : State) (colours : Colours)
    (s : IsSecure graph states state colours) (q : Spot) (job : Job) (f : Frame)
    (function : Function) (instr : Instr)
    (x : StandsAt graph state q job f function (Middle instr)) where
  -- where the instruction stands
  abbrev place : PlaceOfPoint function f.point
  place = standing.place graph states state colours s.coloured q job f function (Middle instr) x

  -- where its maker stands
  pub maker_placed : MakerPlaced graph function place.block place.index instr
  maker_placed = s.coloured.clean.placed.makers f.function function x.is place.number place.index
      place.block instr place.is (instr_at_place function f.point place instr x.here)

  -- a return comes next
  pub return_next : IsLastOf place.block place.index
      → is_return (point_in function (f.point + 1)) ≡ true
  return_next last =
      ap is_return (point_at_place function (f.point + 1)
      (next_place function f.point place instr x.here)
      ∙ ap (slice_get (map Middle place.block.instrs ++ End place.block.last ∷ []))
      (last.last ∙ sym (length-map place.block.instrs Middle))
      ∙ slice_get_end (map Middle place.block.instrs) (End place.block.last))
      ∙ returns place.block.last last.returns

  module _ (r : ℕ) (cell : HeapCell) (sets_r : set_by instr ≡ Some r)
      (gives : point_effect graph state (length job.frames) f (Middle instr)
      ≡ New r cell (length state.cells) (f.point + 1))
      (makes_it : makes_itself graph function (Middle instr) ≡ true)
      (last : IsLastOf place.block place.index) where
    abbrev next : State
    next = step_of graph state q.job

    abbrev more : Colours
    more = coloured_more None colours

    never : (own : Colour) → None ≡ Some own → may_have_colour graph cell ≡ true
    never own is = cc

    abbrev after_turn : Frame
    after_turn = turned graph states state colours s.coloured s.memory.count q job f function instr
        x r cell sets_r gives None never

    closes_now : closes_at graph function after_turn.point ≡ true
    closes_now =
        ap (closes_at graph function) (goes_next (New r cell (length state.cells) (f.point + 1)) f
        (f.point + 1) refl)
        ∙ shut_after graph function f.point (Middle instr) x.here makes_it (return_next last)

    stays : IsTrue (has_self function) → set_by instr ≡ Some 0 → ⊥
    stays self own =
        let never = (s.coloured.clean.placed.selves f.function function x.is self).stays f.point in
        let sets : point_sets 0 (Some (Middle instr)) ≡ true = ap (is_number 0) own in
        let is = sym (ap (point_sets 0) x.here) ∙ never in
        let clash : true ≡ false = sym sets ∙ is in
        cc

    isolation_stays : isolation_in function after_turn.regs ≡ isolation_in function f.regs
    isolation_stays = isolation_kept function f.regs after_turn.regs
        (λ self. others_kept (New r cell (length state.cells) (f.point + 1)) f 0
        (λ sets. stays self (sets_r ∙ sets)))

    pub begins : BeginsClosing (view_at graph states state colours)
        (view_at graph states next more) q
    begins =
        let here = row graph states state colours s.coloured q job f function instr x in
        effect_closes graph states state next q f function
        (New r cell (length state.cells) (f.point + 1)) (annotated states state)
        (annotated states next) colours more here.a here.c
        (executes graph states state colours s.coloured q job f function instr x
        (New r cell (length state.cells) (f.point + 1)) refl refl gives more (λ p. refl)
        (keeps graph states state colours s.coloured s.memory.count q job f function instr x r cell
        sets_r gives None never))
        (shape_shut graph function f after_turn
        (change graph states state colours s.coloured s.memory.count q job f function instr x r cell
        sets_r gives None never).call x.is isolation_stays closes_now)

    -- what nothing live holds any more becomes another's
    pub handed_sound : (numbers : List ℕ) (kept : Colour)
        → ((n : ℕ) → Contains numbers n
        → IsUnheld (view_at graph states next more) (OfJob q.job n))
        → HasSoundView graph states next (united q.job numbers kept more)
    handed_sound numbers kept unheld =
        hands_over graph (annotated states next) next q.job kept numbers more
        (have_heres graph states next more (heres_now graph states state colours s q job f function
        instr x r cell sets_r gives None never)) unheld
        (closed (view_at graph states state colours) (view_at graph states next more) q
        s.coloured.sound begins)
