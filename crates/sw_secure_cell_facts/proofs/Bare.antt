-- A cell that is made without a colour.
use Rattle.std.proofs.Common.{◌≡◌, ◌≢◌, ◌+◌, ℕ, true, false, Option, Some, None, List, []}
use Rattle.std.proofs.Common.{length, Contains, refl, sym, subst, ◌∙◌}
use Rattle.sw_graph.specs.declared.function.Function.{Function}
use Rattle.sw_graph.specs.declared.graph.Graph.{Graph}
use Rattle.sw_graph.specs.declared.instr.Instr.{Instr}
use Rattle.sw_graph.specs.Mentions.{set_by}
use Rattle.sw_graph.specs.Points.{Middle}
use Rattle.sw_value.specs.declared.cell.HeapCell.{HeapCell}
use Rattle.sw_value.specs.declared.effect.Effect.TheVariants.{New}
use Rattle.sw_value.specs.declared.frame.Frame.{Frame}
use Rattle.sw_value.specs.declared.job.Job.{Job}
use Rattle.sw_value.specs.declared.state.State.{State}
use Rattle.sw_value.specs.declared.value.Value.TheVariants as value
use Rattle.sw_value.specs.Effect.{point_effect}
use Rattle.sw_value.specs.Reach.{step_of}
use Rattle.sw_partition.specs.Regions.{Regions}
use Rattle.sw_region_ops.specs.Elements.{element_at, elements_of}
use Rattle.sw_owner_facts.specs.Colours.{Colour, OfJob}
use Rattle.sw_owner_facts.specs.View.{Element, Register, Frame as Spot}
use Rattle.sw_region_facts.specs.Moves.{Makes, if_tracked}
use Rattle.sw_region_facts.proofs.Comes.{makes_sets}
use Rattle.sw_reach_facts.specs.Coloured.{may_have_colour}
use Rattle.sw_reach_facts.specs.Reached.{colours_of}
use Rattle.sw_view_facts.specs.Changes.{HoldsIn}
use Rattle.sw_view_facts.specs.Memory.{coloured_more}
use Rattle.sw_view_facts.specs.Standing.{StandsAt}
use Rattle.sw_view_facts.specs.Views.{Colours, annotated, colours_by, here_at, makes_itself}
use Rattle.sw_view_facts.proofs.StepLemmas.{effect_sets}
use Rattle.sw_view_facts.proofs.ValueLemmas.{register_shows}
use Rattle.sw_store_facts.specs.Sound.{HasSoundView}
use Rattle.sw_store_facts.proofs.Stepping.{executes, keeps_shape, row}
use Rattle.sw_secure_facts.specs.Painting.{Unites}
use Rattle.sw_secure_facts.specs.Secure.{IsSecure}
use Rattle.sw_secure_facts.proofs.Uniting.{same_unites}
use Rattle.sw_secure_cell_facts.proofs.Adding.{HoldsItsOwn}
use Rattle.sw_secure_cell_facts.proofs.Made.{keeps, turned, untracked_nothing}
use Rattle.sw_secure_cell_facts.proofs.Whole.{made_secure}

module _ (graph : Graph) (states : ℕ → List (Option Regions)) (state : State) (colours : Colours)
    (s : IsSecure graph states state colours) (q : Spot) (job : Job) (f : Frame)
    (function : Function) (instr : Instr)
    (x : StandsAt graph state q job f function (Middle instr)) (r : ℕ) (cell : HeapCell)
    (sets_r : set_by instr ≡ Some r)
    (gives : point_effect graph state (length job.frames) f (Middle instr)
    ≡ New r cell (length state.cells) (f.point + 1))
    (ordinary : makes_itself graph function (Middle instr) ≡ false) (xs : List Element)
    (makes : Makes (elements_of graph.shapes function.regs) r xs
    (row graph states state colours s.coloured q job f function instr x).a
    (row graph states state colours s.coloured q job f function instr x).c)
    (apart : (y : Element) → Contains xs y → y ≢ Register r)
    (brings : (c : Colour)
    → Contains (colours_of (step_of graph state q.job).cells (coloured_more None colours).cells
    (value.Cell (length state.cells))) c
    → (y : Element) × Contains xs y × HoldsIn state colours f (here_at colours q) y c) where
  abbrev elements : List (Option ℕ)
  elements = elements_of graph.shapes function.regs

  abbrev next : State
  next = step_of graph state q.job

  abbrev more : Colours
  more = coloured_more None colours

  may_none : (own : Colour) → None ≡ Some own → may_have_colour graph cell ≡ true
  may_none own is = cc

  abbrev after_turn : Frame
  after_turn = turned graph states state colours s.coloured s.memory.count q job f function instr x
      r cell sets_r gives None may_none

  comes : (c : Colour) → Contains (colours_by next more (Some after_turn) r) c
      → (y : Element) × Contains (if_tracked (element_at elements r) xs) y
      × HoldsIn state colours f (here_at colours q) y c
  comes c has = by (element_at elements r) refl where
    by : (o : Option ℕ) → element_at elements r ≡ o
        → (y : Element) × Contains (if_tracked o xs) y
        × HoldsIn state colours f (here_at colours q) y c
    by None none = absurd (untracked_nothing graph states state colours s.coloured s.memory.count q
        job f function instr x r cell sets_r gives None may_none none c has)
    by (Some n) is = brings c (register_shows next more f
        (New r cell (length state.cells) (f.point + 1)) r (value.Cell (length state.cells)) c refl
        refl has)

  sound : HasSoundView graph states next more
  sound =
      let here = row graph states state colours s.coloured q job f function instr x in
      effect_sets graph states state next q f function
      (New r cell (length state.cells) (f.point + 1)) (annotated states state)
      (annotated states next) colours more here.a here.c
      (executes graph states state colours s.coloured q job f function instr x
      (New r cell (length state.cells) (f.point + 1)) refl refl gives more (λ p. refl)
      (keeps graph states state colours s.coloured s.memory.count q job f function instr x r cell
      sets_r gives None may_none))
      (keeps_shape graph states state colours s.coloured q job f function instr x
      (New r cell (length state.cells) (f.point + 1)) refl refl gives ordinary (λ k sets. sets_r ∙
      sets)) r (if_tracked (element_at elements r) xs) refl (makes_sets elements r xs here.a here.c
      makes apart) comes s.coloured.sound

  pub bare_secure : (joined : List Colour) (after : Colours) (unites : Unites q.job joined more
      after)
      → ((n : ℕ) → Contains unites.numbers n → unites.kept ≡ OfJob q.job n)
      → HoldsItsOwn graph state colours cell None → IsSecure graph states next after
  bare_secure joined after unites same holds =
      subst (IsSecure graph states next)
      (sym (unites.is ∙ same_unites q.job unites.numbers unites.kept more same))
      (made_secure graph states state colours s q job f function instr x r cell sets_r gives None
      may_none [] unites.kept holds sound)
