-- Boxes and objects that are made with a new colour.
use Rattle.std.proofs.Common.{◌<◌, ◌≡◌, ◌+◌, ℕ, suc, false, Option, Some, None, List, [], ◌∷◌, ◌++◌}
use Rattle.std.proofs.Common.{length, Contains, refl, sym, subst, ap, ◌∙◌, inl, inr}
use Rattle.std.specs.List.{slice_get}
use Rattle.sw_list.proofs.Members.{first_or_later, one_in}
use Rattle.sw_graph.specs.declared.function.Function.{Function}
use Rattle.sw_graph.specs.declared.graph.Graph.{Graph}
use Rattle.sw_graph.specs.declared.instr.Instr.{Instr}
use Rattle.sw_graph.specs.Mentions.{set_by}
use Rattle.sw_graph.specs.Points.{Middle}
use Rattle.sw_value.specs.declared.cell.HeapCell.{HeapCell}
use Rattle.sw_value.specs.declared.effect.Effect.{Effect}
use Rattle.sw_value.specs.declared.effect.Effect.TheVariants.{New}
use Rattle.sw_value.specs.declared.frame.Frame.{Frame}
use Rattle.sw_value.specs.declared.job.Job.{Job}
use Rattle.sw_value.specs.declared.state.State.{State}
use Rattle.sw_value.specs.Effect.{point_effect}
use Rattle.sw_value.specs.Reach.{after_effect}
use Rattle.sw_value.specs.State.{add_cell, in_job}
use Rattle.sw_value.specs.declared.value.Value.TheVariants as value
use Rattle.sw_partition.specs.Regions.{Regions}
use Rattle.sw_region_ops.specs.Elements.{element_at, elements_of}
use Rattle.sw_owner_facts.specs.Colours.{Colour, OfJob}
use Rattle.sw_owner_facts.specs.View.{Element, IsUnheld, HoldsLive, Register, above, Frame as Spot}
use Rattle.sw_owner_facts.proofs.FrameLemmas.{below_above, below_differs}
use Rattle.sw_region_facts.specs.FrameRegions.{LiveIn, TogetherIn, region_in}
use Rattle.sw_region_facts.specs.Moves.{Makes}
use Rattle.sw_reach_facts.specs.Reached.{colours_of}
use Rattle.sw_view_facts.specs.Changes.{HoldsIn, KeepsReach}
use Rattle.sw_view_facts.specs.Effects.{turn_of}
use Rattle.sw_view_facts.specs.Memory.{coloured_more}
use Rattle.sw_view_facts.specs.Renaming.{united}
use Rattle.sw_view_facts.specs.Standing.{StandsAt}
use Rattle.sw_view_facts.specs.Steps.{ChangesFrame, height_in}
use Rattle.sw_view_facts.specs.Views.{Colours, annotated, closes_at, colours_by, here_at}
use Rattle.sw_view_facts.specs.Views.{makes_itself, frame_at, view_of}
use Rattle.sw_view_facts.proofs.EffectLemmas.{reach_added}
use Rattle.sw_view_facts.proofs.NewLemmas.{new_shows, registers_name}
use Rattle.sw_view_facts.proofs.RenameLemmas.{unites_all}
use Rattle.sw_view_facts.proofs.ShapeLemmas.{open_after}
use Rattle.sw_view_facts.proofs.StepLemmas.{effect_freshens}
use Rattle.sw_view_facts.proofs.ValueLemmas.{register_shows}
use Rattle.sw_store_facts.specs.Sound.{HasSoundView, HaveHeres, IsColoured, MayBecomeOne}
use Rattle.sw_store_facts.proofs.Holding.{holds_live, one_region}
use Rattle.sw_store_facts.proofs.Stepping.{Row, changes, executes, goes_next, keeps_shape}
use Rattle.sw_store_facts.proofs.Stepping.{next_state, row, stands_behind, steps}

module _ (graph : Graph) (states : ℕ → List (Option Regions)) (state : State) (colours : Colours)
    (s : IsColoured graph states state colours) (heres : HaveHeres graph states state colours)
    (count : length colours.cells ≡ length state.cells) (q : Spot) (job : Job) (f : Frame)
    (function : Function) (instr : Instr)
    (x : StandsAt graph state q job f function (Middle instr))
    (ordinary : makes_itself graph function (Middle instr) ≡ false) (r tracked : ℕ)
    (cell : HeapCell) (sets_r : set_by instr ≡ Some r)
    (is : element_at (elements_of graph.shapes function.regs) r ≡ Some tracked)
    (gives : point_effect graph state (length job.frames) f (Middle instr)
    ≡ New r cell (length state.cells) (f.point + 1)) (xs : List Element)
    (makes : Makes (elements_of graph.shapes function.regs) r xs
    (row graph states state colours s q job f function instr x).a
    (row graph states state colours s q job f function instr x).c) (own : ℕ)
    (unheld : IsUnheld (view_of graph (annotated states state) state colours) (OfJob q.job own)) where
  abbrev elements : List (Option ℕ)
  elements = elements_of graph.shapes function.regs

  abbrev e : Effect
  e = New r cell (length state.cells) (f.point + 1)

  abbrev g : Frame
  g = turn_of e f

  abbrev next : State
  next = next_state graph states state colours s q job f function instr x

  abbrev here : Row graph states state colours s q job f function instr x
  here = row graph states state colours s q job f function instr x

  abbrev pub after : Colours
  after = coloured_more (Some (OfJob q.job own)) colours

  stepped : next ≡ after_effect q.job e state
  stepped = steps graph states state colours s q job f function instr x e refl refl gives

  pub change : ChangesFrame state next q f g
  change = changes graph states state colours s q job f function instr x e refl refl gives

  cells_now : next.cells ≡ state.cells ++ cell ∷ []
  unfolding in_job add_cell
  cells_now = ap (λ (t : State). t.cells) stepped

  shows : (c : Colour) → Contains (colours_by next after (Some g) r) c → c ≡ OfJob q.job own
  shows c has = sym (one_in (OfJob q.job own) c (subst (λ l. Contains l c)
      (ap (λ cells. colours_of cells after.cells (value.Cell (length state.cells))) cells_now
      ∙ new_shows state.cells colours.cells cell (OfJob q.job own) count)
      (register_shows next after f e r (value.Cell (length state.cells)) c refl refl has)))

  -- the register holds the new colour alone
  freshened : HasSoundView graph states next after
  freshened = effect_freshens graph states state next q f function e (annotated states state)
      (annotated states next) colours after here.a here.c
      (executes graph states state colours s q job f function instr x e refl refl gives after
      (λ p. refl) (subst (λ t. KeepsReach state t colours after) (sym stepped)
      (reach_added state colours q.job r cell (length state.cells) (f.point + 1)
      (Some (OfJob q.job own)) count (registers_name graph state s.kinded))))
      (keeps_shape graph states state colours s q job f function instr x e refl refl gives ordinary
      (λ k sets. sets_r ∙ sets)) r own refl makes.together makes.live unheld shows s.sound

  closes_not : closes_at graph function g.point ≡ false
  closes_not = ap (closes_at graph function) (goes_next e f (f.point + 1) refl)
      ∙ open_after graph function f.point (Middle instr) x.here ordinary

  abbrev all : List Element
  all = Register r ∷ xs

  live_all : (y : Element) → Contains all y → LiveIn elements here.c y
  live_all y has = elim (first_or_later (Register r) xs y has) [
    | inl same ↦ subst (LiveIn elements here.c) same makes.made_live
    | inr there ↦ makes.still y there
  ]

  with_new : (y : Element) → Contains all y → TogetherIn elements here.c y (Register r)
  with_new y has = elim (first_or_later (Register r) xs y has) [
    | inl same ↦ ap (region_in elements here.c) (sym same)
    | inr there ↦ makes.joined y tracked there is
  ]

  above_none : frame_at next (above q) ≡ None
  above_none = change.others (above q) (λ same. below_differs (below_above q) (sym same))
      ∙ change.alone

  height_now : height_in next q.job ≡ suc q.depth
  height_now = change.heights q.job ∙ change.top

  held : (y : Element) (c : Colour) → Contains all y → HoldsIn next after g (here_at after q) y c
      → HoldsLive (view_of graph (annotated states next) next after) q y c
  held y c has holds = holds_live graph next after q g function change.now
      (ap (slice_get graph.functions) change.call.function ∙ x.is) above_none
      height_now closes_not (annotated states next) here.c
      (stands_behind graph states state colours s q job f function instr x e refl refl gives) y c
      (live_all y has) holds

  heres_now : HaveHeres graph states next after
  heres_now p there =
      let has = heres p (subst (λ n. p.depth < n) (change.heights p.job) there) in
      record { row = has.row; rows = has.rows; colour = has.colour; at = has.at }

  -- and then its colour may become one with those of what it is made of
  pub new_sound : (kept : Colour) (numbers : List ℕ)
      → MayBecomeOne next after q g all kept numbers
      → HasSoundView graph states next (united q.job numbers kept after)
  new_sound kept numbers one =
      unites_all graph (annotated states next) next q one.holder kept numbers after heres_now
      height_now (held one.holder kept one.among one.holds)
      (λ n has. elim (one.others n has) [
        | inl same ↦ inl same
        | inr (y, among, holds) ↦ inr (inr (
          y,
          held y (OfJob q.job n) among holds,
          one_region graph next after q g function change.now
              (ap (slice_get graph.functions) change.call.function ∙ x.is) above_none height_now
              closes_not (annotated states next) here.c
              (stands_behind graph states state colours s q job f function instr x e refl refl
              gives) y one.holder (with_new y among ∙ sym (with_new one.holder one.among)),
        ))
      ]) freshened
