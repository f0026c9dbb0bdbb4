-- A cell that is made with a new colour, which becomes one with colours of what it is made of.
use Rattle.std.proofs.Common.{◌≡◌, ◌≢◌, ◌+◌, ℕ, true, false, Option, Some, List, ◌∷◌}
use Rattle.std.proofs.Common.{length, Contains, refl, sym, subst, ap, inl, inr}
use Rattle.sw_list.proofs.Members.{first_in, later_in, first_or_later}
use Rattle.sw_graph.specs.declared.function.Function.{Function}
use Rattle.sw_graph.specs.declared.graph.Graph.{Graph}
use Rattle.sw_graph.specs.declared.instr.Instr.{Instr}
use Rattle.sw_graph.specs.Mentions.{set_by}
use Rattle.sw_graph.specs.Points.{Middle}
use Rattle.sw_value.specs.declared.cell.HeapCell.{HeapCell}
use Rattle.sw_value.specs.declared.effect.Effect.TheVariants.{New}
use Rattle.sw_value.specs.declared.frame.Frame.{Frame}
use Rattle.sw_value.specs.declared.job.Job.{Job}
use Rattle.sw_value.specs.declared.state.State.{State}
use Rattle.sw_value.specs.Effect.{point_effect}
use Rattle.sw_value.specs.Reach.{step_of}
use Rattle.sw_partition.specs.Regions.{Regions}
use Rattle.sw_region_ops.specs.Elements.{elements_of}
use Rattle.sw_owner_facts.specs.Colours.{Colour, OfJob}
use Rattle.sw_owner_facts.specs.View.{Element, Register, Frame as Spot}
use Rattle.sw_region_facts.specs.Moves.{Makes}
use Rattle.sw_reach_facts.specs.Coloured.{may_have_colour}
use Rattle.sw_view_facts.specs.Changes.{HoldsIn}
use Rattle.sw_view_facts.specs.Memory.{coloured_more}
use Rattle.sw_view_facts.specs.Renaming.{united}
use Rattle.sw_view_facts.specs.Standing.{StandsAt}
use Rattle.sw_view_facts.specs.Views.{Colours, annotated, here_at, makes_itself, view_at}
use Rattle.sw_store_facts.specs.Sound.{HasSoundView}
use Rattle.sw_store_facts.proofs.Fresh.{new_sound}
use Rattle.sw_store_facts.proofs.Stepping.{row}
use Rattle.sw_secure_facts.specs.Painting.{MayUnite, Unites}
use Rattle.sw_secure_facts.specs.Secure.{AreNumberedBelow, IsSecure}
use Rattle.sw_secure_facts.proofs.Heres.{have_heres}
use Rattle.sw_secure_facts.proofs.Uniting.{united_colour}
use Rattle.sw_secure_cell_facts.proofs.Adding.{HoldsItsOwn}
use Rattle.sw_secure_cell_facts.proofs.Made.{holds_still, is_tracked, shows_own, turned}
use Rattle.sw_store_facts.proofs.Gathering.{held_live}
use Rattle.sw_secure_facts.proofs.Kept.{held_unite}
use Rattle.sw_secure_facts.proofs.Numbers.{new_unheld}
use Rattle.sw_secure_cell_facts.proofs.Operands.{new_unites}
use Rattle.sw_secure_cell_facts.proofs.Whole.{made_secure}

module _ (graph : Graph) (states : ℕ → List (Option Regions)) (state : State) (colours : Colours)
    (s : IsSecure graph states state colours) (q : Spot) (job : Job) (f : Frame)
    (function : Function) (instr : Instr)
    (x : StandsAt graph state q job f function (Middle instr)) (r : ℕ) (cell : HeapCell)
    (sets_r : set_by instr ≡ Some r)
    (gives : point_effect graph state (length job.frames) f (Middle instr)
    ≡ New r cell (length state.cells) (f.point + 1)) (may : may_have_colour graph cell ≡ true)
    (ordinary : makes_itself graph function (Middle instr) ≡ false) (number : ℕ)
    (below : AreNumberedBelow number colours) (xs : List Element)
    (makes : Makes (elements_of graph.shapes function.regs) r xs
    (row graph states state colours s.coloured q job f function instr x).a
    (row graph states state colours s.coloured q job f function instr x).c)
    (apart : (y : Element) → Contains xs y → y ≢ Register r) (rest : List Colour)
    (held : (c : Colour) → Contains rest c
    → (y : Element) × Contains xs y × HoldsIn state colours f (here_at colours q) y c) where
  abbrev next : State
  next = step_of graph state q.job

  abbrev own : Colour
  own = OfJob q.job number

  abbrev more : Colours
  more = coloured_more (Some own) colours

  abbrev joined : List Colour
  joined = own ∷ rest

  may_own : (c : Colour) → Some own ≡ Some c → may_have_colour graph cell ≡ true
  may_own c is = may

  abbrev after_turn : Frame
  after_turn = turned graph states state colours s.coloured s.memory.count q job f function instr x
      r cell sets_r gives (Some own) may_own

  hold : (c : Colour) → Contains joined c → (y : Element) × Contains (Register r ∷ xs) y
      × HoldsIn next more after_turn (here_at more q) y c
  hold c has = elim (first_or_later own rest c has) [
    | inl same ↦ (
      Register r,
      first_in (Register r) xs,
      shows_own graph states state colours s.coloured s.memory.count q job f function instr x r
          cell sets_r gives (Some own) may_own c (ap Some same),
    )
    | inr there ↦ let y = held c there in (
      y.0,
      later_in (Register r) xs y.0 y.1,
      holds_still graph states state colours s.coloured s.memory.count q job f function instr x r
          cell sets_r gives (Some own) may_own y.0 c (apart y.0 y.1) y.2,
    )
  ]

  sound : (after : Colours) (unites : Unites q.job joined more after)
      → HasSoundView graph states next (united q.job unites.numbers unites.kept more)
  sound after unites =
      let number_of = is_tracked graph states state colours s.coloured s.memory.count q job f
      function instr x r cell sets_r gives (Some own) may_own own refl in
      let heres = have_heres graph states state colours s.heres in
      let kept = hold unites.kept (unites.among own (first_in own rest)) in
      new_sound graph states state colours s.coloured heres s.memory.count q job f function instr x
      ordinary r number_of.0 cell sets_r number_of.1 gives xs makes number
      (new_unheld number colours below graph (annotated states state) state heres q.job) unites.kept unites.numbers
      (record {
        holder = kept.0;
        among = kept.1;
        holds = kept.2;
        others = λ n has. inr (hold (OfJob q.job n) (unites.only n has));
      })

  pub coloured_secure : (after : Colours) (unites : Unites q.job joined more after)
      → HoldsItsOwn graph state (united q.job unites.numbers unites.kept colours) cell
      (Some (united_colour q.job unites.numbers unites.kept own))
      → IsSecure graph states next after
  coloured_secure after unites holds =
      subst (IsSecure graph states next) (sym unites.is)
      (made_secure graph states state colours s q job f function instr x r cell sets_r gives
      (Some own) may_own unites.numbers unites.kept holds (sound after unites))

  pub coloured_joins : MayUnite q joined
  coloured_joins =
      new_unites q number rest
      (held_unite (view_at graph states state colours) q s.coloured.sound.owned rest (λ c has.
      let y = held c has in (
        y.0,
        held_live graph states state colours s.coloured q job f function
            instr x y.0 c (makes.used y.0 y.1) y.2,
      )))
