-- An effect that writes a slot of a cell, or a global.
use Rattle.std.proofs.Common.{◌≡◌, ◌+◌, ℕ, Option, Some, List, ◌∷◌, length, refl, sym, subst}
use Rattle.std.proofs.Common.{ap, Contains}
use Rattle.std.specs.List.{slice_get}
use Rattle.sw_list.proofs.Members.{first_in}
use Rattle.sw_graph.specs.declared.function.Function.{Function}
use Rattle.sw_graph.specs.declared.function.GlobalKind.{GlobalKind}
use Rattle.sw_graph.specs.declared.graph.Graph.{Graph}
use Rattle.sw_graph.specs.declared.instr.Instr.{Instr}
use Rattle.sw_graph.specs.Points.{Middle}
use Rattle.sw_value.specs.declared.cell.HeapCell.{HeapCell}
use Rattle.sw_value.specs.declared.cell.Slot.{Slot}
use Rattle.sw_value.specs.declared.effect.Effect.TheVariants as effect
use Rattle.sw_value.specs.declared.frame.Frame.{Frame}
use Rattle.sw_value.specs.declared.job.Job.{Job}
use Rattle.sw_value.specs.declared.state.State.{State}
use Rattle.sw_value.specs.declared.value.Value.{Value}
use Rattle.sw_value.specs.Cell.{with_slot}
use Rattle.sw_value.specs.Effect.{point_effect}
use Rattle.sw_value.specs.Reach.{step_of}
use Rattle.sw_value.specs.State.{in_cell, in_job, set_global}
use Rattle.sw_partition.specs.Regions.{Regions}
use Rattle.sw_region_ops.specs.Elements.{elements_of}
use Rattle.sw_owner_facts.specs.Colours.{Actor as Owner, Colour, GlobalActor, OfActor}
use Rattle.sw_owner_facts.specs.View.{Element, Frame as Spot}
use Rattle.sw_region_facts.specs.Moves.{Gathers}
use Rattle.sw_reach_facts.specs.Coloured.{HaveColours}
use Rattle.sw_reach_facts.specs.Reached.{colours_of}
use Rattle.sw_view_facts.specs.Renaming.{united}
use Rattle.sw_view_facts.specs.Standing.{StandsAt}
use Rattle.sw_view_facts.specs.Views.{Colours, here_at}
use Rattle.sw_store_facts.specs.Sound.{HasSoundView, MayBecomeOne}
use Rattle.sw_store_facts.proofs.Stepping.{row}
use Rattle.sw_secure_facts.specs.Memory.{keeper}
use Rattle.sw_secure_facts.specs.Painting.{Unites, stored_colour}
use Rattle.sw_secure_facts.specs.Secure.{HeresFit, IsSecure}
use Rattle.sw_secure_facts.proofs.Recoloured.{have_united, heres_united}
use Rattle.sw_secure_facts.proofs.Staying.{memory_stays}
use Rattle.sw_secure_value_facts.proofs.Becoming.{have_stored, memory_stored, memory_stored_global}
use Rattle.sw_secure_value_facts.proofs.Gathering.{become_one, gathered_join}
use Rattle.sw_store_facts.proofs.Operands.{HeldBy}
use Rattle.sw_secure_value_facts.proofs.Keeping.{Keeps}
use Rattle.sw_secure_value_facts.proofs.Securing.{effect_secured, steps}

module _ (graph : Graph) (states : ℕ → List (Option Regions)) (state : State) (colours : Colours)
    (s : IsSecure graph states state colours) (q : Spot) (job : Job) (f : Frame)
    (function : Function) (number : ℕ) (instr : Instr)
    (x : StandsAt graph state q job f function (Middle instr)) (xs : List Element)
    (gathers : Gathers (elements_of graph.shapes function.regs) xs
    (row graph states state colours s.coloured q job f function instr x).a
    (row graph states state colours s.coloured q job f function instr x).c)
    (sound : (kept : Colour) (numbers : List ℕ) → MayBecomeOne state colours q f xs kept numbers
    → HasSoundView graph states (step_of graph state q.job) (united q.job numbers kept colours))
    (v : Value) where
  abbrev next : State
  next = step_of graph state q.job

  -- the colour of the place, and those of what is stored
  abbrev pub with_place : Colour → List Colour
  with_place place = place ∷ colours_of state.cells colours.cells v

  heres_after : (joined : List Colour) (after : Colours) → Unites q.job joined colours after
      → HeresFit state after
  heres_after joined after u = subst (HeresFit state) (sym u.is)
      (heres_united graph state q.job u.numbers u.kept colours s.heres)

  sound_after : (place : Colour) → HeldBy state colours q f xs (with_place place)
      → (after : Colours) → Unites q.job (with_place place) colours after
      → HasSoundView graph states next after
  sound_after place held after u = subst (HasSoundView graph states next) (sym u.is)
      (sound u.kept u.numbers (become_one state colours after q f xs (with_place place) u place
      (first_in place (colours_of state.cells colours.cells v)) held))

  -- a slot
  pub slot_kept : (c : ℕ) (slot : Slot)
      → point_effect graph state (length job.frames) f (Middle instr)
      ≡ effect.Write c slot v (f.point + 1)
      → HeldBy state colours q f xs (with_place (stored_colour colours q c))
      → ((h : HeapCell) (owner : Owner) → slice_get state.cells c ≡ Some h
      → keeper graph c h ≡ Some owner → stored_colour colours q c ≡ OfActor owner)
      → Keeps graph states state colours q number f (Middle instr)
      (effect.Write c slot v (f.point + 1))
  unfolding in_job
  slot_kept c slot gives held keeps =
      let stepped = steps graph states state colours s q job f function (Middle instr) x
      (effect.Write c slot v (f.point + 1)) refl gives in
      let cells : next.cells ≡ (in_cell (with_slot slot v) c state).cells =
      ap (λ (t : State). t.cells) stepped in
      record {
        stays = λ after u. effect_secured graph states state colours s q job f function (Middle
            instr)
            x (effect.Write c slot v (f.point + 1)) refl gives refl after
            (heres_after (with_place (stored_colour colours q c)) after u)
            (subst (λ (l : List HeapCell). HaveColours graph l after.cells) (sym cells)
            (have_stored graph state colours after q v c u s.memory slot keeps s.coloured.have))
            (sound_after (stored_colour colours q c) held after u)
            (memory_stays graph after (in_cell (with_slot slot v) c state) next cells
            (ap (λ (t : State). t.globals) stepped)
            (memory_stored graph state colours after q v c u s.memory slot keeps));
        joins = gathered_join graph states state colours s.coloured q job f function instr x xs
            gathers
            (with_place (stored_colour colours q c)) held;
      }

  -- a global
  pub global_kept : (g : ℕ)
      → point_effect graph state (length job.frames) f (Middle instr)
      ≡ effect.WriteGlobal g v (f.point + 1)
      → HeldBy state colours q f xs (with_place (here_at colours q))
      → ((kind : GlobalKind) (other : Colour) → slice_get graph.globals g ≡ Some kind
      → Contains (colours_of state.cells colours.cells v) other
      → (actor : ℕ) × (kind.actor ≡ Some actor)
      × (here_at colours q ≡ OfActor (GlobalActor actor)))
      → Keeps graph states state colours q number f (Middle instr)
      (effect.WriteGlobal g v (f.point + 1))
  unfolding in_job set_global
  global_kept g gives held own =
      let stepped = steps graph states state colours s q job f function (Middle instr) x
      (effect.WriteGlobal g v (f.point + 1)) refl gives in
      let cells : next.cells ≡ state.cells = ap (λ (t : State). t.cells) stepped in
      record {
        stays = λ after u. effect_secured graph states state colours s q job f function (Middle
            instr)
            x (effect.WriteGlobal g v (f.point + 1)) refl gives refl after
            (heres_after (with_place (here_at colours q)) after u)
            (subst (λ (l : List HeapCell). HaveColours graph l after.cells) (sym cells)
            (subst (λ (cs : Colours). HaveColours graph state.cells cs.cells) (sym u.is)
            (have_united graph state q.job u.numbers u.kept colours s.coloured.have)))
            (sound_after (here_at colours q) held after u)
            (memory_stays graph after (set_global g v state) next cells
            (ap (λ (t : State). t.globals) stepped)
            (memory_stored_global graph state colours after q v (here_at colours q) u s.memory g
            own));
        joins = gathered_join graph states state colours s.coloured q job f function instr x xs
            gathers
            (with_place (here_at colours q)) held;
      }
