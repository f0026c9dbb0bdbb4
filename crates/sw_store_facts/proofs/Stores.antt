-- Stores into boxes, parts and globals.
use Rattle.std.proofs.Common.{◌≡◌, ◌+◌, ℕ, false, Option, Some, None, List, [], ◌∷◌, length, refl}
use Rattle.std.proofs.Common.{sym, subst, ap, ◌∙◌}
use Rattle.std.specs.List.{slice_get}
use Rattle.sw_graph.specs.declared.function.Function.{Function}
use Rattle.sw_graph.specs.declared.graph.Graph.{Graph}
use Rattle.sw_graph.specs.declared.instr.Instr.{Instr}
use Rattle.sw_graph.specs.declared.instr.Instr.TheVariants.{StoreBox, StoreProp, StoreGlobal}
use Rattle.sw_graph.specs.declared.instr.Operand.{Operand}
use Rattle.sw_graph.specs.Bodies.{is_own}
use Rattle.sw_graph.specs.Points.{Middle}
use Rattle.sw_value.specs.declared.cell.Slot.{Slot}
use Rattle.sw_value.specs.declared.cell.Slot.TheVariants.{Part, Content}
use Rattle.sw_value.specs.declared.effect.Effect.{Effect}
use Rattle.sw_value.specs.declared.effect.Effect.TheVariants.{Write, WriteGlobal}
use Rattle.sw_value.specs.declared.frame.Frame.{Frame}
use Rattle.sw_value.specs.declared.job.Job.{Job}
use Rattle.sw_value.specs.declared.state.State.{State}
use Rattle.sw_value.specs.Effect.{is_stuck, needs, point_effect, slot_at, slot_write}
use Rattle.sw_value.specs.Reach.{step_of}
use Rattle.sw_value.specs.State.{in_job, set_global}
use Rattle.sw_value.specs.Value.{operand_value}
use Rattle.sw_partition.specs.Regions.{Regions}
use Rattle.sw_region_ops.specs.Elements.{element_at, elements_of}
use Rattle.sw_owner_facts.specs.Colours.{Colour}
use Rattle.sw_owner_facts.specs.View.{Element, Here, Frame as Spot}
use Rattle.sw_region_facts.specs.Moves.{Gathers, tracked}
use Rattle.sw_region_facts.specs.Rows.{StoresPart}
use Rattle.sw_view_facts.specs.Changes.{KeepsReach}
use Rattle.sw_view_facts.specs.Renaming.{united}
use Rattle.sw_view_facts.specs.Standing.{StandsAt}
use Rattle.sw_view_facts.specs.Views.{Colours, makes_itself}
use Rattle.sw_view_facts.proofs.EffectLemmas.{reach_same, reach_written}
use Rattle.sw_store_facts.specs.Sound.{HasSoundView, HaveHeres, IsColoured, MayBecomeOne}
use Rattle.sw_store_facts.specs.Sound.{stored_with}
use Rattle.sw_store_facts.proofs.Getting.{no_maker, unstuck}
use Rattle.sw_store_facts.proofs.Stepping.{next_state, row, steps}
use Rattle.sw_store_facts.proofs.Storing.{stored}

-- what isn't stuck has what it needs
pub found : {X : Type 0} (o : Option X) (e : X → Effect) → is_stuck (needs o e) ≡ false
    → (z : X) × (o ≡ Some z)
found None e free = absurd (let clash : ⊥ = cc in clash)
found (Some z) e free = (z, refl)

module _ (graph : Graph) (states : ℕ → List (Option Regions)) (state : State) (colours : Colours)
    (s : IsColoured graph states state colours) (heres : HaveHeres graph states state colours)
    (q : Spot) (job : Job) (f : Frame) (function : Function) where
  abbrev elements : List (Option ℕ)
  elements = elements_of graph.shapes function.regs

  -- a slot of a cell is written
  slot_stored : (instr : Instr) (x : StandsAt graph state q job f function (Middle instr))
      (cell src : Operand) (slot : Slot)
      → point_effect graph state (length job.frames) f (Middle instr)
      ≡ slot_write state f (f.point + 1) cell slot src
      → makes_itself graph function (Middle instr) ≡ false → (xs : List Element)
      → Gathers elements xs (row graph states state colours s q job f function instr x).a
      (row graph states state colours s q job f function instr x).c → (kept : Colour)
      (numbers : List ℕ) → MayBecomeOne state colours q f xs kept numbers
      → HasSoundView graph states (step_of graph state q.job) (united q.job numbers kept colours)
  slot_stored instr x cell src slot is ordinary xs gathers kept numbers one =
      let free = sym (ap is_stuck is)
      ∙ unstuck graph states state colours s q job f function instr x in
      let v = found (operand_value f.regs src)
      (λ v. needs (slot_at state f cell slot) (λ c. Write c slot v (f.point + 1))) free in
      let c = found (slot_at state f cell slot) (λ c. Write c slot v.0 (f.point + 1))
      (sym (ap (λ o. is_stuck (needs o
      (λ v. needs (slot_at state f cell slot) (λ c. Write c slot v (f.point + 1))))) v.1) ∙ free)
      in
      let gives : point_effect graph state (length job.frames) f (Middle instr)
      ≡ Write c.0 slot v.0 (f.point + 1) =
      is ∙ ap (λ o. needs o
      (λ v. needs (slot_at state f cell slot) (λ c. Write c slot v (f.point + 1)))) v.1
      ∙ ap (λ o. needs o (λ c. Write c slot v.0 (f.point + 1))) c.1 in
      stored graph states state colours s heres q job f function instr x xs gathers kept numbers one
      (Write c.0 slot v.0 (f.point + 1)) refl refl gives refl ordinary
      (subst (λ t. KeepsReach state t (united q.job numbers kept colours)
      (united q.job numbers kept colours))
      (sym (steps graph states state colours s q job f function instr x
      (Write c.0 slot v.0 (f.point + 1)) refl refl gives))
      (reach_written state (united q.job numbers kept colours) (united q.job numbers kept colours)
      q.job c.0 slot v.0 (f.point + 1) refl))

  pub box_stores : (at : ℕ) (cell src : Operand)
      → StandsAt graph state q job f function (Middle (StoreBox at cell src)) → (kept : Colour)
      (numbers : List ℕ)
      → MayBecomeOne state colours q f (tracked elements (cell ∷ src ∷ [])) kept numbers
      → HasSoundView graph states (step_of graph state q.job) (united q.job numbers kept colours)
  box_stores at cell src x = slot_stored (StoreBox at cell src) x cell src Content refl
      (no_maker (is_own function.iso)) (tracked elements (cell ∷ src ∷ []))
      (row graph states state colours s q job f function (StoreBox at cell src) x).moves

  pub part_stores : (at : ℕ) (cell : Operand) (part : ℕ) (src : Operand)
      → StandsAt graph state q job f function (Middle (StoreProp at cell part src))
      → (kept : Colour) (numbers : List ℕ)
      → MayBecomeOne state colours q f
      (stored_with elements (element_at elements cell.reg) cell src) kept numbers
      → HasSoundView graph states (step_of graph state q.job) (united q.job numbers kept colours)
  part_stores at cell part src x = slot_stored (StoreProp at cell part src) x cell src (Part part) refl
      (no_maker (is_own function.iso)) (stored_with elements (element_at elements cell.reg) cell src)
      (by (element_at elements cell.reg)
      (row graph states state colours s q job f function (StoreProp at cell part src) x).moves)
    where
      by : {a c : Regions} (o : Option ℕ) → StoresPart elements o cell src a c
          → Gathers elements (stored_with elements o cell src) a c
      by {a} {c} (Some number) moves = moves
      by {a} {c} None moves = moves

  pub global_stores : (at global : ℕ) (src : Operand)
      → StandsAt graph state q job f function (Middle (StoreGlobal at global src))
      → (kept : Colour) (numbers : List ℕ)
      → MayBecomeOne state colours q f (Here ∷ tracked elements (src ∷ [])) kept numbers
      → HasSoundView graph states (step_of graph state q.job) (united q.job numbers kept colours)
  unfolding in_job set_global
  global_stores at global src x kept numbers one =
      let instr = StoreGlobal at global src in
      let free = unstuck graph states state colours s q job f function instr x in
      let v = found (operand_value f.regs src)
      (λ v. needs (slice_get state.globals global) (λ old. WriteGlobal global v (f.point + 1)))
      free in
      let old = found (slice_get state.globals global)
      (λ old. WriteGlobal global v.0 (f.point + 1))
      (sym (ap (λ o. is_stuck (needs o (λ v. needs (slice_get state.globals global)
      (λ old. WriteGlobal global v (f.point + 1))))) v.1) ∙ free) in
      let gives : point_effect graph state (length job.frames) f (Middle instr)
      ≡ WriteGlobal global v.0 (f.point + 1) =
      ap (λ o. needs o (λ v. needs (slice_get state.globals global)
      (λ old. WriteGlobal global v (f.point + 1)))) v.1
      ∙ ap (λ o. needs o (λ old. WriteGlobal global v.0 (f.point + 1))) old.1 in
      stored graph states state colours s heres q job f function instr x
      (Here ∷ tracked elements (src ∷ []))
      (row graph states state colours s q job f function instr x).moves kept numbers one
      (WriteGlobal global v.0 (f.point + 1)) refl refl gives refl (no_maker (is_own function.iso))
      (reach_same state (next_state graph states state colours s q job f function instr x)
      (united q.job numbers kept colours) (united q.job numbers kept colours)
      (ap (λ (t : State). t.cells) (steps graph states state colours s q job f function instr x
      (WriteGlobal global v.0 (f.point + 1)) refl refl gives)) refl)
