-- Boxes, and objects that are tracked.
use Rattle.std.proofs.Common.{◌≡◌, ◌+◌, ℕ, false, Option, Some, List, [], ◌∷◌, length, refl, sym}
use Rattle.std.proofs.Common.{ap, ◌∙◌}
use Rattle.sw_graph.specs.declared.function.Function.{Function}
use Rattle.sw_graph.specs.declared.graph.Graph.{Graph}
use Rattle.sw_graph.specs.declared.instr.Instr.{Instr}
use Rattle.sw_graph.specs.declared.instr.Instr.TheVariants.{NewBox, NewObject}
use Rattle.sw_graph.specs.declared.instr.Operand.{Operand}
use Rattle.sw_graph.specs.Bodies.{is_own}
use Rattle.sw_graph.specs.Mentions.{set_by}
use Rattle.sw_graph.specs.Points.{Middle}
use Rattle.sw_value.specs.declared.cell.HeapCell.{HeapCell}
use Rattle.sw_value.specs.declared.cell.HeapCell.TheVariants.{BoxOf, Object}
use Rattle.sw_value.specs.declared.frame.Frame.{Frame}
use Rattle.sw_value.specs.declared.job.Job.{Job}
use Rattle.sw_value.specs.declared.state.State.{State}
use Rattle.sw_value.specs.Effect.{is_stuck, needs, new_of, point_effect}
use Rattle.sw_value.specs.Reach.{step_of}
use Rattle.sw_value.specs.Value.{operand_value, values_at}
use Rattle.sw_partition.specs.Regions.{Regions}
use Rattle.sw_region_ops.specs.Elements.{element_at, elements_of}
use Rattle.sw_owner_facts.specs.Colours.{Colour, OfJob}
use Rattle.sw_owner_facts.specs.View.{Element, IsUnheld, Register, Frame as Spot}
use Rattle.sw_region_facts.specs.Moves.{Makes, tracked}
use Rattle.sw_view_facts.specs.Memory.{coloured_more}
use Rattle.sw_view_facts.specs.Renaming.{united}
use Rattle.sw_view_facts.specs.Standing.{StandsAt}
use Rattle.sw_view_facts.specs.Views.{Colours, annotated, frame_at, makes_itself, view_of}
use Rattle.sw_store_facts.specs.Sound.{HasSoundView, HaveHeres, IsColoured, MayBecomeOne}
use Rattle.sw_store_facts.proofs.Fresh.{change, new_sound}
use Rattle.sw_store_facts.proofs.Getting.{no_maker, unstuck}
use Rattle.sw_store_facts.proofs.Stepping.{row}
use Rattle.sw_store_facts.proofs.Stores.{found}

module _ (graph : Graph) (states : ℕ → List (Option Regions)) (state : State) (colours : Colours)
    (s : IsColoured graph states state colours) (heres : HaveHeres graph states state colours)
    (count : length colours.cells ≡ length state.cells) (q : Spot) (job : Job) (f : Frame)
    (function : Function) where
  abbrev elements : List (Option ℕ)
  elements = elements_of graph.shapes function.regs

  -- what becomes one after the cell is made
  abbrev Unites : List Element → ℕ → Colour → List ℕ → Type 0
  Unites xs own kept numbers = (g : Frame) → frame_at (step_of graph state q.job) q ≡ Some g
      → MayBecomeOne (step_of graph state q.job) (coloured_more (Some (OfJob q.job own)) colours) q g
      xs kept numbers

  made_with : {X : Type 0} (instr : Instr)
      (x : StandsAt graph state q job f function (Middle instr)) (dst number : ℕ) (o : Option X)
      (cell : X → HeapCell) → point_effect graph state (length job.frames) f (Middle instr)
      ≡ needs o (λ z. new_of state (f.point + 1) dst (cell z)) → set_by instr ≡ Some dst
      → makes_itself graph function (Middle instr) ≡ false → element_at elements dst ≡ Some number
      → (xs : List Element)
      → Makes elements dst xs (row graph states state colours s q job f function instr x).a
      (row graph states state colours s q job f function instr x).c → (own : ℕ)
      → IsUnheld (view_of graph (annotated states state) state colours) (OfJob q.job own)
      → (kept : Colour) (numbers : List ℕ) → Unites (Register dst ∷ xs) own kept numbers
      → HasSoundView graph states (step_of graph state q.job)
      (united q.job numbers kept (coloured_more (Some (OfJob q.job own)) colours))
  made_with instr x dst number o cell is sets ordinary tracked_dst xs makes own unheld kept numbers
      unites =
      let z = found o (λ z. new_of state (f.point + 1) dst (cell z)) (sym (ap is_stuck is)
      ∙ unstuck graph states state colours s q job f function instr x) in
      let gives = is ∙ ap (λ p. needs p (λ z. new_of state (f.point + 1) dst (cell z))) z.1 in
      new_sound graph states state colours s heres count q job f function instr x ordinary dst number
      (cell z.0) sets tracked_dst gives xs makes own unheld kept numbers
      (unites _ (change graph states state colours s heres count q job f function instr x ordinary dst
      number (cell z.0) sets tracked_dst gives xs makes own unheld).now)

  pub boxes : (at dst number : ℕ) (src : Operand)
      → StandsAt graph state q job f function (Middle (NewBox at dst src))
      → element_at elements dst ≡ Some number → (own : ℕ)
      → IsUnheld (view_of graph (annotated states state) state colours) (OfJob q.job own)
      → (kept : Colour) (numbers : List ℕ)
      → Unites (Register dst ∷ tracked elements (src ∷ [])) own kept numbers
      → HasSoundView graph states (step_of graph state q.job)
      (united q.job numbers kept (coloured_more (Some (OfJob q.job own)) colours))
  boxes at dst number src x is = made_with (NewBox at dst src) x dst number
      (operand_value f.regs src) (λ v. BoxOf v) refl refl (no_maker (is_own function.iso)) is
      (tracked elements (src ∷ []))
      (row graph states state colours s q job f function (NewBox at dst src) x).moves

  pub objects : (at dst shape number : ℕ) (args : List Operand)
      → StandsAt graph state q job f function (Middle (NewObject at dst shape args))
      → makes_itself graph function (Middle (NewObject at dst shape args)) ≡ false
      → element_at elements dst ≡ Some number → (own : ℕ)
      → IsUnheld (view_of graph (annotated states state) state colours) (OfJob q.job own)
      → (kept : Colour) (numbers : List ℕ)
      → Unites (Register dst ∷ tracked elements args) own kept numbers
      → HasSoundView graph states (step_of graph state q.job)
      (united q.job numbers kept (coloured_more (Some (OfJob q.job own)) colours))
  objects at dst shape number args x ordinary is = made_with (NewObject at dst shape args) x dst number
      (values_at f.regs args) (λ parts. Object shape parts) refl refl ordinary is
      (tracked elements args)
      (row graph states state colours s q job f function (NewObject at dst shape args) x).moves
