-- An await: its job stops, and goes on with a result that may cross.
use Rattle.std.proofs.Common.{◌≡◌, ◌≢◌, ◌+◌, ℕ, true, false, IsTrue, Option, Some, List, length}
use Rattle.std.proofs.Common.{refl, sym, subst, ap, ◌∙◌, inl}
use Rattle.std.specs.Option.{option_and_then}
use Rattle.std.specs.List.{slice_get}
use Rattle.sw_list.proofs.ListLemmas.{some_injective}
use Rattle.sw_types.specs.declared.ty.Ty.{Ty}
use Rattle.sw_graph.specs.declared.function.Function.{Function}
use Rattle.sw_graph.specs.declared.function.RegKind.{RegKind}
use Rattle.sw_graph.specs.declared.graph.Graph.{Graph}
use Rattle.sw_graph.specs.declared.instr.Instr.{Instr}
use Rattle.sw_graph.specs.declared.instr.Instr.TheVariants.{Await, NewTask}
use Rattle.sw_graph.specs.declared.instr.Operand.{Operand}
use Rattle.sw_graph.specs.Bodies.{has_self}
use Rattle.sw_graph.specs.Clean.{IsClean, may_cross}
use Rattle.sw_graph.specs.Points.{Middle}
use Rattle.sw_graph.specs.Ways.{is_number, point_sets}
use Rattle.sw_value.specs.declared.cell.HeapCell.{HeapCell}
use Rattle.sw_value.specs.declared.cell.HeapCell.TheVariants as cell
use Rattle.sw_value.specs.declared.effect.Effect.TheVariants.{Wait}
use Rattle.sw_value.specs.declared.frame.Frame.{Frame}
use Rattle.sw_value.specs.declared.job.Job.{Job}
use Rattle.sw_value.specs.declared.state.State.{State}
use Rattle.sw_value.specs.Cell.{task_of}
use Rattle.sw_value.specs.Effect.{cell_at, needs, point_effect}
use Rattle.sw_value.specs.Reach.{step_of}
use Rattle.sw_value.specs.State.{in_job}
use Rattle.sw_value.specs.Value.{reference_at}
use Rattle.sw_partition.specs.Regions.{Regions}
use Rattle.sw_machine_kind_facts.specs.Kinds.{CellFits, Referents, TaskFits, TaskMade}
use Rattle.sw_owner_facts.specs.View.{Frame as Spot}
use Rattle.sw_reach_facts.specs.Coloured.{HaveColours}
use Rattle.sw_view_facts.specs.Standing.{StandsAt}
use Rattle.sw_view_facts.specs.Views.{Colours}
use Rattle.sw_store_facts.proofs.Getting.{from_some, unstuck}
use Rattle.sw_store_facts.proofs.Stores.{found}
use Rattle.sw_secure_facts.specs.Secure.{IsSecure, WaitsFit}
use Rattle.sw_secure_facts.proofs.Secured.{later_kinds}
use Rattle.sw_secure_facts.proofs.Staying.{memory_stays}
use Rattle.sw_secure_value_facts.proofs.Awaits.{waits_anew}
use Rattle.sw_store_facts.proofs.Referring.{of_cell}
use Rattle.sw_secure_facts.proofs.Uniting.{nothing_unites}
use Rattle.sw_secure_value_facts.proofs.Keeping.{Keeps}
use Rattle.sw_secure_value_facts.proofs.Securing.{result_was, steps, waiting_secured}
use Rattle.sw_secure_value_facts.proofs.Waiting.{wait_sound}

-- a task's cell
task_fits : (graph : Graph) (world : Referents) (h : HeapCell) (from : RegKind) (on : ℕ)
    → CellFits graph world h from → task_of h ≡ Some on → TaskFits graph world.results on from
task_fits graph world (cell.TaskOf j) from on fits is =
    subst (λ k. TaskFits graph world.results k from) (some_injective is) fits
task_fits graph world (cell.Object k vs) from on fits is = absurd (let clash : ⊥ = cc in clash)
task_fits graph world (cell.Actor k vs) from on fits is = absurd (let clash : ⊥ = cc in clash)
task_fits graph world (cell.BoxOf v) from on fits is = absurd (let clash : ⊥ = cc in clash)
task_fits graph world (cell.Closure f vs) from on fits is = absurd (let clash : ⊥ = cc in clash)

-- the result of a task may cross
task_crosses : (graph : Graph) → IsClean graph → (result : Ty) → TaskMade graph result
    → may_cross graph result ≡ true
task_crosses graph clean result made = sym (ap (may_cross graph) made.gives)
    ∙ clean.tasks made.maker.number made.body made.maker.is made.maker.point
    (NewTask made.at made.register made.number made.operands) made.maker.here made.function made.is

module _ (graph : Graph) (states : ℕ → List (Option Regions)) (state : State) (colours : Colours)
    (s : IsSecure graph states state colours) (q : Spot) (job : Job) (f : Frame)
    (function : Function) (number at dst : ℕ) (task : Operand)
    (x : StandsAt graph state q job f function (Middle (Await at dst task))) where
  abbrev instr : Instr
  instr = Await at dst task

  abbrev next : State
  next = step_of graph state q.job

  abbrev more : List Ty
  more = (later_kinds graph states state colours s q.job).kinded.world.results

  -- no instruction sets the register of the body's own `self`
  not_self : IsTrue (has_self function) → dst ≢ 0
  not_self self is =
      let never = (s.coloured.clean.placed.selves f.function function x.is self).stays f.point in
      let sets : point_sets 0 (Some (Middle instr)) ≡ true = ap (is_number 0) (ap Some is) in
      let not = sym (ap (point_sets 0) x.here) ∙ never in
      let clash : true ≡ false = sym sets ∙ not in
      let z : ⊥ = cc in z

  crosses : (h : HeapCell) (on : ℕ) → cell_at state f task ≡ Some h → task_of h ≡ Some on
      → (result : Ty) → slice_get more on ≡ Some result → may_cross graph result ≡ true
  crosses h on at_cell is result there =
      let from = from_some (λ c. slice_get state.cells c) (reference_at f.regs task) h at_cell in
      let of = of_cell graph states state colours s.coloured q job f function (Middle instr) x task
      from.0 h from.1 from.2 in
      let fits = task_fits graph s.coloured.kinded.world h of.from on of.fits is in
      let grown = (later_kinds graph states state colours s q.job).grows.results on fits.result
      fits.is in
      ap (may_cross graph) (some_injective (sym there ∙ grown))
      ∙ task_crosses graph s.coloured.clean fits.result fits.made

  await_at : (h : HeapCell) (on : ℕ) → cell_at state f task ≡ Some h → task_of h ≡ Some on
      → point_effect graph state (length job.frames) f (Middle instr) ≡ Wait on dst (f.point + 1)
      → Keeps graph states state colours q number f (Middle instr) (Wait on dst (f.point + 1))
  unfolding in_job
  await_at h on at_cell is gives =
      let stepped = steps graph states state colours s q job f function (Middle instr) x
      (Wait on dst (f.point + 1)) refl gives in
      let cells : next.cells ≡ state.cells = ap (λ (t : State). t.cells) stepped in
      record {
        stays = λ after u. subst (IsSecure graph states next)
            (sym (nothing_unites q.job colours after u))
            (waiting_secured graph states state colours s q job f function (Middle instr) x
            (Wait on dst (f.point + 1)) refl gives colours s.heres
            (subst (λ (l : List HeapCell). HaveColours graph l colours.cells) (sym cells)
            s.coloured.have)
            (wait_sound graph states state colours s.coloured q job f function at dst task x on
            gives)
            (memory_stays graph colours state next cells (ap (λ (t : State). t.globals) stepped)
            s.memory)
            (subst (WaitsFit graph more) (sym stepped)
            (waits_anew graph state q job f x.top function x.is on dst (f.point + 1)
            s.coloured.kinded.world.results more
            (λ on result j r o there waits is. result_was graph states state colours s q.job on r j
            result o there waits is) not_self (crosses h on at_cell is) s.waits)));
        joins = inl refl;
      }

  pub await_kept : Keeps graph states state colours q number f (Middle instr)
      (point_effect graph state (length job.frames) f (Middle instr))
  await_kept =
      let on = found (option_and_then task_of (cell_at state f task))
      (λ on. Wait on dst (f.point + 1))
      (unstuck graph states state colours s.coloured q job f function instr x) in
      let content = from_some task_of (cell_at state f task) on.0 on.1 in
      let gives : point_effect graph state (length job.frames) f (Middle instr)
      ≡ Wait on.0 dst (f.point + 1) = ap (λ o. needs o (λ on. Wait on dst (f.point + 1))) on.1 in
      subst (Keeps graph states state colours q number f (Middle instr)) (sym gives)
      (await_at content.0 on.0 content.1 content.2 gives)
