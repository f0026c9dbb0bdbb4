-- Whatever an item makes its job do, there are colours with which the state after it is secure, and
-- each place has a taker's colour by them, or the one that it had.
use Rattle.std.proofs.Common.{◌≡◌, inl, ℕ, Option, Some, None, List, [], length, refl, sym, subst, ap, ◌∙◌}
use Rattle.std.specs.List.{slice_index_or}
use Rattle.sw_graph.specs.declared.function.Function.{Function}
use Rattle.sw_graph.specs.declared.graph.Graph.{Graph}
use Rattle.sw_graph.specs.Points.{Point}
use Rattle.sw_value.specs.declared.effect.Act.{Act}
use Rattle.sw_value.specs.declared.effect.Act.TheVariants.{Dispatch, Wake, Execute}
use Rattle.sw_value.specs.declared.effect.Effect.{Effect}
use Rattle.sw_value.specs.declared.effect.Effect.TheVariants as effect
use Rattle.sw_value.specs.declared.frame.Frame.{Frame}
use Rattle.sw_value.specs.declared.job.Job.{Job}
use Rattle.sw_value.specs.declared.state.State.{State}
use Rattle.sw_value.specs.Act.{act_of}
use Rattle.sw_value.specs.Reach.{step_of}
use Rattle.sw_value.specs.State.{in_job}
use Rattle.sw_partition.specs.Regions.{Regions}
use Rattle.sw_owner_facts.specs.Colours.{Colour, OfJob}
use Rattle.sw_owner_facts.specs.View.{Frame as Spot}
use Rattle.sw_view_facts.specs.Views.{Colours}
use Rattle.sw_secure_facts.specs.Executing.{Executing}
use Rattle.sw_secure_facts.specs.Painting.{MayUnite, PaintsTask, Unites, joined_by, made_by}
use Rattle.sw_secure_facts.specs.Painting.{without_here}
use Rattle.sw_secure_facts.specs.Secure.{IsSecure}
use Rattle.sw_secure_facts.proofs.Bounds.{some_bound}
use Rattle.sw_secure_facts.proofs.Uniting.{may_unite_some}
use Rattle.sw_secure_value_facts.proofs.Whole as values
use Rattle.sw_secure_cell_facts.proofs.Stays as cells
use Rattle.sw_secure_call_facts.proofs.Whole as calls
use Rattle.sw_secure_job_facts.proofs.Endings.{returns_stay}
use Rattle.sw_secure_job_facts.proofs.Jobs.{dispatches_stay, wakes_stay}
use Rattle.sw_secure_job_facts.proofs.Tasks as tasks
use Rattle.sw_secure_job_facts.proofs.Traps.{traps_stay}
use Rattle.sw_sound_facts.proofs.Acting.{executes_at, stuck_executes_not}
use Rattle.sw_machine_name_facts.specs.Given.{made_cell}
use Rattle.sw_order_facts.specs.Taking.{AllTake}
use Rattle.sw_order_facts.proofs.Running.{stepped}
use Rattle.sw_order_facts.proofs.Taking.{cells_stay}
use Rattle.sw_order_facts.proofs.TakingCalls.{calls_take}
use Rattle.sw_order_facts.proofs.TakingCells.{cells_take}
use Rattle.sw_order_facts.proofs.TakingEffects.{nothing_takes, values_take}
use Rattle.sw_order_facts.proofs.TakingTasks.{tasks_take}

-- the state after the step is secure with some colours, by which takers alone take
pub record Taken (graph : Graph) (states : ℕ → List (Option Regions)) (state : State)
    (colours : Colours) (j : ℕ) (act : Act) : Type 0 where
  pub after : Colours
  pub secure : IsSecure graph states (step_of graph state j) after
  pub takes : AllTake graph state colours j act after

module _ (graph : Graph) (states : ℕ → List (Option Regions)) (state : State) (colours : Colours)
    (secure : IsSecure graph states state colours)
    (none_owns : (c n : ℕ)
    → slice_index_or colours.cells c None ≡ Some (OfJob (length state.jobs) n) → ⊥) where
  module _ (q : Spot) (number : ℕ) (job : Job) (f : Frame) (function : Function) (point : Point)
    where
      abbrev Does : Effect → Type 0
      Does e = Executing graph states state colours q number job f function point e

      abbrev Acts : Effect → Type 0
      Acts e = act_of graph state q.job ≡ Some (Execute e)

      abbrev NextCell : Effect → Type 0
      NextCell e = (c : ℕ) → made_cell (Execute e) ≡ Some c → c ≡ length state.cells

      abbrev TakenBy : Effect → Type 0
      TakenBy e = Taken graph states state colours q.job (Execute e)

      -- what may become one does
      settled : (e : Effect) (joined : List Colour) (base : Colours) → MayUnite q joined
          → ((after : Colours) → Unites q.job joined base after
          → IsSecure graph states (step_of graph state q.job) after)
          → ((after : Colours) → Unites q.job joined base after
          → AllTake graph state colours q.job (Execute e) after) → TakenBy e
      settled e joined base may stays take =
          let after = may_unite_some q joined may base in
          record { after = after.0; secure = stays after.0 after.1; takes = take after.0 after.1 }

      by_effect : (e : Effect) → Does e → Acts e → NextCell e → TakenBy e
      by_effect (effect.Set r v next) x acts nc =
          settled (effect.Set r v next)
          (joined_by graph state colours q number f point (effect.Set r v next)) colours
          (values.joins graph states state colours q number job f function point
          (effect.Set r v next) x refl)
          (values.stays graph states state colours q number job f function point
          (effect.Set r v next) x refl)
          (λ after u. values_take graph states state colours q number job f function point
          (effect.Set r v next) x acts nc after u refl (λ c is. let no : ⊥ = cc in no))
      by_effect (effect.SetField r i v next) x acts nc =
          settled (effect.SetField r i v next)
          (joined_by graph state colours q number f point (effect.SetField r i v next)) colours
          (values.joins graph states state colours q number job f function point
          (effect.SetField r i v next) x refl)
          (values.stays graph states state colours q number job f function point
          (effect.SetField r i v next) x refl)
          (λ after u. values_take graph states state colours q number job f function point
          (effect.SetField r i v next) x acts nc after u refl (λ c is. let no : ⊥ = cc in no))
      by_effect (effect.Print r line next) x acts nc =
          settled (effect.Print r line next)
          (joined_by graph state colours q number f point (effect.Print r line next)) colours
          (values.joins graph states state colours q number job f function point
          (effect.Print r line next) x refl)
          (values.stays graph states state colours q number job f function point
          (effect.Print r line next) x refl)
          (λ after u. values_take graph states state colours q number job f function point
          (effect.Print r line next) x acts nc after u refl (λ c is. let no : ⊥ = cc in no))
      by_effect (effect.Write c slot v next) x acts nc =
          settled (effect.Write c slot v next)
          (joined_by graph state colours q number f point (effect.Write c slot v next)) colours
          (values.joins graph states state colours q number job f function point
          (effect.Write c slot v next) x refl)
          (values.stays graph states state colours q number job f function point
          (effect.Write c slot v next) x refl)
          (λ after u. values_take graph states state colours q number job f function point
          (effect.Write c slot v next) x acts nc after u refl (λ c is. let no : ⊥ = cc in no))
      by_effect (effect.WriteGlobal g v next) x acts nc =
          settled (effect.WriteGlobal g v next)
          (joined_by graph state colours q number f point (effect.WriteGlobal g v next)) colours
          (values.joins graph states state colours q number job f function point
          (effect.WriteGlobal g v next) x refl)
          (values.stays graph states state colours q number job f function point
          (effect.WriteGlobal g v next) x refl)
          (λ after u. values_take graph states state colours q number job f function point
          (effect.WriteGlobal g v next) x acts nc after u refl (λ c is. let no : ⊥ = cc in no))
      by_effect (effect.Goto next) x acts nc =
          settled (effect.Goto next)
          (joined_by graph state colours q number f point (effect.Goto next)) colours
          (values.joins graph states state colours q number job f function point
          (effect.Goto next) x refl)
          (values.stays graph states state colours q number job f function point
          (effect.Goto next) x refl)
          (λ after u. values_take graph states state colours q number job f function point
          (effect.Goto next) x acts nc after u refl (λ c is. let no : ⊥ = cc in no))
      by_effect (effect.Wait on r next) x acts nc =
          settled (effect.Wait on r next)
          (joined_by graph state colours q number f point (effect.Wait on r next)) colours
          (values.joins graph states state colours q number job f function point
          (effect.Wait on r next) x refl)
          (values.stays graph states state colours q number job f function point
          (effect.Wait on r next) x refl)
          (λ after u. values_take graph states state colours q number job f function point
          (effect.Wait on r next) x acts nc after u refl (λ c is. let no : ⊥ = cc in no))
      by_effect (effect.Rest r next) x acts nc =
          settled (effect.Rest r next)
          (joined_by graph state colours q number f point (effect.Rest r next)) colours
          (values.joins graph states state colours q number job f function point
          (effect.Rest r next) x refl)
          (values.stays graph states state colours q number job f function point
          (effect.Rest r next) x refl)
          (λ after u. values_take graph states state colours q number job f function point
          (effect.Rest r next) x acts nc after u refl (λ c is. let no : ⊥ = cc in no))
      by_effect (effect.New r cell c next) x acts nc =
          settled (effect.New r cell c next)
          (joined_by graph state colours q number f point (effect.New r cell c next))
          (made_by graph colours q.job number point (effect.New r cell c next))
          (cells.joins graph states state colours q number job f function point
          (effect.New r cell c next) x refl)
          (cells.stays graph states state colours q number job f function point
          (effect.New r cell c next) x refl)
          (λ after u. cells_take graph states state colours q number job f function point r cell c
          next x acts nc after u)
      by_effect (effect.Enter frame next) x acts nc =
          settled (effect.Enter frame next)
          (joined_by graph state colours q number f point (effect.Enter frame next))
          (made_by graph colours q.job number point (effect.Enter frame next))
          (calls.calls_join graph states state colours q number job f function point
          (effect.Enter frame next) x refl)
          (calls.calls_stay graph states state colours q number job f function point
          (effect.Enter frame next) x refl)
          (λ after u. calls_take graph states state colours q number job f function point frame next
          x acts nc after u)
      by_effect (effect.Spawn r frame made cell next) x acts nc =
          let from = tasks.from graph states state colours q number job f function point r frame made
          cell next x in
          let painted = tasks.tasks_paint graph states state colours q number job f function point r
          frame made cell next x in
          record {
            after = painted.0;
            secure = tasks.tasks_stay graph states state colours q number job f function point r frame
                made cell next x painted.0 painted.1;
            takes = by made from.made_is x acts nc painted.0 painted.1;
          }
        where
          by : (made : ℕ) → made ≡ length state.jobs → Does (effect.Spawn r frame made cell next)
              → Acts (effect.Spawn r frame made cell next)
              → NextCell (effect.Spawn r frame made cell next) → (after : Colours)
              → PaintsTask state colours q.job made number f frame
              (made_by graph colours q.job number point (effect.Spawn r frame made cell next)) after
              → AllTake graph state colours q.job (Execute (effect.Spawn r frame made cell next)) after
          by made is = subst (λ n. Does (effect.Spawn r frame n cell next)
              → Acts (effect.Spawn r frame n cell next)
              → NextCell (effect.Spawn r frame n cell next) → (after : Colours)
              → PaintsTask state colours q.job n number f frame
              (made_by graph colours q.job number point (effect.Spawn r frame n cell next)) after
              → AllTake graph state colours q.job (Execute (effect.Spawn r frame n cell next)) after)
              (sym is)
              (λ x acts nc after paints. tasks_take graph states state colours q number job f function
              point r frame cell next x acts nc after none_owns paints)
      by_effect (effect.Leave v) x acts nc =
          settled (effect.Leave v) [] (without_here q.job colours) (inl refl)
          (returns_stay graph states state colours q number job f function point v x)
          (λ after u. nothing_takes graph states state colours q number job f function point
          (effect.Leave v) x acts nc after (without_here q.job colours) refl u (λ c is. let no : ⊥ = cc in no))
      by_effect (effect.Halt kind at) x acts nc =
          settled (effect.Halt kind at) [] colours (inl refl)
          (traps_stay graph states state colours q number job f function point kind at x)
          (λ after u. nothing_takes graph states state colours q number job f function point
          (effect.Halt kind at) x acts nc after colours refl u (λ c is. let no : ⊥ = cc in no))
      by_effect effect.Stuck x acts nc = absurd (stuck_executes_not graph state q.job acts)

  pub taken : (j : ℕ) (act : Act) → act_of graph state j ≡ Some act
      → ((c : ℕ) → made_cell act ≡ Some c → c ≡ length state.cells)
      → Taken graph states state colours j act
  unfolding in_job
  taken j Dispatch acts nc = record {
    after = colours;
    secure = dispatches_stay graph states state colours j secure acts;
    takes = cells_stay graph state colours j Dispatch
        (ap (λ (s : State). s.cells) (stepped graph state j Dispatch acts));
  }
  taken j (Wake ended r v) acts nc = record {
    after = colours;
    secure = wakes_stay graph states state colours j ended r v secure acts;
    takes = cells_stay graph state colours j (Wake ended r v)
        (ap (λ (s : State). s.cells) (stepped graph state j (Wake ended r v) acts));
  }
  taken j (Execute e) acts nc =
      let at = executes_at graph state j e acts in
      let bound = some_bound colours in
      subst (λ k. Taken graph states state colours k (Execute e)) at.is_job
      (by_effect at.q bound.0 at.job at.frame at.function at.point e
      (record {
        secure = secure;
        numbered = bound.1;
        stands = at.stands;
        gives = at.gives;
      })
      (ap (act_of graph state) at.is_job ∙ acts) nc)
