-- What makes a task hands what is the job's to takers alone.
use Rattle.std.proofs.Common.{◌≡◌, ◌≢◌, inl, inr, ℕ, Bool, true, false, cond, Option, Some}
use Rattle.std.proofs.Common.{None, List, [], ◌∷◌, length, Contains, refl, sym, subst, ap, ◌∙◌}
use Rattle.std.proofs.Common.{arith}
use Rattle.std.specs.List.{slice_index_or}
use Rattle.std.proofs.lemmas.List.{get_or_append_left}
use Rattle.sw_list.proofs.ListLemmas.{some_injective}
use Rattle.sw_list.proofs.Members.{first_or_later, none_in}
use Rattle.sw_graph.specs.declared.function.Function.{Function}
use Rattle.sw_graph.specs.declared.graph.Graph.{Graph}
use Rattle.sw_graph.specs.Points.{Point}
use Rattle.sw_value.specs.declared.effect.Act.TheVariants.{Execute}
use Rattle.sw_value.specs.declared.effect.Effect.{Effect}
use Rattle.sw_value.specs.declared.effect.Effect.TheVariants as effect
use Rattle.sw_value.specs.declared.frame.Frame.{Frame}
use Rattle.sw_value.specs.declared.job.Job.{Job}
use Rattle.sw_value.specs.declared.state.State.{State}
use Rattle.sw_value.specs.Act.{act_of}
use Rattle.sw_late_facts.specs.Late.{goes_away}
use Rattle.sw_partition.specs.Regions.{Regions}
use Rattle.sw_owner_facts.specs.Colours.{Actor, Colour, OfActor, OfJob}
use Rattle.sw_owner_facts.specs.View.{Frame as Spot}
use Rattle.sw_view_facts.specs.Memory.{coloured_more}
use Rattle.sw_view_facts.specs.Views.{Colours}
use Rattle.sw_secure_facts.specs.Executing.{Executing}
use Rattle.sw_secure_facts.specs.Memory.{keeper}
use Rattle.sw_secure_facts.specs.Painting.{PaintsTask, actor_on, begun_here, handed, joined_by_task}
use Rattle.sw_secure_facts.specs.Painting.{passed, with_job}
use Rattle.sw_secure_cell_facts.proofs.Adding.{colour_at_end}
use Rattle.sw_secure_job_facts.proofs.Carried.{ours}
use Rattle.sw_secure_job_facts.proofs.Handing.{handed_actor, handed_cases, handed_colour, handed_given}
use Rattle.sw_secure_job_facts.proofs.Making.{MakesTask}
use Rattle.sw_secure_job_facts.proofs.TaskPaints.{carried_later, not_made}
use Rattle.sw_secure_job_facts.proofs.Tasks as tasks
use Rattle.sw_machine_name_facts.specs.Given.{made_cell}
use Rattle.sw_order_facts.specs.Taking.{AllTake, IsTakers, heir, own, runner}
use Rattle.sw_order_facts.proofs.Becoming.{handed_bare, handed_was, united_bare, united_was}
use Rattle.sw_order_facts.proofs.Taking.{CellTakes, all_take}
use Rattle.sw_order_facts.proofs.TakingEffects.{on_executor, runs_where, stays_here}

module _ (graph : Graph) (states : ℕ → List (Option Regions)) (state : State) (colours : Colours)
    (q : Spot) (number : ℕ) (job : Job) (f : Frame) (function : Function) (point : Point) (r : ℕ)
    (frame : Frame) (cell next : ℕ)
    (x : Executing graph states state colours q number job f function point
    (effect.Spawn r frame (length state.jobs) cell next))
    (acts : act_of graph state q.job
    ≡ Some (Execute (effect.Spawn r frame (length state.jobs) cell next)))
    (next_cell : (k : ℕ)
    → made_cell (Execute (effect.Spawn r frame (length state.jobs) cell next)) ≡ Some k
    → k ≡ length state.cells) (after : Colours)
    (none_owns : (c n : ℕ)
    → slice_index_or colours.cells c None ≡ Some (OfJob (length state.jobs) n) → ⊥)
    (paints : PaintsTask state colours q.job (length state.jobs) number f frame
    (with_job (begun_here (actor_on frame.executor) (length state.jobs) number)
    (coloured_more None colours)) after) where
  abbrev made : ℕ
  made = length state.jobs

  abbrev task : Effect
  task = effect.Spawn r frame (length state.jobs) cell next

  abbrev Taker : Colour → Type 0
  Taker = IsTakers state q.job (Execute (effect.Spawn r frame (length state.jobs) cell next))

  abbrev base : Colours
  base = with_job (begun_here (actor_on frame.executor) (length state.jobs) number)
      (coloured_more None colours)

  makes : MakesTask graph states state colours q job f function r frame
  makes = tasks.makes graph states state colours q number job f function point r frame
      (length state.jobs) cell next x

  other : q.job ≢ length state.jobs
  other = not_made graph states state colours q job f function r frame makes number

  -- an actor's colour is that of the actor on which the job runs, unless the task goes away
  shares : goes_away f.executor frame.executor ≡ false → (a : Actor)
      → actor_on frame.executor ≡ Some a → Taker (OfActor a)
  shares stays a on = runner a (runs_where graph states state colours q number job f function point
      task x acts next_cell after a (stays_here f.executor frame.executor a on stays
      ∙ on_executor frame.executor a on)) refl

  here : goes_away f.executor frame.executor ≡ false → (on : Option Actor)
      → actor_on frame.executor ≡ on → Taker (begun_here on made number)
  here stays None is = heir made number refl refl
  here stays (Some a) is = shares stays a is

  given_taker : (n : ℕ) → Taker (handed_colour q.job made paints.given (OfJob q.job n))
  given_taker n = elim (handed_cases q.job made paints.given (OfJob q.job n) other) [
    | inl stays ↦ own n stays
    | inr (m, has, is) ↦ heir made m refl
        (ap (handed_colour q.job made paints.given) is
        ∙ handed_given q.job made paints.given m other has)
  ]

  carried : goes_away f.executor frame.executor ≡ false → (d : Colour)
      → Contains (passed state (handed q.job made paints.given colours) [] frame.regs) d → Taker d
  carried stays d has =
      let old = carried_later graph states state colours q job f function r frame makes number
      paints.given d has in
      elim (ours graph states state colours q job f function r frame makes old.0 old.1) [
        | inl (owner, on, is) ↦ subst Taker
            (sym (handed_actor q.job made paints.given owner)
            ∙ ap (handed_colour q.job made paints.given) (sym is) ∙ old.2) (shares stays owner on)
        | inr (n, is) ↦ subst Taker
            (ap (handed_colour q.job made paints.given) (sym is) ∙ old.2) (given_taker n)
      ]

  joined_at : (b : Bool) → goes_away f.executor frame.executor ≡ b → (d : Colour)
      → Contains (cond b [] (begun_here (actor_on frame.executor) made number
      ∷ passed state (handed q.job made paints.given colours) [] frame.regs)) d → Taker d
  joined_at true away d has = absurd (none_in d has)
  joined_at false away d has = elim (first_or_later (begun_here (actor_on frame.executor) made number)
      (passed state (handed q.job made paints.given colours) [] frame.regs) d has) [
        | inl first ↦ subst Taker first (here away (actor_on frame.executor) refl)
        | inr later ↦ carried away d later
      ]

  joined : (d : Colour) → Contains (joined_by_task state (handed q.job made paints.given colours)
      made number f frame) d → Taker d
  joined = joined_at (goes_away f.executor frame.executor) refl

  -- a cell that was there
  was_there : (c : ℕ) (colour : Colour) → slice_index_or base.cells c None ≡ Some colour
      → slice_index_or colours.cells c None ≡ Some colour
  was_there c colour is = elim (colour_at_end colours.cells None c colour is) [
    | inl old ↦ old
    | inr (end, new) ↦ absurd (let no : ⊥ = cc in no)
  ]

  coloured : (c : ℕ) (colour : Colour) → slice_index_or after.cells c None ≡ Some colour
      → CellTakes state colours q.job task c colour
  coloured c colour is =
      elim (united_was graph state made (joined_by_task state
      (handed q.job made paints.given colours) made number f frame)
      (handed q.job made paints.given base) after paints.unites c colour is) [
        | inl was ↦ elim (handed_was graph state q.job made other paints.given base c colour was) [
          | inl same ↦ inl (was_there c colour same)
          | inr (n, at, is_heir) ↦ inr (inl (
            n,
            was_there c (OfJob q.job n) at,
            heir made n refl is_heir,
          ))
        ]
        | inr (n, was, has) ↦ elim (handed_was graph state q.job made other paints.given base c
            (OfJob made n) was) [
              | inl same ↦ absurd (none_owns c n (was_there c (OfJob made n) same))
              | inr (m, at, is_heir) ↦ inr (inl (
                m,
                was_there c (OfJob q.job m) at,
                joined colour has,
              ))
            ]
      ]

  pub tasks_take : AllTake graph state colours q.job
      (Execute (effect.Spawn r frame (length state.jobs) cell next)) after
  tasks_take = all_take graph state colours after q.job task acts next_cell coloured
      (λ c is low. sym (get_or_append_left colours.cells (None ∷ []) None c
      (let count = x.secure.memory.count in omega (arith, low, count)))
      ∙ handed_bare graph state q.job made other paints.given base c
      (united_bare graph state made (joined_by_task state
      (handed q.job made paints.given colours) made number f frame)
      (handed q.job made paints.given base) after paints.unites c is))
      (λ c h actor here added is.
      let none : None ≡ Some actor = ap (keeper graph c) (some_injective added) ∙ is in
      absurd (let no : ⊥ = cc in no))
