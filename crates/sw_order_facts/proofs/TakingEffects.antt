-- Each effect hands what is the job's to takers alone.
use Rattle.std.proofs.Common.{◌≡◌, inl, inr, ℕ, Bool, true, false, not, Option, Some}
use Rattle.std.proofs.Common.{None, List, [], length, Contains, refl, sym, subst, ap, ◌∙◌}
use Rattle.std.specs.List.{slice_index_or}
use Rattle.sw_list.proofs.ListLemmas.{some_injective}
use Rattle.sw_list.proofs.Members.{none_in}
use Rattle.sw_graph.specs.declared.function.Function.{Function}
use Rattle.sw_graph.specs.declared.graph.Graph.{Graph}
use Rattle.sw_graph.specs.Points.{Point}
use Rattle.sw_value.specs.declared.cell.HeapCell.{HeapCell}
use Rattle.sw_value.specs.declared.effect.Act.TheVariants.{Execute}
use Rattle.sw_value.specs.declared.effect.Effect.{Effect}
use Rattle.sw_value.specs.declared.executor.Executor.{Executor}
use Rattle.sw_value.specs.declared.executor.Executor.TheVariants as executor
use Rattle.sw_value.specs.declared.frame.Frame.{Frame}
use Rattle.sw_value.specs.declared.job.Job.{Job}
use Rattle.sw_value.specs.declared.state.State.{State}
use Rattle.sw_value.specs.Act.{act_of}
use Rattle.sw_value.specs.Executor.{is_same}
use Rattle.sw_value.proofs.BusyLemmas.{same_executors}
use Rattle.sw_late_facts.specs.Late.{goes_away}
use Rattle.sw_partition.specs.Regions.{Regions}
use Rattle.sw_owner_facts.specs.Colours.{Actor, Colour}
use Rattle.sw_owner_facts.specs.View.{Frame as Spot}
use Rattle.sw_view_facts.specs.Views.{Colours}
use Rattle.sw_secure_facts.specs.Executing.{Executing}
use Rattle.sw_secure_facts.specs.Painting.{Unites, actor_on}
use Rattle.sw_secure_facts.specs.Painting.{joined_by}
use Rattle.sw_owned_facts.proofs.Sources.{AreHeld, IsHeld, values_held_at, values_of}
use Rattle.sw_machine_name_facts.specs.Given.{made_cell}
use Rattle.sw_order_facts.specs.Knowing.{RunsOn, executor_of}
use Rattle.sw_order_facts.specs.Taking.{AllTake, IsTakers, own, runner}
use Rattle.sw_order_facts.proofs.Becoming.{united_bare, united_was}
use Rattle.sw_machine_name_facts.proofs.Cells.{new_cell}
use Rattle.sw_order_facts.proofs.Holding.{executing_runs, held_holders}
use Rattle.sw_order_facts.proofs.Taking.{all_take}

-- an actor's executor
pub on_executor : (e : Executor) (a : Actor) → actor_on e ≡ Some a → e ≡ executor_of a
on_executor executor.Generic a is = cc
on_executor (executor.ActorOf c) a is = ap executor_of (some_injective is)
on_executor (executor.Global g) a is = ap executor_of (some_injective is)

-- a task that doesn't go away runs where its maker does
pub stays_here : (mine other : Executor) (a : Actor) → actor_on other ≡ Some a
    → goes_away mine other ≡ false → mine ≡ other
stays_here mine executor.Generic a on away = cc
stays_here mine (executor.ActorOf c) a on away =
    same_executors mine (executor.ActorOf c) (turned (is_same mine (executor.ActorOf c)) away)
  where
    turned : (b : Bool) → not b ≡ false → b ≡ true
    turned true e = refl
    turned false e = cc
stays_here mine (executor.Global g) a on away =
    same_executors mine (executor.Global g) (turned (is_same mine (executor.Global g)) away)
  where
    turned : (b : Bool) → not b ≡ false → b ≡ true
    turned true e = refl
    turned false e = cc

module _ (graph : Graph) (states : ℕ → List (Option Regions)) (state : State) (colours : Colours)
    (q : Spot) (number : ℕ) (job : Job) (f : Frame) (function : Function) (point : Point)
    (e : Effect) (x : Executing graph states state colours q number job f function point e)
    (acts : act_of graph state q.job ≡ Some (Execute e))
    (next_cell : (c : ℕ) → made_cell (Execute e) ≡ Some c → c ≡ length state.cells)
    (after : Colours) where
  abbrev pub Taker : Colour → Type 0
  Taker = IsTakers state q.job (Execute e)

  abbrev pub Held : Colour → Type 0
  Held = IsHeld graph states state colours x.secure q job f function

  -- what the top frame holds live is a taker's
  pub of_held : (c : Colour) → IsHeld graph states state colours x.secure q job f function c
      → IsTakers state q.job (Execute e) c
  of_held c (y, held) =
      elim (held_holders graph states state colours x.secure q job f function point x.stands y c
      held) [
        | inl (n, is) ↦ own n is
        | inr (a, runs, is) ↦ runner a runs is
      ]

  -- the job runs where its top frame stands
  pub runs_where : (a : Actor) → f.executor ≡ executor_of a → RunsOn state q.job a
  runs_where a is = executing_runs graph states state colours x.secure q job f function point
      x.stands ∙ ap Some is

  -- ---- effects that make no cell
  -- what becomes one is takers' colours, and no cell is added
  pub without_cell : (joined : List Colour) (base : Colours) → base.cells ≡ colours.cells
      → Unites q.job joined base after → ((c : Colour) → Contains joined c
      → IsTakers state q.job (Execute e) c)
      → ((cell : HeapCell) → new_cell (Execute e) ≡ Some cell → ⊥)
      → AllTake graph state colours q.job (Execute e) after
  without_cell joined base same unites all none =
      all_take graph state colours after q.job e acts next_cell
      (λ c colour is. elim (united_was graph state q.job joined base after unites c colour is) [
        | inl was ↦ inl (sym (ap (λ (l : List (Option Colour)). slice_index_or l c None) same) ∙ was)
        | inr (n, was, has) ↦ inr (inl (
          n,
          sym (ap (λ (l : List (Option Colour)). slice_index_or l c None) same) ∙ was,
          all colour has,
        ))
      ])
      (λ c is low. sym (ap (λ (l : List (Option Colour)). slice_index_or l c None) same)
      ∙ united_bare graph state q.job joined base after unites c is)
      (λ c cell actor made added keeps. absurd (none cell added))

  -- what becomes one by an effect of values is held
  pub values_take : Unites q.job (joined_by graph state colours q number f point e) colours after
      → joined_by graph state colours q number f point e
      ≡ values_of graph states state colours x.secure q job f function number point e
      → ((cell : HeapCell) → new_cell (Execute e) ≡ Some cell → ⊥)
      → AllTake graph state colours q.job (Execute e) after
  values_take unites same none =
      without_cell (joined_by graph state colours q number f point e) colours refl unites
      (λ c has. of_held c (subst (AreHeld graph states state colours x.secure q job f function)
      (ap (values_of graph states state colours x.secure q job f function number point) x.gives
      ∙ sym same)
      (values_held_at graph states state colours x.secure q job f function number
      (length job.frames) point x.stands) c has)) none

  -- and where nothing becomes one, nothing has to be
  pub nothing_takes : (base : Colours) → base.cells ≡ colours.cells → Unites q.job [] base after
      → ((cell : HeapCell) → new_cell (Execute e) ≡ Some cell → ⊥)
      → AllTake graph state colours q.job (Execute e) after
  nothing_takes base same unites none =
      without_cell [] base same unites (λ c has. absurd (none_in c has)) none
