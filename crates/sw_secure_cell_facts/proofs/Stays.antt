-- Each instruction that makes a cell keeps a state secure, and the colours that it joins may become
-- one.
use Rattle.std.proofs.Common.{◌≡◌, ◌+◌, ℕ, Bool, true, false, Option, Some, None, List, length}
use Rattle.std.proofs.Common.{refl}
use Rattle.std.proofs.Common.{sym, subst}
use Rattle.sw_types.specs.Sendable.{sends_at}
use Rattle.sw_graph.specs.declared.function.Function.{Function}
use Rattle.sw_graph.specs.declared.graph.Graph.{Graph}
use Rattle.sw_graph.specs.declared.instr.Instr.TheVariants as instr
use Rattle.sw_graph.specs.declared.instr.Operand.{Operand}
use Rattle.sw_graph.specs.Bodies.{actor_of}
use Rattle.sw_graph.specs.Points.{Point, Middle}
use Rattle.sw_value.specs.declared.cell.HeapCell.TheVariants.{Actor, BoxOf, Closure, Object}
use Rattle.sw_value.specs.declared.effect.Effect.{Effect}
use Rattle.sw_value.specs.declared.effect.Effect.TheVariants.{New}
use Rattle.sw_value.specs.declared.frame.Frame.{Frame}
use Rattle.sw_value.specs.declared.job.Job.{Job}
use Rattle.sw_value.specs.declared.state.State.{State}
use Rattle.sw_value.specs.declared.value.Value.{Value}
use Rattle.sw_value.specs.Value.{values_at}
use Rattle.sw_partition.specs.Regions.{Regions}
use Rattle.sw_owner_facts.specs.View.{Frame as Spot}
use Rattle.sw_reach_facts.specs.Coloured.{runs_isolated}
use Rattle.sw_view_facts.specs.Views.{Colours}
use Rattle.sw_secure_facts.specs.Executing.{Executing, MayJoin, StaysSecure, makes_cell}
use Rattle.sw_secure_cell_facts.proofs.Actors.{actor_joins, actor_stays}
use Rattle.sw_secure_cell_facts.proofs.Annotated.{annotated_joins, annotated_stays}
use Rattle.sw_secure_cell_facts.proofs.Boxes.{box_joins, box_stays}
use Rattle.sw_secure_cell_facts.proofs.Closures.{free_joins, free_stays, isolated_joins}
use Rattle.sw_secure_cell_facts.proofs.Closures.{isolated_stays}
use Rattle.sw_secure_cell_facts.proofs.Makers.{MakesAt, actor, box, closure, made_at, object}
use Rattle.sw_secure_cell_facts.proofs.Objects.{object_joins, object_stays}
use Rattle.sw_secure_cell_facts.proofs.Sendable.{sendable_joins, sendable_stays}

module _ (graph : Graph) (states : ℕ → List (Option Regions)) (state : State) (colours : Colours)
    (q : Spot) (number : ℕ) (job : Job) (f : Frame) (function : Function) where
  -- the two together
  abbrev Both : Point → Effect → Type 0
  Both point e = StaysSecure graph states state colours q number f point e
      × MayJoin graph state colours q number f point e

  of_object : (at dst k : ℕ) (args : List Operand) (parts : List Value)
      → values_at f.regs args ≡ Some parts
      → Executing graph states state colours q number job f function
      (Middle (instr.NewObject at dst k args))
      (New dst (Object k parts) (length state.cells) (f.point + 1))
      → Both (Middle (instr.NewObject at dst k args))
      (New dst (Object k parts) (length state.cells) (f.point + 1))
  of_object at dst k args parts have x = by (sends_at graph.shapes k) refl
      (actor_of graph.shapes k) refl where
        by : (b : Bool) → sends_at graph.shapes k ≡ b → (o : Option ℕ)
            → actor_of graph.shapes k ≡ o → Both (Middle (instr.NewObject at dst k args))
            (New dst (Object k parts) (length state.cells) (f.point + 1))
        by false never o is = (
          object_stays graph states state colours q number job f function at dst k args parts have x
              never,
          object_joins graph states state colours q number job f function at dst k args parts have x
              never,
        )
        by true sends None is = (
          sendable_stays graph states state colours q number job f function at dst k args parts have
              x sends is,
          sendable_joins graph states state colours q number job f function at dst k args parts have
              x sends is,
        )
        by true sends (Some on) is = (
          annotated_stays graph states state colours q number job f function at dst k args parts
              have x sends on is,
          annotated_joins graph states state colours q number job f function at dst k args parts
              have x sends on is,
        )

  of_closure : (at dst g : ℕ) (captures : List Operand) (values : List Value)
      → values_at f.regs captures ≡ Some values
      → Executing graph states state colours q number job f function
      (Middle (instr.NewClosure at dst g captures))
      (New dst (Closure g values) (length state.cells) (f.point + 1))
      → Both (Middle (instr.NewClosure at dst g captures))
      (New dst (Closure g values) (length state.cells) (f.point + 1))
  of_closure at dst g captures values have x = by (runs_isolated graph g) refl where
    by : (b : Bool) → runs_isolated graph g ≡ b
        → Both (Middle (instr.NewClosure at dst g captures))
        (New dst (Closure g values) (length state.cells) (f.point + 1))
    by true isolated = (
      isolated_stays graph states state colours q number job f function at dst g captures values
          have x isolated,
      isolated_joins graph states state colours q number job f function at dst g captures values
          have x isolated,
    )
    by false free = (
      free_stays graph states state colours q number job f function at dst g captures values have x
          free,
      free_joins graph states state colours q number job f function at dst g captures values have x
          free,
    )

  moved : (point there : Point) (e effect : Effect) → point ≡ there → e ≡ effect
      → (Executing graph states state colours q number job f function there effect
      → Both there effect)
      → Executing graph states state colours q number job f function point e → Both point e
  moved point there e effect here is on x =
      subst (λ p. Both p e) (sym here) (subst (Both there) (sym is)
      (on (subst (Executing graph states state colours q number job f function there) is
      (subst (λ p. Executing graph states state colours q number job f function p e) here x))))

  both : (point : Point) (e : Effect) → MakesAt state f point e
      → Executing graph states state colours q number job f function point e → Both point e
  both point e (box at dst src v here has is) =
      moved point (Middle (instr.NewBox at dst src)) e
      (New dst (BoxOf v) (length state.cells) (f.point + 1)) here is (λ x. (
        box_stays graph states state colours q number job f function at dst src v has x,
        box_joins graph states state colours q number job f function at dst src v has x,
      ))
  both point e (object at dst k args parts here have is) =
      moved point (Middle (instr.NewObject at dst k args)) e
      (New dst (Object k parts) (length state.cells) (f.point + 1)) here is
      (of_object at dst k args parts have)
  both point e (actor at dst k args parts here have is) =
      moved point (Middle (instr.NewActor at dst k args)) e
      (New dst (Actor k parts) (length state.cells) (f.point + 1)) here is (λ x. (
        actor_stays graph states state colours q number job f function at dst k args parts have x,
        actor_joins graph states state colours q number job f function at dst k args parts have x,
      ))
  both point e (closure at dst g captures values here have is) =
      moved point (Middle (instr.NewClosure at dst g captures)) e
      (New dst (Closure g values) (length state.cells) (f.point + 1)) here is
      (of_closure at dst g captures values have)

pub stays : (graph : Graph) (states : ℕ → List (Option Regions)) (state : State)
    (colours : Colours) (q : Spot) (number : ℕ) (job : Job) (f : Frame) (function : Function)
    (point : Point) (e : Effect)
    → Executing graph states state colours q number job f function point e → makes_cell e ≡ true
    → StaysSecure graph states state colours q number f point e
stays graph states state colours q number job f function point e x makes =
    (both graph states state colours q number job f function point e
    (made_at graph state (length job.frames) f point e x.gives makes) x).0

pub joins : (graph : Graph) (states : ℕ → List (Option Regions)) (state : State)
    (colours : Colours) (q : Spot) (number : ℕ) (job : Job) (f : Frame) (function : Function)
    (point : Point) (e : Effect)
    → Executing graph states state colours q number job f function point e → makes_cell e ≡ true
    → MayJoin graph state colours q number f point e
joins graph states state colours q number job f function point e x makes =
    (both graph states state colours q number job f function point e
    (made_at graph state (length job.frames) f point e x.gives makes) x).1
