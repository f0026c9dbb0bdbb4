-- A step that makes a task, and where the task runs: on the actor of its maker, which keeps the
-- captures, or elsewhere, and then the captures are given away.
use Rattle.std.specs.Option.{option_and_then, option_map, option_map_or}
use Rattle.std.specs.List.{list_any, slice_get}
use Rattle.std.proofs.Common.{◌≡◌, ◌⊎◌, ◌==◌, ◌&&◌, ◌+◌, ℕ, Bool, true, false, not, cond}
use Rattle.std.proofs.Common.{IsTrue, Option, Some, None, List, [], ◌∷◌, length, refl, sym}
use Rattle.std.proofs.Common.{subst, ap, ◌∙◌, arith, inl, inr}
use Rattle.std.proofs.lemmas.Bool.{and_parts, eq-eqb, eqb-true}
use Rattle.sw_list.proofs.ListLemmas.{some_injective}
use Rattle.sw_types.specs.declared.isolation.Iso.{Iso}
use Rattle.sw_types.specs.declared.isolation.Iso.TheVariants as iso
use Rattle.sw_graph.specs.declared.function.Function.{Function}
use Rattle.sw_graph.specs.declared.graph.Graph.{Graph}
use Rattle.sw_graph.specs.declared.instr.Instr.{Instr}
use Rattle.sw_graph.specs.declared.instr.Instr.TheVariants.{NewTask}
use Rattle.sw_graph.specs.declared.instr.Operand.{Operand}
use Rattle.sw_graph.specs.Bodies.{first_is_self, has_self, is_actor_initialiser, is_own}
use Rattle.sw_graph.specs.Bodies.{makes_actor}
use Rattle.sw_graph.specs.Placed.{IsRunApart, TaskInside}
use Rattle.sw_graph.specs.Points.{Middle, points_of}
use Rattle.sw_value.specs.declared.effect.Effect.TheVariants.{Spawn}
use Rattle.sw_value.specs.declared.executor.Executor.{Executor}
use Rattle.sw_value.specs.declared.executor.Executor.TheVariants as executor
use Rattle.sw_value.specs.declared.frame.Frame.{Frame}
use Rattle.sw_value.specs.declared.job.Job.{Job}
use Rattle.sw_value.specs.declared.state.State.{State}
use Rattle.sw_value.specs.declared.value.Value.{Value}
use Rattle.sw_value.specs.Effect.{point_effect}
use Rattle.sw_value.specs.Executor.{executor_of}
use Rattle.sw_value.specs.Lists.{each_of}
use Rattle.sw_value.specs.Value.{operand_value, reference_of, registers, value_at, values_at}
use Rattle.sw_partition.specs.Regions.{Regions}
use Rattle.sw_region_ops.specs.Elements.{elements_of}
use Rattle.sw_region_ops.specs.Table.{shares_actor}
use Rattle.sw_owner_facts.specs.Colours.{Actor, GlobalActor, Instance, OfActor, On}
use Rattle.sw_owner_facts.specs.View.{Element, FrameShape, Here, IsFrame, IsolatedTo, MakesActor}
use Rattle.sw_owner_facts.specs.View.{View, Frame as Spot}
use Rattle.sw_region_facts.specs.Moves.{Gathers, Sends, tracked}
use Rattle.sw_region_facts.specs.Rows.{StartsTask}
use Rattle.sw_view_facts.specs.Standing.{StandsAt}
use Rattle.sw_view_facts.specs.Views.{Colours, frame_at, frame_under, function_of, here_at}
use Rattle.sw_view_facts.specs.Views.{isolation_by, isolation_in, on_actor, shape_by, shape_with}
use Rattle.sw_view_facts.specs.Views.{stands_on, view_at}
use Rattle.sw_view_facts.proofs.TopLemmas.{frame_was, height_is}
use Rattle.sw_store_facts.proofs.Stepping.{Row, row}
use Rattle.sw_late_facts.specs.Late.{goes_away}
use Rattle.sw_secure_facts.specs.Painting.{actor_on}
use Rattle.sw_secure_facts.specs.Secure.{IsSecure}
use Rattle.sw_secure_job_facts.proofs.Begun.{IsBegun}
use Rattle.sw_view_facts.proofs.EntryLemmas.{given_value}

-- The top frame f of a running job stands at an instruction that makes a task, which begins with
-- this frame.
pub record MakesTask (graph : Graph) (states : ℕ → List (Option Regions)) (state : State)
    (colours : Colours) (q : Spot) (job : Job) (f : Frame) (function : Function) (r : ℕ)
    (frame : Frame) : Type 0 where
  pub secure : IsSecure graph states state colours
  pub at : ℕ
  pub number : ℕ
  pub captures : List Operand
  pub stands : StandsAt graph state q job f function (Middle (NewTask at r number captures))
  pub values : List Value
  pub have : values_at f.regs captures ≡ Some values
  pub begun : IsBegun graph number values frame
  pub gives : point_effect graph state (length job.frames) f
      (Middle (NewTask at r number captures))
      ≡ Spawn r frame (length state.jobs) (length state.cells) (f.point + 1)

-- ---- executors and actors
-- an executor that stands on an actor is that actor's
pub on_stands : (e : Executor) (a : Actor) → stands_on e ≡ On a → actor_on e ≡ Some a
on_stands executor.Generic a is = cc
on_stands (executor.ActorOf c) a is = (let same : Instance c ≡ a = cc in ap Some same)
on_stands (executor.Global g) a is = (let same : GlobalActor g ≡ a = cc in ap Some same)

-- executors on one actor are one
stays_with : (own other : Executor) (a : Actor) → stands_on own ≡ On a → actor_on other ≡ Some a
    → goes_away own other ≡ false
stays_with own executor.Generic a one is = cc
stays_with executor.Generic (executor.ActorOf d) a one is = cc
stays_with (executor.ActorOf c) (executor.ActorOf d) a one is =
    let both : Some (Instance c) ≡ Some (Instance d) =
    on_stands (executor.ActorOf c) a one ∙ sym is in
    ap not (eq-eqb c d (let e : c ≡ d = cc in e))
stays_with (executor.Global g) (executor.ActorOf d) a one is =
    let both : Some (GlobalActor g) ≡ Some (Instance d) =
    on_stands (executor.Global g) a one ∙ sym is in absurd (let z : ⊥ = cc in z)
stays_with executor.Generic (executor.Global h) a one is = cc
stays_with (executor.ActorOf c) (executor.Global h) a one is =
    let both : Some (Instance c) ≡ Some (GlobalActor h) =
    on_stands (executor.ActorOf c) a one ∙ sym is in absurd (let z : ⊥ = cc in z)
stays_with (executor.Global g) (executor.Global h) a one is =
    let both : Some (GlobalActor g) ≡ Some (GlobalActor h) =
    on_stands (executor.Global g) a one ∙ sym is in
    ap not (eq-eqb g h (let e : g ≡ h = cc in e))

-- the body's own `self` is what its register 0 names
self_value : (function : Function) (regs : List (Option Value)) (captures : List Operand)
    (values : List Value) (v : Value) → IsTrue (first_is_self function captures)
    → each_of (operand_value regs) captures ≡ Some values → slice_get values 0 ≡ Some v
    → (value_at regs 0 ≡ Some v) × (has_self function ≡ true)
self_value function regs [] values v self have first = cc
self_value function regs (o ∷ os) values v self have first =
    let both = and_parts (has_self function) (o.reg == 0) self in
    (by (operand_value regs o) refl have (eqb-true o.reg 0 both.1), both.0)
  where
    more : (w : Value) → operand_value regs o ≡ Some w → o.reg ≡ 0 → (l : Option (List Value))
        → option_map (λ ws. w ∷ ws) l ≡ Some values → value_at regs 0 ≡ Some v
    more w gives zero_is None is = absurd (let z : ⊥ = cc in z)
    more w gives zero_is (Some ws) is =
        let head : w ≡ v = some_injective (ap (λ l. slice_get l 0) (some_injective is) ∙ first) in
        ap (value_at regs) (sym zero_is) ∙ gives ∙ ap Some head

    by : (p : Option Value) → operand_value regs o ≡ p
        → option_and_then (λ w. option_map (λ ws. w ∷ ws) (each_of (operand_value regs) os)) p
        ≡ Some values → o.reg ≡ 0 → value_at regs 0 ≡ Some v
    by None gives is zero_is = absurd (let z : ⊥ = cc in z)
    by (Some w) gives is zero_is = more w gives zero_is (each_of (operand_value regs) os) is

module _ (graph : Graph) (states : ℕ → List (Option Regions)) (state : State) (colours : Colours)
    (q : Spot) (job : Job) (f : Frame) (function : Function) (r : ℕ) (frame : Frame)
    (m : MakesTask graph states state colours q job f function r frame) where
  abbrev pub instr : Instr
  instr = NewTask m.at r m.number m.captures

  -- the function of the task
  abbrev pub body : Function
  body = m.begun.function

  abbrev pub elements : List (Option ℕ)
  elements = elements_of graph.shapes function.regs

  abbrev pub xs : List Element
  xs = tracked elements m.captures

  abbrev pub here : Row graph states state colours m.secure.coloured q job f function instr m.stands
  here = row graph states state colours m.secure.coloured q job f function instr m.stands

  moves : StartsTask (shares_actor body.iso function.iso) elements xs here.a here.c
  moves = subst (λ b. StartsTask b elements xs here.a here.c)
      (ap (λ o. option_map_or (λ (k : Function). shares_actor k.iso function.iso) o false)
      m.begun.is)
      here.moves

  pub apart : TaskInside function m.captures body.iso × IsRunApart graph.shapes body
  apart = m.secure.coloured.clean.placed.apart f.function function m.stands.is f.point instr
      m.stands.here body m.begun.is

  pub there : frame_at state q ≡ Some f
  there = frame_was state q job f m.stands.top

  -- The task runs on the actor of its maker.
  pub record Shares : Type 0 where
    pub actor : Actor
    pub gathers : Gathers elements (Here ∷ xs) here.a here.c
    pub here_is : here_at colours q ≡ OfActor actor
    pub on : actor_on frame.executor ≡ Some actor
    pub stays : goes_away f.executor frame.executor ≡ false

  abbrev w : View
  w = view_at graph states state colours

  shape_is : w.shape q ≡ shape_with graph (function_of graph (frame_under state q.job q.depth)) f
      (Some function)
  shape_is = ap (shape_by graph (function_of graph (frame_under state q.job q.depth))) there
      ∙ ap (shape_with graph (function_of graph (frame_under state q.job q.depth)) f) m.stands.is

  shares_with : Gathers elements (Here ∷ xs) here.a here.c → (a : Actor)
      → isolation_in function f.regs ≡ IsolatedTo a → actor_on frame.executor ≡ Some a → Shares
  shares_with gathers a isolated on =
      let owned = m.secure.coloured.sound.owned in
      let height = height_is state q job f m.stands.top in
      let inside : IsFrame w q = omega (arith, height) in
      let isolation = ap (λ (s : FrameShape). s.isolation) shape_is ∙ isolated in
      record {
        actor = a;
        gathers = gathers;
        here_is = owned.isolated {a = a} q inside isolation;
        on = on;
        stays = stays_with f.executor frame.executor a
            (sym (ap (λ (s : FrameShape). s.executor) shape_is)
            ∙ owned.stands {a = a} q inside isolation) on;
      }

  -- a task on its maker's global actor
  of_global : (g : ℕ) → body.iso ≡ iso.Global g → function.iso ≡ iso.Global g
      → Gathers elements (Here ∷ xs) here.a here.c → Shares
  of_global g task own gathers = shares_with gathers (GlobalActor g)
      (ap (λ i. cond (is_own i && made) MakesActor (isolation_by i f.regs)) own)
      (ap actor_on (some_injective (sym m.begun.executor
      ∙ ap (λ i. executor_of i (registers (length body.regs) m.values)) task)))
    where
      made : Bool
      made = list_any (makes_actor function.result) (points_of function.blocks)

  -- a task on its maker's own actor
  of_own : body.iso ≡ iso.Own → function.iso ≡ iso.Own
      → Gathers elements (Here ∷ xs) here.a here.c → Shares
  of_own task own gathers =
      by (value_at (registers (length body.regs) m.values) 0) refl
      (sym (ap (λ i. executor_of i (registers (length body.regs) m.values)) task)
      ∙ m.begun.executor)
    where
      self : IsTrue (first_is_self function m.captures)
      self = subst (TaskInside function m.captures) task apart.0

      named : (v : Value) → slice_get m.values 0 ≡ Some v → (c : Option ℕ) → reference_of v ≡ c
          → option_map executor.ActorOf c ≡ Some frame.executor → Shares
      named v first None refers on = absurd (let z : ⊥ = cc in z)
      named v first (Some c) refers on =
          let value = self_value function f.regs m.captures m.values v self m.have first in
          let both = and_parts (is_own function.iso) (not (is_actor_initialiser function)) value.1
          in
          shares_with gathers (Instance c)
          (ap (λ b. cond b MakesActor (isolation_by function.iso f.regs)) (not_true
          (is_actor_initialiser function) both.1)
          ∙ ap (λ i. isolation_by i f.regs) own
          ∙ ap (λ o. on_actor (option_and_then reference_of o)) value.0
          ∙ ap on_actor refers)
          (ap actor_on (sym (some_injective on)))
        where
          not_true : (b : Bool) → not b ≡ true → b ≡ false
          not_true true e = cc
          not_true false e = refl

      by : (o : Option Value) → value_at (registers (length body.regs) m.values) 0 ≡ o
          → option_map executor.ActorOf (option_and_then reference_of o) ≡ Some frame.executor
          → Shares
      by None at is = absurd (let z : ⊥ = cc in z)
      by (Some v) at is = named v (given_value (length body.regs) m.values 0 v at) (reference_of v)
          refl is

  -- it shares its maker's actor, or is given its captures
  pub shares_or_sends : Shares ⊎ Sends elements xs here.a here.c
  shares_or_sends = by body.iso refl function.iso refl moves where
    same : (g h : ℕ) → body.iso ≡ iso.Global g → function.iso ≡ iso.Global h → (b : Bool)
        → (g == h) ≡ b → StartsTask b elements xs here.a here.c
        → Shares ⊎ Sends elements xs here.a here.c
    same g h task own true is move =
        inl (of_global h (task ∙ ap iso.Global (eqb-true g h is)) own move)
    same g h task own false is move = inr move

    by : (task : Iso) → body.iso ≡ task → (own : Iso) → function.iso ≡ own
        → StartsTask (shares_actor task own) elements xs here.a here.c
        → Shares ⊎ Sends elements xs here.a here.c
    by iso.Own task iso.Own own move = inl (of_own task own move)
    by (iso.Global g) task (iso.Global h) own move = same g h task own (g == h) refl move
    by iso.Own task iso.Free own move = inr move
    by iso.Own task iso.Caller own move = inr move
    by iso.Own task (iso.Global h) own move = inr move
    by (iso.Global g) task iso.Own own move = inr move
    by (iso.Global g) task iso.Free own move = inr move
    by (iso.Global g) task iso.Caller own move = inr move
    by iso.Free task own_iso own move = inr move
    by iso.Caller task own_iso own move = inr move
