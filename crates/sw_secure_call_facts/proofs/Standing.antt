-- On which actor a frame of an isolated function stands.
use Rattle.std.proofs.Common.{◌≡◌, ℕ, ◌==◌, Option, Some}
use Rattle.std.proofs.Common.{List}
use Rattle.std.proofs.Common.{[], ◌∷◌, refl, IsTrue}
use Rattle.std.specs.List.{slice_get}
use Rattle.std.proofs.lemmas.Bool.{and_parts, eqb-true}
use Rattle.sw_graph.specs.declared.function.Function.{Function}
use Rattle.sw_graph.specs.declared.graph.Graph.{Graph}
use Rattle.sw_graph.specs.declared.instr.Instr.{Instr}
use Rattle.sw_graph.specs.declared.instr.Operand.{Operand}
use Rattle.sw_graph.specs.Bodies.{first_is_self, has_self}
use Rattle.sw_graph.specs.Points.{Middle}
use Rattle.sw_value.specs.declared.executor.Executor.{Executor}
use Rattle.sw_value.specs.declared.executor.Executor.TheVariants as executor
use Rattle.sw_value.specs.declared.frame.Frame.{Frame}
use Rattle.sw_value.specs.declared.job.Job.{Job}
use Rattle.sw_value.specs.declared.state.State.{State}
use Rattle.sw_value.specs.declared.value.Value.{Value}
use Rattle.sw_value.specs.Value.{reference_of, value_at}
use Rattle.sw_partition.specs.Regions.{Regions}
use Rattle.sw_owner_facts.specs.Colours.{Actor as Owner, OfActor, On, Instance}
use Rattle.sw_owner_facts.specs.View.{IsolatedTo, Frame as Spot}
use Rattle.sw_view_facts.specs.Standing.{StandsAt}
use Rattle.sw_view_facts.specs.Views.{Colours, here_at, isolation_in, stands_on}
use Rattle.sw_view_facts.proofs.IsolationLemmas.{self_isolation}
use Rattle.sw_store_facts.proofs.Standing.{executor_of, here_of, self_refers}
use Rattle.sw_secure_facts.specs.Painting.{actor_on}
use Rattle.sw_secure_facts.specs.Secure.{IsSecure}

-- an executor that is an actor's
pub executor_is : (e : Executor) (a : Owner) → stands_on e ≡ On a → actor_on e ≡ Some a
executor_is executor.Generic a is = cc
executor_is (executor.ActorOf c) a is = cc
executor_is (executor.Global g) a is = cc

pub self_first : (function : Function) (args : List Operand) → IsTrue (first_is_self function args)
    → (o : Operand) × (slice_get args 0 ≡ Some o) × IsTrue (has_self function) × (o.reg ≡ 0)
self_first function [] is = absurd (let no : ⊥ = cc in no)
self_first function (o ∷ os) is =
    let parts = and_parts (has_self function) (o.reg == 0) is in
    (o, refl, parts.0, eqb-true o.reg 0 parts.1)

module _ (graph : Graph) (states : ℕ → List (Option Regions)) (state : State) (colours : Colours)
    (secure : IsSecure graph states state colours) (q : Spot) (job : Job) (f : Frame)
    (function : Function) (instr : Instr)
    (x : StandsAt graph state q job f function (Middle instr)) where
  -- a frame of an isolated function stands on its actor, whose colour its `Here` has
  pub record IsOn (a : Owner) : Type 0 where
    pub executor : actor_on f.executor ≡ Some a
    pub here : here_at colours q ≡ OfActor a

  pub stands_isolated : (a : Owner) → isolation_in function f.regs ≡ IsolatedTo a → IsOn a
  stands_isolated a is = record {
    executor = executor_is f.executor a (executor_of graph states state colours secure.coloured q job
        f function (Middle instr) x a is);
    here = here_of graph states state colours secure.coloured q job f function (Middle instr) x a is;
  }

  -- its own `self` is an actor
  pub record HasActor : Type 0 where
    pub value : Value
    pub at : value_at f.regs 0 ≡ Some value
    pub cell : ℕ
    pub refers : reference_of value ≡ Some cell
    pub on : IsOn (Instance cell)

  pub self_is : IsTrue (has_self function) → (v : Value) → value_at f.regs 0 ≡ Some v → HasActor
  self_is self v at =
      let is = self_refers graph states state colours secure.coloured q job f function
      (Middle instr) x self v at in
      record {
        value = v;
        at = at;
        cell = is.0;
        refers = is.1;
        on = stands_isolated (Instance is.0) (self_isolation function f.regs v is.0 self at is.1);
      }
