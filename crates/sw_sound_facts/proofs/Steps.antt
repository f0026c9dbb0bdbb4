-- Each step of a secure state leads to a secure one, by the laws on each sort of effect.
use Rattle.std.proofs.Common.{◌≡◌, ℕ, Bool, true, Option, Some, None, List, [], refl, sym}
use Rattle.std.proofs.Common.{subst, ap, ◌∙◌, inl}
use Rattle.sw_graph.specs.declared.function.Function.{Function}
use Rattle.sw_graph.specs.declared.graph.Graph.{Graph}
use Rattle.sw_graph.specs.Points.{Point}
use Rattle.sw_value.specs.declared.effect.Act.{Act}
use Rattle.sw_value.specs.declared.effect.Act.TheVariants.{Dispatch, Wake, Execute}
use Rattle.sw_value.specs.declared.effect.Effect.{Effect}
use Rattle.sw_value.specs.declared.effect.Effect.TheVariants as effect
use Rattle.sw_value.specs.declared.frame.Frame.{Frame}
use Rattle.sw_value.specs.declared.job.Job.{Job}
use Rattle.sw_value.specs.declared.state.State.{State}
use Rattle.sw_value.specs.declared.state.TrapKind.{TrapKind}
use Rattle.sw_value.specs.declared.value.Value.{Value}
use Rattle.sw_value.specs.Act.{act_of}
use Rattle.sw_value.specs.Reach.{step_of}
use Rattle.sw_value.proofs.ReachLemmas.{after_acts, step_by_act}
use Rattle.sw_partition.specs.Regions.{Regions}
use Rattle.sw_owner_facts.specs.Colours.{Colour}
use Rattle.sw_owner_facts.specs.View.{Frame as Spot}
use Rattle.sw_view_facts.specs.Views.{Colours}
use Rattle.sw_secure_facts.specs.Executing.{Executing, MayJoin, StaysSecure, is_call, is_of_values}
use Rattle.sw_secure_facts.specs.Executing.{makes_cell}
use Rattle.sw_secure_facts.specs.Painting.{MayUnite, PaintsTask, Unites, joined_by, made_by}
use Rattle.sw_secure_facts.specs.Secure.{IsSecure}
use Rattle.sw_secure_facts.proofs.Bounds.{some_bound}
use Rattle.sw_secure_facts.proofs.Uniting.{may_unite_some}
use Rattle.sw_sound_facts.proofs.Acting.{executes_at, stuck_executes_not}

-- the state is secure with some colours
pub record SomeSecure (graph : Graph) (states : ℕ → List (Option Regions)) (state : State) : Type 0
  where
    pub colours : Colours
    pub secure : IsSecure graph states state colours

-- an effect that is executed keeps states secure, and there are colours that it leads to
abbrev Keeps : Graph → (ℕ → List (Option Regions)) → (Effect → Bool) → Type 0
Keeps graph states sort = (state : State) (colours : Colours) (q : Spot) (number : ℕ) (job : Job)
    (f : Frame) (function : Function) (point : Point) (e : Effect)
    → Executing graph states state colours q number job f function point e → sort e ≡ true
    → StaysSecure graph states state colours q number f point e

abbrev Joins : Graph → (ℕ → List (Option Regions)) → (Effect → Bool) → Type 0
Joins graph states sort = (state : State) (colours : Colours) (q : Spot) (number : ℕ) (job : Job)
    (f : Frame) (function : Function) (point : Point) (e : Effect)
    → Executing graph states state colours q number job f function point e → sort e ≡ true
    → MayJoin graph state colours q number f point e

module _ (graph : Graph) (states : ℕ → List (Option Regions))
    (values_stay : Keeps graph states is_of_values)
    (values_join : Joins graph states is_of_values) (makers_stay : Keeps graph states makes_cell)
    (makers_join : Joins graph states makes_cell) (calls_stay : Keeps graph states is_call)
    (calls_join : Joins graph states is_call)
    (tasks_stay : (state : State) (colours : Colours) (q : Spot) (number : ℕ) (job : Job)
    (f : Frame) (function : Function) (point : Point) (r : ℕ) (frame : Frame)
    (made cell next : ℕ) → Executing graph states state colours q number job f function point
    (effect.Spawn r frame made cell next)
    → StaysSecure graph states state colours q number f point
    (effect.Spawn r frame made cell next))
    (tasks_paint : (state : State) (colours : Colours) (q : Spot) (number : ℕ) (job : Job)
    (f : Frame) (function : Function) (point : Point) (r : ℕ) (frame : Frame)
    (made cell next : ℕ) → Executing graph states state colours q number job f function point
    (effect.Spawn r frame made cell next)
    → (after : Colours) × PaintsTask state colours q.job made number f frame
    (made_by graph colours q.job number point (effect.Spawn r frame made cell next)) after)
    (returns : (state : State) (colours : Colours) (q : Spot) (number : ℕ) (job : Job)
    (f : Frame) (function : Function) (point : Point) (v : Value)
    → Executing graph states state colours q number job f function point (effect.Leave v)
    → StaysSecure graph states state colours q number f point (effect.Leave v))
    (traps : (state : State) (colours : Colours) (q : Spot) (number : ℕ) (job : Job)
    (f : Frame) (function : Function) (point : Point) (kind : TrapKind) (at : ℕ)
    → Executing graph states state colours q number job f function point (effect.Halt kind at)
    → StaysSecure graph states state colours q number f point (effect.Halt kind at))
    (dispatches : (state : State) (colours : Colours) (j : ℕ)
    → IsSecure graph states state colours → act_of graph state j ≡ Some Dispatch
    → IsSecure graph states (step_of graph state j) colours)
    (wakes : (state : State) (colours : Colours) (j ended r : ℕ) (v : Value)
    → IsSecure graph states state colours → act_of graph state j ≡ Some (Wake ended r v)
    → IsSecure graph states (step_of graph state j) colours) where
  -- the colours that become one may
  settled : (state : State) (q : Spot) (joined : List Colour) → MayUnite q joined
      → (base : Colours) → ((after : Colours) → Unites q.job joined base after
      → IsSecure graph states (step_of graph state q.job) after)
      → SomeSecure graph states (step_of graph state q.job)
  settled state q joined may base stays =
      let after = may_unite_some q joined may base in
      record { colours = after.0; secure = stays after.0 after.1 }

  -- by the sort of the effect
  by_effect : (state : State) (colours : Colours) (q : Spot) (number : ℕ) (job : Job) (f : Frame)
      (function : Function) (point : Point) (e : Effect)
      → Executing graph states state colours q number job f function point e
      → act_of graph state q.job ≡ Some (Execute e)
      → SomeSecure graph states (step_of graph state q.job)
  by_effect state colours q number job f function point (effect.Set r v next) x acts =
      settled state q (joined_by graph state colours q number f point (effect.Set r v next))
      (values_join state colours q number job f function point (effect.Set r v next) x refl)
      (made_by graph colours q.job number point (effect.Set r v next))
      (values_stay state colours q number job f function point (effect.Set r v next) x refl)
  by_effect state colours q number job f function point (effect.SetField r i v next) x acts =
      settled state q (joined_by graph state colours q number f point (effect.SetField r i v next))
      (values_join state colours q number job f function point (effect.SetField r i v next) x refl)
      (made_by graph colours q.job number point (effect.SetField r i v next))
      (values_stay state colours q number job f function point (effect.SetField r i v next) x refl)
  by_effect state colours q number job f function point (effect.Print r line next) x acts =
      settled state q (joined_by graph state colours q number f point (effect.Print r line next))
      (values_join state colours q number job f function point (effect.Print r line next) x refl)
      (made_by graph colours q.job number point (effect.Print r line next))
      (values_stay state colours q number job f function point (effect.Print r line next) x refl)
  by_effect state colours q number job f function point (effect.Write c slot v next) x acts =
      settled state q (joined_by graph state colours q number f point (effect.Write c slot v next))
      (values_join state colours q number job f function point (effect.Write c slot v next) x refl)
      (made_by graph colours q.job number point (effect.Write c slot v next))
      (values_stay state colours q number job f function point (effect.Write c slot v next) x refl)
  by_effect state colours q number job f function point (effect.WriteGlobal g v next) x acts =
      settled state q (joined_by graph state colours q number f point (effect.WriteGlobal g v next))
      (values_join state colours q number job f function point (effect.WriteGlobal g v next) x refl)
      (made_by graph colours q.job number point (effect.WriteGlobal g v next))
      (values_stay state colours q number job f function point (effect.WriteGlobal g v next) x refl)
  by_effect state colours q number job f function point (effect.Goto next) x acts =
      settled state q (joined_by graph state colours q number f point (effect.Goto next))
      (values_join state colours q number job f function point (effect.Goto next) x refl)
      (made_by graph colours q.job number point (effect.Goto next))
      (values_stay state colours q number job f function point (effect.Goto next) x refl)
  by_effect state colours q number job f function point (effect.Wait on r next) x acts =
      settled state q (joined_by graph state colours q number f point (effect.Wait on r next))
      (values_join state colours q number job f function point (effect.Wait on r next) x refl)
      (made_by graph colours q.job number point (effect.Wait on r next))
      (values_stay state colours q number job f function point (effect.Wait on r next) x refl)
  by_effect state colours q number job f function point (effect.Rest r next) x acts =
      settled state q (joined_by graph state colours q number f point (effect.Rest r next))
      (values_join state colours q number job f function point (effect.Rest r next) x refl)
      (made_by graph colours q.job number point (effect.Rest r next))
      (values_stay state colours q number job f function point (effect.Rest r next) x refl)
  by_effect state colours q number job f function point (effect.New r cell c next) x acts =
      settled state q (joined_by graph state colours q number f point (effect.New r cell c next))
      (makers_join state colours q number job f function point (effect.New r cell c next) x refl)
      (made_by graph colours q.job number point (effect.New r cell c next))
      (makers_stay state colours q number job f function point (effect.New r cell c next) x refl)
  by_effect state colours q number job f function point (effect.Enter frame next) x acts =
      settled state q (joined_by graph state colours q number f point (effect.Enter frame next))
      (calls_join state colours q number job f function point (effect.Enter frame next) x refl)
      (made_by graph colours q.job number point (effect.Enter frame next))
      (calls_stay state colours q number job f function point (effect.Enter frame next) x refl)
  by_effect state colours q number job f function point (effect.Spawn r frame made cell next) x acts =
      let after = tasks_paint state colours q number job f function point r frame made cell next x in
      record {
        colours = after.0;
        secure = tasks_stay state colours q number job f function point r frame made cell next x
            after.0 after.1;
      }
  by_effect state colours q number job f function point (effect.Leave v) x acts =
      settled state q [] (inl refl) (made_by graph colours q.job number point (effect.Leave v))
      (returns state colours q number job f function point v x)
  by_effect state colours q number job f function point (effect.Halt kind at) x acts =
      settled state q [] (inl refl)
      (made_by graph colours q.job number point (effect.Halt kind at))
      (traps state colours q number job f function point kind at x)
  by_effect state colours q number job f function point effect.Stuck x acts =
      absurd (stuck_executes_not graph state q.job acts)

  pub secure_step : (state : State) (j : ℕ) → SomeSecure graph states state
      → SomeSecure graph states (step_of graph state j)
  secure_step state j s = by (act_of graph state j) refl where
    by : (o : Option Act) → act_of graph state j ≡ o
        → SomeSecure graph states (step_of graph state j)
    by None acts =
        subst (SomeSecure graph states)
        (sym (step_by_act graph state j ∙ ap (λ o. after_acts j o state) acts)) s
    by (Some Dispatch) acts = record {
      colours = s.colours;
      secure = dispatches state s.colours j s.secure acts;
    }
    by (Some (Wake ended r v)) acts = record {
      colours = s.colours;
      secure = wakes state s.colours j ended r v s.secure acts;
    }
    by (Some (Execute e)) acts =
        let at = executes_at graph state j e acts in
        let bound = some_bound s.colours in
        subst (λ k. SomeSecure graph states (step_of graph state k)) at.is_job
        (by_effect state s.colours at.q bound.0 at.job at.frame at.function at.point e
        (record {
          secure = s.secure;
          numbered = bound.1;
          stands = at.stands;
          gives = at.gives;
        })
        (ap (act_of graph state) at.is_job ∙ acts))
