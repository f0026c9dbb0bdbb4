-- Of each graph that is clean, supplied and without region breaches: each state that items lead to
-- knows its past, and conflicting accesses are ordered.
use Rattle.std.proofs.Common.{◌≡◌, ◌⊎◌, inl, inr, ℕ, Option, Some, List, refl}
use Rattle.std.proofs.lemmas.Option.{slice_get_within}
use Rattle.sw_graph.specs.declared.graph.Graph.{Graph}
use Rattle.sw_graph.specs.Clean.{IsClean}
use Rattle.sw_graph.specs.Supplied.{IsSupplied}
use Rattle.sw_value.specs.declared.effect.Act.{Act}
use Rattle.sw_value.specs.declared.effect.Act.TheVariants.{Dispatch, Wake, Execute}
use Rattle.sw_value.specs.declared.state.State.{State}
use Rattle.sw_value.specs.Act.{act_of}
use Rattle.sw_value.specs.Reach.{reach}
use Rattle.sw_value.specs.Transition.{followed_by}
use Rattle.sw_partition.specs.Regions.{Regions}
use Rattle.sw_region_flow.specs.Passing.{IsPassed}
use Rattle.sw_view_facts.specs.Views.{Colours}
use Rattle.sw_before.specs.Events.{events_of}
use Rattle.sw_before.specs.Unordered.{AreOrdered}
use Rattle.sw_secure_facts.specs.Secure.{IsSecure}
use Rattle.sw_secure_job_facts.specs.Begins.{AreAnnotated}
use Rattle.sw_sound_facts.proofs.Chosen.{each_annotated, states_of}
use Rattle.sw_machine_name_facts.specs.Given.{ActGives, Source}
use Rattle.sw_machine_name_facts.specs.Names.{ResultNames}
use Rattle.sw_machine_name_facts.proofs.Acts.{acts}
use Rattle.sw_machine_name_facts.proofs.Alone.{given_alone}
use Rattle.sw_machine_name_facts.proofs.Going.{executors_stand, jobs_name, results_name}
use Rattle.sw_machine_name_facts.proofs.Jobs as jobs
use Rattle.sw_machine_name_facts.proofs.Numbers.{cells_stay, made_within}
use Rattle.sw_machine_name_facts.proofs.Places.{fixed_name, places_name}
use Rattle.sw_machine_name_facts.proofs.Sources.{effect_sources}
use Rattle.sw_machine_name_facts.proofs.Waking.{wake_result}
use Rattle.sw_order_facts.specs.Informed.{IsInformed}
use Rattle.sw_order_facts.proofs.Running.{jobs_stay, made_there}
use Rattle.sw_order_facts.proofs.Stepping.{Steps}
use Rattle.sw_order_facts.proofs.Theorem.{Knows, all_know}

-- where the names come from that an act gives
sources : (graph : Graph) (state : State) (j : ℕ) (act : Act) → act_of graph state j ≡ Some act
    → (k : ℕ) → ActGives act k → Source graph state j k
    ⊎ ((ended : ℕ) × (followed_by act ≡ Some ended) × ResultNames state ended k)
sources graph state j Dispatch is k gives = absurd gives
sources graph state j (Wake ended r v) is k gives = inr (
  ended,
  refl,
  record { value = v; ended = wake_result graph state j ended r v is; names = gives },
)
sources graph state j (Execute e) is k gives = inl (effect_sources graph state j e is k gives)

module _ (graph : Graph) (clean : IsClean graph) (supplied : IsSupplied graph) where
  steps : (items : List ℕ) (j : ℕ) (act : Act) → act_of graph (reach graph items) j ≡ Some act
      → Steps graph (reach graph items) j act
  steps items j act is =
      let a = acts graph (reach graph items) j act is in
      record {
        acts = is;
        there = slice_get_within (reach graph items).jobs j a.job a.there;
        sources = sources graph (reach graph items) j act is;
        jobs = jobs_name graph (reach graph items) j act is;
        results = results_name graph (reach graph items) j act is;
        executors = executors_stand graph (reach graph items) j act is;
        places = places_name graph clean.placed supplied items j act is;
        fixed = fixed_name graph clean.placed supplied items j act is;
        cell = made_within graph (reach graph items) j act is;
        job = made_there graph (reach graph items) j act is;
        cells_stay = cells_stay graph (reach graph items) j;
        jobs_stay = jobs_stay graph (reach graph items) j act is;
        jobs_come = jobs.jobs_stay graph (reach graph items) j act is;
        alone = given_alone graph clean.placed items j;
      }

  module _ (states : ℕ → List (Option Regions)) (annotated : AreAnnotated graph states)
      (items : List ℕ) where
    known : Knows graph clean supplied states annotated steps (reach graph items)
        (events_of graph items)
    known = all_know graph clean supplied states annotated steps items

    pub states_know : (colours : Colours) × IsSecure graph states (reach graph items) colours
        × IsInformed graph (reach graph items) colours (events_of graph items)
    states_know = (known.colours, known.secure, known.informed)

    pub states_ordered : AreOrdered (events_of graph items)
    states_ordered = known.ordered

pub passed_ordered : (graph : Graph) → IsClean graph → IsSupplied graph → IsPassed graph
    → (items : List ℕ) → AreOrdered (events_of graph items)
passed_ordered graph clean supplied passed =
    states_ordered graph clean supplied (states_of graph passed) (each_annotated graph passed)
