-- A job that goes on with the result of another, from the machine's step to soundness.
use Rattle.std.specs.Prelude.{IsTrue}
use Rattle.std.specs.Option.{option_and_then, option_map_or}
use Rattle.std.specs.List.{slice_get}
use Rattle.std.proofs.Common.{◌≡◌, ◌≢◌, ℕ, Option, Some, None, List, [], Contains, refl, sym, subst}
use Rattle.std.proofs.Common.{ap, ◌∙◌}
use Rattle.sw_list.proofs.Members.{none_in}
use Rattle.sw_graph.specs.declared.function.Function.{Function}
use Rattle.sw_graph.specs.declared.graph.Graph.{Graph}
use Rattle.sw_graph.specs.Bodies.{has_self}
use Rattle.sw_value.specs.declared.frame.Frame.{Frame}
use Rattle.sw_value.specs.declared.job.Job.{Job}
use Rattle.sw_value.specs.declared.state.State.{State}
use Rattle.sw_value.specs.declared.value.Value.{Value}
use Rattle.sw_value.specs.Frame.{set_register}
use Rattle.sw_value.specs.Job.{wake}
use Rattle.sw_value.specs.State.{in_job}
use Rattle.sw_value.specs.Value.{value_at}
use Rattle.sw_value.specs.declared.effect.Act.TheVariants.{Wake}
use Rattle.sw_value.specs.Act.{act_of}
use Rattle.sw_value.specs.Reach.{step_of}
use Rattle.sw_value.proofs.ReachLemmas.{after_acts, step_by_act}
use Rattle.sw_partition.specs.Regions.{Regions}
use Rattle.sw_machine_kind_facts.proofs.ItemLemmas.{set_other}
use Rattle.sw_owner_facts.specs.Colours.{Colour}
use Rattle.sw_owner_facts.specs.Owned.{IsSound}
use Rattle.sw_owner_facts.specs.View.{Frame as Spot}
use Rattle.sw_owner_facts.proofs.WithinLemmas.{comes}
use Rattle.sw_region_facts.specs.Moves as moves
use Rattle.sw_region_facts.proofs.Comes.{sets_weaker}
use Rattle.sw_reach_facts.specs.Reached.{colours_of}
use Rattle.sw_view_facts.specs.Changes.{Changes, KeepsOthers, KeepsShape}
use Rattle.sw_view_facts.specs.Steps.{ChangesFrame, SameCall, TopAt}
use Rattle.sw_view_facts.specs.Views.{Colours, annotated, elements_in, view_of, state_with}
use Rattle.sw_view_facts.proofs.ChangeLemmas.{sets_come}
use Rattle.sw_view_facts.proofs.EffectLemmas.{annotated_kept}
use Rattle.sw_view_facts.proofs.LeaveLemmas.{set_has}
use Rattle.sw_view_facts.proofs.ShapeLemmas.{isolation_kept, shape_kept}
use Rattle.sw_view_facts.proofs.TopLemmas.{frame_was, turned, turns_wake}

-- The result reaches no colour.
pub wake_keeps : (graph : Graph) (states : ℕ → List (Option Regions)) (state next : State) (q : Spot)
    (job : Job) (f : Frame) (function : Function) (r : ℕ) (v : Value) (colours : Colours)
    (a : Regions) → TopAt state q job f → slice_get graph.functions f.function ≡ Some function
    → next ≡ in_job (wake r v) q.job state → (IsTrue (has_self function) → r ≢ 0)
    → annotated states state q ≡ Some a
    → ((colour : Colour) → Contains (colours_of state.cells colours.cells v) colour → ⊥)
    → IsSound (view_of graph (annotated states state) state colours)
    → IsSound (view_of graph (annotated states next) next colours)
unfolding set_register in_job
wake_keeps graph states state next q job f function r v colours a top is steps self before bare
    sound =
    subst (λ s. IsSound (view_of graph (annotated states s) s colours)) (sym steps)
    (comes (view_of graph (annotated states state) state colours)
    (view_of graph (annotated states later) later colours) q (moves.comes r []) sound
    (sets_come graph (annotated states state) (annotated states later) state later colours colours
    q f g changes shape a a before behind r []
    (sets_weaker (elements_in graph (Some f)) r a a
    (record { together = λ x y same. same; live = λ x live. live })) others
    (λ colour has. absurd (shows colour (value_at g.regs r) refl has))))
  where
    later : State
    later = in_job (wake r v) q.job state

    g : Frame
    g = set_register r v f

    call : SameCall f g
    call = record { function = refl; executor = refl; crossing = refl; result = refl }

    frames : ChangesFrame state later q f g
    frames = turned (set_register r v) (wake r v) (turns_wake r v) state state refl q job f top call

    changes : Changes graph (annotated states state) (annotated states later) state later colours
        colours q f g
    changes = record {
      frames = frames;
      heres = λ p. refl;
      regions_stay = λ p differ. annotated_kept states state later q f g frames p differ;
      reached = λ p h s w there has. refl;
    }

    others : KeepsOthers r f g
    others s differ = ap (option_and_then (λ (o : Option Value). o))
        (set_other f.regs r s (Some v) differ)

    shape : KeepsShape graph f g
    shape = shape_kept graph function f g call is
        (isolation_kept function f.regs g.regs (λ has. others 0 (λ e. self has (sym e)))) refl

    behind : annotated states later q ≡ Some a
    behind = ap (state_with states) frames.now
        ∙ sym (ap (state_with states) (frame_was state q job f top)) ∙ before

    shows : (colour : Colour) (o : Option Value) → value_at g.regs r ≡ o
        → Contains (option_map_or (colours_of state.cells colours.cells) o []) colour → ⊥
    shows colour None e has = none_in colour has
    shows colour (Some w) e has = bare colour
        (subst (λ u. Contains (colours_of state.cells colours.cells u) colour)
        (set_has f.regs r v w e) has)

-- what a wake asks
pub wake_is : (graph : Graph) (state : State) (j ended r : ℕ) (v : Value)
    → act_of graph state j ≡ Some (Wake ended r v)
    → step_of graph state j ≡ in_job (wake r v) j state
wake_is graph state j ended r v acts =
    step_by_act graph state j ∙ ap (λ o. after_acts j o state) acts
