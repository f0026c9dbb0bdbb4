-- An effect that changes one frame, from the machine's step to soundness.
use Rattle.std.proofs.Common.{◌≡◌, ◌≢◌, ℕ, Option, Some, None, List, Contains, refl, sym, slice_get}
use Rattle.std.proofs.Common.{subst, ap, ◌∙◌, true}
use Rattle.sw_graph.specs.declared.function.Function.{Function}
use Rattle.sw_graph.specs.declared.graph.Graph.{Graph}
use Rattle.sw_value.specs.declared.effect.Effect.{Effect}
use Rattle.sw_value.specs.declared.frame.Frame.{Frame}
use Rattle.sw_value.specs.declared.job.Job.{Job}
use Rattle.sw_value.specs.declared.state.State.{State}
use Rattle.sw_partition.specs.Regions.{Regions}
use Rattle.sw_region_ops.specs.Elements.{elements_of}
use Rattle.sw_owner_facts.specs.Colours.{Colour, OfJob}
use Rattle.sw_owner_facts.specs.Owned.{IsSound}
use Rattle.sw_owner_facts.specs.View.{Element, IsUnheld, Register, Frame as Spot}
use Rattle.sw_owner_facts.specs.Within.{GivenAway, Weakened, BeginsClosing}
use Rattle.sw_owner_facts.proofs.FreshenedLemmas.{freshened}
use Rattle.sw_owner_facts.proofs.WithinLemmas.{comes, weakened}
use Rattle.sw_region_facts.specs.FrameRegions.{IsWeaker, LiveIn, TogetherIn}
use Rattle.sw_region_facts.specs.Moves as moves
use Rattle.sw_region_facts.specs.Moves.{IsSent, Sets}
use Rattle.sw_view_facts.specs.Changes.{Changes, HoldsIn, KeepsOthers, KeepsShape}
use Rattle.sw_view_facts.specs.Effects.{register_of, turn_of}
use Rattle.sw_view_facts.specs.Executing.{Executes}
use Rattle.sw_view_facts.specs.Steps.{ChangesFrame, TopAt}
use Rattle.sw_view_facts.specs.Views.{Colours, colours_by, elements_in, elements_with, here_at}
use Rattle.sw_view_facts.specs.Views.{view_of, shape_by}
use Rattle.sw_view_facts.proofs.ChangeLemmas.{freshens, gives_away, sets_come, weakens, closes_now}
use Rattle.sw_view_facts.proofs.EffectLemmas.{annotated_kept, inside_changes, others_kept}
use Rattle.sw_view_facts.proofs.TopLemmas.{untouched}

-- ---- the same state, with the top frame of a job in another region state
module _ (graph : Graph) (regions later : Spot → Option Regions) (state : State) (colours : Colours)
    (q : Spot) (job : Job) (f : Frame) (top : TopAt state q job f) (function : Function)
    (is : slice_get graph.functions f.function ≡ Some function) (a c : Regions)
    (before : regions q ≡ Some a) (behind : later q ≡ Some c)
    (elsewhere : (p : Spot) → p ≢ q → later p ≡ regions p) where
  rests : Changes graph regions later state state colours colours q f f
  rests = record {
    frames = untouched state q job f top;
    heres = λ p. refl;
    regions_stay = elsewhere;
    reached = λ p h s w there has. refl;
  }

  same_elements : elements_in graph (Some f) ≡ elements_of graph.shapes function.regs
  same_elements = ap (elements_with graph) is

  pub regions_weaken : IsWeaker (elements_of graph.shapes function.regs) a c
      → Weakened (view_of graph regions state colours) (view_of graph later state colours)
  regions_weaken weaker =
      weakens graph regions later state state colours colours q f f rests (λ under. refl) a c before
      behind (subst (λ e. IsWeaker e a c) (sym same_elements) weaker) (λ s. refl)

  -- elements that are sent are given away
  pub regions_give : IsWeaker (elements_of graph.shapes function.regs) a c → (x : Element)
      → IsSent (elements_of graph.shapes function.regs) a c x
      → GivenAway (view_of graph regions state colours) (view_of graph later state colours) q x
  regions_give weaker x sent =
      gives_away graph regions later state state colours colours q f f rests (λ under. refl) a c
      before behind x (regions_weaken weaker)
      (subst (λ e. IsSent e a c x) (sym same_elements) sent)

-- ---- an effect
module _ (graph : Graph) (states : ℕ → List (Option Regions)) (state next : State) (q : Spot)
    (f : Frame) (function : Function) (e : Effect) (regions later : Spot → Option Regions)
    (colours after : Colours) (a c : Regions)
    (x : Executes graph states state next q f function e regions later colours after a c) where
  abbrev elements : List (Option ℕ)
  elements = elements_of graph.shapes function.regs

  frames : ChangesFrame state next q f (turn_of e f)
  frames = subst (λ s. ChangesFrame state s q f (turn_of e f)) (sym x.steps)
      (inside_changes state q x.job f x.top e x.inside)

  pub effect_changes : Changes graph regions later state next colours after q f (turn_of e f)
  effect_changes = record {
    frames = frames;
    heres = x.heres;
    regions_stay = λ p differ. x.others p differ
        ∙ annotated_kept states state next q f (turn_of e f) frames p differ
        ∙ sym (x.elsewhere p differ);
    reached = x.reach;
  }

  -- the frame has only its return left
  pub effect_closes : ((under : Option Function) → shape_by graph under (Some (turn_of e f))
      ≡ record (shape_by graph under (Some f)) { closing = true })
      → BeginsClosing (view_of graph regions state colours) (view_of graph later next after) q
  effect_closes =
      closes_now graph regions later state next colours after q f (turn_of e f) effect_changes

  elements_same : elements_in graph (Some f) ≡ elements
  elements_same = ap (elements_with graph) x.is

  keeps_others : (r : ℕ) → register_of e ≡ Some r → KeepsOthers r f (turn_of e f)
  keeps_others r sets s differ = others_kept e f s (λ other. differ
      (let same : Some r ≡ Some s = sym sets ∙ other in let i : s ≡ r = cc in i))

  -- no register gets a value
  pub effect_goes_on : KeepsShape graph f (turn_of e f) → register_of e ≡ None → IsWeaker elements a c
      → IsSound (view_of graph regions state colours) → IsSound (view_of graph later next after)
  effect_goes_on shape none weaker sound =
      weakened (view_of graph regions state colours) (view_of graph later next after) sound
      (weakens graph regions later state next colours after q f (turn_of e f) effect_changes shape
      a c x.before x.behind (subst (λ es. IsWeaker es a c) (sym elements_same) weaker)
      (λ s. others_kept e f s (λ sets. let clash : None ≡ Some s = sym none ∙ sets in
      let wrong : ⊥ = cc in wrong)))

  -- register r gets what some elements hold
  pub effect_sets : KeepsShape graph f (turn_of e f) → (r : ℕ) (sources : List Element)
      → register_of e ≡ Some r → Sets elements r sources a c
      → ((colour : Colour) → Contains (colours_by next after (Some (turn_of e f)) r) colour
      → (y : Element) × Contains sources y × HoldsIn state colours f (here_at colours q) y colour)
      → IsSound (view_of graph regions state colours) → IsSound (view_of graph later next after)
  effect_sets shape r sources sets_r sets brings sound =
      comes (view_of graph regions state colours) (view_of graph later next after) q
      (moves.comes r sources) sound
      (sets_come graph regions later state next colours after q f (turn_of e f) effect_changes
      shape a c x.before x.behind r sources
      (subst (λ es. Sets es r sources a c) (sym elements_same) sets) (keeps_others r sets_r) brings)

  -- register r gets a colour that nothing live holds
  pub effect_freshens : KeepsShape graph f (turn_of e f) → (r number : ℕ)
      → register_of e ≡ Some r
      → ((i d : Element) → i ≢ Register r → d ≢ Register r → TogetherIn elements a i d
      → TogetherIn elements c i d)
      → ((i : Element) → i ≢ Register r → LiveIn elements c i → LiveIn elements a i)
      → IsUnheld (view_of graph regions state colours) (OfJob q.job number)
      → ((colour : Colour) → Contains (colours_by next after (Some (turn_of e f)) r) colour
      → colour ≡ OfJob q.job number)
      → IsSound (view_of graph regions state colours) → IsSound (view_of graph later next after)
  effect_freshens shape r number sets joins lives unheld shows sound =
      freshened (view_of graph regions state colours) (view_of graph later next after) q r number
      sound
      (freshens graph regions later state next colours after q f (turn_of e f) effect_changes
      shape a c x.before x.behind r number
      (subst (λ es. (i d : Element) → i ≢ Register r → d ≢ Register r → TogetherIn es a i d
      → TogetherIn es c i d) (sym elements_same) joins)
      (subst (λ es. (i : Element) → i ≢ Register r → LiveIn es c i → LiveIn es a i)
      (sym elements_same) lives)
      (keeps_others r sets) unheld shows)
