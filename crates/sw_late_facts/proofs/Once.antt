-- A job takes something to one actor at a time.
use Rattle.std.proofs.Common.{◌≡◌, ◌≢◌, ◌⊎◌, ℕ, suc, arith, refl, sym, ap, ◌∙◌, inl, inr, subst}
use Rattle.std.proofs.Common.{Option, Some, None, List, [], ◌∷◌, ◌++◌, length}
use Rattle.std.proofs.Common.{slice_get}
use Rattle.std.specs.Prelude.{option_and_then}
use Rattle.std.specs.Option.{option_map_or}
use Rattle.std.specs.List.{All, AllPairs}
use Rattle.std.proofs.lemmas.List.{append-nil, append_assoc}
use Rattle.std.proofs.lemmas.List.Elements.{All-head, All-tail, All-push, All-weaker}
use Rattle.std.proofs.lemmas.List.Kept.{AllPairs-cons, AllPairs-filter}
use Rattle.std.proofs.lemmas.Option.{slice_get_within}
use Rattle.sw_graph.specs.declared.graph.Graph.{Graph}
use Rattle.sw_graph.specs.Points.{Point}
use Rattle.sw_value.specs.declared.frame.Frame.{Frame}
use Rattle.sw_value.specs.declared.state.State.{State}
use Rattle.sw_value.specs.declared.effect.Effect.{Effect}
use Rattle.sw_value.specs.declared.effect.Effect.TheVariants as effect
use Rattle.sw_value.specs.declared.effect.Act.{Act}
use Rattle.sw_value.specs.declared.effect.Act.TheVariants.{Dispatch, Wake, Execute}
use Rattle.sw_value.specs.Act.{act_of}
use Rattle.sw_value.specs.Frame.{point_at}
use Rattle.sw_value.specs.Job.{top_frame}
use Rattle.sw_color_rules.specs.declared.colors.Owner.TheVariants as owner
use Rattle.sw_color_rules.specs.declared.colors.Colors.{Colors}
use Rattle.sw_color_rules.specs.declared.plan.FrameChange.TheVariants.{Pushed}
use Rattle.sw_color_rules.specs.Plans.{begun_with, called_number, called_closure, passed, sending_of}
use Rattle.sw_color_rules.specs.Plans.{next_color, no_plan, effect_plan, plan_at, plan_of}
use Rattle.sw_late_facts.specs.Carriers.{AwaitsActor}
use Rattle.sw_late_facts.specs.Late.{Cargo, Late, is_left, carrier, cargo_by, destination, destination_at}
use Rattle.sw_late_facts.specs.Late.{destination_by, late_cargo, late_step, late_reach}
use Rattle.sw_late_facts.specs.Owners.{AreOfOtherJobs}
use Rattle.sw_late_facts.proofs.Carriers.{reach_awaits}
use Rattle.sw_late_facts.proofs.Fits.{Fits, fits_act}
use Rattle.sw_late_facts.proofs.Reached.{late_next}
use Rattle.sw_late_facts.proofs.Waiting.{ready_dispatches}

-- one more at the end
pairs_push : {X : Type 0} (R : X → X → Type 0) (xs : List X) (x : X) → AllPairs R xs
    → All (λ y. R y x) xs → AllPairs R (xs ++ x ∷ [])
pairs_push R [] x pairs all = λ i j d low within. absurd (omega (arith, low, within))
pairs_push R (y ∷ ys) x pairs all =
    AllPairs-cons R y (ys ++ x ∷ [])
    (All-push (R y) ys x (λ k d within. pairs 0 (suc k) d (omega arith) (omega (arith, within)))
    (All-head (λ z. R z x) y ys all))
    (pairs_push R ys x
    (λ i j d low within. pairs (suc i) (suc j) d (omega (arith, low)) (omega (arith, within)))
    (All-tail (λ z. R z x) y ys all))

-- ---- the job that begins to take something: the one that acts, or a new one
module _ (graph : Graph) (state : State) (colors : Colors) (j : ℕ) where
  abbrev IsTaker : Option ℕ → Type 0
  IsTaker heir = (heir ≡ None) ⊎ (heir ≡ Some (length state.jobs))

  entered_taker : (o : Option ℕ) (ns : List ℕ)
      → IsTaker (begun_with o (owner.Job j) Pushed (next_color colors) ns).heir
  entered_taker None ns = inl refl
  entered_taker (Some a) ns = inl refl

  effect_taker : (top : Frame) (point : Point) (f : Effect) → Fits graph state f → (a : ℕ)
      → destination_by colors top point f ≡ Some a
      → IsTaker (effect_plan graph colors j top point f).heir
  effect_taker top point (effect.Enter frame next) fits a to =
      entered_taker (called_number colors point frame)
      (called_closure colors point top ++ passed colors.cells (sending_of graph frame.function) frame.regs)
  effect_taker top point (effect.Spawn r frame made cell next) fits a to =
      inr (ap (λ n. Some n) fits.1)
  effect_taker top point _ fits a to = cc

  act_taker : (act : Act) → act_of graph state j ≡ Some act → (a : ℕ)
      → destination graph state colors j act ≡ Some a → IsTaker (plan_of graph state colors j act).heir
  act_taker Dispatch acts a to = cc
  act_taker (Wake ended r v) acts a to = cc
  act_taker (Execute f) acts a to =
      on_top (option_and_then top_frame (slice_get state.jobs j)) to where
        at_point : (top : Frame) (o : Option Point)
            → option_and_then (λ point. destination_by colors top point f) o ≡ Some a
            → IsTaker (option_map_or (λ point. effect_plan graph colors j top point f) o no_plan).heir
        at_point top None h = cc
        at_point top (Some point) h =
            effect_taker top point f (fits_act graph state j f acts) a h

        on_top : (o : Option Frame) → option_and_then (destination_at graph colors f) o ≡ Some a
            → IsTaker (option_map_or (plan_at graph colors j f) o no_plan).heir
        on_top None h = cc
        on_top (Some top) h = at_point top (point_at graph top) h

-- ---- each item
abbrev AreOnce : List Cargo → Type 0
AreOnce cargo = AllPairs AreOfOtherJobs cargo

module _ (graph : Graph) (late : Late) (j : ℕ) (act : Act) (acts : act_of graph late.state j ≡ Some act)
    (awaits : All (AwaitsActor late.state late.colors) late.cargo) where
  -- no other cargo is of the job that acts, or of one that is made
  other_jobs : (act ≡ Dispatch → ⊥) → (heir : Option ℕ) → IsTaker graph late.state late.colors j heir
      → (cargo : Cargo) → AwaitsActor late.state late.colors cargo → cargo.job ≢ carrier j heir
  other_jobs runs heir (inl none) cargo a e =
      runs (ready_dispatches graph late.state j a.job act
      (ap (slice_get late.state.jobs) (sym (e ∙ ap (carrier j) none)) ∙ a.there) a.ready acts)
  other_jobs runs heir (inr new) cargo a e =
      absurd (omega (
        arith,
        e ∙ ap (carrier j) new,
        slice_get_within late.state.jobs cargo.job a.job a.there,
      ))

  more_once : (act ≡ Dispatch → ⊥) → AreOnce late.cargo → (to : Option ℕ)
      → destination graph late.state late.colors j act ≡ to
      → AreOnce (late.cargo ++ cargo_by j (plan_of graph late.state late.colors j act) to)
  more_once runs once None to = subst AreOnce (sym (append-nil late.cargo)) once
  more_once runs once (Some a) to =
      let heir = (plan_of graph late.state late.colors j act).heir in
      pairs_push AreOfOtherJobs late.cargo _ once
      (All-weaker (AwaitsActor late.state late.colors) (λ cargo. cargo.job ≢ carrier j heir)
      (other_jobs runs heir (act_taker graph late.state late.colors j act acts a to)) late.cargo awaits)

act_once : (graph : Graph) (late : Late) (j : ℕ) (act : Act) → act_of graph late.state j ≡ Some act
    → All (AwaitsActor late.state late.colors) late.cargo → AreOnce late.cargo
    → AreOnce (late_cargo graph late j act)
act_once graph late j Dispatch acts awaits once =
    AllPairs-filter AreOfOtherJobs (is_left j) late.cargo once
act_once graph late j (Wake ended r v) acts awaits once =
    more_once graph late j (Wake ended r v) acts awaits (λ e. let x : ⊥ = cc in x) once
    (destination graph late.state late.colors j (Wake ended r v)) refl
act_once graph late j (Execute e) acts awaits once =
    more_once graph late j (Execute e) acts awaits (λ e. let x : ⊥ = cc in x) once
    (destination graph late.state late.colors j (Execute e)) refl

step_once : (graph : Graph) (late : Late) (j : ℕ)
    → All (AwaitsActor late.state late.colors) late.cargo → AreOnce late.cargo
    → AreOnce (late_step graph late j).cargo
unfolding late_step
step_once graph late j awaits once = by (act_of graph late.state j) refl where
  by : (o : Option Act) → act_of graph late.state j ≡ o
      → AreOnce (option_map_or (late_cargo graph late j) o late.cargo)
  by None acts = once
  by (Some act) acts = act_once graph late j act acts awaits once

-- ---- each state that items lead to
abbrev OnceAfter : Graph → List ℕ → Type 0
OnceAfter graph items = AreOnce (late_reach graph items).cargo

next_once : (graph : Graph) (items : List ℕ) (item : ℕ) → OnceAfter graph items
    → OnceAfter graph (items ++ item ∷ [])
next_once graph items item once =
    subst (λ (late : Late). AreOnce late.cargo) (sym (late_next graph items item))
    (step_once graph (late_reach graph items) item (reach_awaits graph items) once)

goes_on : (graph : Graph) (done items : List ℕ) → OnceAfter graph done
    → OnceAfter graph (done ++ items)
goes_on graph done [] once = subst (OnceAfter graph) (sym (append-nil done)) once
goes_on graph done (item ∷ items) once =
    subst (OnceAfter graph) (append_assoc done (item ∷ []) items)
    (goes_on graph (done ++ item ∷ []) items (next_once graph done item once))

pub reach_once : (graph : Graph) (items : List ℕ) → AllPairs AreOfOtherJobs (late_reach graph items).cargo
unfolding late_reach
reach_once graph items =
    goes_on graph [] items (λ i j d low within. absurd (omega (arith, low, within)))
