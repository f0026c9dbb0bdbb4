-- In each state that items lead to, what jobs take to actors waits with them.
use Rattle.std.proofs.Common.{◌≡◌, ◌≢◌, ◌⊎◌, ℕ, refl, ap, sym, ◌∙◌, inl, inr, subst}
use Rattle.std.proofs.Common.{Bool, true, false, eqb, Option, Some, None, List, [], ◌∷◌, ◌++◌, get_or, slice_get}
use Rattle.std.specs.Prelude.{filter, not}
use Rattle.std.specs.Option.{option_map_or}
use Rattle.std.specs.List.{All}
use Rattle.std.proofs.lemmas.Bool.Decides.{eqb_tells}
use Rattle.std.proofs.lemmas.List.{append-nil, append_assoc}
use Rattle.std.proofs.lemmas.List.Elements.{All-nil, All-weaker, All-push, All-filter, filter_passes}
use Rattle.sw_graph.specs.declared.graph.Graph.{Graph}
use Rattle.sw_value.specs.declared.effect.Act.{Act}
use Rattle.sw_value.specs.declared.effect.Act.TheVariants.{Dispatch, Wake, Execute}
use Rattle.sw_value.specs.declared.state.State.{State}
use Rattle.sw_value.specs.Act.{act_of}
use Rattle.sw_value.specs.Reach.{after_act}
use Rattle.sw_value.proofs.ReachLemmas.{step_by_act, after_acts}
use Rattle.sw_color_rules.specs.declared.colored.Colored.{Colored}
use Rattle.sw_color_rules.specs.declared.colors.Colors.{Colors}
use Rattle.sw_color_rules.specs.Changes.{after_changes}
use Rattle.sw_color_rules.specs.Plans.{plan_of, next_color}
use Rattle.sw_color_rules.specs.Machine.{colored_reach}
use Rattle.sw_color_rules.proofs.NumberLemmas.{AreNoted}
use Rattle.sw_color_rules.proofs.PlanRanges.{reach_made}
use Rattle.sw_late_facts.specs.Late.{Cargo, Late, is_left, cargo_by, late_changes, late_cargo}
use Rattle.sw_late_facts.specs.Late.{late_step, late_start, late_reach, destination, later_of}
use Rattle.sw_late_facts.specs.Carriers.{AwaitsActor, GoesToActor}
use Rattle.sw_late_facts.proofs.Showing.{sight}
use Rattle.sw_late_facts.proofs.Links.{IsSent}
use Rattle.sw_late_facts.proofs.Follows.{Follows}
use Rattle.sw_late_facts.proofs.Steps.{noted_late}
use Rattle.sw_late_facts.proofs.Reached.{late_next, reach_follows}
use Rattle.sw_late_facts.proofs.Waiting.{number_stays, others_stay, ready_dispatches}
use Rattle.sw_late_facts.proofs.Boarding.{boards}

abbrev AllAwait : State → Colors → List Cargo → Type 0
AllAwait state colors cargo = All (AwaitsActor state colors) cargo

module _ (graph : Graph) (early : Colored) (late : Late) (f : Follows graph early late)
    (noted : AreNoted (next_color late.colors) late.colors.cells) (j : ℕ) (act : Act)
    (acts : act_of graph late.state j ≡ Some act) where
  abbrev later : Colors
  later = after_changes (late_changes graph late j act) late.colors

  -- what another job takes
  kept : (cargo : Cargo) → AwaitsActor late.state late.colors cargo → cargo.job ≢ j
      → AwaitsActor (after_act j act late.state) later cargo
  kept cargo a apart = record {
    job = a.job;
    there = others_stay j cargo.job act late.state a.job apart a.there;
    ready = a.ready;
    frame = a.frame;
    top = a.top;
    actor = number_stays (late_changes graph late j act) late.colors f.late_whole a.frame.executor
        cargo.actor a.actor;
  }

  not_own : (cargo : Cargo) → is_left j cargo ≡ true → cargo.job ≢ j
  not_own cargo left e = by (eqb cargo.job j) (eqb_tells cargo.job j) left where
    by : (b : Bool) → ((b ≡ true) × (cargo.job ≡ j)) ⊎ ((b ≡ false) × (cargo.job ≢ j))
        → not b ≡ true → ⊥
    by true (inl h) l = cc
    by true (inr h) l = cc
    by false (inl h) l = cc
    by false (inr h) l = h.1 e

  left_await : AllAwait late.state late.colors late.cargo
      → AllAwait (after_act j act late.state) later (filter (is_left j) late.cargo)
  left_await all k d within =
      kept (get_or (filter (is_left j) late.cargo) k d)
      (All-filter (is_left j) (AwaitsActor late.state late.colors) late.cargo all k d within)
      (not_own (get_or (filter (is_left j) late.cargo) k d)
      (filter_passes (is_left j) late.cargo k d within))

  -- the job takes nothing yet, unless it is dispatched
  old_await : (act ≡ Dispatch → ⊥) → AllAwait late.state late.colors late.cargo
      → AllAwait (after_act j act late.state) later late.cargo
  old_await other all k d within =
      let a = all k d within in
      kept (get_or late.cargo k d) a (λ e. other (ready_dispatches graph late.state j a.job act
      (ap (slice_get late.state.jobs) (sym e) ∙ a.there) a.ready acts))

  more_await : (act ≡ Dispatch → ⊥) → AllAwait late.state late.colors late.cargo
      → (to : Option ℕ) → destination graph late.state late.colors j act ≡ to
      → AllAwait (after_act j act late.state) later
      (late.cargo ++ cargo_by j (plan_of graph late.state late.colors j act) to)
  more_await other all None to =
      subst (AllAwait (after_act j act late.state) later) (sym (append-nil late.cargo))
      (old_await other all)
  more_await other all (Some a) to =
      All-push (AwaitsActor (after_act j act late.state) later) late.cargo _ (old_await other all)
      (boards graph late.state late.colors f.have noted f.late_whole (late_changes graph late j act) j act
      acts a to (later_of (plan_of graph late.state late.colors j act).joined))

act_awaits : (graph : Graph) (early : Colored) (late : Late) → Follows graph early late
    → AreNoted (next_color late.colors) late.colors.cells → (j : ℕ) (act : Act)
    → act_of graph late.state j ≡ Some act → AllAwait late.state late.colors late.cargo
    → AllAwait (after_act j act late.state)
    (after_changes (late_changes graph late j act) late.colors) (late_cargo graph late j act)
act_awaits graph early late f noted j Dispatch acts all =
    left_await graph early late f noted j Dispatch acts all
act_awaits graph early late f noted j (Wake ended r v) acts all =
    more_await graph early late f noted j (Wake ended r v) acts (λ e. let x : ⊥ = cc in x) all
    (destination graph late.state late.colors j (Wake ended r v)) refl
act_awaits graph early late f noted j (Execute e) acts all =
    more_await graph early late f noted j (Execute e) acts (λ e. let x : ⊥ = cc in x) all
    (destination graph late.state late.colors j (Execute e)) refl

step_awaits : (graph : Graph) (early : Colored) (late : Late) → Follows graph early late
    → AreNoted (next_color late.colors) late.colors.cells → (j : ℕ)
    → AllAwait late.state late.colors late.cargo
    → AllAwait (late_step graph late j).state (late_step graph late j).colors (late_step graph late j).cargo
unfolding late_step
step_awaits graph early late f noted j all =
    subst (λ s. AllAwait s (after_changes
    (option_map_or (late_changes graph late j) (act_of graph late.state j) []) late.colors)
    (option_map_or (late_cargo graph late j) (act_of graph late.state j) late.cargo))
    (sym (step_by_act graph late.state j)) (by (act_of graph late.state j) refl)
  where
    by : (o : Option Act) → act_of graph late.state j ≡ o
        → AllAwait (after_acts j o late.state)
        (after_changes (option_map_or (late_changes graph late j) o []) late.colors)
        (option_map_or (late_cargo graph late j) o late.cargo)
    by None acts = all
    by (Some act) acts = act_awaits graph early late f noted j act acts all

-- ---- each state that items lead to
abbrev AwaitAfter : Graph → List ℕ → Type 0
AwaitAfter graph items =
    AllAwait (late_reach graph items).state (late_reach graph items).colors (late_reach graph items).cargo

next_awaits : (graph : Graph) (items : List ℕ) (item : ℕ) → AwaitAfter graph items
    → AwaitAfter graph (items ++ item ∷ [])
next_awaits graph items item all =
    subst (λ late. AllAwait late.state late.colors late.cargo) (sym (late_next graph items item))
    (step_awaits graph (colored_reach graph items) (late_reach graph items) (reach_follows graph items)
    (noted_late graph (colored_reach graph items) (late_reach graph items) (reach_follows graph items)
    (reach_made graph items) item) item all)

goes_on : (graph : Graph) (done items : List ℕ) → AwaitAfter graph done
    → AwaitAfter graph (done ++ items)
goes_on graph done [] all = subst (AwaitAfter graph) (sym (append-nil done)) all
goes_on graph done (item ∷ items) all =
    subst (AwaitAfter graph) (append_assoc done (item ∷ []) items)
    (goes_on graph (done ++ item ∷ []) items (next_awaits graph done item all))

pub reach_awaits : (graph : Graph) (items : List ℕ) → AwaitAfter graph items
unfolding late_reach
reach_awaits graph items =
    goes_on graph [] items (All-nil (AwaitsActor (late_start graph).state (late_start graph).colors))

-- and goes to colours of actors
pub reach_goes : (graph : Graph) (items : List ℕ)
    → All (GoesToActor (late_reach graph items).colors) (late_reach graph items).cargo
reach_goes graph items =
    All-weaker (IsSent (sight (late_reach graph items).colors.palette))
    (GoesToActor (late_reach graph items).colors)
    (λ cargo sent. record {
      made = sent.actor.inside;
      actors = sent.actor.none;
      colors_made = sent.inside;
    }) (late_reach graph items).cargo (reach_follows graph items).sent
