-- Each state that items lead to is secure and informed, and the events so far are ordered.
use Rattle.std.proofs.Common.{◌≡◌, inl, ℕ, Option, Some, None, List, [], ◌∷◌, ◌++◌, length}
use Rattle.std.proofs.Common.{map, refl, sym, subst, ap, ◌∙◌, arith, append-nil, append_assoc}
use Rattle.std.proofs.Common.{option_to_list}
use Rattle.std.specs.Option.{option_map}
use Rattle.sw_graph.specs.declared.graph.Graph.{Graph}
use Rattle.sw_graph.specs.Clean.{IsClean}
use Rattle.sw_graph.specs.Supplied.{IsSupplied}
use Rattle.sw_value.specs.declared.effect.Act.{Act}
use Rattle.sw_value.specs.declared.race.Place.TheVariants.{Prop}
use Rattle.sw_value.specs.declared.state.State.{State}
use Rattle.sw_value.specs.Act.{act_of}
use Rattle.sw_value.specs.Reach.{reach, step_of}
use Rattle.sw_value.specs.Start.{start_frames, start_of}
use Rattle.sw_value.specs.Transition.{Transition, transition_by, transition_of}
use Rattle.sw_value.proofs.ReachLemmas.{after_acts, reach_none, reach_push, step_by_act}
use Rattle.sw_partition.specs.Regions.{Regions}
use Rattle.sw_view_facts.specs.Views.{Colours}
use Rattle.sw_before.specs.Events.{events_of}
use Rattle.sw_before.specs.Unordered.{AreOrdered}
use Rattle.sw_before.proofs.EventLemmas.{events_push}
use Rattle.sw_secure_facts.specs.Secure.{IsSecure}
use Rattle.sw_secure_job_facts.specs.Begins.{AreAnnotated}
use Rattle.sw_secure_job_facts.proofs.Starts.{starts_secure}
use Rattle.sw_sound_facts.proofs.Theorem.{begins, here_of}
use Rattle.sw_order_facts.specs.Informed.{IsInformed}
use Rattle.sw_order_facts.proofs.Keeping.{still_informed}
use Rattle.sw_order_facts.proofs.Ordering.{ordered_more}
use Rattle.sw_order_facts.proofs.Starting.{starts_informed}
use Rattle.sw_order_facts.proofs.Stepping.{Steps}
use Rattle.sw_order_facts.proofs.Taken.{Taken, taken}

module _ (graph : Graph) (clean : IsClean graph) (supplied : IsSupplied graph)
    (states : ℕ → List (Option Regions)) (annotated : AreAnnotated graph states)
    (steps : (items : List ℕ) (j : ℕ) (act : Act) → act_of graph (reach graph items) j ≡ Some act
    → Steps graph (reach graph items) j act) where
  -- the state is secure with some colours, and informed of the events
  pub record Knows (state : State) (events : List Transition) : Type 0 where
    pub colours : Colours
    pub secure : IsSecure graph states state colours
    pub informed : IsInformed graph state colours events
    pub ordered : AreOrdered events

  begun : Knows (start_of graph) []
  begun = record {
    colours = record { cells = []; heres = map here_of (start_frames graph) ∷ [] };
    secure = starts_secure graph clean supplied states annotated (map here_of (start_frames graph))
        (begins (start_frames graph));
    informed = starts_informed graph supplied
        (record { cells = []; heres = map here_of (start_frames graph) ∷ [] }) refl;
    ordered = λ p q a b u. absurd (let is = u.second.is_event in let z : ⊥ = cc in z);
  }

  abbrev After : List ℕ → Type 0
  After items = Knows (reach graph items) (events_of graph items)

  acted : (items : List ℕ) (j : ℕ) (act : Act) → act_of graph (reach graph items) j ≡ Some act
      → After items
      → Knows (step_of graph (reach graph items) j)
      (events_of graph items ++ transition_by graph (reach graph items) j act ∷ [])
  acted items j act acts k =
      let state = reach graph items in
      let events = events_of graph items in
      let s = steps items j act acts in
      let next : Taken graph states state k.colours j act =
      taken graph states state k.colours k.secure
      (λ c n is. let low = k.informed.owners (Prop c 0) (length state.jobs) n
      (inl (record { number = c; inside = refl; is = is })) in omega (arith, low)) j act acts
      (λ c made. (s.cell c made).0) in
      record {
        colours = next.after;
        secure = next.secure;
        informed = still_informed graph states state k.colours next.after k.secure events k.informed j
            act s next.takes;
        ordered = ordered_more graph states state k.colours k.secure events k.informed j act k.ordered;
      }

  -- one item more
  next_knows : (items : List ℕ) (item : ℕ) → After items → After (items ++ item ∷ [])
  unfolding transition_of
  next_knows items item k =
      subst (λ (s : State). Knows s (events_of graph (items ++ item ∷ [])))
      (sym (reach_push graph items item))
      (subst (Knows (step_of graph (reach graph items) item)) (sym (events_push graph items item))
      (by (act_of graph (reach graph items) item) refl))
    where
      by : (o : Option Act) → act_of graph (reach graph items) item ≡ o
          → Knows (step_of graph (reach graph items) item) (events_of graph items
          ++ option_to_list (option_map (transition_by graph (reach graph items) item)
          (act_of graph (reach graph items) item)))
      by None acts =
          subst (λ o. Knows (step_of graph (reach graph items) item) (events_of graph items
          ++ option_to_list (option_map (transition_by graph (reach graph items) item) o)))
          (sym acts)
          (subst (Knows (step_of graph (reach graph items) item))
          (sym (append-nil (events_of graph items)))
          (subst (λ (s : State). Knows s (events_of graph items))
          (sym (step_by_act graph (reach graph items) item
          ∙ ap (λ o. after_acts item o (reach graph items)) acts)) k))
      by (Some act) acts =
          subst (λ o. Knows (step_of graph (reach graph items) item) (events_of graph items
          ++ option_to_list (option_map (transition_by graph (reach graph items) item) o)))
          (sym acts) (acted items item act acts k)

  goes_on : (done items : List ℕ) → After done → After (done ++ items)
  goes_on done [] k = subst After (sym (append-nil done)) k
  goes_on done (item ∷ items) k =
      subst After (append_assoc done (item ∷ []) items)
      (goes_on (done ++ item ∷ []) items (next_knows done item k))

  pub all_know : (items : List ℕ) → Knows (reach graph items) (events_of graph items)
  unfolding events_of
  all_know items = goes_on [] items
      (subst (λ (s : State). Knows s []) (sym (reach_none graph)) begun)
