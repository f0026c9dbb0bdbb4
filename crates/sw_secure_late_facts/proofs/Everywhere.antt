-- Each late state that items lead to is secure by hue.
use Rattle.std.proofs.Common.{◌≡◌, ℕ, Option, Some, None, List, [], ◌∷◌, ◌++◌, refl, sym, subst, ap}
use Rattle.std.proofs.Common.{◌∙◌}
use Rattle.std.specs.List.{All}
use Rattle.std.specs.Option.{option_map_or}
use Rattle.std.proofs.lemmas.List.{append-nil, append_assoc}
use Rattle.sw_graph.specs.declared.graph.Graph.{Graph}
use Rattle.sw_graph.specs.Clean.{IsClean}
use Rattle.sw_graph.specs.Supplied.{IsSupplied}
use Rattle.sw_value.specs.declared.effect.Act.{Act}
use Rattle.sw_value.specs.declared.state.State.{State}
use Rattle.sw_value.specs.Act.{act_of}
use Rattle.sw_value.specs.Reach.{step_of}
use Rattle.sw_value.proofs.ReachLemmas.{after_acts, step_by_act}
use Rattle.sw_color_rules.specs.declared.colors.Tint.{Tint}
use Rattle.sw_color_rules.specs.Changes.{after_changes}
use Rattle.sw_color_rules.specs.Machine.{colored_reach}
use Rattle.sw_color_rules.specs.Plans.{next_color}
use Rattle.sw_color_rules.specs.Ranges.{AreBelow, AreMade, noted}
use Rattle.sw_color_rules.proofs.PlanRanges.{reach_made}
use Rattle.sw_partition.specs.Regions.{Regions}
use Rattle.sw_late_facts.specs.Late.{Late, late_cargo, late_changes, late_reach, late_step}
use Rattle.sw_late_facts.proofs.Carriers.{reach_awaits, reach_goes}
use Rattle.sw_late_facts.proofs.Once.{reach_once}
use Rattle.sw_late_facts.proofs.Reached.{late_next, reach_follows}
use Rattle.sw_late_facts.proofs.Seen.{Jobs}
use Rattle.sw_late_facts.proofs.Showing.{sight}
use Rattle.sw_late_facts.proofs.Turns.{delivered_count}
use Rattle.sw_secure_job_facts.specs.Begins.{AreAnnotated}
use Rattle.sw_secure_late_facts.specs.LateSecure.{IsLateSecure}
use Rattle.sw_secure_late_facts.proofs.Starting.{start_secure}
use Rattle.sw_secure_late_facts.proofs.Stepping.{acted}

-- the colours of cells and frames were made
late_made : (graph : Graph) (items : List ℕ) → AreMade (late_reach graph items).colors
late_made graph items =
    let early = colored_reach graph items in
    let late = late_reach graph items in
    let f = reach_follows graph items in
    let made = reach_made graph items in
    let count : next_color early.colors ≡ next_color late.colors =
    ap (λ (s : Jobs). s.count) f.same ∙ delivered_count late.cargo (sight late.colors.palette) in
    record {
      cells = subst (λ (ts : List Tint). All (λ tint. AreBelow (next_color late.colors)
          (noted tint)) ts) f.cells
          (subst (λ n. All (λ tint. AreBelow n (noted tint)) early.colors.cells) count made.cells);
      heres = subst (All (AreBelow (next_color late.colors))) f.heres
          (subst (λ n. All (AreBelow n) early.colors.heres) count made.heres);
    }

module _ (graph : Graph) (clean : IsClean graph) (supplied : IsSupplied graph)
    (states : ℕ → List (Option Regions)) (annotated : AreAnnotated graph states) where
  abbrev SecureAfter : List ℕ → Type 0
  SecureAfter items = IsLateSecure graph states (late_reach graph items)

  -- one item more
  stepped : (items : List ℕ) (item : ℕ) → SecureAfter items
      → AreMade (late_step graph (late_reach graph items) item).colors
      → IsLateSecure graph states (late_step graph (late_reach graph items) item)
  unfolding late_step
  stepped items item s = by (act_of graph (late_reach graph items).state item) refl where
    by : (o : Option Act) → act_of graph (late_reach graph items).state item ≡ o
        → AreMade (after_changes (option_map_or (late_changes graph (late_reach graph items) item) o
        [])
        (late_reach graph items).colors)
        → IsLateSecure graph states (record {
          state = step_of graph (late_reach graph items).state item;
          colors = after_changes (option_map_or (late_changes graph (late_reach graph items) item) o
              [])
              (late_reach graph items).colors;
          cargo = option_map_or (late_cargo graph (late_reach graph items) item) o
              (late_reach graph items).cargo;
        })
    by None acts made =
        subst (λ (t : State). IsLateSecure graph states (record {
          state = t;
          colors = (late_reach graph items).colors;
          cargo = (late_reach graph items).cargo;
        }))
        (sym (step_by_act graph (late_reach graph items).state item
        ∙ ap (λ o. after_acts item o (late_reach graph items).state) acts)) s
    by (Some act) acts made = acted graph states (late_reach graph items) s
        (reach_awaits graph items)
        (reach_goes graph items) (reach_once graph items) item act acts made

  next_secure : (items : List ℕ) (item : ℕ) → SecureAfter items → SecureAfter (items ++ item ∷ [])
  next_secure items item s =
      subst (IsLateSecure graph states) (sym (late_next graph items item))
      (stepped items item s (subst (λ (l : Late). AreMade l.colors) (late_next graph items item)
      (late_made graph (items ++ item ∷ []))))

  goes_on : (done items : List ℕ) → SecureAfter done → SecureAfter (done ++ items)
  goes_on done [] s = subst SecureAfter (sym (append-nil done)) s
  goes_on done (item ∷ items) s =
      subst SecureAfter (append_assoc done (item ∷ []) items)
      (goes_on (done ++ item ∷ []) items (next_secure done item s))

  pub late_secure : (items : List ℕ) → SecureAfter items
  unfolding late_reach
  late_secure items = goes_on [] items (start_secure graph clean supplied states annotated)
