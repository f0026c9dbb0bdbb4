-- Plans of the effects that make a cell.
use Rattle.std.proofs.Common.{◌≡◌, ◌<◌, ℕ, Bool, true, false, cond, not, Option, Some, None, List}
use Rattle.std.proofs.Common.{[], ◌∷◌, ◌++◌, refl}
use Rattle.std.proofs.Common.{subst, ap, ◌∙◌}
use Rattle.std.specs.List.{slice_get}
use Rattle.std.specs.Option.{option_map_or}
use Rattle.std.proofs.lemmas.List.Elements.{All-append, All-nil}
use Rattle.sw_types.specs.declared.isolation.Iso.{Iso}
use Rattle.sw_types.specs.declared.isolation.Iso.TheVariants as iso
use Rattle.sw_types.specs.Sendable.{sends_at}
use Rattle.sw_graph.specs.declared.function.Function.{Function}
use Rattle.sw_graph.specs.declared.graph.Graph.{Graph}
use Rattle.sw_value.specs.declared.cell.HeapCell.{HeapCell}
use Rattle.sw_value.specs.declared.cell.HeapCell.TheVariants.{Object, Actor, BoxOf, Closure, TaskOf}
use Rattle.sw_value.specs.declared.state.State.{State}
use Rattle.sw_value.specs.declared.value.Value.{Value}
use Rattle.sw_color_rules.specs.declared.colors.Colors.{Colors}
use Rattle.sw_color_rules.specs.declared.colors.Owner.TheVariants as owner
use Rattle.sw_color_rules.specs.declared.colors.Tint.TheVariants.{Bare, Colored, Owns, Holds}
use Rattle.sw_color_rules.specs.Changes.{Fresh, after_change, mark}
use Rattle.sw_color_rules.specs.Plans.{bare_cell, colored_cell, is_isolated, is_isolated_to}
use Rattle.sw_color_rules.specs.Plans.{new_actor, new_cell, new_closure, next_color, no_plan}
use Rattle.sw_color_rules.specs.Plans.{top_here}
use Rattle.sw_color_rules.specs.Ranges.{AreBelow}
use Rattle.sw_color_rules.specs.Tints.{colors_in, colors_of, in_order}
use Rattle.sw_color_rules.proofs.NumberLemmas.{values_below}
use Rattle.sw_owner_facts.specs.Colours.{Colour, Instance, OfActor, OfJob}
use Rattle.sw_owner_facts.specs.View.{Frame as Spot}
use Rattle.sw_reach_facts.specs.Coloured.{runs_isolated}
use Rattle.sw_reach_facts.specs.Reached.{colours_of}
use Rattle.sw_region_ops.specs.Calls as calls
use Rattle.sw_view_facts.specs.Memory.{coloured_more}
use Rattle.sw_view_facts.specs.Views.{here_at}
use Rattle.sw_secure_facts.specs.Painting.{cell_colour, joined_in_cell, reached_by_all}
use Rattle.sw_hue_facts.specs.Hued.{SameColours, hued, hues_of}
use Rattle.sw_hue_facts.proofs.Made.{cell_made, fresh_made}
use Rattle.sw_secure_late_facts.proofs.More.{more, more_below, more_show}
use Rattle.sw_secure_late_facts.proofs.Joining.{PlanFits}
use Rattle.sw_secure_late_facts.proofs.Same.{same_hues, same_refl}
use Rattle.sw_secure_late_facts.proofs.Showing.{Shows, all_show, here_made, here_shows, value_made}

module _ (graph : Graph) (state : State) (colors : Colors) (q : Spot) (shows : Shows state colors q)
  where
    -- what is reached, with the colour of `Here`
    here_and : (vs : List Value) → SameColours (hues_of colors.palette
        (top_here colors q.job ++ colors_of colors.cells vs))
        (here_at (hued colors) q ∷ reached_by_all state (hued colors) vs)
    here_and vs = same_hues colors.palette (top_here colors q.job) (colors_of colors.cells vs)
        (here_at (hued colors) q ∷ []) (reached_by_all state (hued colors) vs)
        (here_shows state colors q shows) (all_show state colors q shows vs)

    all_made : (vs : List Value) → AreBelow (next_color colors) (colors_of colors.cells vs)
    all_made vs = values_below (next_color colors) colors.cells shows.made.cells vs

    here_and_made : (vs : List Value)
        → AreBelow (next_color colors) (top_here colors q.job ++ colors_of colors.cells vs)
    here_and_made vs = All-append (λ n. n < next_color colors) (top_here colors q.job)
        (colors_of colors.cells vs)
        (here_made colors shows.made q.job) (all_made vs)

    -- a cell without colour
    bare : (ns : List ℕ) (joined : List Colour) → AreBelow (next_color colors) ns
        → SameColours (hues_of colors.palette ns) joined
        → PlanFits q colors (bare_cell ns) joined (coloured_more None (hued colors))
    unfolding mark
    bare ns joined below same = record {
      heir = refl;
      below = below;
      is = cell_made Bare colors;
      same = same;
    }

    -- a coloured cell
    colored : (ns : List ℕ) (joined : List Colour) → AreBelow (next_color colors) ns
        → SameColours (hues_of colors.palette ns) joined
        → PlanFits q colors (colored_cell q.job (next_color colors) ns)
        (OfJob q.job (next_color colors) ∷ joined)
        (coloured_more (Some (OfJob q.job (next_color colors))) (hued colors))
    unfolding mark
    colored ns joined below same =
        let new = fresh_made (owner.Job q.job) colors shows.whole shows.made in
        record {
          heir = refl;
          below = more_below colors (owner.Job q.job) shows.whole shows.made ns below;
          is = cell_made (Colored (next_color colors))
              (more colors (owner.Job q.job) shows.whole shows.made)
              ∙ ap (λ c. coloured_more (Some c) (hued
              (after_change colors (Fresh (owner.Job q.job))))) new.1
              ∙ ap (coloured_more (Some (OfJob q.job (next_color colors)))) new.0;
          same = more_show colors (owner.Job q.job) shows.whole shows.made ns joined below same;
        }

    -- an actor's cell
    actor : (c : ℕ) (ns : List ℕ) (joined : List Colour) → AreBelow (next_color colors) ns
        → SameColours (hues_of colors.palette ns) joined
        → PlanFits q colors (new_actor c (next_color colors) ns)
        (OfActor (Instance c) ∷ joined) (coloured_more None (hued colors))
    unfolding mark
    actor c ns joined below same =
        let new = fresh_made (owner.ActorOf c) colors shows.whole shows.made in
        record {
          heir = refl;
          below = more_below colors (owner.ActorOf c) shows.whole shows.made ns below;
          is = cell_made (Owns (next_color colors))
              (more colors (owner.ActorOf c) shows.whole shows.made)
              ∙ ap (coloured_more None) new.0;
          same = more_show colors (owner.ActorOf c) shows.whole shows.made ns joined below same;
        }

    -- a closure that has what it captured
    held : (ns : List ℕ) → PlanFits q colors (record no_plan { tint = Some (Holds (in_order ns)) })
        []
        (coloured_more None (hued colors))
    unfolding mark
    held ns = record {
      heir = refl;
      below = All-nil (λ n. n < next_color colors);
      is = cell_made (Holds (in_order ns)) colors;
      same = same_refl [];
    }

    -- both say of a function whether it is isolated
    isolated_same : (i : Iso) → calls.is_isolated i ≡ is_isolated_to i
    isolated_same iso.Free = refl
    isolated_same iso.Own = refl
    isolated_same (iso.Global g) = refl
    isolated_same iso.Caller = refl

    runs_same : (f : ℕ) → runs_isolated graph f ≡ is_isolated graph f
    runs_same f = by (slice_get graph.functions f) where
      by : (o : Option Function) → option_map_or (λ (function : Function). calls.is_isolated
          function.iso) o false
          ≡ option_map_or (λ (function : Function). is_isolated_to function.iso) o false
      by None = refl
      by (Some function) = isolated_same function.iso

    abbrev Fits : ℕ → HeapCell → Type 0
    Fits c cell = PlanFits q colors (new_cell graph colors q.job c cell)
        (joined_in_cell graph state (hued colors) q (next_color colors) c cell)
        (coloured_more (cell_colour graph q.job (next_color colors) cell) (hued colors))

    pub cell_fits : (c : ℕ) (cell : HeapCell) → Fits c cell
    cell_fits c (Object k parts) = by (sends_at graph.shapes k) where
      by : (b : Bool) → PlanFits q colors
          (cond b (bare_cell (top_here colors q.job ++ colors_of colors.cells parts))
          (colored_cell q.job (next_color colors) (colors_of colors.cells parts)))
          (cond b (here_at (hued colors) q) (OfJob q.job (next_color colors))
          ∷ reached_by_all state (hued colors) parts)
          (coloured_more (cond (not b) (Some (OfJob q.job (next_color colors))) None) (hued colors))
      by true = bare (top_here colors q.job ++ colors_of colors.cells parts)
          (here_at (hued colors) q ∷ reached_by_all state (hued colors) parts)
          (here_and_made parts) (here_and parts)
      by false = colored (colors_of colors.cells parts) (reached_by_all state (hued colors) parts)
          (all_made parts) (all_show state colors q shows parts)
    cell_fits c (Actor k parts) = actor c (top_here colors q.job ++ colors_of colors.cells parts)
        (here_at (hued colors) q ∷ reached_by_all state (hued colors) parts)
        (here_and_made parts) (here_and parts)
    cell_fits c (BoxOf v) = colored (colors_in colors.cells v)
        (colours_of state.cells (hued colors).cells v)
        (value_made state colors q shows v) (shows.values v)
    cell_fits c (Closure f captures) =
        subst (λ b. PlanFits q colors (new_closure colors b q.job (colors_of colors.cells captures))
        (cond (runs_isolated graph f) (OfJob q.job (next_color colors) ∷ here_at (hued colors) q
        ∷ reached_by_all state (hued colors) captures) [])
        (coloured_more (cond (runs_isolated graph f) (Some (OfJob q.job (next_color colors))) None)
        (hued colors)))
        (runs_same f) (by (runs_isolated graph f))
      where
        by : (b : Bool) → PlanFits q colors (new_closure colors b q.job
            (colors_of colors.cells captures))
            (cond b (OfJob q.job (next_color colors) ∷ here_at (hued colors) q
            ∷ reached_by_all state (hued colors) captures) [])
            (coloured_more (cond b (Some (OfJob q.job (next_color colors))) None) (hued colors))
        by true = colored (top_here colors q.job ++ colors_of colors.cells captures)
            (here_at (hued colors) q ∷ reached_by_all state (hued colors) captures)
            (here_and_made captures) (here_and captures)
        by false = held (colors_of colors.cells captures)
    cell_fits c (TaskOf j) = bare [] [] (All-nil (λ n. n < next_color colors)) (same_refl [])
