-- One item more on the coloured machine.
use Rattle.std.proofs.Common.{◌≡◌, ℕ, List, [], ◌∷◌, ◌++◌, sym, ap, ◌∙◌}
use Rattle.std.proofs.lemmas.List.Sums.{fold-append}
use Rattle.sw_graph.specs.declared.graph.Graph.{Graph}
use Rattle.sw_color_rules.specs.declared.colored.Colored.{Colored}
use Rattle.sw_color_rules.specs.Machine.{colored_reach, colored_start, colored_step}
use Rattle.sw_color_rules.proofs.Removed.{step_state}
use Rattle.sw_step.specs.Event.{event_of}
use Rattle.sw_replay.specs.Output.{IsPlayed, line_of, output_by}
use Rattle.sw_replay.proofs.LineLemmas.{output_is, played_none, played_push}
use Rattle.sw_owners.specs.declared.replaying.OwnerReplay.{OwnerReplay}
use Rattle.sw_owners.specs.Owners.{owners_of}
use Rattle.sw_owners.specs.Replay.{owner_replay}

-- The items lead to the coloured state, and print these lines.
pub record IsColored (graph : Graph) (items : List ℕ) (colored : Colored)
    (lines : List ℕ) : Type 0 where
  pub colored_is : colored ≡ colored_reach graph items
  pub played : IsPlayed graph items colored.state lines

-- no item at all
pub colored_none : (graph : Graph) (colored : Colored) (lines : List ℕ)
    → colored ≡ colored_start graph → lines ≡ [] → IsColored graph [] colored lines
unfolding colored_reach
colored_none graph colored lines starts none = record {
  colored_is = starts;
  played = played_none graph colored.state lines (ap (λ (c : Colored). c.state) starts) none;
}

-- one item more
pub colored_push : (graph : Graph) (items : List ℕ) (item : ℕ) (colored after : Colored)
    (lines more : List ℕ) → IsColored graph items colored lines
    → after ≡ colored_step graph colored item
    → more ≡ lines ++ line_of (event_of graph colored.state item)
    → IsColored graph (items ++ item ∷ []) after more
unfolding colored_reach
colored_push graph items item colored after lines more is steps prints = record {
  colored_is =
      steps ∙ ap (λ c. colored_step graph c item) is.colored_is
      ∙ sym (fold-append (colored_step graph) (colored_start graph) items (item ∷ []));
  played = played_push graph items item colored.state after.state lines more is.played
      (ap (λ (c : Colored). c.state) steps ∙ step_state graph colored item) prints;
}

-- what comes of items that were taken
pub replay_is : (graph : Graph) (items all : List ℕ) (colored : Colored) (lines : List ℕ)
    (replay : OwnerReplay) → IsColored graph items colored lines → items ≡ all
    → replay ≡ record { output = output_by colored.state lines; owners = owners_of colored }
    → replay ≡ owner_replay graph all
replay_is graph items all colored lines replay is taken made =
    made
    ∙ (λ i. record {
      output = output_is graph items colored.state lines is.played i;
      owners = owners_of (is.colored_is i);
    })
    ∙ ap (owner_replay graph) taken
