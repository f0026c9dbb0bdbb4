-- One item more of a schedule whose accesses are to be ordered.
use Rattle.std.proofs.Common.{◌≡◌, ℕ, ◌<◌, ◌≤◌, List, [], ◌∷◌, ◌++◌, length, sym, subst, ap, ◌∙◌, arith}
use Rattle.std.proofs.Common.{length-append}
use Rattle.sw_graph.specs.declared.graph.Graph.{Graph}
use Rattle.sw_value.specs.Reach.{step_of, reach}
use Rattle.sw_value.proofs.ReachLemmas.{reach_none, reach_push}
use Rattle.sw_step.specs.Event.{event_of}
use Rattle.sw_replay.specs.declared.items.TheConstants.{MAX_ITEMS}
use Rattle.sw_replay.specs.Output.{IsPlayed, line_of}
use Rattle.sw_replay.proofs.LineLemmas.{played_none, played_push}
use Rattle.sw_hb.specs.declared.clocked.Clocked.{Clocked}
use Rattle.sw_hb.specs.Clocked.{HasManyJobs, IsClocked}
use Rattle.sw_hb.proofs.JobLemmas.{jobs_grow}

-- The items led to the clocked state, and printed these lines.
pub record IsTaken (graph : Graph) (items : List ℕ) (clocked : Clocked) (lines : List ℕ)
    : Type 0 where
  pub items_are : clocked.items ≡ items
  pub clocked_is : IsClocked graph clocked
  pub played : IsPlayed graph items clocked.state lines

pub turns_none : (graph : Graph) (clocked : Clocked) (lines : List ℕ) → clocked.items ≡ []
    → IsClocked graph clocked → lines ≡ [] → IsTaken graph [] clocked lines
turns_none graph clocked lines none is no_lines = record {
  items_are = none;
  clocked_is = is;
  played = played_none graph clocked.state lines
      (is.state_is ∙ ap (reach graph) none ∙ reach_none graph) no_lines;
}

pub turns_push : (graph : Graph) (items : List ℕ) (item : ℕ) (before after : Clocked)
    (lines more : List ℕ) → IsTaken graph items before lines
    → after.state ≡ step_of graph before.state item → after.items ≡ before.items ++ item ∷ []
    → IsClocked graph after → more ≡ lines ++ line_of (event_of graph before.state item)
    → IsTaken graph (items ++ item ∷ []) after more
turns_push graph items item before after lines more is steps adds clocked prints = record {
  items_are = adds ∙ ap (λ l. l ++ item ∷ []) is.items_are;
  clocked_is = clocked;
  played = played_push graph items item before.state after.state lines more is.played steps prints;
}

-- so few items that there is room for one more
pub few_items : (graph : Graph) (taken left all : List ℕ) (clocked : Clocked) (lines : List ℕ)
    → IsTaken graph taken clocked lines → taken ++ left ≡ all → length all ≤ MAX_ITEMS
    → length clocked.items < 4294967295
few_items graph taken left all clocked lines is splits few =
    omega (arith, ap length is.items_are, length-append taken left, ap length splits, few)

-- an item makes one job too many, so that there are too many in the end
pub many_stay : (graph : Graph) (taken left all : List ℕ) (item : ℕ) (clocked : Clocked)
    (lines : List ℕ) → IsTaken graph taken clocked lines
    → HasManyJobs (step_of graph clocked.state item) → (taken ++ item ∷ []) ++ left ≡ all
    → HasManyJobs (reach graph all)
many_stay graph taken left all item clocked lines is many splits =
    let there : step_of graph clocked.state item ≡ reach graph (taken ++ item ∷ []) =
    ap (λ s. step_of graph s item) is.played.state_is ∙ sym (reach_push graph taken item) in
    subst (λ l. HasManyJobs (reach graph l)) splits
    (omega (
      arith,
      subst HasManyJobs there many,
      jobs_grow graph (taken ++ item ∷ []) left,
    ))
