-- One turn of a walk over the items of a schedule.
use Rattle.std.proofs.Common.{◌≡◌, ℕ, ◌<◌, ◌≤◌, List, [], ◌∷◌, ◌++◌, length, sym, ap, subst, ◌∙◌}
use Rattle.std.proofs.Common.{arith, append_assoc, append-nil, length-append}
use Rattle.sw_graph.specs.declared.graph.Graph.{Graph}
use Rattle.sw_value.specs.declared.state.State.{State}
use Rattle.sw_replay.specs.declared.items.TheConstants.{MAX_ITEMS}
use Rattle.sw_replay.specs.Output.{IsPlayed}
use Rattle.sw_replay.proofs.LineLemmas.{few_jobs, played_cells}

-- one more was taken
pub taken_push : (taken left rest all : List ℕ) (item : ℕ) → taken ++ left ≡ all
    → left ≡ item ∷ rest → (taken ++ item ∷ []) ++ rest ≡ all
taken_push taken left rest all item splits gives =
    append_assoc taken (item ∷ []) rest ∙ ap (λ l. taken ++ l) (sym gives) ∙ splits

-- all were taken
pub taken_all : (taken left all : List ℕ) → taken ++ left ≡ all → left ≡ [] → taken ≡ all
taken_all taken left all splits none =
    sym (append-nil taken) ∙ ap (λ l. taken ++ l) (sym none) ∙ splits

-- so few cells that there is room for one more
pub few_cells : (graph : Graph) (taken left all : List ℕ) (state : State) (lines : List ℕ)
    → IsPlayed graph taken state lines → taken ++ left ≡ all → length all ≤ MAX_ITEMS
    → length state.cells < 4294967295
few_cells graph taken left all state lines played splits few =
    omega (
      arith,
      played_cells graph taken state lines played,
      length-append taken left,
      ap length splits,
      few,
    )

-- the jobs have numbers of 32 bits
pub few_played : (graph : Graph) (taken : List ℕ) (state : State) (lines : List ℕ)
    → IsPlayed graph taken state lines → length state.jobs < 4294967296
few_played graph taken state lines played =
    subst (λ (s : State). length s.jobs < 4294967296) (sym played.state_is) (few_jobs graph taken)
