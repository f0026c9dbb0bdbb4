-- One item more of a replay that is watched, and where it stops.
use Rattle.std.proofs.Common.{◌≡◌, ℕ, zero, suc, ◌+◌, ◌≤◌, inl, inr, Option, Some}
use Rattle.std.proofs.Common.{List, [], ◌∷◌, ◌++◌, length, take, refl, sym}
use Rattle.std.proofs.Common.{ap, subst, ◌∙◌, arith, length-append}
use Rattle.std.specs.Prelude.{option_and_then}
use Rattle.std.specs.List.{slice_get}
use Rattle.std.proofs.lemmas.Bool.{cases_lt}
use Rattle.std.proofs.lemmas.List.{take_all}
use Rattle.sw_graph.specs.declared.graph.Graph.{Graph}
use Rattle.sw_value.specs.declared.race.Race.{Race}
use Rattle.sw_value.specs.declared.state.State.{State}
use Rattle.sw_value.specs.Job.{is_running, new_job}
use Rattle.sw_value.specs.Racing.{Racing, IsLeastRace}
use Rattle.sw_value.specs.Reach.{reach}
use Rattle.sw_value.specs.Start.{start_of, start_frames}
use Rattle.sw_value.proofs.ReachLemmas.{reach_none}
use Rattle.sw_race.specs.declared.target.Target.{Target}
use Rattle.sw_race.specs.Index.{IsIndexOf}
use Rattle.sw_race.specs.Target.{job_target}
use Rattle.sw_race.proofs.TargetLemmas.{access_target}
use Rattle.sw_replay.specs.Output.{IsPlayed, output_by, output_of}
use Rattle.sw_replay.specs.Replay.{IsRacingAt, IsReplay, stopped_replay}
use Rattle.sw_replay.specs.Replay as replays
use Rattle.sw_replay.proofs.LineLemmas.{played_none, output_is}

-- no job of the start runs, so none is about to access anything
start_targets : (graph : Graph) (frames : _) (j : ℕ) (t : Target)
    → option_and_then (job_target graph) (slice_get (new_job frames ∷ []) j) ≡ Some t → ⊥
unfolding new_job is_running
start_targets graph frames zero t e = cc
start_targets graph frames (suc j) t e = cc

start_free : (graph : Graph) → Racing graph (start_of graph) → ⊥
unfolding start_of
start_free graph (race, is) =
    start_targets graph (start_frames graph) race.first.job
    (record { place = race.first.place; writes = race.first.writes })
    (access_target graph (start_of graph) race.first.job race.first is.first_next)

nothing_taken : (n : ℕ) → take {A = ℕ} n [] ≡ []
nothing_taken zero = refl
nothing_taken (suc n) = refl

-- a prefix of the first of two lists
prefix : (xs ys : List ℕ) (n : ℕ) → n ≤ length xs → take n (xs ++ ys) ≡ take n xs
prefix [] ys zero few = refl
prefix [] ys (suc n) few = absurd (omega (arith, few))
prefix (x ∷ xs) ys zero few = refl
prefix (x ∷ xs) ys (suc n) few = ap (λ l. x ∷ l) (prefix xs ys n (omega (arith, few)))

-- All the items were taken, the index stands for the state after them, and none of their prefixes
-- leads to a state that is racing, nor do all of them.
pub record IsOnWay (graph : Graph) (items : List ℕ) (state : State) (lines : List ℕ)
    (index : List (Option Target)) : Type 0 where
  pub played : IsPlayed graph items state lines
  pub stands : IsIndexOf graph state index
  pub free : (n : ℕ) → IsRacingAt graph items n → ⊥

-- no item
pub on_way_none : (graph : Graph) (state : State) (lines : List ℕ) (index : List (Option Target))
    → state ≡ start_of graph → lines ≡ [] → IsIndexOf graph state index
    → IsOnWay graph [] state lines index
on_way_none graph state lines index starts none stands = record {
  played = played_none graph state lines starts none;
  stands = stands;
  free = λ n race. start_free graph
      (subst (Racing graph) (ap (reach graph) (nothing_taken n) ∙ reach_none graph) race);
}

module _ (graph : Graph) (items : List ℕ) (item : ℕ)
    (free : (n : ℕ) → IsRacingAt graph items n → ⊥) (state : State) (lines : List ℕ)
    (played : IsPlayed graph (items ++ item ∷ []) state lines) where
  -- none of the fewer items leads to a race
  first : (left : List ℕ) (n : ℕ) → n ≤ length items
      → IsRacingAt graph ((items ++ item ∷ []) ++ left) n → ⊥
  first left n few race =
      free n (subst (λ l. Racing graph (reach graph l))
      (prefix (items ++ item ∷ []) left n (omega (arith, few, length-append items (item ∷ [])))
      ∙ prefix items (item ∷ []) n few) race)

  -- one item more, which leads to no race
  pub on_way_push : (index : List (Option Target)) → IsIndexOf graph state index
      → (Racing graph state → ⊥) → IsOnWay graph (items ++ item ∷ []) state lines index
  on_way_push index stands calm = record {
    played = played;
    stands = stands;
    free = λ n race. elim (cases_lt n (length items + 1)) [
      | inl less ↦
          free n
          (subst (λ l. Racing graph (reach graph l))
          (prefix items (item ∷ []) n (omega (arith, less)))
          race)
      | inr past ↦
          calm (subst (Racing graph)
          (ap (reach graph) (take_all n (items ++ item ∷ [])
          (omega (arith, past, length-append items (item ∷ []))))
          ∙ sym played.state_is) race)
    ];
  }

  -- one that leads to a race: the replay stops there, whatever items are left
  pub stops : (left : List ℕ) (race : Race) → IsLeastRace graph state race
      → IsReplay graph ((items ++ item ∷ []) ++ left)
      (record { output = output_by state lines; race = Some race })
  stops left race least =
      let taken = items ++ item ∷ [] in
      let count = length-append items (item ∷ []) in
      let whole : take (length items + 1) (taken ++ left) ≡ taken =
      prefix taken left (length items + 1) (omega (arith, count))
      ∙ take_all (length items + 1) taken (omega (arith, count)) in
      subst (λ output. IsReplay graph (taken ++ left)
      (record { output = output; race = Some race }))
      (ap (output_of graph) whole ∙ sym (output_is graph taken state lines played))
      (replays.raced (length items + 1) race
      (omega (arith, count, length-append taken left))
      (λ k less. first left k (omega (arith, less)))
      (subst (λ s. IsLeastRace graph s race)
      (played.state_is ∙ ap (reach graph) (sym whole)) least))
