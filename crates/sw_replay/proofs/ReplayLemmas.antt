-- Every list of items has one replay.
use Rattle.std.proofs.Common.{◌≡◌, ℕ, suc, ◌<◌, List, length, take, refl, ap, sym}
use Rattle.std.proofs.Common.{subst, ◌∙◌, arith, inl, inr, ◌⊎◌}
use Rattle.std.proofs.lemmas.Bool.{cases_order, cases_lt}
use Rattle.std.proofs.lemmas.List.{take_all}
use Rattle.sw_graph.specs.declared.graph.Graph.{Graph}
use Rattle.sw_value.specs.declared.race.Race.{Race}
use Rattle.sw_value.specs.Racing.{Racing, IsLeastRace}
use Rattle.sw_value.specs.Reach.{reach}
use Rattle.sw_value.proofs.RaceLemmas.{Decided, IsLeast, find_least, least_race, one_least_race}
use Rattle.sw_replay.specs.declared.output.Replay.{Replay}
use Rattle.sw_replay.specs.Replay.{IsRacingAt, whole_replay, stopped_replay, IsReplay}
use Rattle.sw_replay.specs.Replay as replays

-- the least prefix that is racing is one
same_stop : (graph : Graph) (items : List ℕ) (n m : ℕ) → IsRacingAt graph items n
    → ((k : ℕ) → k < n → IsRacingAt graph items k → ⊥)
    → IsRacingAt graph items m → ((k : ℕ) → k < m → IsRacingAt graph items k → ⊥) → n ≡ m
same_stop graph items n m race first other least = elim (cases_order n m) [
  | inl e ↦ e
  | inr (inl less) ↦ absurd (least n less race)
  | inr (inr more) ↦ absurd (first m more other)
]

same_raced : (graph : Graph) (items : List ℕ) (n m : ℕ) (race other : Race) → n ≡ m
    → IsLeastRace graph (reach graph (take n items)) race
    → IsLeastRace graph (reach graph (take m items)) other
    → stopped_replay graph (take n items) race ≡ stopped_replay graph (take m items) other
same_raced graph items n m race other e one two =
    let same : race ≡ other =
    one_least_race graph (reach graph (take m items)) race other
    (subst (λ k. IsLeastRace graph (reach graph (take k items)) race) e one) two in
    ap (λ k. stopped_replay graph (take k items) race) e
    ∙ ap (λ r. stopped_replay graph (take m items) r) same

pub one_replay : (graph : Graph) (items : List ℕ) (a b : Replay) → IsReplay graph items a
    → IsReplay graph items b → a ≡ b
one_replay graph items _ _ (replays.whole none) (replays.whole free) = refl
one_replay graph items _ _ (replays.whole none) (replays.raced n race within first least) =
    absurd (none n (race, least.is_race))
one_replay graph items _ _ (replays.raced n race within first least) (replays.whole none) =
    absurd (none n (race, least.is_race))
one_replay graph items _ _ (replays.raced n race within first least)
    (replays.raced m other inside before lowest) =
    same_raced graph items n m race other
    (same_stop graph items n m (race, least.is_race) first (other, lowest.is_race) before) least
    lowest

racing_decided : (graph : Graph) (items : List ℕ) (n : ℕ) → Decided (IsRacingAt graph items n)
racing_decided graph items n = by (least_race graph (reach graph (take n items))) where
  by : ((race : Race) × IsLeastRace graph (reach graph (take n items)) race)
      ⊎ (Racing graph (reach graph (take n items)) → ⊥) → Decided (IsRacingAt graph items n)
  by (inl (race, least)) = inl (race, least.is_race)
  by (inr none) = inr none

pub some_replay : (graph : Graph) (items : List ℕ) → (replay : Replay) × IsReplay graph items replay
some_replay graph items =
    by (find_least (IsRacingAt graph items) (racing_decided graph items) (suc (length items))) where
      stop : (n : ℕ) → IsLeast (IsRacingAt graph items) (suc (length items)) n
          → ((race : Race) × IsLeastRace graph (reach graph (take n items)) race)
          ⊎ (Racing graph (reach graph (take n items)) → ⊥) → (replay : Replay)
          × IsReplay graph items replay
      stop n least (inl (race, is)) =
          let within = least.within in (
            stopped_replay graph (take n items) race,
            replays.raced n race (omega (arith, within)) least.first is,
          )
      stop n least (inr none) = absurd (none least.holds)

      -- past the end the prefix is all items
      free : ((k : ℕ) → k < suc (length items) → IsRacingAt graph items k → ⊥) → (n : ℕ)
          → IsRacingAt graph items n → ⊥
      free none n race = elim (cases_lt n (suc (length items))) [
        | inl less ↦ none n less race
        | inr more ↦
            let all = take_all n items (omega (arith, more)) in
            let whole = take_all (length items) items (omega arith) in
            none (length items) (omega arith)
            (subst (λ l. Racing graph (reach graph l)) (all ∙ sym whole) race)
      ]

      by : ((n : ℕ) × IsLeast (IsRacingAt graph items) (suc (length items)) n)
          ⊎ ((k : ℕ) → k < suc (length items) → IsRacingAt graph items k → ⊥) → (replay : Replay)
          × IsReplay graph items replay
      by (inl (n, least)) = stop n least (least_race graph (reach graph (take n items)))
      by (inr none) = (whole_replay graph items, replays.whole (free none))

pub unraced : (graph : Graph) (items : List ℕ) (replay : Replay)
    → ((n : ℕ) → IsRacingAt graph items n → ⊥) → IsReplay graph items replay
    → replay ≡ whole_replay graph items
unraced graph items replay free is =
    one_replay graph items replay (whole_replay graph items) is (replays.whole free)
