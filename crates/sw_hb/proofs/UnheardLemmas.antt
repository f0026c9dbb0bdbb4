-- The latest rivals that a clock doesn't count, by the entries of a location.
use Rattle.std.proofs.Common.{◌≡◌, ◌≢◌, ℕ, ◌<◌, ◌≤◌, Bool, true, false, cond, eqb, ltb, Option, Some}
use Rattle.std.proofs.Common.{None, List, Contains, refl, sym, subst, ◌∙◌, arith}
use Rattle.std.specs.Bool.{Decides}
use Rattle.std.proofs.lemmas.Bool.Decides.{Decides-eqb, Decides-ltb, not_from_Decides}
use Rattle.sw_value.specs.declared.race.Access.{Access}
use Rattle.sw_value.specs.Transition.{Transition}
use Rattle.sw_before.specs.Clocks.{rank_of}
use Rattle.sw_before.specs.Rivals.{IsLatestRival, IsUnheard, IsFirstUnheard}
use Rattle.sw_before.specs.Unordered.{AreNamed}
use Rattle.sw_hb.specs.declared.entries.Made.{Made}
use Rattle.sw_hb.specs.declared.entries.Latest.{Latest}
use Rattle.sw_hb.specs.Entries.{conflicting, if_unheard, unheard_rival, first_unheard}
use Rattle.sw_hb.specs.Latest.{IsLatest, HasEntry, AreLatest}
use Rattle.sw_hb.proofs.LeastLemmas.{IsLeast, least_is}
use Rattle.sw_hb.proofs.RivalLemmas.{IsRankedRival, IsRankedRivalOf, conflicting_is}

module _ (events : List Transition) (named : AreNamed events) (b : Access)
    (clock : ℕ → ℕ) where
  -- an access is a latest rival that is unheard
  record IsMissed (a : Access) : Type 0 where
    position : ℕ
    rival : IsLatestRival events b position a
    unheard : IsUnheard clock events position a

  -- what is found of a job: its latest rival, if it is unheard
  abbrev IsMissedOf : ℕ → Option Access → Type 0
  IsMissedOf job None = (p : ℕ) (a : Access) → IsLatestRival events b p a → a.job ≡ job
      → ¬ (IsUnheard clock events p a)
  IsMissedOf job (Some a) = IsMissed a × (a.job ≡ job)

  module _ (latest : Latest) (is : IsLatest events b.place latest) where
    module _ (other : latest.job ≢ b.job) where
      missed_by_rank : (made : Made) → IsRankedRival events named b latest other is made
          → clock latest.job < made.rank → IsMissed made.access
      missed_by_rank made ranked less = record {
        position = ranked.position;
        rival = record {
          rival = ranked.rival;
          latest = λ i c rival same. ranked.last i c rival (same ∙ ranked.job_is);
        };
        unheard = subst (λ j. clock j < rank_of j events ranked.position) (sym ranked.job_is)
            (omega (arith, less, ranked.rank_is));
      }

      heard_by_rank : (made : Made) → IsRankedRival events named b latest other is made
          → made.rank ≤ clock latest.job → IsMissedOf latest.job None
      heard_by_rank made ranked enough p a rival same unheard =
          let up = ranked.last p a rival.rival same in
          let down = rival.latest ranked.position made.access ranked.rival
          (ranked.job_is ∙ sym same) in
          let at : p ≡ ranked.position = omega (arith, up, down) in
          let fewer : clock latest.job < rank_of latest.job events ranked.position =
          subst (λ q. clock latest.job < rank_of latest.job events q) at
          (subst (λ j. clock j < rank_of j events p) same unheard) in
          omega (arith, fewer, enough, ranked.rank_is)

      by_rank : (o : Option Made) → IsRankedRivalOf events named b latest other is o
          → IsMissedOf latest.job (if_unheard (clock latest.job) o)
      by_rank None none = λ p a rival same unheard. none p a rival.rival same
      by_rank (Some made) ranked = by (ltb (clock latest.job) made.rank)
          (Decides-ltb (clock latest.job) made.rank)
        where
          by : (less : Bool) → Decides less (clock latest.job < made.rank)
              → IsMissedOf latest.job (cond less (Some made.access) None)
          by true decides = (missed_by_rank made ranked (decides.0 refl), ranked.job_is)
          by false decides =
              let not = not_from_Decides false decides refl in
              heard_by_rank made ranked (omega (arith, not))

    missed_of : IsMissedOf latest.job (unheard_rival (clock latest.job) b latest)
    unfolding unheard_rival
    missed_of = by (eqb latest.job b.job) (Decides-eqb latest.job b.job)
      where
        by : (same : Bool) → Decides same (latest.job ≡ b.job)
            → IsMissedOf latest.job (cond same None
            (if_unheard (clock latest.job) (conflicting latest b.writes)))
        by true decides = λ p a rival job unheard. rival.rival.jobs (job ∙ decides.0 refl)
        by false decides =
            let other = not_from_Decides false decides refl in
            by_rank other (conflicting latest b.writes) (conflicting_is events named b latest other is)

  -- What is found among the entries of the location: no latest rival is unheard, or the one of the
  -- least job.
  abbrev pub IsFound : Option Access → Type 0
  IsFound None = (p : ℕ) (a : Access) → IsLatestRival events b p a
      → ¬ (IsUnheard clock events p a)
  IsFound (Some a) = (p : ℕ) × IsFirstUnheard clock events b p a

  module _ (entries : List Latest) (are : AreLatest events b.place entries) where
    abbrev find : Latest → Option Access
    find latest = unheard_rival (clock latest.job) b latest

    missed_at : (latest : Latest) → Contains entries latest → (o : Option Access)
        → find latest ≡ o → IsMissedOf latest.job o
    missed_at latest has o found =
        subst (IsMissedOf latest.job) found (missed_of latest (are.each latest has))

    -- an unheard latest rival is found by the entry of its job
    found_at : (p : ℕ) (a : Access) → IsLatestRival events b p a → IsUnheard clock events p a
        → (latest : Latest) × (c : Access) × Contains entries latest × (find latest ≡ Some c)
        × (c.job ≡ a.job)
    found_at p a rival unheard = by (find there.0) refl
      where
        there : HasEntry entries a.job
        there = are.all p a rival.rival.there rival.rival.conflict.same

        by : (o : Option Access) → find there.0 ≡ o → (latest : Latest) × (c : Access)
            × Contains entries latest × (find latest ≡ Some c) × (c.job ≡ a.job)
        by None none = absurd (missed_at there.0 there.1 None none p a rival (sym there.2) unheard)
        by (Some c) some = (
          there.0,
          c,
          there.1,
          some,
          (missed_at there.0 there.1 (Some c) some).1 ∙ there.2,
        )

    found_by : (o : Option Access) → IsLeast find entries o → IsFound o
    found_by None none = λ p a rival unheard.
        let (latest, c, has, some, job) = found_at p a rival unheard in
        let quiet = none latest has in cc
    found_by (Some a) ((latest, has, some), least) =
        let missed = (missed_at latest has (Some a) some).0 in (
          missed.position,
          record {
            rival = missed.rival;
            unheard = missed.unheard;
            least = λ i c rival unheard.
                let (other, d, among, finds, job) = found_at i c rival unheard in
                omega (arith, least other d among finds, job);
          },
        )

    pub first_is_found : IsFound (first_unheard clock b entries)
    first_is_found = found_by (first_unheard clock b entries) (least_is find entries)
