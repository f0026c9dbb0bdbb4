-- The latest rival that a job made, by its entry.
use Rattle.std.proofs.Common.{◌≡◌, ◌≢◌, ℕ, suc, ◌<◌, ◌≤◌, inl, inr, Bool, true, false, cond, ltb}
use Rattle.std.proofs.Common.{◌||◌, IsTrue, Option, Some, None, List, take, refl, sym, subst}
use Rattle.std.proofs.Common.{◌∙◌, arith}
use Rattle.std.specs.Bool.{Decides}
use Rattle.std.proofs.lemmas.Bool.{cases_lt}
use Rattle.std.proofs.lemmas.Bool.Decides.{Decides-ltb, not_from_Decides}
use Rattle.sw_value.specs.declared.race.Access.{Access}
use Rattle.sw_value.specs.Transition.{Transition}
use Rattle.sw_before.specs.Clocks.{count_of, rank_of}
use Rattle.sw_before.specs.Rivals.{IsRival}
use Rattle.sw_before.specs.Unordered.{AccessesAt, AreNamed}
use Rattle.sw_before.proofs.CountLemmas.{count_below}
use Rattle.sw_hb.specs.declared.entries.Made.{Made}
use Rattle.sw_hb.specs.declared.entries.Latest.{Latest}
use Rattle.sw_hb.specs.Entries.{newer, conflicting}
use Rattle.sw_hb.specs.Latest.{IsOfKind, IsLast, IsLastOf, IsLatest}

module _ (events : List Transition) (named : AreNamed events) (b : Access) (latest : Latest)
    (other : latest.job ≢ b.job) (is : IsLatest events b.place latest) where
  -- the latest rival that the job made, and its rank
  pub record IsRankedRival (made : Made) : Type 0 where
    pub position : ℕ
    pub rival : IsRival events b position made.access
    pub job_is : made.access.job ≡ latest.job
    pub rank_is : made.rank ≡ rank_of latest.job events position
    pub last : (p : ℕ) (a : Access) → IsRival events b p a → a.job ≡ latest.job → p ≤ position

  -- what was made is that rival, or there is none
  abbrev pub IsRankedRivalOf : Option Made → Type 0
  IsRankedRivalOf None = (p : ℕ) (a : Access) → IsRival events b p a → a.job ≡ latest.job → ⊥
  IsRankedRivalOf (Some made) = IsRankedRival made

  abbrev OfKind : Bool → ℕ → Access → Type 0
  OfKind = IsOfKind events latest.job b.place

  rival_of : (writes : Bool) (p : ℕ) (a : Access) → IsTrue (writes || b.writes)
      → OfKind writes p a → IsRival events b p a
  rival_of writes p a clash one = record {
    there = one.there;
    jobs = λ same. other (sym one.job_is ∙ same);
    conflict = record {
      same = one.place_is;
      writes = subst (λ w. IsTrue (w || b.writes)) (sym one.writes_is) clash;
    };
  }

  of_kind : (p : ℕ) (a : Access) → IsRival events b p a → a.job ≡ latest.job
      → OfKind a.writes p a
  of_kind p a rival same = record {
    there = rival.there;
    job_is = same;
    place_is = rival.conflict.same;
    writes_is = refl;
  }

  -- of two accesses of the job the one with the lesser rank is the earlier
  in_order : (p q : ℕ) (a : Access) → AccessesAt events p a → a.job ≡ latest.job
      → rank_of latest.job events p ≤ rank_of latest.job events q → p ≤ q
  in_order p q a at same le = elim (cases_lt q p) [
    | inr before ↦ before
    | inl after ↦ (
        let job_is : at.event.job ≡ latest.job =
        sym (named p at.event a at.is_event at.makes) ∙ same in
        let rises = count_below events (suc q) p at.event (omega (arith, after)) at.is_event in
        absurd (omega (
          arith,
          le,
          subst (λ j. count_of j (take (suc q) events) < rank_of j events p) job_is rises,
        ))
        )
  ]

  -- ---- an access that reads conflicts only with one that writes
  must_write : (w v : Bool) → v ≡ false → IsTrue (w || v) → w ≡ true
  must_write true v e clash = refl
  must_write false v e clash = cc

  writes_only : b.writes ≡ false → (o : Option Made) → IsLastOf events latest.job b.place true o
      → IsRankedRivalOf o
  writes_only reads None none = λ p a rival same.
      let w = must_write a.writes b.writes reads rival.conflict.writes in
      none p a (subst (λ v. OfKind v p a) w (of_kind p a rival same))
  writes_only reads (Some made) last = record {
    position = last.position;
    rival = rival_of true last.position made.access refl last.is;
    job_is = last.is.job_is;
    rank_is = last.rank_is;
    last = λ p a rival same.
        let w = must_write a.writes b.writes reads rival.conflict.writes in
        last.last p a (subst (λ v. OfKind v p a) w (of_kind p a rival same));
  }

  -- ---- an access that writes conflicts with all
  module _ (writes : b.writes ≡ true) where
    clashes : (w : Bool) → IsTrue (w || b.writes)
    clashes true = refl
    clashes false = subst (λ v. IsTrue (false || v)) (sym writes) refl

    -- the later one of both kinds
    ranked : (w : Bool) (made : Made) → (last : IsLast events latest.job b.place w made)
        → ((v : Bool) (p : ℕ) (a : Access) → OfKind v p a → p ≤ last.position)
        → IsRankedRival made
    ranked w made last all = record {
      position = last.position;
      rival = rival_of w last.position made.access (clashes w) last.is;
      job_is = last.is.job_is;
      rank_is = last.rank_is;
      last = λ p a rival same. all a.writes p a (of_kind p a rival same);
    }

    either : (read write : Option Made) → IsLastOf events latest.job b.place false read
        → IsLastOf events latest.job b.place true write → IsRankedRivalOf (newer read write)
    either None None no_read no_write = λ p a rival same. by p a a.writes (of_kind p a rival same)
      where
        by : (p : ℕ) (a : Access) (w : Bool) → OfKind w p a → ⊥
        by p a false = no_read p a
        by p a true = no_write p a
    either (Some r) None read no_write = ranked false r read all
      where
        all : (v : Bool) (p : ℕ) (a : Access) → OfKind v p a → p ≤ read.position
        all false p a one = read.last p a one
        all true p a one = absurd (no_write p a one)
    either None (Some v) no_read write = ranked true v write all
      where
        all : (v : Bool) (p : ℕ) (a : Access) → OfKind v p a → p ≤ write.position
        all true p a one = write.last p a one
        all false p a one = absurd (no_read p a one)
    either (Some r) (Some v) read write = by (ltb v.rank r.rank) (Decides-ltb v.rank r.rank)
      where
        read_last : write.position ≤ read.position → (v : Bool) (p : ℕ) (a : Access)
            → OfKind v p a → p ≤ read.position
        read_last order false p a one = read.last p a one
        read_last order true p a one = omega (arith, order, write.last p a one)

        write_last : read.position ≤ write.position → (v : Bool) (p : ℕ) (a : Access)
            → OfKind v p a → p ≤ write.position
        write_last order true p a one = write.last p a one
        write_last order false p a one = omega (arith, order, read.last p a one)

        by : (less : Bool) → Decides less (v.rank < r.rank)
            → IsRankedRivalOf (cond less (Some r) (Some v))
        by true decides =
            ranked false r read (read_last (in_order write.position read.position v.access
            write.is.there write.is.job_is
            (omega (arith, decides.0 refl, read.rank_is, write.rank_is))))
        by false decides =
            let not = not_from_Decides false decides refl in
            ranked true v write (write_last (in_order read.position write.position r.access
            read.is.there read.is.job_is (omega (arith, not, read.rank_is, write.rank_is))))

  -- What the entry says is the latest rival that the job made.
  pub conflicting_is : IsRankedRivalOf (conflicting latest b.writes)
  conflicting_is = by b.writes refl
    where
      by : (w : Bool) → b.writes ≡ w → IsRankedRivalOf (conflicting latest w)
      by true writes = either writes latest.read latest.write is.read is.write
      by false reads = writes_only reads latest.write is.write
