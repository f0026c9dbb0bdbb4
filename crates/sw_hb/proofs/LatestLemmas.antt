-- The entries of a location after one more event.
use Rattle.std.proofs.Common.{◌≡◌, ◌≢◌, ℕ, suc, ◌⊎◌, inl, inr, Bool, true, false, cond}
use Rattle.std.proofs.Common.{eqb, ◌||◌, Option, Some, None, List, [], ◌∷◌, ◌++◌, Contains, length, map}
use Rattle.std.proofs.Common.{refl, sym, subst, ap, ◌∙◌, arith}
use Rattle.std.specs.Bool.{Decides}
use Rattle.std.specs.List.{list_any}
use Rattle.std.proofs.lemmas.Bool.Decides.{Decides-eqb, not_from_Decides}
use Rattle.std.proofs.lemmas.List.Elements.{Contains-append_cases, Contains-append_left}
use Rattle.std.proofs.lemmas.List.Elements.{Contains-append_right}
use Rattle.sw_list.proofs.ListLemmas.{some_injective, at_seam}
use Rattle.sw_list.proofs.Members.{none_in, one_in, in_one, first_in, later_in, first_or_later}
use Rattle.sw_value.specs.declared.race.Access.{Access}
use Rattle.sw_value.specs.declared.race.Place.{Place}
use Rattle.sw_value.specs.Transition.{Transition}
use Rattle.sw_before.specs.Clocks.{count_of, rank_of}
use Rattle.sw_before.proofs.CountLemmas.{rank_more, rank_end}
use Rattle.sw_before.proofs.KnownLemmas.{at_end}
use Rattle.sw_before.proofs.PairLemmas.{access_within, access_down, access_up}
use Rattle.sw_hb.specs.declared.entries.Made.{Made}
use Rattle.sw_hb.specs.declared.entries.Latest.{Latest}
use Rattle.sw_hb.specs.Entries.{is_of, unused, with_entry, with_made, noted}
use Rattle.sw_hb.specs.Latest.{IsOfKind, IsLast, IsLastOf, IsLatest, HasEntry, AreLatest}

-- ---- members of a list that is mapped
in_mapped : {X Y : Type 0} (f : X → Y) (xs : List X) (x : X) → Contains xs x
    → Contains (map f xs) (f x)
in_mapped f [] x has = absurd (none_in x has)
in_mapped f (y ∷ xs) x has = elim (first_or_later y xs x has) [
  | inl same ↦ subst (λ z. Contains (f y ∷ map f xs) (f z)) same (first_in (f y) (map f xs))
  | inr later ↦ later_in (f y) (map f xs) (f x) (in_mapped f xs x later)
]

of_mapped : {X Y : Type 0} (f : X → Y) (xs : List X) (y : Y) → Contains (map f xs) y
    → (x : X) × Contains xs x × (f x ≡ y)
of_mapped f [] y has = absurd (none_in y has)
of_mapped f (x ∷ xs) y has = elim (first_or_later (f x) (map f xs) y has) [
  | inl same ↦ (x, first_in x xs, same)
  | inr later ↦ (
      let (z, there, is) = of_mapped f xs y later in
      (z, later_in x xs z there, is)
      )
]

-- ---- an entry for a job
module _ (job : ℕ) where
  -- a list has an entry of the job, or all its entries are of other jobs
  data HasOrLacks (entries : List Latest) : Bool → Type 0 where
    has : HasEntry entries job → HasOrLacks entries true
    lacks : ((latest : Latest) → Contains entries latest → latest.job ≢ job)
        → HasOrLacks entries false

  has_or_lacks : (entries : List Latest) → HasOrLacks entries (list_any (is_of job) entries)
  has_or_lacks [] = lacks (λ latest among. absurd (none_in latest among))
  has_or_lacks (x ∷ entries) = by (eqb x.job job) (Decides-eqb x.job job)
      (list_any (is_of job) entries) (has_or_lacks entries)
    where
      more : HasEntry entries job → HasEntry (x ∷ entries) job
      more (latest, among, is) = (latest, later_in x entries latest among, is)

      by : (own : Bool) → Decides own (x.job ≡ job) → (rest : Bool) → HasOrLacks entries rest
          → HasOrLacks (x ∷ entries) (own || rest)
      by true decides rest tells = has (x, first_in x entries, decides.0 refl)
      by false decides _ (has there) = has (more there)
      by false decides _ (lacks none) = lacks (λ latest among is.
          elim (first_or_later x entries latest among) [
            | inl same ↦ not_from_Decides false decides refl
                (ap (λ (l : Latest). l.job) same ∙ is)
            | inr later ↦ none latest later is
          ])

  entry_made : (entries : List Latest) → HasEntry (with_entry job entries) job
  entry_made entries = by (list_any (is_of job) entries) (has_or_lacks entries)
    where
      by : (b : Bool) → HasOrLacks entries b
          → HasEntry (cond b entries (entries ++ unused job ∷ [])) job
      by _ (has there) = there
      by _ (lacks none) = (
        unused job,
        Contains-append_right entries (unused job ∷ []) (unused job) (in_one (unused job)),
        refl,
      )

  module _ (events : List Transition) (place : Place) (entries : List Latest)
      (are : AreLatest events place entries) where
    -- a job without an entry made no access
    unused_is : ((latest : Latest) → Contains entries latest → latest.job ≢ job)
        → IsLatest events place (unused job)
    unused_is none = record { read = quiet false; write = quiet true }
      where
        quiet : (w : Bool) (p : ℕ) (a : Access) → IsOfKind events job place w p a → ⊥
        quiet w p a one =
            let (latest, among, is) = are.all p a one.there one.place_is in
            none latest among (is ∙ one.job_is)

    pub with_entry_are : AreLatest events place (with_entry job entries)
    with_entry_are = by (list_any (is_of job) entries) (has_or_lacks entries)
      where
        by : (b : Bool) → HasOrLacks entries b
            → AreLatest events place (cond b entries (entries ++ unused job ∷ []))
        by _ (has there) = are
        by _ (lacks none) = record {
          each = λ latest among. elim
              (Contains-append_cases entries (unused job ∷ []) latest among) [
                | inl before ↦ are.each latest before
                | inr new ↦ subst (IsLatest events place) (one_in (unused job) latest new)
                    (unused_is none)
              ];
          all = λ p a at same.
              let (latest, among, is) = are.all p a at same in
              (latest, Contains-append_left entries (unused job ∷ []) latest among, is);
        }

pub has_made : (job : ℕ) (entries : List Latest) → HasEntry (with_entry job entries) job
has_made job entries = entry_made job entries

-- ---- one more event
module _ (events : List Transition) (e : Transition) where
  abbrev longer : List Transition
  longer = events ++ e ∷ []

  module _ (job : ℕ) (place : Place) (writes : Bool) where
    kind_up : (p : ℕ) (a : Access) → IsOfKind events job place writes p a
        → IsOfKind longer job place writes p a
    kind_up p a one = record {
      there = access_up events (e ∷ []) p a one.there;
      job_is = one.job_is;
      place_is = one.place_is;
      writes_is = one.writes_is;
    }

    -- an access is at the end, or was there before
    kind_at : (p : ℕ) (a : Access) → IsOfKind longer job place writes p a
        → IsOfKind events job place writes p a
        ⊎ ((p ≡ length events) × (e.accesses ≡ Some a))
    kind_at p a one = elim (at_end events e one.there.event p one.there.is_event) [
      | inl below ↦ inl (record {
        there = access_down events (e ∷ []) p a below one.there;
        job_is = one.job_is;
        place_is = one.place_is;
        writes_is = one.writes_is;
      })
      | inr (end, same) ↦ inr (
        end,
        ap (λ (t : Transition). t.accesses) (sym same) ∙ one.there.makes,
      )
    ]

    -- the event makes no such access
    abbrev IsOther : Type 0
    IsOther = (a : Access) → e.accesses ≡ Some a → a.job ≡ job → a.place ≡ place
        → a.writes ≡ writes → ⊥

    last_stays : IsOther → (o : Option Made) → IsLastOf events job place writes o
        → IsLastOf longer job place writes o
    last_stays apart None none = λ p a one. elim (kind_at p a one) [
      | inl before ↦ none p a before
      | inr (_, makes) ↦ apart a makes one.job_is one.place_is one.writes_is
    ]
    last_stays apart (Some made) last = record {
      position = last.position;
      is = kind_up last.position made.access last.is;
      rank_is = last.rank_is ∙ sym (rank_more job events (e ∷ []) last.position
          (access_within events last.position made.access last.is.there));
      last = λ p a one. elim (kind_at p a one) [
        | inl before ↦ last.last p a before
        | inr (_, makes) ↦ absurd (apart a makes one.job_is one.place_is one.writes_is)
      ];
    }

  -- the entries of a location that the event doesn't access
  pub entries_stay : (place : Place) (entries : List Latest) → AreLatest events place entries
      → ((a : Access) → e.accesses ≡ Some a → a.place ≢ place) → AreLatest longer place entries
  entries_stay place entries are elsewhere = record {
    each = λ latest among.
        let is = are.each latest among in
        record {
          read = last_stays latest.job place false (λ a makes _ at _. elsewhere a makes at)
              latest.read is.read;
          write = last_stays latest.job place true (λ a makes _ at _. elsewhere a makes at)
              latest.write is.write;
        };
    all = λ p a at same.
        elim (kind_at a.job place a.writes p a
        (record { there = at; job_is = refl; place_is = same; writes_is = refl })) [
          | inl before ↦ are.all p a before.there same
          | inr (_, makes) ↦ absurd (elsewhere a makes same)
        ];
  }

  -- ---- the event accesses the location
  module _ (made : Made) (makes : e.accesses ≡ Some made.access) (own : made.access.job ≡ e.job)
      (rank_is : made.rank ≡ suc (count_of e.job events)) where
    abbrev place : Place
    place = made.access.place

    is_made : (a : Access) → e.accesses ≡ Some a → made.access ≡ a
    is_made a same = some_injective (sym makes ∙ same)

    last_made : IsLast longer made.access.job place made.access.writes made
    last_made = record {
      position = length events;
      is = record {
        there = record { event = e; is_event = at_seam events e []; makes = makes };
        job_is = refl;
        place_is = refl;
        writes_is = refl;
      };
      rank_is = rank_is ∙ sym (subst (λ j. rank_of j longer (length events)
          ≡ suc (count_of e.job events)) (sym own) (rank_end events e));
      last = λ p a one. elim (kind_at made.access.job place made.access.writes p a one) [
        | inl before ↦ (
            let below = access_within events p a before.there in omega (arith, below)
            )
        | inr (end, _) ↦ omega (arith, end)
      ];
    }

    other_kind : (job : ℕ) (w : Bool) → made.access.writes ≢ w → IsOther job place w
    other_kind job w differs a same _ _ writes =
        differs (ap (λ (b : Access). b.writes) (is_made a same) ∙ writes)

    other_job : (job : ℕ) (w : Bool) → job ≢ made.access.job → IsOther job place w
    other_job job w differs a same is _ _ =
        differs (sym (ap (λ (b : Access). b.job) (is_made a same) ∙ is))

    own_entry : (latest : Latest) → latest.job ≡ made.access.job → IsLatest events place latest
        → IsLatest longer place (with_made made latest)
    own_entry latest same is = by made.access.writes refl
      where
        now : (w : Bool) → made.access.writes ≡ w → IsLastOf longer latest.job place w (Some made)
        now w kind = subst (λ j. IsLast longer j place w made) (sym same)
            (subst (λ v. IsLast longer made.access.job place v made) kind last_made)

        by : (w : Bool) → made.access.writes ≡ w → IsLatest longer place
            (cond w (record { job = latest.job; read = latest.read; write = Some made })
            (record { job = latest.job; read = Some made; write = latest.write }))
        by true kind = record {
          read = last_stays latest.job place false
              (other_kind latest.job false (λ no. cc (kind, no))) latest.read is.read;
          write = now true kind;
        }
        by false kind = record {
          read = now false kind;
          write = last_stays latest.job place true
              (other_kind latest.job true (λ no. cc (kind, no))) latest.write is.write;
        }

    noted_is : (latest : Latest) → IsLatest events place latest
        → IsLatest longer place (noted made latest)
    unfolding noted
    noted_is latest is = by (eqb latest.job made.access.job)
        (Decides-eqb latest.job made.access.job)
      where
        by : (b : Bool) → Decides b (latest.job ≡ made.access.job)
            → IsLatest longer place (cond b (with_made made latest) latest)
        by true decides = own_entry latest (decides.0 refl) is
        by false decides =
            let differs = not_from_Decides false decides refl in
            record {
              read = last_stays latest.job place false (other_job latest.job false differs)
                  latest.read is.read;
              write = last_stays latest.job place true (other_job latest.job true differs)
                  latest.write is.write;
            }

    noted_job : (latest : Latest) → (noted made latest).job ≡ latest.job
    unfolding noted
    noted_job latest = by (eqb latest.job made.access.job) made.access.writes
      where
        by : (b w : Bool) → (cond b (cond w
            (record { job = latest.job; read = latest.read; write = Some made })
            (record { job = latest.job; read = Some made; write = latest.write })) latest).job
            ≡ latest.job
        by true true = refl
        by true false = refl
        by false w = refl

    entry_stays : (entries : List Latest) (job : ℕ) → HasEntry entries job
        → HasEntry (map (noted made) entries) job
    entry_stays entries job (latest, among, is) = (
      noted made latest,
      in_mapped (noted made) entries latest among,
      noted_job latest ∙ is,
    )

    pub entries_noted : (entries : List Latest) → AreLatest events place entries
        → HasEntry entries made.access.job → AreLatest longer place (map (noted made) entries)
    entries_noted entries are there = record {
      each = λ latest among.
          let (before, was, is) = of_mapped (noted made) entries latest among in
          subst (IsLatest longer place) is (noted_is before (are.each before was));
      all = λ p a at same.
          elim (kind_at a.job place a.writes p a
          (record { there = at; job_is = refl; place_is = same; writes_is = refl })) [
            | inl before ↦ entry_stays entries a.job (are.all p a before.there same)
            | inr (_, now) ↦ entry_stays entries a.job
                (subst (λ (b : Access). HasEntry entries b.job) (is_made a now) there)
          ];
    }
