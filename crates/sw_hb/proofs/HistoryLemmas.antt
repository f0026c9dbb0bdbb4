-- The history of one more event.
use Rattle.std.proofs.Common.{◌≡◌, ℕ, suc, ◌+◌, ◌<◌, ◌^◌, cond, Option, Some, None}
use Rattle.std.proofs.Common.{List, [], ◌∷◌, ◌++◌, length, map, sym, subst, ap, ◌∙◌, arith}
use Rattle.std.specs.Prelude.{is_some, IfSome, Result, Ok, Err, OnOk, OnErr}
use Rattle.std.specs.Bool.{◌==◌}
use Rattle.std.proofs.lemmas.List.Sums.{sum_by_push, count_by-le-length}
use Rattle.sw_list.proofs.ListLemmas.{slice_get_before, at_seam}
use Rattle.sw_value.specs.declared.race.Access.{Access}
use Rattle.sw_value.specs.declared.race.Place.{Place}
use Rattle.sw_value.specs.Transition.{Transition}
use Rattle.sw_before.specs.Clocks.{Clocks, count_of, heard, after_event, clocks_of}
use Rattle.sw_before.specs.Unordered.{AreNamed, AreOrdered}
use Rattle.sw_before.proofs.ClockLemmas.{are_clocks, clocks_push, heard_own, heard_within}
use Rattle.sw_before.proofs.PairLemmas.{first_stays, none_without}
use Rattle.sw_before.proofs.RivalLemmas.{heard_all, first_unheard as found_first_pair}
use Rattle.sw_race.specs.With.{is_same_place}
use Rattle.sw_clocks.specs.declared.links.Links.{Links}
use Rattle.sw_clocks.specs.Rows.{Rows, clocks_in, CountsFew}
use Rattle.sw_clocks.proofs.CallerLemmas.{few_counted}
use Rattle.sw_hb.specs.declared.history.History.{History}
use Rattle.sw_hb.specs.declared.entries.Latest.{Latest}
use Rattle.sw_hb.specs.Entries.{first_unheard, noted, with_entry}
use Rattle.sw_hb.specs.Events.{accesses_in, IsFirstPair}
use Rattle.sw_hb.specs.History.{IsHistory, HasRoomForAccess, IsNext, found_first, ranked}
use Rattle.sw_hb.specs.Latest.{HasEntry, AreLatest}
use Rattle.sw_hb.specs.Table.{entries_at, IsTableOf}
use Rattle.sw_hb.proofs.TableLemmas.{ChangesAt, made_are, made_has, quiet_are, noted_are}
use Rattle.sw_hb.proofs.UnheardLemmas.{IsFound, first_is_found}

-- no event, and so no access
pub none_ordered : AreOrdered []
none_ordered p q a b is = let at = is.first.is_event in cc

pub none_latest : (place : Place) → AreLatest [] place []
none_latest place = record {
  each = λ latest among. let lt = among.1 in absurd (omega (arith, lt));
  all = λ p a at same. let is = at.is_event in cc;
}

-- ---- room is made
module _ (before after : History) (clocks : clocks_in after.clocks ≡ clocks_in before.clocks)
    (first : after.first ≡ before.first) (accesses : after.accesses ≡ before.accesses) where
  pub with_table : (events : List Transition) → IsHistory events before
      → IsTableOf events after.table → IsHistory events after
  with_table events is table = record {
    clocks_are = clocks ∙ is.clocks_are;
    table_is = table;
    first_is = subst (IsFirstPair events) (sym first) is.first_is;
    accesses_are = accesses ∙ is.accesses_are;
  }

  -- an entry was made, or memory ran out
  pub entry_kept : {A E : Type 0} (r : Result A E) (place : Place) (job : ℕ)
      → OnOk r (ChangesAt place (with_entry job) (entries_at before.table)
      (entries_at after.table))
      → OnErr r ((p : Place) → entries_at after.table p ≡ entries_at before.table p)
      → (events : List Transition) → IsHistory events before → IsHistory events after
  entry_kept (Ok x) place job made _ events is = with_table events is
      (made_are events (entries_at before.table) (entries_at after.table) is.table_is place job
      made)
  entry_kept (Err e) place job _ same events is = with_table events is
      (λ p. subst (AreLatest events p) (sym (same p)) (is.table_is p))

pub entry_room : {A E : Type 0} (r : Result A E) (old new : Place → List Latest)
    (access : Option Access) (a : Access) → access ≡ Some a
    → OnOk r (ChangesAt a.place (with_entry a.job) old new)
    → OnOk r (IfSome access (λ b. HasEntry (new b.place) b.job))
entry_room (Ok x) old new access a is made =
    subst (λ o. IfSome o (λ b. HasEntry (new b.place) b.job)) (sym is)
    (made_has a.place a.job old new made)
entry_room (Err e) old new access a is made = tt

-- the next event can be counted
pub few_clocks : (history : History) (links : Links) (access : Option Access)
    → (next : IsNext history links access) → (rows : Rows) → rows ≡ history.clocks
    → CountsFew (clocks_in rows) links.job
few_clocks history links access next rows same =
    subst (λ r. CountsFew (clocks_in r) links.job) (sym same)
    (subst (λ c. CountsFew c links.job) (sym next.is_history.clocks_are)
    (few_counted next.events links.job next.few_events))

-- what the next event hears can be counted further
pub few_heard : (history : History) (links : Links) (access : Option Access)
    → (next : IsNext history links access) → (job : ℕ)
    → heard (clocks_in history.clocks) next.event job + 1 < 2 ^ 32
few_heard history links access next job =
    subst (λ c. heard c next.event job + 1 < 2 ^ 32) (sym next.is_history.clocks_are)
    (omega (
      arith,
      heard_within next.events (clocks_of next.events) (are_clocks next.events) next.event job,
      count_by-le-length (λ (t : Transition). t.job == job) next.events,
      next.few_events,
    ))

module _ (events : List Transition) (e : Transition) where
  abbrev longer : List Transition
  longer = events ++ e ∷ []

  counted : (o : Option Access) → e.accesses ≡ o
      → accesses_in longer ≡ accesses_in events + cond (is_some o) 1 0
  counted o is = sum_by_push (λ (t : Transition). cond (is_some t.accesses) 1 0) events e
      ∙ ap (λ p. accesses_in events + cond (is_some p) 1 0) is

  named_before : AreNamed longer → AreNamed events
  named_before named p t a is makes = named p t a (slice_get_before events (e ∷ []) p t is) makes

  clocks_after : (before after : Clocks) → before ≡ clocks_of events
      → after ≡ after_event before e → after ≡ clocks_of longer
  clocks_after before after are takes =
      takes ∙ ap (λ c. after_event c e) are ∙ sym (clocks_push events e)

  -- ---- an event without an access
  module _ (quiet : e.accesses ≡ None) where
    first_quiet : (first : Option (Access × Access)) → IsFirstPair events first
        → IsFirstPair longer first
    first_quiet None ordered = none_without events e ordered quiet
    first_quiet (Some pair) is = first_stays events (e ∷ []) pair.0 pair.1 is

    pub history_quiet : (before after : History) → IsHistory events before
        → clocks_in after.clocks ≡ after_event (clocks_in before.clocks) e
        → after.table ≡ before.table → after.first ≡ before.first
        → after.accesses ≡ before.accesses → IsHistory longer after
    history_quiet before after is takes table first accesses = record {
      clocks_are = clocks_after (clocks_in before.clocks) (clocks_in after.clocks) is.clocks_are takes;
      table_is = λ place. subst (λ t. AreLatest longer place (entries_at t place)) (sym table)
          (quiet_are events (entries_at before.table) (entries_at before.table) is.table_is e
          quiet place);
      first_is = subst (IsFirstPair longer) (sym first) (first_quiet before.first is.first_is);
      accesses_are = accesses ∙ is.accesses_are ∙ omega (arith, counted None quiet);
    }

  -- ---- an event with an access
  module _ (named : AreNamed longer) (b : Access) (makes : e.accesses ≡ Some b) where
    own : b.job ≡ e.job
    own = named (length events) e b (at_seam events e []) makes

    abbrev clock : ℕ → ℕ
    clock = heard (clocks_of events) e

    next_first : (first : Option (Access × Access)) → IsFirstPair events first
        → (o : Option Access) → IsFound events (named_before named) b clock o
        → IsFirstPair longer (found_first first b o)
    next_first (Some pair) is o found = first_stays events (e ∷ []) pair.0 pair.1 is
    next_first None ordered None none = heard_all events e named b makes ordered none
    next_first None ordered (Some a) (p, found) =
        found_first_pair events e named b makes ordered p a found

    rank_is : clock b.job + 1 ≡ suc (count_of e.job events)
    rank_is = omega (
      arith,
      ap clock own,
      heard_own events (clocks_of events) (are_clocks events) e,
    )

    pub history_accessed : (before after : History) → IsHistory events before
        → HasRoomForAccess before (Some b)
        → clocks_in after.clocks ≡ after_event (clocks_in before.clocks) e
        → ((p : Place) → entries_at after.table p ≡ cond (is_same_place b.place p)
        (map (noted (ranked (heard (clocks_in before.clocks) e) b)) (entries_at before.table p))
        (entries_at before.table p))
        → after.first ≡ found_first before.first b (first_unheard
        (heard (clocks_in before.clocks) e) b (entries_at before.table b.place))
        → after.accesses ≡ before.accesses + 1 → IsHistory longer after
    history_accessed before after is room takes table first accesses =
        let clock_is : heard (clocks_in before.clocks) e ≡ clock =
        ap (λ c. heard c e) is.clocks_are in
        let old = entries_at before.table in
        record {
          clocks_are =
              clocks_after (clocks_in before.clocks) (clocks_in after.clocks) is.clocks_are takes;
          table_is = noted_are events old (entries_at after.table) is.table_is e (ranked clock b)
              (subst (λ c. (p : Place) → entries_at after.table p
              ≡ cond (is_same_place b.place p) (map (noted (ranked c b)) (old p)) (old p)) clock_is
              table) makes own rank_is room;
          first_is = subst (IsFirstPair longer) (sym (first ∙ ap (λ c. found_first before.first b
              (first_unheard c b (old b.place))) clock_is))
              (next_first before.first is.first_is (first_unheard clock b (old b.place))
              (first_is_found events (named_before named) b clock (old b.place)
              (is.table_is b.place)));
          accesses_are = accesses ∙ omega (arith, is.accesses_are, counted (Some b) makes);
        }
