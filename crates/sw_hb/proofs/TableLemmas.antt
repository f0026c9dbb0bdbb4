-- The entries of all locations after one more event.
use Rattle.std.proofs.Common.{◌≡◌, ◌≢◌, ℕ, suc, Bool, true, false, cond, Some, None, List}
use Rattle.std.proofs.Common.{[], ◌∷◌, ◌++◌, map, refl, sym, subst, ap, ◌∙◌}
use Rattle.std.specs.Bool.{Decides}
use Rattle.std.specs.Option.{unwrap_or}
use Rattle.std.specs.Prelude.{is_some, IsSome}
use Rattle.std.proofs.lemmas.Bool.Decides.{not_from_Decides}
use Rattle.indexmap.specs.IndexMap.{IndexMap, get, Updates, UpdatesBy}
use Rattle.sw_list.proofs.ListLemmas.{some_injective}
use Rattle.sw_value.specs.declared.race.Access.{Access}
use Rattle.sw_value.specs.declared.race.Place.{Place}
use Rattle.sw_value.specs.Transition.{Transition}
use Rattle.sw_before.specs.Clocks.{count_of}
use Rattle.sw_race.specs.With.{is_same_place}
use Rattle.sw_race.proofs.WithLemmas.{place_is, place_same}
use Rattle.sw_hb.specs.declared.entries.Made.{Made}
use Rattle.sw_hb.specs.declared.entries.Latest.{Latest}
use Rattle.sw_hb.specs.Entries.{with_entry, noted}
use Rattle.sw_hb.specs.Latest.{HasEntry, AreLatest}
use Rattle.sw_hb.specs.Table.{entries_at}
use Rattle.sw_hb.proofs.LatestLemmas.{with_entry_are, has_made, entries_stay, entries_noted}

place_decides : (p q : Place) → Decides (is_same_place p q) (p ≡ q)
place_decides p q = (
  place_is p q,
  λ same. subst (λ r. is_same_place p r ≡ true) same (place_same p),
)

-- the entries of each location, with those of one location changed by g
abbrev pub ChangesAt : Place → (List Latest → List Latest) → (Place → List Latest)
    → (Place → List Latest) → Type 0
ChangesAt place g old new =
    (p : Place) → new p ≡ cond (is_same_place place p) (g (old p)) (old p)

changed_there : (place : Place) (g : List Latest → List Latest) (old new : Place → List Latest)
    → ChangesAt place g old new → new place ≡ g (old place)
changed_there place g old new changes =
    changes place ∙ ap (λ b. cond b (g (old place)) (old place)) (place_same place)

cond_same : {X : Type 0} (b : Bool) (x : X) → cond b x x ≡ x
cond_same true x = refl
cond_same false x = refl

-- ---- a table in which the entries of one location were replaced
module _ {S : Type 0} (eq : Place → Place → Bool) (same : eq ≡ is_same_place)
    (old new : IndexMap Place (List Latest) S) (place : Place) where
  replaced_at : (list w : List Latest) (g : List Latest → List Latest)
      → unwrap_or (get eq old place) [] ≡ list
      → ((q : Place) → get eq new q ≡ cond (eq place q) (Some w) (get eq old q)) → w ≡ g list
      → ChangesAt place g (entries_at old) (entries_at new)
  replaced_at list w g there puts is p =
      ap (λ o. unwrap_or o []) at ∙ by (is_same_place place p) (place_decides place p)
    where
      at : get is_same_place new p
          ≡ cond (is_same_place place p) (Some w) (get is_same_place old p)
      at = subst (λ t. get t new p ≡ cond (t place p) (Some w) (get t old p)) same (puts p)

      there_is : entries_at old place ≡ list
      there_is = subst (λ t. unwrap_or (get t old place) [] ≡ list) same there

      by : (b : Bool) → Decides b (place ≡ p)
          → unwrap_or (cond b (Some w) (get is_same_place old p)) []
          ≡ cond b (g (entries_at old p)) (entries_at old p)
      by true decides = is ∙ ap g (sym there_is ∙ ap (entries_at old) (decides.0 refl))
      by false decides = refl

  -- by what was written through a borrow of them
  pub written_at : (list w : List Latest) (g : List Latest → List Latest)
      → Some list ≡ get eq old place
      → (IsSome (get eq old place) → UpdatesBy eq (eq place) old new (Some w)) → w ≡ g list
      → ChangesAt place g (entries_at old) (entries_at new)
  written_at list w g there writes is =
      replaced_at list w g (ap (λ o. unwrap_or o []) (sym there))
      (writes (ap is_some (sym there))).0 is

  pub rewritten_at : (list w : List Latest) → Some list ≡ get eq old place
      → (IsSome (get eq old place) → UpdatesBy eq (eq place) old new (Some w)) → w ≡ list
      → (p : Place) → entries_at new p ≡ entries_at old p
  rewritten_at list w there writes is p =
      written_at list w (λ l. l) there writes is p
      ∙ cond_same (is_same_place place p) (entries_at old p)

  -- by an entry that was inserted
  pub inserted_at : (mid : IndexMap Place (List Latest) S) (w : List Latest)
      (g : List Latest → List Latest) → None ≡ get eq old place → mid ≡ old
      → Updates eq mid new place (Some w) → w ≡ g []
      → ChangesAt place g (entries_at old) (entries_at new)
  inserted_at mid w g none still inserts is =
      replaced_at [] w g (ap (λ o. unwrap_or o []) (sym none))
      (λ q. subst (λ m. get eq new q ≡ cond (eq place q) (Some w) (get eq m q)) still (inserts.0 q))
      is

-- what holds of the entries of each location
by_place : (P : Place → List Latest → Type 0) (place : Place) (g : List Latest → List Latest)
    (old new : Place → List Latest) → ChangesAt place g old new → P place (g (old place))
    → ((p : Place) → place ≢ p → P p (old p)) → (p : Place) → P p (new p)
by_place P place g old new changes there elsewhere p =
    subst (P p) (sym (changes p)) (by (is_same_place place p) (place_decides place p))
  where
    by : (b : Bool) → Decides b (place ≡ p) → P p (cond b (g (old p)) (old p))
    by true decides = subst (λ q. P q (g (old q))) (decides.0 refl) there
    by false decides = elsewhere p (not_from_Decides false decides refl)

pub made_has : (place : Place) (job : ℕ) (old new : Place → List Latest)
    → ChangesAt place (with_entry job) old new → HasEntry (new place) job
made_has place job old new changes = subst (λ l. HasEntry l job)
    (sym (changed_there place (with_entry job) old new changes)) (has_made job (old place))

module _ (events : List Transition) (old new : Place → List Latest)
    (are : (p : Place) → AreLatest events p (old p)) where
  -- an entry was made
  module _ (place : Place) (job : ℕ) (changes : ChangesAt place (with_entry job) old new) where
    pub made_are : (p : Place) → AreLatest events p (new p)
    made_are = by_place (AreLatest events) place (with_entry job) old new changes
        (with_entry_are job events place (old place) (are place)) (λ p other. are p)

  -- one more event
  module _ (e : Transition) where
    pub quiet_are : e.accesses ≡ None → (p : Place) → AreLatest (events ++ e ∷ []) p (old p)
    quiet_are quiet p =
        entries_stay events e p (old p) (are p) (λ a makes same. cc (quiet, makes))

    pub noted_are : (made : Made) → ChangesAt made.access.place (map (noted made)) old new
        → e.accesses ≡ Some made.access → made.access.job ≡ e.job
        → made.rank ≡ suc (count_of e.job events) → HasEntry (old made.access.place) made.access.job
        → (p : Place) → AreLatest (events ++ e ∷ []) p (new p)
    noted_are made changes makes own rank_is there =
        by_place (AreLatest (events ++ e ∷ [])) made.access.place (map (noted made)) old new
        changes (entries_noted events e made makes own rank_is (old made.access.place)
        (are made.access.place) there) (λ p other.
        entries_stay events e p (old p) (are p) (λ a access same.
        other (ap (λ (b : Access). b.place) (some_injective (sym makes ∙ access)) ∙ same)))
