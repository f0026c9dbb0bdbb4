-- The clocks count what is known.
use Rattle.std.proofs.Common.{◌≡◌, ◌↔◌, ℕ, zero, suc, ◌<◌, ◌≤◌, max, ◌⊎◌, inl, inr, Bool}
use Rattle.std.proofs.Common.{true, false, cond, Some, List, [], ◌∷◌, ◌++◌, Contains, length}
use Rattle.std.proofs.Common.{append_assoc, append-nil, length-append}
use Rattle.std.proofs.Common.{take, drop, refl, sym, subst, ap, ◌∙◌, arith}
use Rattle.std.specs.List.{slice_get, fold}
use Rattle.std.specs.Bool.{Decides}
use Rattle.std.specs.Set.{is_member}
use Rattle.std.proofs.lemmas.Bool.{cases_eq, cases_lt, eq-eqb, ne_eqb}
use Rattle.std.proofs.lemmas.List.{take_at, length-take-le}
use Rattle.std.proofs.lemmas.List.Sums.{fold-append}
use Rattle.std.proofs.lemmas.Option.{slice_get_within}
use Rattle.sw_list.proofs.ListLemmas.{some_injective, slice_get_before, at_seam}
use Rattle.sw_list.proofs.Members.{none_in, first_in, later_in, first_or_later}
use Rattle.sw_value.specs.Transition.{Transition}
use Rattle.sw_before.specs.Before.{LeadsAt, Before, goes_on}
use Rattle.sw_before.specs.Channels.{Channel, is_same_channel, told_by, heard_by, IsKnown}
use Rattle.sw_before.specs.Clocks.{Clocks, count_of, rank_of, heard, ticked, after_event, clocks_of}
use Rattle.sw_before.specs.Closure.{one}
use Rattle.sw_before.proofs.BeforeLemmas.{before_rises, before_stays, get_within}
use Rattle.sw_before.proofs.ChannelLemmas.{told_decides}
use Rattle.sw_before.proofs.ClosureLemmas.{OrSame}
use Rattle.sw_before.proofs.CountLemmas.{count_push_own, count_grows, count_below, rank_le}
use Rattle.sw_before.proofs.CountLemmas.{last_event, rank_some, rank_more, rank_end}
use Rattle.sw_before.proofs.KnownLemmas.{at_end, heard_at_end, end_hears, known_more, known_end}
use Rattle.sw_before.proofs.KnownLemmas.{known_back, known_within}

-- ---- the greatest of some counts
module _ (f : Channel → ℕ) where
  abbrev greatest : ℕ → List Channel → ℕ
  greatest n channels = fold (λ count channel. max count (f channel)) n channels

  greatest_first : (n : ℕ) (channels : List Channel) → n ≤ greatest n channels
  greatest_first n [] = omega arith
  greatest_first n (c ∷ channels) = omega (arith, greatest_first (max n (f c)) channels)

  greatest_each : (n : ℕ) (channels : List Channel) (c : Channel) → Contains channels c
      → f c ≤ greatest n channels
  greatest_each n [] c has = absurd (none_in c has)
  greatest_each n (d ∷ channels) c has = elim (first_or_later d channels c has) [
    | inl same ↦ omega (arith, greatest_first (max n (f d)) channels, ap f same)
    | inr later ↦ greatest_each (max n (f d)) channels c later
  ]

  greatest_some : (n : ℕ) (channels : List Channel) → (greatest n channels ≡ n)
      ⊎ ((c : Channel) × Contains channels c × (greatest n channels ≡ f c))
  greatest_some n [] = inl refl
  greatest_some n (c ∷ channels) = elim (greatest_some (max n (f c)) channels) [
    | inl first ↦ elim (cases_lt n (f c)) [
      | inl less ↦ inr (c, first_in c channels, omega (arith, first, less))
      | inr more ↦ inl (omega (arith, first, more))
    ]
    | inr (d, has, is) ↦ inr (d, later_in c channels d has, is)
  ]

module _ (clocks : Clocks) (e : Transition) where
  pub heard_each : (job : ℕ) (c : Channel) → Contains (heard_by e) c
      → clocks c job ≤ heard clocks e job
  unfolding heard
  heard_each job c has = greatest_each (λ d. clocks d job) 0 (heard_by e) c has

  pub heard_some : (job : ℕ) → (heard clocks e job ≡ 0)
      ⊎ ((c : Channel) × Contains (heard_by e) c × (heard clocks e job ≡ clocks c job))
  unfolding heard
  heard_some job = greatest_some (λ d. clocks d job) 0 (heard_by e)

  ticked_own : (job : ℕ) → e.job ≡ job → ticked clocks e job ≡ suc (heard clocks e job)
  unfolding ticked
  ticked_own job own =
      ap (λ b. cond b (suc (heard clocks e job)) (heard clocks e job)) (eq-eqb e.job job own)

  ticked_other : (job : ℕ) → (e.job ≡ job → ⊥) → ticked clocks e job ≡ heard clocks e job
  unfolding ticked
  ticked_other job other =
      ap (λ b. cond b (suc (heard clocks e job)) (heard clocks e job)) (ne_eqb e.job job other)

  after_told : (c : Channel) (job : ℕ) → Contains (told_by e) c
      → after_event clocks e c job ≡ max (clocks c job) (ticked clocks e job)
  unfolding after_event
  after_told c job told = ap (λ b. cond b (max (clocks c job) (ticked clocks e job)) (clocks c job))
      ((told_decides e c).1 told)

  after_cases : (c : Channel) (job : ℕ)
      → (Contains (told_by e) c × (after_event clocks e c job
      ≡ max (clocks c job) (ticked clocks e job)))
      ⊎ (after_event clocks e c job ≡ clocks c job)
  unfolding after_event
  after_cases c job = by (is_member is_same_channel (told_by e) c) (told_decides e c)
    where
      by : (b : Bool) → Decides b (Contains (told_by e) c)
          → (Contains (told_by e) c × (cond b (max (clocks c job) (ticked clocks e job))
          (clocks c job) ≡ max (clocks c job) (ticked clocks e job)))
          ⊎ (cond b (max (clocks c job) (ticked clocks e job)) (clocks c job) ≡ clocks c job)
      by true decides = inl (decides.0 refl, refl)
      by false decides = inr refl

-- Clocks that count what is known: of each job its first events.
pub record AreClocks (events : List Transition) (clocks : Clocks) : Type 0 where
  pub known : (c : Channel) (p : ℕ) (t : Transition) → slice_get events p ≡ Some t
      → IsKnown events c p ↔ (rank_of t.job events p ≤ clocks c t.job)
  pub within : (c : Channel) (job : ℕ) → clocks c job ≤ count_of job events

module _ (events : List Transition) (clocks : Clocks) (are : AreClocks events clocks)
    (e : Transition) where
  abbrev longer : List Transition
  longer = events ++ e ∷ []

  pub heard_within : (job : ℕ) → heard clocks e job ≤ count_of job events
  heard_within job = elim (heard_some clocks e job) [
    | inl none ↦ omega (arith, none)
    | inr (c, has, is) ↦ omega (arith, is, are.within c job)
  ]

  -- An event happens before the next one exactly if the clock that this hears counts it.
  pub before_next : (p : ℕ) (t : Transition) → slice_get events p ≡ Some t
      → Before longer p (length events)
      ↔ (rank_of t.job events p ≤ heard clocks e t.job)
  before_next p t is = (counts, from)
    where
      counts : Before longer p (length events) → rank_of t.job events p ≤ heard clocks e t.job
      counts before =
          let (c, has, known) = heard_at_end events e p before in
          omega (arith, (are.known c p t is).0 known, heard_each clocks e t.job c has)

      from : rank_of t.job events p ≤ heard clocks e t.job → Before longer p (length events)
      from le = elim (heard_some clocks e t.job) [
        | inl none ↦ absurd (omega (arith, le, none, rank_some events p t is))
        | inr (c, has, same) ↦ end_hears events e c p has
            ((are.known c p t is).1 (omega (arith, le, same)))
      ]

  -- it hears of all events of its own job
  pub heard_own : heard clocks e e.job ≡ count_of e.job events
  heard_own = elim (cases_lt 0 (count_of e.job events)) [
    | inr none ↦ omega (arith, none, heard_within e.job)
    | inl some ↦ (
        let (p, t, is, own, last) = last_event e.job events some in
        let step : LeadsAt longer p (length events) = record {
          earlier = slice_get_within events p t is;
          first = t;
          second = e;
          is_first = slice_get_before events (e ∷ []) p t is;
          is_second = at_seam events e [];
          leads = goes_on own;
        } in
        let counted = (before_next p t is).0 (one p (length events) step) in
        let here : rank_of e.job events p ≤ heard clocks e e.job =
        subst (λ j. rank_of j events p ≤ heard clocks e j) own counted in
        omega (arith, here, last, heard_within e.job)
        )
  ]

  ticked_end : ticked clocks e e.job ≡ suc (count_of e.job events)
  ticked_end = ticked_own clocks e e.job refl ∙ ap (λ n. suc n) heard_own

  heard_le : (job : ℕ) → heard clocks e job ≤ ticked clocks e job
  heard_le job = elim (cases_eq e.job job) [
    | inl own ↦ omega (arith, ticked_own clocks e job own)
    | inr other ↦ omega (arith, ticked_other clocks e job other)
  ]

  ticked_within : (job : ℕ) → ticked clocks e job ≤ count_of job longer
  ticked_within job = elim (cases_eq e.job job) [
    | inl own ↦ subst (λ j. ticked clocks e j ≤ count_of j longer) own
        (omega (arith, ticked_end, count_push_own events e))
    | inr other ↦ omega (
      arith,
      ticked_other clocks e job other,
      heard_within job,
      count_grows job events e,
    )
  ]

  -- what is counted after the event was counted before, or is told
  after_counts : (c : Channel) (job k : ℕ) → k ≤ after_event clocks e c job
      → (k ≤ clocks c job) ⊎ (Contains (told_by e) c × (k ≤ ticked clocks e job))
  after_counts c job k le = elim (after_cases clocks e c job) [
    | inl (told, is) ↦ elim (cases_lt (clocks c job) k) [
      | inl above ↦ inr (told, omega (arith, le, above, is))
      | inr below ↦ inl below
    ]
    | inr same ↦ inl (omega (arith, le, same))
  ]

  after_keeps : (c : Channel) (job : ℕ) → clocks c job ≤ after_event clocks e c job
  after_keeps c job = elim (after_cases clocks e c job) [
    | inl (told, is) ↦ omega (arith, is)
    | inr same ↦ omega (arith, same)
  ]

  after_takes : (c : Channel) (job : ℕ) → Contains (told_by e) c
      → ticked clocks e job ≤ after_event clocks e c job
  after_takes c job told = omega (arith, after_told clocks e c job told)

  after_within : (c : Channel) (job : ℕ) → after_event clocks e c job ≤ count_of job longer
  after_within c job = elim (after_cases clocks e c job) [
    | inl (told, is) ↦ omega (
      arith,
      is,
      are.within c job,
      ticked_within job,
      count_grows job events e,
    )
    | inr same ↦ omega (arith, same, are.within c job, count_grows job events e)
  ]

  -- ---- an event that was there before
  old_counted : (c : Channel) (p : ℕ) (t : Transition) → slice_get events p ≡ Some t
      → IsKnown longer c p → rank_of t.job events p ≤ after_event clocks e c t.job
  old_counted c p t is known = elim (known_back events e c p known) [
    | inl was ↦ omega (arith, (are.known c p t is).0 was, after_keeps c t.job)
    | inr (told, reaches) ↦ omega (arith, counted reaches, after_takes c t.job told)
  ]
    where
      counted : OrSame (LeadsAt longer) p (length events)
          → rank_of t.job events p ≤ ticked clocks e t.job
      counted (inl at) = absurd (omega (arith, at, slice_get_within events p t is))
      counted (inr before) = omega (arith, (before_next p t is).0 before, heard_le t.job)

  -- the event hears of all that it counts besides itself
  ticked_heard : (p : ℕ) (t : Transition) → slice_get events p ≡ Some t
      → rank_of t.job events p ≤ ticked clocks e t.job
      → rank_of t.job events p ≤ heard clocks e t.job
  ticked_heard p t is le = elim (cases_eq e.job t.job) [
    | inl own ↦ (
        let all : heard clocks e t.job ≡ count_of t.job events =
        subst (λ j. heard clocks e j ≡ count_of j events) own heard_own in
        omega (arith, all, rank_le t.job events p)
        )
    | inr other ↦ omega (arith, le, ticked_other clocks e t.job other)
  ]

  old_known : (c : Channel) (p : ℕ) (t : Transition) → slice_get events p ≡ Some t
      → rank_of t.job events p ≤ after_event clocks e c t.job → IsKnown longer c p
  old_known c p t is le = elim (after_counts c t.job (rank_of t.job events p) le) [
    | inl was ↦ known_more events e c p ((are.known c p t is).1 was)
    | inr (told, now) ↦ known_end events e c p told
        (inr ((before_next p t is).1 (ticked_heard p t is now)))
  ]

  old_at : (c : Channel) (p : ℕ) (t : Transition) → slice_get events p ≡ Some t
      → IsKnown longer c p ↔ (rank_of t.job longer p ≤ after_event clocks e c t.job)
  old_at c p t is =
      let same = rank_more t.job events (e ∷ []) p (slice_get_within events p t is) in (
        λ known. omega (arith, old_counted c p t is known, same),
        λ le. old_known c p t is (omega (arith, le, same)),
      )

  -- ---- the event that is new
  new_counted : (c : Channel) → IsKnown longer c (length events)
      → suc (count_of e.job events) ≤ after_event clocks e c e.job
  new_counted c known = elim (known_back events e c (length events) known) [
    | inl was ↦ absurd (omega (arith, known_within events c (length events) was))
    | inr (told, reaches) ↦ omega (arith, ticked_end, after_takes c e.job told)
  ]

  new_known : (c : Channel) → suc (count_of e.job events) ≤ after_event clocks e c e.job
      → IsKnown longer c (length events)
  new_known c le = elim (after_counts c e.job (suc (count_of e.job events)) le) [
    | inl was ↦ absurd (omega (arith, was, are.within c e.job))
    | inr (told, now) ↦ known_end events e c (length events) told (inl refl)
  ]

  new_at : (c : Channel) → IsKnown longer c (length events)
      ↔ (rank_of e.job longer (length events) ≤ after_event clocks e c e.job)
  new_at c = (
    λ known. omega (arith, new_counted c known, rank_end events e),
    λ le. new_known c (omega (arith, le, rank_end events e)),
  )

  known_at : (c : Channel) (p : ℕ) (t : Transition) → slice_get longer p ≡ Some t
      → IsKnown longer c p ↔ (rank_of t.job longer p ≤ after_event clocks e c t.job)
  known_at c p t is = elim (at_end events e t p is) [
    | inl below ↦ old_at c p t (get_within events (e ∷ []) p t below is)
    | inr (at, same) ↦ subst (λ x. IsKnown longer c p
        ↔ (rank_of x.job longer p ≤ after_event clocks e c x.job)) (sym same)
        (subst (λ q. IsKnown longer c q
        ↔ (rank_of e.job longer q ≤ after_event clocks e c e.job)) (sym at) (new_at c))
  ]

  pub clocks_step : AreClocks longer (after_event clocks e)
  clocks_step = record { known = known_at; within = after_within }

-- ---- the clocks of a list of events
no_clocks : AreClocks [] (λ channel job. 0)
no_clocks = record { known = λ c p t is. cc; within = λ c job. omega arith }

clocks_from : (later events : List Transition) (clocks : Clocks) → AreClocks events clocks
    → AreClocks (events ++ later) (fold after_event clocks later)
clocks_from [] events clocks are = subst (λ l. AreClocks l clocks) (sym (append-nil events)) are
clocks_from (e ∷ later) events clocks are =
    subst (λ l. AreClocks l (fold after_event (after_event clocks e) later))
    (append_assoc events (e ∷ []) later)
    (clocks_from later (events ++ e ∷ []) (after_event clocks e)
    (clocks_step events clocks are e))

pub are_clocks : (events : List Transition) → AreClocks events (clocks_of events)
unfolding clocks_of
are_clocks events = clocks_from events [] (λ channel job. 0) no_clocks

pub clocks_push : (events : List Transition) (e : Transition)
    → clocks_of (events ++ e ∷ []) ≡ after_event (clocks_of events) e
unfolding clocks_of
clocks_push events e = fold-append after_event (λ channel job. 0) events (e ∷ [])

-- ---- an event of a list, with what stands before it and after it
split_at : (events : List Transition) (q : ℕ) (b : Transition) → slice_get events q ≡ Some b
    → events ≡ take q events ++ b ∷ drop (suc q) events
split_at [] q b is = cc
split_at (x ∷ events) zero b is = ap (λ t. t ∷ events) (some_injective is)
split_at (x ∷ events) (suc q) b is = ap (λ l. x ∷ l) (split_at events q b is)

module _ (front rest : List Transition) (b : Transition) where
  abbrev whole : List Transition
  whole = front ++ b ∷ rest

  before_whole : (p : ℕ) → Before whole p (length front)
      ↔ Before (front ++ b ∷ []) p (length front)
  before_whole p = subst (λ l. Before l p (length front)
      ↔ Before (front ++ b ∷ []) p (length front)) (append_assoc front (b ∷ []) rest)
      (before_stays (front ++ b ∷ []) rest p (length front)
      (omega (arith, length-append front (b ∷ []))))

  clock_decides : (p : ℕ) (a : Transition) → slice_get whole p ≡ Some a
      → Before whole p (length front)
      ↔ (rank_of a.job whole p ≤ heard (clocks_of front) b a.job)
  clock_decides p a is = elim (cases_lt p (length front)) [
    | inl below ↦ (
        let next = before_next front (clocks_of front) (are_clocks front) b p a
        (get_within front (b ∷ rest) p a below is) in
        let same = rank_more a.job front (b ∷ rest) p below in (
          λ before. omega (arith, same, next.0 ((before_whole p).0 before)),
          λ le. (before_whole p).1 (next.1 (omega (arith, same, le))),
        )
        )
    | inr past ↦ (
        let all = heard_within front (clocks_of front) (are_clocks front) b a.job in
        let fewer : count_of a.job front < rank_of a.job whole p =
        subst (λ l. count_of a.job l < rank_of a.job whole p)
        (take_at front (b ∷ rest) (length front) refl)
        (count_below whole (length front) p a past is) in (
          λ before. absurd (omega (arith, past, before_rises whole p (length front) before)),
          λ le. absurd (omega (arith, le, all, fewer)),
        )
        )
  ]

-- An event happens before another one exactly if the clock that the other one hears counts it.
pub clocks_decide : (events : List Transition) (p q : ℕ) (a b : Transition)
    → slice_get events p ≡ Some a → slice_get events q ≡ Some b
    → Before events p q ↔ (rank_of a.job events p ≤ heard (clocks_of (take q events)) b a.job)
clocks_decide events p q a b is_first is_second =
    let front = take q events in
    let rest = drop (suc q) events in
    let whole_is : events ≡ front ++ b ∷ rest = split_at events q b is_second in
    let size : length front ≡ q =
    length-take-le q events (omega (arith, slice_get_within events q b is_second)) in
    subst (λ l. Before l p q ↔ (rank_of a.job l p ≤ heard (clocks_of front) b a.job))
    (sym whole_is)
    (subst (λ k. Before (front ++ b ∷ rest) p k
    ↔ (rank_of a.job (front ++ b ∷ rest) p ≤ heard (clocks_of front) b a.job)) size
    (clock_decides front rest b p a (subst (λ l. slice_get l p ≡ Some a) whole_is is_first)))
