-- A test of each premise of a move between small views: where it passes, the premise holds. Where a
-- premise is not decided by a test, its test fails, and an example shows it by itself.
use Rattle.std.specs.Prelude.{◌≡◌, ◌≢◌, ℕ, suc, Bool, true, false, not, ◌&&◌, ◌||◌, ◌==◌, Option}
use Rattle.std.specs.Prelude.{Some, None, List, refl, ◌⊎◌}
use Rattle.std.specs.List.{list_all}
use Rattle.std.proofs.Common.{subst, ap, ◌∙◌, inl, inr}
use Rattle.std.proofs.lemmas.Bool.{and_parts, or_cases, not-true, eqb-true, eq-eqb}
use Rattle.sw_owner_facts.specs.Colours.{Actor, Colour, OfJob, OfActor, Generic, On, Executor}
use Rattle.sw_owner_facts.specs.View.{Frame, above, bottom, Element, Here, Register, FunctionIsolation}
use Rattle.sw_owner_facts.specs.View.{Nonisolated, IsolatedTo, MakesActor, HoldsLive, RunsOn}
use Rattle.sw_owner_facts.specs.Calls.{ResultWith, IsOnActor, IsOnNone}
use Rattle.sw_owner_facts.specs.Calls.{ResultWith, IsOnActor, IsOnNone}
use Rattle.sw_owner_facts.specs.Sketch.{Job, item, no_job, row_at, region_in, view_of}
use Rattle.sw_owner_facts.specs.Premises.{WithinPremise, within_says, FreshenedPremise, freshened_says}
use Rattle.sw_owner_facts.specs.Premises.{MergedPremise, merged_says, WeakenedPremise, weakened_says}
use Rattle.sw_owner_facts.specs.Premises.{UnheldPremise, unheld_says, GivenPremise, given_says}
use Rattle.sw_owner_facts.specs.Premises.{ClosedPremise, closed_says, DispatchedPremise, dispatched_says}
use Rattle.sw_owner_facts.specs.Premises.{PlainPremise, plain_says, SamePremise, same_says, WeakPremise}
use Rattle.sw_owner_facts.specs.Premises.{weak_says, StrongPremise, strong_says, MakePremise, make_says}
use Rattle.sw_owner_facts.specs.Premises.{SpawnedPremise, spawned_says, ReturnedPremise, returned_says}
use Rattle.sw_owner_facts.specs.Premises.{EndedPremise, ended_says, Top, Jobs, SameShape, SameHere}
use Rattle.sw_owner_facts.specs.Premises.{Others, Held, Joined, Change, Fresh, NewColour, HoldsLost}
use Rattle.sw_owner_facts.specs.Premises.{HoldsKept, Recolours, Heights, Running, Unheld, HereTurns}
use Rattle.sw_owner_facts.specs.Premises.{Weakens, Free, Gone, NewShape, Frames, Exclusive, Before}
use Rattle.sw_owner_facts.specs.Premises.{Height, Fits, NotClosing, CallerShape, CallerHeld, CallerJoined}
use Rattle.sw_owner_facts.specs.Premises.{Sent, Stays, SameExecutor, Isolated, NoInitialiser, HereColour}
use Rattle.sw_owner_facts.specs.Premises.{Colours, Result, Calls, IsIsolated, CallerHere, Crosses}
use Rattle.sw_owner_facts.specs.Premises.{NoExecutor, NotIsolated, Leaves, OnActor, NoResult, Makes}
use Rattle.sw_owner_facts.specs.Premises.{Pushes, Ready, Stands}
use Rattle.sw_owner_facts.proofs.Sketches.Same.{same_colour, same_colour_true, same_executor}
use Rattle.sw_owner_facts.proofs.Sketches.Same.{same_executor_true, same_bool, same_bool_true}
use Rattle.sw_owner_facts.proofs.Sketches.Same.{same_isolation, same_isolation_true, same_result}
use Rattle.sw_owner_facts.proofs.Sketches.Same.{same_result_true, same_shapes, same_shapes_true}
use Rattle.sw_owner_facts.proofs.Sketches.Tests.{implies, implied, each_frame, row_of, holders, held_in}
use Rattle.sw_owner_facts.proofs.Sketches.Tests.{in_all}
use Rattle.sw_owner_facts.proofs.Sketches.Reading.{there, holds_live, all_held, held_by, joined}
use Rattle.sw_owner_facts.proofs.Sketches.Reading.{still_joined, all_kept, all_kept_but, kept, kept_but}
use Rattle.sw_owner_facts.proofs.Sketches.Reading.{height_at, same_heights, same_heights_but, fewer_run}
use Rattle.sw_owner_facts.proofs.Sketches.Reading.{fewer_run_but, heights, heights_but, running}
use Rattle.sw_owner_facts.proofs.Sketches.Reading.{running_but}
use Rattle.sw_owner_facts.proofs.Sketches.Moves.{no_result, result_with, same_element, same_element_true}
use Rattle.sw_owner_facts.proofs.Sketches.Moves.{turns, turned, lesser, recoloured, recoloured_test}
use Rattle.sw_owner_facts.proofs.Sketches.Moves.{all_shapes, all_heres, all_lesser, all_turn, all_turned}
use Rattle.sw_owner_facts.proofs.Sketches.Moves.{all_joined, weakens, same_jobs, changes_top}
use Rattle.sw_owner_facts.proofs.Sketches.Moves.{changes_test, is_unheld, unheld_test, calls, called_test}
use Rattle.sw_owner_facts.proofs.Sketches.Moves.{disconnected, disconnected_test, pushed, pushed_test}
use Rattle.sw_owner_facts.proofs.Sketches.Moves.{fits_new, together_in, live_joined}
use Rattle.sw_owner_facts.proofs.Sketches.Moves.{live_joined_test, handed, handed_test, is_of_job}
use Rattle.sw_owner_facts.proofs.Sketches.Moves.{of_job}

-- ---- single tests
abbrev pub is_top : List Job → Frame → Bool
is_top jobs p = height_at jobs p.job == suc p.depth

abbrev pub in_one_region : List Job → Frame → Element → Element → Bool
in_one_region jobs p x y = region_in (row_at jobs p) x == region_in (row_at jobs p) y

pub apart_regions : (jobs : List Job) (p : Frame) (x y : Element)
    → not (in_one_region jobs p x y) ≡ true
    → (view_of jobs).region p x ≡ (view_of jobs).region p y → ⊥
apart_regions jobs p x y e t = cc (
  not-true (in_one_region jobs p x y) e,
  eq-eqb (region_in (row_at jobs p) x) (region_in (row_at jobs p) y) t,
)

-- what element x holds is this colour
abbrev pub all_of : List Job → Frame → Element → Colour → Bool
all_of jobs p x c = list_all (λ h. implies (same_element h.0 x) (same_colour h.1 c))
    (holders (row_at jobs p))

same_element_refl : (x : Element) → same_element x x ≡ true
same_element_refl Here = refl
same_element_refl (Register r) = eq-eqb r r refl

pub holds_only : (jobs : List Job) (p : Frame) (x : Element) (c : Colour) → all_of jobs p x c ≡ true
    → (d : Colour) → HoldsLive (view_of jobs) p x d → d ≡ c
holds_only jobs p x c e d h = same_colour_true d c (implied (same_element x x) (same_colour d c)
    (in_all (λ h. implies (same_element h.0 x) (same_colour h.1 c)) (x, d)
    (holders (row_at jobs p)) e
    (held_in jobs p x d h)) (same_element_refl x))

-- what the other elements hold, they held
abbrev pub rest_test : List Job → List Job → Frame → Element → Bool
rest_test old new p x = list_all (λ h. same_element h.0 x || holds_live old p h.0 h.1)
    (holders (row_at new p))

pub rest_held : (old new : List Job) (p : Frame) (y : Element) → rest_test old new p y ≡ true
    → (x : Element) (c : Colour) → x ≢ y → HoldsLive (view_of new) p x c
    → HoldsLive (view_of old) p x c
rest_held old new p y e x c n h = elim (or_cases (same_element x y) (holds_live old p x c)
    (in_all (λ h. same_element h.0 y || holds_live old p h.0 h.1) (x, c) (holders (row_at new p)) e
    (held_in new p x c h))) [
      | inl is ↦ absurd (n (same_element_true x y is))
      | inr holds ↦ there old p x c holds
    ]

-- a callee isolated to an actor has its colour
abbrev pub isolated_test : FunctionIsolation → Colour → Bool
isolated_test Nonisolated c = true
isolated_test (IsolatedTo a) c = same_colour c (OfActor a)
isolated_test MakesActor c = true

pub isolated_by : (i : FunctionIsolation) (c : Colour) → isolated_test i c ≡ true → (a : Actor)
    → i ≡ IsolatedTo a → c ≡ OfActor a
isolated_by Nonisolated c e a is = absurd (cc (is))
isolated_by (IsolatedTo b) c e a is = same_colour_true c (OfActor b) e ∙ ap OfActor (cc (is))
isolated_by MakesActor c e a is = absurd (cc (is))

abbrev pub result_of : List Job → List Job → Frame → Element → Option ℕ → Bool
result_of old new p x None = true
result_of old new p x (Some r) = still_joined old new p && in_one_region new p x (Register r)

abbrev pub result_test : List Job → List Job → Frame → Element → Bool
result_test old new p x = result_of old new p x (row_at new (above p)).shape.result

pub result_by : (old new : List Job) (p : Frame) (x : Element) → result_test old new p x ≡ true
    → ResultWith (view_of old) (view_of new) p x
result_by old new p x e = by (row_at new (above p)).shape.result refl
  where
    by : (result : Option ℕ) → (row_at new (above p)).shape.result ≡ result
        → ResultWith (view_of old) (view_of new) p x
    by None is = no_result old new p x is
    by (Some r) is = let both =
        and_parts (still_joined old new p) (in_one_region new p x (Register r))
        (subst (λ o. result_of old new p x o ≡ true) is e) in
        result_with old new p r x is both.0 both.1

-- the callee shares the caller's first register
abbrev pub shares_first : List Job → List Job → Frame → Bool
shares_first old new p = holds_live old p (Register 0) (row_at new (above p)).here
    && result_test old new p (Register 0)

-- a frame that stands where its function is isolated to
abbrev pub stands_test : ℕ → FunctionIsolation → Executor → Colour → Bool
stands_test j Nonisolated executor here = same_executor executor Generic && is_of_job j here
stands_test j (IsolatedTo a) executor here = same_executor executor (On a)
    && same_colour here (OfActor a)
stands_test j MakesActor executor here = false

pub stands_by : (jobs : List Job) (p : Frame) (i : FunctionIsolation)
    → (row_at jobs p).shape.isolation ≡ i
    → stands_test p.job i (row_at jobs p).shape.executor (row_at jobs p).here ≡ true
    → ((a : Actor) × IsOnActor (view_of jobs) p a) ⊎ IsOnNone (view_of jobs) p
stands_by jobs p Nonisolated is e =
    let both = and_parts (same_executor (row_at jobs p).shape.executor Generic)
    (is_of_job p.job (row_at jobs p).here) e in
    inr (record {
      isolation = is;
      executor = same_executor_true (row_at jobs p).shape.executor Generic both.0;
      here = of_job p.job (row_at jobs p).here both.1;
    })
stands_by jobs p (IsolatedTo a) is e =
    let both = and_parts (same_executor (row_at jobs p).shape.executor (On a))
    (same_colour (row_at jobs p).here (OfActor a)) e in
    inl (
      a,
      record {
        isolation = is;
        executor = same_executor_true (row_at jobs p).shape.executor (On a) both.0;
        here = same_colour_true (row_at jobs p).here (OfActor a) both.1;
      },
    )
stands_by jobs p MakesActor is e = absurd (cc (e))

-- the frame is the top one of a running job, and stands on the actor
abbrev pub runs_test : List Job → Frame → Actor → Bool
runs_test jobs p a = (item no_job jobs p.job).running
    && (is_top jobs p && same_executor (row_at jobs p).shape.executor (On a))

pub runs_by : (jobs : List Job) (p : Frame) (a : Actor) → runs_test jobs p a ≡ true
    → RunsOn (view_of jobs) p a
runs_by jobs p a e =
    let one = and_parts (item no_job jobs p.job).running
    (is_top jobs p && same_executor (row_at jobs p).shape.executor (On a)) e in
    let two = and_parts (is_top jobs p)
    (same_executor (row_at jobs p).shape.executor (On a)) one.1 in
    record {
      running = one.0;
      top = eqb-true (height_at jobs p.job) (suc p.depth) two.0;
      executor = same_executor_true (row_at jobs p).shape.executor (On a) two.1;
    }

-- ---- Within
abbrev pub within_met : List Job → List Job → Frame → (Element → Element) → WithinPremise → Bool
within_met old new q origin Top = is_top old q
within_met old new q origin Jobs = same_heights old new && fewer_run old new
within_met old new q origin SameShape = same_shapes (row_at new q).shape (row_at old q).shape
within_met old new q origin SameHere = same_colour (row_at new q).here (row_at old q).here
within_met old new q origin Others = all_kept_but q old old new
within_met old new q origin Held = all_held old new q origin
within_met old new q origin Joined = false

pub within_by : (old new : List Job) (q : Frame) (origin : Element → Element)
    (premise : WithinPremise) → within_met old new q origin premise ≡ true
    → within_says (view_of old) (view_of new) (q, origin) premise
within_by old new q origin Top e = eqb-true (height_at old q.job) (suc q.depth) e
within_by old new q origin Jobs e = same_jobs old new e
within_by old new q origin SameShape e =
    same_shapes_true (row_at new q).shape (row_at old q).shape e
within_by old new q origin SameHere e = same_colour_true (row_at new q).here (row_at old q).here e
within_by old new q origin Others e = kept_but q old old new e
within_by old new q origin Held e = held_by old new q origin e
within_by old new q origin Joined e = absurd (cc (e))

-- ---- Freshened
abbrev pub freshened_met : List Job → List Job → Frame → ℕ → ℕ → FreshenedPremise → Bool
freshened_met old new q r number Change = changes_test old new q
freshened_met old new q r number Fresh = unheld_test old (OfJob q.job number)
freshened_met old new q r number NewColour = all_of new q (Register r) (OfJob q.job number)
freshened_met old new q r number Held = rest_test old new q (Register r)
freshened_met old new q r number Joined = still_joined old new q

pub freshened_by : (old new : List Job) (q : Frame) (r number : ℕ) (premise : FreshenedPremise)
    → freshened_met old new q r number premise ≡ true
    → freshened_says (view_of old) (view_of new) (q, r, number) premise
freshened_by old new q r number Change e = changes_top old new q e
freshened_by old new q r number Fresh e = is_unheld old (OfJob q.job number) e
freshened_by old new q r number NewColour e = holds_only new q (Register r) (OfJob q.job number) e
freshened_by old new q r number Held e = rest_held old new q (Register r) e
freshened_by old new q r number Joined e = λ x y a b t. joined old new q e x y t

-- ---- Merged
abbrev pub merged_met : List Job → List Job → Frame → Element → Element → ℕ → Colour → MergedPremise
    → Bool
merged_met old new q x y number after Top = is_top old q
merged_met old new q x y number after HoldsLost = holds_live old q x (OfJob q.job number)
merged_met old new q x y number after HoldsKept = holds_live old q y after
merged_met old new q x y number after Recolours = recoloured_test old new (OfJob q.job number) after
merged_met old new q x y number after Joined = in_one_region new q x y

pub merged_by : (old new : List Job) (q : Frame) (x y : Element) (number : ℕ) (after : Colour)
    (premise : MergedPremise) → merged_met old new q x y number after premise ≡ true
    → merged_says (view_of old) (view_of new) (q, x, y, number, after) premise
merged_by old new q x y number after Top e = eqb-true (height_at old q.job) (suc q.depth) e
merged_by old new q x y number after HoldsLost e = there old q x (OfJob q.job number) e
merged_by old new q x y number after HoldsKept e = there old q y after e
merged_by old new q x y number after Recolours e = recoloured old new q.job number after e
merged_by old new q x y number after Joined e =
    eqb-true (region_in (row_at new q) x) (region_in (row_at new q) y) e

-- ---- Weakened
abbrev pub weakened_met : List Job → List Job → WeakenedPremise → Bool
weakened_met old new Heights = same_heights old new
weakened_met old new Running = fewer_run old new
weakened_met old new SameShape =
    each_frame old (λ j d. same_shapes (row_of new j d).shape (row_of old j d).shape)
weakened_met old new SameHere =
    each_frame old (λ j d. same_colour (row_of new j d).here (row_of old j d).here)
weakened_met old new Held =
    each_frame old (λ j d. all_held old new (record { job = j; depth = d }) (λ x. x))
weakened_met old new Joined =
    each_frame old (λ j d. still_joined old new (record { job = j; depth = d }))

pub weakened_by : (old new : List Job) (premise : WeakenedPremise)
    → weakened_met old new premise ≡ true
    → weakened_says (view_of old) (view_of new) tt premise
weakened_by old new Heights e = heights old new e
weakened_by old new Running e = running old new e
weakened_by old new SameShape e = all_shapes old new e
weakened_by old new SameHere e = all_heres old new e
weakened_by old new Held e = all_lesser old new e
weakened_by old new Joined e = all_joined old new e

-- ---- Recoloured
abbrev pub unheld_met : List Job → List Job → ℕ → ℕ → Colour → UnheldPremise → Bool
unheld_met old new j number after Unheld = unheld_test old (OfJob j number)
unheld_met old new j number after Jobs = same_heights old new && fewer_run old new
unheld_met old new j number after SameShape =
    each_frame old (λ j d. same_shapes (row_of new j d).shape (row_of old j d).shape)
unheld_met old new j number after HereTurns =
    each_frame old (λ i d. same_colour (row_of new i d).here
    (turns (OfJob j number) after (row_of old i d).here))
unheld_met old new j number after Held = each_frame new (turned old new (OfJob j number) after)
unheld_met old new j number after Joined =
    each_frame old (λ j d. still_joined old new (record { job = j; depth = d }))

pub unheld_by : (old new : List Job) (j number : ℕ) (after : Colour) (premise : UnheldPremise)
    → unheld_met old new j number after premise ≡ true
    → unheld_says (view_of old) (view_of new) (j, number, after) premise
unheld_by old new j number after Unheld e = is_unheld old (OfJob j number) e
unheld_by old new j number after Jobs e = same_jobs old new e
unheld_by old new j number after SameShape e = all_shapes old new e
unheld_by old new j number after HereTurns e = all_turn old new (OfJob j number) after e
unheld_by old new j number after Held e = all_turned old new (OfJob j number) after e
unheld_by old new j number after Joined e = all_joined old new e

-- ---- Given
abbrev pub given_met : List Job → List Job → Frame → Element → GivenPremise → Bool
given_met old new q x Top = is_top old q
given_met old new q x Weakens = (same_heights old new && fewer_run old new)
    && each_frame old (lesser old new)
given_met old new q x Free = not (in_one_region old q x Here)
given_met old new q x Gone = false

pub given_by : (old new : List Job) (q : Frame) (x : Element) (premise : GivenPremise)
    → given_met old new q x premise ≡ true
    → given_says (view_of old) (view_of new) (q, x) premise
given_by old new q x Top e = eqb-true (height_at old q.job) (suc q.depth) e
given_by old new q x Weakens e = weakens old new e
given_by old new q x Free e = apart_regions old q x Here e
given_by old new q x Gone e = absurd (cc (e))

-- ---- Closed
abbrev pub closed_met : List Job → List Job → Frame → ClosedPremise → Bool
closed_met old new q Top = is_top old q
closed_met old new q Jobs = same_heights old new && fewer_run old new
closed_met old new q NewShape =
    same_shapes (row_at new q).shape (record (row_at old q).shape { closing = true })
closed_met old new q SameHere = same_colour (row_at new q).here (row_at old q).here
closed_met old new q Others = all_kept_but q old old new

pub closed_by : (old new : List Job) (q : Frame) (premise : ClosedPremise)
    → closed_met old new q premise ≡ true
    → closed_says (view_of old) (view_of new) q premise
closed_by old new q Top e = eqb-true (height_at old q.job) (suc q.depth) e
closed_by old new q Jobs e = same_jobs old new e
closed_by old new q NewShape e =
    same_shapes_true (row_at new q).shape (record (row_at old q).shape { closing = true }) e
closed_by old new q SameHere e = same_colour_true (row_at new q).here (row_at old q).here e
closed_by old new q Others e = kept_but q old old new e

-- ---- Dispatched
abbrev pub dispatched_met : List Job → List Job → ℕ → DispatchedPremise → Bool
dispatched_met old new j Heights = same_heights old new
dispatched_met old new j Running = fewer_run_but j old new
dispatched_met old new j Frames = all_kept old old new
dispatched_met old new j Exclusive = false

pub dispatched_by : (old new : List Job) (j : ℕ) (premise : DispatchedPremise)
    → dispatched_met old new j premise ≡ true
    → dispatched_says (view_of old) (view_of new) j premise
dispatched_by old new j Heights e = heights old new e
dispatched_by old new j Running e = running_but j old new e
dispatched_by old new j Frames e = kept old old new e
dispatched_by old new j Exclusive e = absurd (cc (e))

-- ---- CalledPlain
abbrev pub plain_met : List Job → List Job → Frame → PlainPremise → Bool
plain_met old new p Before = height_at old p.job == suc p.depth
plain_met old new p Height = height_at new p.job == suc (suc p.depth)
plain_met old new p Heights = same_heights_but p.job old new
plain_met old new p Running = fewer_run old new
plain_met old new p Fits = together_in new (above p)
plain_met old new p NotClosing = not (row_at old p).shape.closing
plain_met old new p CallerShape = same_shapes (row_at new p).shape (row_at old p).shape
plain_met old new p CallerHeld = all_held old new p (λ x. x)
plain_met old new p CallerJoined = live_joined_test old new p
plain_met old new p Others = all_kept_but p old old new
plain_met old new p Sent = handed_test old new (above p)
plain_met old new p Stays = same_bool (row_at new (above p)).shape.crossing false
plain_met old new p SameExecutor = same_executor (row_at new (above p)).shape.executor
    (row_at new p).shape.executor
plain_met old new p Isolated = isolated_test (row_at new (above p)).shape.isolation
    (row_at new (above p)).here
plain_met old new p NoInitialiser =
    not (same_isolation (row_at new (above p)).shape.isolation MakesActor)
plain_met old new p HereColour = shares_first old new p
    || disconnected_test old p.job (row_at new (above p)).here

pub plain_by : (old new : List Job) (p : Frame) (premise : PlainPremise)
    → plain_met old new p premise ≡ true
    → plain_says (view_of old) (view_of new) p premise
plain_by old new p Before e = eqb-true (height_at old p.job) (suc p.depth) e
plain_by old new p Height e = eqb-true (height_at new p.job) (suc (suc p.depth)) e
plain_by old new p Heights e = heights_but p.job old new e
plain_by old new p Running e = running old new e
plain_by old new p Fits e = fits_new new (above p) e
plain_by old new p NotClosing e = not-true (row_at old p).shape.closing e
plain_by old new p CallerShape e = same_shapes_true (row_at new p).shape (row_at old p).shape e
plain_by old new p CallerHeld e = held_by old new p (λ x. x) e
plain_by old new p CallerJoined e = live_joined old new p e
plain_by old new p Others e = kept_but p old old new e
plain_by old new p Sent e = handed old new (above p) e
plain_by old new p Stays e = same_bool_true (row_at new (above p)).shape.crossing false e
plain_by old new p SameExecutor e = same_executor_true (row_at new (above p)).shape.executor
    (row_at new p).shape.executor e
plain_by old new p Isolated e = isolated_by (row_at new (above p)).shape.isolation
    (row_at new (above p)).here e
plain_by old new p NoInitialiser e =
    λ is. cc (is, not-true (same_isolation (row_at new (above p)).shape.isolation MakesActor) e)
plain_by old new p HereColour e = elim (or_cases (shares_first old new p)
    (disconnected_test old p.job (row_at new (above p)).here) e) [
      | inl shared ↦ (let both = and_parts
          (holds_live old p (Register 0) (row_at new (above p)).here)
          (result_test old new p (Register 0)) shared in
          inl (
            Register 0,
            record {
              colour = there old p (Register 0) (row_at new (above p)).here both.0;
              result = result_by old new p (Register 0) both.1;
            },
          ))
      | inr alone ↦ inr (disconnected old p.job (row_at new (above p)).here alone)
    ]

-- ---- CalledSame
abbrev pub same_met : List Job → List Job → Frame → Actor → SamePremise → Bool
same_met old new p a Calls = called_test old new p
same_met old new p a Stays = same_bool (row_at new (above p)).shape.crossing false
same_met old new p a SameExecutor = same_executor (row_at new (above p)).shape.executor
    (row_at new p).shape.executor
same_met old new p a IsIsolated = same_isolation (row_at new (above p)).shape.isolation
    (IsolatedTo a)
same_met old new p a HereColour = same_colour (row_at new (above p)).here (OfActor a)
same_met old new p a CallerHere = same_colour (row_at old p).here (OfActor a)
same_met old new p a Result = result_test old new p Here

pub same_by : (old new : List Job) (p : Frame) (a : Actor) (premise : SamePremise)
    → same_met old new p a premise ≡ true
    → same_says (view_of old) (view_of new) (p, a) premise
same_by old new p a Calls e = calls old new p e
same_by old new p a Stays e = same_bool_true (row_at new (above p)).shape.crossing false e
same_by old new p a SameExecutor e = same_executor_true (row_at new (above p)).shape.executor
    (row_at new p).shape.executor e
same_by old new p a IsIsolated e = same_isolation_true (row_at new (above p)).shape.isolation
    (IsolatedTo a) e
same_by old new p a HereColour e = same_colour_true (row_at new (above p)).here (OfActor a) e
same_by old new p a CallerHere e = same_colour_true (row_at old p).here (OfActor a) e
same_by old new p a Result e = result_by old new p Here e

-- ---- CalledWeak
abbrev pub weak_met : List Job → List Job → Frame → Element → WeakPremise → Bool
weak_met old new p s Calls = called_test old new p
weak_met old new p s Crosses = same_bool (row_at new (above p)).shape.crossing true
weak_met old new p s NoExecutor = same_executor (row_at new (above p)).shape.executor Generic
weak_met old new p s NotIsolated = same_isolation (row_at new (above p)).shape.isolation Nonisolated
weak_met old new p s Colours = holds_live old p s (row_at new (above p)).here
weak_met old new p s Result = result_test old new p s
weak_met old new p s Free = not (in_one_region old p s Here)

pub weak_by : (old new : List Job) (p : Frame) (s : Element) (premise : WeakPremise)
    → weak_met old new p s premise ≡ true
    → weak_says (view_of old) (view_of new) (p, s) premise
weak_by old new p s Calls e = calls old new p e
weak_by old new p s Crosses e = same_bool_true (row_at new (above p)).shape.crossing true e
weak_by old new p s NoExecutor e =
    same_executor_true (row_at new (above p)).shape.executor Generic e
weak_by old new p s NotIsolated e =
    same_isolation_true (row_at new (above p)).shape.isolation Nonisolated e
weak_by old new p s Colours e = there old p s (row_at new (above p)).here e
weak_by old new p s Result e = result_by old new p s e
weak_by old new p s Free e = apart_regions old p s Here e

-- ---- CalledStrong
abbrev pub strong_met : List Job → List Job → Frame → Actor → StrongPremise → Bool
strong_met old new p a Calls = called_test old new p
strong_met old new p a Crosses = same_bool (row_at new (above p)).shape.crossing true
strong_met old new p a Leaves = not (item no_job new p.job).running
strong_met old new p a IsIsolated = same_isolation (row_at new (above p)).shape.isolation
    (IsolatedTo a)
strong_met old new p a OnActor = same_executor (row_at new (above p)).shape.executor (On a)
strong_met old new p a HereColour = same_colour (row_at new (above p)).here (OfActor a)
strong_met old new p a NoResult = same_result (row_at new (above p)).shape.result None

pub strong_by : (old new : List Job) (p : Frame) (a : Actor) (premise : StrongPremise)
    → strong_met old new p a premise ≡ true
    → strong_says (view_of old) (view_of new) (p, a) premise
strong_by old new p a Calls e = calls old new p e
strong_by old new p a Crosses e = same_bool_true (row_at new (above p)).shape.crossing true e
strong_by old new p a Leaves e = not-true (item no_job new p.job).running e
strong_by old new p a IsIsolated e = same_isolation_true (row_at new (above p)).shape.isolation
    (IsolatedTo a) e
strong_by old new p a OnActor e = same_executor_true (row_at new (above p)).shape.executor (On a) e
strong_by old new p a HereColour e = same_colour_true (row_at new (above p)).here (OfActor a) e
strong_by old new p a NoResult e = same_result_true (row_at new (above p)).shape.result None e

-- ---- CalledMake
abbrev pub make_met : List Job → List Job → Frame → MakePremise → Bool
make_met old new p Calls = called_test old new p
make_met old new p Stays = same_bool (row_at new (above p)).shape.crossing false
make_met old new p SameExecutor = same_executor (row_at new (above p)).shape.executor
    (row_at new p).shape.executor
make_met old new p Makes = same_isolation (row_at new (above p)).shape.isolation MakesActor
make_met old new p HereColour = disconnected_test old p.job (row_at new (above p)).here

pub make_by : (old new : List Job) (p : Frame) (premise : MakePremise)
    → make_met old new p premise ≡ true
    → make_says (view_of old) (view_of new) p premise
make_by old new p Calls e = calls old new p e
make_by old new p Stays e = same_bool_true (row_at new (above p)).shape.crossing false e
make_by old new p SameExecutor e = same_executor_true (row_at new (above p)).shape.executor
    (row_at new p).shape.executor e
make_by old new p Makes e = same_isolation_true (row_at new (above p)).shape.isolation MakesActor e
make_by old new p HereColour e = disconnected old p.job (row_at new (above p)).here e

-- ---- Spawned
abbrev pub spawned_met : List Job → List Job → ℕ → SpawnedPremise → Bool
spawned_met old new j Pushes = pushed_test old new (bottom j)
spawned_met old new j Others = all_kept old old new
spawned_met old new j Ready = not (item no_job new j).running
spawned_met old new j Held = handed_test old new (bottom j)
spawned_met old new j Stands = stands_test j (row_at new (bottom j)).shape.isolation
    (row_at new (bottom j)).shape.executor (row_at new (bottom j)).here

pub spawned_by : (old new : List Job) (j : ℕ) (premise : SpawnedPremise)
    → spawned_met old new j premise ≡ true
    → spawned_says (view_of old) (view_of new) j premise
spawned_by old new j Pushes e = pushed old new (bottom j) e
spawned_by old new j Others e = kept old old new e
spawned_by old new j Ready e = not-true (item no_job new j).running e
spawned_by old new j Held e = handed old new (bottom j) e
spawned_by old new j Stands e = stands_by new (bottom j) (row_at new (bottom j)).shape.isolation
    refl e

-- ---- Returned
abbrev pub returned_met : List Job → List Job → Frame → ℕ → ReturnedPremise → Bool
returned_met old new p r Top = is_top old (above p)
returned_met old new p r Height = height_at new p.job == suc p.depth
returned_met old new p r Heights = same_heights_but p.job old new
returned_met old new p r Running = fewer_run old new
returned_met old new p r Leaves = implies (row_at old (above p)).shape.crossing
    (not (item no_job new p.job).running)
returned_met old new p r SameShape = same_shapes (row_at new p).shape (row_at old p).shape
returned_met old new p r Held = false
returned_met old new p r Joined = still_joined old new p
returned_met old new p r Others = all_kept_but p new old new

pub returned_by : (old new : List Job) (p : Frame) (r : ℕ) (premise : ReturnedPremise)
    → returned_met old new p r premise ≡ true
    → returned_says (view_of old) (view_of new) (p, r) premise
returned_by old new p r Top e = eqb-true (height_at old p.job) (suc (suc p.depth)) e
returned_by old new p r Height e = eqb-true (height_at new p.job) (suc p.depth) e
returned_by old new p r Heights e = heights_but p.job old new e
returned_by old new p r Running e = running old new e
returned_by old new p r Leaves e = λ crosses. not-true (item no_job new p.job).running
    (implied (row_at old (above p)).shape.crossing (not (item no_job new p.job).running) e crosses)
returned_by old new p r SameShape e = same_shapes_true (row_at new p).shape (row_at old p).shape e
returned_by old new p r Held e = absurd (cc (e))
returned_by old new p r Joined e = joined old new p e
returned_by old new p r Others e = kept_but p new old new e

-- ---- Ended
abbrev pub ended_met : List Job → List Job → ℕ → EndedPremise → Bool
ended_met old new j Height = height_at new j == 0
ended_met old new j Heights = same_heights_but j old new
ended_met old new j Running = fewer_run_but j old new
ended_met old new j Others = all_kept new old new

pub ended_by : (old new : List Job) (j : ℕ) (premise : EndedPremise)
    → ended_met old new j premise ≡ true
    → ended_says (view_of old) (view_of new) j premise
ended_by old new j Height e = eqb-true (height_at new j) 0 e
ended_by old new j Heights e = heights_but j old new e
ended_by old new j Running e = running_but j old new e
ended_by old new j Others e = kept new old new e
