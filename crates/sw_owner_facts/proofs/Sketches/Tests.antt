-- A test of small views: where it passes, the view is sound.
use Rattle.std.proofs.Common.{sym, subst, ap, ◌∙◌, inl, inr, arith}
use Rattle.std.proofs.lemmas.Bool.{and_parts, or_cases, not-true, eqb-true, cases_eq, or_right}
use Rattle.std.specs.List.{list_all}
use Rattle.std.specs.Prelude.{◌≡◌, ◌⊎◌, ℕ, zero, suc, ◌+◌, ◌<◌, Bool, true, false, not, ◌&&◌, ◌||◌}
use Rattle.std.specs.Prelude.{◌==◌, if◌then◌else◌, Option, Some, None, List, [], ◌∷◌, length}
use Rattle.std.specs.Prelude.{Contains, refl, ◌++◌, slice_index_or}
use Rattle.sw_owner_facts.specs.Colours.{Actor, Colour, OfJob, OfActor, Executor, Generic, On, IsOwnedBy}
use Rattle.sw_owner_facts.specs.Owned.{IsOwned, IsStacked, IsReturnLinked, IsInitialiserLinked, IsSound}
use Rattle.sw_owner_facts.specs.Sketch.{RegisterSketch, Row, Job, item, no_slot, no_job, rows_of, row_at}
use Rattle.sw_owner_facts.specs.Sketch.{region_in}
use Rattle.sw_owner_facts.specs.Sketch.{view_of, no_row}
use Rattle.sw_owner_facts.specs.View.{Frame, above, Element, Here, Register, FunctionIsolation}
use Rattle.sw_owner_facts.specs.View.{Nonisolated}
use Rattle.sw_owner_facts.specs.View.{IsolatedTo, MakesActor, FrameShape, IsFrame, HoldsLive, InOneRegion}
use Rattle.sw_owner_facts.specs.View.{IsLowerFrame, View, RunsOn}
use Rattle.sw_owner_facts.proofs.FrameLemmas.{top_is_frame}
use Rattle.sw_owner_facts.proofs.Sketches.Same.{same_actor, same_actor_refl, same_actor_true, same_colour}
use Rattle.sw_owner_facts.proofs.Sketches.Same.{same_colour_refl, same_colour_true, same_executor}
use Rattle.sw_owner_facts.proofs.Sketches.Same.{same_executor_true, stands_on, stands_on_true}

-- ---- tests of all numbers below one, and of all items
abbrev pub all_below : ℕ → (ℕ → Bool) → Bool
all_below zero test = true
all_below (suc n) test = all_below n test && test n

pub below_all : (n : ℕ) (test : ℕ → Bool) (k : ℕ) → all_below n test ≡ true → k < n → test k ≡ true
below_all zero test k e lt = absurd (omega arith)
below_all (suc n) test k e lt = let both = and_parts (all_below n test) (test n) e in
    elim (cases_eq k n) [
      | inl is ↦ ap test is ∙ both.1
      | inr differs ↦ below_all n test k both.0 (omega (arith, differs))
    ]

abbrev pub In : {A : Type 0} → A → List A → Type 0
In x [] = ⊥
In x (y ∷ ys) = (x ≡ y) ⊎ In x ys

pub in_all : {A : Type 0} (test : A → Bool) (x : A) (xs : List A) → list_all test xs ≡ true
    → In x xs → test x ≡ true
in_all test x [] e h = absurd h
in_all test x (y ∷ ys) e (inl is) = ap test is ∙ (and_parts (test y) (list_all test ys) e).0
in_all test x (y ∷ ys) e (inr later) = in_all test x ys (and_parts (test y) (list_all test ys) e).1
    later

pub in_left : {A : Type 0} (x : A) (xs ys : List A) → In x xs → In x (xs ++ ys)
in_left x [] ys h = absurd h
in_left x (y ∷ xs) ys (inl e) = inl e
in_left x (y ∷ xs) ys (inr h) = inr (in_left x xs ys h)

pub in_right : {A : Type 0} (x : A) (xs ys : List A) → In x ys → In x (xs ++ ys)
in_right x [] ys h = h
in_right x (y ∷ xs) ys h = inr (in_right x xs ys h)

-- ---- what the elements of a row hold
abbrev pub marked : ℕ → List Colour → List (Element × Colour)
marked n [] = []
marked n (c ∷ cs) = (Register n, c) ∷ marked n cs

pub in_from : {A : Type 0} (x : A) (xs : List A) (k : ℕ) → k < length xs → slice_index_or xs k x ≡ x
    → In x xs
in_from x [] k lt e = absurd (omega arith)
in_from x (y ∷ xs) zero lt e = inl (sym e)
in_from x (y ∷ xs) (suc k) lt e = inr (in_from x xs k (omega arith) e)

pub marked_in : (n : ℕ) (c : Colour) (cs : List Colour) → In c cs → In (Register n, c) (marked n cs)
marked_in n c [] h = absurd h
marked_in n c (d ∷ cs) (inl e) = inl (ap (λ c. (Register n, c)) e)
marked_in n c (d ∷ cs) (inr h) = inr (marked_in n c cs h)

abbrev pub slot_holders : ℕ → List RegisterSketch → List (Element × Colour)
slot_holders n [] = []
slot_holders n (s ∷ ss) = (if s.live then marked n s.colours else []) ++ slot_holders (suc n) ss

pub slot_in : (n r : ℕ) (c : Colour) (ss : List RegisterSketch) → (item no_slot ss r).live ≡ true
    → Contains (item no_slot ss r).colours c
    → In (Register (n + r), c) (slot_holders n ss)
slot_in n r c [] live h = absurd (omega (arith, h.1))
slot_in n zero c (s ∷ ss) live h = in_left (Register (n + 0), c) _ (slot_holders (suc n) ss)
    (rw live (subst (λ m. In (Register m, c) (marked n s.colours)) (omega arith)
    (marked_in n c s.colours (in_from c s.colours h.0 h.1 h.2))))
slot_in n (suc r) c (s ∷ ss) live h = in_right (Register (n + suc r), c)
    (if s.live then marked n s.colours else []) _
    (subst (λ m. In (Register m, c) (slot_holders (suc n) ss)) (omega arith)
    (slot_in (suc n) r c ss live h))

-- the live elements of a row, each with a colour that it holds
abbrev pub holders : Row → List (Element × Colour)
holders row = if row.shape.closing then [] else ((Here, row.here) ∷ slot_holders 0 row.slots)

pub held_in : (jobs : List Job) (p : Frame) (x : Element) (c : Colour)
    → HoldsLive (view_of jobs) p x c → In (x, c) (holders (row_at jobs p))
held_in jobs p Here c h = rw h.not_closing (inl (ap (λ c. (Here, c)) (sym h.holds)))
held_in jobs p (Register r) c h = rw h.not_closing
    (inr (subst (λ m. In (Register m, c) (slot_holders 0 (row_at jobs p).slots)) (omega arith)
    (slot_in 0 r c (row_at jobs p).slots h.live h.holds)))

-- ---- the tests
abbrev pub implies : Bool → Bool → Bool
implies a b = not a || b

pub implied : (a b : Bool) → implies a b ≡ true → a ≡ true → b ≡ true
implied true b e h = e
implied false b e h = absurd (cc (h))

abbrev pub each_pair : List (Element × Colour) → List (Element × Colour)
    → (Element × Colour → Element × Colour → Bool) → Bool
each_pair hs ks test = list_all (λ h. list_all (test h) ks) hs

pub pair_all : (hs ks : List (Element × Colour)) (test : Element × Colour → Element × Colour → Bool)
    (h k : Element × Colour)
    → each_pair hs ks test ≡ true → In h hs → In k ks → test h k ≡ true
pair_all hs ks test h k e h_in k_in = in_all (test h) k ks
    (in_all (λ h. list_all (test h) ks) h hs e h_in) k_in

abbrev pub owned_by : ℕ → Executor → Colour → Bool
owned_by job executor (OfJob j n) = j == job
owned_by job executor (OfActor a) = stands_on executor a

pub owned_by_true : (job : ℕ) (executor : Executor) (c : Colour) → owned_by job executor c ≡ true
    → IsOwnedBy job executor c
owned_by_true job executor (OfJob j n) e = eqb-true j job e
owned_by_true job executor (OfActor a) e = stands_on_true executor a e

abbrev pub is_here : Colour → Colour → Bool
is_here here (OfJob j n) = true
is_here here (OfActor a) = same_colour here (OfActor a)

abbrev pub isolation_fits : FunctionIsolation → Executor → Colour → Bool
isolation_fits Nonisolated e c = true
isolation_fits (IsolatedTo a) e c = stands_on e a && same_colour c (OfActor a)
isolation_fits MakesActor e c = true

abbrev pub is_isolated : FunctionIsolation → Actor → Bool
is_isolated Nonisolated a = false
is_isolated (IsolatedTo b) a = same_actor b a
is_isolated MakesActor a = false

pub is_isolated_true : (i : FunctionIsolation) (a : Actor) → is_isolated i a ≡ true
    → i ≡ IsolatedTo a
is_isolated_true Nonisolated a e = absurd (cc (e))
is_isolated_true (IsolatedTo b) a e = ap IsolatedTo (same_actor_true b a e)
is_isolated_true MakesActor a e = absurd (cc (e))

abbrev pub enters_rightly : Bool → Executor → FunctionIsolation → Bool
enters_rightly from_elsewhere Generic i = true
enters_rightly from_elsewhere (On a) i = not from_elsewhere || is_isolated i a

abbrev pub is_makes : FunctionIsolation → Bool
is_makes Nonisolated = false
is_makes (IsolatedTo a) = false
is_makes MakesActor = true

abbrev pub is_bottom : ℕ → Bool
is_bottom zero = true
is_bottom (suc d) = false

abbrev pub shared : Element × Colour → Element × Colour → Bool
shared h k = same_colour h.1 k.1

-- one frame
abbrev pub owned_test : ℕ → Row → Bool
owned_test j row = list_all (λ h. owned_by j row.shape.executor h.1) (holders row)

abbrev pub here_test : Row → Bool
here_test row = list_all (λ h. is_here row.here h.1) (holders row)

abbrev pub together_test : Row → Bool
together_test row = each_pair (holders row) (holders row)
    (λ h k. implies (shared h k) (region_in row h.0 == region_in row k.0))

abbrev pub isolation_test : Row → Bool
isolation_test row = isolation_fits row.shape.isolation row.shape.executor row.here

abbrev pub entered_test : ℕ → Row → Bool
entered_test d row = enters_rightly (is_bottom d || row.shape.crossing) row.shape.executor
    row.shape.isolation

-- a frame and a later one
abbrev pub apart_test : Row → Row → Bool
apart_test low high = each_pair (holders low) (holders high)
    (λ h k. implies (shared h k) (same_colour high.here k.1))

abbrev pub alone_test : Row → Row → Bool
alone_test low high = implies (is_makes high.shape.isolation && not high.shape.closing)
    (list_all (λ h. not (same_colour h.1 high.here)) (holders low))

abbrev pub linked_test : Option ℕ → Bool → Executor → Bool
linked_test None crossing e = true
linked_test (Some r) crossing e = implies crossing (same_executor e Generic)

abbrev pub near_test : Option ℕ → Row → Row → Bool
near_test None row callee = true
near_test (Some r) row callee = callee.shape.closing
    || list_all (λ h. implies (same_colour h.1 callee.here)
    (region_in row h.0 == region_in row (Register r))) (holders row)

abbrev pub far_test : Option ℕ → Row → Row → Row → Bool
far_test None low row callee = true
far_test (Some r) low row callee = callee.shape.closing
    || list_all (λ h. implies (same_colour h.1 callee.here) (same_colour row.here h.1))
    (holders low)

-- a frame and the one above it
abbrev pub inherited_test : Row → Row → Bool
inherited_test row callee = implies (not callee.shape.crossing)
    (same_executor callee.shape.executor row.shape.executor)

abbrev pub top_of : List Row → Row
top_of [] = no_row
top_of (row ∷ rows) = item no_row (row ∷ rows) (length rows)

abbrev pub apart_from : Executor → Executor → Bool
apart_from Generic e = true
apart_from (On a) e = not (stands_on e a)

abbrev pub never_both : Job → Job → Bool
never_both one other = not one.running ||
    (not other.running || apart_from (top_of one.rows).shape.executor
    (top_of other.rows).shape.executor)

abbrev pub row_of : List Job → ℕ → ℕ → Row
row_of jobs j d = item no_row (rows_of jobs j) d

-- the tests of a frame, by its job and its depth
abbrev pub owned_frame : List Job → ℕ → ℕ → Bool
owned_frame jobs j d = owned_test j (row_of jobs j d) &&
    (here_test (row_of jobs j d) && (together_test (row_of jobs j d)
    && (isolation_test (row_of jobs j d) && all_below d
    (λ o. apart_test (row_of jobs j o) (row_of jobs j d)))))

abbrev pub stacked_callee : List Job → ℕ → ℕ → Bool
stacked_callee jobs j zero = true
stacked_callee jobs j (suc d) = inherited_test (row_of jobs j d) (row_of jobs j (suc d))
    && (linked_test (row_of jobs j (suc d)).shape.result (row_of jobs j (suc d)).shape.crossing
    (row_of jobs j (suc d)).shape.executor
    && not (row_of jobs j d).shape.closing)

abbrev pub stacked_frame : List Job → ℕ → ℕ → Bool
stacked_frame jobs j d = entered_test d (row_of jobs j d) && stacked_callee jobs j d

abbrev pub returns_frame : List Job → ℕ → ℕ → Bool
returns_frame jobs j zero = true
returns_frame jobs j (suc d) = near_test (row_of jobs j (suc d)).shape.result (row_of jobs j d)
    (row_of jobs j (suc d))
    && all_below d (λ o. far_test (row_of jobs j (suc d)).shape.result (row_of jobs j o)
    (row_of jobs j d) (row_of jobs j (suc d)))

abbrev pub initialisers_frame : List Job → ℕ → ℕ → Bool
initialisers_frame jobs j d = all_below d (λ o. alone_test (row_of jobs j o) (row_of jobs j d))

abbrev pub each_frame : List Job → (ℕ → ℕ → Bool) → Bool
each_frame jobs test = all_below (length jobs) (λ j. all_below (length (rows_of jobs j)) (test j))

abbrev pub each_job : List Job → Bool
each_job jobs = all_below (length jobs)
    (λ i. all_below (length jobs) (λ j. (i == j) || never_both (item no_job jobs i)
    (item no_job jobs j)))

-- ---- where the tests pass
pub job_bound : (jobs : List Job) (j d : ℕ) → d < length (rows_of jobs j) → j < length jobs
job_bound [] j d f = absurd (omega arith)
job_bound (job ∷ jobs) zero d f = omega arith
job_bound (job ∷ jobs) (suc j) d f = omega (arith, job_bound jobs j d f)

pub frame_passes : (jobs : List Job) (test : ℕ → ℕ → Bool) → each_frame jobs test ≡ true
    → (p : Frame) → IsFrame (view_of jobs) p → test p.job p.depth ≡ true
frame_passes jobs test passes p f = below_all (length (rows_of jobs p.job)) (test p.job) p.depth
    (below_all (length jobs) (λ j. all_below (length (rows_of jobs j)) (test j)) p.job passes
    (job_bound jobs p.job p.depth f)) f

module _ (jobs : List Job) (passes : each_frame jobs (owned_frame jobs) ≡ true)
    (jobs_pass : each_job jobs ≡ true) where
  abbrev w : View
  w = view_of jobs

  abbrev row : Frame → Row
  row p = row_at jobs p

  abbrev apart_of : Frame → Bool
  apart_of p = all_below p.depth (λ o. apart_test (row_of jobs p.job o) (row p))

  parts : (p : Frame) → IsFrame w p → (owned_test p.job (row p) ≡ true) × (here_test (row p) ≡ true)
      × (together_test (row p) ≡ true) × (isolation_test (row p) ≡ true) × (apart_of p ≡ true)
  parts p f =
      let a = and_parts (owned_test p.job (row p))
      (here_test (row p) && (together_test (row p) && (isolation_test (row p) && apart_of p)))
      (frame_passes jobs (owned_frame jobs) passes p f) in
      let b = and_parts (here_test (row p))
      (together_test (row p) && (isolation_test (row p) && apart_of p)) a.1 in
      let c = and_parts (together_test (row p)) (isolation_test (row p) && apart_of p) b.1 in
      let d = and_parts (isolation_test (row p)) (apart_of p) c.1 in
      (a.0, b.0, c.0, d.0, d.1)

  is_owned : {p : Frame} {x : Element} {c : Colour} → HoldsLive w p x c
      → IsOwnedBy p.job (w.shape p).executor c
  is_owned {p} {x} {c} h = owned_by_true p.job (row p).shape.executor c
      (in_all (λ h. owned_by p.job (row p).shape.executor h.1) (x, c) (holders (row p))
      (parts p h.frame).0 (held_in jobs p x c h))

  has_here : {p : Frame} {x : Element} {a : Actor} → HoldsLive w p x (OfActor a)
      → w.here p ≡ OfActor a
  has_here {p} {x} {a} h = same_colour_true (row p).here (OfActor a)
      (in_all (λ h. is_here (row p).here h.1) (x, OfActor a) (holders (row p)) (parts p h.frame).1
      (held_in jobs p x (OfActor a) h))

  is_together : {p : Frame} {x y : Element} {c : Colour} → HoldsLive w p x c → HoldsLive w p y c
      → InOneRegion w p x y
  is_together {p} {x} {y} {c} h k = eqb-true (region_in (row p) x) (region_in (row p) y)
      (implied (same_colour c c) (region_in (row p) x == region_in (row p) y)
      (pair_all (holders (row p)) (holders (row p))
      (λ h k. implies (shared h k) (region_in (row p) h.0 == region_in (row p) k.0)) (x, c)
      (y, c)
      (parts p h.frame).2 (held_in jobs p x c h) (held_in jobs p y c k)) (same_colour_refl c))

  apart_part : (p q : Frame) → IsLowerFrame p q → IsFrame w q → apart_test (row p) (row q) ≡ true
  apart_part p q below f = subst (λ j. apart_test (item no_row (rows_of jobs j) p.depth) (row q)
      ≡ true) (sym below.0)
      (below_all q.depth (λ o. apart_test (row_of jobs q.job o) (row q)) p.depth (parts q f).4
      below.1)

  is_apart : {p q : Frame} {x y : Element} {c : Colour} → IsLowerFrame p q → HoldsLive w p x c
      → HoldsLive w q y c → w.here q ≡ c
  is_apart {p} {q} {x} {y} {c} below h k = same_colour_true (row q).here c
      (implied (same_colour c c) (same_colour (row q).here c)
      (pair_all (holders (row p)) (holders (row q))
      (λ h k. implies (shared h k) (same_colour (row q).here k.1)) (x, c) (y, c)
      (apart_part p q below k.frame) (held_in jobs p x c h) (held_in jobs q y c k))
      (same_colour_refl c))

  isolation_says : (p : Frame) (a : Actor) → IsFrame w p → (w.shape p).isolation ≡ IsolatedTo a
      → ((w.shape p).executor ≡ On a) × (w.here p ≡ OfActor a)
  isolation_says p a f e =
      let t : (stands_on (row p).shape.executor a && same_colour (row p).here (OfActor a)) ≡ true
      = subst (λ i. isolation_fits i (row p).shape.executor (row p).here ≡ true) e (parts p f).3 in
      let both = and_parts (stands_on (row p).shape.executor a)
      (same_colour (row p).here (OfActor a)) t in (
        stands_on_true (row p).shape.executor a both.0,
        same_colour_true (row p).here (OfActor a)
            both.1,
      )

  -- ---- jobs
  top_row : (rows : List Row) (d : ℕ) → length rows ≡ suc d → top_of rows ≡ item no_row rows d
  top_row [] d e = absurd (cc (e))
  top_row (r ∷ rows) d e = ap (item no_row (r ∷ rows)) (omega arith)

  never : {p q : Frame} {a : Actor} → RunsOn w p a → RunsOn w q a → p.job ≡ q.job
  never {p} {q} {a} h k = elim (or_cases (p.job == q.job) (never_both one other) both) [
    | inl e ↦ eqb-true p.job q.job e
    | inr e ↦ absurd (never_true e)
  ]
    where
      one : Job
      one = item no_job jobs p.job

      other : Job
      other = item no_job jobs q.job

      both : ((p.job == q.job) || never_both one other) ≡ true
      both = below_all (length jobs) (λ j. (p.job == j) || never_both (item no_job jobs p.job)
          (item no_job jobs j)) q.job
          (below_all (length jobs)
          (λ i. all_below (length jobs) (λ j. (i == j) || never_both (item no_job jobs i)
          (item no_job jobs j))) p.job
          jobs_pass (job_bound jobs p.job p.depth (top_is_frame w p h.top)))
          (job_bound jobs q.job q.depth (top_is_frame w q k.top))

      never_true : never_both one other ≡ true → ⊥
      never_true e = elim (or_cases (not one.running) (not other.running || apart) e) [
        | inl stops ↦ cc (not-true one.running stops, h.running)
        | inr rest ↦ elim (or_cases (not other.running) apart rest) [
          | inl stops ↦ cc (not-true other.running stops, k.running)
          | inr differ ↦ cc (
            not-true (stands_on (On a) a)
                (subst (λ e. apart_from (On a) e ≡ true) q_on
                (subst (λ e. apart_from e (top_of other.rows).shape.executor ≡ true) p_on differ)),
            same_actor_refl a,
          )
        ]
      ]
        where
          apart : Bool
          apart = apart_from (top_of one.rows).shape.executor (top_of other.rows).shape.executor

          p_on : (top_of one.rows).shape.executor ≡ On a
          p_on = ap (λ (r : Row). r.shape.executor) (top_row one.rows p.depth h.top) ∙ h.executor

          q_on : (top_of other.rows).shape.executor ≡ On a
          q_on = ap (λ (r : Row). r.shape.executor) (top_row other.rows q.depth k.top) ∙ k.executor

  pub owned_view : IsOwned w
  owned_view = record {
    exclusive = never;
    stands = λ {a} p f e. (isolation_says p a f e).0;
    isolated = λ {a} p f e. (isolation_says p a f e).1;
    together = is_together;
    owned = is_owned;
    actors = has_here;
    apart = is_apart;
  }

module _ (jobs : List Job) (passes : each_frame jobs (stacked_frame jobs) ≡ true) where
  entered_says : (p : Frame) (a : Actor) → IsFrame (view_of jobs) p → (p.depth ≡ zero)
      ⊎ (((view_of jobs).shape p).crossing ≡ true)
      → ((view_of jobs).shape p).executor ≡ On a → ((view_of jobs).shape p).isolation ≡ IsolatedTo a
  entered_says p a f how on = is_isolated_true shape.isolation a
      (implied (is_bottom p.depth || shape.crossing) (is_isolated shape.isolation a)
      (subst (λ e. enters_rightly (is_bottom p.depth || shape.crossing) e shape.isolation ≡ true) on
      (and_parts (entered_test p.depth (row_at jobs p)) (stacked_callee jobs p.job p.depth)
      (frame_passes jobs (stacked_frame jobs) passes p f)).0) (by how))
    where
      shape : FrameShape
      shape = (row_at jobs p).shape

      by : (p.depth ≡ zero) ⊎ (shape.crossing ≡ true) → (is_bottom p.depth || shape.crossing) ≡ true
      by (inl e) = rw e refl
      by (inr e) = rw e (or_right (is_bottom p.depth) true refl)

  abbrev linked_of : Frame → Bool
  linked_of p = linked_test (row_at jobs (above p)).shape.result
      (row_at jobs (above p)).shape.crossing (row_at jobs (above p)).shape.executor

  callee_parts : (p : Frame) → IsFrame (view_of jobs) (above p)
      → (inherited_test (row_at jobs p) (row_at jobs (above p)) ≡ true) × (linked_of p ≡ true)
      × (not (row_at jobs p).shape.closing ≡ true)
  callee_parts p f =
      let a = and_parts (inherited_test (row_at jobs p) (row_at jobs (above p)))
      (linked_of p && not (row_at jobs p).shape.closing)
      (and_parts (entered_test (suc p.depth) (row_at jobs (above p)))
      (stacked_callee jobs p.job (suc p.depth))
      (frame_passes jobs (stacked_frame jobs) passes (above p) f)).1 in
      let b = and_parts (linked_of p) (not (row_at jobs p).shape.closing) a.1 in
      (a.0, b.0, b.1)

  pub stacked_view : IsStacked (view_of jobs)
  stacked_view = record {
    entered = λ {a} p. entered_says p a;
    inherited = λ p f stays. same_executor_true (row_at jobs (above p)).shape.executor
        (row_at jobs p).shape.executor
        (implied (not (row_at jobs (above p)).shape.crossing)
        (same_executor (row_at jobs (above p)).shape.executor (row_at jobs p).shape.executor)
        (callee_parts p f).0 (ap not stays));
    linked = λ r p f crosses result. same_executor_true (row_at jobs (above p)).shape.executor
        Generic
        (implied (row_at jobs (above p)).shape.crossing
        (same_executor (row_at jobs (above p)).shape.executor Generic)
        (subst (λ o. linked_test o (row_at jobs (above p)).shape.crossing
        (row_at jobs (above p)).shape.executor ≡ true) result (callee_parts p f).1) crosses);
    waiting = λ p f. not-true (row_at jobs p).shape.closing (callee_parts p f).2;
  }

module _ (jobs : List Job) (passes : each_frame jobs (returns_frame jobs) ≡ true) where
  abbrev all_far : Frame → Bool
  all_far p = all_below p.depth (λ o. far_test (row_at jobs (above p)).shape.result
      (row_of jobs p.job o) (row_at jobs p) (row_at jobs (above p)))

  return_parts : (p : Frame) → IsFrame (view_of jobs) (above p)
      → (near_test (row_at jobs (above p)).shape.result (row_at jobs p) (row_at jobs (above p))
      ≡ true) × (all_far p ≡ true)
  return_parts p f = and_parts (near_test (row_at jobs (above p)).shape.result (row_at jobs p)
      (row_at jobs (above p))) (all_far p)
      (frame_passes jobs (returns_frame jobs) passes (above p) f)

  far_part : (o p : Frame) → IsLowerFrame o p → IsFrame (view_of jobs) (above p)
      → far_test (row_at jobs (above p)).shape.result (row_at jobs o) (row_at jobs p)
      (row_at jobs (above p)) ≡ true
  far_part o p below f = subst (λ j. far_test (row_at jobs (above p)).shape.result
      (item no_row (rows_of jobs j) o.depth) (row_at jobs p) (row_at jobs (above p)) ≡ true)
      (sym below.0)
      (below_all p.depth (λ o. far_test (row_at jobs (above p)).shape.result (row_of jobs p.job o)
      (row_at jobs p) (row_at jobs (above p))) o.depth (return_parts p f).1 below.1)

  -- what the callee's `Here` shares, where the callee isn't closing
  listed : (p : Frame) (hs : List (Element × Colour)) (test : Element × Colour → Bool) (x : Element)
      (c : Colour)
      → ((row_at jobs (above p)).shape.closing || list_all
      (λ h. implies (same_colour h.1 (row_at jobs (above p)).here) (test h)) hs) ≡ true
      → HoldsLive (view_of jobs) (above p) Here c → In (x, c) hs → test (x, c) ≡ true
  listed p hs test x c e h x_in = elim
      (or_cases (row_at jobs (above p)).shape.closing
      (list_all (λ h. implies (same_colour h.1 (row_at jobs (above p)).here) (test h)) hs) e) [
        | inl closing ↦ absurd (cc (closing, h.not_closing))
        | inr all ↦ implied (same_colour c (row_at jobs (above p)).here) (test (x, c))
            (in_all (λ h. implies (same_colour h.1 (row_at jobs (above p)).here) (test h))
            (x, c) hs all x_in) (ap (same_colour c) h.holds ∙ same_colour_refl c)
      ]

  pub returns_view : IsReturnLinked (view_of jobs)
  returns_view = record {
    near = λ {p} {x} {c} r result h k. eqb-true (region_in (row_at jobs p) x)
        (region_in (row_at jobs p) (Register r))
        (listed p (holders (row_at jobs p))
        (λ h. region_in (row_at jobs p) h.0 == region_in (row_at jobs p) (Register r)) x c
        (subst (λ o. near_test o (row_at jobs p) (row_at jobs (above p)) ≡ true) result
        (return_parts p h.frame).0) h (held_in jobs p x c k));
    far = λ {o} {p} {x} {c} r result below h k. same_colour_true (row_at jobs p).here c
        (listed p (holders (row_at jobs o)) (λ h. same_colour (row_at jobs p).here h.1) x c
        (subst (λ t. far_test t (row_at jobs o) (row_at jobs p) (row_at jobs (above p)) ≡ true)
        result (far_part o p below h.frame)) h (held_in jobs o x c k));
  }

module _ (jobs : List Job) (passes : each_frame jobs (initialisers_frame jobs) ≡ true) where
  alone_part : (p q : Frame) → IsLowerFrame p q → IsFrame (view_of jobs) q
      → alone_test (row_at jobs p) (row_at jobs q) ≡ true
  alone_part p q below f = subst (λ j. alone_test (item no_row (rows_of jobs j) p.depth)
      (row_at jobs q) ≡ true) (sym below.0)
      (below_all q.depth (λ o. alone_test (row_of jobs q.job o) (row_at jobs q)) p.depth
      (frame_passes jobs (initialisers_frame jobs) passes q f) below.1)

  alone_says : {p q : Frame} {x : Element} {c : Colour}
      → ((view_of jobs).shape q).isolation ≡ MakesActor → IsLowerFrame p q
      → HoldsLive (view_of jobs) q Here c → HoldsLive (view_of jobs) p x c → ⊥
  alone_says {p} {q} {x} {c} makes below h k = absurd (cc (
    not-true (same_colour c (row_at jobs q).here)
        (in_all (λ h. not (same_colour h.1 (row_at jobs q).here)) (x, c) (holders (row_at jobs p))
        (implied (is_makes (row_at jobs q).shape.isolation && not (row_at jobs q).shape.closing)
        (list_all (λ h. not (same_colour h.1 (row_at jobs q).here)) (holders (row_at jobs p)))
        (alone_part p q below h.frame) open_makes) (held_in jobs p x c k)),
    ap (same_colour c) h.holds ∙ same_colour_refl c,
  ))
    where
      open_makes : (is_makes (row_at jobs q).shape.isolation && not (row_at jobs q).shape.closing)
          ≡ true
      open_makes = rw (makes, h.not_closing) refl

  pub initialisers_view : IsInitialiserLinked (view_of jobs)
  initialisers_view = record { alone = alone_says }

-- the whole test
abbrev pub is_sound : List Job → Bool
is_sound jobs = (each_frame jobs (owned_frame jobs) && each_job jobs)
    && (each_frame jobs (stacked_frame jobs) && (each_frame jobs (returns_frame jobs) && each_frame
    jobs (initialisers_frame jobs)))

pub sound_view : (jobs : List Job) → is_sound jobs ≡ true → IsSound (view_of jobs)
sound_view jobs e =
    let a = and_parts (each_frame jobs (owned_frame jobs) && each_job jobs)
    (each_frame jobs (stacked_frame jobs) && (each_frame jobs (returns_frame jobs) && each_frame
    jobs (initialisers_frame jobs))) e in
    let b = and_parts (each_frame jobs (owned_frame jobs)) (each_job jobs) a.0 in
    let c = and_parts (each_frame jobs (stacked_frame jobs))
    (each_frame jobs (returns_frame jobs) && each_frame jobs (initialisers_frame jobs)) a.1 in
    let d = and_parts (each_frame jobs (returns_frame jobs))
    (each_frame jobs (initialisers_frame jobs)) c.1 in
    record {
      owned = owned_view jobs b.0 b.1;
      stacked = stacked_view jobs c.0;
      returns = returns_view jobs d.0;
      initialisers = initialisers_view jobs d.1;
    }
