-- How a fact of small views is read off them.
use Rattle.std.proofs.Common.{sym, subst, ap, ◌∙◌, inl, inr, arith}
use Rattle.std.proofs.lemmas.Bool.{and_parts, or_cases, not-true, ltb-true, eqb-true, eq-eqb}
use Rattle.std.proofs.lemmas.Bool.{cases_lt, cases_eq}
use Rattle.std.specs.List.{list_all, list_any}
use Rattle.std.specs.Prelude.{◌≡◌, ◌≢◌, ◌⊎◌, ℕ, zero, suc, ◌+◌, ◌<◌, Bool, true, false, not, ◌&&◌}
use Rattle.std.specs.Prelude.{◌||◌, ◌==◌, nat_lt, IsTrue, ◌≤◌, List, [], ◌∷◌, length, Contains}
use Rattle.std.specs.Prelude.{refl}
use Rattle.sw_owner_facts.specs.Colours.{Colour}
use Rattle.sw_owner_facts.specs.Sketch.{RegisterSketch, Row, Job, item, no_slot, no_job, rows_of, row_at}
use Rattle.sw_owner_facts.specs.Sketch.{region_in}
use Rattle.sw_owner_facts.specs.Sketch.{view_of}
use Rattle.sw_owner_facts.specs.View.{Frame, Element, Here, Register, IsFrame, HoldsLive, InOneRegion}
use Rattle.sw_owner_facts.specs.Within.{Kept}
use Rattle.sw_owner_facts.proofs.FrameLemmas.{same_frame}
use Rattle.sw_owner_facts.proofs.Sketches.Same.{same_colour, same_colour_true, same_rows, same_rows_true}
use Rattle.sw_owner_facts.proofs.Sketches.Tests.{In, all_below, below_all, each_frame, frame_passes}
use Rattle.sw_owner_facts.proofs.Sketches.Tests.{held_in, holders, implied, implies, in_all, row_of}

-- ---- what an element holds
abbrev pub is_alive : Row → Element → Colour → Bool
is_alive row Here c = same_colour row.here c
is_alive row (Register r) c = (item no_slot row.slots r).live && list_any (λ d. same_colour d c)
    (item no_slot row.slots r).colours

abbrev pub holds_live : List Job → Frame → Element → Colour → Bool
holds_live jobs p x c = nat_lt p.depth (length (rows_of jobs p.job)) &&
    (not (row_at jobs p).shape.closing && is_alive (row_at jobs p) x c)

pub some_same : (c : Colour) (cs : List Colour) → list_any (λ d. same_colour d c) cs ≡ true
    → Contains cs c
some_same c [] e = absurd (cc (e))
some_same c (d ∷ cs) e = elim (or_cases (same_colour d c) (list_any (λ d. same_colour d c) cs) e) [
  | inl here ↦ (0, omega arith, same_colour_true d c here)
  | inr later ↦ (let found = some_same c cs later in (suc found.0, omega (arith, found.1), found.2))
]

pub there : (jobs : List Job) (p : Frame) (x : Element) (c : Colour) → holds_live jobs p x c ≡ true
    → HoldsLive (view_of jobs) p x c
there jobs p x c e =
    let a = and_parts (nat_lt p.depth (length (rows_of jobs p.job)))
    (not (row_at jobs p).shape.closing && is_alive (row_at jobs p) x c) e in
    let b = and_parts (not (row_at jobs p).shape.closing) (is_alive (row_at jobs p) x c) a.1 in
    alive x b.1 (ltb-true p.depth (length (rows_of jobs p.job)) a.0)
    (not-true (row_at jobs p).shape.closing b.0)
  where
    alive : (x : Element) → is_alive (row_at jobs p) x c ≡ true → IsFrame (view_of jobs) p
        → (row_at jobs p).shape.closing ≡ false → HoldsLive (view_of jobs) p x c
    alive Here t f open_frame = record {
      frame = f;
      not_closing = open_frame;
      live = tt;
      holds = same_colour_true (row_at jobs p).here c t;
    }
    alive (Register r) t f open_frame = let slot = item no_slot (row_at jobs p).slots r in
        let both = and_parts slot.live (list_any (λ d. same_colour d c) slot.colours) t in
        record {
          frame = f;
          not_closing = open_frame;
          live = both.0;
          holds = some_same c slot.colours both.1;
        }

-- ---- what is held in a new view, where each of its holders is as good as one of the old view
abbrev pub all_held : List Job → List Job → Frame → (Element → Element) → Bool
all_held old new p origin = list_all (λ h. holds_live old p (origin h.0) h.1)
    (holders (row_at new p))

pub held_by : (old new : List Job) (p : Frame) (origin : Element → Element)
    → all_held old new p origin ≡ true
    → (x : Element) (c : Colour) → HoldsLive (view_of new) p x c
    → HoldsLive (view_of old) p (origin x) c
held_by old new p origin e x c h = there old p (origin x) c
    (in_all (λ h. holds_live old p (origin h.0) h.1) (x, c) (holders (row_at new p)) e
    (held_in new p x c h))

-- a fact of each holder
abbrev pub AllHold : List (Element × Colour) → (Element → Colour → Type 0) → Type 0
AllHold [] P = record {}
AllHold (h ∷ hs) P = record { first : P h.0 h.1; rest : AllHold hs P }

pub each_held : (hs : List (Element × Colour)) (P : Element → Colour → Type 0) → AllHold hs P
    → (x : Element) (c : Colour) → In (x, c) hs → P x c
each_held [] P all x c h = absurd h
each_held (k ∷ hs) P all x c (inl e) = subst (λ h. P h.0 h.1) (sym e) all.first
each_held (k ∷ hs) P all x c (inr h) = each_held hs P all.rest x c h

pub for_holders : (jobs : List Job) (p : Frame) (P : Element → Colour → Type 0)
    → AllHold (holders (row_at jobs p)) P
    → (x : Element) (c : Colour) → HoldsLive (view_of jobs) p x c → P x c
for_holders jobs p P all x c h = each_held (holders (row_at jobs p)) P all x c
    (held_in jobs p x c h)

-- ---- a frame whose row stays is kept
pub same_row : (old new : List Job) (p : Frame) → IsFrame (view_of old) p
    → row_at new p ≡ row_at old p → Kept (view_of old) (view_of new) p
same_row old new p f e = record {
  shape = ap (λ (r : Row). r.shape) e;
  here = ap (λ (r : Row). r.here) e;
  held = λ {x} {c} h. there_again x c h;
  together = λ {x} {y} t. subst (λ r. region_in r x ≡ region_in r y) (sym e) t;
}
  where
    there_again : (x : Element) (c : Colour) → HoldsLive (view_of new) p x c
        → HoldsLive (view_of old) p x c
    there_again Here c h = record {
      frame = f;
      not_closing = subst (λ (r : Row). r.shape.closing ≡ false) e h.not_closing;
      live = tt;
      holds = subst (λ (r : Row). r.here ≡ c) e h.holds;
    }
    there_again (Register r) c h = record {
      frame = f;
      not_closing = subst (λ (r : Row). r.shape.closing ≡ false) e h.not_closing;
      live = subst (λ (row : Row). (item no_slot row.slots r).live ≡ true) e h.live;
      holds = subst (λ (row : Row). Contains (item no_slot row.slots r).colours c) e h.holds;
    }

-- ---- all frames of one view but one are kept from an old view to a new one
abbrev pub same_place : ℕ → ℕ → Frame → Bool
same_place j d p = (j == p.job) && (d == p.depth)

abbrev pub kept_test : List Job → List Job → ℕ → ℕ → Bool
kept_test old new j d = nat_lt d (length (rows_of old j)) && same_rows (row_of new j d)
    (row_of old j d)

abbrev pub all_kept : List Job → List Job → List Job → Bool
all_kept frames old new = each_frame frames (kept_test old new)

abbrev pub all_kept_but : Frame → List Job → List Job → List Job → Bool
all_kept_but q frames old new = each_frame frames (λ j d. same_place j d q || kept_test old new j d)

pub kept_by : (old new : List Job) (p : Frame) → kept_test old new p.job p.depth ≡ true
    → Kept (view_of old) (view_of new) p
kept_by old new p e = let both = and_parts (nat_lt p.depth (length (rows_of old p.job)))
    (same_rows (row_at new p) (row_at old p)) e in
    same_row old new p (ltb-true p.depth (length (rows_of old p.job)) both.0)
    (same_rows_true (row_at new p) (row_at old p) both.1)

pub kept : (frames old new : List Job) → all_kept frames old new ≡ true → (p : Frame)
    → IsFrame (view_of frames) p → Kept (view_of old) (view_of new) p
kept frames old new e p f = kept_by old new p (frame_passes frames (kept_test old new) e p f)

pub kept_but : (q : Frame) (frames old new : List Job) → all_kept_but q frames old new ≡ true
    → (p : Frame) → IsFrame (view_of frames) p → p ≢ q
    → Kept (view_of old) (view_of new) p
kept_but q frames old new e p f n = elim
    (or_cases (same_place p.job p.depth q) (kept_test old new p.job p.depth)
    (frame_passes frames (λ j d. same_place j d q || kept_test old new j d) e p f)) [
      | inl is ↦ (let both = and_parts (p.job == q.job) (p.depth == q.depth) is in
          absurd (n (same_frame (eqb-true p.job q.job both.0) (eqb-true p.depth q.depth both.1))))
      | inr t ↦ kept_by old new p t
    ]

-- ---- numbers of frames, and who runs
pub item_beyond : {A : Type 0} (none : A) (xs : List A) (n : ℕ) → length xs ≤ n
    → item none xs n ≡ none
item_beyond none [] n le = refl
item_beyond none (x ∷ xs) zero le = absurd (omega arith)
item_beyond none (x ∷ xs) (suc n) le = item_beyond none xs n (omega arith)

abbrev pub height_at : List Job → ℕ → ℕ
height_at jobs j = length (rows_of jobs j)

abbrev pub some_jobs : List Job → List Job → ℕ
some_jobs old new = length old + length new

abbrev pub same_heights : List Job → List Job → Bool
same_heights old new = all_below (some_jobs old new) (λ j. height_at new j == height_at old j)

abbrev pub same_heights_but : ℕ → List Job → List Job → Bool
same_heights_but k old new = all_below (some_jobs old new)
    (λ j. (j == k) || (height_at new j == height_at old j))

abbrev pub fewer_run : List Job → List Job → Bool
fewer_run old new = all_below (some_jobs old new)
    (λ j. implies (item no_job new j).running (item no_job old j).running)

abbrev pub fewer_run_but : ℕ → List Job → List Job → Bool
fewer_run_but k old new = all_below (some_jobs old new)
    (λ j. (j == k) || implies (item no_job new j).running (item no_job old j).running)

pub beyond_both : (old new : List Job) (j : ℕ) → (j < some_jobs old new)
    ⊎ ((item no_job old j ≡ no_job) × (item no_job new j ≡ no_job))
beyond_both old new j = elim (cases_lt j (some_jobs old new)) [
  | inl lt ↦ inl lt
  | inr ge ↦ inr (
    item_beyond no_job old j (omega (arith, ge)),
    item_beyond no_job new j
        (omega (arith, ge)),
  )
]

pub heights : (old new : List Job) → same_heights old new ≡ true → (j : ℕ)
    → (view_of new).height j ≡ (view_of old).height j
heights old new e j = elim (beyond_both old new j) [
  | inl lt ↦ eqb-true (height_at new j) (height_at old j)
      (below_all (some_jobs old new) (λ j. height_at new j == height_at old j) j e lt)
  | inr none ↦ ap (λ (job : Job). length job.rows) (none.1 ∙ sym none.0)
]

pub heights_but : (k : ℕ) (old new : List Job) → same_heights_but k old new ≡ true → (j : ℕ) → j ≢ k
    → (view_of new).height j ≡ (view_of old).height j
heights_but k old new e j n = elim (beyond_both old new j) [
  | inl lt ↦ elim (or_cases (j == k) (height_at new j == height_at old j)
      (below_all (some_jobs old new) (λ j. (j == k) || (height_at new j == height_at old j)) j e
      lt)) [
        | inl is ↦ absurd (n (eqb-true j k is))
        | inr same ↦ eqb-true (height_at new j) (height_at old j) same
      ]
  | inr none ↦ ap (λ (job : Job). length job.rows) (none.1 ∙ sym none.0)
]

pub running : (old new : List Job) → fewer_run old new ≡ true → (j : ℕ)
    → IsTrue ((view_of new).running j) → IsTrue ((view_of old).running j)
running old new e j runs = elim (beyond_both old new j) [
  | inl lt ↦ implied (item no_job new j).running (item no_job old j).running
      (below_all (some_jobs old new)
      (λ j. implies (item no_job new j).running (item no_job old j).running) j e lt) runs
  | inr none ↦ absurd (cc (ap (λ (job : Job). job.running) none.1, runs))
]

pub running_but : (k : ℕ) (old new : List Job) → fewer_run_but k old new ≡ true → (j : ℕ) → j ≢ k
    → IsTrue ((view_of new).running j) → IsTrue ((view_of old).running j)
running_but k old new e j n runs = elim (beyond_both old new j) [
  | inl lt ↦ elim (or_cases (j == k)
      (implies (item no_job new j).running (item no_job old j).running)
      (below_all (some_jobs old new) (λ j. (j == k) || implies (item no_job new j).running
      (item no_job old j).running) j e lt)) [
        | inl is ↦ absurd (n (eqb-true j k is))
        | inr same ↦ implied (item no_job new j).running (item no_job old j).running same runs
      ]
  | inr none ↦ absurd (cc (ap (λ (job : Job). job.running) none.1, runs))
]

-- ---- what was together is together
abbrev pub registers : ℕ → List Element
registers zero = []
registers (suc n) = Register n ∷ registers n

abbrev pub elements : ℕ → List Element
elements n = Here ∷ registers (suc n)

pub clamp : ℕ → Element → Element
clamp n Here = Here
clamp n (Register r) = elim (cases_lt r n) [
  | inl lt ↦ Register r
  | inr ge ↦ Register n
]

pub register_in : (n r : ℕ) → r < n → In (Register r) (registers n)
register_in zero r lt = absurd (omega arith)
register_in (suc n) r lt = elim (cases_eq r n) [
  | inl is ↦ inl (ap Register is)
  | inr differs ↦ inr (register_in n r (omega (arith, differs)))
]

pub clamp_in : (n : ℕ) (x : Element) → In (clamp n x) (elements n)
unfolding clamp
clamp_in n Here = inl refl
clamp_in n (Register r) = by (cases_lt r n)
  where
    by : (e : (r < n) ⊎ (n ≤ r)) → In (elim e [ inl lt ↦ Register r | inr ge ↦ Register n ])
        (elements n)
    by (inl lt) = inr (register_in (suc n) r (omega (arith, lt)))
    by (inr ge) = inr (inl refl)

pub clamp_region : (n : ℕ) (row : Row) (x : Element) → length row.slots ≤ n
    → region_in row (clamp n x) ≡ region_in row x
unfolding clamp
clamp_region n row Here le = refl
clamp_region n row (Register r) le = by (cases_lt r n)
  where
    by : (e : (r < n) ⊎ (n ≤ r))
        → region_in row (elim e [ inl lt ↦ Register r | inr ge ↦ Register n ])
        ≡ (item no_slot row.slots r).region
    by (inl lt) = refl
    by (inr ge) = ap (λ (s : RegisterSketch). s.region) (item_beyond no_slot row.slots n le
        ∙ sym (item_beyond no_slot row.slots r (omega (arith, le, ge))))

abbrev pub some_slots : List Job → List Job → Frame → ℕ
some_slots old new p = length (row_at old p).slots + length (row_at new p).slots

abbrev pub still_joined : List Job → List Job → Frame → Bool
still_joined old new p = list_all
    (λ x. list_all (λ y. implies (region_in (row_at old p) x == region_in (row_at old p) y)
    (region_in (row_at new p) x == region_in (row_at new p) y))
    (elements (some_slots old new p))) (elements (some_slots old new p))

pub joined : (old new : List Job) (p : Frame) → still_joined old new p ≡ true → (x y : Element)
    → InOneRegion (view_of old) p x y → InOneRegion (view_of new) p x y
joined old new p e x y t = sym (new_region x) ∙ eqb-true (region_in (row_at new p) (clamp n x))
    (region_in (row_at new p) (clamp n y))
    (implied (region_in (row_at old p) (clamp n x) == region_in (row_at old p) (clamp n y))
    (region_in (row_at new p) (clamp n x) == region_in (row_at new p) (clamp n y))
    (in_all (λ y. implies (region_in (row_at old p) (clamp n x) == region_in (row_at old p) y)
    (region_in (row_at new p) (clamp n x) == region_in (row_at new p) y)) (clamp n y)
    (elements n)
    (in_all (λ x. list_all (λ y. implies (region_in (row_at old p) x == region_in (row_at old p) y)
    (region_in (row_at new p) x == region_in (row_at new p) y)) (elements n)) (clamp n x)
    (elements n) e (clamp_in n x))
    (clamp_in n y))
    (eq-eqb (region_in (row_at old p) (clamp n x)) (region_in (row_at old p) (clamp n y))
    (old_region x ∙ t ∙ sym (old_region y))))
    ∙ new_region y
  where
    n : ℕ
    n = some_slots old new p

    old_region : (x : Element) → region_in (row_at old p) (clamp n x) ≡ region_in (row_at old p) x
    old_region x = clamp_region n (row_at old p) x (omega arith)

    new_region : (x : Element) → region_in (row_at new p) (clamp n x) ≡ region_in (row_at new p) x
    new_region x = clamp_region n (row_at new p) x (omega arith)
