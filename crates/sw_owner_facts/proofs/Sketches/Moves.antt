-- How the premises of moves are read off small views.
use Rattle.std.proofs.Common.{sym, subst, ap, ◌∙◌, inl, inr, arith}
use Rattle.std.proofs.lemmas.Bool.{and_parts, or_cases, not-true, eqb-true, eq-eqb}
use Rattle.std.specs.List.{list_all, list_any}
use Rattle.std.specs.Prelude.{◌≡◌, ◌⊎◌, ℕ, suc, Bool, true, false, not, ◌&&◌, ◌||◌, ◌==◌}
use Rattle.std.specs.Prelude.{if◌then◌else◌, nat_lt, Some, None, List, [], ◌∷◌, refl}
use Rattle.sw_owner_facts.specs.Calls.{Pushed, Called, ResultWith, Popped}
use Rattle.sw_owner_facts.specs.Colours.{Colour, OfJob, OfActor}
use Rattle.sw_owner_facts.specs.Sketch.{Job, row_at, region_in, view_of}
use Rattle.sw_owner_facts.specs.View.{Frame, above, Element, Here, Register, IsFrame, HoldsLive, IsUnheld}
use Rattle.sw_owner_facts.specs.View.{IsDisconnected, InOneRegion}
use Rattle.sw_owner_facts.specs.Within.{Kept, KeptLive, SameJobs, ChangesTop, Becomes, Recoloured}
use Rattle.sw_owner_facts.specs.Within.{Weakened}
use Rattle.sw_owner_facts.proofs.Sketches.Same.{same_colour, same_colour_refl, same_colour_true}
use Rattle.sw_owner_facts.proofs.Sketches.Same.{same_shapes, same_shapes_true}
use Rattle.sw_owner_facts.proofs.Sketches.Tests.{each_frame, each_pair, frame_passes, held_in, holders}
use Rattle.sw_owner_facts.proofs.Sketches.Tests.{implied, implies, in_all, pair_all, row_of}
use Rattle.sw_owner_facts.proofs.Sketches.Reading.{all_held, all_kept_but, fewer_run, height_at, heights}
use Rattle.sw_owner_facts.proofs.Sketches.Reading.{heights_but, held_by, holds_live, joined, kept}
use Rattle.sw_owner_facts.proofs.Sketches.Reading.{kept_but, running, same_heights, same_heights_but}
use Rattle.sw_owner_facts.proofs.Sketches.Reading.{still_joined, there}

-- ---- whole groups of premises
pub same_jobs : (old new : List Job) → (same_heights old new && fewer_run old new) ≡ true
    → SameJobs (view_of old) (view_of new)
same_jobs old new e = let both = and_parts (same_heights old new) (fewer_run old new) e in
    record { height = heights old new both.0; running = running old new both.1 }

abbrev pub changes_test : List Job → List Job → Frame → Bool
changes_test old new q = (height_at old q.job == suc q.depth) &&
    ((same_heights old new && fewer_run old new)
    && ((same_shapes (row_at new q).shape (row_at old q).shape && same_colour (row_at new q).here
    (row_at old q).here) && all_kept_but q old old new))

pub changes_top : (old new : List Job) (q : Frame) → changes_test old new q ≡ true
    → ChangesTop (view_of old) (view_of new) q
changes_top old new q e =
    let a = and_parts (height_at old q.job == suc q.depth)
    ((same_heights old new && fewer_run old new) &&
    ((same_shapes (row_at new q).shape (row_at old q).shape && same_colour (row_at new q).here
    (row_at old q).here) && all_kept_but q old old new)) e in
    let b = and_parts (same_heights old new && fewer_run old new)
    ((same_shapes (row_at new q).shape (row_at old q).shape && same_colour (row_at new q).here
    (row_at old q).here) && all_kept_but q old old new) a.1 in
    let c = and_parts (same_shapes (row_at new q).shape (row_at old q).shape && same_colour
    (row_at new q).here (row_at old q).here) (all_kept_but q old old new) b.1 in
    let d = and_parts (same_shapes (row_at new q).shape (row_at old q).shape)
    (same_colour (row_at new q).here (row_at old q).here) c.0 in
    record {
      top = eqb-true (height_at old q.job) (suc q.depth) a.0;
      jobs = same_jobs old new b.0;
      shape = same_shapes_true (row_at new q).shape (row_at old q).shape d.0;
      here = same_colour_true (row_at new q).here (row_at old q).here d.1;
      others = kept_but q old old new c.1;
    }

abbrev pub unheld_test : List Job → Colour → Bool
unheld_test jobs c = each_frame jobs
    (λ j d. list_all (λ h. not (same_colour h.1 c)) (holders (row_of jobs j d)))

pub is_unheld : (jobs : List Job) (c : Colour) → unheld_test jobs c ≡ true
    → IsUnheld (view_of jobs) c
is_unheld jobs c e p x h = cc (
  not-true (same_colour c c) (in_all (λ h. not (same_colour h.1 c)) (x, c) (holders (row_at jobs p))
      (frame_passes jobs (λ j d. list_all (λ h. not (same_colour h.1 c))
      (holders (row_of jobs j d))) e p h.frame) (held_in jobs p x c h)),
  same_colour_refl c,
)

-- ---- a colour becomes another
abbrev pub same_element : Element → Element → Bool
same_element Here Here = true
same_element (Register r) (Register s) = r == s
same_element _ _ = false

pub same_element_true : (x y : Element) → same_element x y ≡ true → x ≡ y
same_element_true Here Here e = refl
same_element_true (Register r) (Register s) e = ap Register (eqb-true r s e)
same_element_true Here (Register s) e = absurd (cc (e))
same_element_true (Register r) Here e = absurd (cc (e))

pub cases_test : (b : Bool) → (b ≡ true) ⊎ (b ≡ false)
cases_test true = inl refl
cases_test false = inr refl

abbrev pub turns : Colour → Colour → Colour → Colour
turns lost kept c = if same_colour c lost then kept else c

pub becomes : (lost kept c d : Colour) → same_colour d (turns lost kept c) ≡ true
    → Becomes lost kept c d
becomes lost kept c d e = by (cases_test (same_colour c lost))
  where
    by : (same_colour c lost ≡ true) ⊎ (same_colour c lost ≡ false) → Becomes lost kept c d
    by (inl is) = inl (
      same_colour_true c lost is,
      subst (λ b. d ≡ if b then kept else c) is
          (same_colour_true d (turns lost kept c) e),
    )
    by (inr differs) = inr (
      λ is. cc (differs, ap (same_colour c) (sym is), same_colour_refl c),
      subst (λ b. d ≡ if b then kept else c) differs (same_colour_true d (turns lost kept c) e),
    )

abbrev pub turned_from : List Job → Frame → Colour → Colour → Element × Colour → Bool
turned_from old p lost kept h = list_any
    (λ k. holds_live old p k.0 k.1 &&
    (same_element k.0 h.0 && same_colour h.1 (turns lost kept k.1))) (holders (row_at old p))

abbrev pub turned_frame : List Job → List Job → Colour → Colour → ℕ → ℕ → Bool
turned_frame old new lost kept j d = nat_lt d (height_at old j) &&
    (same_shapes (row_of new j d).shape (row_of old j d).shape
    && (same_colour (row_of new j d).here (turns lost kept (row_of old j d).here)
    && (list_all (turned_from old (record { job = j; depth = d }) lost kept)
    (holders (row_of new j d))
    && still_joined old new (record { job = j; depth = d }))))

abbrev pub recoloured_test : List Job → List Job → Colour → Colour → Bool
recoloured_test old new lost kept = (same_heights old new && fewer_run old new) && each_frame new
    (turned_frame old new lost kept)

pub any_in : (test : Element × Colour → Bool) (hs : List (Element × Colour))
    → list_any test hs ≡ true
    → (h : Element × Colour) × (test h ≡ true)
any_in test [] e = absurd (cc (e))
any_in test (h ∷ hs) e = elim (or_cases (test h) (list_any test hs) e) [
  | inl here ↦ (h, here)
  | inr later ↦ any_in test hs later
]

pub recoloured : (old new : List Job) (j number : ℕ) (after : Colour)
    → recoloured_test old new (OfJob j number) after ≡ true
    → Recoloured (view_of old) (view_of new) j number after
recoloured old new j number after e = record {
  jobs = same_jobs old new both.0;
  shape = λ p f. (parts p (new_frame p f)).0;
  here = λ p f. becomes lost after (row_at old p).here (row_at new p).here
      (parts p (new_frame p f)).1;
  held = λ {p} {x} {d} h. held p x d h;
  together = λ {x} {y} p f. joined old new p (parts p (new_frame p f)).3 x y;
}
  where
    lost : Colour
    lost = OfJob j number

    both : ((same_heights old new && fewer_run old new) ≡ true)
        × (each_frame new (turned_frame old new (OfJob j number) after) ≡ true)
    both = and_parts (same_heights old new && fewer_run old new)
        (each_frame new (turned_frame old new (OfJob j number) after)) e

    new_frame : (p : Frame) → IsFrame (view_of old) p → IsFrame (view_of new) p
    new_frame p f = omega (arith, f, (same_jobs old new both.0).height p.job)

    parts : (p : Frame) → IsFrame (view_of new) p → ((row_at new p).shape ≡ (row_at old p).shape)
        × (same_colour (row_at new p).here (turns (OfJob j number) after (row_at old p).here)
        ≡ true)
        × (list_all (turned_from old p (OfJob j number) after) (holders (row_at new p)) ≡ true)
        × (still_joined old new p ≡ true)
    parts p f =
        let test = frame_passes new (turned_frame old new (OfJob j number) after) both.1 p f in
        let turned = list_all (turned_from old p (OfJob j number) after) (holders (row_at new p)) in
        let a = and_parts (nat_lt p.depth (height_at old p.job))
        (same_shapes (row_at new p).shape (row_at old p).shape &&
        (same_colour (row_at new p).here (turns (OfJob j number) after (row_at old p).here)
        && (turned && still_joined old new p))) test in
        let b = and_parts (same_shapes (row_at new p).shape (row_at old p).shape)
        (same_colour (row_at new p).here (turns (OfJob j number) after (row_at old p).here) &&
        (turned && still_joined old new p)) a.1 in
        let c = and_parts (same_colour (row_at new p).here
        (turns (OfJob j number) after (row_at old p).here)) (turned && still_joined old new p)
        b.1 in
        let d = and_parts turned (still_joined old new p) c.1 in
        (same_shapes_true (row_at new p).shape (row_at old p).shape b.0, c.0, d.0, d.1)

    held : (p : Frame) (x : Element) (d : Colour) → HoldsLive (view_of new) p x d
        → (c : Colour) × HoldsLive (view_of old) p x c × Becomes (OfJob j number) after c d
    held p x d h =
        let found = any_in (λ k. holds_live old p k.0 k.1 &&
        (same_element k.0 x && same_colour d (turns (OfJob j number) after k.1)))
        (holders (row_at old p))
        (in_all (turned_from old p (OfJob j number) after) (x, d) (holders (row_at new p))
        (parts p h.frame).2 (held_in new p x d h)) in
        let k = found.0 in
        let a = and_parts (holds_live old p k.0 k.1)
        (same_element k.0 x && same_colour d (turns (OfJob j number) after k.1)) found.1 in
        let b = and_parts (same_element k.0 x) (same_colour d (turns (OfJob j number) after k.1))
        a.1 in (
          k.1,
          subst (λ y. HoldsLive (view_of old) p y k.1) (same_element_true k.0 x b.0)
              (there old p k.0 k.1 a.0),
          becomes (OfJob j number) after k.1 d b.1,
        )

-- ---- a new frame
abbrev pub is_of_job : ℕ → Colour → Bool
is_of_job job (OfJob j n) = j == job
is_of_job job (OfActor a) = false

pub of_job : (job : ℕ) (c : Colour) → is_of_job job c ≡ true → (number : ℕ) × (c ≡ OfJob job number)
of_job job (OfJob j n) e = (n, ap (λ j. OfJob j n) (eqb-true j job e))
of_job job (OfActor a) e = absurd (cc (e))

abbrev pub disconnected_test : List Job → ℕ → Colour → Bool
disconnected_test jobs j c = is_of_job j c && unheld_test jobs c

pub disconnected : (jobs : List Job) (j : ℕ) (c : Colour) → disconnected_test jobs j c ≡ true
    → IsDisconnected (view_of jobs) j c
disconnected jobs j c e = let both = and_parts (is_of_job j c) (unheld_test jobs c) e in
    let owner = of_job j c both.0 in
    record { number = owner.0; owner = owner.1; unheld = is_unheld jobs c both.1 }

abbrev pub together_in : List Job → Frame → Bool
together_in jobs p = each_pair (holders (row_at jobs p)) (holders (row_at jobs p))
    (λ h k. implies (same_colour h.1 k.1)
    (region_in (row_at jobs p) h.0 == region_in (row_at jobs p) k.0))

abbrev pub pushed_test : List Job → List Job → Frame → Bool
pushed_test old new q = (height_at old q.job == q.depth) && ((height_at new q.job == suc q.depth)
    && (same_heights_but q.job old new && (fewer_run old new && together_in new q)))

pub pushed : (old new : List Job) (q : Frame) → pushed_test old new q ≡ true
    → Pushed (view_of old) (view_of new) q
pushed old new q e =
    let a = and_parts (height_at old q.job == q.depth)
    ((height_at new q.job == suc q.depth) &&
    (same_heights_but q.job old new && (fewer_run old new && together_in new q))) e in
    let b = and_parts (height_at new q.job == suc q.depth)
    (same_heights_but q.job old new && (fewer_run old new && together_in new q)) a.1 in
    let c = and_parts (same_heights_but q.job old new) (fewer_run old new && together_in new q) b.1
    in
    let d = and_parts (fewer_run old new) (together_in new q) c.1 in
    record {
      before = eqb-true (height_at old q.job) q.depth a.0;
      height = eqb-true (height_at new q.job) (suc q.depth) b.0;
      heights = heights_but q.job old new c.0;
      running = running old new d.0;
      together = λ {x} {y} {c} h k. eqb-true (region_in (row_at new q) x)
          (region_in (row_at new q) y)
          (implied (same_colour c c) (region_in (row_at new q) x == region_in (row_at new q) y)
          (pair_all (holders (row_at new q)) (holders (row_at new q))
          (λ h k. implies (same_colour h.1 k.1)
          (region_in (row_at new q) h.0 == region_in (row_at new q) k.0)) (x, c) (y, c)
          d.1 (held_in new q x c h) (held_in new q y c k)) (same_colour_refl c));
    }

abbrev pub kept_live_test : List Job → List Job → Frame → Bool
kept_live_test old new p = same_shapes (row_at new p).shape (row_at old p).shape
    && (all_held old new p (λ x. x) && list_all (λ h. list_all (λ k.
    implies (region_in (row_at old p) h.0 == region_in (row_at old p) k.0)
    (region_in (row_at new p) h.0 == region_in (row_at new p) k.0)) (holders (row_at new p)))
    (holders (row_at new p)))

pub kept_live : (old new : List Job) (p : Frame) → kept_live_test old new p ≡ true
    → KeptLive (view_of old) (view_of new) p
kept_live old new p e =
    let test = λ (h k : Element × Colour). implies
    (region_in (row_at old p) h.0 == region_in (row_at old p) k.0)
    (region_in (row_at new p) h.0 == region_in (row_at new p) k.0) in
    let hs = holders (row_at new p) in
    let a = and_parts (same_shapes (row_at new p).shape (row_at old p).shape)
    (all_held old new p (λ x. x) && list_all (λ h. list_all (test h) hs) hs) e in
    let c = and_parts (all_held old new p (λ x. x)) (list_all (λ h. list_all (test h) hs) hs) a.1 in
    record {
      shape = same_shapes_true (row_at new p).shape (row_at old p).shape a.0;
      held = λ {x} {c = colour} h. held_by old new p (λ x. x) c.0 x colour h;
      together = λ {x} {y} {c = one} {d = other} h k t. eqb-true (region_in (row_at new p) x)
          (region_in (row_at new p) y)
          (implied (region_in (row_at old p) x == region_in (row_at old p) y)
          (region_in (row_at new p) x == region_in (row_at new p) y)
          (pair_all hs hs test (x, one) (y, other) c.1 (held_in new p x one h)
          (held_in new p y other k))
          (eq-eqb (region_in (row_at old p) x) (region_in (row_at old p) y) t));
    }

-- a new frame holds the colour, as that of its `Here` or of what was handed to it
abbrev pub handed_in : List Job → List Job → Frame → Element × Colour → Bool
handed_in old new q h = same_colour (row_at new q).here h.1 || disconnected_test old q.job h.1

abbrev pub handed_test : List Job → List Job → Frame → Bool
handed_test old new q = list_all (handed_in old new q) (holders (row_at new q))

pub handed : (old new : List Job) (q : Frame) → handed_test old new q ≡ true → (x : Element)
    (c : Colour) → HoldsLive (view_of new) q x c
    → ((view_of new).here q ≡ c) ⊎ IsDisconnected (view_of old) q.job c
handed old new q e x c h = elim (or_cases (same_colour (row_at new q).here c)
    (disconnected_test old q.job c)
    (in_all (handed_in old new q) (x, c) (holders (row_at new q)) e (held_in new q x c h))) [
      | inl here ↦ inl (same_colour_true (row_at new q).here c here)
      | inr given ↦ inr (disconnected old q.job c given)
    ]

abbrev pub called_test : List Job → List Job → Frame → Bool
called_test old new p = pushed_test old new (above p) &&
    (not (row_at old p).shape.closing && (kept_live_test old new p
    && (all_kept_but p old old new && handed_test old new (above p))))

pub calls : (old new : List Job) (p : Frame) → called_test old new p ≡ true
    → Called (view_of old) (view_of new) p
calls old new p e =
    let given = handed_test old new (above p) in
    let a = and_parts (pushed_test old new (above p))
    (not (row_at old p).shape.closing &&
    (kept_live_test old new p && (all_kept_but p old old new && given))) e in
    let b = and_parts (not (row_at old p).shape.closing)
    (kept_live_test old new p && (all_kept_but p old old new && given)) a.1 in
    let c = and_parts (kept_live_test old new p) (all_kept_but p old old new && given) b.1 in
    let d = and_parts (all_kept_but p old old new) given c.1 in
    record {
      pushed = pushed old new (above p) a.0;
      not_closing = not-true (row_at old p).shape.closing b.0;
      caller = kept_live old new p c.0;
      others = kept_but p old old new d.0;
      held = λ {x} {c = colour} h. handed old new (above p) d.1 x colour h;
    }

-- the result register k is with what x was with
pub result_with : (old new : List Job) (p : Frame) (k : ℕ) (x : Element)
    → (row_at new (above p)).shape.result ≡ Some k
    → still_joined old new p ≡ true
    → (region_in (row_at new p) x == region_in (row_at new p) (Register k)) ≡ true
    → ResultWith (view_of old) (view_of new) p x
result_with old new p k x result still e r is y c h t = joined old new p still y x t
    ∙ eqb-true (region_in (row_at new p) x) (region_in (row_at new p) (Register k)) e
    ∙ ap (λ r. region_in (row_at new p) (Register r)) (cc (result, is))

pub no_result : (old new : List Job) (p : Frame) (x : Element)
    → (row_at new (above p)).shape.result ≡ None → ResultWith (view_of old) (view_of new) p x
no_result old new p x none r is = absurd (cc (none, is))

-- ---- frames that hold less
abbrev pub lesser : List Job → List Job → ℕ → ℕ → Bool
lesser old new j d = same_shapes (row_of new j d).shape (row_of old j d).shape &&
    (same_colour (row_of new j d).here (row_of old j d).here
    && (all_held old new (record { job = j; depth = d }) (λ x. x) && still_joined old new
    (record { job = j; depth = d })))

pub lesser_kept : (old new : List Job) (p : Frame) → lesser old new p.job p.depth ≡ true
    → Kept (view_of old) (view_of new) p
lesser_kept old new p e =
    let a = and_parts (same_shapes (row_at new p).shape (row_at old p).shape)
    (same_colour (row_at new p).here (row_at old p).here &&
    (all_held old new p (λ x. x) && still_joined old new p)) e in
    let b = and_parts (same_colour (row_at new p).here (row_at old p).here)
    (all_held old new p (λ x. x) && still_joined old new p) a.1 in
    let c = and_parts (all_held old new p (λ x. x)) (still_joined old new p) b.1 in
    record {
      shape = same_shapes_true (row_at new p).shape (row_at old p).shape a.0;
      here = same_colour_true (row_at new p).here (row_at old p).here b.0;
      held = λ {x} {c = colour} h. held_by old new p (λ x. x) c.0 x colour h;
      together = λ {x} {y} t. joined old new p c.1 x y t;
    }

pub lesser_frames : (old new : List Job) → each_frame old (lesser old new) ≡ true → (p : Frame)
    → IsFrame (view_of old) p → Kept (view_of old) (view_of new) p
lesser_frames old new e p f = lesser_kept old new p (frame_passes old (lesser old new) e p f)

pub weakens : (old new : List Job)
    → ((same_heights old new && fewer_run old new) && each_frame old (lesser old new)) ≡ true
    → Weakened (view_of old) (view_of new)
weakens old new e = let both = and_parts (same_heights old new && fewer_run old new)
    (each_frame old (lesser old new)) e in
    record { jobs = same_jobs old new both.0; frames = lesser_frames old new both.1 }

-- ---- a frame that is gone
abbrev pub popped_test : List Job → List Job → Frame → Bool
popped_test old new q = (height_at old q.job == suc q.depth) &&
    ((height_at new q.job == q.depth) && (same_heights_but q.job old new && fewer_run old new))

pub popped : (old new : List Job) (q : Frame) → popped_test old new q ≡ true
    → Popped (view_of old) (view_of new) q
popped old new q e =
    let a = and_parts (height_at old q.job == suc q.depth)
    ((height_at new q.job == q.depth) && (same_heights_but q.job old new && fewer_run old new))
    e in
    let b = and_parts (height_at new q.job == q.depth)
    (same_heights_but q.job old new && fewer_run old new) a.1 in
    let c = and_parts (same_heights_but q.job old new) (fewer_run old new) b.1 in
    record {
      top = eqb-true (height_at old q.job) (suc q.depth) a.0;
      height = eqb-true (height_at new q.job) q.depth b.0;
      heights = heights_but q.job old new c.0;
      running = running old new c.1;
    }

-- ---- single premises
pub fits_new : (new : List Job) (q : Frame) → together_in new q ≡ true
    → (x y : Element) (c : Colour)
    → HoldsLive (view_of new) q x c → HoldsLive (view_of new) q y c
    → InOneRegion (view_of new) q x y
fits_new new q e x y c h k = eqb-true (region_in (row_at new q) x) (region_in (row_at new q) y)
    (implied (same_colour c c) (region_in (row_at new q) x == region_in (row_at new q) y)
    (pair_all (holders (row_at new q)) (holders (row_at new q))
    (λ h k. implies (same_colour h.1 k.1)
    (region_in (row_at new q) h.0 == region_in (row_at new q) k.0)) (x, c) (y, c)
    e (held_in new q x c h) (held_in new q y c k)) (same_colour_refl c))

abbrev pub live_joined_test : List Job → List Job → Frame → Bool
live_joined_test old new p = each_pair (holders (row_at new p)) (holders (row_at new p))
    (λ h k. implies (region_in (row_at old p) h.0 == region_in (row_at old p) k.0)
    (region_in (row_at new p) h.0 == region_in (row_at new p) k.0))

pub live_joined : (old new : List Job) (p : Frame) → live_joined_test old new p ≡ true
    → (x y : Element) (c d : Colour)
    → HoldsLive (view_of new) p x c → HoldsLive (view_of new) p y d
    → InOneRegion (view_of old) p x y
    → InOneRegion (view_of new) p x y
live_joined old new p e x y c d h k t = eqb-true (region_in (row_at new p) x)
    (region_in (row_at new p) y)
    (implied (region_in (row_at old p) x == region_in (row_at old p) y)
    (region_in (row_at new p) x == region_in (row_at new p) y)
    (pair_all (holders (row_at new p)) (holders (row_at new p))
    (λ h k. implies (region_in (row_at old p) h.0 == region_in (row_at old p) k.0)
    (region_in (row_at new p) h.0 == region_in (row_at new p) k.0))
    (x, c) (y, d) e (held_in new p x c h) (held_in new p y d k))
    (eq-eqb (region_in (row_at old p) x) (region_in (row_at old p) y) t))

pub all_shapes : (old new : List Job)
    → each_frame old (λ j d. same_shapes (row_of new j d).shape (row_of old j d).shape) ≡ true
    → (p : Frame) → IsFrame (view_of old) p → (view_of new).shape p ≡ (view_of old).shape p
all_shapes old new e p f = same_shapes_true (row_at new p).shape (row_at old p).shape
    (frame_passes old (λ j d. same_shapes (row_of new j d).shape (row_of old j d).shape) e p f)

pub all_heres : (old new : List Job)
    → each_frame old (λ j d. same_colour (row_of new j d).here (row_of old j d).here) ≡ true
    → (p : Frame) → IsFrame (view_of old) p → (view_of new).here p ≡ (view_of old).here p
all_heres old new e p f = same_colour_true (row_at new p).here (row_at old p).here
    (frame_passes old (λ j d. same_colour (row_of new j d).here (row_of old j d).here) e p f)

pub all_lesser : (old new : List Job)
    → each_frame old (λ j d. all_held old new (record { job = j; depth = d }) (λ x. x)) ≡ true
    → (p : Frame) → IsFrame (view_of old) p → (x : Element) (c : Colour)
    → HoldsLive (view_of new) p x c → HoldsLive (view_of old) p x c
all_lesser old new e p f = held_by old new p (λ x. x)
    (frame_passes old (λ j d. all_held old new (record { job = j; depth = d }) (λ x. x)) e p f)

pub all_joined : (old new : List Job)
    → each_frame old (λ j d. still_joined old new (record { job = j; depth = d })) ≡ true
    → (p : Frame) → IsFrame (view_of old) p → (x y : Element) → InOneRegion (view_of old) p x y
    → InOneRegion (view_of new) p x y
all_joined old new e p f = joined old new p
    (frame_passes old (λ j d. still_joined old new (record { job = j; depth = d })) e p f)

pub all_turn : (old new : List Job) (lost after : Colour)
    → each_frame old (λ j d. same_colour (row_of new j d).here
    (turns lost after (row_of old j d).here)) ≡ true
    → (p : Frame) → IsFrame (view_of old) p → Becomes lost after ((view_of old).here p)
    ((view_of new).here p)
all_turn old new lost after e p f = becomes lost after (row_at old p).here (row_at new p).here
    (frame_passes old (λ j d. same_colour (row_of new j d).here
    (turns lost after (row_of old j d).here)) e p f)

abbrev pub turned : List Job → List Job → Colour → Colour → ℕ → ℕ → Bool
turned old new lost after j d = list_all (turned_from old (record { job = j; depth = d }) lost
    after) (holders (row_of new j d))

pub all_turned : (old new : List Job) (lost after : Colour)
    → each_frame new (turned old new lost after) ≡ true
    → (p : Frame) (x : Element) (d : Colour) → HoldsLive (view_of new) p x d → (c : Colour)
    × HoldsLive (view_of old) p x c × Becomes lost after c d
all_turned old new lost after e p x d h =
    let found = any_in (λ k. holds_live old p k.0 k.1 &&
    (same_element k.0 x && same_colour d (turns lost after k.1))) (holders (row_at old p))
    (in_all (turned_from old p lost after) (x, d) (holders (row_at new p))
    (frame_passes new (turned old new lost after) e p h.frame) (held_in new p x d h)) in
    let k = found.0 in
    let a = and_parts (holds_live old p k.0 k.1)
    (same_element k.0 x && same_colour d (turns lost after k.1)) found.1 in
    let b = and_parts (same_element k.0 x) (same_colour d (turns lost after k.1)) a.1 in (
      k.1,
      subst (λ y. HoldsLive (view_of old) p y k.1) (same_element_true k.0 x b.0)
          (there old p k.0 k.1 a.0),
      becomes lost after k.1 d b.1,
    )
