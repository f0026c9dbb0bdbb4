-- Frames, and how they lie on one another.
use Rattle.std.specs.Prelude.{◌≡◌, ◌≢◌, ◌⊎◌, ℕ, zero, suc, ◌≤◌, Bool, true, false, refl}
use Rattle.std.proofs.Common.{sym, ap, ◌∙◌, inl, inr, arith}
use Rattle.std.proofs.lemmas.Bool.{cases_eq}
use Rattle.sw_owner_facts.specs.Colours.{Actor, On}
use Rattle.sw_owner_facts.specs.View.{Frame, above, IsLowerFrame, Element, Here, Register, IsolatedTo}
use Rattle.sw_owner_facts.specs.View.{View}
use Rattle.sw_owner_facts.specs.View.{IsFrame, IsTop}
use Rattle.sw_owner_facts.specs.Owned.{IsStacked}

pub same_frame : {p q : Frame} → p.job ≡ q.job → p.depth ≡ q.depth → p ≡ q
same_frame e f = λ i. record { job = e i; depth = f i }

pub cases_frame : (p q : Frame) → (p ≡ q) ⊎ (p ≢ q)
cases_frame p q = by (cases_eq p.job q.job) (cases_eq p.depth q.depth)
  where
    by : (p.job ≡ q.job) ⊎ (p.job ≢ q.job) → (p.depth ≡ q.depth) ⊎ (p.depth ≢ q.depth) → (p ≡ q)
        ⊎ (p ≢ q)
    by (inl e) (inl f) = inl (same_frame e f)
    by (inl e) (inr n) = inr λ h. n (ap (λ (f : Frame). f.depth) h)
    by (inr n) f = inr λ h. n (ap (λ (f : Frame). f.job) h)

pub cases_register : (x : Element) (r : ℕ) → (x ≡ Register r) ⊎ (x ≢ Register r)
cases_register Here r = inr λ e. cc (e)
cases_register (Register s) r = elim (cases_eq s r) [
  | inl e ↦ inl (ap Register e)
  | inr n ↦ inr λ e. n (cc (e))
]

pub top_is_frame : (w : View) (p : Frame) → IsTop w p → IsFrame w p
top_is_frame w p top = omega arith

pub frame_below : (w : View) (p : Frame) → IsFrame w (above p) → IsFrame w p
frame_below w p f = omega arith

pub nothing_above : (w : View) (p : Frame) → IsTop w p → ¬ (IsFrame w (above p))
nothing_above w p top f = omega arith

pub below_above : (p : Frame) → IsLowerFrame p (above p)
below_above p = (refl, omega arith)

pub below_is_frame : (w : View) {p q : Frame} → IsLowerFrame p q → IsFrame w q → IsFrame w p
below_is_frame w below f = omega (arith, below.1, ap w.height below.0)

pub below_is_not_top : (w : View) {p q : Frame} → IsLowerFrame p q → IsFrame w q → ¬ (IsTop w p)
below_is_not_top w below f top = omega (arith, below.1, ap w.height below.0)

pub below_differs : {p q : Frame} → IsLowerFrame p q → p ≢ q
below_differs below e = omega (arith, below.1, ap (λ (f : Frame). f.depth) e)

pub below_trans : {o p q : Frame} → IsLowerFrame o p → IsLowerFrame p q → IsLowerFrame o q
below_trans a b = (a.0 ∙ b.0, omega (arith, a.1, b.1))

-- a frame of the top frame's job is that frame, or below it
pub top_or_below : (w : View) (p q : Frame) → IsTop w q → p.job ≡ q.job → IsFrame w p → (p ≡ q)
    ⊎ IsLowerFrame p q
top_or_below w p q top e f = by (cases_eq p.depth q.depth)
  where
    by : (p.depth ≡ q.depth) ⊎ (p.depth ≢ q.depth) → (p ≡ q) ⊎ IsLowerFrame p q
    by (inl d) = inl (same_frame e d)
    by (inr n) = inr (e, omega (arith, n, ap w.height e))

pub same_top : (w : View) {p q : Frame} → IsTop w p → IsTop w q → p.job ≡ q.job → p ≡ q
same_top w p_top q_top e = same_frame e (omega (arith, ap w.height e))

pub cases_crossing : (b : Bool) → (b ≡ true) ⊎ (b ≡ false)
cases_crossing true = inl refl
cases_crossing false = inr refl

-- a frame that stands on an actor is one of a function isolated to it, or lies above one
pub anchored : (w : View) → IsStacked w → (a : Actor) (j d : ℕ)
    → IsFrame w (record { job = j; depth = d })
    → (w.shape (record { job = j; depth = d })).executor ≡ On a
    → (o : Frame) × (o.job ≡ j) × (o.depth ≤ d) × ((w.shape o).isolation ≡ IsolatedTo a)
anchored w stacked a j zero f on = (
  record { job = j; depth = zero },
  refl,
  omega arith,
  stacked.entered (record { job = j; depth = zero }) f (inl refl) on,
)
anchored w stacked a j (suc d) f on = by (cases_crossing (w.shape q).crossing)
    (anchored w stacked a j d (frame_below w p f))
  where
    p : Frame
    p = record { job = j; depth = d }

    q : Frame
    q = record { job = j; depth = suc d }

    by : ((w.shape q).crossing ≡ true) ⊎ ((w.shape q).crossing ≡ false)
        → ((w.shape p).executor ≡ On a → (o : Frame) × (o.job ≡ j) × (o.depth ≤ d)
        × ((w.shape o).isolation ≡ IsolatedTo a))
        → (o : Frame) × (o.job ≡ j) × (o.depth ≤ suc d) × ((w.shape o).isolation ≡ IsolatedTo a)
    by (inl crosses) below = (q, refl, omega arith, stacked.entered q f (inr crosses) on)
    by (inr stays) below = let found = below (sym (stacked.inherited p f stays) ∙ on) in
        (found.0, found.1, omega (arith, found.2), found.3)
