-- How many events of a job there are, and what rank an event has among them.
use Rattle.std.proofs.Common.{◌≡◌, ℕ, zero, suc, ◌+◌, ◌<◌, ◌≤◌, inl, inr, Bool, cond, eqb, Some}
use Rattle.std.proofs.Common.{List, [], ◌∷◌, ◌++◌, length, take, refl, ap, ◌∙◌, arith}
use Rattle.std.proofs.Common.{length-append}
use Rattle.std.specs.List.{slice_get}
use Rattle.std.proofs.lemmas.Bool.{cases_eq, cases_lt, eq-eqb, ne_eqb}
use Rattle.std.proofs.lemmas.List.{take-append-le, take_all}
use Rattle.std.proofs.lemmas.List.Sums.{sum_by_push, sum_by-take-le, sum_by-cons}
use Rattle.sw_value.specs.Transition.{Transition}
use Rattle.sw_before.specs.Clocks.{count_of, rank_of}

abbrev one_if : Bool → ℕ
one_if b = cond b 1 0

-- what an event adds to the count of a job
abbrev pub weight : ℕ → Transition → ℕ
weight job t = one_if (eqb t.job job)

pub weight_own : (t : Transition) (job : ℕ) → t.job ≡ job → weight job t ≡ 1
weight_own t job own = ap one_if (eq-eqb t.job job own)

weight_other : (t : Transition) (job : ℕ) → (t.job ≡ job → ⊥) → weight job t ≡ 0
weight_other t job other = ap one_if (ne_eqb t.job job other)

pub count_push : (job : ℕ) (events : List Transition) (e : Transition)
    → count_of job (events ++ e ∷ []) ≡ count_of job events + weight job e
count_push job events e = sum_by_push (weight job) events e

pub count_push_own : (events : List Transition) (e : Transition)
    → count_of e.job (events ++ e ∷ []) ≡ suc (count_of e.job events)
count_push_own events e = omega (arith, count_push e.job events e, weight_own e e.job refl)

pub count_grows : (job : ℕ) (events : List Transition) (e : Transition)
    → count_of job events ≤ count_of job (events ++ e ∷ [])
count_grows job events e = omega (arith, count_push job events e)

pub rank_le : (job : ℕ) (events : List Transition) (p : ℕ)
    → rank_of job events p ≤ count_of job events
rank_le job events p = sum_by-take-le (weight job) events (suc p)

-- what the first k + 1 events have is the first one's and what the k after it have
rank_cons : (job : ℕ) (x : Transition) (xs : List Transition) (k : ℕ)
    → count_of job (take (suc k) (x ∷ xs)) ≡ weight job x + count_of job (take k xs)
rank_cons job x xs k = sum_by-cons (weight job) x (take k xs)

-- an event at p or later has a greater rank than all that are before p
pub count_below : (events : List Transition) (q p : ℕ) (t : Transition) → q ≤ p
    → slice_get events p ≡ Some t → count_of t.job (take q events) < rank_of t.job events p
count_below [] q p t le is = cc
count_below (x ∷ xs) zero zero t le is =
    let same : x.job ≡ t.job = cc in
    omega (arith, rank_cons t.job x xs zero, weight_own x t.job same)
count_below (x ∷ xs) zero (suc p) t le is =
    omega (arith, rank_cons t.job x xs (suc p), count_below xs zero p t (omega arith) is)
count_below (x ∷ xs) (suc q) zero t le is = absurd (omega (arith, le))
count_below (x ∷ xs) (suc q) (suc p) t le is =
    omega (
      arith,
      rank_cons t.job x xs q,
      rank_cons t.job x xs (suc p),
      count_below xs q p t (omega (arith, le)) is,
    )

pub rank_some : (events : List Transition) (p : ℕ) (t : Transition) → slice_get events p ≡ Some t
    → 0 < rank_of t.job events p
rank_some events p t is = count_below events zero p t (omega arith) is

pub rank_mono : (job : ℕ) (events : List Transition) (p q : ℕ) → p ≤ q
    → rank_of job events p ≤ rank_of job events q
rank_mono job [] p q le = omega arith
rank_mono job (x ∷ xs) zero zero le = omega arith
rank_mono job (x ∷ xs) zero (suc q) le =
    omega (arith, rank_cons job x xs zero, rank_cons job x xs (suc q))
rank_mono job (x ∷ xs) (suc p) zero le = absurd (omega (arith, le))
rank_mono job (x ∷ xs) (suc p) (suc q) le =
    omega (
      arith,
      rank_cons job x xs (suc p),
      rank_cons job x xs (suc q),
      rank_mono job xs p q (omega (arith, le)),
    )

pub rank_more : (job : ℕ) (events later : List Transition) (p : ℕ) → p < length events
    → rank_of job (events ++ later) p ≡ rank_of job events p
rank_more job events later p below =
    ap (count_of job) (take-append-le (suc p) events later (omega (arith, below)))

pub rank_end : (events : List Transition) (e : Transition)
    → rank_of e.job (events ++ e ∷ []) (length events) ≡ suc (count_of e.job events)
rank_end events e =
    ap (count_of e.job) (take_all (suc (length events)) (events ++ e ∷ [])
    (omega (arith, length-append events (e ∷ [])))) ∙ count_push_own events e

-- a job that has events has a last one
pub last_event : (job : ℕ) (events : List Transition) → 0 < count_of job events
    → (p : ℕ) × (t : Transition) × (slice_get events p ≡ Some t) × (t.job ≡ job)
    × (rank_of job events p ≡ count_of job events)
last_event job [] some = absurd (omega (arith, some))
last_event job (x ∷ xs) some =
    let whole = sum_by-cons (weight job) x xs in
    elim (cases_lt 0 (count_of job xs)) [
      | inl later ↦ (
          let (p, t, is, own, last) = last_event job xs later in
          (suc p, t, is, own, omega (arith, rank_cons job x xs (suc p), whole, last))
          )
      | inr none ↦ elim (cases_eq x.job job) [
        | inl own ↦ (
          zero,
          x,
          refl,
          own,
          omega (arith, rank_cons job x xs zero, whole, none, weight_own x job own),
        )
        | inr other ↦ absurd (omega (arith, whole, some, none, weight_other x job other))
      ]
    ]
