-- What changes do to what a palette shows of jobs.
use Rattle.std.proofs.Common.{◌≡◌, ◌⊎◌, ℕ, ◌<◌, ◌≤◌, arith, refl, ap, sym, ◌∙◌, inl, inr, subst}
use Rattle.std.proofs.Common.{Bool, true, false, cond, ltb, Option, Some, None, List, [], ◌∷◌}
use Rattle.std.specs.Prelude.{if◌then◌else◌, nat_lt}
use Rattle.std.proofs.lemmas.Bool.{cases_lt, ltb-true, ltb-false}
use Rattle.sw_color_rules.specs.Changes.{Change, Fresh, Mark, Push, Begin, Pop, Merge, HandOver}
use Rattle.sw_late_facts.specs.Alike.{job_of}
use Rattle.sw_late_facts.proofs.Sights.{Sight, met, met_top, meetings_commute}
use Rattle.sw_late_facts.proofs.Handing.{IsSight, is_named, handed, made, met_sight, handed_sight}
use Rattle.sw_late_facts.proofs.Handing.{made_sight, made_before, made_commutes, handed_top}
use Rattle.sw_late_facts.proofs.Handing.{handing_commutes}

-- Owners are seen as jobs: an actor is None.
abbrev pub Jobs : Type 0
Jobs = Sight (Option ℕ)

-- the owner of two colours, of which the first has the lower number
abbrev pub job_united : Option ℕ → Option ℕ → Option ℕ
job_united (Some i) other = other
job_united None other = None

abbrev pub job_handed : ℕ → Option ℕ → Option ℕ
job_handed j (Some i) = Some j
job_handed j None = None

pub none_wins : (o : Option ℕ) → job_united o None ≡ None
none_wins (Some i) = refl
none_wins None = refl

-- ---- a change
abbrev pub see : Change → Jobs → Jobs
see (Fresh o) s = made job_united job_handed (job_of (Some o)) s
see (Mark tint) s = s
see (Push job n) s = s
see (Begin n) s = s
see (Pop job) s = s
see (Merge a b) s =
    if nat_lt a s.count then (if nat_lt b s.count then met job_united a b s else s) else s
see (HandOver n j) s = handed job_united job_handed n j s

abbrev pub seen : List Change → Jobs → Jobs
seen [] s = s
seen (c ∷ cs) s = seen cs (see c s)

pub ltb_is : (a b : ℕ) → a < b → ltb a b ≡ true
ltb_is a b below = by (ltb a b) refl where
  by : (l : Bool) → ltb a b ≡ l → ltb a b ≡ true
  by true e = e
  by false e = absurd (omega (arith, ltb-false a b e, below))

pub ltb_not : (a b : ℕ) → b ≤ a → ltb a b ≡ false
ltb_not a b past = by (ltb a b) refl where
  by : (l : Bool) → ltb a b ≡ l → ltb a b ≡ false
  by true e = absurd (omega (arith, ltb-true a b e, past))
  by false e = e

pub see_in : (a b : ℕ) (s : Jobs) → a < s.count → b < s.count
    → see (Merge a b) s ≡ met job_united a b s
see_in a b s a_in b_in =
    ap (λ t. cond t (cond (ltb b s.count) (met job_united a b s) s) s) (ltb_is a s.count a_in)
    ∙ ap (λ t. cond t (met job_united a b s) s) (ltb_is b s.count b_in)

pub see_out : (a b : ℕ) (s : Jobs) → (s.count ≤ a) ⊎ (s.count ≤ b) → see (Merge a b) s ≡ s
see_out a b s (inl out) =
    ap (λ t. cond t (cond (ltb b s.count) (met job_united a b s) s) s) (ltb_not a s.count out)
see_out a b s (inr out) =
    ap (λ t. cond (ltb a s.count) (cond t (met job_united a b s) s) s) (ltb_not b s.count out)
    ∙ both (ltb a s.count)
  where
    both : (t : Bool) → cond t s s ≡ s
    both true = refl
    both false = refl

-- whether two colours meet
pub meet_or_not : (a b : ℕ) (s : Jobs)
    → ((a < s.count) × (b < s.count)) ⊎ ((s.count ≤ a) ⊎ (s.count ≤ b))
meet_or_not a b s = elim (cases_lt a s.count) [
  | inr out ↦ inr (inl out)
  | inl a_in ↦ elim (cases_lt b s.count) [
    | inr out ↦ inr (inr out)
    | inl b_in ↦ inl (a_in, b_in)
  ]
]

-- ---- what stays
pub see_sight : (c : Change) (s : Jobs) → IsSight s → IsSight (see c s)
see_sight (Fresh o) s is = made_sight job_united job_handed (job_of (Some o)) s is
see_sight (Mark tint) s is = is
see_sight (Push job n) s is = is
see_sight (Begin n) s is = is
see_sight (Pop job) s is = is
see_sight (Merge a b) s is = elim (meet_or_not a b s) [
  | inl both ↦ subst IsSight (sym (see_in a b s both.0 both.1))
      (met_sight job_united job_handed a b s is both.0 both.1)
  | inr out ↦ subst IsSight (sym (see_out a b s out)) is
]
see_sight (HandOver n j) s is = handed_sight job_united job_handed n j s is

pub see_count : (c : Change) (s : Jobs) → s.count ≤ (see c s).count
see_count (Fresh o) s = omega arith
see_count (Mark tint) s = omega arith
see_count (Push job n) s = omega arith
see_count (Begin n) s = omega arith
see_count (Pop job) s = omega arith
see_count (Merge a b) s = elim (meet_or_not a b s) [
  | inl both ↦ omega (arith, ap (λ (t : Jobs). t.count) (see_in a b s both.0 both.1))
  | inr out ↦ omega (arith, ap (λ (t : Jobs). t.count) (see_out a b s out))
]
see_count (HandOver n j) s = omega arith

-- a colour that an actor owns
pub record IsActors (s : Jobs) (h : ℕ) : Type 0 where
  pub inside : h < s.count
  pub none : s.owner h ≡ None

pub see_top : (c : Change) (s : Jobs) → IsSight s → (h : ℕ) → IsActors s h → IsActors (see c s) h
see_top c s is h top = record {
  inside = omega (arith, see_count c s, top.inside);
  none = by c;
} where
  by : (c : Change) → (see c s).owner h ≡ None
  by (Fresh o) =
      made_before job_united job_handed (job_of (Some o)) s h top.inside ∙ top.none
  by (Mark tint) = top.none
  by (Push job n) = top.none
  by (Begin n) = top.none
  by (Pop job) = top.none
  by (Merge a b) = elim (meet_or_not a b s) [
    | inl both ↦ ap (λ (t : Jobs). t.owner h) (see_in a b s both.0 both.1)
        ∙ met_top job_united None (λ o. refl) none_wins a b s (is_named s is) h top.none
    | inr out ↦ ap (λ (t : Jobs). t.owner h) (see_out a b s out) ∙ top.none
  ]
  by (HandOver n j) =
      handed_top job_united job_handed None (λ o. refl) none_wins (λ j. refl) n j s h top.none

-- ---- a merge with an actor's colour may wait
pub record IsLink (s : Jobs) (h x : ℕ) : Type 0 where
  pub actor : IsActors s h
  pub inside : x < s.count

pub see_link : (c : Change) (s : Jobs) → IsSight s → (h x : ℕ) → IsLink s h x
    → IsLink (see c s) h x
see_link c s is h x link = record {
  actor = see_top c s is h link.actor;
  inside = omega (arith, see_count c s, link.inside);
}

pub link_waits : (c : Change) (s : Jobs) → IsSight s → (h x : ℕ) → IsLink s h x
    → see (Merge h x) (see c s) ≡ see c (see (Merge h x) s)
link_waits c s is h x link =
    see_in h x (see c s) (see_link c s is h x link).actor.inside (see_link c s is h x link).inside
    ∙ by c
    ∙ ap (see c) (sym (see_in h x s link.actor.inside link.inside))
  where
    by : (c : Change) → met job_united h x (see c s) ≡ see c (met job_united h x s)
    by (Fresh o) =
        made_commutes job_united job_handed (job_of (Some o)) h x s is link.actor.inside link.inside
    by (Mark tint) = refl
    by (Push job n) = refl
    by (Begin n) = refl
    by (Pop job) = refl
    by (Merge a b) = elim (meet_or_not a b s) [
      | inl both ↦
          ap (met job_united h x) (see_in a b s both.0 both.1)
          ∙ meetings_commute job_united None (λ o. refl) none_wins a b h x s (is_named s is)
          link.actor.none
          ∙ sym (see_in a b (met job_united h x s) both.0 both.1)
      | inr out ↦
          ap (met job_united h x) (see_out a b s out)
          ∙ sym (see_out a b (met job_united h x s) out)
    ]
    by (HandOver n j) =
        handing_commutes job_united job_handed None (λ o. refl) none_wins (λ j. refl) h x s
        (is_named s is) link.actor.none n j
