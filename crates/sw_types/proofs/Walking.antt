-- How far numbers have come, and where they stand, after a step of a walk.
use Rattle.std.proofs.Common.{◌≡◌, ◌≢◌, ◌↔◌, ℕ, ◌+◌, ◌<◌, ◌⊎◌, inl, inr, false}
use Rattle.std.proofs.Common.{cond, List, [], ◌∷◌, ◌++◌, length, get_or, set, take}
use Rattle.std.proofs.Common.{All, Some, slice_get, refl, sym, ap, subst, ◌∙◌, arith}
use Rattle.std.proofs.lemmas.Bool.{cases_eq, cases_lt, false≢true}
use Rattle.std.proofs.lemmas.List.{get_or-set_same, get_or-set_other, get_or_append_left}
use Rattle.std.proofs.lemmas.List.{get_or_past, get_or-take, length-append, length_push, length-set}
use Rattle.std.proofs.lemmas.List.{length-take}
use Rattle.std.proofs.lemmas.List.Elements.{All-append, Contains-append_left, Contains-push_cases}
use Rattle.std.proofs.lemmas.List.Sums.{sum_by-set}
use Rattle.std.proofs.lemmas.Option.{slice_get_within, slice_get-get_or, get_or_from_slice_get}
use Rattle.sw_list.proofs.ListLemmas.{slice_get_before, slice_get_first, at_seam, some_injective}
use Rattle.sw_types.specs.Walks.{is_fresh, progress_at, fresh_count, AreListed, with_waiting}
use Rattle.sw_types.specs.Walks.{AreSettled, with_open}
use Rattle.sw_types.specs.declared.ordering.Group.{Group}
use Rattle.sw_types.specs.declared.ordering.Progress.{Progress}
use Rattle.sw_types.specs.declared.ordering.Progress.TheVariants.{Fresh, Open, Settled}
use Rattle.sw_types.specs.declared.ordering.Walk.{Walk}

pub cases_progress : (p : Progress)
    → (p ≡ Fresh) ⊎ (((place : ℕ) × (p ≡ Open place)) ⊎ (p ≡ Settled))
cases_progress Fresh = inl refl
cases_progress (Open place) = inr (inl (place, refl))
cases_progress Settled = inr (inr refl)

pub same_place : (one other : ℕ) → Open one ≡ Open other → one ≡ other
same_place one other e = cc

pub fresh_not_open : (place : ℕ) → Fresh ≡ Open place → ⊥
fresh_not_open place e = cc

pub fresh_not_settled : Fresh ≡ Settled → ⊥
fresh_not_settled e = cc

pub open_not_settled : (place : ℕ) → Open place ≡ Settled → ⊥
open_not_settled place e = cc

-- a fresh number is counted
abbrev pub weight : Progress → ℕ
weight progress = cond (is_fresh progress) 1 0

-- a number that the walk has come to has a place in the table
pub in_table : (progress : List Progress) (k : ℕ) → is_fresh (progress_at progress k) ≡ false
    → k < length progress
in_table progress k come = elim (cases_lt k (length progress)) [
  | inl lt ↦ lt
  | inr le ↦ absurd (false≢true (sym come ∙ ap is_fresh (get_or_past progress k Fresh le)))
]

-- an open number is among the edges
pub opened_within : (edges : List (List ℕ)) (walk : Walk) (place : ℕ) → AreListed edges walk
    → place < length walk.opened → get_or walk.opened place 0 < length edges
opened_within edges walk place is lt =
    let number = get_or walk.opened place 0 in
    let opened = (is.placed number place).1 (slice_get-get_or walk.opened place 0 lt) in
    subst (λ n. get_or walk.opened place 0 < n) is.sized
    (in_table walk.progress number (ap is_fresh opened))

-- one number's progress changes
pub cases_set : (progress : List Progress) (b k : ℕ) (p : Progress) → b < length progress
    → ((k ≡ b) × (progress_at (set progress b p) k ≡ p))
    ⊎ ((k ≢ b) × (progress_at (set progress b p) k ≡ progress_at progress k))
cases_set progress b k p lt = elim (cases_eq k b) [
  | inl e ↦ inl (
    e,
    subst (λ j. progress_at (set progress b p) j ≡ p) (sym e)
        (get_or-set_same progress b p Fresh lt),
  )
  | inr ne ↦ inr (ne, get_or-set_other progress b k p Fresh ne)
]

pub fresh_count-set : (progress : List Progress) (b : ℕ) (p : Progress) → b < length progress
    → fresh_count (set progress b p) + weight (progress_at progress b)
    ≡ fresh_count progress + weight p
fresh_count-set progress b p lt = sum_by-set weight progress b p Fresh lt

pub all_first : {A : Type 0} (P : A → Type 0) (xs ys : List A) → All P (xs ++ ys) → All P xs
all_first P xs ys all k d lt = subst P (get_or_append_left xs ys d k lt)
    (all k d (omega (arith, lt, length-append xs ys)))

-- an element of a shortened list
pub slice_get-take : {A : Type 0} (n : ℕ) (xs : List A) (i : ℕ) (x : A)
    → (slice_get (take n xs) i ≡ Some x) ↔ ((i < n) × (slice_get xs i ≡ Some x))
slice_get-take n xs i x = (
  λ is.
      let within = slice_get_within (take n xs) i x is in
      let lt : i < n = omega (arith, within, length-take n xs) in
      let under : i < length xs = omega (arith, within, length-take n xs) in (
        lt,
        slice_get-get_or xs i x under
            ∙ ap (λ y. Some y) (sym (get_or-take n xs i x lt)
            ∙ get_or_from_slice_get (take n xs) i x x is),
      ),
  λ (lt, is).
      let under = slice_get_within xs i x is in
      slice_get-get_or (take n xs) i x (omega (arith, under, lt, length-take n xs))
      ∙ ap (λ y. Some y) (get_or-take n xs i x lt ∙ get_or_from_slice_get xs i x x is),
)

module _ (edges : List (List ℕ)) (walk : Walk) (t : ℕ) where
  -- a target that the walk has come to needs no look
  pub listed_less : (groups : List Group) → AreListed edges (with_waiting walk (t ∷ []))
      → is_fresh (progress_at walk.progress t) ≡ false
      → AreListed edges (record walk { groups = groups })
  listed_less groups is here = record {
    sized = is.sized;
    marks_sized = is.marks_sized;
    placed = is.placed;
    listed = is.listed;
    come = λ k lt. elim (is.come k lt) [
      | inl done ↦ inl done
      | inr waits ↦ elim (Contains-push_cases walk.waiting t k waits) [
        | inl still ↦ inr still
        | inr e ↦ inl (subst (λ j. is_fresh (progress_at walk.progress j) ≡ false) e here)
      ]
    ];
    waits_within = all_first (λ b. b < length edges) walk.waiting (t ∷ []) is.waits_within;
    within = is.within;
    counted = is.counted;
  }

  -- a fresh target is opened
  pub listed_open : (targets : List ℕ) → AreListed edges (with_waiting walk (t ∷ []))
      → t < length walk.progress → progress_at walk.progress t ≡ Fresh
      → All (λ b. b < length edges) targets
      → AreListed edges (with_waiting (with_open walk t) targets)
  listed_open targets is lt fresh all =
      let n : ℕ = length walk.opened in
      let counts = fresh_count-set walk.progress t (Open (length walk.opened)) lt in
      let was_fresh : weight (progress_at walk.progress t) ≡ 1 = ap weight fresh in
      let opened_length = length_push walk.opened t in
      record {
        sized = length-set walk.progress t (Open (length walk.opened)) ∙ is.sized;
        marks_sized = is.marks_sized;
        placed = λ k place. (stands k place, comes k place);
        listed = λ k settled. elim (cases_set walk.progress t k (Open n) lt) [
          | inl (e, now) ↦ absurd (open_not_settled n (sym now ∙ settled))
          | inr (ne, same) ↦ is.listed k (sym same ∙ settled)
        ];
        come = λ k under. elim (cases_set walk.progress t k (Open n) lt) [
          | inl (e, now) ↦ inl (ap is_fresh now)
          | inr (ne, same) ↦ elim (is.come k under) [
            | inl done ↦ inl (ap is_fresh same ∙ done)
            | inr waits ↦ elim (Contains-push_cases walk.waiting t k waits) [
              | inl still ↦ inr (Contains-append_left walk.waiting targets k still)
              | inr e ↦ absurd (ne (sym e))
            ]
          ]
        ];
        waits_within = All-append (λ b. b < length edges) walk.waiting targets
            (all_first (λ b. b < length edges) walk.waiting (t ∷ []) is.waits_within) all;
        within = is.within;
        counted = omega (arith, is.counted, counts, was_fresh, opened_length);
      }
    where
      stands : (k place : ℕ)
          → progress_at (set walk.progress t (Open (length walk.opened))) k ≡ Open place
          → slice_get (walk.opened ++ t ∷ []) place ≡ Some k
      stands k place now =
          elim (cases_set walk.progress t k (Open (length walk.opened)) lt) [
            | inl (e, set) ↦ subst (λ p. slice_get (walk.opened ++ t ∷ []) p ≡ Some k)
                (same_place (length walk.opened) place (sym set ∙ now))
                (at_seam walk.opened t [] ∙ ap (λ j. Some j) (sym e))
            | inr (ne, same) ↦ slice_get_before walk.opened (t ∷ []) place k
                ((is.placed k place).0 (sym same ∙ now))
          ]

      comes : (k place : ℕ) → slice_get (walk.opened ++ t ∷ []) place ≡ Some k
          → progress_at (set walk.progress t (Open (length walk.opened))) k ≡ Open place
      comes k place at = elim (cases_lt place (length walk.opened)) [
        | inl old ↦
            (let was = (is.placed k place).1
            (sym (slice_get_first walk.opened (t ∷ []) place old) ∙ at) in
            elim (cases_set walk.progress t k (Open (length walk.opened)) lt) [
              | inl (e, set) ↦ absurd (fresh_not_open place (sym fresh
                  ∙ subst (λ j. progress_at walk.progress j ≡ Open place) e was))
              | inr (ne, same) ↦ same ∙ was
            ])
        | inr new ↦
            (let last : length walk.opened ≡ place =
            (let under = slice_get_within (walk.opened ++ t ∷ []) place k at in
            omega (arith, under, length_push walk.opened t)) in
            let same : t ≡ k = some_injective (sym (at_seam walk.opened t [])
            ∙ ap (slice_get (walk.opened ++ t ∷ [])) last ∙ at) in
            subst (λ j. progress_at (set walk.progress t (Open (length walk.opened))) j
            ≡ Open place) same
            (get_or-set_same walk.progress t (Open (length walk.opened)) Fresh lt
            ∙ ap (λ p. Open p) last))
      ]

-- nothing more is settled where a fresh number is opened
pub settled_open : (edges : List (List ℕ)) (walk : Walk) (t : ℕ) (targets : List ℕ)
    → AreSettled edges (with_waiting walk (t ∷ [])) → progress_at walk.progress t ≡ Fresh
    → t < length walk.progress → AreSettled edges (with_waiting (with_open walk t) targets)
settled_open edges walk t targets is fresh lt = record {
  closed = λ a b settled leads.
      let done = is.closed a b (before a settled) leads in
      elim (cases_set walk.progress t b (Open (length walk.opened)) lt) [
        | inl (e, now) ↦ absurd (fresh_not_settled (sym fresh
            ∙ subst (λ j. progress_at walk.progress j ≡ Settled) e done))
        | inr (ne, same) ↦ same ∙ done
      ];
  marked = λ a settled. is.marked a (before a settled);
  ordered = is.ordered;
}
  where
    before : (a : ℕ) → progress_at (set walk.progress t (Open (length walk.opened))) a ≡ Settled
        → progress_at walk.progress a ≡ Settled
    before a settled = elim (cases_set walk.progress t a (Open (length walk.opened)) lt) [
      | inl (e, now) ↦ absurd (open_not_settled _ (sym now ∙ settled))
      | inr (ne, same) ↦ sym same ∙ settled
    ]
