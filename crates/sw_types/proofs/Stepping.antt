-- What a look at a target keeps of a walk, how a walk begins, and what holds at its end.
use Rattle.std.proofs.Common.{◌≡◌, ◌↔◌, ℕ, ◌+◌, ◌*◌, ◌<◌, ◌≤◌, inl, inr, Bool, false, List}
use Rattle.std.proofs.Common.{[], ◌∷◌, ◌++◌, length, get_or, replicate, take, Contains, All}
use Rattle.std.proofs.Common.{sym, ap, subst, ◌∙◌, arith, add-one}
use Rattle.std.proofs.Math.Nat.{suc-mul}
use Rattle.std.specs.List.{AllWithin, sum_by}
use Rattle.std.proofs.lemmas.Bool.{cases_lt, false≢true}
use Rattle.std.proofs.lemmas.List.{get_or_default, get_or_past, get_or-replicate, length-append}
use Rattle.std.proofs.lemmas.List.{length_push, length-replicate}
use Rattle.std.proofs.lemmas.List.Elements.{All-contains, All-from_get_or, All-nil}
use Rattle.std.proofs.lemmas.List.Elements.{Contains-push}
use Rattle.std.proofs.lemmas.List.Folds.{sum_by-replicate}
use Rattle.std.proofs.lemmas.List.Sums.{get_or-le-sum_by}
use Rattle.std.proofs.lemmas.Option.{none-some, slice_get_within}
use Rattle.sw_types.specs.Paths.{IsOrder, Path, one, AreInRange}
use Rattle.sw_types.specs.Walks.{is_fresh, progress_at, fresh_count, AllWait, IsBegun, IsWalk}
use Rattle.sw_types.specs.Walks.{Marked, steps_left, with_open, with_waiting}
use Rattle.sw_types.specs.declared.ordering.Group.{Group}
use Rattle.sw_types.specs.declared.ordering.Progress.{Progress}
use Rattle.sw_types.specs.declared.ordering.Progress.TheVariants.{Fresh, Open, Settled}
use Rattle.sw_types.specs.declared.ordering.Walk.{Walk}
use Rattle.sw_types.proofs.Grouping.{grouped_open, grouped_settled, grouped_united, taken_kept}
use Rattle.sw_types.proofs.Grouping.{taken_old, taken_until}
use Rattle.sw_types.proofs.Linking.{linked_open, linked_settled, linked_united}
use Rattle.sw_types.proofs.Searching.{joined, leads_within, marks_beyond}
use Rattle.sw_types.proofs.Walking.{cases_progress, fresh_count-set, fresh_not_open}
use Rattle.sw_types.proofs.Walking.{fresh_not_settled, listed_less, listed_open, settled_open, weight}

module _ (edges : List (List ℕ)) (walk : Walk) (t : ℕ)
    (is : IsWalk edges (with_waiting walk (t ∷ []))) (last : AllWait (with_waiting walk (t ∷ []))) where
  pub target_within : t < length edges
  target_within = All-contains (λ b. b < length edges) (walk.waiting ++ t ∷ []) t
      is.listed.waits_within (Contains-push walk.waiting t)

  lt : t < length walk.progress
  lt = subst (λ n. t < n) (sym is.listed.sized) target_within

  -- a settled target
  pub walk_passed : progress_at walk.progress t ≡ Settled → IsWalk edges walk
  walk_passed settled = record {
    listed = listed_less edges walk t walk.groups is.listed (ap is_fresh settled);
    grouped = grouped_settled walk t is.grouped last;
    linked = linked_settled edges walk t is.linked settled;
    settled = record {
      closed = is.settled.closed;
      marked = is.settled.marked;
      ordered = is.settled.ordered;
    };
  }

  -- an open one
  pub walk_united : (own count : ℕ) → progress_at walk.progress t ≡ Open own
      → AllWithin (λ (group : Group). group.first ≤ own) walk.groups 0 count
      → AllWithin (λ (group : Group). own < group.first) walk.groups count (length walk.groups)
      → IsWalk edges (record walk { groups = take count walk.groups })
  walk_united own count opened until after = record {
    listed = listed_less edges walk t (take count walk.groups) is.listed (ap is_fresh opened);
    grouped = grouped_united walk t own count is.grouped last after;
    linked = linked_united edges walk t is.linked last own opened (take count walk.groups)
        (taken_old walk.groups count) (taken_kept walk.groups own count after)
        (taken_until walk.groups own count until);
    settled = record {
      closed = is.settled.closed;
      marked = is.settled.marked;
      ordered = is.settled.ordered;
    };
  }

  -- a fresh one
  module _ (targets : List ℕ) (row : targets ≡ get_or edges t [])
      (fresh : progress_at walk.progress t ≡ Fresh) where
    pub walk_open : AreInRange edges → IsWalk edges (with_waiting (with_open walk t) targets)
    walk_open are = record {
      listed = listed_open edges walk t targets is.listed lt fresh
          (subst (All (λ b. b < length edges)) (sym row) (leads_within edges are t));
      grouped = grouped_open walk t targets is.grouped last;
      linked = linked_open edges walk t is.linked last is.listed is.grouped targets row fresh lt;
      settled = settled_open edges walk t targets is.settled fresh lt;
    }

    pub open_fewer : steps_left edges (with_waiting (with_open walk t) targets)
        < steps_left edges (with_waiting walk (t ∷ []))
    open_fewer =
        let all : ℕ = sum_by length edges in
        let counts = fresh_count-set walk.progress t (Open (length walk.opened)) lt in
        let was_fresh : weight (progress_at walk.progress t) ≡ 1 = ap weight fresh in
        let new : ℕ = fresh_count (with_open walk t).progress in
        let one_less : fresh_count walk.progress ≡ fresh_count (with_open walk t).progress + 1 =
        omega (arith, counts, was_fresh) in
        let product : fresh_count walk.progress * (sum_by length edges + 1)
        ≡ fresh_count (with_open walk t).progress * (sum_by length edges + 1)
        + (sum_by length edges + 1) =
        ap (λ n. n * (sum_by length edges + 1)) one_less ∙ mul_more new (all + 1) in
        let most : length targets ≤ sum_by length edges = subst (λ (l : List ℕ). length l ≤ sum_by length edges)
        (sym row) (get_or-le-sum_by length edges t [] target_within) in
        omega (arith, product, most, length_push walk.waiting t, length-append walk.waiting targets)
      where
        mul_more : (n m : ℕ) → (n + 1) * m ≡ n * m + m
        mul_more n m = rw add-one (suc-mul n m)

-- all numbers wait where none was come to
all_fresh : (count k : ℕ) → progress_at (replicate count Fresh) k ≡ Fresh
all_fresh count k = elim (cases_lt k count) [
  | inl lt ↦ get_or-replicate count k Fresh Fresh lt
  | inr le ↦ get_or_past (replicate count Fresh) k Fresh (omega (arith, length-replicate count Fresh))
]

walk_begins : (edges : List (List ℕ)) (waiting : List ℕ)
    → ((k : ℕ) → k < length edges → get_or waiting k 0 ≡ k) → length waiting ≡ length edges
    → IsWalk edges (record {
      progress = replicate (length edges) Fresh;
      opened = [];
      groups = [];
      waiting = waiting;
      order = [];
      returns = replicate (length edges) false;
    })
walk_begins edges waiting waits size =
    let none : (k : ℕ) → progress_at (replicate (length edges) Fresh) k ≡ Settled → ⊥ = λ k settled.
    fresh_not_settled (sym (all_fresh (length edges) k) ∙ settled) in
    let never : (k place : ℕ) → progress_at (replicate (length edges) Fresh) k ≡ Open place → ⊥ =
    λ k place opened. fresh_not_open place (sym (all_fresh (length edges) k) ∙ opened) in
    record {
      listed = record {
        sized = length-replicate (length edges) Fresh;
        marks_sized = length-replicate (length edges) false;
        placed = λ k place. (
          λ opened. absurd (never k place opened),
          λ at. absurd (none-some k at),
        );
        listed = λ k settled. absurd (none k settled);
        come = λ k lt. inr (
          k,
          (omega (arith, lt, size)),
          get_or_default waiting k k 0 (omega (arith, lt, size)) ∙ waits k lt,
        );
        waits_within = All-from_get_or (λ b. b < length edges) waiting 0 (λ i lt.
            let under : i < length edges = omega (arith, lt, size) in
            subst (λ b. b < length edges) (sym (waits i under)) under);
        within = All-nil (λ k. k < length edges);
        counted = (let count = sum_by-replicate weight (length edges) Fresh in omega (arith, count));
      };
      grouped = record {
        increasing = λ i j d before lt. absurd (omega (arith, lt));
        grounded = λ group has. absurd (let lt = has.1 in omega (arith, lt));
        covered = λ some. absurd (omega (arith, some));
      };
      linked = record {
        linked = λ a b place opened ahead ne. absurd (never a place opened);
        closed = λ a b place opened leads. absurd (never a place opened);
      };
      settled = record {
        closed = λ a b settled leads. absurd (none a settled);
        marked = λ a settled. absurd (none a settled);
        ordered = λ i b lt leads. absurd (omega (arith, lt));
      };
    }

pub walk_begun : (edges : List (List ℕ)) (walk : Walk) → IsBegun (length edges) walk
    → IsWalk edges walk
walk_begun edges walk is =
    let fresh = replicate (length edges) Fresh in
    let none = replicate (length edges) false in
    subst (λ (p : List Progress). IsWalk edges (record walk { progress = p })) (sym is.progress)
    (subst (λ (l : List ℕ). IsWalk edges (record walk { progress = fresh; opened = l }))
    (sym is.opened)
    (subst (λ (gs : List Group). IsWalk edges (record walk {
      progress = fresh;
      opened = [];
      groups = gs;
    })) (sym is.groups)
    (subst (λ (l : List ℕ). IsWalk edges (record walk {
      progress = fresh;
      opened = [];
      groups = [];
      order = l;
    })) (sym is.order)
    (subst (λ (m : List Bool). IsWalk edges (record walk {
      progress = fresh;
      opened = [];
      groups = [];
      order = [];
      returns = m;
    })) (sym is.returns) (walk_begins edges walk.waiting is.waits is.all)))))

pub none_begun : (count : ℕ) (walk : Walk) → IsBegun count walk → AllWait walk
none_begun count walk is group has = absurd
    (let gone = subst (λ (gs : List Group). Contains gs group) is.groups has in
    let lt = gone.1 in omega (arith, lt))

-- where nothing waits, the walk is done
module _ (edges : List (List ℕ)) (walk : Walk) (is : IsWalk edges walk) (all : AllWait walk)
    (empty : walk.waiting ≡ []) where
  none_open : length walk.opened ≡ 0
  none_open = elim (cases_lt 0 (length walk.opened)) [
    | inl some ↦ absurd
        (let (group, has, first) = is.grouped.covered some in
        let lt = all group has in
        let none : length walk.waiting ≡ 0 = ap length empty in omega (arith, lt, none))
    | inr le ↦ omega (arith, le)
  ]

  all_settled : (k : ℕ) → k < length edges → progress_at walk.progress k ≡ Settled
  all_settled k lt = elim (is.listed.come k lt) [
    | inl come ↦ elim (cases_progress (progress_at walk.progress k)) [
      | inl fresh ↦ absurd (false≢true (sym come ∙ ap is_fresh fresh))
      | inr rest ↦ elim rest [
        | inl (place, opened) ↦ absurd
            (let under = slice_get_within walk.opened place k ((is.listed.placed k place).0 opened) in
            omega (arith, under, none_open))
        | inr settled ↦ settled
      ]
    ]
    | inr waits ↦ absurd
        (let gone = subst (λ (l : List ℕ). Contains l k) empty waits in
        let none = gone.1 in omega (arith, none))
  ]

  pub marks_right : (k : ℕ) → Marked walk.returns k ↔ Path edges k k
  marks_right = marks_beyond edges walk.returns is.listed.marks_sized
      (λ k lt. is.settled.marked k (all_settled k lt))

  pub order_right : ((k : ℕ) → get_or walk.returns k false ≡ false) → IsOrder edges walk.order
  order_right unmarked = record {
    ordered = λ i b lt leads. elim (is.settled.ordered i b lt leads) [
      | inl before ↦ before
      | inr path ↦ absurd
          (let a = get_or walk.order i 0 in
          false≢true (sym (unmarked a)
          ∙ (marks_right a).1 (joined edges a b a (one b leads) path)))
    ];
    short = omega (arith, is.listed.counted);
    within = is.listed.within;
    all = λ k lt. is.listed.listed k (all_settled k lt);
  }
