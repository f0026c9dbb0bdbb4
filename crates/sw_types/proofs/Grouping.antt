-- The groups of a walk, after a step.
use Rattle.std.proofs.Common.{ℕ, ◌<◌, ◌≤◌, inl, inr, List, [], ◌∷◌, ◌++◌}
use Rattle.std.proofs.Common.{length, get_or, take, Contains, refl, sym, subst, ◌∙◌}
use Rattle.std.proofs.Common.{arith}
use Rattle.std.specs.List.{AllWithin}
use Rattle.std.proofs.lemmas.Bool.{cases_lt}
use Rattle.std.proofs.lemmas.List.{get_or-take, length-take, length-append, length_push}
use Rattle.std.proofs.lemmas.List.{get_or_append_left, get_or_push}
use Rattle.std.proofs.lemmas.List.Elements.{Contains-get_or, Contains-append_left, Contains-push}
use Rattle.std.proofs.lemmas.List.Elements.{Contains-push_cases}
use Rattle.std.proofs.lemmas.List.Quantifiers.{all_pairs_push}
use Rattle.sw_types.specs.Walks.{AllWait, AreGrouped, AreInOrder, with_open}
use Rattle.sw_types.specs.Walks.{with_waiting}
use Rattle.sw_types.specs.declared.ordering.Group.{Group}
use Rattle.sw_types.specs.declared.ordering.Walk.{Walk}

abbrev BeginsBefore : Group → Group → Type 0
BeginsBefore one other = (one.first < other.first) × (one.waiting ≤ other.waiting)

-- the first groups are among all
pub taken_old : (groups : List Group) (count : ℕ) (group : Group)
    → Contains (take count groups) group → Contains groups group
taken_old groups count group (k, lt, e) =
    let size = length-take count groups in (
      k,
      (omega (arith, lt, size)),
      sym (get_or-take count groups k group (omega (arith, lt, size))) ∙ e,
    )

module _ (groups : List Group) (place count : ℕ) where
  -- groups that begin no later are kept
  pub taken_kept : AllWithin (λ (group : Group). place < group.first) groups count (length groups)
      → (group : Group) → Contains groups group → group.first ≤ place
      → Contains (take count groups) group
  taken_kept after group (k, lt, e) le = elim (cases_lt k count) [
    | inl before ↦ (
      k,
      (omega (arith, lt, before, length-take count groups)),
      get_or-take count groups k group before ∙ e,
    )
    | inr from ↦ absurd (let later : place < group.first =
        subst (λ (g : Group). place < g.first) e (after k group from lt) in omega (arith, later, le))
  ]

  -- those that are kept begin no later
  pub taken_until : AllWithin (λ (group : Group). group.first ≤ place) groups 0 count
      → (group : Group) → Contains (take count groups) group → group.first ≤ place
  taken_until until group (k, lt, e) =
      let under : k < count = omega (arith, lt, length-take count groups) in
      subst (λ (g : Group). g.first ≤ place) (sym (get_or-take count groups k group under) ∙ e)
      (until k group (omega arith) under)

  pub taken_in_order : AreInOrder groups → AreInOrder (take count groups)
  taken_in_order are i j d before lt =
      let size = length-take count groups in
      let under : j < count = omega (arith, lt, size) in
      let before_count : i < count = omega (arith, before, under) in
      subst (λ (g : Group). BeginsBefore g (get_or (take count groups) j d))
      (sym (get_or-take count groups i d before_count))
      (subst (λ (g : Group). BeginsBefore (get_or groups i d) g)
      (sym (get_or-take count groups j d under)) (are i j d before (omega (arith, lt, size))))

-- the groups before the last one are in order, and begin before it
pub front_in_order : (groups : List Group) (last : Group) → AreInOrder (groups ++ last ∷ [])
    → AreInOrder groups
front_in_order groups last are i j d before lt =
    let size = length_push groups last in
    subst (λ (g : Group). BeginsBefore g (get_or groups j d))
    (get_or_append_left groups (last ∷ []) d i (omega (arith, before, lt)))
    (subst (λ (g : Group). BeginsBefore (get_or (groups ++ last ∷ []) i d) g)
    (get_or_append_left groups (last ∷ []) d j lt) (are i j d before (omega (arith, lt, size))))

pub front_before : (groups : List Group) (last : Group) → AreInOrder (groups ++ last ∷ [])
    → (group : Group) → Contains groups group → BeginsBefore group last
front_before groups last are group (k, lt, e) =
    let size = length_push groups last in
    subst (λ (g : Group). BeginsBefore g last)
    (get_or_append_left groups (last ∷ []) group k lt ∙ e)
    (subst (λ (g : Group). BeginsBefore (get_or (groups ++ last ∷ []) k group) g)
    (get_or_push groups last group (length groups) refl)
    (are k (length groups) group lt (omega (arith, size))))

pub last_first : (groups : List Group) (last : Group) → AreInOrder (groups ++ last ∷ [])
    → (group : Group) → Contains (groups ++ last ∷ []) group → group.first ≤ last.first
last_first groups last are group has = elim (Contains-push_cases groups last group has) [
  | inl old ↦ (let before = front_before groups last are group old in omega (arith, before.0))
  | inr e ↦ subst (λ (g : Group). g.first ≤ last.first) e (omega arith)
]

-- where a target of the last group waits, one of each group does
pub all_wait : (groups : List Group) (last : Group) (size : ℕ) → AreInOrder (groups ++ last ∷ [])
    → last.waiting < size → (group : Group) → Contains (groups ++ last ∷ []) group
    → group.waiting < size
all_wait groups last size are lt group has = elim (Contains-push_cases groups last group has) [
  | inl old ↦ (let before = (front_before groups last are group old).1 in omega (arith, before, lt))
  | inr e ↦ subst (λ (g : Group). g.waiting < size) e lt
]

module _ (walk : Walk) (t : ℕ) where
  -- no target of a group waits before it
  pub waits_before : AllWait (with_waiting walk (t ∷ [])) → (group : Group)
      → Contains walk.groups group → group.waiting ≤ length walk.waiting
  waits_before last group has =
      let lt = last group has in omega (arith, lt, length_push walk.waiting t)

  pub grouped_settled : AreGrouped (with_waiting walk (t ∷ []))
      → AllWait (with_waiting walk (t ∷ [])) → AreGrouped walk
  grouped_settled is last = record {
    increasing = is.increasing;
    grounded = λ group has. ((is.grounded group has).0, waits_before last group has);
    covered = is.covered;
  }

  pub grouped_united : (own count : ℕ) → AreGrouped (with_waiting walk (t ∷ []))
      → AllWait (with_waiting walk (t ∷ []))
      → AllWithin (λ (group : Group). own < group.first) walk.groups count (length walk.groups)
      → AreGrouped (record walk { groups = take count walk.groups })
  grouped_united own count is last after = record {
    increasing = taken_in_order walk.groups own count is.increasing;
    grounded = λ group has.
        let old = taken_old walk.groups count group has in
        ((is.grounded group old).0, waits_before last group old);
    covered = λ some.
        let first = is.covered some in (
          first.0,
          taken_kept walk.groups own count after first.0 first.1
              (omega (arith, first.2)),
          first.2,
        );
  }

  pub grouped_open : (targets : List ℕ) → AreGrouped (with_waiting walk (t ∷ []))
      → AllWait (with_waiting walk (t ∷ []))
      → AreGrouped (with_waiting (with_open walk t) targets)
  grouped_open targets is last =
      let own : Group = record { first = length walk.opened; waiting = length walk.waiting } in
      record {
        increasing = all_pairs_push BeginsBefore walk.groups own is.increasing (λ k d lt.
            let has = Contains-get_or walk.groups k d lt in
            ((is.grounded _ has).0, waits_before last _ has));
        grounded = λ group has. elim (Contains-push_cases walk.groups own group has) [
          | inl old ↦ (
            (let lt = (is.grounded group old).0 in omega (arith, lt, length_push walk.opened t)),
            (let le = waits_before last group old in
                omega (arith, le, length-append walk.waiting targets)),
          )
          | inr e ↦ subst (λ (g : Group). (g.first < length (walk.opened ++ t ∷ []))
              × (g.waiting ≤ length (walk.waiting ++ targets))) e (
                (omega (arith, length_push walk.opened t)),
                (omega (arith, length-append walk.waiting targets)),
              )
        ];
        covered = λ some. elim (cases_lt 0 (length walk.opened)) [
          | inl before ↦ (let first = is.covered before in
              (first.0, Contains-append_left walk.groups (own ∷ []) first.0 first.1, first.2))
          | inr none ↦ (own, Contains-push walk.groups own, (omega arith))
        ];
      }
