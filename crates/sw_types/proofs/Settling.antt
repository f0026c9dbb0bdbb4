-- What is said of settled numbers, after a step of a walk, and after the last group is settled.
use Rattle.std.proofs.Common.{◌≡◌, ◌↔◌, ℕ, ◌+◌, ◌-◌, ◌<◌, ◌≤◌, ◌⊎◌, inl, inr, Bool, false}
use Rattle.std.proofs.Common.{List, [], ◌∷◌, ◌++◌, length, get_or, take, drop, Contains, All}
use Rattle.std.proofs.Common.{Some, slice_get, IsTrue, refl, sym, ap, subst, ◌∙◌, arith}
use Rattle.std.proofs.lemmas.Bool.{cases_eq, cases_lt}
use Rattle.std.proofs.lemmas.List.{get_or-drop, get_or-take, get_or_append_left, length-append}
use Rattle.std.proofs.lemmas.List.{get_or-append_right, length-drop, length-take, take_all}
use Rattle.std.proofs.lemmas.List.{take-append-le}
use Rattle.std.proofs.lemmas.List.Elements.{All-append, All-from_get_or, Contains-append_left}
use Rattle.std.proofs.lemmas.List.Elements.{Contains-append_right}
use Rattle.std.proofs.lemmas.List.Elements.{Contains-push_cases}
use Rattle.std.proofs.lemmas.Option.{slice_get_within, get_or_from_slice_get}
use Rattle.sw_types.specs.Paths.{IsEdge, Path, one}
use Rattle.sw_types.specs.Walks.{is_fresh, progress_at, OfGroups, IsAhead, AreLinked, AreListed}
use Rattle.sw_types.specs.Walks.{AreGrouped, AreSettled, AreMoved, IsWalk, LeadBack, Marked}
use Rattle.sw_types.specs.Walks.{with_group, with_settled}
use Rattle.sw_types.specs.declared.ordering.Group.{Group}
use Rattle.sw_types.specs.declared.ordering.Progress.TheVariants.{Open, Settled}
use Rattle.sw_types.specs.declared.ordering.Walk.{Walk}
use Rattle.sw_types.proofs.Grouping.{front_before, front_in_order}
use Rattle.sw_types.proofs.Members.{IsMember, first_within, leads_between, leads_to, member_at}
use Rattle.sw_types.proofs.Members.{member_returns, returns_member, stands}
use Rattle.sw_types.proofs.Walking.{cases_progress, opened_within, same_place, slice_get-take}
use Rattle.sw_types.proofs.Walking.{fresh_not_open, open_not_settled}

module _ (edges : List (List ℕ)) (walk : Walk) (group : Group) (moved : Walk) (returns : Bool)
    (is : IsWalk edges (with_group walk group))
    (are : AreMoved group.first (length walk.opened) returns walk moved)
    (done : length walk.waiting ≤ group.waiting)
    (says : IsTrue returns ↔ LeadBack edges walk.opened group.first) where
  abbrev new : Walk
  new = with_settled walk moved group.first

  -- a member was moved, and all others are as they were
  cases_moved : (k : ℕ)
      → ((place : ℕ) × IsMember walk group k place × (progress_at moved.progress k ≡ Settled)
      × (get_or moved.returns k false ≡ returns))
      ⊎ ((progress_at moved.progress k ≡ progress_at walk.progress k)
      × (get_or moved.returns k false ≡ get_or walk.returns k false)
      × ((place : ℕ) → progress_at walk.progress k ≡ Open place → place < group.first))
  cases_moved k = elim (cases_progress (progress_at walk.progress k)) [
    | inl fresh ↦ kept k (λ place opened. absurd (fresh_not_open place (sym fresh ∙ opened)))
    | inr rest ↦ elim rest [
      | inl (place, opened) ↦ elim (cases_lt place group.first) [
        | inl before ↦ kept k (λ other too. subst (λ p. p < group.first)
            (same_place place other (sym opened ∙ too)) before)
        | inr from ↦
            (let at = stands edges walk group is k place opened in
            let both = are.moved k place at from (slice_get_within walk.opened place k at) in
            inl (place, (opened, from), both.0, both.1))
      ]
      | inr settled ↦ kept k (λ place opened. absurd (open_not_settled place (sym opened ∙ settled)))
    ]
  ]
    where
      kept : (k : ℕ) → ((place : ℕ) → progress_at walk.progress k ≡ Open place → place < group.first)
          → ((place : ℕ) × IsMember walk group k place × (progress_at moved.progress k ≡ Settled)
          × (get_or moved.returns k false ≡ returns))
          ⊎ ((progress_at moved.progress k ≡ progress_at walk.progress k)
          × (get_or moved.returns k false ≡ get_or walk.returns k false)
          × ((place : ℕ) → progress_at walk.progress k ≡ Open place → place < group.first))
      kept k before =
          let both = are.others k (λ place at from under.
          let lt = before place ((is.listed.placed k place).1 at) in
          omega (arith, lt, from)) in
          inr (both.0, both.1, before)

  -- a number that is still open was open before the group
  still_open : (k place : ℕ) → progress_at moved.progress k ≡ Open place
      → (progress_at walk.progress k ≡ Open place) × (place < group.first)
  still_open k place opened = elim (cases_moved k) [
    | inl (_, _, settled, _) ↦ absurd (open_not_settled place (sym opened ∙ settled))
    | inr (same, _, before) ↦ (sym same ∙ opened, before place (sym same ∙ opened))
  ]

  settled_still : (k : ℕ) → progress_at walk.progress k ≡ Settled
      → progress_at moved.progress k ≡ Settled
  settled_still k settled = elim (cases_moved k) [
    | inl (_, _, now, _) ↦ now
    | inr (same, _, _) ↦ same ∙ settled
  ]

  member_settled : (k place : ℕ) → IsMember walk group k place → progress_at moved.progress k ≡ Settled
  member_settled k place member = elim (cases_moved k) [
    | inl (_, _, now, _) ↦ now
    | inr (_, _, before) ↦ absurd
        (let lt = before place member.0 in let le = member.1 in omega (arith, lt, le))
  ]

  marked_new : (a : ℕ) → progress_at moved.progress a ≡ Settled
      → Marked moved.returns a ↔ Path edges a a
  marked_new a settled = elim (cases_moved a) [
    | inl (place, member, _, mark) ↦ (
      λ marked. member_returns edges walk group is done returns says a place member (sym mark ∙ marked),
      λ path. mark ∙ returns_member edges walk group is done returns says a place member path,
    )
    | inr (same, mark, _) ↦
        (let was = is.settled.marked a (sym same ∙ settled) in
        (λ marked. was.0 (sym mark ∙ marked), λ path. mark ∙ was.1 path))
  ]

  closed_new : (a b : ℕ) → progress_at moved.progress a ≡ Settled → IsEdge edges a b
      → progress_at moved.progress b ≡ Settled
  closed_new a b settled leads = elim (cases_moved a) [
    | inl (place, member, _, _) ↦ elim (leads_to edges walk group is done a b place member leads) [
      | inl before ↦ settled_still b before
      | inr (other, too) ↦ member_settled b other too
    ]
    | inr (same, _, _) ↦ settled_still b (is.settled.closed a b (sym same ∙ settled) leads)
  ]

  -- what went into the order
  abbrev tail : List ℕ
  tail = drop group.first (take (length walk.opened) walk.opened)

  tail_at : (i d : ℕ) → get_or tail i d ≡ get_or walk.opened (group.first + i) d
  tail_at i d = ap (λ l. get_or (drop group.first l) i d)
      (take_all (length walk.opened) walk.opened (omega arith))
      ∙ get_or-drop group.first walk.opened i d

  tail_length : length tail + group.first ≡ length walk.opened
  tail_length = omega (
    arith,
    (first_within edges walk group is),
    length-drop group.first (take (length walk.opened) walk.opened),
    length-take (length walk.opened) walk.opened,
  )

  member_in_tail : (k place : ℕ) → IsMember walk group k place → Contains tail k
  member_in_tail k place member =
      let lt = slice_get_within walk.opened place k (stands edges walk group is k place member.0) in
      let le = member.1 in
      let at : group.first + (place - group.first) ≡ place = omega (arith, le) in (
        place - group.first,
        (omega (arith, lt, le, tail_length)),
        tail_at (place - group.first) k ∙ ap (λ p. get_or walk.opened p k) at
            ∙ get_or_from_slice_get walk.opened place k k (stands edges walk group is k place member.0),
      )

  -- a number of the order before it stands among the first of more
  in_first : (i b : ℕ) → Contains walk.order b → length walk.order ≤ i → i < length (walk.order ++ tail)
      → Contains (take i (walk.order ++ tail)) b
  in_first i b (k, lt, e) le under = (
    k,
    (omega (arith, lt, le, under, length-take i (walk.order ++ tail))),
    get_or-take i (walk.order ++ tail) k b (omega (arith, lt, le))
        ∙ get_or_append_left walk.order tail b k lt ∙ e,
  )

  ordered_tail : (i b : ℕ) → length walk.order ≤ i → i < length (walk.order ++ tail)
      → IsEdge edges (get_or (walk.order ++ tail) i 0) b
      → Contains (take i (walk.order ++ tail)) b ⊎ Path edges b (get_or (walk.order ++ tail) i 0)
  ordered_tail i b le under leads =
      let place : ℕ = group.first + (i - length walk.order) in
      let same : get_or (walk.order ++ tail) i 0
      ≡ get_or walk.opened (group.first + (i - length walk.order)) 0 =
      get_or-append_right walk.order tail (length walk.order) i 0 refl le
      ∙ tail_at (i - length walk.order) 0 in
      let member = member_at edges walk group is place (omega arith)
      (omega (arith, under, le, tail_length, length-append walk.order tail)) in
      let from = subst (λ a. IsEdge edges a b) same leads in
      elim (leads_to edges walk group is done _ b place member from) [
        | inl settled ↦ inl (in_first i b (is.listed.listed b settled) le under)
        | inr (other, too) ↦ inr (subst (Path edges b) (sym same)
            (elim (cases_eq b (get_or walk.opened place 0)) [
              | inl e ↦ subst (Path edges b) e (one b (subst (λ a. IsEdge edges a b) (sym e) from))
              | inr ne ↦ leads_between edges walk group is b _ other place too member ne
            ]))
      ]

  ordered_new : (i b : ℕ) → i < length (walk.order ++ tail)
      → IsEdge edges (get_or (walk.order ++ tail) i 0) b
      → Contains (take i (walk.order ++ tail)) b ⊎ Path edges b (get_or (walk.order ++ tail) i 0)
  ordered_new i b under leads = elim (cases_lt i (length walk.order)) [
    | inl old ↦
        (let same = get_or_append_left walk.order tail 0 i old in
        subst (λ a. Contains (take i (walk.order ++ tail)) b ⊎ Path edges b a) (sym same)
        (subst (λ l. Contains l b ⊎ Path edges b (get_or walk.order i 0))
        (sym (take-append-le i walk.order tail (omega (arith, old))))
        (is.settled.ordered i b old (subst (λ a. IsEdge edges a b) same leads))))
    | inr le ↦ ordered_tail i b le under leads
  ]

  settled_new : AreSettled edges new
  settled_new = record {
    closed = closed_new;
    marked = marked_new;
    ordered = subst (λ (order : List ℕ). (i b : ℕ) → i < length order
        → IsEdge edges (get_or order i 0) b
        → Contains (take i order) b ⊎ Path edges b (get_or order i 0)) (sym are.order) ordered_new;
  }

  placed_new : (k place : ℕ) → slice_get (take group.first walk.opened) place ≡ Some k
      → progress_at moved.progress k ≡ Open place
  placed_new k place at =
      let (lt, was) = (slice_get-take group.first walk.opened place k).0 at in
      let opened = (is.listed.placed k place).1 was in
      elim (cases_moved k) [
        | inl (other, member, _, _) ↦ absurd
            (let same = same_place other place (sym member.0 ∙ opened) in
            let le = member.1 in omega (arith, same, le, lt))
        | inr (same, _, _) ↦ same ∙ opened
      ]

  tail_within : All (λ k. k < length edges) tail
  tail_within = All-from_get_or (λ k. k < length edges) tail 0 (λ i lt.
      let place : ℕ = group.first + i in
      subst (λ k. k < length edges) (sym (tail_at i 0))
      (opened_within edges (with_group walk group) place is.listed
      (omega (arith, lt, tail_length))))

  listed_new : AreListed edges new
  listed_new = record {
    sized = are.sized ∙ is.listed.sized;
    marks_sized = are.marks_sized ∙ is.listed.marks_sized;
    placed = λ k place. (
      λ opened. let (was, lt) = still_open k place opened in
          (slice_get-take group.first walk.opened place k).1 (lt, stands edges walk group is k place was),
      placed_new k place,
    );
    listed = λ k settled. subst (λ l. Contains l k) (sym are.order) (elim (cases_moved k) [
      | inl (place, member, _, _) ↦
          Contains-append_right walk.order tail k (member_in_tail k place member)
      | inr (same, _, _) ↦
          Contains-append_left walk.order tail k (is.listed.listed k (sym same ∙ settled))
    ]);
    come = λ k lt. elim (is.listed.come k lt) [
      | inl come ↦ inl (elim (cases_moved k) [
        | inl (_, _, settled, _) ↦ ap is_fresh settled
        | inr (same, _, _) ↦ ap is_fresh same ∙ come
      ])
      | inr waits ↦ inr waits
    ];
    waits_within = is.listed.waits_within;
    within = subst (All (λ k. k < length edges)) (sym are.order)
        (All-append (λ k. k < length edges) walk.order tail is.listed.within tail_within);
    counted =
        (let size : length moved.order ≡ length walk.order + length tail =
        ap length are.order ∙ length-append walk.order tail in
        omega (
          arith,
          size,
          is.listed.counted,
          are.counted,
          tail_length,
          (first_within edges walk group is),
          length-take group.first walk.opened,
        ));
  }

  grouped_new : AreGrouped new
  grouped_new = record {
    increasing = front_in_order walk.groups group is.grouped.increasing;
    grounded = λ g has.
        let before = (front_before walk.groups group is.grouped.increasing g has).0 in (
          omega (arith, before, (first_within edges walk group is), length-take group.first walk.opened),
          (is.grouped.grounded g (Contains-append_left walk.groups (group ∷ []) g has)).1,
        );
    covered = λ some.
        let size = length-take group.first walk.opened in
        let (first, has, zero_first) = is.grouped.covered (omega (arith, some, size)) in
        elim (Contains-push_cases walk.groups group first has) [
          | inl old ↦ (first, old, zero_first)
          | inr e ↦ absurd (let none : group.first ≡ 0 =
              ap (λ (g : Group). g.first) e ∙ zero_first in omega (arith, some, size, none))
        ];
  }

  -- the last group is no group of a place before it
  of_all : (P : Group → Type 0) (place : ℕ) → place < group.first → OfGroups P walk.groups place
      → OfGroups P (walk.groups ++ group ∷ []) place
  of_all P place lt of g has le = elim (Contains-push_cases walk.groups group g has) [
    | inl old ↦ of g old le
    | inr e ↦ absurd (let first : group.first ≤ place =
        subst (λ (g : Group). g.first ≤ place) (sym e) le in omega (arith, first, lt))
  ]

  ahead_before : (place b : ℕ) → place < group.first → IsAhead new place b
      → IsAhead (with_group walk group) place b
  ahead_before place b lt (inl (other, opened, of)) =
      inl (
        other,
        (still_open b other opened).0,
        of_all (λ (g : Group). g.first ≤ other) place lt of,
      )
  ahead_before place b lt (inr (at, e, of)) =
      inr (at, e, of_all (λ (g : Group). g.waiting ≤ at) place lt of)

  ahead_after : (place b : ℕ) → IsAhead (with_group walk group) place b
      → (progress_at moved.progress b ≡ Settled) ⊎ IsAhead new place b
  ahead_after place b (inl (other, opened, of)) = elim (cases_moved b) [
    | inl (_, _, settled, _) ↦ inl settled
    | inr (same, _, _) ↦ inr (inl (
      other,
      same ∙ opened,
      λ g has le.
          of g (Contains-append_left walk.groups (group ∷ []) g has) le,
    ))
  ]
  ahead_after place b (inr (at, e, of)) = inr (inr (
    at,
    e,
    λ g has le.
        of g (Contains-append_left walk.groups (group ∷ []) g has) le,
  ))

  linked_new : AreLinked edges new
  linked_new = record {
    linked = λ a b place opened ahead ne.
        let (was, lt) = still_open a place opened in
        is.linked.linked a b place was (ahead_before place b lt ahead) ne;
    closed = λ a b place opened leads.
        let (was, lt) = still_open a place opened in
        elim (is.linked.closed a b place was leads) [
          | inl settled ↦ inl (settled_still b settled)
          | inr ahead ↦ ahead_after place b ahead
        ];
  }

  pub settled_walk : IsWalk edges (with_settled walk moved group.first)
  settled_walk = record {
    listed = listed_new;
    grouped = grouped_new;
    linked = linked_new;
    settled = settled_new;
  }

  pub settled_walk_at : (opened : List ℕ) (groups : List Group) (waiting : List ℕ)
      → opened ≡ take group.first walk.opened → groups ≡ walk.groups → waiting ≡ walk.waiting
      → IsWalk edges (record moved { opened = opened; groups = groups; waiting = waiting })
  settled_walk_at opened groups waiting e f g =
      subst (λ (o : List ℕ). IsWalk edges (record moved {
        opened = o;
        groups = groups;
        waiting = waiting;
      })) (sym e)
      (subst (λ (gs : List Group). IsWalk edges (record moved {
        opened = take group.first walk.opened;
        groups = gs;
        waiting = waiting;
      })) (sym f)
      (subst (λ (w : List ℕ). IsWalk edges (record moved {
        opened = take group.first walk.opened;
        groups = walk.groups;
        waiting = w;
      })) (sym g) settled_walk))
