-- The breaches of a graph can be gathered in a list.
use Rattle.std.proofs.Common.{◌≡◌, ℕ, zero, suc, ◌+◌, ◌<◌, ◌≤◌, ◌⊎◌, inl, inr, ◌↔◌, Option, Some}
use Rattle.std.proofs.Common.{None, IfSome, List, [], ◌∷◌, ◌++◌, length, Contains, refl, sym, subst}
use Rattle.std.proofs.Common.{ap, ◌∙◌, arith}
use Rattle.std.proofs.lemmas.Bool.{cases_eq, cases_lt}
use Rattle.std.proofs.lemmas.List.Elements.{All-head, All-tail, Contains-append_left}
use Rattle.std.proofs.lemmas.List.Elements.{Contains-append_right, Contains-append_cases}
use Rattle.std.proofs.lemmas.List.{get_or_past}
use Rattle.std.specs.List.{All, slice_get}
use Rattle.sw_breach.specs.declared.Breach.{Breach}
use Rattle.sw_graph.specs.declared.function.Function.{Function}
use Rattle.sw_graph.specs.declared.graph.Graph.{Graph}
use Rattle.sw_partition.specs.Effects.{IsLeastSite}
use Rattle.sw_partition.specs.Laws.{within_both}
use Rattle.sw_partition.specs.Regions.{Regions, size_of, Together, HasPair, HasSomePair, IsWithin}
use Rattle.sw_region_flow.proofs.Collecting.{breaks_start, breaks_more, breaks_all}
use Rattle.sw_region_flow.proofs.Deciding.{Decided, first_below}
use Rattle.sw_region_flow.proofs.Doing.{tell_together, tell_pair, pair_there, some_done, some_run}
use Rattle.sw_region_flow.proofs.Leasts.{some_least, point_fits}
use Rattle.sw_region_flow.proofs.OneSites.{member_cases, member_first, no_member}
use Rattle.sw_region_flow.proofs.OneSites.{sites_are_one}
use Rattle.sw_region_flow.proofs.Places.{element_at}
use Rattle.sw_region_flow.proofs.Same.{copy_same, copy_back, copy_trans, runs_same, among_same}
use Rattle.sw_region_flow.proofs.Visiting.{IsFound}
use Rattle.sw_region_flow.specs.Breaches.{IsBreachIn, IsBreachOf}
use Rattle.sw_region_flow.specs.Least.{point_ops_at, IsClosedFor, IsLeast, FailsAt}
use Rattle.sw_region_flow.specs.Visits.{BreaksBelow}
use Rattle.sw_region_flow.specs.Walks.{IsCopy, IsGivenAway, IsNotFree, TestFails, FailsAmong}
use Rattle.sw_breach.specs.declared.codes.TheConstants.{GIVEN_AWAY}
use Rattle.sw_region_ops.proofs.ContextLemmas.{inside}
use Rattle.sw_region_ops.proofs.RangeLemmas.{AreInside}
use Rattle.sw_region_ops.proofs.RunLemmas.{does_size}
use Rattle.sw_region_ops.specs.Elements.{element_count}
use Rattle.sw_region_ops.specs.Runs.{Applies, Fits}
use Rattle.sw_region_ops.specs.Setting.{FunctionSetting, setting_of}
use Rattle.sw_region_ops.specs.declared.op.Op.{Op}
use Rattle.sw_region_ops.specs.declared.op.Op.TheVariants.{Need, Free, Fresh, Put, Join, Give}
use Rattle.sw_solve.specs.Annotation.{value_at, IsAtMost, IsAtMostEverywhere}

-- a list of the breaches of which P holds
abbrev Listing : (Breach → Type 0) → Type 0
Listing P = (list : List Breach) × ((b : Breach) → Contains list b ↔ P b)

empty : (P : Breach → Type 0) → ((b : Breach) → P b → ⊥) → Listing P
empty P none = ([], λ b. (λ has. absurd (no_member b has), λ p. absurd (none b p)))

single : (P : Breach → Type 0) (c : Breach) → P c → ((b : Breach) → P b → b ≡ c) → Listing P
single P c holds one = (
  c ∷ [],
  λ b. (
    λ has. by b (member_cases c [] b has),
    λ p. subst (λ x. Contains (c ∷ []) x) (sym (one b p)) (member_first c []),
  ),
)
  where
    by : (b : Breach) → (b ≡ c) ⊎ Contains [] b → P b
    by b (inl e) = subst P (sym e) holds
    by b (inr none) = absurd (no_member b none)

joint : (P Q R : Breach → Type 0) → Listing P → Listing Q → ((b : Breach) → R b → P b ⊎ Q b)
    → ((b : Breach) → P b ⊎ Q b → R b) → Listing R
joint P Q R (xs, first) (ys, second) parts whole = (
  xs ++ ys,
  λ b. (
    λ has. whole b (forth b (Contains-append_cases xs ys b has)),
    λ r. back b (parts b r),
  ),
)
  where
    forth : (b : Breach) → Contains xs b ⊎ Contains ys b → P b ⊎ Q b
    forth b (inl has) = inl ((first b).0 has)
    forth b (inr has) = inr ((second b).0 has)

    back : (b : Breach) → P b ⊎ Q b → Contains (xs ++ ys) b
    back b (inl p) = Contains-append_left xs ys b ((first b).1 p)
    back b (inr q) = Contains-append_right xs ys b ((second b).1 q)

same_facts : (P R : Breach → Type 0) → Listing P → ((b : Breach) → R b → P b)
    → ((b : Breach) → P b → R b) → Listing R
same_facts P R (xs, are) forth back =
    (xs, λ b. (λ has. back b ((are b).0 has), λ r. (are b).1 (forth b r)))

-- a number above all of a list
above : (xs : List ℕ) → (n : ℕ) × ((x : ℕ) → Contains xs x → x < n)
above [] = (0, λ x has. absurd (no_member x has))
above (y ∷ ys) = let h = above ys in (
  y + h.0 + 1,
  λ x has. elim (member_cases y ys x has) [
    | inl e ↦ omega (arith, e)
    | inr later ↦ let lt = h.1 x later in omega (arith, lt)
  ],
)

-- whether an element was given away
pub given : (r : Regions) (x : ℕ) → ((site : ℕ) × IsLeastSite r x site) ⊎ (HasSomePair r x → ⊥)
given r x = let top = above r.sites in
    elim (first_below top.0 (HasPair r x) (tell_pair r x)) [
      | inl h ↦ inl (
        h.0,
        record {
          there = h.2;
          least = λ other has. elim (cases_lt other h.0) [
            | inl lt ↦ absurd (h.3 other lt has)
            | inr ge ↦ ge
          ];
        },
      )
      | inr none ↦ inr (λ has. none has.0 (top.1 has.0 (pair_there r x has.0 has.1).1) has.1)
    ]

given_one : (r : Regions) (x at : ℕ) (site : ℕ) → IsLeastSite r x site → (b : Breach)
    → IsGivenAway x at r b → b ≡ record { code = GIVEN_AWAY; at = at; note = Some site }
given_one r x at site least b is =
    let up = least.least is.site is.least.there in
    let down = is.least.least site least.there in
    let same : is.site ≡ site = omega (arith, up, down) in
    is.is ∙ ap (λ s. record { code = GIVEN_AWAY; at = at; note = Some s }) same

given_list : (r : Regions) (x at : ℕ) → Listing (IsGivenAway x at r)
given_list r x at = elim (given r x) [
  | inl h ↦ single (IsGivenAway x at r)
      (record { code = GIVEN_AWAY; at = at; note = Some h.0 })
      (record { site = h.0; least = h.1; is = refl }) (given_one r x at h.0 h.1)
  | inr none ↦ empty (IsGivenAway x at r)
      (λ b is. none (is.site, is.least.there))
]

wrong_list : (r : Regions) (x at code : ℕ) → Listing (IsNotFree x at code r)
wrong_list r x at code = by (given r x) (tell_together r x 0)
  where
    by : ((site : ℕ) × IsLeastSite r x site) ⊎ (HasSomePair r x → ⊥) → Decided (Together r x 0)
        → Listing (IsNotFree x at code r)
    by (inl h) here = empty (IsNotFree x at code r)
        (λ b wrong. wrong.not_given (h.0, h.1.there))
    by (inr none) (inl t) = single (IsNotFree x at code r)
        (record { code = code; at = at; note = None })
        (record { not_given = none; is_here = t; is = refl }) (λ b wrong. wrong.is)
    by (inr none) (inr apart) = empty (IsNotFree x at code r) (λ b wrong. apart wrong.is_here)

-- the breaches of one operation
op_list : (op : Op) (r : Regions) → Listing (TestFails op r)
op_list (Need x at) r = given_list r x at
op_list (Free x at code) r = joint (IsGivenAway x at r) (IsNotFree x at code r)
    (TestFails (Free x at code) r) (given_list r x at) (wrong_list r x at code) (λ b fails. fails)
    (λ b fails. fails)
op_list (Fresh x) r = empty (TestFails (Fresh x) r) (λ b fails. fails)
op_list (Put x y) r = empty (TestFails (Put x y) r) (λ b fails. fails)
op_list (Join x y) r = empty (TestFails (Join x y) r) (λ b fails. fails)
op_list (Give x site) r = empty (TestFails (Give x site) r) (λ b fails. fails)

-- those of operations, one after the other
rest_fits : (op : Op) (ops : List Op) (r m : Regions) → Applies op r m
    → All (Fits (size_of r)) (op ∷ ops) → All (Fits (size_of m)) ops
rest_fits op ops r m does fits = subst (λ s. All (Fits s) ops) (sym (does_size op r m does))
    (All-tail (Fits (size_of r)) op ops fits)

among_list : (ops : List Op) (r : Regions) → All (Fits (size_of r)) ops
    → Listing (FailsAmong ops r)
among_list [] r fits = empty (FailsAmong [] r) (λ b fails. fails)
among_list (op ∷ ops) r fits =
    let m = some_done op r (All-head (Fits (size_of r)) op ops fits) in
    by m.0 m.1 (among_list ops m.0 (rest_fits op ops r m.0 m.1 fits))
  where
    by : (m : Regions) → Applies op r m → Listing (FailsAmong ops m)
        → Listing (FailsAmong (op ∷ ops) r)
    by m does rest =
        joint (TestFails op r) (FailsAmong ops m) (FailsAmong (op ∷ ops) r) (op_list op r)
        rest parts whole
      where
        moved : (b : Breach) (made : Regions) → Applies op r made → FailsAmong ops made b
            → FailsAmong ops m b
        moved b made does_too later =
            let z = some_run ops m (rest_fits op ops r m does fits) in
            among_same ops made m z.0 b
            (runs_same (op ∷ []) r r made m (copy_same r) (made, does_too, refl) (m, does, refl))
            z.1 later

        parts : (b : Breach) → FailsAmong (op ∷ ops) r b → TestFails op r b ⊎ FailsAmong ops m b
        parts b (inl fails) = inl fails
        parts b (inr (made, does_too, later)) = inr (moved b made does_too later)

        whole : (b : Breach) → TestFails op r b ⊎ FailsAmong ops m b → FailsAmong (op ∷ ops) r b
        whole b (inl fails) = inl fails
        whole b (inr later) = inr (m, does, later)

-- those of a point
none_stands : (x : Regions) → None ≡ Some x → ⊥
none_stands x e = cc

one_stands : (x y : Regions) → Some x ≡ Some y → x ≡ y
one_stands x y e = cc

module _ (setting : FunctionSetting) (within : AreInside setting.elements)
    (states : List (Option Regions)) (least : IsLeast setting states) where
  sized : (p : ℕ) (x : Regions) → value_at states p ≡ Some x
      → size_of x ≡ element_count setting.elements ∷ least.sites
  sized p x e = subst
      (λ o. IfSome o (λ r. size_of r ≡ element_count setting.elements ∷ least.sites)) e
      (least.closed.sized p)

  fits_at : (p : ℕ) (x : Regions) → value_at states p ≡ Some x
      → All (Fits (size_of x)) (point_ops_at setting p)
  fits_at p x e = subst (λ s. All (Fits s) (point_ops_at setting p)) (sym (sized p x e))
      (point_fits setting least.sites within least.are_sites p)

  -- a test that fails in a copy of the state at a point
  copy_fails : (p : ℕ) (x copied : Regions) (b : Breach) → value_at states p ≡ Some x
      → IsCopy copied x → FailsAmong (point_ops_at setting p) copied b
      → FailsAmong (point_ops_at setting p) x b
  copy_fails p x copied b e copy fails =
      let z = some_run (point_ops_at setting p) x (fits_at p x e) in
      among_same (point_ops_at setting p) copied x z.0 b copy z.1 fails

  point_list : (p : ℕ) → Listing (FailsAt (point_ops_at setting) states p)
  point_list p = by (value_at states p) refl
    where
      at : (x : Regions) → value_at states p ≡ Some x → (b : Breach)
          → FailsAt (point_ops_at setting) states p b → FailsAmong (point_ops_at setting p) x b
      at x e b fails =
          let same : fails.state ≡ x = one_stands fails.state x (sym fails.stands ∙ e) in
          copy_fails p x fails.copied b e (subst (λ r. IsCopy fails.copied r) same
          (copy_back fails.state fails.copied fails.is_copy)) fails.fails

      by : (o : Option Regions) → value_at states p ≡ o
          → Listing (FailsAt (point_ops_at setting) states p)
      by None e = empty (FailsAt (point_ops_at setting) states p)
          (λ b fails. none_stands fails.state (sym e ∙ fails.stands))
      by (Some x) e = same_facts (FailsAmong (point_ops_at setting p) x)
          (FailsAt (point_ops_at setting) states p)
          (among_list (point_ops_at setting p) x (fits_at p x e)) (at x e)
          (λ b fails. record {
            state = x;
            stands = e;
            copied = x;
            is_copy = copy_same x;
            fails = fails;
          })

  -- those of the points below a number
  FailsBefore : ℕ → Breach → Type 0
  FailsBefore k b = (p : ℕ) × (p < k) × FailsAt (point_ops_at setting) states p b

  points_list : (k : ℕ) → Listing (FailsBefore k)
  unfolding FailsBefore
  points_list zero = empty (FailsBefore zero) (λ b fails. let lt = fails.1 in omega arith)
  points_list (suc k) = joint (FailsBefore k) (FailsAt (point_ops_at setting) states k)
      (FailsBefore (suc k)) (points_list k) (point_list k) parts whole
    where
      parts : (b : Breach) → FailsBefore (suc k) b
          → FailsBefore k b ⊎ FailsAt (point_ops_at setting) states k b
      parts b (p, lt, fails) = elim (cases_eq p k) [
        | inl e ↦ inr (subst (λ n. FailsAt (point_ops_at setting) states n b) e fails)
        | inr other ↦ inl (p, omega (arith, other), fails)
      ]

      whole : (b : Breach) → FailsBefore k b ⊎ FailsAt (point_ops_at setting) states k b
          → FailsBefore (suc k) b
      whole b (inl h) = (h.0, let lt = h.1 in omega arith, h.2)
      whole b (inr fails) = (k, omega arith, fails)

  -- another least annotation is at most this one, and this one at most it
  at_most_other : (other : List (Option Regions)) → IsLeast setting other
      → IsAtMostEverywhere IsWithin states other
  at_most_other other is = least.least other (subst (λ s. IsClosedFor setting s other)
      (sites_are_one setting is.sites least.sites is.are_sites least.are_sites) is.closed)

  other_at_most : (other : List (Option Regions)) → IsLeast setting other
      → IsAtMostEverywhere IsWithin other states
  other_at_most other is = is.least states (subst (λ s. IsClosedFor setting s states)
      (sites_are_one setting least.sites is.sites least.are_sites is.are_sites) least.closed)

  -- a test that fails in another least annotation fails in this one
  fails_here : (other : List (Option Regions)) → IsLeast setting other → (p : ℕ) (b : Breach)
      → FailsAt (point_ops_at setting) other p b → FailsAt (point_ops_at setting) states p b
  fails_here other is p b fails = by (value_at states p) refl
      (subst (λ o. IsAtMost IsWithin o (value_at states p)) fails.stands
      ((other_at_most other is).each p))
      (subst (λ o. IsAtMost IsWithin (value_at states p) o) fails.stands
      ((at_most_other other is).each p))
    where
      by : (o : Option Regions) → value_at states p ≡ o → IsAtMost IsWithin (Some fails.state) o
          → IsAtMost IsWithin o (Some fails.state) → FailsAt (point_ops_at setting) states p b
      by None e above below = absurd above
      by (Some x) e above below = record {
        state = x;
        stands = e;
        copied = x;
        is_copy = copy_same x;
        fails = copy_fails p x fails.copied b e (copy_trans fails.copied fails.state x
            (copy_back fails.state fails.copied fails.is_copy) (record {
              same = within_both fails.state x above below;
              sized = sized p x e ∙ sym (subst
                  (λ s. size_of fails.state ≡ element_count setting.elements ∷ s)
                  (sites_are_one setting is.sites least.sites is.are_sites least.are_sites)
                  (subst (λ o. IfSome o
                  (λ r. size_of r ≡ element_count setting.elements ∷ is.sites)) fails.stands
                  (is.closed.sized p)));
            })) fails.fails;
      }

  -- those of the function
  function_list : Listing (IsBreachIn setting)
  unfolding FailsBefore
  function_list = same_facts (FailsBefore (length states)) (IsBreachIn setting)
      (points_list (length states)) forth
      (λ b h. record { states = states; least = least; point = h.0; fails = h.2 })
    where
      forth : (b : Breach) → IsBreachIn setting b → FailsBefore (length states) b
      forth b is =
          let here = fails_here is.states is.least is.point b is.fails in
          (is.point, there is.point here, here)
        where
          there : (p : ℕ) → FailsAt (point_ops_at setting) states p b → p < length states
          there p fails = elim (cases_lt p (length states)) [
            | inl lt ↦ lt
            | inr past ↦ absurd (none_stands fails.state
                (sym (get_or_past states p None past) ∙ fails.stands))
          ]

pub body_list : (graph : Graph) (body : Function) → Listing (IsBreachIn (setting_of graph body))
body_list graph body =
    let within = inside graph.shapes body.regs in
    let h = some_least (setting_of graph body) within in
    function_list (setting_of graph body) within h.0 h.1

-- those of the functions below a number
functions_list : (graph : Graph) (k : ℕ) → k ≤ length graph.functions
    → (list : List Breach) × IsFound (BreaksBelow graph k) [] list
functions_list graph zero within = ([], breaks_start graph [])
functions_list graph (suc k) within =
    let was = functions_list graph k (omega arith) in
    let body = element_at graph.functions k (omega arith) in
    let more = body_list graph body.0 in (
      was.0 ++ more.0,
      subst (λ n. IsFound (BreaksBelow graph n) [] (was.0 ++ more.0)) next
          (breaks_more graph k [] was.0 (was.0 ++ more.0) (omega arith) was.1
          (λ other at. found was.0 body.0 other more (one body.0 other body.1 at))),
    )
  where
    next : k + 1 ≡ suc k
    next = omega arith

    one : (f g : Function) → slice_get graph.functions k ≡ Some f
        → slice_get graph.functions k ≡ Some g → f ≡ g
    one f g first second = let e : Some f ≡ Some g = sym first ∙ second in cc

    found : (was : List Breach) (f g : Function)
        (more : Listing (IsBreachIn (setting_of graph f))) → f ≡ g
        → IsFound (IsBreachIn (setting_of graph g)) was (was ++ more.0)
    found was f g more e = subst
        (λ h. IsFound (IsBreachIn (setting_of graph h)) was (was ++ more.0)) e
        (λ b. (λ has. forth b (Contains-append_cases was more.0 b has), λ h. back b h))
      where
        forth : (b : Breach) → Contains was b ⊎ Contains more.0 b
            → Contains was b ⊎ IsBreachIn (setting_of graph f) b
        forth b (inl has) = inl has
        forth b (inr has) = inr ((more.1 b).0 has)

        back : (b : Breach) → Contains was b ⊎ IsBreachIn (setting_of graph f) b
            → Contains (was ++ more.0) b
        back b (inl has) = Contains-append_left was more.0 b has
        back b (inr is) = Contains-append_right was more.0 b ((more.1 b).1 is)

-- those of the graph, in no order
pub graph_list : (graph : Graph)
    → (list : List Breach) × ((b : Breach) → Contains list b ↔ IsBreachOf graph b)
graph_list graph =
    let h = functions_list graph (length graph.functions) (omega arith) in
    (h.0, breaks_all graph (length graph.functions) h.0 (omega arith) h.1)
