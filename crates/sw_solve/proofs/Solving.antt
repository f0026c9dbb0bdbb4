-- What holds while the solver works, and what follows when its list is empty.
use Rattle.std.proofs.Common.{◌≡◌, ℕ, zero, suc, ◌+◌, ◌-◌, ◌*◌, ◌<◌, ◌≤◌, ◌≢◌, ◌⊎◌, inl, inr, ◌↔◌}
use Rattle.std.proofs.Common.{Option, Some, None, IsSome, IfSome, List, [], ◌∷◌, length, set}
use Rattle.std.proofs.Common.{replicate, Contains, sum_by, refl, sym, subst, ap, ◌∙◌, arith}
use Rattle.std.proofs.Common.{zero-add}
use Rattle.std.proofs.lemmas.Bool.{cases_eq, cases_lt}
use Rattle.std.proofs.lemmas.List.Sums.{sum_by-cons}
use Rattle.std.proofs.lemmas.List.{get_or-set_same, get_or-set_other, get_or-replicate, get_or_past}
use Rattle.std.proofs.Math.ListN.{length-set, length-replicate}
use Rattle.std.proofs.Math.Nat.{mul-le-mul_left}
use Rattle.sw_solve.specs.Annotation.{value_at, IsBelow, IsAtMost, IsAtMostEverywhere, IsPassedOn}
use Rattle.sw_solve.specs.Annotation.{IsClosed, IsBound}
use Rattle.sw_solve.specs.Ways.{IsWay, HasWay}
use Rattle.sw_solve.specs.Work.{edge_count, level_of, weighed, Listed, IsSpread, IsVisited}
use Rattle.sw_solve.proofs.Members.{contains_cons_cases, contains_none}
use Rattle.sw_solve.proofs.Spreading.{below_up, below_down, some_from_below, weighed-set}

-- a flow and its lattice
pub record Problem (X : Type 0) : Type 1 where
  pub le : X → X → Type 0
  pub size : X → List ℕ
  pub rank : X → ℕ
  pub facts : List ℕ
  pub enters : X → Type 0
  pub leads : ℕ → X → X → Type 0
  pub successors : ℕ → List ℕ

-- the laws that the solver rests on
pub record IsLawful {X : Type 0} (P : Problem X) : Type 0 where
  pub reflexive : (a : X) → P.le a a
  pub transitive : (a b c : X) → P.le a b → P.le b c → P.le a c
  pub one_entry : (a b : X) → P.enters a → P.enters b → P.le a b
  pub monotone : (p : ℕ) (a b c d : X) → P.size a ≡ P.facts → P.size b ≡ P.facts → P.le a b
      → P.leads p a c → P.leads p b d → P.le c d

abbrev pub Closed : {X : Type 0} → Problem X → List (Option X) → Type 0
Closed P a = IsClosed P.le P.size P.facts P.enters P.leads P.successors a

abbrev pub Bounds : {X : Type 0} → Problem X → List (Option X) → Type 0
Bounds P a = IsBound P.le P.size P.facts P.enters P.leads P.successors a

-- what stands at a point is passed on
abbrev pub IsSettled : {X : Type 0} → Problem X → List (Option X) → ℕ → Type 0
IsSettled {X} P a p = (x : X) → value_at a p ≡ Some x → IsPassedOn P.le P.leads P.successors a p x

abbrev pub out_degree : {X : Type 0} → Problem X → ℕ → ℕ
out_degree P p = length (P.successors p)

-- the values so far: below each annotation that bounds, and closed but for the points on the list
pub record IsSolving {X : Type 0} (P : Problem X) (count start : ℕ) (slots : List (Option X))
    (list : Listed) (steps : ℕ) : Type 0 where
  pub length_is : length slots ≡ count
  pub room_is : list.room ≡ count
  pub sized : (p : ℕ) → IfSome (value_at slots p) (λ x. P.size x ≡ P.facts)
  pub entry : X
  pub enters_by : P.enters entry
  pub entered : IsBelow P.le entry (value_at slots 0)
  pub settled : (p : ℕ) → Contains list.points p ⊎ IsSettled P slots p
  pub lowest : (a : List (Option X)) → Bounds P a → IsAtMostEverywhere P.le slots a
  pub ways : (p : ℕ) → IsSome (value_at slots p) → HasWay P.successors p
  pub work : steps + sum_by (out_degree P) list.points ≤ start + weighed P.rank
      (out_degree P) 0 slots

some_injective : {X : Type 0} → (x y : X) → Some x ≡ Some y → x ≡ y
some_injective x y e = cc

none_not_some : {X : Type 0} → (x : X) → None ≡ Some x → ⊥
none_not_some x e = cc

sized_at : {X : Type 0} (P : Problem X) (o : Option X) (x : X) → o ≡ Some x
    → IfSome o (λ y. P.size y ≡ P.facts) → P.size x ≡ P.facts
sized_at P o x e h = subst (λ o. IfSome o (λ y. P.size y ≡ P.facts)) e h

-- what was passed on stays passed on while the slots rise
passed_on_up : {X : Type 0} (P : Problem X) → IsLawful P
    → (old new : List (Option X)) (p : ℕ) (x : X) → IsAtMostEverywhere P.le old new
    → IsPassedOn P.le P.leads P.successors old p x → IsPassedOn P.le P.leads P.successors new p x
passed_on_up P laws old new p x grown passed = record {
  made = passed.made;
  leads_to = passed.leads_to;
  below = λ q has. below_up P.le laws.transitive passed.made (value_at old q) (value_at new q)
      (passed.below q has) (grown.each q);
}

-- what a step makes of a value is below what an annotation that bounds has after it
made_below : {X : Type 0} (P : Problem X) (a : List (Option X)) → Bounds P a
    → (p : ℕ) (x made : X) (o : Option X) → value_at a p ≡ o → P.size x ≡ P.facts → IsBelow P.le x o
    → P.leads p x made → (q : ℕ) → Contains (P.successors p) q → IsBelow P.le made (value_at a q)
made_below P a bounds p x made None e fits below leads q has = absurd below
made_below P a bounds p x made (Some y) e fits below leads q has =
    bounds.stepped p x y made e below fits leads q has

-- a closed annotation bounds
pub closed_bounds : {X : Type 0} (P : Problem X) → IsLawful P → (a : List (Option X)) → Closed P a
    → Bounds P a
closed_bounds P laws a closed = record {
  sized = closed.sized;
  entered = λ x enters fits. below_down P.le laws.transitive x closed.entry (value_at a 0)
      (laws.one_entry x closed.entry enters closed.enters_by) closed.entered;
  stepped = λ p x y made e below fits leads q has.
      let passed = closed.stepped p y e in
      below_down P.le laws.transitive made passed.made (value_at a q)
      (laws.monotone p x y made passed.made fits
      (sized_at P (value_at a p) y e (closed.sized p)) below leads passed.leads_to)
      (passed.below q has);
}

-- a point without a value is visited
visit_none : {X : Type 0} (P : Problem X)
    → (count start : ℕ) (slots : List (Option X)) (points : List ℕ) (p room steps later : ℕ)
    → value_at slots p ≡ None → later ≤ steps + out_degree P p
    → IsSolving P count start slots (record { points = p ∷ points; room = room }) steps
    → IsSolving P count start slots (record { points = points; room = room }) later
visit_none P count start slots points p room steps later none counted solving = record {
  length_is = solving.length_is;
  room_is = solving.room_is;
  sized = solving.sized;
  entry = solving.entry;
  enters_by = solving.enters_by;
  entered = solving.entered;
  settled = λ q. elim (solving.settled q) [
    | inl has ↦ elim (contains_cons_cases p points q has) [
      | inl same ↦ inr (λ x e. absurd
          (none_not_some x (sym (subst (λ v. value_at slots v ≡ None) same none) ∙ e)))
      | inr rest ↦ inl rest
    ]
    | inr is ↦ inr is
  ];
  lowest = solving.lowest;
  ways = solving.ways;
  work = omega (arith, solving.work, counted, sum_by-cons (out_degree P) p points);
}

-- a point with a value is visited
visit_some : {X : Type 0} (P : Problem X) → IsLawful P
    → (count start : ℕ) (old new : List (Option X)) (points : List ℕ) (p room steps later : ℕ)
    (after : Listed) (x made : X) → value_at old p ≡ Some x → P.leads p x made
    → P.size made ≡ P.size x
    → IsSpread P.le P.size P.rank (P.successors p) made old new
    (record { points = points; room = room }) after → later ≤ steps + out_degree P p
    → IsSolving P count start old (record { points = p ∷ points; room = room }) steps
    → IsSolving P count start new after later
visit_some {X} P laws count start old new points p room steps later after x made e leads size spread
    counted solving =
    let fits : P.size x ≡ P.facts = sized_at P (value_at old p) x e (solving.sized p) in
    let made_fits : P.size made ≡ P.facts = size ∙ fits in
    let passed : IsPassedOn P.le P.leads P.successors new p x =
    record { made = made; leads_to = leads; below = spread.reached } in
    record {
      length_is = spread.length_same ∙ solving.length_is;
      room_is = spread.room_same ∙ solving.room_is;
      sized = λ q. sized_as P (value_at new q) made made_fits (spread.sized q);
      entry = solving.entry;
      enters_by = solving.enters_by;
      entered = below_up P.le laws.transitive solving.entry (value_at old 0)
          (value_at new 0) solving.entered (spread.grown.each 0);
      settled = λ q. elim (spread.listed q) [
        | inl same ↦ elim (solving.settled q) [
          | inl has ↦ elim (contains_cons_cases p points q has) [
            | inl is_p ↦ inr (λ y at. settled_here P old new p q x y is_p e same at passed)
            | inr rest ↦ inl (spread.kept q rest)
          ]
          | inr is ↦ inr (λ y at. passed_on_up P laws old new q y spread.grown
              (is y (sym same ∙ at)))
        ]
        | inr listed ↦ inl listed
      ];
      lowest = λ a bounds. spread.least a
          (λ q. sized_like P (value_at a q) made made_fits (bounds.sized q))
          (solving.lowest a bounds)
          (made_below P a bounds p x made (value_at a p) refl fits
          (subst (λ o. IsAtMost P.le o (value_at a p)) e ((solving.lowest a bounds).each p)) leads);
      ways = λ q is. elim (spread.touched q is) [
        | inl was ↦ solving.ways q was
        | inr has ↦ (let way = solving.ways p (subst (λ o. IsSome o) (sym e) refl) in
            (suc way.0, (p, way.1, has)))
      ];
      work = omega (
        arith,
        solving.work,
        counted,
        spread.weights (out_degree P),
        sum_by-cons (out_degree P) p points,
      );
    }
  where
    sized_as : {X : Type 0} (P : Problem X) (o : Option X) (made : X) → P.size made ≡ P.facts
        → IfSome o (λ y. P.size y ≡ P.size made) → IfSome o (λ y. P.size y ≡ P.facts)
    sized_as P None made fits h = h
    sized_as P (Some y) made fits h = h ∙ fits

    sized_like : {X : Type 0} (P : Problem X) (o : Option X) (made : X) → P.size made ≡ P.facts
        → IfSome o (λ y. P.size y ≡ P.facts) → IfSome o (λ y. P.size y ≡ P.size made)
    sized_like P None made fits h = h
    sized_like P (Some y) made fits h = h ∙ sym fits

    settled_here : {X : Type 0} (P : Problem X) (old new : List (Option X)) (p q : ℕ) (x y : X)
        → p ≡ q → value_at old p ≡ Some x → value_at new q ≡ value_at old q
        → value_at new q ≡ Some y → IsPassedOn P.le P.leads P.successors new p x
        → IsPassedOn P.le P.leads P.successors new q y
    settled_here P old new p q x y is e same at passed =
        let there : value_at old q ≡ Some x = subst (λ v. value_at old v ≡ Some x) is e in
        let one : x ≡ y = some_injective x y (sym there ∙ (sym same ∙ at)) in
        subst (λ v. IsPassedOn P.le P.leads P.successors new q v) one
        (subst (λ v. IsPassedOn P.le P.leads P.successors new v x) is passed)

-- a turn of the solver
pub solving_more : {X : Type 0} (P : Problem X) → IsLawful P
    → (count start : ℕ) (old new : List (Option X)) (points : List ℕ) (p room steps later : ℕ)
    (after : Listed) (o : Option X) → value_at old p ≡ o
    → IsVisited P.le P.size P.rank P.leads P.successors p o old new
    (record { points = points; room = room }) after → later ≤ steps + out_degree P p
    → IsSolving P count start old (record { points = p ∷ points; room = room }) steps
    → IsSolving P count start new after later
solving_more P laws count start old new points p room steps later after None e visited counted
    solving =
    subst (λ (l : Listed). IsSolving P count start new l later) (sym visited.1)
    (subst (λ (v : List (Option _)). IsSolving P count start v
    (record { points = points; room = room }) later) (sym visited.0)
    (visit_none P count start old points p room steps later e counted solving))
solving_more P laws count start old new points p room steps later after
    (Some x) e visited counted solving =
    visit_some P laws count start old new points p room steps later after x visited.0 e visited.1
    visited.2 visited.3 counted solving

-- the weights of the points below n
pub total : (ℕ → ℕ) → ℕ → ℕ
total weight zero = 0
total weight (suc n) = total weight n + weight n

pub total-edges : {X : Type 0} (P : Problem X) → (n : ℕ)
    → total (out_degree P) n ≡ edge_count P.successors n
unfolding total
total-edges P zero = refl
total-edges P (suc n) = ap (λ k. k + out_degree P n) (total-edges P n)

pub total-one : (n : ℕ) → total (λ _. 1) n ≡ n
unfolding total
total-one zero = refl
total-one (suc n) = omega (arith, total-one n)

level_bound : {X : Type 0} (P : Problem X) (height : List ℕ → ℕ)
    → ((x : X) → P.rank x ≤ height (P.size x)) → (o : Option X) → IfSome o (λ x. P.size x ≡ P.facts)
    → level_of P.rank o ≤ height P.facts + 1
level_bound P height bounded None fits = omega arith
level_bound P height bounded (Some x) fits =
    let h : P.rank x ≤ height P.facts = subst (λ s. P.rank x ≤ height s) fits (bounded x) in
    omega (arith, h)

-- the slots are raised at most so often
weighed_from : {X : Type 0} (P : Problem X) (height : List ℕ → ℕ)
    → ((x : X) → P.rank x ≤ height (P.size x)) → (weight : ℕ → ℕ) (n : ℕ) (slots : List (Option X))
    → ((p : ℕ) → IfSome (value_at slots p) (λ x. P.size x ≡ P.facts))
    → weighed P.rank weight n slots + total weight n * (height P.facts + 1) ≤ total weight
    (n + length slots) * (height P.facts + 1)
unfolding total
weighed_from P height bounded weight n [] sized = let e : n + 0 ≡ n = omega arith in
    rw e (omega arith)
weighed_from P height bounded weight n (o ∷ os) sized =
    let e : n + suc (length os) ≡ suc n + length os = omega arith in
    let rest = weighed_from P height bounded weight (suc n) os (λ p. sized (suc p)) in
    let here = mul-le-mul_left (weight n) (level_bound P height bounded o (sized 0)) in
    rw e (omega (arith, rest, here))

pub weighed_bound : {X : Type 0} (P : Problem X) (height : List ℕ → ℕ)
    → ((x : X) → P.rank x ≤ height (P.size x)) → (weight : ℕ → ℕ) (slots : List (Option X))
    → ((p : ℕ) → IfSome (value_at slots p) (λ x. P.size x ≡ P.facts))
    → weighed P.rank weight 0 slots ≤ total weight (length slots) * (height P.facts + 1)
unfolding total
weighed_bound P height bounded weight slots sized =
    let h = weighed_from P height bounded weight 0 slots sized in
    let e = zero-add (length slots) in
    let k : weighed P.rank weight 0 slots + total weight 0 * (height P.facts + 1) ≤ total weight
    (length slots) * (height P.facts + 1) =
    subst (λ n. weighed P.rank weight 0 slots + total weight 0 *
    (height P.facts + 1) ≤ total weight n * (height P.facts + 1)) e h in
    omega (arith, k)

-- the joins so far and those of one more visit stay within the bound
pub within_bound : {X : Type 0} (P : Problem X) (height : List ℕ → ℕ)
    → ((x : X) → P.rank x ≤ height (P.size x))
    → (count start : ℕ) (slots : List (Option X)) (points : List ℕ) (p room steps later : ℕ)
    → IsSolving P count start slots (record { points = p ∷ points; room = room }) steps
    → later ≤ steps + out_degree P p
    → later ≤ start + edge_count P.successors count * (height P.facts + 1)
within_bound P height bounded count start slots points p room steps later solving counted =
    let h = weighed_bound P height bounded (out_degree P) slots solving.sized in
    let k : weighed P.rank (out_degree P) 0 slots ≤ edge_count P.successors count *
    (height P.facts + 1) =
    subst (λ t. weighed P.rank (out_degree P) 0 slots ≤ t * (height P.facts + 1))
    (ap (total (out_degree P)) solving.length_is ∙ total-edges P count) h in
    omega (arith, k, solving.work, counted, sum_by-cons (out_degree P) p points)

pub within_bound_now : {X : Type 0} (P : Problem X) (height : List ℕ → ℕ)
    → ((x : X) → P.rank x ≤ height (P.size x))
    → (count start : ℕ) (slots : List (Option X)) (list : Listed) (steps : ℕ)
    → IsSolving P count start slots list steps
    → steps ≤ start + edge_count P.successors count * (height P.facts + 1)
within_bound_now P height bounded count start slots list steps solving =
    let h = weighed_bound P height bounded (out_degree P) slots solving.sized in
    let k : weighed P.rank (out_degree P) 0 slots ≤ edge_count P.successors count *
    (height P.facts + 1) =
    subst (λ t. weighed P.rank (out_degree P) 0 slots ≤ t * (height P.facts + 1))
    (ap (total (out_degree P)) solving.length_is ∙ total-edges P count) h in
    omega (arith, k, solving.work)

-- what is left to do: the points on the list, and how often the slots can still rise
abbrev pub work_left : {X : Type 0} → (X → ℕ) → ℕ → ℕ → List (Option X) → Listed → ℕ
work_left rank count height slots list =
    sum_by (λ _. 1) list.points + (count * (height + 1) - weighed rank (λ _. 1) 0 slots)

-- a visit leaves less to do
pub work_falls : {X : Type 0} (P : Problem X) (height : List ℕ → ℕ)
    → ((x : X) → P.rank x ≤ height (P.size x))
    → (count start : ℕ) (old new : List (Option X)) (points : List ℕ) (p room steps later : ℕ)
    (after : Listed) (o : Option X)
    → IsVisited P.le P.size P.rank P.leads P.successors p o old new
    (record { points = points; room = room }) after → IsSolving P count start new after later
    → work_left P.rank count (height P.facts) new after < work_left P.rank count
    (height P.facts) old (record { points = p ∷ points; room = room })
work_falls {X} P height bounded count start old new points p room steps later after o visited
    solving =
    let h = weighed_bound P height bounded (λ _. 1) new solving.sized in
    let k : weighed P.rank (λ _. 1) 0 new ≤ count * (height P.facts + 1) =
    subst (λ t. weighed P.rank (λ _. 1) 0 new ≤ t * (height P.facts + 1))
    (ap (total (λ _. 1)) solving.length_is ∙ total-one count) h in
    let w = weights_of P p o old new points room after visited in
    omega (arith, k, w, sum_by-cons (λ _. 1) p points)
  where
    weights_of : {X : Type 0} (P : Problem X) (p : ℕ) (o : Option X) (old new : List (Option X))
        (points : List ℕ) (room : ℕ) (after : Listed)
        → IsVisited P.le P.size P.rank P.leads P.successors p o old new
        (record { points = points; room = room }) after
        → sum_by (λ _. 1) after.points + weighed P.rank (λ _. 1) 0 old ≤ sum_by
        (λ _. 1) points + weighed P.rank (λ _. 1) 0 new
    weights_of P p None old new points room after visited =
        let a = ap (λ (l : Listed). sum_by (λ _. 1) l.points) visited.1 in
        let b = ap (λ (v : List (Option _)). weighed P.rank (λ _. 1) 0 v) visited.0 in
        omega (arith, a, b)
    weights_of P p (Some x) old new points room after visited = visited.3.weights (λ _. 1)

-- nothing stands anywhere
value_at-replicate : {X : Type 0} → (n p : ℕ) → value_at {X = X} (replicate n None) p ≡ None
value_at-replicate {X} n p = elim (cases_lt p n) [
  | inl lt ↦ get_or-replicate n p None None lt
  | inr ge ↦ get_or_past (replicate n None) p None (rw length-replicate ge)
]

weighed-replicate : {X : Type 0} (rank : X → ℕ) (weight : ℕ → ℕ) (m n : ℕ)
    → weighed rank weight m (replicate n None) ≡ 0
weighed-replicate rank weight m zero = refl
weighed-replicate rank weight m (suc n) = omega (arith, weighed-replicate rank weight (suc m) n)

-- the solver begins with the entry at point 0, and that point on its list
pub solving_begins : {X : Type 0} (P : Problem X) → IsLawful P
    → (count start : ℕ) (list : Listed) (x : X) → 0 < count → P.enters x → P.size x ≡ P.facts
    → Contains list.points 0 → list.room ≡ count
    → sum_by (out_degree P) list.points ≤ out_degree P 0
    → IsSolving P count start (set (replicate count None) 0 (Some x)) list start
solving_begins {X} P laws count start list x lt enters fits listed room weight =
    let blank : List (Option X) = replicate count None in
    let in_range : 0 < length blank = rw length-replicate lt in
    let first : value_at (set blank 0 (Some x)) 0 ≡ Some x =
    get_or-set_same blank 0 (Some x) None in_range in
    let at_least_one : 1 ≤ P.rank x + 1 = omega arith in
    let other : (p : ℕ) → p ≢ 0 → value_at (set blank 0 (Some x)) p ≡ None =
    λ p ne. get_or-set_other blank 0 p (Some x) None ne ∙ value_at-replicate count p in
    record {
      length_is = length-set blank 0 (Some x) ∙ length-replicate count None;
      room_is = room;
      sized = λ p. elim (cases_eq p 0) [
        | inl e ↦ subst (λ v. IfSome (value_at (set blank 0 (Some x)) v) (λ y. P.size y ≡ P.facts))
            (sym e) (subst (λ o. IfSome o (λ y. P.size y ≡ P.facts)) (sym first) fits)
        | inr ne ↦ subst (λ o. IfSome o (λ y. P.size y ≡ P.facts)) (sym (other p ne)) tt
      ];
      entry = x;
      enters_by = enters;
      entered = subst (λ o. IsBelow P.le x o) (sym first) (laws.reflexive x);
      settled = λ p. elim (cases_eq p 0) [
        | inl e ↦ inl (subst (λ v. Contains list.points v) (sym e) listed)
        | inr ne ↦ inr (λ y at. absurd (none_not_some y (sym (other p ne) ∙ at)))
      ];
      lowest = λ a bounds. record {
        each = λ p. elim (cases_eq p 0) [
          | inl e ↦ subst (λ v. IsAtMost P.le (value_at (set blank 0 (Some x)) v) (value_at a v))
              (sym e) (subst (λ o. IsAtMost P.le o (value_at a 0)) (sym first)
              (bounds.entered x enters fits))
          | inr ne ↦ subst (λ o. IsAtMost P.le o (value_at a p)) (sym (other p ne)) tt
        ];
      };
      ways = λ p is. elim (cases_eq p 0) [
        | inl e ↦ (0, e)
        | inr ne ↦ absurd (cc (subst (λ o. IsSome o) (other p ne) is))
      ];
      work = omega (
        arith,
        weight,
        weighed-set P.rank (out_degree P) 0 blank 0 (Some x) in_range,
        weighed-replicate P.rank (out_degree P) 0 count,
        mul-le-mul_left (out_degree P 0) at_least_one,
        subst (λ o. level_of P.rank o ≡ 0) (sym (value_at-replicate count 0)) refl,
        ap (λ o. out_degree P 0 * level_of P.rank o) (value_at-replicate {X = X} count 0),
      );
    }

-- a closed annotation has something at each point that a way leads to
way_is_some : {X : Type 0} (P : Problem X) (a : List (Option X)) → Closed P a → (n q : ℕ)
    → IsWay P.successors n q → IsSome (value_at a q)
way_is_some P a closed zero q is =
    some_from_below P.le closed.entry (value_at a q)
    (subst (λ v. IsBelow P.le closed.entry (value_at a v)) (sym is) closed.entered)
way_is_some P a closed (suc n) q (p, way, has) =
    onwards P a closed p q (value_at a p) refl (way_is_some P a closed n p way) has
  where
    onwards : {X : Type 0} (P : Problem X) (a : List (Option X)) → Closed P a
        → (p q : ℕ) (o : Option X) → value_at a p ≡ o → IsSome o → Contains (P.successors p) q
        → IsSome (value_at a q)
    onwards P a closed p q None e is has = absurd (cc is)
    onwards P a closed p q (Some x) e is has =
        let passed = closed.stepped p x e in
        some_from_below P.le passed.made (value_at a q) (passed.below q has)

-- with an empty list the slots are closed, and have something exactly where a way leads
pub solved_closed : {X : Type 0} (P : Problem X)
    → (count start : ℕ) (slots : List (Option X)) (list : Listed) (steps : ℕ) → list.points ≡ []
    → IsSolving P count start slots list steps → Closed P slots
solved_closed P count start slots list steps empty solving = record {
  sized = solving.sized;
  entry = solving.entry;
  enters_by = solving.enters_by;
  entered = solving.entered;
  stepped = λ p x e. elim (solving.settled p) [
    | inl has ↦ absurd (contains_none p (subst (λ ps. Contains ps p) empty has))
    | inr is ↦ is x e
  ];
}

-- the values are below each closed annotation
pub solved_least : {X : Type 0} (P : Problem X) → IsLawful P
    → (count start : ℕ) (slots : List (Option X)) (list : Listed) (steps : ℕ)
    → IsSolving P count start slots list steps → (a : List (Option X)) → Closed P a
    → IsAtMostEverywhere P.le slots a
solved_least P laws count start slots list steps solving a closed =
    solving.lowest a (closed_bounds P laws a closed)

pub solved_ways : {X : Type 0} (P : Problem X)
    → (count start : ℕ) (slots : List (Option X)) (list : Listed) (steps : ℕ) → list.points ≡ []
    → IsSolving P count start slots list steps → (p : ℕ) → IsSome (value_at slots p)
    ↔ HasWay P.successors p
solved_ways P count start slots list steps empty solving p = (
  solving.ways p,
  λ way. way_is_some P slots
      (solved_closed P count start slots list steps empty solving) way.0 p way.1,
)

-- the first point was taken off the list
pub before_visit : {X : Type 0} (P : Problem X)
    → (count start : ℕ) (slots : List (Option X)) (list rest : Listed) (p steps : ℕ)
    → list.points ≡ p ∷ rest.points → rest.room ≡ list.room
    → IsSolving P count start slots list steps
    → IsSolving P count start slots (record { points = p ∷ rest.points; room = rest.room }) steps
before_visit P count start slots list rest p steps points room solving =
    subst (λ r. IsSolving P count start slots (record { points = p ∷ rest.points; room = r }) steps)
    (sym room) (subst (λ ps. IsSolving P count start slots
    (record { points = ps; room = list.room }) steps) points solving)

pub fewer_left : {X : Type 0} (rank : X → ℕ) (count height : ℕ) (slots : List (Option X))
    (list rest : Listed) (p left : ℕ) → list.points ≡ p ∷ rest.points
    → left < work_left rank count height slots
    (record { points = p ∷ rest.points; room = rest.room })
    → left < work_left rank count height slots list
fewer_left rank count height slots list rest p left points lt =
    subst (λ ps. left < sum_by (λ _. 1) ps + (count * (height + 1) - weighed rank (λ _. 1) 0 slots))
    (sym points) lt

-- the slots and the list as the solver makes them
pub solving_starts : {X : Type 0} (P : Problem X) → IsLawful P
    → (count made start : ℕ) (slots : List (Option X)) (empty list : Listed) (x : X) → 0 < count
    → made ≡ count → slots ≡ replicate made None → P.enters x → P.size x ≡ P.facts
    → empty.points ≡ [] → empty.room ≡ made → Contains list.points 0 → list.room ≡ empty.room
    → ((weight : ℕ → ℕ) → sum_by weight list.points ≤ sum_by weight empty.points + weight 0)
    → IsSolving P count start (set slots 0 (Some x)) list start
solving_starts P laws count made start slots empty list x lt same are enters fits none room there
    room_same weight =
    let blank : slots ≡ replicate count None = are ∙ ap (λ n. replicate n None) same in
    let nothing = ap (sum_by (out_degree P)) none in
    subst (λ v. IsSolving P count start (set v 0 (Some x)) list start) (sym blank)
    (solving_begins P laws count start list x lt enters fits there (room_same ∙ (room ∙ same))
    (omega (arith, weight (out_degree P), nothing)))
