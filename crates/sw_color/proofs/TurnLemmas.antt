-- Numbers that are merged, added and taken back.
use Rattle.std.proofs.Common.{◌≡◌, ℕ, zero, suc, ◌-◌, ◌<◌, ◌≤◌, List, [], ◌∷◌, ◌++◌, length}
use Rattle.std.proofs.Common.{get_or, take, set, map, refl, ap, sym, ◌∙◌, arith}
use Rattle.std.proofs.Common.{Option, Some, None, slice_get, length-append, inl}
use Rattle.std.proofs.Common.{inr, MatchOption}
use Rattle.std.proofs.lemmas.Bool.{cases_eq, cases_lt}
use Rattle.std.proofs.lemmas.List.{get_or_default, get_or_past, length-set, take_all}
use Rattle.std.proofs.lemmas.List.{length-map, get_or-map, ext_get_or, get_or-set_same}
use Rattle.std.proofs.lemmas.List.{get_or-set_other}
use Rattle.std.proofs.lemmas.List.Folds.{map_fixed}
use Rattle.std.proofs.lemmas.Option.{slice_get-get_or}
use Rattle.sw_value.proofs.ListLemmas.{take_prefix}
use Rattle.sw_color_rules.specs.Names.{name_in, turned}
use Rattle.sw_color_rules.specs.Parents.{parent_of, root_by, roots}
use Rattle.sw_color_rules.proofs.NamesLemmas.{turned_other, turned_same}
use Rattle.sw_color.proofs.BuiltLemmas.{built, built_length, built_more}
use Rattle.sw_color.proofs.RootLemmas.{roots_length, root_low, root_high, root_past, name_low, climbs_on}

record Turns (ps : List ℕ) (from to : ℕ) : Type 0 where
  lower : to < from
  to_left : name_in (roots ps) to ≡ to
  from_left : name_in (roots ps) from ≡ from
  inside : from < length ps

-- one write merges
turned_at : (ps : List ℕ) (from to : ℕ) → Turns ps from to → (n i : ℕ) → i < n → i < length ps
    → name_in (roots (set ps from to)) i ≡ turned from to (name_in (roots ps) i)
turned_at ps from to t zero i below inside = absurd (omega arith)
turned_at ps from to t (suc n) i below inside = elim (cases_eq i from) [
  | inl same ↦
      let from_inside = t.inside in
      let at_from : slice_get (set ps from to) i ≡ Some to =
      slice_get-get_or (set ps from to) i 0 (omega (arith, length-set ps from to, inside))
      ∙ ap (λ x. Some x) (ap (λ k. get_or (set ps from to) k 0) same
      ∙ get_or-set_same ps from to 0 t.inside) in
      root_low (set ps from to) i to at_from (omega (arith, t.lower, same))
      ∙ turned_at ps from to t n to (omega (arith, t.lower, same, below))
      (omega (arith, t.lower, t.inside))
      ∙ ap (turned from to) t.to_left
      ∙ turned_other from to to (λ e. absurd (omega (arith, e, t.lower)))
      ∙ sym (turned_same from to (name_in (roots ps) i)
      (ap (name_in (roots ps)) same ∙ t.from_left))
  | inr other ↦
      let p = get_or ps i 0 in
      let old = slice_get-get_or ps i 0 inside in
      let new : slice_get (set ps from to) i ≡ Some p =
      slice_get-get_or (set ps from to) i 0 (omega (arith, length-set ps from to, inside))
      ∙ ap (λ x. Some x) (get_or-set_other ps from i to 0 other) in
      elim (cases_lt p i) [
        | inl low ↦
            root_low (set ps from to) i p new low
            ∙ turned_at ps from to t n p (omega (arith, low, below)) (omega (arith, low, inside))
            ∙ ap (turned from to) (sym (root_low ps i p old low))
        | inr high ↦
            root_high (set ps from to) i p new high
            ∙ sym (ap (turned from to) (root_high ps i p old high) ∙ turned_other from to i other)
      ]
]

-- a name is left
name_left : (ps : List ℕ) (n i : ℕ) → i < n
    → name_in (roots ps) (name_in (roots ps) i) ≡ name_in (roots ps) i
name_left ps zero i below = absurd (omega arith)
name_left ps (suc n) i below = elim (cases_lt i (length ps)) [
  | inl inside ↦
      let there = slice_get-get_or ps i 0 inside in
      elim (cases_lt (get_or ps i 0) i) [
        | inl low ↦
            let same = root_low ps i (get_or ps i 0) there low in
            ap (name_in (roots ps)) same
            ∙ name_left ps n (get_or ps i 0) (omega (arith, low, below)) ∙ sym same
        | inr high ↦ ap (name_in (roots ps)) (root_high ps i (get_or ps i 0) there high)
      ]
  | inr past ↦ ap (name_in (roots ps)) (root_past ps i past)
]

-- a number that is kept with its name, in place of another: names stay
settled_at : (ps : List ℕ) (k q : ℕ) → q ≡ name_in (roots ps) k → q < k → k < length ps → (n i : ℕ)
    → i < n → i < length ps → name_in (roots (set ps k q)) i ≡ name_in (roots ps) i
settled_at ps k q q_is low k_inside zero i below inside = absurd (omega arith)
settled_at ps k q q_is low k_inside (suc n) i below inside = elim (cases_eq i k) [
  | inl same ↦
      let at_k : slice_get (set ps k q) i ≡ Some q =
      slice_get-get_or (set ps k q) i 0 (omega (arith, length-set ps k q, inside))
      ∙ ap (λ x. Some x) (ap (λ j. get_or (set ps k q) j 0) same
      ∙ get_or-set_same ps k q 0 k_inside) in
      root_low (set ps k q) i q at_k (omega (arith, low, same))
      ∙ settled_at ps k q q_is low k_inside n q (omega (arith, low, same, below))
      (omega (arith, low, k_inside))
      ∙ ap (name_in (roots ps)) q_is
      ∙ name_left ps (suc k) k (omega arith)
      ∙ ap (name_in (roots ps)) (sym same)
  | inr other ↦
      let p = get_or ps i 0 in
      let old = slice_get-get_or ps i 0 inside in
      let new : slice_get (set ps k q) i ≡ Some p =
      slice_get-get_or (set ps k q) i 0 (omega (arith, length-set ps k q, inside))
      ∙ ap (λ x. Some x) (get_or-set_other ps k i q 0 other) in
      elim (cases_lt p i) [
        | inl lower ↦
            root_low (set ps k q) i p new lower
            ∙ settled_at ps k q q_is low k_inside n p (omega (arith, lower, below))
            (omega (arith, lower, inside))
            ∙ sym (root_low ps i p old lower)
        | inr high ↦ root_high (set ps k q) i p new high ∙ sym (root_high ps i p old high)
      ]
]

pub settled : (ps : List ℕ) (k q : ℕ) → q ≡ name_in (roots ps) k → q < k → k < length ps
    → roots (set ps k q) ≡ roots ps
settled ps k q q_is low k_inside =
    let long : length (roots (set ps k q)) ≡ length ps =
    roots_length (set ps k q) ∙ length-set ps k q in
    ext_get_or 0 (roots (set ps k q)) (roots ps) (long ∙ sym (roots_length ps))
    (λ i within.
    let i_inside : i < length ps = omega (arith, long, within) in
    let i_there : i < length (roots ps) = omega (arith, roots_length ps, i_inside) in
    get_or_default (roots (set ps k q)) i 0 i within
    ∙ settled_at ps k q q_is low k_inside (suc i) i (omega arith) i_inside
    ∙ get_or_default (roots ps) i i 0 i_there)

pub settle_next : (first now new : List ℕ) (at parent name : ℕ) → roots now ≡ roots first
    → name_in (roots first) at ≡ name → parent_of now at ≡ Some parent → roots new ≡ roots now
    → (roots new ≡ roots first) × (name_in (roots first) parent ≡ name)
settle_next first now new at parent name so_far name_is up same = (
  same ∙ so_far,
  ap (λ l. name_in l parent) (sym so_far)
      ∙ climbs_on now at at parent refl up ∙ ap (λ l. name_in l at) so_far ∙ name_is,
)

pub ruleset settling = (settled)

pub turn_inside : (ps : List ℕ) (from to : ℕ) → to < from → name_in (roots ps) to ≡ to
    → name_in (roots ps) from ≡ from → from < length ps
    → roots (set ps from to) ≡ map (turned from to) (roots ps)
turn_inside ps from to lower to_left from_left inside =
    let t : Turns ps from to =
    record { lower = lower; to_left = to_left; from_left = from_left; inside = inside } in
    let long : length (roots (set ps from to)) ≡ length ps =
    roots_length (set ps from to) ∙ length-set ps from to in
    ext_get_or 0 (roots (set ps from to)) (map (turned from to) (roots ps))
    (long ∙ sym (length-map (roots ps) (turned from to) ∙ roots_length ps))
    (λ i within.
    let i_inside : i < length ps = omega (arith, long, within) in
    let i_there : i < length (roots ps) = omega (arith, roots_length ps, i_inside) in
    get_or_default (roots (set ps from to)) i 0 i within
    ∙ turned_at ps from to t (suc i) i (omega arith) i_inside
    ∙ sym (get_or-map (turned from to) (roots ps) i i 0 i_there))

pub turn_past : (ps : List ℕ) (from to : ℕ) → length ps ≤ from
    → roots ps ≡ map (turned from to) (roots ps)
turn_past ps from to past =
    sym (map_fixed (turned from to) (roots ps) (λ k d within.
    let same = get_or_default (roots ps) k d k within in
    turned_other from to (get_or (roots ps) k d)
    (λ e. absurd (omega (
      arith,
      e,
      same,
      name_low ps (suc k) k (omega arith),
      within,
      past,
      roots_length ps,
    )))))

-- one more number, and one less
pub roots_add : (ps : List ℕ) → roots (ps ++ length ps ∷ []) ≡ roots ps ++ length (roots ps) ∷ []
unfolding roots
roots_add ps =
    built_more root_by [] ps (length ps)
    ∙ ap (λ n. roots ps ++ n ∷ [])
    (get_or_past (built root_by [] ps) (length ps) (length (built root_by [] ps))
    (omega (arith, built_length root_by [] ps)))

pub roots_prefix : (ps : List ℕ) (p : ℕ) → roots ps
    ≡ take (length (roots (ps ++ p ∷ [])) - 1) (roots (ps ++ p ∷ []))
unfolding roots
roots_prefix ps p =
    let more = built_more root_by [] ps p in
    let count : length (built root_by [] (ps ++ p ∷ [])) - 1 ≡ length (built root_by [] ps) =
    omega (
      arith,
      built_length root_by [] (ps ++ p ∷ []),
      built_length root_by [] ps,
      length-append ps (p ∷ []),
    ) in
    sym (ap (λ n. take n (built root_by [] (ps ++ p ∷ []))) count
    ∙ ap (take (length (built root_by [] ps))) more
    ∙ take_prefix (built root_by [] ps) (root_by (built root_by [] ps) p))

pub ruleset turning = (turn_inside, turn_past)

pub ruleset adding = (roots_add, roots_length)

pub roots_taken : (o : Option ℕ) (old new : List ℕ)
    → MatchOption o ((old ≡ []) × (new ≡ [])) (λ last. old ≡ new ++ last ∷ [])
    → roots new ≡ take (length (roots old) - 1) (roots old)
roots_taken None old new h =
    ap roots (h.1 ∙ sym h.0)
    ∙ sym (take_all (length (roots old) - 1) (roots old) short) where
      short : length (roots old) ≤ length (roots old) - 1
      short = omega (arith, roots_length old, ap length h.0)
roots_taken (Some last) old new h =
    roots_prefix new last ∙ ap (λ ps. take (length (roots ps) - 1) (roots ps)) (sym h)

-- what was added last is taken back
pub taken_back : {A : Type 0} (xs : List A) (x : A) → take (length (xs ++ x ∷ []) - 1) (xs ++ x ∷ []) ≡ xs
taken_back xs x =
    let count : length (xs ++ x ∷ []) - 1 ≡ length xs = omega (arith, length-append xs (x ∷ [])) in
    ap (λ k. take k (xs ++ x ∷ [])) count ∙ take_prefix xs x

pub ruleset takes_back = (taken_back)
