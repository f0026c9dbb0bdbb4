-- The laws of the order of region states, and of the rank.
use Rattle.std.specs.Prelude.{◌≡◌, ℕ, zero, suc, ◌+◌, ◌*◌, ◌<◌, ◌≤◌, Bool, true, false, cond, ◌==◌}
use Rattle.std.specs.Prelude.{◌&&◌, List, length, slice_index, refl}
use Rattle.std.proofs.Common.{sym, subst, ap, ◌∙◌, inl, inr, arith}
use Rattle.std.proofs.lemmas.Bool.{cases_eq, cases_lt, cases_order, cases_Bool, eqb-true, eq-eqb}
use Rattle.std.proofs.lemmas.Bool.{and_parts, and_from, or_cases, or_left, or_right, both_ways}
use Rattle.sw_partition.specs.Regions.{Regions, size_of, mark_of, Together, HasPair, IsWithin}
use Rattle.sw_partition.specs.Regions.{IsSameState}
use Rattle.sw_partition.specs.Rank.{any_below, sum_below, is_later, has_pair, rank_of, height_of}

pub within_refl : (a : Regions) → IsWithin a a
within_refl a = record { together = λ x y t. t; pairs = λ x site h. h }

pub within_trans : (a b c : Regions) → IsWithin a b → IsWithin b c → IsWithin a c
within_trans a b c first second = record {
  together = λ x y t. second.together x y (first.together x y t);
  pairs = λ x site h. second.pairs x site (first.pairs x site h);
}

pub within_both : (a b : Regions) → IsWithin a b → IsWithin b a → IsSameState a b
within_both a b forth back = record {
  together = λ x y. (forth.together x y, back.together x y);
  pairs = λ x site. (forth.pairs x site, back.pairs x site);
}

pub same_within : (a b : Regions) → IsSameState a b → IsWithin a b × IsWithin b a
same_within a b same = (
  record {
    together = λ x y. (same.together x y).0;
    pairs =
        λ x site. (same.pairs x site).0;
  },
  record { together = λ x y. (same.together x y).1; pairs = λ x site. (same.pairs x site).1 },
)

pub same_refl : (a : Regions) → IsSameState a a
same_refl a = within_both a a (within_refl a) (within_refl a)

-- ---- tests and sums below a number
any_from : (n : ℕ) (test : ℕ → Bool) (k : ℕ) → k < n → test k ≡ true → any_below n test ≡ true
any_from zero test k lt is = absurd (omega arith)
any_from (suc n) test k lt is = elim (cases_eq k n) [
  | inl e ↦ or_right (any_below n test) (test n) (subst (λ v. test v ≡ true) e is)
  | inr ne ↦ or_left (any_below n test) (test n) (any_from n test k (omega (arith, ne)) is)
]

any_at : (n : ℕ) (test : ℕ → Bool) → any_below n test ≡ true → (k : ℕ) × (k < n) × (test k ≡ true)
any_at zero test is = absurd (cc)
any_at (suc n) test is = elim (or_cases (any_below n test) (test n) is) [
  | inl before ↦ (let w = any_at n test before in (w.0, omega (arith, w.1), w.2))
  | inr here ↦ (n, omega arith, here)
]

sum_le : (n : ℕ) (f g : ℕ → ℕ) → ((k : ℕ) → k < n → f k ≤ g k) → sum_below n f ≤ sum_below n g
sum_le zero f g le = omega arith
sum_le (suc n) f g le = omega (arith, sum_le n f g (λ k lt. le k (omega arith)), le n (omega arith))

-- sums of which no part is greater are equal only if the parts are
sum_same : (n : ℕ) (f g : ℕ → ℕ) → ((k : ℕ) → k < n → f k ≤ g k) → sum_below n g ≤ sum_below n f
    → (k : ℕ) → k < n → g k ≤ f k
sum_same zero f g le back k lt = absurd (omega arith)
sum_same (suc n) f g le back k lt =
    let below = sum_le n f g (λ k lt. le k (omega arith)) in
    let last = le n (omega arith) in
    elim (cases_eq k n) [
      | inl e ↦ subst (λ v. g v ≤ f v) (sym e) (omega (arith, back, below, last))
      | inr ne ↦ sum_same n f g (λ k lt. le k (omega arith)) (omega (arith, back, last)) k
          (omega (arith, ne))
    ]

sum_bound : (n m : ℕ) (f : ℕ → ℕ) → ((k : ℕ) → f k ≤ m) → sum_below n f ≤ n * m
sum_bound zero m f le = omega arith
sum_bound (suc n) m f le = omega (arith, sum_bound n m f le, le n)

bit_le : (a b : Bool) → (a ≡ true → b ≡ true) → cond a 1 0 ≤ cond b 1 0
bit_le false b h = omega arith
bit_le true true h = omega arith
bit_le true false h = absurd (cc (h refl))

bit_back : (a b : Bool) → cond b 1 0 ≤ cond a 1 0 → b ≡ true → a ≡ true
bit_back true b h is = refl
bit_back false true h is = absurd (omega (arith, h))
bit_back false false h is = is

bit_one : (b : Bool) → cond b 1 0 ≤ 1
bit_one true = omega arith
bit_one false = omega arith

-- ---- elements that are not the first of their class
later_from : (r : Regions) (x y : ℕ) → y < x → slice_index r.labels y ≡ slice_index r.labels x
    → is_later r x ≡ true
later_from r x y lt same =
    any_from x (λ y. slice_index r.labels y == slice_index r.labels x) y lt
    (eq-eqb (slice_index r.labels y) (slice_index r.labels x) same)

later_at : (r : Regions) (x : ℕ) → is_later r x ≡ true → (y : ℕ) × (y < x)
    × (slice_index r.labels y ≡ slice_index r.labels x)
later_at r x is = let w = any_at x (λ y. slice_index r.labels y == slice_index r.labels x) is in
    (w.0, w.1, eqb-true (slice_index r.labels w.0) (slice_index r.labels x) w.2)

later_up : (a b : Regions) → IsWithin a b → (x : ℕ) → x < length a.labels → is_later a x ≡ true
    → is_later b x ≡ true
later_up a b within x lt is =
    let w = later_at a x is in
    let t : Together a w.0 x = record { left = omega (arith, w.1, lt); right = lt; same = w.2 } in
    later_from b x w.0 w.1 (within.together w.0 x t).same

-- the first element of a class
first_of : (r : Regions) (fuel x : ℕ) → x < fuel → x < length r.labels → (z : ℕ) × (z ≤ x)
    × Together r z x × (is_later r z ≡ false)
first_of r zero x fueled lt = absurd (omega arith)
first_of r (suc fuel) x fueled lt = elim (cases_Bool (is_later r x)) [
  | inr first ↦ (x, omega arith, record { left = lt; right = lt; same = refl }, first)
  | inl later ↦ (
      let w = later_at r x later in
      let h = first_of r fuel w.0 (omega (arith, w.1, fueled)) (omega (arith, w.1, lt)) in (
        h.0,
        omega (arith, h.1, w.1),
        record { left = h.2.left; right = lt; same = h.2.same ∙ w.2 },
        h.3,
      )
      )
]

together_trans : (r : Regions) (x y z : ℕ) → Together r x y → Together r y z → Together r x z
together_trans r x y z first second =
    record { left = first.left; right = second.right; same = first.same ∙ second.same }

together_sym : (r : Regions) (x y : ℕ) → Together r x y → Together r y x
together_sym r x y t = record { left = t.right; right = t.left; same = sym t.same }

-- two first elements of one class are one
firsts_same : (r : Regions) (x y : ℕ) → Together r x y → is_later r x ≡ false → is_later r y ≡ false
    → x ≡ y
firsts_same r x y t x_first y_first = elim (cases_order x y) [
  | inl e ↦ e
  | inr apart ↦ elim apart [
    | inl lt ↦ absurd (both_ways (is_later r y) y_first (later_from r y x lt t.same))
    | inr gt ↦ absurd (both_ways (is_later r x) x_first (later_from r x y gt (sym t.same)))
  ]
]

-- with as many classes as before, no elements have come together
together_back : (a b : Regions) → length a.labels ≡ length b.labels → IsWithin a b
    → ((x : ℕ) → x < length a.labels → is_later b x ≡ true → is_later a x ≡ true) → (x y : ℕ)
    → Together b x y → Together a x y
together_back a b same within back x y t =
    let x_lt : x < length a.labels = subst (λ n. x < n) (sym same) t.left in
    let y_lt : y < length a.labels = subst (λ n. y < n) (sym same) t.right in
    let u = first_of a (x + 1) x (omega arith) x_lt in
    let v = first_of a (y + 1) y (omega arith) y_lt in
    let up : Together b u.0 v.0 =
    together_trans b u.0 x v.0 (within.together u.0 x u.2)
    (together_trans b x y v.0 t (together_sym b v.0 y (within.together v.0 y v.2))) in
    let u_first : is_later b u.0 ≡ false = not_later a b u.0 back u.2.left u.3 in
    let v_first : is_later b v.0 ≡ false = not_later a b v.0 back v.2.left v.3 in
    let one : u.0 ≡ v.0 = firsts_same b u.0 v.0 up u_first v_first in
    together_trans a x u.0 y (together_sym a u.0 x u.2) (subst (λ w. Together a w y) (sym one) v.2)
  where
    not_later : (a b : Regions) (z : ℕ)
        → ((x : ℕ) → x < length a.labels → is_later b x ≡ true → is_later a x ≡ true)
        → z < length a.labels → is_later a z ≡ false → is_later b z ≡ false
    not_later a b z back lt first = elim (cases_Bool (is_later b z)) [
      | inl later ↦ absurd (both_ways (is_later a z) first (back z lt later))
      | inr none ↦ none
    ]

-- ---- pairs
has_from : (r : Regions) (x site : ℕ) → HasPair r x site → has_pair r x site ≡ true
has_from r x site has = any_from (length r.sites)
    (λ k. (slice_index r.sites k == site) && (mark_of r x k == 1)) has.column has.in_range
    (and_from (slice_index r.sites has.column == site) (mark_of r x has.column == 1)
    (eq-eqb (slice_index r.sites has.column) site has.is_site)
    (eq-eqb (mark_of r x has.column) 1 has.marked))

has_at : (r : Regions) (x site : ℕ) → x < length r.labels → has_pair r x site ≡ true
    → HasPair r x site
has_at r x site lt is =
    let w = any_at (length r.sites)
    (λ k. (slice_index r.sites k == site) && (mark_of r x k == 1)) is in
    let parts = and_parts (slice_index r.sites w.0 == site) (mark_of r x w.0 == 1) w.2 in
    record {
      element = lt;
      column = w.0;
      in_range = w.1;
      is_site =
          eqb-true (slice_index r.sites w.0) site parts.0;
      marked =
          eqb-true (mark_of r x w.0) 1 parts.1;
    }

has_up : (a b : Regions) → IsWithin a b → (x site : ℕ) → x < length a.labels
    → has_pair a x site ≡ true → has_pair b x site ≡ true
has_up a b within x site lt is = has_from b x site (within.pairs x site (has_at a x site lt is))

-- ---- the rank
abbrev later_bit : Regions → ℕ → ℕ
later_bit r x = cond (is_later r x) 1 0

abbrev pair_bit : Regions → ℕ → ℕ → ℕ
pair_bit r x k = cond (has_pair r x (slice_index r.sites k)) 1 0

abbrev row_sum : Regions → ℕ → ℕ
row_sum r x = sum_below (length r.sites) (pair_bit r x)

-- the rank by another list of the sites
abbrev row_by : Regions → List ℕ → ℕ → ℕ
row_by r sites x = sum_below (length sites) (λ k. cond (has_pair r x (slice_index sites k)) 1 0)

-- a state that is not above in rank is not above
within_back : (a b : Regions) → length a.labels ≡ length b.labels → a.sites ≡ b.sites → IsWithin a b
    → rank_of b ≤ rank_of a → IsWithin b a
within_back a b labels sites within ge =
    let n : ℕ = length a.labels in
    let later_le : (k : ℕ) → k < n → later_bit a k ≤ later_bit b k =
    λ k lt. bit_le (is_later a k) (is_later b k) (later_up a b within k lt) in
    let pair_le : (x : ℕ) → x < n → (k : ℕ) → k < length a.sites
    → pair_bit a x k ≤ cond (has_pair b x (slice_index a.sites k)) 1 0 =
    λ x lt k k_lt. bit_le (has_pair a x (slice_index a.sites k))
    (has_pair b x (slice_index a.sites k)) (has_up a b within x (slice_index a.sites k) lt) in
    let row_le : (x : ℕ) → x < n → row_sum a x ≤ row_by b a.sites x =
    λ x lt. sum_le (length a.sites) (pair_bit a x)
    (λ k. cond (has_pair b x (slice_index a.sites k)) 1 0) (pair_le x lt) in
    let same : rank_of b ≡ sum_below n (later_bit b) + sum_below n (row_by b a.sites) =
    ap (λ m. sum_below m (later_bit b) + sum_below m (row_sum b)) (sym labels)
    ∙ ap (λ s. sum_below n (later_bit b) + sum_below n (row_by b s)) (sym sites) in
    let laters = sum_le n (later_bit a) (later_bit b) later_le in
    let rows = sum_le n (row_sum a) (row_by b a.sites) row_le in
    let later_back : (k : ℕ) → k < n → later_bit b k ≤ later_bit a k =
    sum_same n (later_bit a) (later_bit b) later_le (omega (arith, same, ge, laters, rows)) in
    let row_back : (x : ℕ) → x < n → row_by b a.sites x ≤ row_sum a x =
    sum_same n (row_sum a) (row_by b a.sites) row_le (omega (arith, same, ge, laters, rows)) in
    record {
      together = together_back a b labels within
          (λ x lt is. bit_back (is_later a x) (is_later b x) (later_back x lt) is);
      pairs = λ x site has.
          let lt : x < n = subst (λ m. x < m) (sym labels) has.element in
          let k_lt : has.column < length a.sites =
          subst (λ s. has.column < length s) (sym sites) has.in_range in
          let is_site : slice_index a.sites has.column ≡ site =
          ap (λ s. slice_index s has.column) sites ∙ has.is_site in
          let there : has_pair b x (slice_index a.sites has.column) ≡ true =
          subst (λ s. has_pair b x s ≡ true) (sym is_site) (has_from b x site has) in
          let back : cond (has_pair b x (slice_index a.sites has.column)) 1 0 ≤ pair_bit a x
          has.column = sum_same (length a.sites) (pair_bit a x)
          (λ k. cond (has_pair b x (slice_index a.sites k)) 1 0) (pair_le x lt)
          (row_back x lt) has.column k_lt in
          subst (λ s. HasPair a x s) is_site
          (has_at a x (slice_index a.sites has.column) lt
          (bit_back (has_pair a x (slice_index a.sites has.column))
          (has_pair b x (slice_index a.sites has.column)) back there));
    }

-- a state of the same size that is strictly above another has the greater rank
pub rank_rises : (a b : Regions) → size_of a ≡ size_of b → IsWithin a b → (¬ (IsSameState a b))
    → rank_of a < rank_of b
rank_rises a b size within apart = elim (cases_lt (rank_of a) (rank_of b)) [
  | inl lt ↦ lt
  | inr ge ↦ absurd (apart (within_both a b within
      (within_back a b (head_same size) (tail_same size) within ge)))
]
  where
    head_same : size_of a ≡ size_of b → length a.labels ≡ length b.labels
    head_same e = cc

    tail_same : size_of a ≡ size_of b → a.sites ≡ b.sites
    tail_same e = cc

pub rank_bound : (r : Regions) → rank_of r ≤ height_of (size_of r)
rank_bound r =
    let later = sum_bound (length r.labels) 1 (later_bit r) (λ x. bit_one (is_later r x)) in
    let pairs = sum_bound (length r.labels) (length r.sites) (row_sum r) (λ x. row_bound x) in
    omega (arith, later, pairs)
  where
    row_bound : (x : ℕ) → row_sum r x ≤ length r.sites
    row_bound x = let h = sum_bound (length r.sites) 1 (pair_bit r x)
        (λ k. bit_one (has_pair r x (slice_index r.sites k))) in omega (arith, h)
