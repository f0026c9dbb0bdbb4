-- Region states from an equivalence and a set of pairs that can be decided.
use Rattle.std.proofs.Common.{◌≡◌, ℕ, zero, suc, ◌+◌, ◌*◌, ◌/◌, ◌%◌, ◌<◌, inl, inr}
use Rattle.std.proofs.Common.{◌↔◌, Bool, true, false, cond, List, [], ◌∷◌, length, Contains}
use Rattle.std.proofs.Common.{get_or, refl, sym, subst, ap, ◌∙◌, arith}
use Rattle.std.proofs.lemmas.Bool.{cases_eq}
use Rattle.std.proofs.lemmas.List.{get_or_default}
use Rattle.std.proofs.lemmas.Nat.{div-mul-add, mod-mul-add}
use Rattle.std.proofs.lemmas.Nat.Bits.{bit_at_lowest, bit_at-suc}
use Rattle.std.specs.Int.{bit_at}
use Rattle.std.specs.Prelude.{slice_index}
use Rattle.sw_partition.specs.Regions.{Regions, words_for, bit_of, mark_of, Together, HasPair}
use Rattle.sw_region_flow.proofs.Deciding.{Decided}
use Rattle.sw_region_flow.proofs.Deciding.{test, test_holds, holds_test, tests_same}

-- the number whose first k bits are given by a test
number : (ℕ → Bool) → ℕ → ℕ
number f zero = 0
number f (suc k) = number (λ i. f (suc i)) k * 2 + cond (f 0) 1 0

bit_below : (b : Bool) → cond b 1 0 < 2
bit_below true = omega arith
bit_below false = omega arith

bit_of_number : (f : ℕ → Bool) (k i : ℕ) → i < k → bit_at (number f k) i ≡ cond (f i) 1 0
unfolding number
bit_of_number f zero i lt = absurd (omega arith)
bit_of_number f (suc k) zero lt =
    bit_at_lowest (number f (suc k))
    ∙ mod-mul-add (number (λ i. f (suc i)) k) 2 (cond (f 0) 1 0) (bit_below (f 0))
bit_of_number f (suc k) (suc i) lt =
    bit_at-suc (number f (suc k)) i
    ∙ ap (λ n. bit_at n i)
    (div-mul-add (number (λ i. f (suc i)) k) 2 (cond (f 0) 1 0) (bit_below (f 0)))
    ∙ bit_of_number (λ i. f (suc i)) k i (omega arith)

number_same : (f g : ℕ → Bool) (k : ℕ) → ((i : ℕ) → i < k → f i ≡ g i) → number f k ≡ number g k
unfolding number
number_same f g zero same = refl
number_same f g (suc k) same =
    ap (λ n. n * 2 + cond (f 0) 1 0)
    (number_same (λ i. f (suc i)) (λ i. g (suc i)) k (λ i lt. same (suc i) (omega arith)))
    ∙ ap (λ b. number (λ i. g (suc i)) k * 2 + cond b 1 0) (same 0 (omega arith))

-- the values of f from a number on
table : (ℕ → ℕ) → ℕ → ℕ → List ℕ
table f from zero = []
table f from (suc n) = f from ∷ table f (suc from) n

length_table : (f : ℕ → ℕ) (from n : ℕ) → length (table f from n) ≡ n
unfolding table
length_table f from zero = refl
length_table f from (suc n) = ap suc (length_table f (suc from) n)

table_at : (f : ℕ → ℕ) (from n k : ℕ) → k < n → slice_index (table f from n) k ≡ f (from + k)
unfolding table
table_at f from zero k lt = absurd (omega arith)
table_at f from (suc n) zero lt = let e : from ≡ from + 0 = omega arith in ap f e
table_at f from (suc n) (suc k) lt = let e : suc from + k ≡ from + suc k = omega arith in
    table_at f (suc from) n k (omega arith) ∙ ap f e

-- words whose bits are given by a test
word : (ℕ → Bool) → ℕ → ℕ
word f w = number (λ i. f (w * 64 + i)) 64

bit_of_words : (f : ℕ → Bool) (count n : ℕ) → n < count
    → bit_of (table (word f) 0 count) n ≡ cond (f n) 1 0
unfolding word
bit_of_words f count n lt =
    let within : n / 64 < count = omega arith in
    let e : 0 + n / 64 ≡ n / 64 = omega arith in
    let back : n / 64 * 64 + n % 64 ≡ n = omega arith in
    ap (λ w. bit_at w (n % 64)) (table_at (word f) 0 count (n / 64) within ∙ ap (word f) e)
    ∙ bit_of_number (λ i. f (n / 64 * 64 + i)) 64 (n % 64) (omega arith)
    ∙ ap (λ m. cond (f m) 1 0) back

-- an equivalence of the elements below a count, and pairs of such elements and sites
pub record IsState (count : ℕ) (sites : List ℕ) (T P : ℕ → ℕ → Type 0) : Type 0 where
  pub tell : (x y : ℕ) → Decided (T x y)
  pub within : (x y : ℕ) → T x y → (x < count) × (y < count)
  pub itself : (x : ℕ) → x < count → T x x
  pub turned : (x y : ℕ) → T x y → T y x
  pub along : (x y z : ℕ) → T x y → T y z → T x z
  pub tell_pair : (x site : ℕ) → Decided (P x site)
  pub there : (x site : ℕ) → P x site → (x < count) × Contains sites site

-- a state with these
pub record IsMade (count : ℕ) (sites : List ℕ) (T P : ℕ → ℕ → Type 0) (r : Regions) : Type 0 where
  pub elements_are : length r.labels ≡ count
  pub sites_are : r.sites ≡ sites
  pub together : (x y : ℕ) → Together r x y ↔ T x y
  pub pairs : (x site : ℕ) → HasPair r x site ↔ P x site

one_true : (b : Bool) → cond {A = ℕ} b 1 0 ≡ 1 → b ≡ true
one_true true e = refl
one_true false e = absurd (omega (arith, e))

module _ (count : ℕ) (sites : List ℕ) (T P : ℕ → ℕ → Type 0) (is : IsState count sites T P) where
  stride : ℕ
  stride = words_for (length sites) * 64

  -- the class of an element, as a number
  label : ℕ → ℕ
  label x = number (λ y. test (is.tell x y)) count

  -- whether the bit of a row and a column is set
  set_at : ℕ → Bool
  set_at n = test (is.tell_pair (n / stride) (slice_index sites (n % stride)))

  pub made : Regions
  made = record {
    labels = table label 0 count;
    sites = sites;
    words = table (word set_at) 0 (count * stride);
  }

  count_is : length made.labels ≡ count
  unfolding made
  count_is = length_table label 0 count

  label_at : (x : ℕ) → x < count → slice_index made.labels x ≡ label x
  unfolding made
  label_at x lt = let e : 0 + x ≡ x = omega arith in table_at label 0 count x lt ∙ ap label e

  bit_at_label : (x y : ℕ) → y < count → bit_at (label x) y ≡ cond (test (is.tell x y)) 1 0
  unfolding label
  bit_at_label x y lt = bit_of_number (λ z. test (is.tell x z)) count y lt

  label_forth : (x y : ℕ) → x < count → y < count → label x ≡ label y → T x y
  label_forth x y x_lt y_lt same = test_holds (is.tell x y) (one_true (test (is.tell x y))
      (sym (bit_at_label x y y_lt) ∙ ap (λ n. bit_at n y) same ∙ bit_at_label y y y_lt
      ∙ ap (λ b. cond b 1 0) (holds_test (is.tell y y) (is.itself y y_lt))))

  label_back : (x y : ℕ) → T x y → label x ≡ label y
  unfolding label
  label_back x y t = number_same (λ z. test (is.tell x z)) (λ z. test (is.tell y z)) count
      (λ z lt. tests_same (is.tell x z) (is.tell y z)
      (λ u. is.along y x z (is.turned x y t) u) (λ u. is.along x y z t u))

  together_is : (x y : ℕ) → Together made x y ↔ T x y
  together_is x y = (forth, back)
    where
      forth : Together made x y → T x y
      forth t = let x_lt : x < count = subst (λ n. x < n) count_is t.left in
          let y_lt : y < count = subst (λ n. y < n) count_is t.right in
          label_forth x y x_lt y_lt (sym (label_at x x_lt) ∙ t.same ∙ label_at y y_lt)

      back : T x y → Together made x y
      back t = let h = is.within x y t in record {
        left = subst (λ n. x < n) (sym count_is) h.0;
        right = subst (λ n. y < n) (sym count_is) h.1;
        same = label_at x h.0 ∙ label_back x y t ∙ sym (label_at y h.1);
      }

  in_row : (k : ℕ) → k < length sites → k < stride
  unfolding stride
  in_row k lt = omega arith

  row_within : (x s k n : ℕ) → x < n → k < s → x * s + k < n * s
  row_within x s k zero lt in_range = absurd (omega arith)
  row_within x s k (suc n) lt in_range = elim (cases_eq x n) [
    | inl e ↦ subst (λ m. x * s + k < suc m * s) e (omega arith)
    | inr other ↦ let h = row_within x s k n (omega (arith, other)) in_range in omega (arith, h)
  ]

  mark_at : (x k : ℕ) → x < count → k < length sites
      → mark_of made x k ≡ cond (test (is.tell_pair x (slice_index sites k))) 1 0
  unfolding made set_at stride
  mark_at x k x_lt k_lt =
      let inside = in_row k k_lt in
      bit_of_words set_at (count * stride) (x * stride + k)
      (row_within x stride k count x_lt inside)
      ∙ ap (λ y. cond (test (is.tell_pair y (slice_index sites ((x * stride + k) % stride)))) 1 0)
      (div-mul-add x stride k inside)
      ∙ ap (λ j. cond (test (is.tell_pair x (slice_index sites j))) 1 0)
      (mod-mul-add x stride k inside)

  pairs_are : (x site : ℕ) → HasPair made x site ↔ P x site
  unfolding made
  pairs_are x site = (forth, back)
    where
      forth : HasPair made x site → P x site
      forth has = let x_lt : x < count = subst (λ n. x < n) count_is has.element in
          subst (λ s. P x s) has.is_site
          (test_holds (is.tell_pair x (slice_index sites has.column))
          (one_true (test (is.tell_pair x (slice_index sites has.column)))
          (sym (mark_at x has.column x_lt has.in_range) ∙ has.marked)))

      back : P x site → HasPair made x site
      back p = let h = is.there x site p in record {
        element = subst (λ n. x < n) (sym count_is) h.0;
        column = h.1.0;
        in_range = h.1.1;
        is_site = at_column h.1.0 h.1.1 h.1.2;
        marked = mark_at x h.1.0 h.0 h.1.1
            ∙ ap (λ b. cond b 1 0) (holds_test (is.tell_pair x (slice_index sites h.1.0))
            (subst (λ s. P x s) (sym (at_column h.1.0 h.1.1 h.1.2)) p));
      }
        where
          at_column : (k : ℕ) → k < length sites → get_or sites k site ≡ site
              → slice_index sites k ≡ site
          at_column k lt e = get_or_default sites k 0 site lt ∙ e

  pub is_made : IsMade count sites T P made
  unfolding made
  is_made = record {
    elements_are = count_is;
    sites_are = refl;
    together = together_is;
    pairs = pairs_are;
  }
