-- Bits of tables of words.
use Rattle.std.proofs.Common.{◌≡◌, ◌≢◌, ℕ, ◌+◌, ◌*◌, ◌/◌, ◌%◌, ◌^◌, ◌<◌, inl, inr, max, Bool, true}
use Rattle.std.proofs.Common.{false, List, length, set, slice_index, bit_or, w64, refl, sym, subst}
use Rattle.std.proofs.Common.{ap, ◌∙◌, arith}
use Rattle.std.specs.Int.{bit_at, trailing_zeros}
use Rattle.std.proofs.lemmas.Bool.{cases_eq, cases_lt}
use Rattle.std.proofs.lemmas.List.{get_or-set_same, get_or-set_other, get_or_past}
use Rattle.std.proofs.lemmas.Nat.{div-mul-add, mod-mul-add}
use Rattle.std.proofs.lemmas.Nat.Bits.{bit_at-zero, bit_at_or, bit_at_set_same, bit_at_set_other}
use Rattle.std.proofs.lemmas.Nat.Bits.{bit_at-trailing_zeros, bit_at_above, same_from_bits}
use Rattle.std.proofs.Math.ListN.{length-set}
use Rattle.sw_partition.specs.Regions.{bit_of}
use Rattle.sw_partition.specs.Tables.{IsFilled, SetsBit, IsFirstBit, IsClearRow}

-- the bit of a word
pub bit_of-word : (words : List ℕ) (w k : ℕ) → k < 64
    → bit_of words (w * 64 + k) ≡ bit_at (slice_index words w) k
bit_of-word words w k lt =
    ap (λ i. bit_at (slice_index words i) ((w * 64 + k) % 64)) (div-mul-add w 64 k lt)
    ∙ ap (bit_at (slice_index words w)) (mod-mul-add w 64 k lt)

-- the bit of a row that begins with a word
pub bit_of-row : (words : List ℕ) (from k : ℕ)
    → bit_of words (from * 64 + k) ≡ bit_at (slice_index words (from + k / 64)) (k % 64)
bit_of-row words from k =
    let e : from * 64 + k ≡ (from + k / 64) * 64 + k % 64 = omega arith in
    ap (bit_of words) e ∙ bit_of-word words (from + k / 64) (k % 64) (omega arith)

-- the words were united one by one
pub filled : (old other new : List ℕ) (rose : Bool) → length new ≡ length old
    → length other ≡ length old → ((i : ℕ) → slice_index other i < 2 ^ 64)
    → ((i : ℕ) → i < length old
    → slice_index new i ≡ bit_or (slice_index old i) (slice_index other i))
    → (rose ≡ false → new ≡ old)
    → (rose ≡ true → (i : ℕ) × (i < length old) × (slice_index new i ≡ slice_index old i → ⊥))
    → IsFilled old other new rose
filled old other new rose new_length other_length fits each unchanged changed = record {
  length_same = new_length;
  each = λ n. elim (cases_lt (n / 64) (length old)) [
    | inl lt ↦ ap (λ v. bit_at v (n % 64)) (each (n / 64) lt)
        ∙ bit_at_or (slice_index old (n / 64)) (slice_index other (n / 64)) (n % 64)
    | inr ge ↦ past n (get_or_past new (n / 64) 0 (omega arith)) (get_or_past old (n / 64) 0 ge)
        (get_or_past other (n / 64) 0 (omega arith))
  ];
  unchanged = unchanged;
  changed = λ is same. (let w = changed is in
      w.2 (same_from_bits (slice_index new w.0) (slice_index old w.0) (λ j. elim (cases_lt j 64) [
        | inl lt ↦ sym (bit_of-word new w.0 j lt) ∙ (same (w.0 * 64 + j) ∙ bit_of-word old w.0 j lt)
        | inr ge ↦ (let high = bit_at_above (slice_index other w.0) 64 j (fits w.0) ge in
            ap (λ v. bit_at v j) (each w.0 w.1)
            ∙ (bit_at_or (slice_index old w.0) (slice_index other w.0) j ∙ omega (arith, high)))
      ])));
}
  where
    past : (n : ℕ) {v a b : ℕ} → v ≡ 0 → a ≡ 0 → b ≡ 0
        → bit_at v (n % 64) ≡ max (bit_at a (n % 64)) (bit_at b (n % 64))
    past n {v} {a} {b} v0 a0 b0 =
        subst (λ x. bit_at x (n % 64) ≡ max (bit_at a (n % 64)) (bit_at b (n % 64))) (sym v0)
        (subst (λ x. bit_at 0 (n % 64) ≡ max (bit_at x (n % 64)) (bit_at b (n % 64))) (sym a0)
        (subst (λ x. bit_at 0 (n % 64) ≡ max (bit_at 0 (n % 64)) (bit_at x (n % 64))) (sym b0)
        (rw bit_at-zero refl)))

-- a bit of a word was set
pub marked : (words : List ℕ) (w k : ℕ) → w < length words → k < 64
    → SetsBit (w * 64 + k) words (set words w (bit_or (slice_index words w) (1 * 2 ^ k % 2 ^ 64)))
marked words w k w_lt k_lt =
    let new : List ℕ = set words w (bit_or (slice_index words w) (1 * 2 ^ k % 2 ^ 64)) in
    let at_w : slice_index new w ≡ bit_or (slice_index words w) (1 * 2 ^ k % 2 ^ 64) =
    get_or-set_same words w (bit_or (slice_index words w) (1 * 2 ^ k % 2 ^ 64)) 0 w_lt in
    record {
      length_same = length-set words w (bit_or (slice_index words w) (1 * 2 ^ k % 2 ^ 64));
      set = bit_of-word new w k k_lt
          ∙ (ap (λ v. bit_at v k) at_w ∙ bit_at_set_same w64 (slice_index words w) k k_lt);
      others = λ m ne. elim (cases_eq (m / 64) w) [
        | inl e ↦ (let other_bit : m % 64 ≢ k = λ same. ne (omega (arith, e, same)) in
            ap (λ i. bit_at (slice_index new i) (m % 64)) e
            ∙ (ap (λ v. bit_at v (m % 64)) at_w
            ∙ (bit_at_set_other w64 (slice_index words w) k k_lt (m % 64) other_bit
            ∙ sym (ap (λ i. bit_at (slice_index words i) (m % 64)) e))))
        | inr other ↦ ap (λ v. bit_at v (m % 64))
            (get_or-set_other words w (m / 64)
            (bit_or (slice_index words w) (1 * 2 ^ k % 2 ^ 64)) 0 other)
      ];
    }

-- the lowest bit of the first word that is not 0
pub first_bit_at : (words : List ℕ) (from count i : ℕ) → i < count
    → ((j : ℕ) → j < i → slice_index words (from + j) ≡ 0) → 0 < slice_index words (from + i)
    → slice_index words (from + i) < 2 ^ 64
    → IsFirstBit words from count (i * 64 + trailing_zeros w64 (slice_index words (from + i)))
first_bit_at words from count i lt zeros some fits =
    let t = bit_at-trailing_zeros w64 (slice_index words (from + i)) some fits in
    let z : ℕ = trailing_zeros w64 (slice_index words (from + i)) in
    let z_lt : z < 64 = t.0 in
    record {
      in_row = omega (arith, z_lt, lt);
      set = bit_of-row words from (i * 64 + z)
          ∙ (ap (λ j. bit_at (slice_index words (from + j)) ((i * 64 + z) % 64))
          (div-mul-add i 64 z z_lt)
          ∙ (ap (bit_at (slice_index words (from + i))) (mod-mul-add i 64 z z_lt) ∙ t.1));
      clear = λ k k_lt. bit_of-row words from k ∙ elim (cases_eq (k / 64) i) [
        | inl e ↦ ap (λ j. bit_at (slice_index words (from + j)) (k % 64)) e
            ∙ t.2 (k % 64) (omega (arith, e, k_lt, z_lt))
        | inr ne ↦ ap (λ v. bit_at v (k % 64)) (zeros (k / 64) (omega (arith, ne, k_lt, z_lt)))
            ∙ bit_at-zero (k % 64)
      ];
    }

-- words that are all 0 have no bit
pub clear_row : (words : List ℕ) (from count : ℕ)
    → ((j : ℕ) → j < count → slice_index words (from + j) ≡ 0) → IsClearRow words from count
clear_row words from count zeros = record {
  each = λ k lt. bit_of-row words from k
      ∙ (ap (λ v. bit_at v (k % 64)) (zeros (k / 64) (omega (arith, lt))) ∙ bit_at-zero (k % 64));
}

-- a word of a row, by the bit's column in the table of rows
pub row_bit : (p width k : ℕ) → (p * width + k / 64) * 64 + k % 64 ≡ p * (width * 64) + k
row_bit p width k = omega arith
