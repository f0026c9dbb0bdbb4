-- States that are included in others, by their tables: classes, and bits of the rows.
use Rattle.std.proofs.Common.{◌≡◌, ℕ, zero, suc, ◌+◌, ◌*◌, ◌/◌, ◌%◌, ◌^◌, ◌<◌, ◌≤◌, inl, inr}
use Rattle.std.proofs.Common.{List, length, slice_index, bit_or, refl, sym, subst}
use Rattle.std.proofs.Common.{ap, ◌∙◌, arith}
use Rattle.std.specs.Int.{bit_at}
use Rattle.std.proofs.lemmas.Bool.{cases_eq, cases_lt}
use Rattle.std.proofs.lemmas.List.{get_or_past}
use Rattle.std.proofs.lemmas.Nat.{div-add-mod', div_below}
use Rattle.std.proofs.lemmas.Nat.Bits.{bit_at-zero, bit_at_or, bit_at-lt, bit_at_above}
use Rattle.std.proofs.lemmas.Nat.Bits.{same_from_bits}
use Rattle.sw_partition.specs.Regions.{Regions, size_of, words_for, bit_of, mark_of, Together}
use Rattle.sw_partition.specs.Regions.{HasPair, IsWithin}
use Rattle.sw_partition.specs.Tables.{AreTables, IsCoarser, KeepsLinks, AreBitsWithin}
use Rattle.sw_partition.proofs.Answering.{column_of_site}
use Rattle.sw_partition.proofs.Bits.{bit_of-word}
use Rattle.sw_partition.proofs.Linking.{keeps_coarser}

-- a table that is coarser puts together what was together
pub coarser_within : (a b : Regions) → length b.labels ≡ length a.labels
    → IsCoarser a.labels b.labels → (x y : ℕ) → Together a x y → Together b x y
coarser_within a b same coarser x y t = record {
  left = subst (λ n. x < n) (sym same) t.left;
  right = subst (λ n. y < n) (sym same) t.right;
  same = coarser.each x y t.left t.right t.same;
}

pub within_coarser : (a b : Regions) → ((x y : ℕ) → Together a x y → Together b x y)
    → IsCoarser a.labels b.labels
within_coarser a b within =
    record {
      each = λ p q p_lt q_lt e.
          (within p q (record { left = p_lt; right = q_lt; same = e })).same;
    }

-- a pair stays where its bit does
pub pair_stays : (x site : ℕ) (a b : Regions) → length b.labels ≡ length a.labels
    → b.sites ≡ a.sites → (has : HasPair a x site)
    → bit_of b.words (x * (words_for (length a.sites) * 64) + has.column) ≡ 1 → HasPair b x site
pair_stays x site a b labels sites has marked = record {
  element = subst (λ n. x < n) (sym labels) has.element;
  column = has.column;
  in_range = subst (λ (s : List ℕ). has.column < length s) (sym sites) has.in_range;
  is_site = ap (λ (s : List ℕ). slice_index s has.column) sites ∙ has.is_site;
  marked = subst (λ (s : List ℕ). bit_of b.words (x * (words_for (length s) * 64) + has.column) ≡ 1)
      (sym sites) marked;
}

-- the bit of a pair is set where the pair is one of another state too
mark_from : (a b : Regions) (x k : ℕ) → AreTables b.labels b.sites b.words → a.sites ≡ b.sites
    → x < length a.labels → k < length a.sites → ((site : ℕ) → HasPair a x site → HasPair b x site)
    → mark_of a x k ≡ 1 → mark_of b x k ≡ 1
mark_from a b x k tables sites x_lt k_lt pairs marked =
    let has : HasPair b x (slice_index b.sites k) =
    pairs (slice_index b.sites k)
    (record {
      element = x_lt;
      column = k;
      in_range = k_lt;
      is_site =
          ap (λ (s : List ℕ). slice_index s k) sites;
      marked = marked;
    }) in
    let k_b : k < length b.sites = subst (λ (s : List ℕ). k < length s) sites k_lt in
    subst (λ v. mark_of b x v ≡ 1)
    (column_of_site b x (slice_index b.sites k) k tables.rising (k_b, refl) has) has.marked

-- a bit of the row of an element is set where it is set in a state that is included
row_within : (a b : Regions) → AreTables a.labels a.sites a.words
    → AreTables b.labels b.sites b.words → a.sites ≡ b.sites
    → ((x site : ℕ) → HasPair a x site → HasPair b x site) → (x k : ℕ) → x < length a.labels
    → k < words_for (length a.sites) * 64
    → bit_of a.words (x * (words_for (length a.sites) * 64) + k)
    ≤ bit_of b.words (x * (words_for (length a.sites) * 64) + k)
row_within a b a_tables b_tables sites pairs x k x_lt k_lt =
    let here : mark_of b x k ≡ bit_of b.words (x * (words_for (length a.sites) * 64) + k) =
    ap (λ (s : List ℕ). bit_of b.words (x * (words_for (length s) * 64) + k)) (sym sites) in
    elim (cases_lt k (length a.sites)) [
      | inl lt ↦ elim (cases_eq (mark_of a x k) 1) [
        | inl set ↦ omega (
          arith,
          here,
          set,
          mark_from a b x k b_tables sites x_lt lt (pairs x) set,
        )
        | inr clear ↦ omega (
          arith,
          clear,
          bit_at-lt (slice_index a.words
              ((x * (words_for (length a.sites) * 64) + k) / 64))
              ((x * (words_for (length a.sites) * 64) + k) % 64),
        )
      ]
      | inr ge ↦ omega (arith, a_tables.clear x k x_lt ge k_lt)
    ]

-- the bits of a state are set where its pairs are pairs of another state too
pub bits_within : (a b : Regions) → AreTables a.labels a.sites a.words
    → AreTables b.labels b.sites b.words → length a.labels ≡ length b.labels → a.sites ≡ b.sites
    → ((x site : ℕ) → HasPair a x site → HasPair b x site) → AreBitsWithin a.words b.words
bits_within a b a_tables b_tables labels sites pairs = record {
  each = λ n. let w : ℕ = words_for (length a.sites) in
      elim (cases_lt (n / 64) (length a.labels * w)) [
        | inr past ↦ past_words n
            (get_or_past a.words (n / 64) 0 (omega (arith, a_tables.full, past)))
        | inl within ↦ (
            let some : 0 < w = some_width (n / 64) (length a.labels) w within in
            let x_lt : n / 64 / w < length a.labels =
            div_below (n / 64) w (length a.labels) some within in
            let k_lt : n / 64 % w * 64 + n % 64 < w * 64 = omega (arith, some) in
            let is : n / 64 / w * (w * 64) + (n / 64 % w * 64 + n % 64) ≡ n =
            omega (arith, div-add-mod' (n / 64) w) in
            subst (λ m. bit_of a.words m ≤ bit_of b.words m) is
            (row_within a b a_tables b_tables sites pairs (n / 64 / w)
            (n / 64 % w * 64 + n % 64) x_lt k_lt)
            )
      ];
}
  where
    past_words : (n : ℕ) {v u : ℕ} → v ≡ 0 → bit_at v (n % 64) ≤ u
    past_words n {v} {u} v0 = omega (arith, ap (λ z. bit_at z (n % 64)) v0, bit_at-zero (n % 64))

    some_width : (m rows w : ℕ) → m < rows * w → 0 < w
    some_width m rows zero lt = absurd (omega (arith, lt))
    some_width m rows (suc w) lt = omega arith

-- ---- words
pub word_covered : (words other : List ℕ) (i : ℕ) → slice_index other i < 2 ^ 64
    → AreBitsWithin other words
    → bit_or (slice_index words i) (slice_index other i) ≡ slice_index words i
word_covered words other i fits covered =
    same_from_bits (bit_or (slice_index words i) (slice_index other i)) (slice_index words i)
    (λ j. bit_at_or (slice_index words i) (slice_index other i) j ∙ elim (cases_lt j 64) [
      | inl lt ↦ omega (
        arith,
        covered.each (i * 64 + j),
        bit_of-word words i j lt,
        bit_of-word other i j lt,
      )
      | inr ge ↦ omega (arith, bit_at_above (slice_index other i) 64 j fits ge)
    ])

pub words_cover : (words other : List ℕ) → length other ≡ length words
    → ((k : ℕ) → k < length words
    → bit_or (slice_index words k) (slice_index other k) ≡ slice_index words k)
    → AreBitsWithin other words
words_cover words other same covered = record {
  each = λ n. elim (cases_lt (n / 64) (length words)) [
    | inl lt ↦ omega (
      arith,
      ap (λ v. bit_at v (n % 64)) (covered (n / 64) lt),
      bit_at_or (slice_index words (n / 64)) (slice_index other (n / 64)) (n % 64),
    )
    | inr ge ↦ omega (
      arith,
      ap (λ v. bit_at v (n % 64)) (get_or_past other (n / 64) 0 (omega (arith, same, ge))),
      bit_at-zero (n % 64),
    )
  ];
}

-- ---- inclusion
module _ (a b : Regions) (size : size_of a ≡ size_of b)
    (a_tables : AreTables a.labels a.sites a.words)
    (b_tables : AreTables b.labels b.sites b.words) where
  labels_same : length a.labels ≡ length b.labels
  labels_same = cc size

  sites_same : a.sites ≡ b.sites
  sites_same = cc size

  pub included : KeepsLinks a.labels b.labels → AreBitsWithin a.words b.words → IsWithin a b
  included links bits = record {
    together = coarser_within a b (sym labels_same) (keeps_coarser a.labels b.labels links);
    pairs = λ x site has. pair_stays x site a b (sym labels_same) (sym sites_same) has
        (raised (bits.each (x * (words_for (length a.sites) * 64) + has.column)) has.marked
        (bit_at-lt _ _));
  }
    where
      raised : {m n : ℕ} → m ≤ n → m ≡ 1 → n < 2 → n ≡ 1
      raised le is lt = omega (arith, le, is, lt)

  pub marks_within : IsWithin a b → AreBitsWithin a.words b.words
  marks_within within = bits_within a b a_tables b_tables labels_same sites_same within.pairs
