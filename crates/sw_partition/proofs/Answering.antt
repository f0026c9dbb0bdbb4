-- What the tests and the making of a state answer, from the tables.
use Rattle.std.proofs.Common.{◌≡◌, ◌≢◌, ℕ, zero, suc, ◌+◌, ◌*◌, ◌/◌, ◌%◌, ◌^◌, ◌<◌, ◌≤◌, ◌⊎◌, inl}
use Rattle.std.proofs.Common.{inr, Result, Ok, Err, IsOk, MatchResult, List, length, get_or}
use Rattle.std.proofs.Common.{slice_index, replicate, Contains, refl, sym, subst, ap, ◌∙◌, arith}
use Rattle.std.proofs.Common.{◌-◌, ◌↔◌}
use Rattle.std.specs.List.Sorted.{IsStrictlyIncreasing, IsBinarySearchResult}
use Rattle.std.specs.Ordering.{nat_cmp}
use Rattle.std.specs.Int.{bit_at}
use Rattle.std.proofs.lemmas.Bool.{cases_eq, cases_lt, cases_order}
use Rattle.std.proofs.lemmas.List.{get_or-replicate, get_or_past, get_or_read}
use Rattle.std.proofs.lemmas.List.Sorted.{searched}
use Rattle.std.proofs.lemmas.Nat.{same_from_place}
use Rattle.std.proofs.lemmas.Nat.Bits.{bit_at-zero}
use Rattle.std.proofs.Math.ListN.{length-replicate}
use Rattle.sw_partition.specs.Regions.{Regions, words_for, bit_of, mark_of, Together, HasPair}
use Rattle.sw_partition.specs.Regions.{HasSomePair}
use Rattle.sw_partition.specs.Effects.{IsBlank, IsGiven, IsGivenOne, IsClassed, IsLeastSite}
use Rattle.sw_partition.specs.Tables.{AreLabels, AreNumbers, AreTables, SetsBit, IsClassMarked}
use Rattle.sw_partition.specs.Tables.{IsFirstBit}
use Rattle.sw_partition.proofs.Bits.{row_bit}
use Rattle.sw_partition.proofs.Effecting.{column_in_row, written, refilled, zero_not_one}

-- ---- sites in rising order
rising_below : (sites : List ℕ) → IsStrictlyIncreasing sites → (i n : ℕ) → i + suc n < length sites
    → slice_index sites i < slice_index sites (i + suc n)
rising_below sites rising i zero lt = let e : i + suc 0 ≡ i + 1 = omega arith in
    rw e (rising i (omega arith))
rising_below sites rising i (suc n) lt =
    let e : i + suc (suc n) ≡ (i + suc n) + 1 = omega arith in
    let step : slice_index sites (i + suc n) < slice_index sites ((i + suc n) + 1) =
    rising (i + suc n) (omega arith) in
    let before = rising_below sites rising i n (omega arith) in
    rw e (omega (arith, step, before))

pub rising_lt : (sites : List ℕ) → IsStrictlyIncreasing sites → (i j : ℕ) → i < j → j < length sites
    → slice_index sites i < slice_index sites j
rising_lt sites rising i j lt j_lt =
    let n : ℕ = j - (i + 1) in
    let e : i + suc (j - (i + 1)) ≡ j = omega arith in
    subst (λ v. slice_index sites i < slice_index sites v) e
    (rising_below sites rising i (j - (i + 1)) (omega arith))

pub rising_le : (sites : List ℕ) → IsStrictlyIncreasing sites → (i j : ℕ) → i ≤ j → j < length sites
    → slice_index sites i ≤ slice_index sites j
rising_le sites rising i j le j_lt = elim (cases_eq i j) [
  | inl e ↦ (let same = ap (slice_index sites) e in omega (arith, same))
  | inr ne ↦ (let lt = rising_lt sites rising i j (omega (arith, ne)) j_lt in omega (arith, lt))
]

-- a pair's column is that of its site
pub column_of_site : (r : Regions) (x site k : ℕ) → IsStrictlyIncreasing r.sites
    → (k < length r.sites) × (slice_index r.sites k ≡ site) → (has : HasPair r x site)
    → has.column ≡ k
column_of_site r x site k rising at has = elim (cases_order has.column k) [
  | inl e ↦ e
  | inr apart ↦ elim apart [
    | inl lt ↦ absurd (omega (
      arith,
      rising_lt r.sites rising has.column k lt at.0,
      has.is_site,
      at.1,
    ))
    | inr gt ↦ absurd (omega (
      arith,
      rising_lt r.sites rising k has.column gt has.in_range,
      has.is_site,
      at.1,
    ))
  ]
]

-- a site that is there is found
pub site_found : (sites : List ℕ) (site : ℕ) (r : Result ℕ ℕ) → IsStrictlyIncreasing sites
    → IsBinarySearchResult (λ y. nat_cmp y site) sites r → Contains sites site → IsOk r
site_found sites site r rising found has =
    there sites site r has (searched sites site r found (rising_le sites rising))
  where
    there : (sites : List ℕ) (site : ℕ) (r : Result ℕ ℕ) → Contains sites site
        → MatchResult r (λ i. (i < length sites) × (get_or sites i 0 ≡ site))
        (λ i. (i ≤ length sites) × ((k : ℕ) → k < i → get_or sites k 0 < site)
        × ((k : ℕ) → i ≤ k → k < length sites → site < get_or sites k 0)) → IsOk r
    there sites site (Ok i) has h = refl
    there sites site (Err i) (k, k_lt, is) h =
        let at : site ≡ get_or sites k 0 = get_or_read sites k site k_lt (sym is) 0 in
        elim (cases_lt k i) [
          | inl lt ↦ absurd (omega (arith, at, h.1 k lt))
          | inr ge ↦ absurd (omega (arith, at, h.2 k ge k_lt))
        ]

pub site_column : (sites : List ℕ) (site column : ℕ) (r : Result ℕ ℕ) → IsStrictlyIncreasing sites
    → IsBinarySearchResult (λ y. nat_cmp y site) sites r → r ≡ Ok column → (column < length sites)
    × (slice_index sites column ≡ site)
site_column sites site column r rising found e =
    subst (λ (v : Result ℕ ℕ). MatchResult v (λ i. (i < length sites) × (get_or sites i 0 ≡ site))
    (λ i. (i ≤ length sites) × ((k : ℕ) → k < i → get_or sites k 0 < site)
    × ((k : ℕ) → i ≤ k → k < length sites → site < get_or sites k 0))) e
    (searched sites site r found (rising_le sites rising))

-- ---- give
marked_or_kept : (labels : List ℕ) (label stride column : ℕ) (old new : List ℕ)
    → IsClassMarked labels label stride column old new → (a k : ℕ) → a < length labels → k < stride
    → ((k ≡ column) × (a ≢ 0) × (slice_index labels a ≡ label) × (bit_of new (a * stride + k) ≡ 1))
    ⊎ (bit_of new (a * stride + k) ≡ bit_of old (a * stride + k))
marked_or_kept labels label stride column old new marked a k a_lt k_lt = elim (cases_eq k column) [
  | inr ne ↦ inr (marked.others a k k_lt (λ w. ne w.0))
  | inl is ↦ elim (cases_eq a 0) [
    | inl here ↦ inr (marked.others a k k_lt (λ w. w.1 here))
    | inr not_here ↦ elim (cases_eq (slice_index labels a) label) [
      | inr other ↦ inr (marked.others a k k_lt (λ w. other w.2))
      | inl has ↦ inl (
        is,
        not_here,
        has,
        ap (λ v. bit_of new (a * stride + v)) is
            ∙ marked.set a (omega (arith, not_here)) a_lt has,
      )
    ]
  ]
]

given : (x site column : ℕ) (labels sites words words' : List ℕ) → x < length labels
    → column < length sites → slice_index sites column ≡ site
    → IsClassMarked labels (slice_index labels x)
    (words_for (length sites) * 64) column words words'
    → IsGiven x site (record { labels = labels; sites = sites; words = words })
    (record { labels = labels; sites = sites; words = words' })
given x site column labels sites words words' x_lt column_lt is_site marked = record {
  elements_same = refl;
  sites_same = refl;
  together = λ a b. (
    (λ t. record { left = t.left; right = t.right; same = t.same }),
    (λ t. record { left = t.left; right = t.right; same = t.same }),
  );
  pairs = λ a s. (
    (λ has. elim (marked_or_kept labels (slice_index labels x)
        (words_for (length sites) * 64) column words words' marked a has.column has.element
        (column_in_row sites has.column has.in_range)) [
          | inl w ↦ inr (
            sym has.is_site
                ∙ (ap (slice_index sites) w.0 ∙ is_site),
            w.1,
            record { left = has.element; right = x_lt; same = w.2 },
          )
          | inr kept ↦ inl (record {
            element = has.element;
            column = has.column;
            in_range =
                has.in_range;
            is_site = has.is_site;
            marked = sym kept ∙ has.marked;
          })
        ]),
    given_back x site column labels sites words words' column_lt is_site marked a s,
  );
}
  where
    given_back : (x site column : ℕ) (labels sites words words' : List ℕ) → column < length sites
        → slice_index sites column ≡ site
        → IsClassMarked labels (slice_index labels x)
        (words_for (length sites) * 64) column words words' → (a s : ℕ)
        → (HasPair (record { labels = labels; sites = sites; words = words }) a s
        ⊎ ((s ≡ site) × (a ≢ 0)
        × Together (record { labels = labels; sites = sites; words = words }) a x))
        → HasPair (record { labels = labels; sites = sites; words = words' }) a s
    given_back x site column labels sites words words' column_lt is_site marked a s (inl has) =
        record {
          element = has.element;
          column = has.column;
          in_range = has.in_range;
          is_site = has.is_site;
          marked = elim (marked_or_kept labels (slice_index labels x)
              (words_for (length sites) * 64) column words words' marked a has.column has.element
              (column_in_row sites has.column has.in_range)) [
                | inl w ↦ w.3
                | inr kept ↦ kept ∙ has.marked
              ];
        }
    given_back x site column labels sites words words' column_lt is_site marked a s (inr w) =
        record {
          element = w.2.left;
          column = column;
          in_range = column_lt;
          is_site = is_site ∙ sym w.0;
          marked = marked.set a (omega (arith, w.1)) w.2.left w.2.same;
        }

-- give, as the code makes it
pub give_done : (x site width column label words_len : ℕ)
    (labels sites words seen_words words' : List ℕ) (now : Regions)
    → record { labels = labels; sites = sites; words = words } ≡ now → seen_words ≡ words
    → width ≡ words_for (length sites) → words_len ≡ length words → x < length now.labels
    → (column < length sites) × (slice_index sites column ≡ site) → label ≡ get_or labels x label
    → IsClassMarked labels label (width * 64) column seen_words words'
    → IsGiven x site now (record {
      labels = labels;
      sites = sites;
      words =
          written words_len words' words;
    })
give_done x site width column label words_len labels sites words seen_words words' now now_is
    words_are width_is words_len_is x_now found label_is marked =
    let x_lt : x < length labels =
    subst (λ (v : Regions). x < length v.labels) (sym now_is) x_now in
    let m : IsClassMarked labels (slice_index labels x)
    (words_for (length sites) * 64) column words words' =
    subst (λ n. IsClassMarked labels n (words_for (length sites) * 64) column words words')
    (get_or_read labels x label x_lt label_is 0)
    (subst (λ w. IsClassMarked labels label (w * 64) column words words') width_is
    (subst (λ v. IsClassMarked labels label (width * 64) column v words') words_are marked)) in
    subst (λ (n : Regions). IsGiven x site n
    (record { labels = labels; sites = sites; words = written words_len words' words })) now_is
    (subst (λ v. IsGiven x site (record { labels = labels; sites = sites; words = words })
    (record { labels = labels; sites = sites; words = v }))
    (sym (refilled words_len words' words words_len_is m.length_same))
    (given x site column labels sites words words' x_lt found.0 found.1 m))

-- ---- give_one
given_one : (x site column : ℕ) (labels sites words words' : List ℕ) → x < length labels
    → column < length sites → slice_index sites column ≡ site
    → SetsBit (x * (words_for (length sites) * 64) + column) words words'
    → IsGivenOne x site (record { labels = labels; sites = sites; words = words })
    (record { labels = labels; sites = sites; words = words' })
given_one x site column labels sites words words' x_lt column_lt is_site sets = record {
  elements_same = refl;
  sites_same = refl;
  together = λ a b. (
    (λ t. record { left = t.left; right = t.right; same = t.same }),
    (λ t. record { left = t.left; right = t.right; same = t.same }),
  );
  pairs = λ a s. (forth a s, back a s);
}
  where
    forth : (a s : ℕ) → HasPair (record { labels = labels; sites = sites; words = words' }) a s
        → (HasPair (record { labels = labels; sites = sites; words = words }) a s
        ⊎ ((a ≡ x) × (s ≡ site)))
    forth a s has = elim (cases_eq (a * (words_for (length sites) * 64) + has.column) (x * (words_for (length sites) * 64) + column)) [
      | inl same ↦ (let w = same_from_place a has.column x column (words_for (length sites) * 64)
          (column_in_row sites has.column has.in_range) (column_in_row sites column column_lt)
          same in
          inr (w.0, sym has.is_site ∙ (ap (slice_index sites) w.1 ∙ is_site)))
      | inr apart ↦ inl (record {
        element = has.element;
        column = has.column;
        in_range = has.in_range;
        is_site = has.is_site;
        marked = sym (sets.others (a * (words_for (length sites) * 64) + has.column) apart) ∙ has.marked;
      })
    ]

    back : (a s : ℕ) → (HasPair (record { labels = labels; sites = sites; words = words }) a s
        ⊎ ((a ≡ x) × (s ≡ site)))
        → HasPair (record { labels = labels; sites = sites; words = words' }) a s
    back a s (inl has) = record {
      element = has.element;
      column = has.column;
      in_range = has.in_range;
      is_site = has.is_site;
      marked = elim (cases_eq (a * (words_for (length sites) * 64) + has.column) (x * (words_for (length sites) * 64) + column)) [
        | inl same ↦ ap (bit_of words') same ∙ sets.set
        | inr apart ↦ sets.others (a * (words_for (length sites) * 64) + has.column) apart ∙ has.marked
      ];
    }
    back a s (inr w) = record {
      element = subst (λ v. v < length labels) (sym w.0) x_lt;
      column = column;
      in_range = column_lt;
      is_site = is_site ∙ sym w.1;
      marked = ap (λ v. bit_of words' (v * (words_for (length sites) * 64) + column)) w.0 ∙ sets.set;
    }

given_one_tables : (x column : ℕ) (labels sites words words' : List ℕ) → x ≢ 0
    → column < length sites → AreTables labels sites words
    → SetsBit (x * (words_for (length sites) * 64) + column) words words'
    → AreTables labels sites words'
given_one_tables x column labels sites words words' not_here column_lt tables sets = record {
  here = tables.here;
  few = tables.few;
  labelled = tables.labelled;
  rising = tables.rising;
  full = sets.length_same ∙ tables.full;
  clear = λ a k a_lt past k_lt. sets.others (a * (words_for (length sites) * 64) + k)
      (λ e. let w = same_from_place a k x column (words_for (length sites) * 64) k_lt
      (column_in_row sites column column_lt) e in
      omega (arith, w.1, past, column_lt)) ∙ tables.clear a k a_lt past k_lt;
  here_bare = λ k k_lt. sets.others (0 * (words_for (length sites) * 64) + k)
      (λ e. not_here (sym (same_from_place 0 k x column (words_for (length sites) * 64) k_lt
      (column_in_row sites column column_lt) e).0)) ∙ tables.here_bare k k_lt;
}

-- give_one, as the code makes it
pub give_one_done : (x site width column words_len : ℕ)
    (labels sites words seen_words words' : List ℕ) (now : Regions)
    → record { labels = labels; sites = sites; words = words } ≡ now → seen_words ≡ words
    → width ≡ words_for (length sites) → words_len ≡ length words → x < length now.labels → x ≢ 0
    → (column < length sites) × (slice_index sites column ≡ site) → AreTables labels sites words
    → SetsBit ((x * width + column / 64) * 64 + column % 64) seen_words words'
    → AreTables labels sites (written words_len words' words)
    × IsGivenOne x site now (record {
      labels = labels;
      sites = sites;
      words =
          written words_len words' words;
    })
give_one_done x site width column words_len labels sites words seen_words words' now now_is
    words_are width_is words_len_is x_now not_here found tables sets =
    let x_lt : x < length labels =
    subst (λ (v : Regions). x < length v.labels) (sym now_is) x_now in
    let s : SetsBit (x * (words_for (length sites) * 64) + column) words words' =
    subst (λ w. SetsBit (x * (w * 64) + column) words words') width_is
    (subst (λ n. SetsBit n words words') (row_bit x width column)
    (subst (λ v. SetsBit ((x * width + column / 64) * 64 + column % 64) v words') words_are
    sets)) in
    subst (λ (n : Regions). AreTables labels sites (written words_len words' words)
    × IsGivenOne x site n
    (record { labels = labels; sites = sites; words = written words_len words' words })) now_is
    (subst (λ v. AreTables labels sites v
    × IsGivenOne x site (record { labels = labels; sites = sites; words = words })
    (record { labels = labels; sites = sites; words = v }))
    (sym (refilled words_len words' words words_len_is s.length_same)) (
      given_one_tables x column labels sites words words' not_here found.0 tables s,
      given_one x site column labels sites words words' x_lt found.0 found.1 s,
    ))

-- ---- set_classes
classed_tables : (classes labels sites words : List ℕ) → length classes ≡ length labels
    → AreLabels classes → AreTables labels sites words → AreTables classes sites words
classed_tables classes labels sites words same are tables = record {
  here = omega (arith, same, tables.here);
  few = omega (arith, same, tables.few);
  labelled = are;
  rising = tables.rising;
  full = tables.full ∙ ap (λ n. n * words_for (length sites)) (sym same);
  clear = λ a k a_lt past k_lt. tables.clear a k (subst (λ n. a < n) same a_lt) past k_lt;
  here_bare = tables.here_bare;
}

classed : (classes labels sites words : List ℕ) → length classes ≡ length labels
    → IsClassed classes (record { labels = labels; sites = sites; words = words })
    (record { labels = classes; sites = sites; words = words })
classed classes labels sites words same = record {
  elements_same = same;
  sites_same = refl;
  together = λ a b. (
    λ t. (subst (λ n. a < n) same t.left, subst (λ n. b < n) same t.right, t.same),
    λ w. record {
      left = subst (λ n. a < n) (sym same) w.0;
      right = subst (λ n. b < n) (sym same) w.1;
      same = w.2;
    },
  );
  pairs = λ a site. (
    λ has. record {
      element = subst (λ n. a < n) same has.element;
      column = has.column;
      in_range = has.in_range;
      is_site = has.is_site;
      marked = has.marked;
    },
    λ has. record {
      element = subst (λ n. a < n) (sym same) has.element;
      column = has.column;
      in_range = has.in_range;
      is_site = has.is_site;
      marked = has.marked;
    },
  );
}

-- set_classes, as the code makes it
pub set_classes_done : (labels_len : ℕ) (classes labels labels' sites words : List ℕ)
    (now : Regions) → record { labels = labels; sites = sites; words = words } ≡ now
    → labels_len ≡ length labels → length classes ≡ length now.labels → AreLabels classes
    → AreTables labels sites words → labels' ≡ classes
    → AreTables (written labels_len labels' labels) sites words
    × IsClassed classes now (record {
      labels = written labels_len labels' labels;
      sites = sites;
      words = words;
    })
set_classes_done labels_len classes labels labels' sites words now now_is labels_len_is count are
    tables is =
    let same : length classes ≡ length labels =
    count ∙ ap (λ (v : Regions). length v.labels) (sym now_is) in
    let l : written labels_len labels' labels ≡ classes =
    refilled labels_len labels' labels labels_len_is (ap length is ∙ same) ∙ is in
    subst (λ (n : Regions). AreTables (written labels_len labels' labels) sites words
    × IsClassed classes n (record {
      labels = written labels_len labels' labels;
      sites = sites;
      words = words;
    })) now_is
    (subst (λ v. AreTables v sites words
    × IsClassed classes (record { labels = labels; sites = sites; words = words })
    (record { labels = v; sites = sites; words = words })) (sym l) (
      classed_tables classes labels sites words same are tables,
      classed classes labels sites words same,
    ))

-- ---- need
row_column : (x w k : ℕ) → x * w * 64 + k ≡ x * (w * 64) + k
row_column x w k = omega arith

pub first_in_sites : (x bit : ℕ) (labels sites words : List ℕ) → AreTables labels sites words
    → x < length labels → IsFirstBit words (x * words_for (length sites))
    (words_for (length sites)) bit → bit < length sites
first_in_sites x bit labels sites words tables x_lt first = elim (cases_lt bit (length sites)) [
  | inl lt ↦ lt
  | inr ge ↦ absurd (zero_not_one _ (ap (bit_of words) (row_column x (words_for (length sites)) bit)
      ∙ tables.clear x bit x_lt ge first.in_row) first.set)
]

pub least_site : (x bit : ℕ) (labels sites words : List ℕ) → AreTables labels sites words
    → x < length labels → IsFirstBit words (x * words_for (length sites))
    (words_for (length sites)) bit
    → IsLeastSite (record { labels = labels; sites = sites; words = words }) x
    (slice_index sites bit)
least_site x bit labels sites words tables x_lt first = record {
  there = record {
    element = x_lt;
    column = bit;
    in_range = first_in_sites x bit labels sites words tables x_lt first;
    is_site = refl;
    marked = ap (bit_of words) (sym (row_column x (words_for (length sites)) bit)) ∙ first.set;
  };
  least = λ other has. elim (cases_lt has.column bit) [
    | inl lt ↦ absurd (zero_not_one _
        (ap (bit_of words) (sym (row_column x (words_for (length sites)) has.column))
        ∙ first.clear has.column lt) has.marked)
    | inr ge ↦ subst (λ v. slice_index sites bit ≤ v) has.is_site
        (rising_le sites tables.rising bit has.column ge has.in_range)
  ];
}

-- ---- new
bit_of-zeros : (count n : ℕ) → bit_of (replicate count 0) n ≡ 0
bit_of-zeros count n = elim (cases_lt (n / 64) count) [
  | inl lt ↦ ap (λ v. bit_at v (n % 64)) (get_or-replicate count (n / 64) 0 0 lt)
      ∙ bit_at-zero (n % 64)
  | inr ge ↦ ap (λ v. bit_at v (n % 64))
      (get_or_past (replicate count 0) (n / 64) 0 (rw length-replicate ge)) ∙ bit_at-zero (n % 64)
]

pub blank_tables : (elements width : ℕ) (labels sites words : List ℕ) → 0 < elements
    → elements < 2 ^ 32 → IsStrictlyIncreasing sites → AreNumbers elements labels
    → words ≡ replicate (elements * width) 0 → width ≡ words_for (length sites)
    → AreTables labels sites words
blank_tables elements width labels sites words some few rising labels_are words_are width_is =
    let count : length labels ≡ elements = labels_are.length_is in
    let own : (p : ℕ) → p < length labels → slice_index labels p ≡ p =
    λ p lt. labels_are.each p (subst (λ n. p < n) count lt) in
    record {
      here = omega (arith, count);
      few = omega (arith, count);
      labelled = record {
        within = λ p lt. subst (λ v. v < length labels) (sym (own p lt)) lt;
        own = λ p lt. ap (slice_index labels) (own p lt);
      };
      rising = rising;
      full = ap length words_are
          ∙ (length-replicate (elements * width) 0
          ∙ (ap (λ n. elements * n) width_is ∙ ap (λ n. n * words_for (length sites)) (sym count)));
      clear = λ x k x_lt past k_lt. ap
          (λ v. bit_of v (x * (words_for (length sites) * 64) + k)) words_are
          ∙ bit_of-zeros (elements * width) (x * (words_for (length sites) * 64) + k);
      here_bare = λ k k_lt. ap (λ v. bit_of v (0 * (words_for (length sites) * 64) + k)) words_are
          ∙ bit_of-zeros (elements * width) (0 * (words_for (length sites) * 64) + k);
    }

pub blank : (elements count_of_words : ℕ) (given labels sites words : List ℕ)
    → AreNumbers elements labels → words ≡ replicate count_of_words 0 → sites ≡ given
    → IsBlank elements given (record { labels = labels; sites = sites; words = words })
blank elements count_of_words given labels sites words labels_are words_are sites_are =
    let count : length labels ≡ elements = labels_are.length_is in
    let own : (p : ℕ) → p < length labels → slice_index labels p ≡ p =
    λ p lt. labels_are.each p (subst (λ n. p < n) count lt) in
    record {
      elements_are = count;
      sites_are = sites_are;
      alone = λ x y. (
        (λ t. (sym (own x t.left) ∙ (t.same ∙ own y t.right), subst (λ n. x < n) count t.left)),
        (λ w. record {
          left = subst (λ n. x < n) (sym count) w.1;
          right = subst (λ v. v < length labels) w.0 (subst (λ n. x < n) (sym count) w.1);
          same = ap (slice_index labels) w.0;
        }),
      );
      no_pairs = λ x site has. zero_not_one _
          (ap (λ v. bit_of v (x * (words_for (length sites) * 64) + has.column)) words_are
          ∙ bit_of-zeros count_of_words (x * (words_for (length sites) * 64) + has.column))
          has.marked;
    }

-- ---- need, as the code makes it
pub need_found : (x width bit : ℕ) (labels sites words seen_words : List ℕ) (now : Regions)
    → record { labels = labels; sites = sites; words = words } ≡ now → seen_words ≡ words
    → width ≡ words_for (length sites) → x < length now.labels → AreTables labels sites words
    → IsFirstBit seen_words (x * width) width bit → (bit < length sites)
    × IsLeastSite now x (slice_index sites bit)
need_found x width bit labels sites words seen_words now now_is words_are width_is x_now tables
    first =
    let x_lt : x < length labels =
    subst (λ (v : Regions). x < length v.labels) (sym now_is) x_now in
    let f : IsFirstBit words (x * words_for (length sites)) (words_for (length sites)) bit =
    subst (λ w. IsFirstBit words (x * w) w bit) width_is
    (subst (λ v. IsFirstBit v (x * width) width bit) words_are first) in (
      first_in_sites x bit labels sites words tables x_lt f,
      subst (λ (n : Regions). IsLeastSite n x (slice_index sites bit)) now_is
          (least_site x bit labels sites words tables x_lt f),
    )

-- ---- has
pub pair_is_set : (r : Regions) (x site column : ℕ) → AreTables r.labels r.sites r.words
    → x < length r.labels → (column < length r.sites) × (slice_index r.sites column ≡ site)
    → (bit_of r.words (x * words_for (length r.sites) * 64 + column) ≡ 1) ↔ HasPair r x site
pair_is_set r x site column tables x_lt found = (
  λ set. record {
    element = x_lt;
    column = column;
    in_range = found.0;
    is_site = found.1;
    marked =
        ap (bit_of r.words) (sym (row_column x (words_for (length r.sites)) column)) ∙ set;
  },
  λ has. ap (bit_of r.words) (row_column x (words_for (length r.sites)) column)
      ∙ (ap (mark_of r x) (sym (column_of_site r x site column tables.rising found has))
      ∙ has.marked),
)

-- `Here` has no pair
pub here_has_none : (labels sites words : List ℕ) (now : Regions)
    → record { labels = labels; sites = sites; words = words } ≡ now → AreTables labels sites words
    → HasSomePair now 0 → ⊥
here_has_none labels sites words now now_is tables some =
    none (subst (λ (r : Regions). HasSomePair r 0) (sym now_is) some) where
      none : HasSomePair (record { labels = labels; sites = sites; words = words }) 0 → ⊥
      none (site, has) =
          let within = has.in_range in
          zero_not_one _ (tables.here_bare has.column (column_in_row sites has.column within))
          has.marked
