-- The effects of the operations, from what they do to the tables.
use Rattle.std.proofs.Common.{◌≡◌, ◌≢◌, ℕ, ◌+◌, ◌*◌, ◌/◌, ◌%◌, ◌<◌, ◌≤◌, ◌⊎◌, inl, inr, List}
use Rattle.std.proofs.Common.{length, get_or, set, slice_index, refl, sym, subst, ap, ◌∙◌, arith}
use Rattle.std.proofs.Common.{take, drop, ◌++◌}
use Rattle.std.specs.Int.{bit_at}
use Rattle.std.proofs.lemmas.Bool.{cases_eq, cases_order}
use Rattle.std.proofs.lemmas.List.{get_or-set_same, get_or-set_other, get_or_read}
use Rattle.std.proofs.lemmas.Nat.{mul-add-lt}
use Rattle.std.proofs.lemmas.Nat.Bits.{bit_at-zero}
use Rattle.std.proofs.Math.ListN.{length-set}
use Rattle.std.proofs.Math.Seq.{take-append_seam}
use Rattle.std.proofs.Math.Nat.{mul-le-mul_left}
use Rattle.sw_partition.specs.Regions.{Regions, words_for, bit_of, Together, HasPair}
use Rattle.sw_partition.specs.Effects.{stand_in, IsFreshened, IsPut, IsJoined}
use Rattle.sw_partition.specs.Tables.{AreLabels, AreTables, IsRelabeled, IsReleased, IsCleared}
use Rattle.sw_partition.specs.Tables.{IsCopied}
use Rattle.sw_partition.proofs.Labeling.{replaced, replaced-same, replaced-other, replaced-to}
use Rattle.sw_partition.proofs.Labeling.{replaced_cases, relabeled_labels}
use Rattle.sw_partition.proofs.Bits.{bit_of-word, row_bit}

-- a bit of an element's row, by its word
bit_of-column : (words : List ℕ) (y w k : ℕ)
    → bit_of words (y * (w * 64) + k) ≡ bit_at (slice_index words (y * w + k / 64)) (k % 64)
bit_of-column words y w k = ap (bit_of words) (sym (row_bit y w k))
    ∙ bit_of-word words (y * w + k / 64) (k % 64) (omega arith)

row_before : (x y w i : ℕ) → y < x → i < w → y * w + i < x * w
row_before x y w i lt i_lt = omega (arith, mul-add-lt y w i x lt i_lt)

row_after : (x y w i : ℕ) → x < y → x * w + w ≤ y * w + i
row_after x y w i lt = omega (arith, mul-le-mul_left w lt)

-- the rows of the other elements stay
cleared_others : (x w : ℕ) (old new : List ℕ) → IsCleared (x * w) w old new → (y k : ℕ) → k < w * 64
    → y ≢ x → bit_of new (y * (w * 64) + k) ≡ bit_of old (y * (w * 64) + k)
cleared_others x w old new cleared y k lt ne =
    let k_word : k / 64 < w = omega arith in
    bit_of-column new y w k ∙ (ap (λ v. bit_at v (k % 64)) (elim (cases_order y x) [
      | inl e ↦ absurd (ne e)
      | inr apart ↦ elim apart [
        | inl lt ↦ cleared.before (y * w + k / 64) (row_before x y w (k / 64) lt k_word)
        | inr gt ↦ cleared.after (y * w + k / 64) (row_after x y w (k / 64) gt)
      ]
    ]) ∙ sym (bit_of-column old y w k))

cleared_row : (x w : ℕ) (old new : List ℕ) → IsCleared (x * w) w old new → (k : ℕ) → k < w * 64
    → bit_of new (x * (w * 64) + k) ≡ 0
cleared_row x w old new cleared k lt = bit_of-column new x w k
    ∙ (ap (λ v. bit_at v (k % 64)) (cleared.inside (k / 64) (omega arith)) ∙ bit_at-zero (k % 64))

copied_others : (x y w : ℕ) (old new : List ℕ) → IsCopied (y * w) (x * w) w old new → (z k : ℕ)
    → k < w * 64 → z ≢ x → bit_of new (z * (w * 64) + k) ≡ bit_of old (z * (w * 64) + k)
copied_others x y w old new copied z k lt ne =
    let k_word : k / 64 < w = omega arith in
    bit_of-column new z w k ∙ (ap (λ v. bit_at v (k % 64)) (elim (cases_order z x) [
      | inl e ↦ absurd (ne e)
      | inr apart ↦ elim apart [
        | inl lt ↦ copied.before (z * w + k / 64) (row_before x z w (k / 64) lt k_word)
        | inr gt ↦ copied.after (z * w + k / 64) (row_after x z w (k / 64) gt)
      ]
    ]) ∙ sym (bit_of-column old z w k))

copied_row : (x y w : ℕ) (old new : List ℕ) → IsCopied (y * w) (x * w) w old new → (k : ℕ)
    → k < w * 64 → bit_of new (x * (w * 64) + k) ≡ bit_of old (y * (w * 64) + k)
copied_row x y w old new copied k lt = bit_of-column new x w k
    ∙ (ap (λ v. bit_at v (k % 64)) (copied.inside (k / 64) (omega arith))
    ∙ sym (bit_of-column old y w k))

-- a column of the sites is a column of the rows
pub column_in_row : (sites : List ℕ) (k : ℕ) → k < length sites → k < words_for (length sites) * 64
column_in_row sites k lt = omega arith

-- ---- a released element
-- no other element has the released one's label
released_apart : (x : ℕ) (old new : List ℕ) → IsReleased x old new → (p : ℕ) → p < length old
    → p ≢ x → slice_index new p ≢ x
released_apart x old new r p lt ne e = elim (cases_eq (slice_index old p) x) [
  | inl is ↦ (r.is_heir p lt ne is).1
      (sym (r.others p lt ne ∙ replaced-same x r.heir (slice_index old p) is) ∙ e)
  | inr other ↦ other (sym (r.others p lt ne ∙ replaced-other x r.heir (slice_index old p) other)
      ∙ e)
]

-- the other elements are together as before
released_keeps : (x : ℕ) (old new : List ℕ) → IsReleased x old new → (p q : ℕ) → p < length old
    → q < length old → p ≢ x → q ≢ x → slice_index old p ≡ slice_index old q
    → slice_index new p ≡ slice_index new q
released_keeps x old new r p q p_lt q_lt p_ne q_ne e = r.others p p_lt p_ne
    ∙ (ap (replaced x r.heir) e ∙ sym (r.others q q_lt q_ne))

released_back : (x : ℕ) (old new : List ℕ) → AreLabels old → IsReleased x old new → (p q : ℕ)
    → p < length old → q < length old → p ≢ x → q ≢ x → slice_index new p ≡ slice_index new q
    → slice_index old p ≡ slice_index old q
released_back x old new labels r p q p_lt q_lt p_ne q_ne e =
    elim (replaced_cases x r.heir (slice_index old p) (slice_index old q)
    (sym (r.others p p_lt p_ne) ∙ (e ∙ r.others q q_lt q_ne))) [
      | inl same ↦ same
      | inr crossed ↦ elim crossed [
        | inl w ↦ absurd (heir_is_none x old new labels r p q p_lt q_lt p_ne w.0 w.1)
        | inr w ↦ absurd (heir_is_none x old new labels r q p q_lt p_lt q_ne w.1 w.0)
      ]
    ]
  where
    heir_is_none : (x : ℕ) (old new : List ℕ) → AreLabels old → (r : IsReleased x old new)
        → (p q : ℕ) → p < length old → q < length old → p ≢ x → slice_index old p ≡ x
        → slice_index old q ≡ r.heir → ⊥
    heir_is_none x old new labels r p q p_lt q_lt p_ne is_x is_heir =
        let h = r.is_heir p p_lt p_ne is_x in
        let own : slice_index old r.heir ≡ r.heir =
        subst (λ v. slice_index old v ≡ v) is_heir (labels.own q q_lt) in
        h.1 (sym own ∙ h.2)

pub released_labels : (x : ℕ) (old new : List ℕ) → x < length old → AreLabels old
    → IsReleased x old new → AreLabels new
released_labels x old new x_lt labels r = record {
  within = λ p p_new. subst (λ n. slice_index new p < n) (sym r.length_same)
      (released_within p (subst (λ n. p < n) r.length_same p_new));
  own = λ p p_new. released_own p (subst (λ n. p < n) r.length_same p_new);
}
  where
    released_within : (p : ℕ) → p < length old → slice_index new p < length old
    released_within p lt = elim (cases_eq p x) [
      | inl e ↦ subst (λ v. v < length old) (sym (ap (slice_index new) e ∙ r.at)) x_lt
      | inr ne ↦ elim (cases_eq (slice_index old p) x) [
        | inl is ↦ subst (λ v. v < length old)
            (sym (r.others p lt ne ∙ replaced-same x r.heir (slice_index old p) is))
            (r.is_heir p lt ne is).0
        | inr other ↦ subst (λ v. v < length old)
            (sym (r.others p lt ne ∙ replaced-other x r.heir (slice_index old p) other))
            (labels.within p lt)
      ]
    ]

    released_own : (p : ℕ) → p < length old
        → slice_index new (slice_index new p) ≡ slice_index new p
    released_own p lt = elim (cases_eq p x) [
      | inl e ↦ (let at : slice_index new p ≡ x = ap (slice_index new) e ∙ r.at in
          ap (slice_index new) at ∙ (r.at ∙ sym at))
      | inr ne ↦ elim (cases_eq (slice_index old p) x) [
        | inl is ↦ (let at : slice_index new p ≡ r.heir = r.others p lt ne
            ∙ replaced-same x r.heir (slice_index old p) is in
            let h = r.is_heir p lt ne is in
            ap (slice_index new) at ∙ (r.others r.heir h.0 h.1
            ∙ (replaced-same x r.heir (slice_index old r.heir) h.2 ∙ sym at)))
        | inr other ↦ (let at : slice_index new p ≡ slice_index old p = r.others p lt ne
            ∙ replaced-other x r.heir (slice_index old p) other in
            ap (slice_index new) at ∙ (r.others (slice_index old p) (labels.within p lt) other
            ∙ (ap (replaced x r.heir) (labels.own p lt)
            ∙ (replaced-other x r.heir (slice_index old p) other ∙ sym at))))
      ]
    ]

pub zero_not_one : (n : ℕ) → n ≡ 0 → n ≡ 1 → ⊥
zero_not_one n zero one = omega (arith, zero, one)

-- ---- fresh
freshened_apart : (x : ℕ) (labels labels' sites words words' : List ℕ) → AreLabels labels
    → IsReleased x labels labels' → (a b : ℕ)
    → Together (record { labels = labels'; sites = sites; words = words' }) a b
    → (((a ≡ b) × (a < length labels))
    ⊎ ((a ≢ x) × (b ≢ x) × Together (record { labels = labels; sites = sites; words = words }) a b))
freshened_apart x labels labels' sites words words' labelled r a b t =
    let a_lt : a < length labels = subst (λ n. a < n) r.length_same t.left in
    let b_lt : b < length labels = subst (λ n. b < n) r.length_same t.right in
    elim (cases_eq a x) [
      | inl a_is ↦ elim (cases_eq b x) [
        | inl b_is ↦ inl (a_is ∙ sym b_is, a_lt)
        | inr b_ne ↦ absurd (released_apart x labels labels' r b b_lt b_ne (sym t.same
            ∙ (ap (slice_index labels') a_is ∙ r.at)))
      ]
      | inr a_ne ↦ elim (cases_eq b x) [
        | inl b_is ↦ absurd (released_apart x labels labels' r a a_lt a_ne (t.same
            ∙ (ap (slice_index labels') b_is ∙ r.at)))
        | inr b_ne ↦ inr (
          a_ne,
          b_ne,
          record {
            left = a_lt;
            right = b_lt;
            same =
                released_back x labels labels' labelled r a b a_lt b_lt a_ne b_ne t.same;
          },
        )
      ]
    ]

freshened_back : (x : ℕ) (labels labels' sites words words' : List ℕ) → IsReleased x labels labels'
    → (a b : ℕ) → (((a ≡ b) × (a < length labels))
    ⊎ ((a ≢ x) × (b ≢ x) × Together (record { labels = labels; sites = sites; words = words }) a b))
    → Together (record { labels = labels'; sites = sites; words = words' }) a b
freshened_back x labels labels' sites words words' r a b (inl h) = record {
  left = subst (λ n. a < n) (sym r.length_same) h.1;
  right = subst (λ n. b < n) (sym r.length_same) (subst (λ v. v < length labels) h.0 h.1);
  same = ap (slice_index labels') h.0;
}
freshened_back x labels labels' sites words words' r a b (inr h) = record {
  left = subst (λ n. a < n) (sym r.length_same) h.2.left;
  right = subst (λ n. b < n) (sym r.length_same) h.2.right;
  same = released_keeps x labels labels' r a b h.2.left h.2.right h.0 h.1 h.2.same;
}

-- a pair where another element has the same bits
pair_moves : (a b : ℕ) (labels labels' sites words words' : List ℕ) (site : ℕ) → b < length labels'
    → ((k : ℕ) → k < words_for (length sites) * 64
    → bit_of words' (b * (words_for (length sites) * 64) + k) ≡ bit_of words
    (a * (words_for (length sites) * 64) + k))
    → HasPair (record { labels = labels; sites = sites; words = words }) a site
    → HasPair (record { labels = labels'; sites = sites; words = words' }) b site
pair_moves a b labels labels' sites words words' site b_lt same has = record {
  element = b_lt;
  column = has.column;
  in_range = has.in_range;
  is_site = has.is_site;
  marked = same has.column (column_in_row sites has.column has.in_range) ∙ has.marked;
}

-- a cleared row has no pair
no_pair : (x : ℕ) (labels sites words : List ℕ) (site : ℕ)
    → ((k : ℕ) → k < words_for (length sites) * 64
    → bit_of words (x * (words_for (length sites) * 64) + k) ≡ 0)
    → HasPair (record { labels = labels; sites = sites; words = words }) x site → ⊥
no_pair x labels sites words site none has =
    zero_not_one _ (none has.column (column_in_row sites has.column has.in_range)) has.marked

pub freshened : (x : ℕ) (labels labels' sites words words' : List ℕ) → x < length labels
    → AreTables labels sites words → IsReleased x labels labels'
    → IsCleared (x * words_for (length sites)) (words_for (length sites)) words words'
    → IsFreshened x (record { labels = labels; sites = sites; words = words })
    (record { labels = labels'; sites = sites; words = words' })
freshened x labels labels' sites words words' x_lt tables r cleared = record {
  elements_same = r.length_same;
  sites_same = refl;
  together = λ a b. (
    freshened_apart x labels labels' sites words words' tables.labelled r a b,
    freshened_back x labels labels' sites words words' r a b,
  );
  pairs = λ a site. (
    (λ has. elim (cases_eq a x) [
      | inl e ↦ absurd (no_pair x labels' sites words' site
          (cleared_row x (words_for (length sites)) words words' cleared)
          (subst (λ v. HasPair (record { labels = labels'; sites = sites; words = words' }) v site)
          e has))
      | inr ne ↦ (
        ne,
        pair_moves a a labels' labels sites words' words site
            (subst (λ n. a < n) r.length_same has.element)
            (λ k k_lt. sym (cleared_others x
            (words_for (length sites)) words words' cleared a k k_lt ne)) has,
      )
    ]),
    (λ h. pair_moves a a labels labels' sites words words' site
        (subst (λ n. a < n) (sym r.length_same) h.1.element)
        (λ k k_lt. cleared_others x (words_for (length sites)) words words' cleared a k k_lt h.0)
        h.1),
  );
}

pub freshened_tables : (x : ℕ) (labels labels' sites words words' : List ℕ) → x < length labels
    → x ≢ 0 → AreTables labels sites words → IsReleased x labels labels'
    → IsCleared (x * words_for (length sites)) (words_for (length sites)) words words'
    → AreTables labels' sites words'
freshened_tables x labels labels' sites words words' x_lt not_here tables r cleared = record {
  here = omega (arith, r.length_same, tables.here);
  few = omega (arith, r.length_same, tables.few);
  labelled = released_labels x labels labels' x_lt tables.labelled r;
  rising = tables.rising;
  full = cleared.length_same
      ∙ (tables.full ∙ ap (λ n. n * words_for (length sites)) (sym r.length_same));
  clear = λ y k y_lt past k_lt. elim (cases_eq y x) [
    | inl e ↦ ap (λ v. bit_of words' (v * (words_for (length sites) * 64) + k)) e
        ∙ cleared_row x (words_for (length sites)) words words' cleared k k_lt
    | inr ne ↦ cleared_others x (words_for (length sites)) words words' cleared y k k_lt ne
        ∙ tables.clear y k (subst (λ n. y < n) r.length_same y_lt) past k_lt
  ];
  here_bare = λ k k_lt. cleared_others x (words_for (length sites)) words words' cleared 0 k k_lt
      (λ e. not_here (sym e)) ∙ tables.here_bare k k_lt;
}

-- ---- put
stand_in-other : (x y a : ℕ) → a ≢ x → stand_in x y a ≡ a
stand_in-other x y a ne = replaced-other x y a ne

stand_in-ne : (x y a : ℕ) → x ≢ y → stand_in x y a ≢ x
stand_in-ne x y a apart e = elim (cases_eq a x) [
  | inl is ↦ apart (sym (sym (replaced-same x y a is) ∙ e))
  | inr ne ↦ ne (sym (replaced-other x y a ne) ∙ e)
]

stand_in-lt : (x y a n : ℕ) → y < n → a < n → stand_in x y a < n
stand_in-lt x y a n y_lt a_lt = elim (cases_eq a x) [
  | inl is ↦ subst (λ v. v < n) (sym (replaced-same x y a is)) y_lt
  | inr ne ↦ subst (λ v. v < n) (sym (replaced-other x y a ne)) a_lt
]

stand_in-back : (x y a n : ℕ) → x < n → stand_in x y a < n → a < n
stand_in-back x y a n x_lt lt = elim (cases_eq a x) [
  | inl is ↦ subst (λ v. v < n) (sym is) x_lt
  | inr ne ↦ subst (λ v. v < n) (replaced-other x y a ne) lt
]

-- x takes y's label after its release
put_label : (x y : ℕ) (labels : List ℕ) → x < length labels → (a : ℕ)
    → slice_index (set labels x (slice_index labels y)) a ≡ slice_index labels (stand_in x y a)
put_label x y labels x_lt a = elim (cases_eq a x) [
  | inl is ↦ ap (slice_index (set labels x (slice_index labels y))) is
      ∙ (get_or-set_same labels x (slice_index labels y) 0 x_lt
      ∙ ap (slice_index labels) (sym (replaced-same x y a is)))
  | inr ne ↦ get_or-set_other labels x a (slice_index labels y) 0 ne
      ∙ ap (slice_index labels) (sym (replaced-other x y a ne))
]

put_labels : (x y : ℕ) (old labels : List ℕ) → x < length old → y < length old → x ≢ y
    → AreLabels old → IsReleased x old labels → AreLabels (set labels x (slice_index labels y))
put_labels x y old labels x_lt y_lt apart labelled r =
    let released : AreLabels labels = released_labels x old labels x_lt labelled r in
    let x_new : x < length labels = subst (λ n. x < n) (sym r.length_same) x_lt in
    let y_new : y < length labels = subst (λ n. y < n) (sym r.length_same) y_lt in
    let same : length (set labels x (slice_index labels y)) ≡ length labels =
    length-set labels x (slice_index labels y) in
    record {
      within = λ p p_lt.
          let in_old : p < length labels = subst (λ n. p < n) same p_lt in
          subst (λ n. slice_index (set labels x (slice_index labels y)) p < n) (sym same)
          (subst (λ v. v < length labels) (sym (put_label x y labels x_new p))
          (released.within (stand_in x y p) (stand_in-lt x y p (length labels) y_new in_old)));
      own = λ p p_lt.
          let in_old : p < length labels = subst (λ n. p < n) same p_lt in
          let z : ℕ = stand_in x y p in
          let z_lt : z < length labels = stand_in-lt x y p (length labels) y_new in_old in
          let at : slice_index (set labels x (slice_index labels y)) p ≡ slice_index labels z =
          put_label x y labels x_new p in
          let off : slice_index labels z ≢ x =
          released_apart x old labels r z (subst (λ n. z < n) r.length_same z_lt)
          (stand_in-ne x y p apart) in
          ap (slice_index (set labels x (slice_index labels y))) at
          ∙ (put_label x y labels x_new (slice_index labels z)
          ∙ (ap (slice_index labels) (stand_in-other x y (slice_index labels z) off)
          ∙ (released.own z z_lt ∙ sym at)));
    }

put_forth : (x y : ℕ) (old labels sites words words' : List ℕ) → x < length old → y < length old
    → x ≢ y → AreLabels old → IsReleased x old labels → (a b : ℕ)
    → Together (record {
      labels = set labels x (slice_index labels y);
      sites = sites;
      words =
          words';
    }) a b → Together (record { labels = old; sites = sites; words = words })
    (stand_in x y a) (stand_in x y b)
put_forth x y old labels sites words words' x_lt y_lt apart labelled r a b t =
    let x_new : x < length labels = subst (λ n. x < n) (sym r.length_same) x_lt in
    let same : length (set labels x (slice_index labels y)) ≡ length old =
    length-set labels x (slice_index labels y) ∙ r.length_same in
    let a_lt : stand_in x y a < length old =
    stand_in-lt x y a (length old) y_lt (subst (λ n. a < n) same t.left) in
    let b_lt : stand_in x y b < length old =
    stand_in-lt x y b (length old) y_lt (subst (λ n. b < n) same t.right) in
    record {
      left = a_lt;
      right = b_lt;
      same = released_back x old labels labelled r (stand_in x y a) (stand_in x y b) a_lt b_lt
          (stand_in-ne x y a apart) (stand_in-ne x y b apart) (sym (put_label x y labels x_new a)
          ∙ (t.same ∙ put_label x y labels x_new b));
    }

put_back : (x y : ℕ) (old labels sites words words' : List ℕ) → x < length old → y < length old
    → x ≢ y → IsReleased x old labels → (a b : ℕ)
    → Together (record { labels = old; sites = sites; words = words }) (stand_in x y a)
    (stand_in x y b) → Together
    (record { labels = set labels x (slice_index labels y); sites = sites; words = words' }) a b
put_back x y old labels sites words words' x_lt y_lt apart r a b t =
    let x_new : x < length labels = subst (λ n. x < n) (sym r.length_same) x_lt in
    let same : length (set labels x (slice_index labels y)) ≡ length old =
    length-set labels x (slice_index labels y) ∙ r.length_same in
    record {
      left = subst (λ n. a < n) (sym same) (stand_in-back x y a (length old) x_lt t.left);
      right = subst (λ n. b < n) (sym same) (stand_in-back x y b (length old) x_lt t.right);
      same = put_label x y labels x_new a
          ∙ (released_keeps x old labels r (stand_in x y a) (stand_in x y b) t.left t.right
          (stand_in-ne x y a apart) (stand_in-ne x y b apart) t.same
          ∙ sym (put_label x y labels x_new b));
    }

-- after a copy of y's row each row is that of the element that stands in
copied_bits : (x y w : ℕ) (old new : List ℕ) → IsCopied (y * w) (x * w) w old new → (a k : ℕ)
    → k < w * 64 → bit_of new (a * (w * 64) + k) ≡ bit_of old (stand_in x y a * (w * 64) + k)
copied_bits x y w old new copied a k k_lt = elim (cases_eq a x) [
  | inl is ↦ ap (λ v. bit_of new (v * (w * 64) + k)) is
      ∙ (copied_row x y w old new copied k k_lt
      ∙ ap (λ v. bit_of old (v * (w * 64) + k)) (sym (replaced-same x y a is)))
  | inr ne ↦ copied_others x y w old new copied a k k_lt ne
      ∙ ap (λ v. bit_of old (v * (w * 64) + k)) (sym (replaced-other x y a ne))
]

pub was_put : (x y : ℕ) (old labels sites words words' : List ℕ) → x < length old → y < length old
    → x ≢ y → AreTables old sites words → IsReleased x old labels
    → IsCopied (y * words_for (length sites)) (x * words_for (length sites))
    (words_for (length sites)) words words'
    → IsPut x y (record { labels = old; sites = sites; words = words })
    (record { labels = set labels x (slice_index labels y); sites = sites; words = words' })
was_put x y old labels sites words words' x_lt y_lt apart tables r copied =
    let same : length (set labels x (slice_index labels y)) ≡ length old =
    length-set labels x (slice_index labels y) ∙ r.length_same in
    record {
      elements_same = same;
      sites_same = refl;
      together = λ a b. (
        put_forth x y old labels sites words words' x_lt y_lt apart tables.labelled
            r a b,
        put_back x y old labels sites words words' x_lt y_lt apart r a b,
      );
      pairs = λ a site. (
        (λ has. pair_moves a (stand_in x y a)
            (set labels x (slice_index labels y)) old sites words' words site
            (stand_in-lt x y a (length old) y_lt (subst (λ n. a < n) same has.element))
            (λ k k_lt. sym (copied_bits x y
            (words_for (length sites)) words words' copied a k k_lt)) has),
        (λ has. pair_moves (stand_in x y a) a old
            (set labels x (slice_index labels y)) sites words words' site
            (subst (λ n. a < n) (sym same) (stand_in-back x y a (length old) x_lt has.element))
            (copied_bits x y (words_for (length sites)) words words' copied a) has),
      );
    }

pub put_tables : (x y : ℕ) (old labels sites words words' : List ℕ) → x < length old → x ≢ 0
    → y < length old → x ≢ y → AreTables old sites words → IsReleased x old labels
    → IsCopied (y * words_for (length sites)) (x * words_for (length sites))
    (words_for (length sites)) words words'
    → AreTables (set labels x (slice_index labels y)) sites words'
put_tables x y old labels sites words words' x_lt not_here y_lt apart tables r copied =
    let same : length (set labels x (slice_index labels y)) ≡ length old =
    length-set labels x (slice_index labels y) ∙ r.length_same in
    record {
      here = omega (arith, same, tables.here);
      few = omega (arith, same, tables.few);
      labelled = put_labels x y old labels x_lt y_lt apart tables.labelled r;
      rising = tables.rising;
      full = copied.length_same ∙ (tables.full ∙ ap (λ n. n * words_for (length sites)) (sym same));
      clear = λ a k a_lt past k_lt. copied_bits x y
          (words_for (length sites)) words words' copied a k k_lt
          ∙ tables.clear (stand_in x y a) k
          (stand_in-lt x y a (length old) y_lt (subst (λ n. a < n) same a_lt)) past k_lt;
      here_bare = λ k k_lt.
          copied_bits x y (words_for (length sites)) words words' copied 0 k k_lt
          ∙ ap (λ v. bit_of words (v * (words_for (length sites) * 64) + k))
          (stand_in-other x y 0 (λ e. not_here (sym e)))
          ∙ tables.here_bare k k_lt;
    }

-- ---- join
pub was_joined : (x y : ℕ) (labels labels' sites words : List ℕ) → x < length labels
    → y < length labels → IsRelabeled (slice_index labels y) (slice_index labels x) labels labels'
    → IsJoined x y (record { labels = labels; sites = sites; words = words })
    (record { labels = labels'; sites = sites; words = words })
was_joined x y labels labels' sites words x_lt y_lt r = record {
  elements_same = r.length_same;
  sites_same = refl;
  together = λ a b. (joined_forth a b, joined_back a b);
  pairs = λ a site. (
    (λ has. pair_moves a a labels' labels sites words words site
        (subst (λ n. a < n) r.length_same has.element) (λ k k_lt. refl) has),
    (λ has. pair_moves a a labels labels' sites words words site
        (subst (λ n. a < n) (sym r.length_same) has.element) (λ k k_lt. refl) has),
  );
}
  where
    joined : (a b : ℕ) → a < length labels → b < length labels
        → slice_index labels' a ≡ slice_index labels' b
        → Together (record { labels = labels'; sites = sites; words = words }) a b
    joined a b a_lt b_lt same = record {
      left = subst (λ n. a < n) (sym r.length_same) a_lt;
      right = subst (λ n. b < n) (sym r.length_same) b_lt;
      same = same;
    }

    to_x : (v : ℕ) → v ≡ slice_index labels x
        → replaced (slice_index labels y) (slice_index labels x) v ≡ slice_index labels x
    to_x v e = ap (replaced (slice_index labels y) (slice_index labels x)) e
        ∙ replaced-to (slice_index labels y) (slice_index labels x)

    from_y : (v : ℕ) → v ≡ slice_index labels y
        → replaced (slice_index labels y) (slice_index labels x) v ≡ slice_index labels x
    from_y v e = replaced-same (slice_index labels y) (slice_index labels x) v e

    joined_forth : (a b : ℕ) → Together
        (record { labels = labels'; sites = sites; words = words }) a b
        → (Together (record { labels = labels; sites = sites; words = words }) a b
        ⊎ ((Together (record { labels = labels; sites = sites; words = words }) a x
        × Together (record { labels = labels; sites = sites; words = words }) y b)
        ⊎ (Together (record { labels = labels; sites = sites; words = words }) a y
        × Together (record { labels = labels; sites = sites; words = words }) x b)))
    joined_forth a b t =
        let a_lt : a < length labels = subst (λ n. a < n) r.length_same t.left in
        let b_lt : b < length labels = subst (λ n. b < n) r.length_same t.right in
        elim (replaced_cases (slice_index labels y) (slice_index labels x) (slice_index labels a)
        (slice_index labels b) (sym (r.each a a_lt) ∙ (t.same ∙ r.each b b_lt))) [
          | inl same ↦ inl (record { left = a_lt; right = b_lt; same = same })
          | inr crossed ↦ elim crossed [
            | inl w ↦ inr (inr (
              record { left = a_lt; right = y_lt; same = w.0 },
              record { left = x_lt; right = b_lt; same = sym w.1 },
            ))
            | inr w ↦ inr (inl (
              record { left = a_lt; right = x_lt; same = w.0 },
              record { left = y_lt; right = b_lt; same = sym w.1 },
            ))
          ]
        ]

    joined_back : (a b : ℕ) →
        (Together (record { labels = labels; sites = sites; words = words }) a b
        ⊎ ((Together (record { labels = labels; sites = sites; words = words }) a x
        × Together (record { labels = labels; sites = sites; words = words }) y b)
        ⊎ (Together (record { labels = labels; sites = sites; words = words }) a y
        × Together (record { labels = labels; sites = sites; words = words }) x b)))
        → Together (record { labels = labels'; sites = sites; words = words }) a b
    joined_back a b (inl t) =
        joined a b t.left t.right (r.each a t.left
        ∙ (ap (replaced (slice_index labels y) (slice_index labels x)) t.same
        ∙ sym (r.each b t.right)))
    joined_back a b (inr (inl w)) =
        joined a b w.0.left w.1.right (r.each a w.0.left
        ∙ (to_x (slice_index labels a) w.0.same
        ∙ sym (r.each b w.1.right ∙ from_y (slice_index labels b) (sym w.1.same))))
    joined_back a b (inr (inr w)) =
        joined a b w.0.left w.1.right (r.each a w.0.left
        ∙ (from_y (slice_index labels a) w.0.same
        ∙ sym (r.each b w.1.right ∙ to_x (slice_index labels b) (sym w.1.same))))

joined_tables : (x y : ℕ) (labels labels' sites words : List ℕ) → x < length labels
    → y < length labels → AreTables labels sites words
    → IsRelabeled (slice_index labels y) (slice_index labels x) labels labels'
    → AreTables labels' sites words
joined_tables x y labels labels' sites words x_lt y_lt tables r = record {
  here = omega (arith, r.length_same, tables.here);
  few = omega (arith, r.length_same, tables.few);
  labelled = relabeled_labels (slice_index labels y)
      (slice_index labels x) labels labels' tables.labelled r (tables.labelled.within x x_lt)
      (tables.labelled.own x x_lt);
  rising = tables.rising;
  full = tables.full ∙ ap (λ n. n * words_for (length sites)) (sym r.length_same);
  clear = λ a k a_lt past k_lt. tables.clear a k (subst (λ n. a < n) r.length_same a_lt) past k_lt;
  here_bare = tables.here_bare;
}

-- ---- a vector whose elements were written as a slice
pub refilled : (n : ℕ) (new old : List ℕ) → n ≡ length old → length new ≡ length old
    → take n (new ++ drop (length new) old) ≡ new
refilled n new old n_is same =
    let e : n ≡ length new = n_is ∙ sym same in
    subst (λ m. take m (new ++ drop (length new) old) ≡ new) (sym e)
    (take-append_seam new (drop (length new) old))

-- the rows of two elements lie apart
pub rows_apart : (x y w : ℕ) → x ≢ y → (y * w + w ≤ x * w) ⊎ (x * w + w ≤ y * w)
rows_apart x y w ne = elim (cases_order x y) [
  | inl e ↦ absurd (ne e)
  | inr apart ↦ elim apart [
    | inl lt ↦ inr (omega (arith, mul-le-mul_left w lt))
    | inr gt ↦ inl (omega (arith, mul-le-mul_left w gt))
  ]
]

-- what a vector holds after its elements were written as a slice
abbrev pub written : ℕ → List ℕ → List ℕ → List ℕ
written n new old = take n (new ++ drop (length new) old)

-- fresh, as the code makes it
pub fresh_done : (x width labels_len words_len : ℕ)
    (labels seen_labels labels' sites words seen_words words' : List ℕ) (now : Regions)
    → record { labels = labels; sites = sites; words = words } ≡ now → seen_labels ≡ labels
    → seen_words ≡ words → width ≡ words_for (length sites) → labels_len ≡ length labels
    → words_len ≡ length words → x < length now.labels → x ≢ 0 → AreTables labels sites words
    → IsReleased x seen_labels labels' → IsCleared (x * width) width seen_words words'
    → AreTables (written labels_len labels' labels) sites (written words_len words' words)
    × IsFreshened x now (record {
      labels = written labels_len labels' labels;
      sites = sites;
      words =
          written words_len words' words;
    })
fresh_done x width labels_len words_len labels seen_labels labels' sites words seen_words words' now
    now_is labels_are words_are width_is labels_len_is words_len_is x_now not_here tables released
    cleared =
    let x_lt : x < length labels =
    subst (λ (v : Regions). x < length v.labels) (sym now_is) x_now in
    let r : IsReleased x labels labels' = subst (λ v. IsReleased x v labels') labels_are released in
    let c : IsCleared (x * words_for (length sites)) (words_for (length sites)) words words' =
    subst (λ w. IsCleared (x * w) w words words') width_is
    (subst (λ v. IsCleared (x * width) width v words') words_are cleared) in
    let l : written labels_len labels' labels ≡ labels' =
    refilled labels_len labels' labels labels_len_is r.length_same in
    let w : written words_len words' words ≡ words' =
    refilled words_len words' words words_len_is c.length_same in
    subst (λ (n : Regions). AreTables (written labels_len labels' labels) sites
    (written words_len words' words)
    × IsFreshened x n (record {
      labels = written labels_len labels' labels;
      sites =
          sites;
      words = written words_len words' words;
    })) now_is
    (subst (λ v. AreTables v sites (written words_len words' words)
    × IsFreshened x (record { labels = labels; sites = sites; words = words })
    (record { labels = v; sites = sites; words = written words_len words' words })) (sym l)
    (subst (λ v. AreTables labels' sites v
    × IsFreshened x (record { labels = labels; sites = sites; words = words })
    (record { labels = labels'; sites = sites; words = v })) (sym w) (
      freshened_tables x labels labels' sites words words' x_lt not_here tables r c,
      freshened x labels labels' sites words words' x_lt tables r c,
    )))

-- put, as the code makes it
pub put_done : (x y width labels_len words_len label : ℕ)
    (labels seen_labels labels' sites words seen_words words' : List ℕ) (now : Regions)
    → record { labels = labels; sites = sites; words = words } ≡ now → seen_labels ≡ labels
    → seen_words ≡ words → width ≡ words_for (length sites) → labels_len ≡ length labels
    → words_len ≡ length words → x < length now.labels → x ≢ 0 → y < length now.labels → x ≢ y
    → AreTables labels sites words → IsReleased x seen_labels labels'
    → label ≡ get_or (written labels_len labels' labels) y label
    → IsCopied (y * width) (x * width) width seen_words words'
    → AreTables (set (written labels_len labels' labels) x label) sites
    (written words_len words' words)
    × IsPut x y now (record {
      labels = set (written labels_len labels' labels) x label;
      sites =
          sites;
      words = written words_len words' words;
    })
put_done x y width labels_len words_len label labels seen_labels labels' sites words seen_words
    words' now now_is labels_are words_are width_is labels_len_is words_len_is x_now not_here y_now
    apart tables released label_is copied =
    let x_lt : x < length labels =
    subst (λ (v : Regions). x < length v.labels) (sym now_is) x_now in
    let y_lt : y < length labels =
    subst (λ (v : Regions). y < length v.labels) (sym now_is) y_now in
    let r : IsReleased x labels labels' = subst (λ v. IsReleased x v labels') labels_are released in
    let c : IsCopied (y * words_for (length sites)) (x * words_for (length sites))
    (words_for (length sites)) words words' =
    subst (λ w. IsCopied (y * w) (x * w) w words words') width_is
    (subst (λ v. IsCopied (y * width) (x * width) width v words') words_are copied) in
    let l : written labels_len labels' labels ≡ labels' =
    refilled labels_len labels' labels labels_len_is r.length_same in
    let w : written words_len words' words ≡ words' =
    refilled words_len words' words words_len_is c.length_same in
    let y_new : y < length labels' = subst (λ n. y < n) (sym r.length_same) y_lt in
    let label_of : label ≡ slice_index labels' y =
    get_or_read labels' y label y_new (subst (λ v. label ≡ get_or v y label) l label_is) 0 in
    subst (λ (n : Regions). AreTables (set (written labels_len labels' labels) x label) sites
    (written words_len words' words)
    × IsPut x y n (record {
      labels = set (written labels_len labels' labels) x label;
      sites =
          sites;
      words = written words_len words' words;
    })) now_is
    (subst (λ v. AreTables (set v x label) sites (written words_len words' words)
    × IsPut x y (record { labels = labels; sites = sites; words = words })
    (record { labels = set v x label; sites = sites; words = written words_len words' words }))
    (sym l)
    (subst (λ v. AreTables (set labels' x label) sites v
    × IsPut x y (record { labels = labels; sites = sites; words = words })
    (record { labels = set labels' x label; sites = sites; words = v })) (sym w)
    (subst (λ n. AreTables (set labels' x n) sites words'
    × IsPut x y (record { labels = labels; sites = sites; words = words })
    (record { labels = set labels' x n; sites = sites; words = words' })) (sym label_of) (
      put_tables x y labels labels' sites words words' x_lt not_here y_lt apart tables r c,
      was_put x y labels labels' sites words words' x_lt y_lt apart tables r c,
    ))))

-- join, as the code makes it
pub join_done : (x y from to labels_len : ℕ) (labels seen_labels labels' sites words : List ℕ)
    (now : Regions) → record { labels = labels; sites = sites; words = words } ≡ now
    → seen_labels ≡ labels → labels_len ≡ length labels → x < length now.labels
    → y < length now.labels → from ≡ get_or labels y from → to ≡ get_or labels x to
    → AreTables labels sites words → IsRelabeled from to seen_labels labels'
    → AreTables (written labels_len labels' labels) sites words
    × IsJoined x y now (record {
      labels = written labels_len labels' labels;
      sites = sites;
      words =
          words;
    })
join_done x y from to labels_len labels seen_labels labels' sites words now now_is labels_are
    labels_len_is x_now y_now from_is to_is tables relabeled =
    let x_lt : x < length labels =
    subst (λ (v : Regions). x < length v.labels) (sym now_is) x_now in
    let y_lt : y < length labels =
    subst (λ (v : Regions). y < length v.labels) (sym now_is) y_now in
    let from_of : from ≡ slice_index labels y = get_or_read labels y from y_lt from_is 0 in
    let to_of : to ≡ slice_index labels x = get_or_read labels x to x_lt to_is 0 in
    let r : IsRelabeled (slice_index labels y) (slice_index labels x) labels labels' =
    subst (λ n. IsRelabeled n (slice_index labels x) labels labels') from_of
    (subst (λ n. IsRelabeled from n labels labels') to_of
    (subst (λ v. IsRelabeled from to v labels') labels_are relabeled)) in
    let l : written labels_len labels' labels ≡ labels' =
    refilled labels_len labels' labels labels_len_is r.length_same in
    subst (λ (n : Regions). AreTables (written labels_len labels' labels) sites words
    × IsJoined x y n (record {
      labels = written labels_len labels' labels;
      sites =
          sites;
      words = words;
    })) now_is
    (subst (λ v. AreTables v sites words
    × IsJoined x y (record { labels = labels; sites = sites; words = words })
    (record { labels = v; sites = sites; words = words })) (sym l) (
      joined_tables x y labels labels' sites words x_lt y_lt tables r,
      was_joined x y labels labels' sites words x_lt y_lt r,
    ))
