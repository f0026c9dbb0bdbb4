-- The least upper bound of two states, from what is done to the tables.
use Rattle.std.proofs.Common.{◌≡◌, ℕ, ◌+◌, ◌*◌, ◌<◌, ◌≤◌, ◌⊎◌, inl, inr, ◌↔◌}
use Rattle.std.proofs.Common.{Bool, ◌||◌, IsTrue, max, List, length, refl, sym, subst}
use Rattle.std.proofs.Common.{ap, ◌∙◌, arith}
use Rattle.std.specs.List.Sorted.{IsStrictlyIncreasing}
use Rattle.std.proofs.lemmas.Bool.{cases_eq, or_cases, or_parts}
use Rattle.std.proofs.lemmas.Bool.{true_from_ne_false}
use Rattle.std.proofs.lemmas.Nat.Bits.{bit_at-lt}
use Rattle.sw_partition.specs.Regions.{Regions, size_of, words_for, bit_of}
use Rattle.sw_partition.specs.Regions.{IsWithin, IsSameState}
use Rattle.sw_partition.specs.Tables.{AreTables, IsCoarser, IsUnited, IsFilled}
use Rattle.sw_partition.specs.Laws.{same_refl}
use Rattle.sw_partition.proofs.Effecting.{written, refilled}
use Rattle.sw_partition.proofs.Including.{coarser_within, within_coarser, pair_stays, bits_within}

max_one : (a b : ℕ) → a < 2 → b < 2 → max a b ≡ 1 → (a ≡ 1) ⊎ (b ≡ 1)
max_one a b a_lt b_lt e = elim (cases_eq a 1) [
  | inl is ↦ inl is
  | inr ne ↦ inr (omega (arith, e, ne))
]

-- the two sizes of states of one size
labels_of_size : (a b : Regions) → size_of a ≡ size_of b → length a.labels ≡ length b.labels
labels_of_size a b e = cc

sites_of_size : (a b : Regions) → size_of a ≡ size_of b → a.sites ≡ b.sites
sites_of_size a b e = cc

-- the tables of two states were united into those of a third
pub record IsUnion (old other new : Regions) (rose filled : Bool) : Type 0 where
  pub sites : new.sites ≡ old.sites
  pub united : IsUnited old.labels other.labels new.labels rose
  pub words : IsFilled old.words other.words new.words filled

pub union_least : (old other new : Regions) (rose filled : Bool) → size_of old ≡ size_of other
    → IsUnion old other new rose filled → (z : Regions) → size_of z ≡ size_of old → IsWithin old z
    → IsWithin other z → IsWithin new z
union_least old other new rose filled size u z z_size above_old above_other =
    let labels : length z.labels ≡ length new.labels = labels_of_size z old z_size
    ∙ sym u.united.length_same in
    let coarser : IsCoarser new.labels z.labels =
    u.united.least z.labels (within_coarser old z above_old.together)
    (within_coarser other z above_other.together) in
    record {
      together = coarser_within new z labels coarser;
      pairs = λ x site has. elim
          (max_one (bit_of old.words (x * (words_for (length new.sites) * 64) + has.column))
          (bit_of other.words (x * (words_for (length new.sites) * 64) + has.column))
          (bit_at-lt _ _) (bit_at-lt _ _)
          (sym (u.words.each (x * (words_for (length new.sites) * 64) + has.column))
          ∙ has.marked)) [
            | inl was ↦ above_old.pairs x site
                (pair_stays x site new old (sym u.united.length_same) (sym u.sites) has was)
            | inr added ↦ above_other.pairs x site
                (pair_stays x site new other (sym (labels_of_size old other size)
                ∙ sym u.united.length_same) (sym (sites_of_size old other size)
                ∙ sym u.sites) has added)
          ];
    }

-- ---- whether the union is another state
-- two states that are one have the same bits
bits_everywhere : (a b : Regions) → AreTables a.labels a.sites a.words
    → AreTables b.labels b.sites b.words → length a.labels ≡ length b.labels → a.sites ≡ b.sites
    → IsSameState a b → (n : ℕ) → bit_of b.words n ≡ bit_of a.words n
bits_everywhere a b a_tables b_tables labels sites same n =
    let up = bits_within a b a_tables b_tables labels sites (λ x site. (same.pairs x site).0) in
    let down = bits_within b a b_tables a_tables (sym labels) (sym sites)
    (λ x site. (same.pairs x site).1) in
    omega (arith, up.each n, down.each n)

same_regions : (a b : Regions) → a.labels ≡ b.labels → a.sites ≡ b.sites → a.words ≡ b.words → a ≡ b
same_regions a b l s w =
    let f : List ℕ → List ℕ → List ℕ → Regions =
    λ x y z. record { labels = x; sites = y; words = z } in
    ap (λ x. f x a.sites a.words) l
    ∙ (ap (λ y. f b.labels y a.words) s ∙ ap (λ z. f b.labels b.sites z) w)

pub union_tables : (old other new : Regions) (rose filled : Bool) → size_of old ≡ size_of other
    → AreTables old.labels old.sites old.words → AreTables other.labels other.sites other.words
    → IsUnion old other new rose filled → AreTables new.labels new.sites new.words
union_tables old other new rose filled size old_tables other_tables u =
    let labels : length new.labels ≡ length old.labels = u.united.length_same in
    let sites : old.sites ≡ new.sites = sym u.sites in
    record {
      here = omega (arith, labels, old_tables.here);
      few = omega (arith, labels, old_tables.few);
      labelled = u.united.labels;
      rising = subst IsStrictlyIncreasing sites old_tables.rising;
      full = u.words.length_same
          ∙ (old_tables.full ∙ (ap (λ n. n * words_for (length old.sites)) (sym labels)
          ∙ ap (λ (s : List ℕ). length new.labels * words_for (length s)) sites));
      clear = λ x k x_lt past k_lt.
          let x_old : x < length old.labels = subst (λ n. x < n) labels x_lt in
          let x_other : x < length other.labels =
          subst (λ n. x < n) (labels_of_size old other size) x_old in
          let other_sites : new.sites ≡ other.sites = u.sites ∙ sites_of_size old other size in
          let at_old : bit_of old.words (x * (words_for (length new.sites) * 64) + k) ≡ 0 =
          cleared_by old new.sites u.sites old_tables x k x_old past k_lt in
          let at_other : bit_of other.words (x * (words_for (length new.sites) * 64) + k) ≡ 0 =
          cleared_by other new.sites other_sites other_tables x k x_other past k_lt in
          u.words.each (x * (words_for (length new.sites) * 64) + k)
          ∙ omega (arith, at_old, at_other);
      here_bare = λ k k_lt.
          let other_sites : new.sites ≡ other.sites = u.sites ∙ sites_of_size old other size in
          let at_old : bit_of old.words (0 * (words_for (length new.sites) * 64) + k) ≡ 0 =
          bare_by old new.sites u.sites old_tables k k_lt in
          let at_other : bit_of other.words (0 * (words_for (length new.sites) * 64) + k) ≡ 0 =
          bare_by other new.sites other_sites other_tables k k_lt in
          u.words.each (0 * (words_for (length new.sites) * 64) + k)
          ∙ omega (arith, at_old, at_other);
    }
  where
    cleared_by : (r : Regions) (sites : List ℕ) → sites ≡ r.sites
        → AreTables r.labels r.sites r.words → (x k : ℕ) → x < length r.labels → length sites ≤ k
        → k < words_for (length sites) * 64
        → bit_of r.words (x * (words_for (length sites) * 64) + k) ≡ 0
    cleared_by r sites same tables x k x_lt past k_lt =
        ap (λ (s : List ℕ). bit_of r.words (x * (words_for (length s) * 64) + k)) same
        ∙ tables.clear x k x_lt (subst (λ (s : List ℕ). length s ≤ k) same past)
        (subst (λ (s : List ℕ). k < words_for (length s) * 64) same k_lt)

    bare_by : (r : Regions) (sites : List ℕ) → sites ≡ r.sites → AreTables r.labels r.sites r.words
        → (k : ℕ) → k < words_for (length sites) * 64
        → bit_of r.words (0 * (words_for (length sites) * 64) + k) ≡ 0
    bare_by r sites same tables k k_lt =
        ap (λ (s : List ℕ). bit_of r.words (0 * (words_for (length s) * 64) + k)) same
        ∙ tables.here_bare k (subst (λ (s : List ℕ). k < words_for (length s) * 64) same k_lt)

pub union_changed : (old other new : Regions) (rose filled answer : Bool)
    → size_of old ≡ size_of other → AreTables old.labels old.sites old.words
    → AreTables other.labels other.sites other.words → IsUnion old other new rose filled
    → answer ≡ (rose || filled) → IsTrue answer ↔ (¬ (IsSameState old new))
union_changed old other new rose filled answer size old_tables other_tables u answer_is = (
  (λ is same. elim (or_cases rose filled (sym answer_is ∙ is)) [
    | inl up ↦ u.united.changed up (within_coarser new old (λ x y. (same.together x y).1))
    | inr more ↦ u.words.changed more
        (bits_everywhere old new old_tables
        (union_tables old other new rose filled size old_tables other_tables u)
        (sym u.united.length_same) (sym u.sites) same)
  ]),
  (λ apart. true_from_ne_false answer (λ flat.
      let parts = or_parts rose filled (sym answer_is ∙ flat) in
      apart (subst (λ (r : Regions). IsSameState old r)
      (sym (same_regions new old (u.united.unchanged parts.0) u.sites
      (u.words.unchanged parts.1))) (same_refl old)))),
)

-- ---- as the code makes it
pub union_made : (labels_len words_len : ℕ)
    (labels seen_labels labels' sites words seen_words words' : List ℕ) (old other : Regions)
    (other_labels other_words : List ℕ) (rose filled : Bool)
    → record { labels = labels; sites = sites; words = words } ≡ old → labels_len ≡ length labels
    → words_len ≡ length words → seen_labels ≡ labels → seen_words ≡ words
    → other_labels ≡ other.labels → other_words ≡ other.words
    → IsUnited seen_labels other_labels labels' rose → IsFilled seen_words other_words words' filled
    → IsUnion old other (record {
      labels = written labels_len labels' labels;
      sites = sites;
      words =
          written words_len words' words;
    }) rose filled
union_made labels_len words_len labels seen_labels labels' sites words seen_words words' old other
    other_labels other_words rose filled old_is labels_len_is words_len_is labels_are words_are
    other_labels_are other_words_are united filled_is =
    let u : IsUnited labels other.labels labels' rose =
    subst (λ v. IsUnited v other.labels labels' rose) labels_are
    (subst (λ v. IsUnited seen_labels v labels' rose) other_labels_are united) in
    let f : IsFilled words other.words words' filled =
    subst (λ v. IsFilled v other.words words' filled) words_are
    (subst (λ v. IsFilled seen_words v words' filled) other_words_are filled_is) in
    subst (λ (r : Regions). IsUnion r other
    (record {
      labels = written labels_len labels' labels;
      sites = sites;
      words =
          written words_len words' words;
    }) rose filled) old_is (record {
      sites = refl;
      united = subst (λ v. IsUnited labels other.labels v rose)
          (sym (refilled labels_len labels' labels labels_len_is u.length_same)) u;
      words = subst (λ v. IsFilled words other.words v filled)
          (sym (refilled words_len words' words words_len_is f.length_same)) f;
    })
