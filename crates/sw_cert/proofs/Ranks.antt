-- The pairs of a function by rank: those of the elements but `Here`, in rising order, are numbered
-- from 0 on.
use Rattle.std.proofs.Common.{◌≡◌, ◌≢◌, ℕ, zero, suc, ◌+◌, ◌-◌, ◌*◌, ◌/◌, ◌%◌, ◌<◌, ◌≤◌, inl, inr}
use Rattle.std.proofs.Common.{List, [], ◌∷◌, ◌++◌, length, slice_index, Contains, refl, sym, subst}
use Rattle.std.proofs.Common.{ap}
use Rattle.std.proofs.Common.{◌∙◌, arith}
use Rattle.std.specs.List.{AllByRecursion}
use Rattle.std.specs.List.Sorted.{IsStrictlyIncreasing}
use Rattle.std.proofs.lemmas.Bool.{cases_eq, cases_lt, cases_order}
use Rattle.std.proofs.lemmas.List.{get_or_default}
use Rattle.std.proofs.lemmas.List.Elements.{Contains-get_or}
use Rattle.std.proofs.lemmas.Nat.{div_below, div-add-mod'}
use Rattle.std.proofs.Math.Nat.{mul-le-mul_right, mod-lt}
use Rattle.sw_partition.proofs.Answering.{rising_lt}
use Rattle.sw_cert.specs.Certificate.{IsPairBefore, ArePairsRising, IsPairOf}
use Rattle.sw_cert.specs.Choices.{HasRank, RiseTo}
use Rattle.sw_cert.specs.Form.{pair_count}
use Rattle.sw_cert.specs.declared.line.Extent.{Extent}
use Rattle.sw_cert.specs.declared.line.Pair.{Pair}

-- a row that is before another ends before it
pub rows_apart : (w row other : ℕ) → row < other → row * w + w ≤ other * w
rows_apart w row other lt =
    let up : (row + 1) * w ≤ other * w = mul-le-mul_right w (omega (arith, lt)) in
    let e : (row + 1) * w ≡ row * w + w = omega arith in
    omega (arith, up, e)

pub rank_below : (extent : Extent) (pair : Pair) (rank : ℕ) → HasRank extent pair rank
    → rank < pair_count extent
rank_below extent pair rank has =
    let up = rows_apart (length extent.sites) has.row (extent.elements - 1)
    (omega (arith, has.below)) in
    omega (arith, up, has.rank_is, has.within)

pub rank_fits : (extent : Extent) (pair : Pair) (rank : ℕ) → HasRank extent pair rank
    → IsPairOf extent pair
rank_fits extent pair rank has = record {
  not_here = λ here. omega (arith, here, has.is_row);
  element = omega (arith, has.is_row, has.below);
  site = subst (Contains extent.sites) has.is_site
      (Contains-get_or extent.sites has.column 0 has.within);
}

-- the rank of a pair whose site stands at a column
pub rank_at : (extent : Extent) (pair : Pair) (column : ℕ) → IsPairOf extent pair
    → column < length extent.sites → slice_index extent.sites column ≡ pair.site → (rank : ℕ)
    → rank ≡ (pair.element - 1) * length extent.sites + column → HasRank extent pair rank
rank_at extent pair column fits within at rank is = record {
  row = pair.element - 1;
  column = column;
  is_row = (let some = fits.not_here in omega (arith, some));
  below = (let some = fits.not_here in omega (arith, some, fits.element));
  within = within;
  is_site = at;
  rank_is = is;
}

pub ranked : (extent : Extent) (pair : Pair) (column : ℕ) → pair.element ≢ 0
    → pair.element < extent.elements → column < length extent.sites
    → slice_index extent.sites column ≡ pair.site → (rank : ℕ)
    → rank ≡ (pair.element - 1) * length extent.sites + column → HasRank extent pair rank
ranked extent pair column some few within at = rank_at extent pair column (record {
  not_here = some;
  element = few;
  site = subst (Contains extent.sites) at (Contains-get_or extent.sites column 0 within);
}) within at

pub some_rank : (extent : Extent) (pair : Pair) → IsPairOf extent pair
    → (rank : ℕ) × HasRank extent pair rank
some_rank extent pair fits = by fits.site
  where
    by : Contains extent.sites pair.site → (rank : ℕ) × HasRank extent pair rank
    by (column, within, at) = (
      (pair.element - 1) * length extent.sites + column,
      rank_at extent pair column fits within
          (get_or_default extent.sites column 0 pair.site within ∙ at)
          ((pair.element - 1) * length extent.sites + column) refl,
    )

-- a pair of each rank
pub pair_at : (extent : Extent) (rank : ℕ) → rank < pair_count extent
    → (pair : Pair) × HasRank extent pair rank
pair_at extent rank lt = by (length extent.sites) refl
  where
    by : (w : ℕ) → length extent.sites ≡ w → (pair : Pair) × HasRank extent pair rank
    by zero is = absurd (omega (arith, lt, ap (λ n. (extent.elements - 1) * n) is))
    by (suc less) is =
        let w : ℕ = length extent.sites in
        let some : 0 < w = omega (arith, is) in
        let row_lt = div_below rank w (extent.elements - 1) some lt in
        let column_lt : rank % w < w = mod-lt rank some in (
          record { element = rank / w + 1; site = slice_index extent.sites (rank % w) },
          record {
            row = rank / w;
            column = rank % w;
            is_row = refl;
            below = omega (arith, row_lt);
            within = column_lt;
            is_site = refl;
            rank_is = sym (div-add-mod' rank w);
          },
        )

module _ (extent : Extent) (rises : IsStrictlyIncreasing extent.sites) where
  -- pairs rise as their ranks do
  pub ranks_rise : (one other : Pair) (r q : ℕ) → HasRank extent one r → HasRank extent other q
      → IsPairBefore one other → r < q
  ranks_rise one other r q first second (inl lt) =
      let up = rows_apart (length extent.sites) first.row second.row
      (omega (arith, lt, first.is_row, second.is_row)) in
      omega (arith, up, first.rank_is, second.rank_is, first.within)
  ranks_rise one other r q first second (inr (same, lt)) =
      let rows : first.row ≡ second.row = omega (arith, same, first.is_row, second.is_row) in
      let e : first.row * length extent.sites ≡ second.row * length extent.sites =
      ap (λ n. n * length extent.sites) rows in
      elim (cases_lt first.column second.column) [
        | inl before ↦ omega (arith, e, before, first.rank_is, second.rank_is)
        | inr ge ↦ elim (cases_eq first.column second.column) [
          | inl is ↦ (let sites = ap (slice_index extent.sites) is in
              absurd (omega (arith, lt, first.is_site, second.is_site, sites)))
          | inr ne ↦ absurd (omega (
            arith,
            lt,
            first.is_site,
            second.is_site,
            rising_lt extent.sites rises second.column first.column (omega (arith, ge, ne))
                first.within,
          ))
        ]
      ]

  pub pairs_rise : (one other : Pair) (r q : ℕ) → HasRank extent one r → HasRank extent other q
      → r < q → IsPairBefore one other
  pairs_rise one other r q first second lt = elim (cases_order first.row second.row) [
    | inl rows ↦ (
        let e = ap (λ n. n * length extent.sites) rows in
        let columns : first.column < second.column =
        omega (arith, lt, first.rank_is, second.rank_is, e) in
        inr (
          omega (arith, rows, first.is_row, second.is_row),
          omega (
            arith,
            first.is_site,
            second.is_site,
            rising_lt extent.sites rises first.column second.column columns second.within,
          ),
        )
        )
    | inr apart ↦ elim apart [
      | inl before ↦ inl (omega (arith, before, first.is_row, second.is_row))
      | inr behind ↦ (let down = rows_apart (length extent.sites) second.row first.row behind in
          absurd (omega (arith, lt, down, first.rank_is, second.rank_is, second.within)))
    ]
  ]

-- pairs with ranks that rise from a rank on
abbrev pub RiseFrom : Extent → ℕ → List Pair → Type 0
RiseFrom extent from [] = Unit {0}
RiseFrom extent from (pair ∷ pairs) = (rank : ℕ) × (from ≤ rank) × HasRank extent pair rank
    × RiseFrom extent (rank + 1) pairs

-- there is room for them
pub room : (extent : Extent) (from : ℕ) (pairs : List Pair) → RiseFrom extent from pairs
    → from ≤ pair_count extent → from + length pairs ≤ pair_count extent
room extent from [] rise le = omega (arith, le)
room extent from (pair ∷ pairs) (rank, at, has, rest) le =
    let below = rank_below extent pair rank has in
    let later = room extent (rank + 1) pairs rest (omega (arith, below)) in
    omega (arith, at, later)

-- where there is room there are some
pub fill : (extent : Extent) (count from : ℕ) → from + count ≤ pair_count extent
    → (pairs : List Pair) × (length pairs ≡ count) × RiseFrom extent from pairs
fill extent zero from le = ([], refl, tt)
fill extent (suc count) from le =
    let first = pair_at extent from (omega (arith, le)) in
    let later = fill extent count (from + 1) (omega (arith, le)) in
    (first.0 ∷ later.0, ap suc later.1, (from, omega arith, first.1, later.2))

pub rise_fits : (extent : Extent) (from : ℕ) (pairs : List Pair) → RiseFrom extent from pairs
    → AllByRecursion (IsPairOf extent) pairs
rise_fits extent from [] rise = tt
rise_fits extent from (pair ∷ pairs) (rank, at, has, rest) =
    (rank_fits extent pair rank has, rise_fits extent (rank + 1) pairs rest)

pub rise_rising : (extent : Extent) → IsStrictlyIncreasing extent.sites → (from : ℕ)
    (pairs : List Pair) → RiseFrom extent from pairs → ArePairsRising pairs
rise_rising extent rises from [] rise = tt
rise_rising extent rises from (pair ∷ []) rise = tt
rise_rising extent rises from (pair ∷ other ∷ pairs) (rank, at, has, (next, on, has_too, rest)) = (
  pairs_rise extent rises pair other rank next has has_too (omega (arith, on)),
  rise_rising extent rises (rank + 1) (other ∷ pairs) (next, on, has_too, rest),
)

-- pairs that rise have ranks that do
ranks_from : (extent : Extent) → IsStrictlyIncreasing extent.sites → (pair : Pair) (rank : ℕ)
    (pairs : List Pair) → HasRank extent pair rank → AllByRecursion (IsPairOf extent) pairs
    → ArePairsRising (pair ∷ pairs) → RiseFrom extent (rank + 1) pairs
ranks_from extent rises pair rank [] has fit rising = tt
ranks_from extent rises pair rank (other ∷ pairs) has fit rising =
    let h = some_rank extent other fit.0 in
    let lt = ranks_rise extent rises pair other rank h.0 has h.1 rising.0 in
    (h.0, omega (arith, lt), h.1, ranks_from extent rises other h.0 pairs h.1 fit.1 rising.1)

pub some_ranks : (extent : Extent) → IsStrictlyIncreasing extent.sites → (pairs : List Pair)
    → AllByRecursion (IsPairOf extent) pairs → ArePairsRising pairs → RiseFrom extent 0 pairs
some_ranks extent rises [] fit rising = tt
some_ranks extent rises (pair ∷ pairs) fit rising =
    let h = some_rank extent pair fit.0 in
    (h.0, omega arith, h.1, ranks_from extent rises pair h.0 pairs h.1 fit.1 rising)

-- ---- pairs of which the first are known
-- a pair has one rank
pub one_rank : (extent : Extent) → IsStrictlyIncreasing extent.sites → (pair : Pair) (r q : ℕ)
    → HasRank extent pair r → HasRank extent pair q → r ≡ q
one_rank extent rises pair r q first second = elim (cases_order r q) [
  | inl e ↦ e
  | inr apart ↦ elim apart [
    | inl lt ↦ absurd (not_before (pairs_rise extent rises pair pair r q first second lt))
    | inr gt ↦ absurd (not_before (pairs_rise extent rises pair pair q r second first gt))
  ]
]
  where
    not_before : IsPairBefore pair pair → ⊥
    not_before (inl lt) = omega (arith, lt)
    not_before (inr (e, lt)) = omega (arith, lt)

pub rise_both : (extent : Extent) (from : ℕ) (known more : List Pair) (to : ℕ)
    → RiseTo extent from known to → RiseFrom extent to more
    → RiseFrom extent from (known ++ more)
rise_both extent from [] more to e rise = subst (λ r. RiseFrom extent r more) e rise
rise_both extent from (pair ∷ known) more to (rank, at, has, rest) rise =
    (rank, at, has, rise_both extent (rank + 1) known more to rest rise)

pub rise_behind : (extent : Extent) → IsStrictlyIncreasing extent.sites → (from : ℕ)
    (known more : List Pair) (to : ℕ) → RiseTo extent from known to
    → RiseFrom extent from (known ++ more) → RiseFrom extent to more
rise_behind extent rises from [] more to e rise = subst (λ r. RiseFrom extent r more) (sym e) rise
rise_behind extent rises from (pair ∷ known) more to (rank, at, has, rest)
    (other, on, has_too, later) =
    let same = one_rank extent rises pair other rank has_too has in
    rise_behind extent rises (rank + 1) known more to rest
    (subst (λ r. RiseFrom extent (r + 1) (known ++ more)) same later)

pub rise_push : (extent : Extent) (from : ℕ) (known : List Pair) (to : ℕ) (pair : Pair) (rank : ℕ)
    → RiseTo extent from known to → to ≤ rank → HasRank extent pair rank
    → RiseTo extent from (known ++ pair ∷ []) (rank + 1)
rise_push extent from [] to pair rank e le has = (rank, omega (arith, e, le), has, refl)
rise_push extent from (first ∷ known) to pair rank (r, at, has_first, rest) le has =
    (r, at, has_first, rise_push extent (r + 1) known to pair rank rest le has)
