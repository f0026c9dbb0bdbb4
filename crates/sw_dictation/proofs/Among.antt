-- The first numbers of a list, tried one after the other.
use Rattle.std.proofs.Common.{◌≡◌, ℕ, ◌+◌, ◌<◌, ◌≤◌, ◌⊎◌, inl, inr, List, ◌++◌, length, take, drop}
use Rattle.std.proofs.Common.{max}
use Rattle.std.proofs.Common.{eqb, slice_index, Contains, refl, sym, subst, ap, ◌∙◌, arith}
use Rattle.std.proofs.lemmas.Bool.{cases_eq, cases_lt}
use Rattle.std.proofs.lemmas.List.{take-append-drop, get_or_default}
use Rattle.std.proofs.lemmas.List.Elements.{Contains-get_or}
use Rattle.std.proofs.lemmas.List.Sums.{common_prefix_len-le}
use Rattle.sw_dictation.specs.Numbers.{spelled, common_len, BeginsWith, IsOffered, IsSaid, IsNone}
use Rattle.sw_dictation.proofs.Sharing.{shared}

common_within : (xs ys : List ℕ) → common_len xs ys ≤ length xs
common_within xs ys = (common_prefix_len-le (λ (x : ℕ) (y : ℕ). eqb x y) xs ys).0

-- the numbers of a list, closed by one byte
abbrev pub IsOf : List ℕ → ℕ → ℕ → ℕ → Type 0
IsOf numbers closer n c = (c ≡ closer) × Contains numbers n

-- some number that is offered has this much in common with the bytes
abbrev IsOfOne : (ℕ → ℕ → Type 0) → List ℕ → ℕ → Type 0
IsOfOne Offered bytes at = (at ≡ 0) ⊎ ((n closer : ℕ) × Offered n closer
    × ((more : List ℕ) × (spelled n closer ≡ take at bytes ++ more)))

pub record IsMost (numbers : List ℕ) (closer : ℕ) (bytes : List ℕ) (count most : ℕ) : Type 0 where
  pub within : most ≤ length bytes
  pub none : (k : ℕ) → k < count → ¬ (BeginsWith (slice_index numbers k) closer bytes)
  pub some : IsOfOne (IsOf numbers closer) bytes most
  pub longest : (k : ℕ) → k < count
      → common_len bytes (spelled (slice_index numbers k) closer) ≤ most

pub most_starts : (numbers : List ℕ) (closer : ℕ) (bytes : List ℕ)
    → IsMost numbers closer bytes 0 0
most_starts numbers closer bytes = record {
  within = omega arith;
  none = λ k lt. absurd (omega (arith, lt));
  some = inl refl;
  longest = λ k lt. absurd (omega (arith, lt));
}

of_one : (numbers : List ℕ) (closer : ℕ) (bytes : List ℕ) (n : ℕ) → Contains numbers n
    → IsOfOne (IsOf numbers closer) bytes (common_len bytes (spelled n closer))
of_one numbers closer bytes n has =
    let at = common_len bytes (spelled n closer) in
    inr (
      n,
      closer,
      (refl, has),
      (
        drop at (spelled n closer),
        sym (take-append-drop at (spelled n closer))
            ∙ ap (λ l. l ++ drop at (spelled n closer)) (sym (shared bytes (spelled n closer))),
      ),
    )

pub most_more : (numbers : List ℕ) (closer : ℕ) (bytes : List ℕ) (count most n met : ℕ)
    → IsMost numbers closer bytes count most → count < length numbers
    → n ≡ slice_index numbers count → met ≡ common_len bytes (spelled n closer)
    → ¬ (BeginsWith n closer bytes) → IsMost numbers closer bytes (count + 1) (max most met)
most_more numbers closer bytes count most n met is inside at same not = record {
  within = omega (arith, is.within, common_within bytes (spelled n closer), same);
  none = λ k lt. elim (cases_eq k count) [
    | inl e ↦ subst (λ v. ¬ (BeginsWith v closer bytes))
        (at ∙ ap (slice_index numbers) (sym e)) not
    | inr ne ↦ is.none k (omega (arith, lt, ne))
  ];
  some = elim (cases_lt most met) [
    | inl rose ↦ subst (IsOfOne (IsOf numbers closer) bytes) (most_is rose)
        (of_one numbers closer bytes n
        (subst (Contains numbers) (sym at) (Contains-get_or numbers count 0 inside)))
    | inr kept ↦ (let e : most ≡ max most met = omega (arith, kept) in
        subst (IsOfOne (IsOf numbers closer) bytes) e is.some)
  ];
  longest = λ k lt. elim (cases_eq k count) [
    | inl e ↦ (let is_n : slice_index numbers k ≡ n =
        ap (slice_index numbers) e ∙ sym at in
        subst (λ v. common_len bytes (spelled v closer) ≤ max most met) (sym is_n)
        (omega (arith, same)))
    | inr ne ↦ omega (arith, is.longest k (omega (arith, lt, ne)))
  ];
}
  where
    most_is : most < met → common_len bytes (spelled n closer) ≡ max most met
    most_is rose = omega (arith, rose, same)

pub most_ends : (numbers : List ℕ) (closer : ℕ) (bytes : List ℕ) (count most : ℕ)
    → IsMost numbers closer bytes count most → length numbers ≤ count
    → IsNone (IsOf numbers closer) bytes most
most_ends numbers closer bytes count most is all = record {
  within = is.within;
  none = λ n c (c_is, (k, within, at)) begins.
      is.none k (omega (arith, within, all))
      (subst (λ v. BeginsWith v closer bytes) (sym (get_or_default numbers k 0 n within ∙ at))
      (subst (λ v. BeginsWith n v bytes) c_is begins));
  some = is.some;
  longest = λ n c (c_is, (k, within, at)).
      subst (λ v. common_len bytes (spelled n v) ≤ most) (sym c_is)
      (subst (λ v. common_len bytes (spelled v closer) ≤ most)
      (get_or_default numbers k 0 n within ∙ at) (is.longest k (omega (arith, within, all))));
}

-- two lists
pub said_first : (ending going bytes : List ℕ) (n len : ℕ) → IsSaid (IsOf ending 10) bytes n len
    → IsSaid (IsOffered ending going) bytes n len
said_first ending going bytes n len said = record {
  closer = said.closer;
  offered = inl said.offered;
  begins = said.begins;
  len_is = said.len_is;
}

pub said_second : (ending going bytes : List ℕ) (n len : ℕ) → IsSaid (IsOf going 32) bytes n len
    → IsSaid (IsOffered ending going) bytes n len
said_second ending going bytes n len said = record {
  closer = said.closer;
  offered = inr said.offered;
  begins = said.begins;
  len_is = said.len_is;
}

pub neither : (ending going bytes : List ℕ) (first second most : ℕ)
    → IsNone (IsOf ending 10) bytes first → IsNone (IsOf going 32) bytes second
    → most ≡ max first second → IsNone (IsOffered ending going) bytes most
neither ending going bytes first second most one two e = record {
  within = omega (arith, one.within, two.within, e);
  none = λ n c offered. none n c offered;
  some = elim (cases_lt first second) [
    | inl rose ↦ (let is : second ≡ most = omega (arith, rose, e) in
        subst (IsOfOne (IsOffered ending going) bytes) is (of_second two.some))
    | inr kept ↦ (let is : first ≡ most = omega (arith, kept, e) in
        subst (IsOfOne (IsOffered ending going) bytes) is (of_first one.some))
  ];
  longest = λ n c offered. longest n c offered;
}
  where
    none : (n c : ℕ) → IsOffered ending going n c → ¬ (BeginsWith n c bytes)
    none n c (inl is) = one.none n c is
    none n c (inr is) = two.none n c is

    longest : (n c : ℕ) → IsOffered ending going n c → common_len bytes (spelled n c) ≤ most
    longest n c (inl is) = omega (arith, one.longest n c is, e)
    longest n c (inr is) = omega (arith, two.longest n c is, e)

    of_first : {at : ℕ} → IsOfOne (IsOf ending 10) bytes at
        → IsOfOne (IsOffered ending going) bytes at
    of_first (inl start) = inl start
    of_first (inr (n, c, is, more)) = inr (n, c, inl is, more)

    of_second : {at : ℕ} → IsOfOne (IsOf going 32) bytes at
        → IsOfOne (IsOffered ending going) bytes at
    of_second (inl start) = inl start
    of_second (inr (n, c, is, more)) = inr (n, c, inr is, more)
