-- A state has one line at a block.
use Rattle.std.proofs.Common.{◌≡◌, ℕ, zero, suc, ◌<◌, inl, inr, List, [], ◌∷◌, length, slice_index}
use Rattle.std.proofs.Common.{get_or, sym, ◌∙◌, arith}
use Rattle.std.proofs.lemmas.Grind.{same_number_lists}
use Rattle.std.proofs.lemmas.List.Kept.{AllPairs-cons}
use Rattle.std.specs.List.{AllPairs}
use Rattle.sw_partition.specs.Regions.{Regions}
use Rattle.sw_cert.proofs.Alike.{same_parts}
use Rattle.sw_cert_making.proofs.Rising.{rising_is_one}
use Rattle.sw_cert.specs.Certificate.{ArePairsRising, IsPairBefore}
use Rattle.sw_cert.specs.Shown.{AreClassesOf, ArePairsBelow, Shows}
use Rattle.sw_cert.specs.declared.line.Line.{Line}
use Rattle.sw_cert.specs.declared.line.Pair.{Pair}

one_classes : (r : Regions) (xs ys : List ℕ) → AreClassesOf r xs → AreClassesOf r ys → xs ≡ ys
one_classes r xs ys first second = same_number_lists xs ys (first.elements ∙ sym second.elements)
    (λ k lt.
    let within : k < length r.labels = omega (arith, lt, first.elements) in
    let below = first.least k (slice_index ys k) (second.class k within) in
    let above = second.least k (slice_index xs k) (first.class k within) in
    omega (arith, below, above))

-- ---- pairs in order
before_on : (a b c : Pair) → IsPairBefore a b → IsPairBefore b c → IsPairBefore a c
before_on a b c (inl first) (inl second) = inl (omega (arith, first, second))
before_on a b c (inl first) (inr second) = inl (omega (arith, first, second.0))
before_on a b c (inr first) (inl second) = inl (omega (arith, first.0, second))
before_on a b c (inr first) (inr second) =
    inr (first.0 ∙ second.0, omega (arith, first.1, second.1))

not_both : (a b : Pair) → IsPairBefore a b → IsPairBefore b a → ⊥
not_both a b (inl first) (inl second) = omega (arith, first, second)
not_both a b (inl first) (inr second) = omega (arith, first, second.0)
not_both a b (inr first) (inl second) = omega (arith, first.0, second)
not_both a b (inr first) (inr second) = omega (arith, first.1, second.1)

-- each pair is before each later one
all_before : (pairs : List Pair) → ArePairsRising pairs → AllPairs IsPairBefore pairs
all_before [] rising = λ i j d lt within. absurd (omega (arith, within))
all_before (a ∷ []) rising = λ i j d lt within. absurd (omega (arith, lt, within))
all_before (a ∷ b ∷ pairs) (before, rising) =
    let rest = all_before (b ∷ pairs) rising in
    AllPairs-cons IsPairBefore a (b ∷ pairs) (head rest) rest
  where
    head : AllPairs IsPairBefore (b ∷ pairs) → (k : ℕ) (d : Pair) → k < length (b ∷ pairs)
        → IsPairBefore a (get_or (b ∷ pairs) k d)
    head rest zero d within = before
    head rest (suc k) d within = before_on a b (get_or pairs k d) before
        (rest 0 (suc k) d (omega arith) within)

one_pairs : (r : Regions) (count : ℕ) (xs ys : List Pair) → ArePairsBelow r count xs
    → ArePairsBelow r count ys → xs ≡ ys
one_pairs r count xs ys first second = rising_is_one IsPairBefore not_both xs ys
    (all_before xs first.rising) (all_before ys second.rising)
    (λ pair has. (second.same pair).1 ((first.same pair).0 has))
    (λ pair has. (first.same pair).1 ((second.same pair).0 has))

pub one_line_shown : (a b : Line) (r : Regions) → a.function ≡ b.function → a.block ≡ b.block
    → Shows a r → Shows b r → a ≡ b
one_line_shown a b r function block first second = same_parts a b function block
    (one_classes r a.classes b.classes first.classes second.classes)
    (one_pairs r (length r.labels) a.pairs b.pairs first.pairs second.pairs)
