-- The numbers of a line behind some of them.
use Rattle.std.proofs.Common.{◌≡◌, ℕ, ◌<◌, List, [], ◌∷◌, ◌++◌, length}
use Rattle.std.proofs.Common.{refl, sym, ap, ◌∙◌, arith}
use Rattle.std.proofs.lemmas.Grind.{flat_map-append}
use Rattle.sw_dictation.specs.Lines.{closer_before}
use Rattle.sw_cert.specs.Certificate.{pair_numbers}
use Rattle.sw_cert.specs.declared.line.Pair.{Pair}

-- a list of which some first items are known, and the next
pub next_of : (xs ys known rest : List ℕ) (n : ℕ) → length known < length xs
    → xs ++ ys ≡ known ++ n ∷ rest
    → (more : List ℕ) × (xs ≡ known ++ n ∷ more) × (rest ≡ more ++ ys)
next_of [] ys known rest n lt e = absurd (omega (arith, lt))
next_of (x ∷ xs) ys [] rest n lt e =
    let head : x ≡ n = cc in
    let tail : xs ++ ys ≡ rest = cc in
    (xs, ap (λ k. k ∷ xs) head, sym tail)
next_of (x ∷ xs) ys (k ∷ known) rest n lt e =
    let head : x ≡ k = cc in
    let tail : xs ++ ys ≡ known ++ n ∷ rest = cc in
    let h = next_of xs ys known rest n (omega (arith, lt)) tail in
    (h.0, ap (λ i. i ∷ xs) head ∙ ap (λ l. k ∷ l) h.1, h.2)

-- a list of which all items are known
pub all_known : (xs ys known rest : List ℕ) → length known ≡ length xs → xs ++ ys ≡ known ++ rest
    → (xs ≡ known) × (ys ≡ rest)
all_known [] ys [] rest same e = (refl, e)
all_known [] ys (k ∷ known) rest same e = absurd (omega (arith, same))
all_known (x ∷ xs) ys [] rest same e = absurd (omega (arith, same))
all_known (x ∷ xs) ys (k ∷ known) rest same e =
    let head : x ≡ k = cc in
    let tail : xs ++ ys ≡ known ++ rest = cc in
    let h = all_known xs ys known rest (omega (arith, same)) tail in
    (ap (λ i. i ∷ xs) head ∙ ap (λ l. k ∷ l) h.0, h.1)

-- pairs of which the first are known, and the element of the next
pub next_pair : (pairs known : List Pair) (n : ℕ) (rest : List ℕ)
    → pair_numbers pairs ≡ pair_numbers known ++ n ∷ rest
    → (next : Pair) × (more : List Pair) × (pairs ≡ known ++ next ∷ more) × (next.element ≡ n)
    × (rest ≡ next.site ∷ pair_numbers more)
next_pair [] [] n rest e = cc
next_pair [] (k ∷ known) n rest e = cc
next_pair (pair ∷ pairs) [] n rest e =
    let head : pair.element ≡ n = cc in
    let tail : pair.site ∷ pair_numbers pairs ≡ rest = cc in
    (pair, pairs, refl, head, sym tail)
next_pair (pair ∷ pairs) (k ∷ known) n rest e =
    let elements : pair.element ≡ k.element = cc in
    let sites : pair.site ≡ k.site = cc in
    let tail : pair_numbers pairs ≡ pair_numbers known ++ n ∷ rest = cc in
    let same : pair ≡ k =
    ap (λ x. record { element = x; site = pair.site }) elements
    ∙ ap (λ y. record { element = k.element; site = y }) sites in
    let h = next_pair pairs known n rest tail in
    (h.0, h.1, ap (λ p. p ∷ pairs) same ∙ ap (λ l. k ∷ l) h.2, h.3, h.4)

pub pair_numbers_split : (known more : List Pair)
    → pair_numbers (known ++ more) ≡ pair_numbers known ++ pair_numbers more
pair_numbers_split known more =
    flat_map-append (λ (p : Pair). p.element ∷ p.site ∷ []) known more

-- a blank closes a number behind which others stand
pub blank_before : (xs ys : List ℕ) (n : ℕ) → closer_before (xs ++ n ∷ ys) ≡ 32
blank_before [] ys n = refl
blank_before (x ∷ xs) ys n = refl
