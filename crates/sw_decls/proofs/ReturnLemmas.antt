-- Which numbers lead back to themselves, by paths that go through numbers below a bound alone: with
-- a bound one higher, a path may also go to that number and on from there.
use Rattle.std.proofs.Common.{◌≡◌, ◌↔◌, ℕ, zero, suc, ◌+◌, ◌<◌, ◌⊎◌, inl, inr, Bool, true, false}
use Rattle.std.proofs.Common.{◌&&◌, ◌||◌, List, [], ◌∷◌, length, get_or, nat_eq, Contains}
use Rattle.std.proofs.Common.{refl, ap, sym, subst, ◌∙◌, arith}
use Rattle.std.proofs.lemmas.Bool.{eq-eqb, eqb-true, cases_lt, false≢true}
use Rattle.sw_types.specs.Paths.{Path, one, more}
use Rattle.sw_types.proofs.Searching.{marks_beyond, path_begins}

either : (a b : Bool) → a || b ≡ true → (a ≡ true) ⊎ (b ≡ true)
either true b is = inl refl
either false b is = inr is

both : (a b : Bool) → a && b ≡ true → (a ≡ true) × (b ≡ true)
both true b is = (refl, is)
both false b is = absurd (false≢true is)

left : (a b : Bool) → a ≡ true → a || b ≡ true
left true b is = refl
left false b is = absurd (false≢true is)

right : (a b : Bool) → b ≡ true → a || b ≡ true
right true b is = refl
right false b is = is

with_both : (a b : Bool) → a ≡ true → b ≡ true → a && b ≡ true
with_both true b first second = second
with_both false b first second = absurd (false≢true first)

-- whether a number is in a list
abbrev has : List ℕ → ℕ → Bool
has [] b = false
has (x ∷ xs) b = nat_eq x b || has xs b

contains_from_has : (xs : List ℕ) (b : ℕ) → has xs b ≡ true → Contains xs b
contains_from_has [] b is = absurd (false≢true is)
contains_from_has (x ∷ xs) b is = elim (either (nat_eq x b) (has xs b) is) [
  | inl here ↦ (0, (omega arith), eqb-true x b here)
  | inr later ↦ (let rest = contains_from_has xs b later in
      (suc rest.0, (omega (arith, rest.1)), rest.2))
]

has_from_contains : (xs : List ℕ) (b : ℕ) → Contains xs b → has xs b ≡ true
has_from_contains [] b (k, lt, e) = absurd (omega arith)
has_from_contains (x ∷ xs) b (zero, lt, e) = left (nat_eq x b) (has xs b) (eq-eqb x b e)
has_from_contains (x ∷ xs) b (suc k, lt, e) =
    right (nat_eq x b) (has xs b) (has_from_contains xs b (k, (omega arith), e))

module _ (edges : List (List ℕ)) where
  -- whether a path leads from one number to another through numbers below a bound alone
  abbrev leads_below : ℕ → ℕ → ℕ → Bool
  leads_below zero a b = has (get_or edges a []) b
  leads_below (suc n) a b =
      leads_below n a b || (leads_below n a n && leads_below n n b)

  -- two paths, one after the other
  joined : (a b c : ℕ) → Path edges a b → Path edges b c → Path edges a c
  joined a b c path (one d leads) = more b d path leads
  joined a b c path (more d e rest leads) = more d e (joined a b d path rest) leads

  path_below : (n a b : ℕ) → leads_below n a b ≡ true → Path edges a b
  path_below zero a b is = one b (contains_from_has (get_or edges a []) b is)
  path_below (suc n) a b is =
      elim (either (leads_below n a b) (leads_below n a n && leads_below n n b) is) [
        | inl low ↦ path_below n a b low
        | inr through ↦ (
            let halves = both (leads_below n a n) (leads_below n n b) through in
            joined a n b (path_below n a n halves.0) (path_below n n b halves.1)
            )
      ]

  -- a higher bound bars no path
  higher : (n a b : ℕ) → has (get_or edges a []) b ≡ true → leads_below n a b ≡ true
  higher zero a b is = is
  higher (suc n) a b is =
      left (leads_below n a b) (leads_below n a n && leads_below n n b) (higher n a b is)

  through : (n a b : ℕ) → leads_below n a n ≡ true → leads_below n n b ≡ true
      → leads_below (suc n) a b ≡ true
  through n a b to from =
      right (leads_below n a b) (leads_below n a n && leads_below n n b)
      (with_both (leads_below n a n) (leads_below n n b) to from)

  -- a path to the bound itself, or from there, goes through numbers below it
  to_bound : (n a : ℕ) → leads_below (suc n) a n ≡ true → leads_below n a n ≡ true
  to_bound n a is =
      elim (either (leads_below n a n) (leads_below n a n && leads_below n n n) is) [
        | inl low ↦ low
        | inr halves ↦ (both (leads_below n a n) (leads_below n n n) halves).0
      ]

  from_bound : (n b : ℕ) → leads_below (suc n) n b ≡ true → leads_below n n b ≡ true
  from_bound n b is =
      elim (either (leads_below n n b) (leads_below n n n && leads_below n n b) is) [
        | inl low ↦ low
        | inr halves ↦ (both (leads_below n n n) (leads_below n n b) halves).1
      ]

  -- paths below a bound meet in numbers below it
  meet : (n a c b : ℕ) → c < n → leads_below n a c ≡ true → leads_below n c b ≡ true
      → leads_below n a b ≡ true
  meet zero a c b lt to from = absurd (omega arith)
  meet (suc n) a c b lt to from = elim (cases_lt c n) [
    | inr le ↦ (
        let is : c ≡ n = omega arith in
        through n a b (to_bound n a (subst (λ m. leads_below (suc n) a m ≡ true) is to))
        (from_bound n b (subst (λ m. leads_below (suc n) m b ≡ true) is from))
        )
    | inl below ↦
        elim (either (leads_below n a c) (leads_below n a n && leads_below n n c) to) [
          | inl low ↦
              elim (either (leads_below n c b) (leads_below n c n && leads_below n n b) from) [
                | inl high ↦ left (leads_below n a b) (leads_below n a n && leads_below n n b)
                    (meet n a c b below low high)
                | inr halves ↦ (
                    let parts = both (leads_below n c n) (leads_below n n b) halves in
                    through n a b (meet n a c n below low parts.0) parts.1
                    )
              ]
          | inr before ↦ (
              let first = both (leads_below n a n) (leads_below n n c) before in
              elim (either (leads_below n c b) (leads_below n c n && leads_below n n b) from) [
                | inl high ↦ through n a b first.0 (meet n n c b below first.1 high)
                | inr halves ↦
                    through n a b first.0 (both (leads_below n c n) (leads_below n n b) halves).1
              ]
              )
        ]
  ]

  below_path : (a b : ℕ) → Path edges a b → leads_below (length edges) a b ≡ true
  below_path a b (one c leads) =
      higher (length edges) a c (has_from_contains (get_or edges a []) c leads)
  below_path a b (more c d path leads) =
      meet (length edges) a c d (path_begins edges c d (one d leads)) (below_path a c path)
      (higher (length edges) c d (has_from_contains (get_or edges c []) d leads))

  -- whether a number leads back to itself
  abbrev returns : ℕ → Bool
  returns k = leads_below (length edges) k k

  -- the answers for the first n numbers
  abbrev answers : ℕ → ℕ → List Bool
  answers zero from = []
  answers (suc count) from = returns from ∷ answers count (from + 1)

  length_answers : (count from : ℕ) → length (answers count from) ≡ count
  length_answers zero from = refl
  length_answers (suc count) from = ap suc (length_answers count (from + 1))

  answer_at : (count from k n : ℕ) → k < count → n ≡ from + k
      → get_or (answers count from) k false ≡ returns n
  answer_at zero from k n lt is = absurd (omega arith)
  answer_at (suc count) from zero n lt is = ap returns (omega arith)
  answer_at (suc count) from (suc k) n lt is =
      answer_at count (from + 1) k n (omega arith) (omega arith)

  -- the numbers that lead back to themselves can be marked
  pub returning_marks : (marks : List Bool)
      × ((k : ℕ) → (get_or marks k false ≡ true) ↔ Path edges k k)
  returning_marks =
      let all = answers (length edges) 0 in (
        all,
        marks_beyond edges all (length_answers (length edges) 0) (λ k lt.
            let same = answer_at (length edges) 0 k k lt (omega arith) in (
              λ marked. path_below (length edges) k k (sym same ∙ marked),
              λ path. same ∙ below_path k k path,
            )),
      )
