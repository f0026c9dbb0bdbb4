-- Breaches in order, of which the first of each position and code are kept.
use Rattle.std.proofs.Common.{◌≡◌, ℕ, suc, ◌+◌, ◌<◌, ◌≤◌, ◌⊎◌, inl, inr, ◌↔◌, Bool, true, false}
use Rattle.std.proofs.Common.{cond, eqb, Option, Some, None, List, [], ◌∷◌, Contains, get_or, refl}
use Rattle.std.proofs.Common.{sym, subst, ◌∙◌, arith}
use Rattle.std.proofs.lemmas.Bool.{and_parts, and_from, eqb-true, eq-eqb, both_ways}
use Rattle.std.proofs.lemmas.Cmp.{ranked}
use Rattle.std.proofs.lemmas.List.Elements.{Contains-get_or}
use Rattle.std.proofs.lemmas.List.Kept.{AllPairs-cons}
use Rattle.std.proofs.lemmas.List.Sorted.{sorted_far}
use Rattle.std.specs.Cmp.{IsStrictWeakOrder}
use Rattle.std.specs.List.{All, AllPairs, dedup, dedup_from}
use Rattle.std.specs.List.Sorted.{IsSorted}
use Rattle.std.specs.Option.{option_cmp}
use Rattle.std.specs.Ordering.{MatchOrdering, is_lt, nat_cmp, ordering_then}
use Rattle.std.specs.declared.cmp.Ordering.{Ordering}
use Rattle.std.specs.declared.cmp.Ordering.TheVariants.{Less, Equal, Greater}
use Rattle.sw_breach.specs.Order.{breach_cmp}
use Rattle.sw_breach.specs.declared.Breach.{Breach}
use Rattle.sw_region_flow.proofs.OneSites.{member_cases, member_first, member_later, no_member}
use Rattle.sw_graph.specs.declared.graph.Graph.{Graph}
use Rattle.sw_region_flow.specs.Breaches.{AreAll, AreBreaches, IsBefore, IsBreachOf}
use Rattle.sw_region_flow.specs.Breaches.{IsNoteAtMost, StandsFor}
use Rattle.sw_region_flow.specs.Listing.{is_alike}

-- what two orders, one after the other, answer
then_up : (c d : Ordering) → is_lt (ordering_then c d) ≡ false
    → (c ≡ Greater) ⊎ ((c ≡ Equal) × (is_lt d ≡ false))
then_up Less d e = cc
then_up Equal d e = inr (refl, e)
then_up Greater d e = inl refl

then_greater : (c d : Ordering) → ordering_then c d ≡ Greater
    → (c ≡ Greater) ⊎ ((c ≡ Equal) × (d ≡ Greater))
then_greater Less d e = cc
then_greater Equal d e = inr (refl, e)
then_greater Greater d e = inl refl

then_equal : (c d : Ordering) → ordering_then c d ≡ Equal → (c ≡ Equal) × (d ≡ Equal)
then_equal Less d e = cc
then_equal Equal d e = (refl, e)
then_equal Greater d e = cc

nat_greater : (x y : ℕ) → nat_cmp x y ≡ Greater → y < x
nat_greater x y e = subst (λ o. MatchOrdering o (x < y) (x ≡ y) (y < x)) e
    (ranked x y (nat_cmp x y) refl)

nat_equal : (x y : ℕ) → nat_cmp x y ≡ Equal → x ≡ y
nat_equal x y e = subst (λ o. MatchOrdering o (x < y) (x ≡ y) (y < x)) e
    (ranked x y (nat_cmp x y) refl)

nat_up : (x y : ℕ) (o : Ordering) → o ≡ nat_cmp x y → is_lt o ≡ false → y ≤ x
nat_up x y Less e up = cc
nat_up x y Equal e up = let h : x ≡ y = ranked x y Equal e in omega arith
nat_up x y Greater e up = let h : y < x = ranked x y Greater e in omega arith

note_up : (other one : Option ℕ) → is_lt (option_cmp nat_cmp other one) ≡ false
    → IsNoteAtMost one other
note_up other None e = tt
note_up None (Some y) e = cc
note_up (Some x) (Some y) e = nat_up x y (nat_cmp x y) refl e

-- the first isn't after the second
abbrev pub IsUpTo : Breach → Breach → Type 0
IsUpTo one other = is_lt (breach_cmp other one) ≡ false

-- then it is before it, or the two are at one place with one code
abbrev pub IsBeforeOrAlike : Breach → Breach → Type 0
IsBeforeOrAlike one other = IsBefore one other ⊎ StandsFor one other

by_place : (one other : Breach)
    → ordering_then (nat_cmp other.at one.at) (nat_cmp other.code one.code) ≡ Greater
    → IsBefore one other
by_place one other e =
    elim (then_greater (nat_cmp other.at one.at) (nat_cmp other.code one.code) e) [
      | inl at ↦ inl (nat_greater other.at one.at at)
      | inr code ↦ inr (
        sym (nat_equal other.at one.at code.0),
        nat_greater other.code one.code code.1,
      )
    ]

up_to : (one other : Breach) → IsUpTo one other → IsBeforeOrAlike one other
up_to one other up =
    elim (then_up (ordering_then (nat_cmp other.at one.at) (nat_cmp other.code one.code))
    (option_cmp nat_cmp other.note one.note) up) [
      | inl e ↦ inl (by_place one other e)
      | inr e ↦
          let both = then_equal (nat_cmp other.at one.at) (nat_cmp other.code one.code) e.0 in
          inr (record {
            at = sym (nat_equal other.at one.at both.0);
            code = sym (nat_equal other.code one.code both.1);
            note = note_up other.note one.note e.1;
          })
    ]

note_trans : (a b c : Option ℕ) → IsNoteAtMost a b → IsNoteAtMost b c → IsNoteAtMost a c
note_trans None b c first second = tt
note_trans (Some x) None c first second = absurd first
note_trans (Some x) (Some y) None first second = absurd second
note_trans (Some x) (Some y) (Some z) first second = omega arith

pub stands_itself : (b : Breach) → StandsFor b b
stands_itself b = record { at = refl; code = refl; note = itself b.note }
  where
    itself : (o : Option ℕ) → IsNoteAtMost o o
    itself None = tt
    itself (Some x) = omega arith

pub stands_trans : (a b c : Breach) → StandsFor a b → StandsFor b c → StandsFor a c
stands_trans a b c first second = record {
  at = first.at ∙ second.at;
  code = first.code ∙ second.code;
  note = note_trans a.note b.note c.note first.note second.note;
}

pub before_later : (a b c : Breach) → IsBefore a b → IsBeforeOrAlike b c → IsBefore a c
before_later a b c (inl at) (inl (inl at_too)) = inl (omega arith)
before_later a b c (inl at) (inl (inr code)) = inl (omega (arith, code.0))
before_later a b c (inl at) (inr alike) = inl (omega (arith, alike.at))
before_later a b c (inr code) (inl (inl at)) = inl (omega (arith, code.0))
before_later a b c (inr code) (inl (inr code_too)) =
    inr (code.0 ∙ code_too.0, omega (arith, code.1, code_too.1))
before_later a b c (inr code) (inr alike) =
    inr (code.0 ∙ alike.at, omega (arith, code.1, alike.code))

-- each breach is up to those after it
abbrev pub IsOrdered : List Breach → Type 0
IsOrdered [] = Unit {0}
IsOrdered (b ∷ bs) = ((other : Breach) → Contains bs other → IsUpTo b other) × IsOrdered bs

pub ordered : IsStrictWeakOrder (λ x y. is_lt (breach_cmp x y)) → (bs : List Breach)
    → IsSorted breach_cmp bs → IsOrdered bs
ordered order [] sorted = tt
ordered order (b ∷ bs) sorted = (
  λ other has. subst (λ x. is_lt (breach_cmp x b) ≡ false) has.2
      (sorted_far (λ x y. is_lt (breach_cmp x y)) order (b ∷ bs) sorted 0 (suc has.0) other
      (omega arith) (omega (arith, has.1))),
  ordered order bs (λ k d low within.
      let next : suc k + 1 ≡ suc (k + 1) = omega arith in
      subst (λ n. is_lt (breach_cmp (get_or (b ∷ bs) n d) (get_or bs k d)) ≡ false) next
      (sorted (suc k) d (omega arith) (omega arith))),
)

alike_true : (one other : Breach) → is_alike one other ≡ true
    → (one.at ≡ other.at) × (one.code ≡ other.code)
alike_true one other e = let h = and_parts (eqb one.at other.at) (eqb one.code other.code) e in
    (eqb-true one.at other.at h.0, eqb-true one.code other.code h.1)

alike_from : (one other : Breach) → one.at ≡ other.at → one.code ≡ other.code
    → is_alike one other ≡ true
alike_from one other at code = and_from (eqb one.at other.at) (eqb one.code other.code)
    (eq-eqb one.at other.at at) (eq-eqb one.code other.code code)

-- two that aren't alike stand one before the other
apart : (one other : Breach) → is_alike other one ≡ false → IsUpTo one other → IsBefore one other
apart one other differ up = elim (up_to one other up) [
  | inl before ↦ before
  | inr alike ↦ absurd (both_ways (is_alike other one) differ
      (alike_from other one (sym alike.at) (sym alike.code)))
]

stands : (one other : Breach) → is_alike other one ≡ true → IsUpTo one other → StandsFor one other
stands one other same up = elim (up_to one other up) [
  | inl before ↦ let h = alike_true other one same in absurd (never one other h.0 h.1 before)
  | inr alike ↦ alike
]
  where
    never : (one other : Breach) → other.at ≡ one.at → other.code ≡ one.code → IsBefore one other
        → ⊥
    never one other at code (inl lt) = omega arith
    never one other at code (inr lt) = omega (arith, lt.1)

-- what is kept of a breach and those after it
pub kept_from : (k : Breach) (bs : List Breach) (b : Breach)
    → Contains (dedup_from is_alike k bs) b → (b ≡ k) ⊎ Contains bs b
kept_from k [] b has = member_cases k [] b has
kept_from k (x ∷ bs) b has =
    by (is_alike x k) (λ found. kept_from k bs b found) (λ found. kept_from x bs b found) has
  where
    by : (same : Bool)
        → (Contains (dedup_from is_alike k bs) b → (b ≡ k) ⊎ Contains bs b)
        → (Contains (dedup_from is_alike x bs) b → (b ≡ x) ⊎ Contains bs b)
        → Contains (cond same (dedup_from is_alike k bs) (k ∷ dedup_from is_alike x bs)) b
        → (b ≡ k) ⊎ Contains (x ∷ bs) b
    by true from_k from_x has = elim (from_k has) [
      | inl e ↦ inl e
      | inr later ↦ inr (member_later x bs b later)
    ]
    by false from_k from_x has = elim (member_cases k (dedup_from is_alike x bs) b has) [
      | inl e ↦ inl e
      | inr rest ↦ elim (from_x rest) [
        | inl e ↦ inr (subst (λ y. Contains (x ∷ bs) y) (sym e) (member_first x bs))
        | inr later ↦ inr (member_later x bs b later)
      ]
    ]

-- the ordered list without its second element
skip : (k x : Breach) (bs : List Breach) → IsOrdered (k ∷ x ∷ bs) → IsOrdered (k ∷ bs)
skip k x bs up = (λ other has. up.0 other (member_later x bs other has), up.1.1)

abbrev pub Stood : List Breach → Breach → Type 0
Stood list b = (kept : Breach) × Contains list kept × StandsFor kept b

stood_later : (k : Breach) (list : List Breach) (b : Breach) → Stood list b → Stood (k ∷ list) b
stood_later k list b h = (h.0, member_later k list h.0 h.1, h.2)

pub each_from : (k : Breach) (bs : List Breach) (b : Breach) → IsOrdered (k ∷ bs)
    → Contains (k ∷ bs) b → Stood (dedup_from is_alike k bs) b
each_from k [] b up has = elim (member_cases k [] b has) [
  | inl e ↦ (k, member_first k [], subst (λ y. StandsFor k y) (sym e) (stands_itself k))
  | inr none ↦ absurd (no_member b none)
]
each_from k (x ∷ bs) b up has =
    by (is_alike x k) refl (λ c given. each_from k bs c (skip k x bs up) given)
    (λ given. each_from x bs b up.1 given)
  where
    through : is_alike x k ≡ true
        → ((c : Breach) → Contains (k ∷ bs) c → Stood (dedup_from is_alike k bs) c)
        → Stood (dedup_from is_alike k bs) b
    through same from_k = elim (member_cases k (x ∷ bs) b has) [
      | inl e ↦ from_k b (subst (λ y. Contains (k ∷ bs) y) (sym e) (member_first k bs))
      | inr rest ↦ elim (member_cases x bs b rest) [
        | inl e ↦
            let h = from_k k (member_first k bs) in (
              h.0,
              h.1,
              stands_trans h.0 k b h.2 (subst (λ y. StandsFor k y) (sym e)
                  (stands k x same (up.0 x (member_first x bs)))),
            )
        | inr later ↦ from_k b (member_later k bs b later)
      ]
    ]

    after : (Contains (x ∷ bs) b → Stood (dedup_from is_alike x bs) b)
        → Stood (k ∷ dedup_from is_alike x bs) b
    after from_x = elim (member_cases k (x ∷ bs) b has) [
      | inl e ↦ (
        k,
        member_first k (dedup_from is_alike x bs),
        subst (λ y. StandsFor k y) (sym e) (stands_itself k),
      )
      | inr rest ↦ stood_later k (dedup_from is_alike x bs) b (from_x rest)
    ]

    by : (same : Bool) → is_alike x k ≡ same
        → ((c : Breach) → Contains (k ∷ bs) c → Stood (dedup_from is_alike k bs) c)
        → (Contains (x ∷ bs) b → Stood (dedup_from is_alike x bs) b)
        → Stood (cond same (dedup_from is_alike k bs) (k ∷ dedup_from is_alike x bs)) b
    by true e from_k from_x = through e from_k
    by false e from_k from_x = after from_x

-- each is before all after it
abbrev IsRising : List Breach → Type 0
IsRising [] = Unit {0}
IsRising (b ∷ bs) = ((other : Breach) → Contains bs other → IsBefore b other) × IsRising bs

rises_from : (k : Breach) (bs : List Breach) → IsOrdered (k ∷ bs)
    → IsRising (dedup_from is_alike k bs)
rises_from k [] up = (λ other none. absurd (no_member other none), tt)
rises_from k (x ∷ bs) up =
    by (is_alike x k) refl (rises_from k bs (skip k x bs up)) (rises_from x bs up.1)
  where
    after : is_alike x k ≡ false → (other : Breach) → Contains (dedup_from is_alike x bs) other
        → IsBefore k other
    after differ other has =
        let first = apart k x differ (up.0 x (member_first x bs)) in
        elim (kept_from x bs other has) [
          | inl e ↦ subst (λ y. IsBefore k y) (sym e) first
          | inr later ↦ before_later k x other first (up_to x other (up.1.0 other later))
        ]

    by : (same : Bool) → is_alike x k ≡ same → IsRising (dedup_from is_alike k bs)
        → IsRising (dedup_from is_alike x bs)
        → IsRising (cond same (dedup_from is_alike k bs) (k ∷ dedup_from is_alike x bs))
    by true e from_k from_x = from_k
    by false e from_k from_x = (after e, from_x)

pairs : (bs : List Breach) → IsRising bs → AllPairs IsBefore bs
pairs [] rising = λ i j d lt within. absurd (omega arith)
pairs (b ∷ bs) rising = AllPairs-cons IsBefore b bs (all_before b bs rising.0) (pairs bs rising.1)
  where
    all_before : (b : Breach) (bs : List Breach)
        → ((other : Breach) → Contains bs other → IsBefore b other) → All (IsBefore b) bs
    all_before b bs before = λ k d within. before (get_or bs k d) (Contains-get_or bs k d within)

-- the three facts of a list that is ordered and then kept
pub each_kept : (bs : List Breach) (b : Breach) → IsOrdered bs → Contains bs b
    → Stood (dedup is_alike bs) b
each_kept [] b up has = absurd (no_member b has)
each_kept (k ∷ bs) b up has = each_from k bs b up has

pub only_kept : (bs : List Breach) (b : Breach) → Contains (dedup is_alike bs) b → Contains bs b
only_kept [] b has = has
only_kept (k ∷ bs) b has = elim (kept_from k bs b has) [
  | inl e ↦ subst (λ y. Contains (k ∷ bs) y) (sym e) (member_first k bs)
  | inr later ↦ member_later k bs b later
]

pub rises : (bs : List Breach) → IsOrdered bs → AllPairs IsBefore (dedup is_alike bs)
rises [] up = pairs [] tt
rises (k ∷ bs) up = pairs (dedup_from is_alike k bs) (rises_from k bs up)

pub in_order_facts : IsStrictWeakOrder (λ x y. is_lt (breach_cmp x y))
    → (list sorted kept : List Breach) → IsSorted breach_cmp sorted
    → ((b : Breach) → Contains sorted b ↔ Contains list b) → kept ≡ dedup is_alike sorted
    → AreAll (Contains list) kept
in_order_facts order list sorted kept is_sorted same e =
    subst (λ bs. AreAll (Contains list) bs) (sym e) (record {
      sound = λ b has. (same b).0 (only_kept sorted b has);
      complete = λ b has. each_kept sorted b (ordered order sorted is_sorted) ((same b).1 has);
      rising = rises sorted (ordered order sorted is_sorted);
    })

-- the list in order is that of a graph's breaches
pub are_breaches : (graph : Graph) (found list kept : List Breach) → list ≡ found
    → ((b : Breach) → Contains found b ↔ IsBreachOf graph b)
    → AreAll (Contains list) kept → AreBreaches graph kept
are_breaches graph found list kept same are is = record {
  sound = λ b has. (are b).0 (subst (λ l. Contains l b) same (is.sound b has));
  complete = λ b breaks. is.complete b (subst (λ l. Contains l b) (sym same) ((are b).1 breaks));
  rising = is.rising;
}
