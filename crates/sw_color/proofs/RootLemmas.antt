-- A look-up of what is left of a number.
use Rattle.std.proofs.Common.{◌≡◌, ℕ, zero, suc, ◌<◌, ◌≤◌, List, [], length}
use Rattle.std.proofs.Common.{get_or, take, refl, ap, sym, ◌∙◌, arith, Bool, true, false}
use Rattle.std.proofs.Common.{cond, Option, Some, None, slice_get, inl}
use Rattle.std.proofs.Common.{inr}
use Rattle.std.specs.Prelude.{option_and_then, nat_lt}
use Rattle.std.proofs.lemmas.Bool.{cases_lt, ltb-true, ltb-false}
use Rattle.std.proofs.lemmas.List.{get_or-take, get_or_default, get_or_past, length-take}
use Rattle.std.proofs.lemmas.Option.{slice_get-get_or, slice_get_within, cond_some}
use Rattle.sw_color_rules.specs.Names.{name_in}
use Rattle.sw_color_rules.specs.Parents.{parent_of, parent_by, root_by, roots}
use Rattle.sw_color.proofs.BuiltLemmas.{built_length, built_at}

pub roots_length : (ps : List ℕ) → length (roots ps) ≡ length ps
unfolding roots
roots_length ps = omega (arith, built_length root_by [] ps)

roots_at : (ps : List ℕ) (i p d : ℕ) → slice_get ps i ≡ Some p
    → get_or (roots ps) i d ≡ root_by (take i (roots ps)) p
unfolding roots
roots_at ps i p d there = built_at root_by [] ps i i p d (omega arith) there

-- a number with a lower one has the name of that
pub root_low : (ps : List ℕ) (i p : ℕ) → slice_get ps i ≡ Some p → p < i
    → name_in (roots ps) i ≡ name_in (roots ps) p
root_low ps i p there low =
    let inside = slice_get_within ps i p there in
    let p_inside : p < length (roots ps) = omega (arith, roots_length ps, low, inside) in
    roots_at ps i p i there
    ∙ get_or-take i (roots ps) p (length (take i (roots ps))) low
    ∙ get_or_default (roots ps) p (length (take i (roots ps))) p p_inside

-- any other is left
pub root_high : (ps : List ℕ) (i p : ℕ) → slice_get ps i ≡ Some p → i ≤ p
    → name_in (roots ps) i ≡ i
root_high ps i p there high =
    let inside = slice_get_within ps i p there in
    let count : length (take i (roots ps)) ≡ i =
    omega (arith, length-take i (roots ps), roots_length ps, inside) in
    let past : length (take i (roots ps)) ≤ p = omega (arith, count, high) in
    roots_at ps i p i there ∙ get_or_past (take i (roots ps)) p (length (take i (roots ps))) past
    ∙ count

pub root_past : (ps : List ℕ) (i : ℕ) → length ps ≤ i → name_in (roots ps) i ≡ i
root_past ps i past =
    let beyond : length (roots ps) ≤ i = omega (arith, roots_length ps, past) in
    get_or_past (roots ps) i i beyond

-- a look-up goes on
pub climbs_on : (ps : List ℕ) (start n p : ℕ) → name_in (roots ps) n ≡ name_in (roots ps) start
    → parent_of ps n ≡ Some p → name_in (roots ps) p ≡ name_in (roots ps) start
unfolding parent_of
climbs_on ps start n p so_far up = by (slice_get ps n) refl up where
  by : (o : Option ℕ) → slice_get ps n ≡ o → option_and_then (parent_by n) o ≡ Some p
      → name_in (roots ps) p ≡ name_in (roots ps) start
  by None there h = cc
  by (Some q) there h =
      let (low, same) = cond_some (nat_lt q n) q p h in
      sym (root_low ps n p (there ∙ ap (λ x. Some x) same)
      (omega (arith, ltb-true q n low, same)))
      ∙ so_far

-- and ends
pub climbs_end : (ps : List ℕ) (n : ℕ) → parent_of ps n ≡ None → name_in (roots ps) n ≡ n
unfolding parent_of
climbs_end ps n up = elim (cases_lt n (length ps)) [
  | inl inside ↦
      by (slice_get ps n) refl (slice_get-get_or ps n 0 inside) up
  | inr past ↦ root_past ps n past
] where
  by : (o : Option ℕ) → slice_get ps n ≡ o → slice_get ps n ≡ Some (get_or ps n 0)
      → option_and_then (parent_by n) o ≡ None → name_in (roots ps) n ≡ n
  by None there inside h = cc
  by (Some q) there inside h =
      root_high ps n q there (ltb-false q n (high (nat_lt q n) h)) where
        high : (b : Bool) → cond b (Some q) None ≡ None → b ≡ false
        high true e = cc
        high false e = refl

pub climbs_start : (ps : List ℕ) (n : ℕ) → name_in (roots ps) n ≡ name_in (roots ps) n
climbs_start ps n = refl

pub ruleset climbs = (climbs_on, climbs_end)

-- a name is no higher than its number
pub name_low : (ps : List ℕ) (n i : ℕ) → i < n → name_in (roots ps) i ≤ i
name_low ps zero i below = absurd (omega arith)
name_low ps (suc n) i below = elim (cases_lt i (length ps)) [
  | inl inside ↦
      let there = slice_get-get_or ps i 0 inside in
      elim (cases_lt (get_or ps i 0) i) [
        | inl low ↦
            omega (
              arith,
              root_low ps i (get_or ps i 0) there low,
              name_low ps n (get_or ps i 0) (omega (arith, low, below)),
              low,
            )
        | inr high ↦ omega (arith, root_high ps i (get_or ps i 0) there high)
      ]
  | inr past ↦ omega (arith, root_past ps i past)
]
