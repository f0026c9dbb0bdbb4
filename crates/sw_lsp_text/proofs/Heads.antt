-- The header that a stream begins with.
use Rattle.std.proofs.Common.{◌≡◌, ℕ, ◌+◌, ◌<◌, ◌≤◌, ◌⊎◌, inl, inr, List, Option, Some, None, arith}
use Rattle.std.proofs.Common.{◌-◌, option_map, min, refl}
use Rattle.std.proofs.lemmas.Bool.{cases_lt, le-ltb, lt-ltb}
use Rattle.std.proofs.lemmas.Bool.Decides.{nat_tests}
use Rattle.memchr.specs.Find.{FindsNeedle, OccursAt}
use Rattle.sw_lsp_text.specs.Frames.{HasNoHeader, blank_line, cut_by_head, cut_by_number}
use Rattle.sw_lsp_text.specs.declared.frame.Cut.TheVariants.{Endless, Partial, TooLong, Whole}

pub no_header : (bytes : List ℕ) → FindsNeedle bytes blank_line 0 None → HasNoHeader bytes
no_header bytes nowhere end occurs =
    absurd (nowhere end (omega arith) (omega (arith, occurs.fits)) occurs)

late : (bytes : List ℕ) (first end : ℕ) → FindsNeedle bytes blank_line 0 (Some first) → OccursAt bytes blank_line end
    → (first < end + 1) ⊎ (end + 1 ≤ first) → first ≤ end
late bytes first end found occurs (inl before) = omega arith
late bytes first end found occurs (inr past) = absurd (found.0.before end (omega arith) (omega arith) occurs)

-- no blank line is before the first
pub first_is_least : (bytes : List ℕ) (first end : ℕ) → FindsNeedle bytes blank_line 0 (Some first)
    → OccursAt bytes blank_line end → first ≤ end
first_is_least bytes first end found occurs = late bytes first end found occurs (cases_lt first (end + 1))

pub late_header : (bytes : List ℕ) (first : ℕ) → FindsNeedle bytes blank_line 0 (Some first) → 1024 < first + 4
    → HasNoHeader bytes
late_header bytes first found past end occurs =
    let least = first_is_least bytes first end found occurs in omega arith

-- a number that is capped, and the number that it was
pub capped_from : (o : Option ℕ) (n : ℕ) → Some n ≡ option_map (λ m. min m 16777217) o
    → (m : ℕ) × (o ≡ Some m) × (n ≡ min m 16777217)
capped_from None n e = cc
capped_from (Some m) n e = (m, refl, cc)

pub none_from : (o : Option ℕ) → None ≡ option_map (λ m. min m 16777217) o → o ≡ None
none_from None e = refl
none_from (Some m) e = cc

module _ (len header m n : ℕ) (is : n ≡ min m 16777217) where
  pub too_long : 16777216 < n → TooLong header ≡ cut_by_number len header (Some m)
  too_long past = grind (arith, nat_tests)

  pub partial : n ≤ 16777216 → header ≤ len → len - header < n → Partial ≡ cut_by_number len header (Some m)
  partial short came lacks = grind (arith, nat_tests)

  pub whole : n ≤ 16777216 → header ≤ len → n ≤ len - header → Whole header n ≡ cut_by_number len header (Some m)
  whole short came fits = grind (arith, nat_tests)

pub short_cut : (len : ℕ) → len < 1024 → Partial ≡ cut_by_head len None
short_cut len short = rw (lt-ltb len 1024 short)

pub long_cut : (len : ℕ) → 1024 ≤ len → Endless ≡ cut_by_head len None
long_cut len long = rw (le-ltb len 1024 long)
