-- The order of breaches.
use Rattle.std.specs.declared.cmp.Ordering.{Ordering}
use Rattle.std.specs.Prelude.{◌≡◌, List, [], Option, false, All, Contains, MatchOption}
use Rattle.std.specs.Ordering.{is_lt, nat_cmp, ordering_then}
use Rattle.sw_decl_words.specs.declared.placed.Placed.{Placed}

-- by position, then by code
abbrev pub placed_cmp : Placed → Placed → Ordering
placed_cmp one other = ordering_then (nat_cmp one.at other.at) (nat_cmp one.code other.code)

-- the first of the breaches, where there are any
abbrev pub IsFirstPlaced : List Placed → Option Placed → Type 0
IsFirstPlaced found first = MatchOption first (found ≡ []) (λ one. Contains found one
    × All (λ other. is_lt (placed_cmp other one) ≡ false) found)
