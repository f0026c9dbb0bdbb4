-- What the places of ill nodes are by the rows.
use Rattle.std.proofs.Common.{◌≡◌, ℕ, ◌+◌, ◌<◌, ◌≤◌, zero, suc, Bool, true, false, List, [], ◌∷◌}
use Rattle.std.proofs.Common.{◌++◌, ◌-◌, Option, Some, None, length, drop, refl, ap, sym, ◌∙◌}
use Rattle.std.proofs.Common.{arith}
use Rattle.std.specs.List.{slice_get}
use Rattle.std.proofs.lemmas.Bool.Decides.{nat_tests}
use Rattle.std.proofs.lemmas.Grind.{common_steps}
use Rattle.std.proofs.lemmas.List.{length_push, same_from_push}
use Rattle.std.specs.Prelude.{nat_lt}
use Rattle.sw_typing_rules.specs.Verdicts.{all_well, is_well}
use Rattle.sw_typing_rules.specs.declared.row.Row.{Row}
use Rattle.sw_typing_rules.specs.declared.row.Row.TheVariants.{Typed, Means, Ill}
use Rattle.sw_typing_steps.specs.Places.{ill_at, ill_places, ill_places_from, last_before}

pub no_places : ill_places [] ≡ []
unfolding ill_places
no_places = refl

push_from : (at : ℕ) (rows : List Row) (row : Row)
    → ill_places_from at (rows ++ row ∷ [])
    ≡ ill_places_from at rows ++ ill_at (at + length rows) row
push_from at [] row = grind (arith, common_steps)
push_from at (Typed a ty ∷ rows) row = grind (arith, push_from (at + 1) rows row)
push_from at (Means a meaning ∷ rows) row = grind (arith, push_from (at + 1) rows row)
push_from at (Ill a code unless ∷ rows) row = grind (arith, push_from (at + 1) rows row)

pub pushed_ill : (rows : List Row) (row : Row) → is_well row ≡ false
    → ill_places (rows ++ row ∷ []) ≡ ill_places rows ++ length rows ∷ []
unfolding ill_places
pushed_ill rows (Ill at code unless) e = grind (arith, push_from 0 rows (Ill at code unless))
pushed_ill rows (Typed at ty) e = cc
pushed_ill rows (Means at meaning) e = cc

pub pushed_well : (rows : List Row) (row : Row) → is_well row ≡ true
    → ill_places (rows ++ row ∷ []) ≡ ill_places rows
unfolding ill_places
pushed_well rows (Ill at code unless) e = cc
pushed_well rows (Typed at ty) e = grind (arith, common_steps, push_from 0 rows (Typed at ty))
pushed_well rows (Means at meaning) e =
    grind (arith, common_steps, push_from 0 rows (Means at meaning))

-- a place at or after `start` is last, or one of these
after_start : (start at place : ℕ) (rows : List Row) → start ≤ place → start ≤ at
    → last_before start (place ∷ ill_places_from at rows) ≡ false
after_start start at place [] p q = grind (arith, nat_tests)
after_start start at place (Typed a ty ∷ rows) p q =
    after_start start (at + 1) place rows p (omega arith)
after_start start at place (Means a meaning ∷ rows) p q =
    after_start start (at + 1) place rows p (omega arith)
after_start start at place (Ill a code unless ∷ rows) p q =
    after_start start (at + 1) at rows q (omega arith)

all_after : (start at : ℕ) (rows : List Row) → start ≤ at
    → last_before start (ill_places_from at rows) ≡ all_well rows
all_after start at [] q = refl
all_after start at (Typed a ty ∷ rows) q = all_after start (at + 1) rows (omega arith)
all_after start at (Means a meaning ∷ rows) q = all_after start (at + 1) rows (omega arith)
all_after start at (Ill a code unless ∷ rows) q = after_start start (at + 1) at rows q (omega arith)

one_before : (start place : ℕ) (places : List ℕ) → place < start
    → last_before start (place ∷ places) ≡ last_before start places
one_before start place [] p = grind (arith, nat_tests)
one_before start place (next ∷ places) p = refl

well_from : (start at : ℕ) (rows : List Row)
    → last_before (at + start) (ill_places_from at rows) ≡ all_well (drop start rows)
well_from zero at rows = all_after (at + 0) at rows (omega arith)
well_from (suc start) at [] = refl
well_from (suc start) at (Typed a ty ∷ rows) = grind (arith, well_from start (at + 1) rows)
well_from (suc start) at (Means a meaning ∷ rows) = grind (arith, well_from start (at + 1) rows)
well_from (suc start) at (Ill a code unless ∷ rows) =
    let before : at < at + suc start = omega arith in
    one_before (at + suc start) at (ill_places_from (at + 1) rows) before
    ∙ grind (arith, well_from start (at + 1) rows)

-- the last place says whether all is well from `start` on
pub well_after : (start : ℕ) (rows : List Row)
    → last_before start (ill_places rows) ≡ all_well (drop start rows)
unfolding ill_places
well_after start rows = grind (arith, well_from start 0 rows)

-- what is left of the places when the last row is taken back
pub popped_ill : (rows : List Row) (last : Row) (before : List ℕ) (place : ℕ) → is_well last ≡ false
    → ill_places (rows ++ last ∷ []) ≡ before ++ place ∷ [] → before ≡ ill_places rows
popped_ill rows last before place e same =
    sym (same_from_push (ill_places rows) before (length rows) place
    (sym (pushed_ill rows last e) ∙ same)).0

-- a place is there to take back
pub popped_none : (rows : List Row) (last : Row) → is_well last ≡ false
    → ill_places (rows ++ last ∷ []) ≡ [] → ⊥
popped_none rows last e same =
    let long = ap length (sym (pushed_ill rows last e) ∙ same) in
    omega (arith, length_push (ill_places rows) (length rows), long)

-- whether a place stands before `start`, if there is one
abbrev if_before : ℕ → Option ℕ → Bool
if_before start None = true
if_before start (Some place) = nat_lt place start

last_is : (start : ℕ) (places : List ℕ) (last : Option ℕ)
    → last ≡ slice_get places (length places - 1) → if_before start last ≡ last_before start places
last_is start [] last e = ap (if_before start) e
last_is start (place ∷ []) last e = ap (if_before start) e
last_is start (place ∷ next ∷ places) last e =
    last_is start (next ∷ places) last (e ∙ grind (arith, common_steps))

pub none_last : (start : ℕ) (places : List ℕ) → slice_get places (length places - 1) ≡ None
    → true ≡ last_before start places
none_last start places e = last_is start places None (sym e)

pub some_last : (start : ℕ) (places : List ℕ) (last : ℕ)
    → slice_get places (length places - 1) ≡ Some last
    → nat_lt last start ≡ last_before start places
some_last start places last e = last_is start places (Some last) (sym e)
